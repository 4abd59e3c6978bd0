use Rattle.std.proofs.Common.{◌∙◌, ◌≡◌, ◌-◌, length, drop, length-take, length-drop, arith}
use borrow.Rule.Slice.PartMut.{same_len_mid}
use Rattle.pcapng_frames.proofs.FirstReadLemmas.{first_read_goes_on}
use Rattle.pcapng_frames.proofs.reading.read_first.Goals as goal

pub loop-came-preserved : goal.loop-came-preserved
loop-came-preserved g c =
    let same = same_len_mid c.loop-came.came (length c.loop-came.first - c.loop-came.came) c.loop-came.first c.read.new.into
    c.read.auto.into in
    let part : length c.read.new.into ≡ length c.loop-came.first - c.loop-came.came =
    omega (
      arith,
      c.read.auto.into,
      length-take (length c.loop-came.first - c.loop-came.came) (drop c.loop-came.came c.loop-came.first),
      length-drop c.loop-came.came c.loop-came.first,
    ) in
    record {
      room = same ∙ c.loop-came.invariant.room;
      fits = omega (arith, same, part, c.in_ok-count.ensures.fits, c.read.auto.into, c.loop-came.invariant.fits);
      read =
          first_read_goes_on _ _ _ c.loop-came.came c.in_ok-count.count _ c.loop-came.first c.read.new.into
          c.loop-came.invariant.fits (omega (arith, c.in_ok-count.ensures.fits, c.read.auto.into)) c.loop-came.invariant.read
          c.in_ok-count.ensures.first_bytes.0;
      kept = omega (arith, c.loop-came.invariant.kept, c.in_ok-count.ensures.cause.kept);
    }
