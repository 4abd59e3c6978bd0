-- What is written is the capture of the frames so far, and the other frames follow.
use Rattle.std.proofs.Common.{◌≡◌, ◌+◌, ◌-◌, ◌++◌, ◌∙◌, ap, arith, refl, subst, sym}
use Rattle.std.specs.Io.KnownBytes.{Appends}
use Rattle.std.proofs.KnownBytes.{Appends-trans}
use Rattle.outside_io.specs.{AppendsPart}
use Rattle.traffic_maker.specs.Making.{capture_header, made_capture, capture_frames}
use Rattle.traffic_maker.proofs.MadeFrameLemmas.{capture_of_no_made_frames, capture_of_more_made_frames}
use Rattle.traffic_maker.proofs.CapturePieceLemmas.{begins_in_later_capture_piece, begins_in_first_capture_piece}
use Rattle.traffic_maker.proofs.CapturePieceLemmas.{holds_on_capture_piece_error}
use Rattle.traffic_maker.proofs.making.make.Goals as goal

pub returns-in_err-write_all-clause-beginning : goal.returns-in_err-write_all-clause-beginning
unfolding capture_header
returns-in_err-write_all-clause-beginning g c =
    holds_on_capture_piece_error c.from_residual.result
    (begins_in_first_capture_piece _ _ _ (capture_frames c.args.seed 0 c.args.frames) (made_capture c.args.seed c.args.frames)
    c.in_err-write_all.ensures.beginning refl)

pub loop-made-init : goal.loop-made-init
unfolding capture_header
loop-made-init g c = record {
  within = omega arith;
  written =
      subst (Appends (g.K.Sink.taken c.args.sink.now) (g.K.Sink.taken c.write_all.new.sink))
      (sym (capture_of_no_made_frames c.args.seed)) c.in_ok-write_all.ensures.whole;
  kept = c.in_ok-write_all.ensures.cause.kept;
  drawn = c.from_seed-draws.ensures;
}

pub returns-in_err-write_all-2-clause-beginning : goal.returns-in_err-write_all-2-clause-beginning
returns-in_err-write_all-2-clause-beginning g c =
    let seed = c.args.seed in
    let made = c.loop-made.made in
    let count = c.min-count.result in
    let more = c.args.frames - (made + count) in
    let held = c.loop-made.invariant in
    let piece = c.as_slice.ensures ∙ c.fill.ensures.made seed held.drawn in
    let all : c.args.frames ≡ made + count + more = omega (arith, c.min-count.ensures, held.within) in
    let joined = ap (made_capture seed) all ∙ capture_of_more_made_frames seed (made + count) more
    ∙ ap (λ front. front ++ capture_frames seed (made + count) more) (capture_of_more_made_frames seed made count) in
    holds_on_capture_piece_error c.from_residual-in_err-write_all-2.result
    (begins_in_later_capture_piece _ _ _ (made_capture seed made) (capture_frames seed made count) (capture_frames seed (made + count) more)
    (made_capture seed c.args.frames) held.written
    (subst (AppendsPart _ _) piece c.in_err-write_all-2.ensures.beginning) joined)

pub loop-made-preserved : goal.loop-made-preserved
loop-made-preserved g c =
    let seed = c.args.seed in
    let made = c.loop-made.made in
    let count = c.min-count.result in
    let held = c.loop-made.invariant in
    let piece = c.as_slice.ensures ∙ c.fill.ensures.made seed held.drawn in
    let appended = Appends-trans _ _ _ (made_capture seed made) _ held.written c.in_ok-write_all-2.ensures.whole in
    let joined = ap (λ last. made_capture seed made ++ last) piece ∙ sym (capture_of_more_made_frames seed made count) in
    record {
      within = omega (arith, c.min-count.ensures, held.within);
      written = subst (Appends _ _) joined appended;
      kept = c.in_ok-write_all-2.ensures.cause.kept ∙ held.kept;
      drawn = c.fill.ensures.drawn seed held.drawn;
    }
