use Rattle.std.proofs.Common.{◌≡◌, true, false, take, sym, ◌∙◌, subst, arith}
use Rattle.std.proofs.lemmas.List.{length-take-le}
use Rattle.std.proofs.lemmas.Result.{err_from_is_err_and}
use Rattle.pcapng_frames.specs.EitherFormat.{begins_as_pcapng}
use Rattle.pcapng_frames.specs.FirstBytes.{ReadsFewer}
use Rattle.pcapng_frames.proofs.FirstReadLemmas.{first_read_is_whole}
use Rattle.pcapng_frames.proofs.EitherReadingLemmas.{either_reading_goes_on, either_reading_is_exact, either_reading_ends_first}
use Rattle.pcapng_frames.proofs.EitherReadingLemmas.{either_reading_fails_first, either_reading_refuses_first}
use Rattle.pcapng_frames.proofs.reading.read_any.Goals as goal

pub returns-in_err-came-clause-seen : goal.returns-in_err-came-clause-seen
returns-in_err-came-clause-seen g c =
    let p = err_from_is_err_and c.from_residual.result c.from_residual.ensures.1 in
    let few = subst (λ n. ReadsFewer n (g.S.Source.left c.args.source.now) (g.S.Source.left c.read_first.new.source))
    c.in_err-came.ensures.room c.in_err-came.ensures.part in
    rw (p.1, p.2) (either_reading_fails_first g.V.FrameVisitor.represents _ _ _ few)

pub returns-then-came-lt4-clause-seen : goal.returns-then-came-lt4-clause-seen
returns-then-came-lt4-clause-seen g c =
    let read = c.in_ok-came.ensures in
    either_reading_ends_first g.V.FrameVisitor.represents _ _ _ (take c.in_ok-came.came c.read_first.new.first) _ read.read
    (length-take-le c.in_ok-came.came c.read_first.new.first read.fits) c.if-came-lt4.true
    (read.at_end (omega (arith, read.room, c.if-came-lt4.true)))

pub returns-then-came-lt4-clause-exact : goal.returns-then-came-lt4-clause-exact
returns-then-came-lt4-clause-exact g c =
    let read = c.in_ok-came.ensures in
    either_reading_refuses_first _ _ (take c.in_ok-came.came c.read_first.new.first) _ c.any_captures_are_decided.ensures
    read.read (length-take-le c.in_ok-came.came c.read_first.new.first read.fits) c.if-came-lt4.true
    (read.at_end (omega (arith, read.room, c.if-came-lt4.true)))

pub returns-then-begins_as_pcapng-clause-seen : goal.returns-then-begins_as_pcapng-clause-seen
returns-then-begins_as_pcapng-clause-seen g c =
    let read = c.in_ok-came.ensures in
    let whole = first_read_is_whole _ _ c.in_ok-came.came c.read_first.new.first (omega (arith, read.room, c.if-came-lt4.false))
    read.read in
    let begins : begins_as_pcapng c.read_first.new.first ≡ true = sym c.begins_as_pcapng.ensures ∙ c.if-begins_as_pcapng.true in
    either_reading_goes_on true c.read_first.new.first (omega (arith, read.room)) begins g.V.FrameVisitor.represents _ _ _ _ _
    c.read_with.result whole c.read_with.ensures.seen

pub returns-then-begins_as_pcapng-clause-exact : goal.returns-then-begins_as_pcapng-clause-exact
returns-then-begins_as_pcapng-clause-exact g c =
    let read = c.in_ok-came.ensures in
    let whole = first_read_is_whole _ _ c.in_ok-came.came c.read_first.new.first (omega (arith, read.room, c.if-came-lt4.false))
    read.read in
    let begins : begins_as_pcapng c.read_first.new.first ≡ true = sym c.begins_as_pcapng.ensures ∙ c.if-begins_as_pcapng.true in
    either_reading_is_exact true c.read_first.new.first (omega (arith, read.room)) begins _ _ c.read_with.result whole
    c.read_with.ensures.exact

pub returns-else-begins_as_pcapng-clause-seen : goal.returns-else-begins_as_pcapng-clause-seen
returns-else-begins_as_pcapng-clause-seen g c =
    let read = c.in_ok-came.ensures in
    let whole = first_read_is_whole _ _ c.in_ok-came.came c.read_first.new.first (omega (arith, read.room, c.if-came-lt4.false))
    read.read in
    let begins : begins_as_pcapng c.read_first.new.first ≡ false = sym c.begins_as_pcapng.ensures ∙ c.if-begins_as_pcapng.false in
    either_reading_goes_on false c.read_first.new.first (omega (arith, read.room)) begins g.V.FrameVisitor.represents _ _ _ _ _
    c.read_with-else-begins_as_pcapng.result whole c.read_with-else-begins_as_pcapng.ensures.seen

pub returns-else-begins_as_pcapng-clause-exact : goal.returns-else-begins_as_pcapng-clause-exact
returns-else-begins_as_pcapng-clause-exact g c =
    let read = c.in_ok-came.ensures in
    let whole = first_read_is_whole _ _ c.in_ok-came.came c.read_first.new.first (omega (arith, read.room, c.if-came-lt4.false))
    read.read in
    let begins : begins_as_pcapng c.read_first.new.first ≡ false = sym c.begins_as_pcapng.ensures ∙ c.if-begins_as_pcapng.false in
    either_reading_is_exact false c.read_first.new.first (omega (arith, read.room)) begins _ _ c.read_with-else-begins_as_pcapng.result whole
    c.read_with-else-begins_as_pcapng.ensures.exact
