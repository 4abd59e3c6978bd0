use Rattle.std.proofs.Common.{refl, take, sym, arith}
use Rattle.std.proofs.lemmas.List.{take_all}
use Rattle.std.proofs.lemmas.List.Elements.{All-more, All-same}
use Rattle.space_saving.specs.Summary.{HasSmallError}
use Rattle.space_saving.proofs.facts.has_small_errors.Goals as goal

pub loop-entry-preserved : goal.loop-entry-preserved
loop-entry-preserved c =
    All-more (HasSmallError c.args.capacity c.args.total) c.args.entries.now c.loop-entry.entry-index _
    (omega arith) c.loop-entry.invariant
    (c.has_small_error.ensures.0 c.if-not-has_small_error.false)

pub returns : goal.returns
returns c = (
  λ _.
      All-same (HasSmallError c.args.capacity c.args.total) c.args.entries.now
      (take c.loop-entry.entry-index c.args.entries.now)
      (sym (take_all c.loop-entry.entry-index c.args.entries.now c.loop-entry-test.false)) c.loop-entry.invariant,
  λ _. refl,
)
