use Rattle.std.proofs.Common.{arith}
use Rattle.space_saving.proofs.EntryPlaceLemmas.{entry_place_is_found}
use Rattle.space_saving.proofs.places.place_of.Goals as goal

pub returns-then-entry-key : goal.returns-then-entry-key
returns-then-entry-key c =
    entry_place_is_found c.args.key c.args.entries.now c.loop-place.place _ (omega arith) c.if-entry-key.true
    c.loop-place.invariant.still c.loop-place.invariant.passed
