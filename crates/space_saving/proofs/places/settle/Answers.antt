use Rattle.std.proofs.Common.{◌+◌, arith}
use Rattle.space_saving.proofs.EntryPlaceLemmas.{put_into-entry_place_at_end, put_into-entry_place_at_greater}
use Rattle.space_saving.proofs.EntryPlaceLemmas.{entry_place_settled}
use Rattle.space_saving.proofs.places.settle.Goals as goal
use Rattle.space_saving.proofs.places.settle.Goals.{then-loop-place-test+else-entries-place, else-loop-place-test}

pub returns : goal.returns
returns c = entry_place_settled c.args.new c.loop-place.entries _ c.loop-place.place c.loop-place.invariant.within
    (elim c.loop-place-test.branch [
      | then-loop-place-test+else-entries-place w ↦
          put_into-entry_place_at_greater c.args.new c.loop-place.entries (c.loop-place.place + 1) _ (omega arith)
          w.if-entries-place.false
      | else-loop-place-test w ↦ put_into-entry_place_at_end c.args.new c.loop-place.entries (c.loop-place.place + 1) (omega arith)
    ]) c.loop-place.invariant.still
