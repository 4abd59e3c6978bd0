use Rattle.std.proofs.Common.{◌+◌, ◌*◌, List, ℕ, [], replicate, subst, sym}
use Rattle.key_index.specs.Chains.{Chains}
use Rattle.key_index.specs.KeyIndex.{HoldsKeys}
use Rattle.key_index.proofs.EntryLemmas.{entry_parts}
use Rattle.key_index.proofs.KeyLemmas.{key_of_nothing}
use Rattle.key_index.proofs.key_index.KeyIndex.with_room.Goals as goal

pub returns-clause-holds : goal.returns-clause-holds
returns-clause-holds c =
    let room = c.args.room in
    let turned = c.in_ok-for_homes.field-0 in
    subst (λ (chains : Chains). HoldsKeys [] (entry_parts room chains.links chains.backs turned c.in_ok-with_capacity.field-0.items))
    (sym c.in_ok-with_room.ensures.empty)
    (subst (λ (listed : List ℕ). HoldsKeys [] (entry_parts room (replicate (5 * room) 0) (replicate (room + 1) 0) turned listed))
    (sym c.in_ok-with_capacity.ensures.items) (key_of_nothing room turned))
