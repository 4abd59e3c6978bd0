use Rattle.std.proofs.Common.{◌≡◌, ◌+◌, ◌++◌, List, take, drop, subst, ◌∙◌}
use Rattle.std.proofs.lemmas.List.{take_at}
use Rattle.space_saving.specs.declared.entry.Entry.{Entry}
use Rattle.space_saving.specs.Summary.{put_into}
use Rattle.space_saving.specs.Places.{IsPlaceOf}
use Rattle.space_saving.proofs.EntryPlaceLemmas.{entry_place_settled_is_step}
use Rattle.space_saving.proofs.TableStepLemmas.{table_step_raised}
use Rattle.space_saving.proofs.steps.add_weight.Goals as goal

pub returns-in-Some-clause-stepped : goal.returns-in-Some-clause-stepped
returns-in-Some-clause-stepped c =
    let entry = c.index-entry.result.now in
    let place = c.in-Some.place in
    let is_place = subst (λ (l : List Entry). IsPlaceOf c.args.key l place) c.deref.ensures.value c.in-Some.ensures in
    let written =
    subst (λ (l : List Entry).
    c.settle.new.entries ≡ take place l ++ put_into (table_step_raised entry c.args.weight) (drop (place + 1) l))
    c.deref_mut.ensures.value c.settle.ensures in
    entry_place_settled_is_step c.args.capacity c.args.entries.now.items _ (record { key = c.args.key; weight = c.args.weight })
    place entry
    c.requires.table.ascending is_place c.index-entry.ensures
    (take_at c.settle.new.entries _ c.args.entries.now.len (cc) ∙ written)
