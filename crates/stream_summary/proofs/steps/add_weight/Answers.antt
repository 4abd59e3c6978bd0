use Rattle.std.proofs.Common.{◌≡◌, ◌≢◌, get_or, sym, ap, ◌∙◌, subst, arith}
use Rattle.std.specs.Prelude.{All, Some, slice_get}
use Rattle.stream_summary.specs.Ring.{IsIn}
use Rattle.stream_summary.specs.Buckets.{entry_at, keys_of, no_slot}
use Rattle.stream_summary.proofs.StepOfTableLemmas.{table_count_in_total, place_of_key, step_appended, step_raised}
use Rattle.stream_summary.proofs.StepOfTableLemmas.{step_taken_over}
use Rattle.stream_summary.proofs.steps.add_weight.Goals as goal

pub grow-requires-clause-fits : goal.grow-requires-clause-fits
grow-requires-clause-fits c =
    let old = c.args.arena.now in
    let found = place_of_key c.args.key c.in-Ok.place old.slots.items
    (subst (λ l. slice_get (keys_of l) c.in-Ok.place ≡ Some c.args.key) c.deref.ensures.value c.in-Ok.ensures.found) in
    let is_in : IsIn c.from_index.result.0 old.order.order = subst (λ n. IsIn n old.order.order) (sym c.from_index.ensures)
    (c.requires.together.whole c.in-Ok.place found.0) in
    omega (arith, c.requires.room, table_count_in_total (entry_at old.slots.items old.buckets.items) c.from_index.result.0 old.order.order is_in)

pub returns-in-Ok-clause-stepped : goal.returns-in-Ok-clause-stepped
returns-in-Ok-clause-stepped c =
    let old = c.args.arena.now in
    let found = place_of_key c.args.key c.in-Ok.place old.slots.items
    (subst (λ l. slice_get (keys_of l) c.in-Ok.place ≡ Some c.args.key) c.deref.ensures.value c.in-Ok.ensures.found) in
    let is_in : IsIn c.from_index.result.0 old.order.order = subst (λ n. IsIn n old.order.order) (sym c.from_index.ensures)
    (c.requires.together.whole c.in-Ok.place found.0) in
    step_raised old c.grow.new.arena c.args.key c.args.weight c.from_index.result.0 c.requires.table is_in
    (ap (λ n. (get_or old.slots.items n no_slot).key) c.from_index.ensures ∙ found.1) c.grow.ensures.replaced

pub returns-in-Err-clause-stepped : goal.returns-in-Err-clause-stepped
returns-in-Err-clause-stepped c =
    let old = c.args.arena.now in
    step_appended c.args.index.now old c.append.new.arena c.args.key c.args.weight c.requires.together
    (subst (λ l. All (λ other. other ≢ c.args.key) (keys_of l)) c.deref.ensures.value c.in-Err.ensures.missing) (omega arith) c.append.ensures.entries

pub returns-in-Err-2-clause-stepped : goal.returns-in-Err-2-clause-stepped
returns-in-Err-2-clause-stepped c =
    let old = c.args.arena.now in
    step_taken_over c.args.index.now old c.take_over.new.arena c.args.key c.args.weight c.requires.together
    (subst (λ l. All (λ other. other ≢ c.args.key) (keys_of l)) c.deref.ensures.value c.in-Err-2.ensures.missing)
    (omega (arith, c.requires.together.holds.fits)) c.take_over.ensures.taken
