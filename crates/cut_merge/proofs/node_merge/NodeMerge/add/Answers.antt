use Rattle.std.proofs.Common.{◌≡◌, ℕ, ◌+◌, ◌≤◌, min, eqb, true, List, length, slice_index, sym, ap, ◌∙◌, subst, take_all}
use Rattle.std.proofs.Common.{arith}
use Rattle.std.specs.List.{list_any}
use Rattle.space_saving.specs.{table_entry}
use Rattle.space_saving.specs.declared.entry.Entry.{Entry}
use Rattle.cut_merge.specs.Run.{RunValue, missing_high}
use Rattle.cut_merge.specs.NodeMerge.{NodeMergeValue, has_key}
use Rattle.cut_merge.specs.HighBounds.{bound_home, bound_cell, greatest_bound, counted_in}
use Rattle.cut_merge.specs.HighBounds.{AreBoundsOf}
use Rattle.cut_merge.specs.SeenHomes.{is_seen}
use Rattle.cut_merge.proofs.HighBoundLemmas.{high_bounds_with_more_runs}
use Rattle.cut_merge.proofs.SeenHomeLemmas.{seen_homes_with_more_runs}
use Rattle.cut_merge.proofs.node_merge.NodeMerge.add.Goals as goal

pub note_keys-requires-clause-known : goal.note_keys-requires-clause-known
note_keys-requires-clause-known c = λ key.
    subst (λ (v : NodeMergeValue). list_any (λ other. eqb key other) v.keys ≡ has_key key v.runs)
    (sym c.self.view_is) (c.requires.known key)
    ∙ ap (has_key key) (sym c.deref.ensures.value)

pub invariant_of-self-2 : goal.invariant_of-self-2
invariant_of-self-2 c =
    let table = c.args.table.now in
    let old = c.self.inside.bounds in
    let new = c.note_keys.new.bounds in
    let runs = c.self.inside.runs.items in
    let run = c.in_ok-run.run' in
    let missing : new.missing ≡ min greatest_bound (old.missing + missing_high table) =
    c.note_keys.ensures.same ∙ c.add_missing.ensures.missing
    ∙ ap (λ (high : ℕ). min greatest_bound (old.missing + high)) (c.missing.ensures ∙ c.in_ok-run.ensures.missing) in
    let noted : (key : ℕ) → min greatest_bound (bound_cell old key + counted_in table (table_entry key table.entries))
    ≤ bound_cell new key =
    λ key.
    subst (λ (cells : List ℕ).
    min greatest_bound (slice_index cells (bound_home key) + counted_in table (table_entry key table.entries)) ≤ bound_cell new key)
    c.add_missing.ensures.cells
    (subst (λ (entries : List Entry).
    min greatest_bound (bound_cell c.add_missing.new.self key + counted_in table (table_entry key entries)) ≤ bound_cell new key)
    (take_all (length table.entries) table.entries (omega arith))
    (c.in_ok-note_keys.ensures.bounds.noted key)) in
    subst (λ (rs : List RunValue). AreBoundsOf rs new) (sym c.in_ok-push.ensures.items)
    (high_bounds_with_more_runs runs run table old new c.self.invariant c.in_ok-run.ensures
    (λ key. (c.requires.bounded key).above_missing) missing noted)

pub returns-clause-seen : goal.returns-clause-seen
returns-clause-seen c =
    subst (λ (runs : List RunValue). (key : ℕ) → has_key key runs ≡ true → is_seen c.note_keys.new.seen key ≡ true)
    (sym c.in_ok-push.ensures.items)
    (seen_homes_with_more_runs c.self.inside.runs.items c.in_ok-run.run' c.args.table.now c.args.seen.now c.note_keys.new.seen
    (subst (λ (v : NodeMergeValue). (key : ℕ) → has_key key v.runs ≡ true → is_seen c.args.seen.now key ≡ true)
    (sym c.self.view_is) c.requires.seen)
    c.in_ok-run.ensures c.in_ok-note_keys.ensures.seen)
