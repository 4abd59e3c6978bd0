-- Upper bounds on the highs of keys, one entry and one table after another.
use Rattle.std.proofs.Common.{◌≡◌, ℕ, ◌+◌, ◌-◌, ◌<◌, ◌≤◌, min, eqb, cond, Bool, true, false, List, [], ◌∷◌, ◌++◌}
use Rattle.std.proofs.Common.{length, get_or, set, take, sum_by, slice_get, Option, None, Some, refl, sym, ap}
use Rattle.std.proofs.Common.{◌∙◌}
use Rattle.std.proofs.Common.{subst, arith, ⊎_elim}
use Rattle.std.proofs.lemmas.Bool.{eqb-true, cases_eq}
use Rattle.std.proofs.lemmas.List.{take_more, get_or-set_same, get_or-set_other}
use Rattle.std.proofs.lemmas.List.Sums.{sum_by_push}
use Rattle.std.proofs.lemmas.Option.{none-some, get_or_from_slice_get, slice_get_within}
use Rattle.space_saving.specs.{TableValue, TableInterval, table_entry, interval_in, interval_from}
use Rattle.space_saving.specs.declared.entry.Entry.{Entry}
use Rattle.cut_merge.specs.Run.{RunValue, IsRunOf, run_interval}
use Rattle.cut_merge.specs.Run.{missing_high}
use Rattle.cut_merge.specs.HighBounds.{BoundsValue, bound_home, bound_cell, greatest_bound}
use Rattle.cut_merge.specs.HighBounds.{NoteKey}
use Rattle.cut_merge.specs.HighBounds.{counted_in, NoteEntries, AreBoundsOf}
use Rattle.cut_merge.proofs.TableMergeLemmas.{table_merge_interval_of_run}

-- an entry that is appended is that of its key, if no earlier one is
high_bound_entry_pushed : (key : ℕ) (entries : List Entry) (entry : Entry) → table_entry key entries ≡ None → eqb entry.key key ≡ true
    → table_entry key (entries ++ entry ∷ []) ≡ Some entry
high_bound_entry_pushed key [] entry none same = ap (λ b. cond b (Some entry) None) same
high_bound_entry_pushed key (f ∷ fs) entry none same =
    by (eqb f.key key) none (λ rest. high_bound_entry_pushed key fs entry rest same)
  where
    by : (b : Bool) → cond b (Some f) (table_entry key fs) ≡ None
        → (table_entry key fs ≡ None → table_entry key (fs ++ entry ∷ []) ≡ Some entry)
        → cond b (Some f) (table_entry key (fs ++ entry ∷ [])) ≡ Some entry
    by true is rest = absurd (none-some f (sym is))
    by false is rest = rest is

-- and changes nothing for another key
pub high_bound_other_entry_pushed : (key : ℕ) (entries : List Entry) (entry : Entry) → eqb entry.key key ≡ false
    → table_entry key (entries ++ entry ∷ []) ≡ table_entry key entries
high_bound_other_entry_pushed key [] entry differs = ap (λ b. cond b (Some entry) None) differs
high_bound_other_entry_pushed key (f ∷ fs) entry differs =
    ap (λ rest. cond (eqb f.key key) (Some f) rest) (high_bound_other_entry_pushed key fs entry differs)

-- no entry is counted at first
pub high_bound_notes_none : (table : TableValue) (bounds : BoundsValue) → NoteEntries table bounds bounds 0
high_bound_notes_none table bounds = record { missing = refl; raises = λ key. omega arith; noted = λ key. omega arith }

-- and one more entry at the next index
pub high_bound_notes_more : (table : TableValue) (old now new : BoundsValue) (place : ℕ) (entry : Entry)
    → NoteEntries table old now place → slice_get table.entries place ≡ Some entry
    → table_entry entry.key (take place table.entries) ≡ None
    → NoteKey now new entry.key (entry.count - missing_high table) → NoteEntries table old new (place + 1)
high_bound_notes_more table old now new place entry notes at apart one =
    let within = slice_get_within table.entries place entry at in
    let read : get_or table.entries place entry ≡ entry =
    get_or_from_slice_get table.entries place entry entry at in
    let more : take (place + 1) table.entries ≡ take place table.entries ++ entry ∷ [] =
    take_more table.entries place entry within ∙ ap (λ e. take place table.entries ++ e ∷ []) read in
    record {
      missing = one.missing ∙ notes.missing;
      raises = λ key. omega (arith, notes.raises key, one.raises key);
      noted = λ key.
          subst (λ entries. min greatest_bound (bound_cell old key + counted_in table (table_entry key entries)) ≤ bound_cell new key)
          (sym more) (by key (eqb entry.key key) refl);
    }
  where
    by : (key : ℕ) (b : Bool) → eqb entry.key key ≡ b
        → min greatest_bound
        (bound_cell old key + counted_in table (table_entry key (take place table.entries ++ entry ∷ [])))
        ≤ bound_cell new key
    by key true same =
        subst (λ k. min greatest_bound
        (bound_cell old k + counted_in table (table_entry k (take place table.entries ++ entry ∷ []))) ≤ bound_cell new k)
        (eqb-true entry.key key same)
        (subst (λ found. min greatest_bound (bound_cell old entry.key + counted_in table found) ≤ bound_cell new entry.key)
        (sym (high_bound_entry_pushed entry.key (take place table.entries) entry apart
        (ap (eqb entry.key) (eqb-true entry.key key same) ∙ same)))
        (omega (arith, notes.raises entry.key, one.noted)))
    by key false differs =
        subst (λ found. min greatest_bound (bound_cell old key + counted_in table found) ≤ bound_cell new key)
        (sym (high_bound_other_entry_pushed key (take place table.entries) entry differs))
        (omega (arith, notes.noted key, one.raises key))

-- bounds that are raised still fit
pub high_bounds_raised : (runs : List RunValue) (old new : BoundsValue) → AreBoundsOf runs old
    → old.missing ≤ new.missing → ((key : ℕ) → bound_cell old key ≤ bound_cell new key) → AreBoundsOf runs new
high_bounds_raised runs old new fit missing raises = record {
  highs = λ key. omega (arith, fit.highs key, missing, raises key);
}

-- one more run fits where its table's entries were counted
pub high_bounds_with_more_runs : (runs : List RunValue) (run : RunValue) (table : TableValue) (old new : BoundsValue)
    → AreBoundsOf runs old → IsRunOf run table
    → ((key : ℕ) → missing_high table ≤ (interval_in table key).high)
    → new.missing ≡ min greatest_bound (old.missing + missing_high table)
    → ((key : ℕ) → min greatest_bound (bound_cell old key + counted_in table (table_entry key table.entries))
    ≤ bound_cell new key)
    → AreBoundsOf (runs ++ run ∷ []) new
high_bounds_with_more_runs runs run table old new fit is above missing noted = record {
  highs = λ key.
      let sum = sum_by_push (λ (r : RunValue). (run_interval r key).high) runs run in
      let high : (run_interval run key).high ≡ (interval_from (table_entry key table.entries) table).high =
      ap (λ (i : TableInterval). i.high) (table_merge_interval_of_run run table key is) in
      high_more key (table_entry key table.entries) (sum_by (λ (r : RunValue). (run_interval r key).high) runs)
      (sum_by (λ (r : RunValue). (run_interval r key).high) (runs ++ run ∷ []))
      (above key) (noted key) (fit.highs key) (sum ∙ ap (λ n. sum_by (λ (r : RunValue). (run_interval r key).high) runs + n) high);
}
  where
    high_more : (key : ℕ) (found : Option Entry) (before after : ℕ)
        → missing_high table ≤ (interval_from found table).high
        → min greatest_bound (bound_cell old key + counted_in table found) ≤ bound_cell new key
        → min greatest_bound before ≤ old.missing + bound_cell old key
        → after ≡ before + (interval_from found table).high
        → min greatest_bound after ≤ new.missing + bound_cell new key
    high_more key None before after above_missing counted bound is_after =
        omega (arith, counted, bound, is_after, missing)
    high_more key (Some entry) before after above_missing counted bound is_after =
        omega (arith, above_missing, counted, bound, is_after, missing)

-- one cell is raised, and so is the bound of each key whose home it is
pub high_bound_cell_raised : (cells : List ℕ) (key excess raised : ℕ) (missing : ℕ) → bound_home key < length cells
    → ((other : ℕ) → get_or cells (bound_home other) 0 ≤ greatest_bound)
    → raised ≡ min greatest_bound (get_or cells (bound_home key) 0 + excess)
    → NoteKey (record { cells = cells; missing = missing })
    (record { cells = set cells (bound_home key) raised; missing = missing }) key excess
high_bound_cell_raised cells key excess raised missing within bounded is = record {
  missing = refl;
  raises = λ other.
      ⊎_elim
      (λ (same : bound_home other ≡ bound_home key).
      let now : get_or (set cells (bound_home key) raised) (bound_home other) 0 ≡ raised =
      ap (λ h. get_or (set cells (bound_home key) raised) h 0) same
      ∙ get_or-set_same cells (bound_home key) raised 0 within in
      let here : get_or cells (bound_home other) 0 ≡ get_or cells (bound_home key) 0 = ap (λ h. get_or cells h 0) same in
      omega (arith, now, is, here, bounded other))
      (λ differs.
      let stays : get_or (set cells (bound_home key) raised) (bound_home other) 0 ≡ get_or cells (bound_home other) 0 =
      get_or-set_other cells (bound_home key) (bound_home other) raised 0 differs in
      omega (arith, stays))
      (cases_eq (bound_home other) (bound_home key));
  noted =
      let now : get_or (set cells (bound_home key) raised) (bound_home key) 0 ≡ raised =
      get_or-set_same cells (bound_home key) raised 0 within in
      omega (arith, now, is);
}
