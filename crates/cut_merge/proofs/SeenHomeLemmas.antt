-- Which keys were seen, one entry and one table after another.
use Rattle.std.proofs.Common.{◌≡◌, ◌≢◌, ℕ, ◌+◌, ◌<◌, eqb, Bool, true, false, ◌||◌, List, [], ◌∷◌, ◌++◌, length, get_or}
use Rattle.std.proofs.Common.{set, take, slice_get, Option, None, Some, is_some, refl, sym, ap, ◌∙◌, subst, ⊎_elim, length-set}
use Rattle.std.proofs.Common.{take_all, arith}
use Rattle.std.specs.List.{list_any}
use Rattle.std.specs.Option.{option_map}
use Rattle.std.proofs.lemmas.Bool.{false≢true, eqb-true, cases_eq, or_cases}
use Rattle.std.proofs.lemmas.List.{take_more, get_or-set_same, get_or-set_other}
use Rattle.std.proofs.lemmas.List.Folds.{list_any-append}
use Rattle.std.proofs.lemmas.Option.{get_or_from_slice_get, slice_get_within}
use Rattle.space_saving.specs.{TableValue, table_entry}
use Rattle.space_saving.specs.declared.entry.Entry.{Entry}
use Rattle.cut_merge.specs.Run.{RunValue, IsRunOf, interval_of_entry, is_monitored}
use Rattle.cut_merge.specs.NodeMerge.{has_key}
use Rattle.cut_merge.specs.SeenHomes.{SeesKey, SeeEntries, is_seen, seen_home}
use Rattle.cut_merge.proofs.HighBoundLemmas.{high_bound_other_entry_pushed}

-- a key is seen once its home is marked, and those seen before stay seen
pub seen_home_marked : (homes : List Bool) (key home : ℕ) → home ≡ seen_home (length homes) key → home < length homes
    → SeesKey homes (set homes home true) key
seen_home_marked homes key home is within = record {
  now =
      ap (λ count. get_or (set homes home true) (seen_home count key) false) (length-set homes home true)
      ∙ ap (λ h. get_or (set homes home true) h false) (sym is)
      ∙ get_or-set_same homes home true false within;
  kept = λ other seen.
      ap (λ count. get_or (set homes home true) (seen_home count other) false) (length-set homes home true)
      ∙ ⊎_elim
      (λ (same : seen_home (length homes) other ≡ home).
      ap (λ h. get_or (set homes home true) h false) same ∙ get_or-set_same homes home true false within)
      (λ (apart : seen_home (length homes) other ≢ home).
      get_or-set_other homes home (seen_home (length homes) other) true false apart ∙ seen)
      (cases_eq (seen_home (length homes) other) home);
}

-- the key of no entry is seen at first
pub seen_homes_of_no_entry : (table : TableValue) (homes : List Bool) → SeeEntries table homes homes 0
seen_homes_of_no_entry table homes = record { seen = λ key none. absurd (false≢true none); kept = λ key seen. seen }

-- and that of one more entry
pub seen_homes_of_more_entries : (table : TableValue) (old now new : List Bool) (place : ℕ) (entry : Entry)
    → SeeEntries table old now place → slice_get table.entries place ≡ Some entry → SeesKey now new entry.key
    → SeeEntries table old new (place + 1)
seen_homes_of_more_entries table old now new place entry so_far at one =
    let within = slice_get_within table.entries place entry at in
    let more : take (place + 1) table.entries ≡ take place table.entries ++ entry ∷ [] =
    take_more table.entries place entry within
    ∙ ap (λ e. take place table.entries ++ e ∷ []) (get_or_from_slice_get table.entries place entry entry at) in
    record {
      seen = λ key there.
          by key (eqb entry.key key) refl (subst (λ entries. is_some (table_entry key entries) ≡ true) more there);
      kept = λ key seen. one.kept key (so_far.kept key seen);
    }
  where
    by : (key : ℕ) (b : Bool) → eqb entry.key key ≡ b
        → is_some (table_entry key (take place table.entries ++ entry ∷ [])) ≡ true → is_seen new key ≡ true
    by key true same there = subst (λ k. is_seen new k ≡ true) (eqb-true entry.key key same) one.now
    by key false differs there =
        one.kept key (so_far.seen key
        (sym (ap is_some (high_bound_other_entry_pushed key (take place table.entries) entry differs)) ∙ there))

-- with the run of a table whose keys were seen, the keys of all runs are seen
pub seen_homes_with_more_runs : (runs : List RunValue) (run : RunValue) (table : TableValue) (old new : List Bool)
    → ((key : ℕ) → has_key key runs ≡ true → is_seen old key ≡ true) → IsRunOf run table
    → SeeEntries table old new (length table.entries)
    → (key : ℕ) → has_key key (runs ++ run ∷ []) ≡ true → is_seen new key ≡ true
seen_homes_with_more_runs runs run table old new before is entries key there =
    ⊎_elim
    (λ (earlier : has_key key runs ≡ true). entries.kept key (before key earlier))
    (λ last.
    entries.seen key
    (ap (λ (es : List Entry). is_some (table_entry key es)) (take_all (length table.entries) table.entries (omega arith))
    ∙ of_entry (table_entry key table.entries) (sym (ap is_some (is.entries key)) ∙ or_last (is_monitored key run) last)))
    (or_cases (has_key key runs) (list_any (λ r. is_monitored key r) (run ∷ []))
    (sym (list_any-append (λ r. is_monitored key r) runs (run ∷ [])) ∙ there))
  where
    or_last : (b : Bool) → (b || false) ≡ true → b ≡ true
    or_last true is_true = refl
    or_last false is_true = is_true

    of_entry : (found : Option Entry) → is_some (option_map interval_of_entry found) ≡ true → is_some found ≡ true
    of_entry None none = none
    of_entry (Some entry) some = refl
