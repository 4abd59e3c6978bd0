-- What is merged represents the tables that were merged in.
use Rattle.std.proofs.Common.{◌≡◌, ℕ, ◌≤◌, eqb, cond, ◌||◌, Bool, true, false, List, [], ◌∷◌, ◌++◌, map, sum_by, fold}
use Rattle.std.proofs.Common.{Option, None, Some, is_some, refl, sym, ap, ◌∙◌, subst, arith, All}
use Rattle.std.specs.List.{flat_map, list_any, AllZip}
use Rattle.std.specs.Option.{option_map}
use Rattle.std.proofs.lemmas.Bool.Decides.{nat_tests}
use Rattle.std.proofs.lemmas.List.{append-nil}
use Rattle.std.proofs.lemmas.List.Sums.{sum_by-cons}
use Rattle.std.proofs.lemmas.List.Elements.{All-head, All-tail}
use Rattle.std.proofs.lemmas.List.Folds.{list_any-append}
use Rattle.std.proofs.lemmas.Grind.{flat_map-append}
use Rattle.space_saving.specs.declared.entry.Entry.{Entry}
use Rattle.space_saving.specs.{TableValue, TableInterval, table_entry, interval_in, interval_from}
use Rattle.space_saving.specs.{table_total}
use Rattle.cut_merge.specs.CutTables.{first_seen, interval_over, keys_of}
use Rattle.cut_merge.specs.Run.{RunValue, IsRunOf, interval_of_entry, interval_or_missing, run_interval}
use Rattle.cut_merge.specs.Run.{is_monitored}
use Rattle.cut_merge.specs.Run.{missing_high}
use Rattle.cut_merge.specs.NodeMerge.{NodeMergeValue, has_key}
use Rattle.cut_merge.specs.Merged.{CanBeMerged, keys_seen, WithTable, NodeRepresents}
use Rattle.cut_merge.specs.Merged.{interval_for_key}
use Rattle.cut_merge.proofs.FirstSeenLemmas.{first_seen-append, first_seen-any}

-- a run gives each key the interval of its table
pub table_merge_interval_of_run : (run : RunValue) (table : TableValue) (key : ℕ) → IsRunOf run table
    → run_interval run key ≡ interval_in table key
table_merge_interval_of_run run table key is =
    ap (λ found. interval_or_missing run.missing found) (is.entries key)
    ∙ ap (λ missing. interval_or_missing missing (option_map interval_of_entry (table_entry key table.entries))) is.missing
    ∙ by (table_entry key table.entries)
  where
    by : (found : Option Entry)
        → interval_or_missing (missing_high table) (option_map interval_of_entry found) ≡ interval_from found table
    by None = refl
    by (Some entry) = refl

-- the runs of tables give each key the merged interval of these
table_merge_intervals_of_runs : (runs : List RunValue) (tables : List TableValue) (key : ℕ) → AllZip IsRunOf runs tables
    → (sum_by (λ (run : RunValue). (run_interval run key).low) runs ≡ sum_by (λ t. (interval_in t key).low) tables)
    × (sum_by (λ (run : RunValue). (run_interval run key).high) runs ≡ sum_by (λ t. (interval_in t key).high) tables)
table_merge_intervals_of_runs [] [] key are = (refl, refl)
table_merge_intervals_of_runs [] (table ∷ tables) key are = absurd are
table_merge_intervals_of_runs (run ∷ runs) [] key are = absurd are
table_merge_intervals_of_runs (run ∷ runs) (table ∷ tables) key are =
    let first = table_merge_interval_of_run run table key are.0 in
    let rest = table_merge_intervals_of_runs runs tables key are.1 in
    let low : (run_interval run key).low ≡ (interval_in table key).low = ap (λ (i : TableInterval). i.low) first in
    let high : (run_interval run key).high ≡ (interval_in table key).high = ap (λ (i : TableInterval). i.high) first in (
      omega (
        arith,
        low,
        rest.0,
        sum_by-cons (λ (r : RunValue). (run_interval r key).low) run runs,
        sum_by-cons (λ (t : TableValue). (interval_in t key).low) table tables,
      ),
      omega (
        arith,
        high,
        rest.1,
        sum_by-cons (λ (r : RunValue). (run_interval r key).high) run runs,
        sum_by-cons (λ (t : TableValue). (interval_in t key).high) table tables,
      ),
    )

-- so does the merge that represents them
pub interval_of_table_merge : (merge : NodeMergeValue) (tables : List TableValue) (key : ℕ) → NodeRepresents merge tables
    → interval_for_key merge key ≡ interval_over tables key
interval_of_table_merge merge tables key stands =
    let make : ℕ → ℕ → TableInterval = λ low high. record { low = low; high = high } in
    let same = table_merge_intervals_of_runs merge.runs tables key stands.runs in
    ap (λ low. make low (interval_for_key merge key).high) same.0
    ∙ ap (λ high. make (interval_over tables key).low high) same.1

-- a key has an entry where it is among the keys of the entries
pub table_merge_entry_among_keys : (key : ℕ) (entries : List Entry)
    → is_some (table_entry key entries) ≡ list_any (λ other. eqb key other) (map (λ (e : Entry). e.key) entries)
table_merge_entry_among_keys key [] = refl
table_merge_entry_among_keys key (f ∷ fs) =
    first (eqb f.key key) (table_merge_entry_among_keys key fs)
    ∙ ap (λ b. b || list_any (λ other. eqb key other) (map (λ (e : Entry). e.key) fs)) (flip f.key key)
  where
    first : (b : Bool)
        → is_some (table_entry key fs) ≡ list_any (λ other. eqb key other) (map (λ (e : Entry). e.key) fs)
        → is_some (cond b (Some f) (table_entry key fs))
        ≡ (b || list_any (λ other. eqb key other) (map (λ (e : Entry). e.key) fs))
    first true rest = refl
    first false rest = rest

    flip : (a b : ℕ) → eqb a b ≡ eqb b a
    flip a b = grind (arith, nat_tests)

-- a run has the keys of its table
table_merge_monitored_by_run : (run : RunValue) (table : TableValue) (key : ℕ) → IsRunOf run table
    → is_monitored key run ≡ list_any (λ other. eqb key other) (keys_of table)
table_merge_monitored_by_run run table key is =
    ap is_some (is.entries key) ∙ by (table_entry key table.entries) ∙ table_merge_entry_among_keys key table.entries
  where
    by : (found : Option Entry) → is_some (option_map interval_of_entry found) ≡ is_some found
    by None = refl
    by (Some entry) = refl

-- the runs of tables have their keys
table_merge_monitored_in_runs : (runs : List RunValue) (tables : List TableValue) (key : ℕ) → AllZip IsRunOf runs tables
    → has_key key runs ≡ list_any (λ other. eqb key other) (flat_map keys_of tables)
table_merge_monitored_in_runs [] [] key are = refl
table_merge_monitored_in_runs [] (table ∷ tables) key are = absurd are
table_merge_monitored_in_runs (run ∷ runs) [] key are = absurd are
table_merge_monitored_in_runs (run ∷ runs) (table ∷ tables) key are =
    ap (λ b. b || has_key key runs) (table_merge_monitored_by_run run table key are.0)
    ∙ ap (λ b. list_any (λ other. eqb key other) (keys_of table) || b) (table_merge_monitored_in_runs runs tables key are.1)
    ∙ sym (list_any-append (λ other. eqb key other) (keys_of table) (flat_map keys_of tables))

-- so a key is among those that a merge has where one of its runs has it
pub monitored_of_table_merge : (merge : NodeMergeValue) (tables : List TableValue) (key : ℕ)
    → NodeRepresents merge tables
    → list_any (λ other. eqb key other) merge.keys ≡ has_key key merge.runs
monitored_of_table_merge merge tables key stands =
    ap (list_any (λ other. eqb key other)) stands.keys
    ∙ first_seen-any key (flat_map keys_of tables)
    ∙ sym (table_merge_monitored_in_runs merge.runs tables key stands.runs)

-- nothing merged represents no tables
pub table_merge_represents_none : NodeRepresents (record { runs = []; keys = [] }) []
table_merge_represents_none = record { runs = tt; keys = refl }

-- one more run of one more table
table_merge_runs_grow : (runs : List RunValue) (tables : List TableValue) (run : RunValue) (table : TableValue)
    → AllZip IsRunOf runs tables → IsRunOf run table → AllZip IsRunOf (runs ++ run ∷ []) (tables ++ table ∷ [])
table_merge_runs_grow [] [] run table are is = (is, tt)
table_merge_runs_grow [] (other ∷ tables) run table are is = absurd are
table_merge_runs_grow (other ∷ runs) [] run table are is = absurd are
table_merge_runs_grow (first ∷ runs) (other ∷ tables) run table are is = (are.0, table_merge_runs_grow runs tables run table are.1 is)

-- one more table
pub table_merge_represents_more : (old new : NodeMergeValue) (tables : List TableValue) (table : TableValue)
    → NodeRepresents old tables → WithTable old table new → NodeRepresents new (tables ++ table ∷ [])
table_merge_represents_more old new tables table stands adds = record {
  runs =
      subst (λ (runs : List RunValue). AllZip IsRunOf runs (tables ++ table ∷ [])) (sym adds.runs)
      (table_merge_runs_grow old.runs tables adds.run table stands.runs adds.is_run);
  keys =
      adds.keys ∙ ap (λ keys. fold keys_seen keys (keys_of table)) stands.keys
      ∙ sym (first_seen-append (flat_map keys_of tables) (keys_of table))
      ∙ ap first_seen
      (ap (λ more. flat_map keys_of tables ++ more) (sym (append-nil (keys_of table)))
      ∙ sym (flat_map-append keys_of tables (table ∷ [])));
}

-- what the tables counted together
abbrev pub table_merge_count : List TableValue → ℕ
table_merge_count tables = sum_by (λ table. table_total table.entries) tables

-- merged intervals have their ends in order and within what the tables counted
pub record TableMergeIsBounded (tables : List TableValue) (key : ℕ) : Type 0 where
  pub ordered : (interval_over tables key).low ≤ (interval_over tables key).high
  pub within_total : (interval_over tables key).high ≤ table_merge_count tables

-- if it holds of each table
pub table_merge_is_bounded : (tables : List TableValue) (key : ℕ) → All (CanBeMerged key) tables → TableMergeIsBounded tables key
table_merge_is_bounded [] key all = record { ordered = omega arith; within_total = omega arith }
table_merge_is_bounded (table ∷ tables) key all =
    let first : CanBeMerged key table = All-head (CanBeMerged key) table tables all in
    let rest : TableMergeIsBounded tables key = table_merge_is_bounded tables key (All-tail (CanBeMerged key) table tables all) in
    let lows = sum_by-cons (λ (t : TableValue). (interval_in t key).low) table tables in
    let highs = sum_by-cons (λ (t : TableValue). (interval_in t key).high) table tables in
    let totals = sum_by-cons (λ (t : TableValue). table_total t.entries) table tables in
    record {
      ordered = omega (arith, lows, highs, first.ordered, rest.ordered);
      within_total = omega (arith, highs, totals, first.within_total, rest.within_total);
    }
