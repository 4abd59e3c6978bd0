-- How great the numbers of a sound report can be: a text can show each of them.
use Rattle.std.proofs.Common.{◌≡◌, ◌∙◌, ◌+◌, ◌-◌, ◌*◌, ◌^◌, ◌<◌, ◌≤◌, ℕ, not, List, [], ◌∷◌, length, take, get_or, All}
use Rattle.std.proofs.Common.{refl, sym, subst, arith}
use Rattle.std.proofs.lemmas.Nat.{mul-le}
use Rattle.std.proofs.lemmas.List.Elements.{All-cons, All-head, All-nil, All-tail, All-weaker, Contains-get_or}
use Rattle.std.proofs.lemmas.List.Filters.{sum_by-filter_both}
use Rattle.std.proofs.lemmas.List.Sums.{sum_by-append, sum_by-le, sum_by-take-le}
use Rattle.prefix_lattice.specs.{HoldsWeight, IsNarrow, IsPrefix, PrefixValue, RecordValue, covers, record_limit}
use Rattle.prefix_lattice.specs.{total_weight, prefix_weight}
use Rattle.hhh_report.specs.{IsSound, records_before, AreWithinLists, IsThreshold, million}
use Rattle.shard_state.specs.{IsShard, ShardValue, shard_state_at, core_shape, TableShape}
use Rattle.hhh_report.specs.declared.line.Line.{Line}
use Rattle.hhh_report.specs.declared.report.Report.{Report}
use Rattle.hhh_report.specs.declared.reports.Reported.{Reported}
use Rattle.gate_workers.specs.{states_at}
use Rattle.report_text.specs.{ShowsPositions}
use Rattle.command_words.specs.{AreLimited}
use Rattle.command_words.specs.declared.settings.Settings.{Settings}
use Rattle.report_session.specs.Session.{IsShownInSession, asked_shape}
use Rattle.prefix_lattice.specs.declared.grain.Grain.{Grain}

-- the list of a shard: at most 2^24 records, each of a weight below 2^32
pub record IsBoundedReportList (list : List RecordValue) : Type 0 where
  pub few : length list ≤ record_limit
  pub light : All (λ rec. rec.weight < 2 ^ 32) list

-- so are the lists of shards that are kept
pub bounded_report_lists_if_kept : (opening : List ShardValue) (positions : List ℕ) → length positions ≡ length opening
    → All IsShard (states_at opening positions) → All (λ shard. IsBoundedReportList shard.list) opening
bounded_report_lists_if_kept [] positions many kept = All-nil (λ (shard : ShardValue). IsBoundedReportList shard.list)
bounded_report_lists_if_kept (shard ∷ rest) [] many kept = absurd (omega (arith, many))
bounded_report_lists_if_kept (shard ∷ rest) (position ∷ positions) many kept =
    let is_shard : IsShard (shard_state_at position shard) =
    All-head IsShard (shard_state_at position shard) (states_at rest positions) kept in
    All-cons (λ (shard : ShardValue). IsBoundedReportList shard.list) shard rest
    (record { few = is_shard.few; light = is_shard.bounded })
    (bounded_report_lists_if_kept rest positions (omega (arith, many))
    (All-tail IsShard (shard_state_at position shard) (states_at rest positions) kept))

-- a small list weighs at most 2^56
bounded_report_list_weight : (list : List RecordValue) → IsBoundedReportList list → total_weight list ≤ 2 ^ 56
bounded_report_list_weight list small =
    let each = sum_by-le (λ (rec : RecordValue). rec.weight) (2 ^ 32) list
    (All-weaker (λ (rec : RecordValue). rec.weight < 2 ^ 32) (λ (rec : RecordValue). rec.weight ≤ 2 ^ 32)
    (λ rec light. omega (arith, light)) list small.light) in
    let few : length list ≤ record_limit = small.few in
    omega (arith, each, few)

-- and the records before positions at most 2^56 for each list
bounded_report_records_weight : (lists : List (List RecordValue)) (positions : List ℕ) → All IsBoundedReportList lists
    → total_weight (records_before lists positions) ≤ length lists * 2 ^ 56
bounded_report_records_weight [] positions small = omega arith
bounded_report_records_weight (list ∷ lists) [] small = omega arith
bounded_report_records_weight (list ∷ lists) (position ∷ positions) small =
    let first = bounded_report_list_weight list (All-head IsBoundedReportList list lists small) in
    let front = sum_by-take-le (λ (rec : RecordValue). rec.weight) list position in
    let rest = bounded_report_records_weight lists positions (All-tail IsBoundedReportList list lists small) in
    let both = sum_by-append (λ (rec : RecordValue). rec.weight) (take position list)
    (records_before lists positions) in
    omega (arith, first, front, rest, both)

-- a prefix weighs at most what all records weigh
bounded_report_prefix_weighs_less : (prefix : PrefixValue) (records : List RecordValue) → prefix_weight prefix records ≤ total_weight records
bounded_report_prefix_weighs_less prefix records =
    omega (
      arith,
      sum_by-filter_both (covers prefix) (λ rec. not (covers prefix rec)) (λ rec. refl)
          (λ (rec : RecordValue). rec.weight) records,
    )

-- the high of a narrow interval that holds a weight is at most twice the total
bounded_report_high_is_within : (low high weight capacity total : ℕ) → 1 ≤ capacity → weight ≤ total → HoldsWeight low high weight
    → IsNarrow low high capacity total → high ≤ 2 * total
bounded_report_high_is_within low high weight capacity total some weighs holds narrow =
    let width = mul-le (high - low) 1 (high - low) capacity (omega arith) some in
    omega (arith, width, narrow, holds.low, weighs)

-- the threshold is at most one more than the total
bounded_report_threshold_within : (phi total threshold : ℕ) → phi ≤ million → IsThreshold phi total threshold → threshold ≤ total + 1
bounded_report_threshold_within phi total threshold most is =
    let share = mul-le phi total million total most (omega arith) in
    is.least (total + 1) (record { some = omega arith; share = omega (arith, share) })

-- positions within small lists are not too great
bounded_report_positions_within : (positions : List ℕ) (lists : List (List RecordValue)) → AreWithinLists positions lists
    → All IsBoundedReportList lists → All (λ position. position ≤ record_limit) positions
bounded_report_positions_within [] [] within small = All-nil (λ position. position ≤ record_limit)
bounded_report_positions_within [] (list ∷ lists) within small = absurd within
bounded_report_positions_within (position ∷ positions) [] within small = absurd within
bounded_report_positions_within (position ∷ positions) (list ∷ lists) within small =
    let is : IsBoundedReportList list = All-head IsBoundedReportList list lists small in
    All-cons (λ position. position ≤ record_limit) position positions (omega (arith, is.few, within.0))
    (bounded_report_positions_within positions lists within.1 (All-tail IsBoundedReportList list lists small))

-- a line whose prefix, of a grain, and numbers a text can show
abbrev pub IsBoundedReportLine : Grain → Line → Type 0
IsBoundedReportLine grain line = IsPrefix grain line.prefix × (line.lo < 2 ^ 64) × (line.hi < 2 ^ 64)

-- a report over this many shards whose positions and numbers a text can show
pub record IsBoundedReport (grain : Grain) (shards : ℕ) (report : Report) : Type 0 where
  pub positions : ShowsPositions report.positions
  pub as_many : length report.positions ≡ shards
  pub total : report.total < 2 ^ 64
  pub some : 1 ≤ report.threshold
  pub threshold : report.threshold < 2 ^ 64
  pub lines : All (IsBoundedReportLine grain) report.lines

-- a sound report of a session is one
pub bounded_report_if_sound : (opening : List ShardValue) (settings : Settings) (lists : List (List RecordValue))
    (reported : Reported) → AreLimited settings → length opening ≡ settings.shards → length lists ≡ settings.shards
    → core_shape opening ≡ asked_shape settings → All IsBoundedReportList lists → IsShownInSession opening settings reported
    → IsSound settings.grain reported.report lists settings.capacity settings.phi
    → IsBoundedReport settings.grain settings.shards reported.report
bounded_report_if_sound opening settings lists reported limited many many_lists alike small shown sound =
    let report = reported.report in
    let counted = records_before lists report.positions in
    let as_many : length report.positions ≡ settings.shards = shown.is_report.as_many ∙ many in
    let few : settings.shards ≤ 16 = limited.few_shards in
    let weighs = bounded_report_records_weight lists report.positions small in
    let total_is : report.total ≡ total_weight counted = sound.total in
    let total : report.total ≤ 16 * 2 ^ 56 = omega (arith, weighs, total_is, many_lists, few) in
    let threshold = bounded_report_threshold_within settings.phi report.total report.threshold limited.most_phi sound.threshold in
    let capacity : 2 ≤ settings.capacity = limited.least_capacity in
    record {
      positions = record {
        some = subst (λ n. 1 ≤ n) (sym as_many) limited.some_shards;
        few = subst (λ n. n ≤ 16) (sym as_many) few;
        within = bounded_report_positions_within report.positions lists sound.positions small;
      };
      as_many = as_many;
      total = omega (arith, total);
      some = sound.threshold.heavy.some;
      threshold = omega (arith, total, threshold);
      lines = λ k d lt.
          let line : Line = get_or report.lines k d in
          let holds : HoldsWeight line.lo line.hi (prefix_weight line.prefix counted) = sound.interval k d lt in
          let weight = bounded_report_prefix_weighs_less line.prefix counted in
          let high = bounded_report_high_is_within line.lo line.hi (prefix_weight line.prefix counted) settings.capacity report.total
          (omega (arith, capacity)) (omega (arith, weight, total_is)) holds (sound.width k d lt) in
          let is_line = (shown.is_report.is.lines line).0 (Contains-get_or report.lines k d lt) in (
            subst (λ (shape : TableShape). IsPrefix shape.grain line.prefix) alike is_line.is_prefix,
            omega (arith, holds.low, weight, total_is, total),
            omega (arith, high, total),
          );
    }
