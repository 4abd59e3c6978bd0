-- The report of a cut that represents lists is sound over them.
use Rattle.std.proofs.Common.{◌≡◌, ◌≢◌, ℕ, ◌+◌, ◌-◌, ◌*◌, ◌<◌, ◌≤◌, eqb, cond, ◌&&◌, not, Bool, true, false, List}
use Rattle.std.proofs.Common.{[], ◌∷◌, length, map, filter, sum_by, All, AllPairs, Contains, ◌⊎◌, inl, inr, pos}
use Rattle.std.proofs.Common.{◌≤ℤ◌, refl, sym, ap, ◌∙◌, subst, arith}
use Rattle.std.proofs.lemmas.Bool.{cases_lt, eqb-true, eq-eqb, false≢true}
use Rattle.std.proofs.lemmas.Int.{ints}
use Rattle.std.proofs.lemmas.List.Sums.{sum_by-cons}
use Rattle.std.proofs.lemmas.List.Elements.{All-weaker, All-contains_itself, All-map}
use Rattle.std.proofs.lemmas.List.Kept.{AllPairs-cons}
use Rattle.std.proofs.Math.Nat.{mul-le-mul_left, mul_comm, mul_assoc}
use Rattle.std.specs.List.{AllZip}
use Rattle.std.specs.declared.cmp.Ordering.TheVariants.{Less}
use Rattle.std.specs.Cmp.{IsTotalOrder}
use Rattle.prefix_lattice.specs.{RecordValue, PrefixValue, IsPrefix, covers, node_of_prefix, prefix_key, prefix_weight}
use Rattle.prefix_lattice.specs.{total_weight, report_order, lines_under, one_line_covers, conditioned_weight, closest}
use Rattle.prefix_lattice.specs.{kept_pairs, HoldsWeight, IsNarrow}
use Rattle.shard_state.specs.{SnapshotValue, SnapshotRepresents, CutValue, cut_positions, total_of_cut, CutRepresents}
use Rattle.hhh_report.specs.{records_before, IsThreshold, prefixes_of_lines, AreReportLines, IsSound}
use Rattle.shard_state.specs.{HoldsNarrowly}
use Rattle.cut_merge.specs.{interval_in_cut, monitored_in_cut}
use Rattle.conditioned_bounds.specs.{bound_of, prefixes_asked, HoldWeights, AreNarrow}
use Rattle.hhh_report.specs.declared.line.Line.{Line}
use Rattle.hhh_report.specs.declared.report.Report.{Report}
use Rattle.hhh_report.specs.{AreOfGrain, LineHoldsWeight, IsNarrowLine, IsJustified}
use Rattle.hhh_output.specs.Reporting.{IsMonitored, low_in, high_in, IsLineOf, IsReportOf}
use Rattle.prefix_lattice.proofs.ListLemmas.{AllPairs-list_head, AllPairs-list_tail, Contains-list_head}
use Rattle.prefix_lattice.proofs.ListLemmas.{Contains-list_tail}
use Rattle.prefix_lattice.proofs.ListLemmas.{Contains-list_cons, Contains-empty_list}
use Rattle.hhh_output.proofs.OneReportLemmas.{BeforeInOneReport, BeforeInOneReport-strict}

-- the laws that soundness rests on, over one cut and its lists
pub record SoundReportLawsHold (cut : CutValue) (lists : List (List RecordValue)) : Type 0 where
  pub order : IsTotalOrder report_order
  pub stands : CutRepresents cut lists
  pub intervals : (prefix : PrefixValue) → IsPrefix cut.shape.grain prefix
      → HoldsNarrowly (interval_in_cut cut prefix) cut.shape.capacity
      (prefix_weight prefix (records_before lists (cut_positions cut)))
      (total_of_cut cut)
  pub light : (prefix : PrefixValue) → IsPrefix cut.shape.grain prefix → ¬ IsMonitored cut prefix
      → (interval_in_cut cut prefix).high * cut.shape.capacity ≤ total_of_cut cut
  pub total : total_of_cut cut ≡ total_weight (records_before lists (cut_positions cut))
  pub asked : (prefix : PrefixValue) (lines : List PrefixValue) → IsPrefix cut.shape.grain prefix
      → All (IsPrefix cut.shape.grain) lines
      → All (IsPrefix cut.shape.grain) (prefixes_asked prefix lines)
  pub at_least : (low high : PrefixValue → ℕ) (prefix : PrefixValue) (lines : List PrefixValue)
      (records : List RecordValue)
      → AllPairs (λ line other. line ≢ other) lines → HoldWeights low high records (prefixes_asked prefix lines)
      → pos (conditioned_weight prefix lines records) ≤ℤ bound_of low high prefix lines
  pub reached : (low high : PrefixValue → ℕ) (prefix : PrefixValue) (lines : List PrefixValue)
      (records : List RecordValue) (times whole least : ℕ)
      → AllPairs (λ line other. line ≢ other) lines → HoldWeights low high records (prefixes_asked prefix lines)
      → AreNarrow low high times whole (prefixes_asked prefix lines) → pos least ≤ℤ bound_of low high prefix lines
      → times * least
      ≤ times * conditioned_weight prefix lines records
      + (1 + length (closest prefix lines) + length (kept_pairs (closest prefix lines))) * whole

-- positions of a cut that represents lists are within them
sound_report_within_lists : (shards : List SnapshotValue) (lists : List (List RecordValue)) → AllZip SnapshotRepresents shards lists
    → AllZip (λ position list. position ≤ length list) (map (λ (s : SnapshotValue). s.position) shards) lists
sound_report_within_lists [] [] stand = tt
sound_report_within_lists [] (list ∷ lists) stand = stand
sound_report_within_lists (shard ∷ shards) [] stand = stand
sound_report_within_lists (shard ∷ shards) (list ∷ lists) stand = (stand.0.within, sound_report_within_lists shards lists stand.1)

-- no two lines of a report have the same prefix
pub sound_report_prefixes_differ : IsTotalOrder report_order → (lines : List Line) → AllPairs BeforeInOneReport lines
    → AllPairs (λ prefix other. prefix ≢ other) (prefixes_of_lines lines)
sound_report_prefixes_differ order [] rising = λ i j d before below. absurd (omega arith)
sound_report_prefixes_differ order (line ∷ lines) rising =
    AllPairs-cons (λ prefix other. prefix ≢ other) line.prefix (prefixes_of_lines lines)
    (All-map (λ other. line.prefix ≢ other) (λ (l : Line). l.prefix) lines
    (All-weaker (BeforeInOneReport line) (λ (other : Line). line.prefix ≢ other.prefix)
    (λ other before same.
    let back : BeforeInOneReport other line =
    subst (λ p. report_order p line.prefix ≡ Less) same
    (subst (λ p. report_order line.prefix p ≡ Less) (sym same) before) in
    BeforeInOneReport-strict order line other before back)
    lines (AllPairs-list_head BeforeInOneReport line lines rising)))
    (sound_report_prefixes_differ order lines (AllPairs-list_tail BeforeInOneReport line lines rising))

-- what holds of each line of a report, shown of any line that it contains
each_sound_report_line : (P : Line → Type 0) (lines : List Line) → ((line : Line) → Contains lines line → P line) → All P lines
each_sound_report_line P lines shown = All-weaker (Contains lines) P shown lines (All-contains_itself lines)

-- the lines of the report of a cut are of the cut's grain
pub sound_report_is_of_grain : (cut : CutValue) (phi : ℕ) (report : Report) → IsReportOf cut phi report
    → AreOfGrain cut.shape.grain report.lines
sound_report_is_of_grain cut phi report is =
    each_sound_report_line (λ line. IsPrefix cut.shape.grain line.prefix) report.lines
    (λ line there. ((is.lines line).0 there).is_prefix)

-- the conditioned weight of a prefix is at most its weight
sound_report_leaves_no_more : (prefix : PrefixValue) (lines : List PrefixValue) (records : List RecordValue)
    → conditioned_weight prefix lines records ≤ prefix_weight prefix records
sound_report_leaves_no_more prefix lines [] = omega arith
sound_report_leaves_no_more prefix lines (rec ∷ records) =
    by (covers prefix rec) (one_line_covers (lines_under prefix lines) rec) (sound_report_leaves_no_more prefix lines records)
  where
    kept : List RecordValue
    kept = filter (λ (r : RecordValue). covers prefix r && not (one_line_covers (lines_under prefix lines) r)) records

    covered : List RecordValue
    covered = filter (covers prefix) records

    by : (b c : Bool) → sum_by (λ (r : RecordValue). r.weight) kept ≤ sum_by (λ (r : RecordValue). r.weight) covered
        → sum_by (λ (r : RecordValue). r.weight) (cond (b && not c) (rec ∷ kept) kept)
        ≤ sum_by (λ (r : RecordValue). r.weight) (cond b (rec ∷ covered) covered)
    by true true rest = omega (arith, rest, sum_by-cons (λ (r : RecordValue). r.weight) rec covered)
    by true false rest =
        omega (
          arith,
          rest,
          sum_by-cons (λ (r : RecordValue). r.weight) rec covered,
          sum_by-cons (λ (r : RecordValue). r.weight) rec kept,
        )
    by false c rest = rest

-- a prefix whose high is at most the total over the capacity isn't heavy
sound_report_light_below : (phi capacity total threshold high : ℕ) → 2000000 ≤ phi * capacity → IsThreshold phi total threshold
    → high * capacity ≤ total → high < threshold
sound_report_light_below phi capacity total threshold high wide is light = elim (cases_lt high threshold) [
  | inl below ↦ below
  | inr above ↦
      let more : threshold * capacity ≤ high * capacity =
      subst (λ n. n ≤ high * capacity) (mul_comm capacity threshold)
      (subst (λ n. capacity * threshold ≤ n) (mul_comm capacity high) (mul-le-mul_left capacity above)) in
      let share : phi * (threshold * capacity) ≤ phi * total = mul-le-mul_left phi (omega (arith, more, light)) in
      let turned : phi * (threshold * capacity) ≡ threshold * (phi * capacity) =
      sym (mul_assoc phi threshold capacity) ∙ ap (λ n. n * capacity) (mul_comm phi threshold)
      ∙ mul_assoc threshold phi capacity in
      let many : threshold * 2000000 ≤ threshold * (phi * capacity) = mul-le-mul_left threshold wide in
      absurd (omega (arith, is.heavy.some, is.heavy.share, share, turned, many))
]

-- whether a key is among some keys
pub sound_report_key_or_not : (key : ℕ) (keys : List ℕ) → Contains keys key ⊎ ¬ Contains keys key
sound_report_key_or_not key [] = inr (Contains-empty_list key)
sound_report_key_or_not key (first ∷ keys) = by (eqb first key) refl (sound_report_key_or_not key keys)
  where
    by : (b : Bool) → eqb first key ≡ b → Contains keys key ⊎ ¬ Contains keys key
        → Contains (first ∷ keys) key ⊎ ¬ Contains (first ∷ keys) key
    by true same _ = inl (subst (Contains (first ∷ keys)) (eqb-true first key same) (Contains-list_head first keys))
    by false _ (inl later) = inl (Contains-list_tail first keys key later)
    by false differs (inr missing) = inr (λ there. elim (Contains-list_cons first keys key there) [
      | inl is ↦ false≢true (sym differs ∙ eq-eqb first key is)
      | inr later ↦ missing later
    ])

-- the intervals that a bound is made of hold the weights, and are narrow
sound_report_intervals_hold : (cut : CutValue) (lists : List (List RecordValue)) → SoundReportLawsHold cut lists
    → (prefix : PrefixValue) (lines : List PrefixValue) → IsPrefix cut.shape.grain prefix
    → All (IsPrefix cut.shape.grain) lines
    → HoldWeights (low_in cut) (high_in cut) (records_before lists (cut_positions cut)) (prefixes_asked prefix lines)
sound_report_intervals_hold cut lists holds prefix lines is_prefix are_prefixes =
    let records = records_before lists (cut_positions cut) in
    All-weaker (IsPrefix cut.shape.grain) (λ p. HoldsWeight (low_in cut p) (high_in cut p) (prefix_weight p records))
    (λ p is. (holds.intervals p is).holds) (prefixes_asked prefix lines)
    (holds.asked prefix lines is_prefix are_prefixes)

sound_report_intervals_are_narrow : (cut : CutValue) (lists : List (List RecordValue)) → SoundReportLawsHold cut lists
    → (prefix : PrefixValue) (lines : List PrefixValue) → IsPrefix cut.shape.grain prefix
    → All (IsPrefix cut.shape.grain) lines
    → AreNarrow (low_in cut) (high_in cut) cut.shape.capacity (total_weight (records_before lists (cut_positions cut)))
    (prefixes_asked prefix lines)
sound_report_intervals_are_narrow cut lists holds prefix lines is_prefix are_prefixes =
    All-weaker (IsPrefix cut.shape.grain)
    (λ p. IsNarrow (low_in cut p) (high_in cut p) cut.shape.capacity (total_weight (records_before lists
    (cut_positions cut))))
    (λ p is. subst (IsNarrow (low_in cut p) (high_in cut p) cut.shape.capacity) holds.total
    (holds.intervals p is).narrow)
    (prefixes_asked prefix lines) (holds.asked prefix lines is_prefix are_prefixes)

-- the report of a cut, the lists that it represents, and what holds of both
pub record CanBeSoundReport (cut : CutValue) (lists : List (List RecordValue)) (phi : ℕ) (report : Report) : Type 0 where
  pub holds : SoundReportLawsHold cut lists
  pub kept : AreReportLines report.lines
  pub wide : 2000000 ≤ phi * cut.shape.capacity
  pub is_report : IsReportOf cut phi report

-- its lines have prefixes, and no two the same
sound_report_has_prefixes : (cut : CutValue) (lists : List (List RecordValue)) (phi : ℕ) (report : Report)
    → CanBeSoundReport cut lists phi report → All (IsPrefix cut.shape.grain) (prefixes_of_lines report.lines)
sound_report_has_prefixes cut lists phi report reports =
    All-map (IsPrefix cut.shape.grain) (λ (l : Line). l.prefix) report.lines
    (sound_report_is_of_grain cut phi report reports.is_report)

-- a prefix that has no line is light once the lines are accounted for
sound_report_leaves_out_light : (cut : CutValue) (lists : List (List RecordValue)) (phi : ℕ) (report : Report)
    → CanBeSoundReport cut lists phi report → (prefix : PrefixValue) → IsPrefix cut.shape.grain prefix
    → ¬ Contains (prefixes_of_lines report.lines) prefix
    → conditioned_weight prefix (prefixes_of_lines report.lines) (records_before lists (cut_positions cut))
    < report.threshold
sound_report_leaves_out_light cut lists phi report reports prefix is_prefix missing =
    elim (sound_report_key_or_not (prefix_key prefix) (monitored_in_cut cut (node_of_prefix cut.shape.grain prefix))) [
      | inr unknown ↦
          let light : high_in cut prefix < report.threshold =
          sound_report_light_below phi cut.shape.capacity report.total report.threshold
          (high_in cut prefix) reports.wide
          reports.is_report.threshold
          (subst (λ n. high_in cut prefix * cut.shape.capacity ≤ n) (sym reports.is_report.total)
          (holds.light prefix is_prefix unknown)) in
          omega (arith, light, few, interval_holds.holds.high)
      | inl monitored ↦ elim (cases_lt (high_in cut prefix) report.threshold) [
        | inl light ↦ omega (arith, light, few, interval_holds.holds.high)
        | inr heavy ↦ elim (cases_lt (high_in cut prefix + sum_by (high_in cut) (kept_pairs (closest prefix lines)))
            (report.threshold + sum_by (low_in cut) (closest prefix lines))) [
              | inl explained ↦
                  let least = holds.at_least (low_in cut) (high_in cut) prefix lines records
                  (sound_report_prefixes_differ holds.order report.lines reports.kept.rising)
                  (sound_report_intervals_hold cut lists holds prefix lines is_prefix (sound_report_has_prefixes cut lists phi report reports)) in
                  omega (arith, ints, least, explained)
              | inr unexplained ↦
                  let line : Line = record { prefix = prefix; lo = low_in cut prefix; hi = high_in cut prefix } in
                  let is : IsLineOf cut report.threshold lines line = record {
                    is_prefix = is_prefix;
                    low = refl;
                    high = refl;
                    monitored = monitored;
                    heavy = heavy;
                    unexplained = omega (arith, ints, unexplained);
                  } in
                  absurd (missing (contains_prefix report.lines line ((reports.is_report.lines line).1 is)))
            ]
      ]
    ]
  where
    lines : List PrefixValue
    lines = prefixes_of_lines report.lines

    records : List RecordValue
    records = records_before lists (cut_positions cut)

    holds : SoundReportLawsHold cut lists
    holds = reports.holds

    interval_holds : HoldsNarrowly (interval_in_cut cut prefix) cut.shape.capacity (prefix_weight prefix records)
        (total_of_cut cut)
    interval_holds = holds.intervals prefix is_prefix

    few : conditioned_weight prefix lines records ≤ prefix_weight prefix records
    few = sound_report_leaves_no_more prefix lines records

    contains_prefix : (ls : List Line) (line : Line) → Contains ls line → Contains (prefixes_of_lines ls) line.prefix
    contains_prefix [] line there = absurd (Contains-empty_list line there)
    contains_prefix (l ∷ ls) line there = elim (Contains-list_cons l ls line there) [
      | inl same ↦
          subst (λ (x : Line). Contains (l.prefix ∷ prefixes_of_lines ls) x.prefix) same
          (Contains-list_head l.prefix (prefixes_of_lines ls))
      | inr later ↦ Contains-list_tail l.prefix (prefixes_of_lines ls) line.prefix (contains_prefix ls line later)
    ]

-- the report is sound
pub report_is_sound : (cut : CutValue) (lists : List (List RecordValue)) (phi : ℕ) (report : Report)
    → CanBeSoundReport cut lists phi report → IsSound cut.shape.grain report lists cut.shape.capacity phi
report_is_sound cut lists phi report reports =
    let holds = reports.holds in
    let is = reports.is_report in
    let records = records_before lists (cut_positions cut) in
    let at : records_before lists report.positions ≡ records = ap (records_before lists) is.positions in
    let prefixes = sound_report_has_prefixes cut lists phi report reports in
    let line_of : (line : Line) → Contains report.lines line
    → IsLineOf cut report.threshold (prefixes_of_lines report.lines) line =
    λ line there. (is.lines line).0 there in
    record {
      positions =
          subst (λ positions. AllZip (λ position list. position ≤ length list) positions lists) (sym is.positions)
          (sound_report_within_lists cut.shards lists holds.stands.shards);
      total = is.total ∙ holds.total ∙ ap total_weight (sym at);
      threshold = is.threshold;
      interval = subst (λ rs. All (LineHoldsWeight rs) report.lines) (sym at)
          (each_sound_report_line (LineHoldsWeight records) report.lines (λ line there.
          let l = line_of line there in
          let interval_holds = holds.intervals line.prefix l.is_prefix in
          record {
            low = omega (arith, l.low, interval_holds.holds.low);
            high =
                omega (arith, l.high, interval_holds.holds.high);
          }));
      width = each_sound_report_line (IsNarrowLine cut.shape.capacity report.total) report.lines (λ line there.
          let l = line_of line there in
          subst (λ n. (n - line.lo) * cut.shape.capacity ≤ report.total) (sym l.high)
          (subst (λ n. (high_in cut line.prefix - n) * cut.shape.capacity ≤ report.total) (sym l.low)
          (subst (λ n. (high_in cut line.prefix - low_in cut line.prefix) * cut.shape.capacity ≤ n) (sym is.total)
          (holds.intervals line.prefix l.is_prefix).narrow)));
      heavy = each_sound_report_line (λ line. report.threshold ≤ line.hi) report.lines (λ line there. (line_of line there).heavy);
      justified =
          subst (λ rs. All (IsJustified cut.shape.capacity report.threshold
          (prefixes_of_lines report.lines) rs) report.lines)
          (sym at)
          (each_sound_report_line (IsJustified cut.shape.capacity report.threshold
          (prefixes_of_lines report.lines) records) report.lines
          (λ line there.
          let l = line_of line there in
          holds.reached (low_in cut) (high_in cut) line.prefix
          (prefixes_of_lines report.lines) records cut.shape.capacity
          (total_weight records) report.threshold
          (sound_report_prefixes_differ holds.order report.lines reports.kept.rising)
          (sound_report_intervals_hold cut lists holds line.prefix (prefixes_of_lines report.lines) l.is_prefix prefixes)
          (sound_report_intervals_are_narrow cut lists holds line.prefix (prefixes_of_lines report.lines) l.is_prefix prefixes)
          l.unexplained));
      complete = λ prefix is_prefix missing.
          subst (λ rs. conditioned_weight prefix (prefixes_of_lines report.lines) rs < report.threshold) (sym at)
          (sound_report_leaves_out_light cut lists phi report reports prefix is_prefix missing);
    }
