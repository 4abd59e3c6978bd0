-- Each cut has a report.
use Rattle.std.proofs.Common.{◌≡◌, ℕ, ◌+◌, ◌*◌, ◌/◌, ◌<◌, ◌≤◌, List, [], ◌∷◌, length, map, All, AllPairs, Contains}
use Rattle.std.proofs.Common.{inl, inr, refl, sym, ap, ◌∙◌, subst, arith}
use Rattle.std.proofs.lemmas.Bool.{cases_lt}
use Rattle.std.proofs.lemmas.List.{length-map}
use Rattle.std.proofs.lemmas.List.Elements.{All-weaker, All-contains, All-contains_itself, All-map}
use Rattle.std.proofs.lemmas.List.Kept.{AllPairs-cons}
use Rattle.prefix_lattice.specs.{PrefixValue, IsPrefix, node_count}
use Rattle.shard_state.specs.{CutValue, IsCut, cut_positions, total_of_cut}
use Rattle.cut_merge.specs.{interval_in_cut, FitsTotal}
use Rattle.hhh_report.specs.declared.line.Line.{Line}
use Rattle.hhh_report.specs.declared.report.Report.{Report}
use Rattle.hhh_report.specs.{IsThreshold, prefixes_of_lines, AreReportLines, line_limit}
use Rattle.hhh_output.specs.Reporting.{IsMonitored, low_in, high_in, IsUnexplained, IsLineOf, IsReportOf}
use Rattle.prefix_lattice.proofs.ListLemmas.{Contains-list_head, Contains-list_tail, Contains-list_cons}
use Rattle.prefix_lattice.proofs.ListLemmas.{Contains-empty_list, AllPairs-list_head, AllPairs-list_tail}
use Rattle.hhh_output.proofs.PrefixNodeLemmas.{prefix_node_place_is_small}
use Rattle.hhh_output.proofs.AppendedLineLemmas.{appended_line_candidates_are_few}
use Rattle.hhh_output.proofs.OneReportLemmas.{BeforeInOneReport}
use Rattle.hhh_output.proofs.NearLineLemmas.{NearLineLevelsFall}
use Rattle.hhh_output.proofs.SortedPrefixLemmas.{ComesBeforePrefix, PrefixesCanBeSorted}
use Rattle.hhh_output.proofs.SortedPrefixLemmas.{each_list_has_sorted_prefixes}
use Rattle.hhh_output.proofs.ChosenLineLemmas.{AreChosenLines, each_list_has_chosen_lines}
use Rattle.hhh_output.proofs.MonitoredPrefixLemmas.{Contains-monitored_map, MonitoredPrefixesAreFew}
use Rattle.hhh_output.proofs.MonitoredPrefixLemmas.{each_cut_has_monitored_prefixes}

-- the least weight that is a share of a total
record IsExistingReportShare (share threshold : ℕ) : Type 0 where
  some : 1 ≤ threshold
  enough : share ≤ threshold * 1000000
  least : (weight : ℕ) → 1 ≤ weight → share ≤ weight * 1000000 → threshold ≤ weight

-- each share has one
existing_report_share : (share : ℕ) → (threshold : ℕ) × IsExistingReportShare share threshold
existing_report_share share = elim (cases_lt 0 share) [
  | inl above ↦ (
    (share + 999999) / 1000000,
    record {
      some = omega arith;
      enough = omega arith;
      least = λ weight one reaches. omega arith;
    },
  )
  | inr nothing ↦ (
    1,
    record {
      some = omega arith;
      enough = omega arith;
      least = λ weight one reaches. one;
    },
  )
]

-- each total has a threshold
existing_report_threshold : (phi total : ℕ) → (threshold : ℕ) × IsThreshold phi total threshold
existing_report_threshold phi total =
    let share = existing_report_share (phi * total) in (
      share.0,
      record {
        heavy = record { some = share.1.some; share = share.1.enough };
        least = λ weight heavy. share.1.least weight heavy.some heavy.share;
      },
    )

-- the line of a prefix
abbrev existing_report_line : CutValue → PrefixValue → Line
existing_report_line cut prefix = record { prefix = prefix; lo = low_in cut prefix; hi = high_in cut prefix }

-- the lines of some prefixes
abbrev existing_report_lines : CutValue → List PrefixValue → List Line
existing_report_lines cut prefixes = map (existing_report_line cut) prefixes

-- the prefixes of these lines
existing_report_prefixes : (cut : CutValue) (prefixes : List PrefixValue)
    → prefixes_of_lines (existing_report_lines cut prefixes) ≡ prefixes
existing_report_prefixes cut [] = refl
existing_report_prefixes cut (prefix ∷ prefixes) =
    ap (λ (rest : List PrefixValue). prefix ∷ rest) (existing_report_prefixes cut prefixes)

-- a line that shows the interval of one of some prefixes
record IsExistingReportLine (cut : CutValue) (prefixes : List PrefixValue) (line : Line) : Type 0 where
  there : Contains prefixes line.prefix
  low : line.lo ≡ low_in cut line.prefix
  high : line.hi ≡ high_in cut line.prefix

-- each line of some prefixes does
existing_report_line_shows : (cut : CutValue) (prefixes : List PrefixValue) (line : Line)
    → Contains (existing_report_lines cut prefixes) line → IsExistingReportLine cut prefixes line
existing_report_line_shows cut [] line there = absurd (Contains-empty_list line there)
existing_report_line_shows cut (prefix ∷ prefixes) line there =
    let own : IsExistingReportLine cut (prefix ∷ prefixes) (existing_report_line cut prefix) = record {
      there = Contains-list_head prefix prefixes;
      low = refl;
      high = refl;
    } in
    elim (Contains-list_cons (existing_report_line cut prefix) (existing_report_lines cut prefixes) line there) [
      | inl same ↦ subst (IsExistingReportLine cut (prefix ∷ prefixes)) same own
      | inr later ↦ let shows = existing_report_line_shows cut prefixes line later in record {
        there = Contains-list_tail prefix prefixes line.prefix shows.there;
        low = shows.low;
        high = shows.high;
      }
    ]

-- and each line that does is among theirs
existing_report_line_is_there : (cut : CutValue) (prefixes : List PrefixValue) (line : Line)
    → IsExistingReportLine cut prefixes line → Contains (existing_report_lines cut prefixes) line
existing_report_line_is_there cut prefixes line shows =
    let make : ℕ → ℕ → Line = λ lo hi. record { prefix = line.prefix; lo = lo; hi = hi } in
    let same : existing_report_line cut line.prefix ≡ line =
    ap (λ lo. make lo (high_in cut line.prefix)) (sym shows.low) ∙ ap (make line.lo) (sym shows.high) in
    subst (Contains (existing_report_lines cut prefixes)) same
    (Contains-monitored_map (existing_report_line cut) prefixes line.prefix shows.there)

-- lines come in the order of their prefixes
existing_report_lines_rise : (cut : CutValue) (prefixes : List PrefixValue) → AllPairs ComesBeforePrefix prefixes
    → AllPairs BeforeInOneReport (existing_report_lines cut prefixes)
existing_report_lines_rise cut [] rising = λ i j d before below. absurd (omega arith)
existing_report_lines_rise cut (prefix ∷ prefixes) rising =
    AllPairs-cons BeforeInOneReport (existing_report_line cut prefix) (existing_report_lines cut prefixes)
    (All-map (BeforeInOneReport (existing_report_line cut prefix)) (existing_report_line cut) prefixes
    (AllPairs-list_head ComesBeforePrefix prefix prefixes rising))
    (existing_report_lines_rise cut prefixes (AllPairs-list_tail ComesBeforePrefix prefix prefixes rising))

-- the laws that the report of a cut rests on
pub record ExistingReportLaws (cut : CutValue) : Type 0 where
  pub sortable : PrefixesCanBeSorted
  pub falls : NearLineLevelsFall
  pub few : MonitoredPrefixesAreFew cut
  pub within : (prefix : PrefixValue) → IsPrefix cut.shape.grain prefix
      → FitsTotal (total_of_cut cut) (interval_in_cut cut prefix)

-- the lines of prefixes in order, if they are few, are lines of a report
existing_report_lines_are_kept : (cut : CutValue) (prefixes : List PrefixValue) → ExistingReportLaws cut
    → All (IsPrefix cut.shape.grain) prefixes → AllPairs ComesBeforePrefix prefixes → length prefixes < line_limit
    → AreReportLines (existing_report_lines cut prefixes)
existing_report_lines_are_kept cut prefixes laws are_prefixes rising few = record {
  few = omega (arith, few, length-map prefixes (existing_report_line cut));
  ordered =
      All-map (λ (line : Line). line.lo ≤ line.hi) (existing_report_line cut) prefixes
      (All-weaker (IsPrefix cut.shape.grain) (λ prefix. low_in cut prefix ≤ high_in cut prefix)
      (λ prefix is. (laws.within prefix is).ordered) prefixes are_prefixes);
  rising = existing_report_lines_rise cut prefixes rising;
}

-- what is chosen of all that the cut monitors makes the lines of its report
module _ (cut : CutValue) (threshold : ℕ) (sorted chosen : List PrefixValue) (are_prefixes : All
    (IsPrefix cut.shape.grain) sorted)
    (are_there : (prefix : PrefixValue) → IsPrefix cut.shape.grain prefix → IsMonitored cut prefix
    → Contains sorted prefix)
    (are_chosen : AreChosenLines cut threshold [] sorted chosen) where
  existing_report_gives_line : (line : Line) → Contains (existing_report_lines cut chosen) line
      → IsLineOf cut threshold (prefixes_of_lines (existing_report_lines cut chosen)) line
  existing_report_gives_line line there =
      let shows = existing_report_line_shows cut chosen line there in
      let part = are_chosen.there line.prefix shows.there in
      record {
        is_prefix = All-contains (IsPrefix cut.shape.grain) sorted line.prefix are_prefixes part.0;
        low = shows.low;
        high = shows.high;
        monitored = part.1.monitored;
        heavy = omega (arith, shows.high, part.1.heavy);
        unexplained =
            subst (λ (lines : List PrefixValue). IsUnexplained cut threshold lines line.prefix)
            (sym (existing_report_prefixes cut chosen)) part.1.unexplained;
      }

  existing_report_takes_line : (line : Line)
      → IsLineOf cut threshold (prefixes_of_lines (existing_report_lines cut chosen)) line
      → Contains (existing_report_lines cut chosen) line
  existing_report_takes_line line is =
      existing_report_line_is_there cut chosen line (record {
        there = are_chosen.back line.prefix (are_there line.prefix is.is_prefix is.monitored) (record {
          monitored = is.monitored;
          heavy = omega (arith, is.high, is.heavy);
          unexplained =
              subst (λ (lines : List PrefixValue). IsUnexplained cut threshold lines line.prefix)
              (existing_report_prefixes cut chosen) is.unexplained;
        });
        low = is.low;
        high = is.high;
      })

-- each cut has a report
pub each_cut_has_existing_report : (cut : CutValue) (phi : ℕ) → IsCut cut → ExistingReportLaws cut
    → (report : Report) × IsReportOf cut phi report
each_cut_has_existing_report cut phi kept laws =
    let threshold = existing_report_threshold phi (total_of_cut cut) in
    let monitored = each_cut_has_monitored_prefixes cut kept laws.few (node_count cut.shape.grain) (omega arith) in
    let sorted = each_list_has_sorted_prefixes laws.sortable cut.shape.grain monitored.0 monitored.1.are_prefixes in
    let chosen = each_list_has_chosen_lines cut threshold.0 laws.falls [] sorted.0 sorted.1.rising in
    let are_prefixes : All (IsPrefix cut.shape.grain) chosen.0 =
    All-weaker (Contains chosen.0) (IsPrefix cut.shape.grain)
    (λ prefix there. All-contains (IsPrefix cut.shape.grain) sorted.0 prefix sorted.1.are_prefixes
    (chosen.1.there prefix there).0)
    chosen.0 (All-contains_itself chosen.0) in
    let few : length chosen.0 < line_limit = omega (
      arith,
      chosen.1.few,
      sorted.1.few,
      monitored.1.few,
      appended_line_candidates_are_few cut.shape.grain,
    ) in
    let are_there : (prefix : PrefixValue) → IsPrefix cut.shape.grain prefix → IsMonitored cut prefix
    → Contains sorted.0 prefix =
    λ prefix is has_entry.
    sorted.1.there prefix (monitored.1.there prefix is has_entry (prefix_node_place_is_small prefix is)) in (
      record {
        positions = cut_positions cut;
        total = total_of_cut cut;
        threshold = threshold.0;
        lines = existing_report_lines cut chosen.0;
        are_lines = existing_report_lines_are_kept cut chosen.0 laws are_prefixes chosen.1.rising few;
      },
      record {
        positions = refl;
        total = refl;
        threshold = threshold.1;
        lines = λ line. (
          existing_report_gives_line cut threshold.0 sorted.0 chosen.0 sorted.1.are_prefixes are_there chosen.1 line,
          existing_report_takes_line cut threshold.0 sorted.0 chosen.0 sorted.1.are_prefixes are_there chosen.1 line,
        );
      },
    )
