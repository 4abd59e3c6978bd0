-- What is selected from merged tables that represent a cut is the report of the cut.
use Rattle.std.proofs.Common.{◌≡◌, ℕ, ◌+◌, ◌*◌, ◌≤◌, ◌↔◌, ◌≢◌, List, [], ◌∷◌, ◌++◌, length, sum_by, All, AllPairs}
use Rattle.std.proofs.Common.{Contains, pos, ◌-ℤ◌, ◌≤ℤ◌, refl, sym, ap, ◌∙◌, subst, length-append, arith}
use Rattle.std.proofs.lemmas.List.{get_or_append_left, get_or-append-add}
use Rattle.std.proofs.lemmas.List.Sums.{sum_by-cons}
use Rattle.std.proofs.lemmas.List.Elements.{All-head, All-tail, All-weaker, All-contains_itself, All-map}
use Rattle.std.proofs.Math.Nat.{mul-le-mul_left, mul-le-mul_right}
use Rattle.prefix_lattice.specs.{NodeValue, IsNode, PrefixValue, IsPrefix, node_of_prefix, prefix_key, IsPrefixKey}
use Rattle.prefix_lattice.specs.{closest, kept_pairs, deepest_level}
use Rattle.prefix_lattice.specs.declared.grain.Grain.{Grain}
use Rattle.shard_state.specs.{CutValue, IsCut, TableShape, most_grain_capacity, total_of_cut}
use Rattle.cut_merge.specs.{MergedValue, RepresentsCut, candidates_at, interval_in_cut, monitored_in_cut}
use Rattle.cut_merge.specs.{FitsTotal, TableInterval}
use Rattle.conditioned_bounds.specs.{bound_of, prefixes_asked}
use Rattle.hhh_report.specs.declared.line.Line.{Line}
use Rattle.hhh_report.specs.{prefixes_of_lines, AreOfGrain, AreReportLines}
use Rattle.hhh_output.specs.Reporting.{low_in, high_in, IsLineOf}
use Rattle.hhh_output.specs.Selecting.{low_of, high_of, IsSelected, AreCandidates, most_candidates}
use Rattle.hhh_output.specs.Selecting.{AreDownTo}
use Rattle.hhh_output.proofs.PrefixNodeLemmas.{prefix_node_is_valid}
use Rattle.hhh_output.proofs.AppendedLineLemmas.{appended_lines-few}

-- the laws of monitored keys
pub record SelectionHasFewCandidates (cut : CutValue) : Type 0 where
  pub keyed : (node : NodeValue) → IsNode cut.shape.grain node → All (IsPrefixKey node) (monitored_in_cut cut node)
  pub distinct : (node : NodeValue) → AllPairs (λ key other. key ≢ other) (monitored_in_cut cut node)
  pub few : (node : NodeValue) → IsNode cut.shape.grain node
      → length (monitored_in_cut cut node) ≤ length cut.shards * cut.shape.capacity

-- the entries of a node's tables are no more than a node can have
pub selection_entries-few : (cut : CutValue) → IsCut cut
    → length cut.shards * cut.shape.capacity ≤ most_candidates cut.shape.grain
selection_entries-few cut kept =
    let wide : length cut.shards * cut.shape.capacity ≤ length cut.shards * most_grain_capacity cut.shape.grain =
    mul-le-mul_left (length cut.shards) kept.of_grain in
    let many : length cut.shards * most_grain_capacity cut.shape.grain ≤ most_candidates cut.shape.grain =
    mul-le-mul_right (most_grain_capacity cut.shape.grain) kept.few in
    omega (arith, wide, many)

-- so are the candidates of merged tables that represent a cut
pub selection_has_candidates : (merged : MergedValue) (cut : CutValue) → IsCut cut → RepresentsCut merged cut
    → SelectionHasFewCandidates cut → AreCandidates merged
selection_has_candidates merged cut kept stands law =
    let grain : merged.shape.grain ≡ cut.shape.grain = ap (λ (s : TableShape). s.grain) stands.shape in
    let of_cut : (node : NodeValue) → IsNode merged.shape.grain node → IsNode cut.shape.grain node =
    λ node is_node. subst (λ g. IsNode g node) grain is_node in
    record {
      keyed = λ node is_node.
          subst (All (IsPrefixKey node)) (sym (stands.candidates node (of_cut node is_node)))
          (law.keyed node (of_cut node is_node));
      distinct = λ node is_node.
          subst (AllPairs (λ (key : ℕ) other. key ≢ other)) (sym (stands.candidates node (of_cut node is_node)))
          (law.distinct node);
      few = λ node is_node.
          omega (
            arith,
            law.few node (of_cut node is_node),
            ap length (stands.candidates node (of_cut node is_node)),
            selection_entries-few cut kept,
            ap most_candidates grain,
          );
    }

-- sums that agree on each element
selection_sums-agree : {X : Type 0} (f g : X → ℕ) (xs : List X) → All (λ x. f x ≡ g x) xs → sum_by f xs ≡ sum_by g xs
selection_sums-agree f g [] agree = refl
selection_sums-agree f g (x ∷ xs) agree =
    sum_by-cons f x xs ∙ ap (λ n. n + sum_by f xs) (All-head (λ x. f x ≡ g x) x xs agree)
    ∙ ap (λ n. g x + n) (selection_sums-agree f g xs (All-tail (λ x. f x ≡ g x) x xs agree)) ∙ sym (sum_by-cons g x xs)

selection_all_of_left : {X : Type 0} (P : X → Type 0) (xs ys : List X) → All P (xs ++ ys) → All P xs
selection_all_of_left P xs ys all = λ k d below.
    subst P (get_or_append_left xs ys d k below) (all k d (omega (arith, length-append xs ys)))

selection_all_of_right : {X : Type 0} (P : X → Type 0) (xs ys : List X) → All P (xs ++ ys) → All P ys
selection_all_of_right P xs ys all = λ k d below.
    subst P (get_or-append-add xs ys k d) (all (length xs + k) d (omega (arith, length-append xs ys)))

module _ (merged : MergedValue) (cut : CutValue) (stands : RepresentsCut merged cut)
    (asked : (grain : Grain) (prefix : PrefixValue) (lines : List PrefixValue) → IsPrefix grain prefix
    → All (IsPrefix grain) lines → All (IsPrefix grain) (prefixes_asked prefix lines)) where
  selection_grain : merged.shape.grain ≡ cut.shape.grain
  selection_grain = ap (λ (s : TableShape). s.grain) stands.shape

  -- the prefixes of the merged tables' grain are those of the cut's
  selection_prefix_of_cut : (prefix : PrefixValue) → IsPrefix merged.shape.grain prefix
      → IsPrefix cut.shape.grain prefix
  selection_prefix_of_cut prefix is = subst (λ g. IsPrefix g prefix) selection_grain is

  -- and their candidates are what the cut monitors
  selection_candidates_of_cut : (prefix : PrefixValue) → IsPrefix cut.shape.grain prefix
      → candidates_at merged (node_of_prefix merged.shape.grain prefix)
      ≡ monitored_in_cut cut (node_of_prefix cut.shape.grain prefix)
  selection_candidates_of_cut prefix is =
      ap (λ g. candidates_at merged (node_of_prefix g prefix)) selection_grain
      ∙ stands.candidates (node_of_prefix cut.shape.grain prefix) (prefix_node_is_valid prefix is)

  selection_low_is_same : (prefix : PrefixValue) → IsPrefix cut.shape.grain prefix
      → low_of merged prefix ≡ low_in cut prefix
  selection_low_is_same prefix is_prefix = ap (λ (i : TableInterval). i.low) (stands.intervals prefix is_prefix)

  selection_high_is_same : (prefix : PrefixValue) → IsPrefix cut.shape.grain prefix
      → high_of merged prefix ≡ high_in cut prefix
  selection_high_is_same prefix is_prefix = ap (λ (i : TableInterval). i.high) (stands.intervals prefix is_prefix)

  -- a bound from merged tables is that from the cut
  selection_bound_is_same : (prefix : PrefixValue) (lines : List PrefixValue) → IsPrefix cut.shape.grain prefix
      → All (IsPrefix cut.shape.grain) lines
      → bound_of (low_of merged) (high_of merged) prefix lines
      ≡ bound_of (low_in cut) (high_in cut) prefix lines
  selection_bound_is_same prefix lines is_prefix are_prefixes =
      let near = closest prefix lines in
      let parts : All (IsPrefix cut.shape.grain) (near ++ kept_pairs near) =
      All-tail (IsPrefix cut.shape.grain) prefix (near ++ kept_pairs near)
      (asked cut.shape.grain prefix lines is_prefix are_prefixes) in
      let lows : sum_by (low_of merged) near ≡ sum_by (low_in cut) near =
      selection_sums-agree (low_of merged) (low_in cut) near
      (All-weaker (IsPrefix cut.shape.grain) (λ p. low_of merged p ≡ low_in cut p) selection_low_is_same near
      (selection_all_of_left (IsPrefix cut.shape.grain) near (kept_pairs near) parts)) in
      let highs : sum_by (high_of merged) (kept_pairs near) ≡ sum_by (high_in cut) (kept_pairs near) =
      selection_sums-agree (high_of merged) (high_in cut) (kept_pairs near)
      (All-weaker (IsPrefix cut.shape.grain) (λ p. high_of merged p
      ≡ high_in cut p) selection_high_is_same (kept_pairs near)
      (selection_all_of_right (IsPrefix cut.shape.grain) near (kept_pairs near) parts)) in
      ap (λ n. pos (n + sum_by (high_of merged) (kept_pairs near)) -ℤ pos (sum_by (low_of merged) near))
      (selection_high_is_same prefix is_prefix)
      ∙ ap (λ n. pos (high_in cut prefix + n) -ℤ pos (sum_by (low_of merged) near)) highs
      ∙ ap (λ n. pos (high_in cut prefix + sum_by (high_in cut) (kept_pairs near)) -ℤ pos n) lows

  -- a line that merged tables select over others is a line of the cut's report over them
  selection_gives_line : (threshold : ℕ) (lines : List PrefixValue) (line : Line) → All (IsPrefix cut.shape.grain) lines
      → IsSelected merged threshold lines line → IsLineOf cut threshold lines line
  selection_gives_line threshold lines line are_prefixes is =
      let of_cut = selection_prefix_of_cut line.prefix is.is_prefix in
      record {
        is_prefix = of_cut;
        low = is.asked.low ∙ selection_low_is_same line.prefix of_cut;
        high = is.asked.high ∙ selection_high_is_same line.prefix of_cut;
        monitored =
            subst (λ keys. Contains keys (prefix_key line.prefix)) (selection_candidates_of_cut line.prefix of_cut)
            is.candidate;
        heavy = is.asked.heavy;
        unexplained =
            subst (λ bound. pos threshold ≤ℤ bound) (selection_bound_is_same line.prefix lines of_cut are_prefixes)
            is.asked.unexplained;
      }

  selection_takes_line : (threshold : ℕ) (lines : List PrefixValue) (line : Line) → All (IsPrefix cut.shape.grain) lines
      → IsLineOf cut threshold lines line → IsSelected merged threshold lines line
  selection_takes_line threshold lines line are_prefixes is = record {
    is_prefix = subst (λ g. IsPrefix g line.prefix) (sym selection_grain) is.is_prefix;
    candidate =
        subst (λ keys. Contains keys (prefix_key line.prefix)) (sym
        (selection_candidates_of_cut line.prefix is.is_prefix))
        is.monitored;
    asked = record {
      low = is.low ∙ sym (selection_low_is_same line.prefix is.is_prefix);
      high = is.high ∙ sym (selection_high_is_same line.prefix is.is_prefix);
      heavy = is.heavy;
      unexplained =
          subst (λ bound. pos threshold ≤ℤ bound) (sym (selection_bound_is_same line.prefix lines is.is_prefix are_prefixes))
          is.unexplained;
    };
  }

  -- the lines down to level 0 are those of the cut's report
  module _ (threshold : ℕ) (lines : List Line) (down : AreDownTo merged threshold (deepest_level + 1) lines) where
    pub selection_lines_are_of_grain : AreOfGrain cut.shape.grain lines
    selection_lines_are_of_grain =
        All-weaker (Contains lines) (λ (l : Line). IsPrefix cut.shape.grain l.prefix)
        (λ line there. selection_prefix_of_cut line.prefix ((down.members line (omega arith)).0 there).is_prefix) lines
        (All-contains_itself lines)

    selection_has_prefixes : All (IsPrefix cut.shape.grain) (prefixes_of_lines lines)
    selection_has_prefixes =
        All-map (IsPrefix cut.shape.grain) (λ (l : Line). l.prefix) lines selection_lines_are_of_grain

    pub selection_gives_all_lines : (line : Line) → Contains lines line ↔ IsLineOf cut threshold (prefixes_of_lines lines) line
    selection_gives_all_lines line = (
      λ there.
          selection_gives_line threshold (prefixes_of_lines lines) line selection_has_prefixes ((down.members line (omega arith)).0 there),
      λ is. (down.members line (omega arith)).1 (selection_takes_line threshold (prefixes_of_lines lines) line selection_has_prefixes is),
    )

    -- and they are lines of a report
    pub selection_lines_are_kept : ((prefix : PrefixValue) → IsPrefix cut.shape.grain prefix
        → FitsTotal (total_of_cut cut) (interval_in_cut cut prefix))
        → AreReportLines lines
    selection_lines_are_kept within = record {
      few = appended_lines-few merged.shape.grain (deepest_level + 1) (length lines) (omega arith) down.few;
      ordered = All-weaker (Contains lines) (λ (l : Line). l.lo ≤ l.hi)
          (λ line there.
          let is = (selection_gives_all_lines line).0 there in
          omega (arith, is.low, is.high, (within line.prefix is.is_prefix).ordered))
          lines (All-contains_itself lines);
      rising = down.rising;
    }
