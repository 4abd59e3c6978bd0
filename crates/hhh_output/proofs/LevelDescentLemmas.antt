-- The lines of a report, level after level.
use Rattle.std.proofs.Common.{◌≡◌, ℕ, ◌+◌, ◌-◌, ◌*◌, ◌<◌, ◌≤◌, inl, inr, eqb, cond, List, [], ◌++◌, length, get_or}
use Rattle.std.proofs.Common.{sum_by, AllPairs, Contains, pos, ◌-ℤ◌, ◌≤ℤ◌, refl, sym, ap, ◌∙◌, subst, add-one}
use Rattle.std.proofs.Common.{length-append, arith}
use Rattle.std.specs.declared.cmp.Ordering.TheVariants.{Less, Equal, Greater}
use Rattle.std.specs.Ordering.{nat_cmp, ordering_then}
use Rattle.std.proofs.lemmas.Bool.{cases_lt, lt-ltb}
use Rattle.std.proofs.lemmas.List.{map-append, get_or_append_left, get_or-append_right}
use Rattle.std.proofs.lemmas.List.Elements.{All-weaker, All-contains_itself, All-map, Contains-append_left}
use Rattle.std.proofs.lemmas.List.Elements.{Contains-append_right, Contains-append_cases, Contains-get_or}
use Rattle.std.proofs.Math.Nat.{add-mul}
use Rattle.prefix_lattice.specs.{address_of, PrefixValue, closest, kept_pairs, prefix_level, deepest_level, node_count}
use Rattle.cut_merge.specs.{MergedValue}
use Rattle.hhh_report.specs.declared.line.Line.{Line}
use Rattle.hhh_report.specs.{prefixes_of_lines}
use Rattle.hhh_output.specs.Selecting.{low_of, high_of, IsSelected, AreOfLevel, AreDownTo}
use Rattle.hhh_output.specs.Selecting.{nodes_before, nodes_down, most_candidates}
use Rattle.hhh_output.proofs.OneReportLemmas.{BeforeInOneReport}
use Rattle.hhh_output.proofs.PrefixNodeLemmas.{prefix_level-few}
use Rattle.hhh_output.proofs.NearLineLemmas.{NearLineLevelsFall, near_lines-append}

-- whether merged tables give a line depends only on its closest lines
level_descent_asks_by_closest : (merged : MergedValue) (threshold : ℕ) (lines other : List PrefixValue) (line : Line)
    → closest line.prefix lines ≡ closest line.prefix other
    → IsSelected merged threshold lines line → IsSelected merged threshold other line
level_descent_asks_by_closest merged threshold lines other line same is = record {
  is_prefix = is.is_prefix;
  candidate = is.candidate;
  asked = record {
    low = is.asked.low;
    high = is.asked.high;
    heavy = is.asked.heavy;
    unexplained =
        subst (λ near.
        pos threshold
        ≤ℤ (pos (high_of merged line.prefix + sum_by (high_of merged) (kept_pairs near))
        -ℤ pos (sum_by (low_of merged) near))) same is.asked.unexplained;
  };
}

-- lines of a greater level come first
level_descent_puts_greater_first : (line later : Line) → prefix_level later.prefix < prefix_level line.prefix
    → BeforeInOneReport line later
level_descent_puts_greater_first line later falls =
    let p = line.prefix in
    let q = later.prefix in
    let less : nat_cmp (prefix_level q) (prefix_level p) ≡ Less =
    ap (λ b. cond b Less (cond (eqb (prefix_level q) (prefix_level p)) Equal Greater)) (lt-ltb (prefix_level q)
    (prefix_level p) falls) in
    ap (λ o. ordering_then o (ordering_then (nat_cmp (address_of p.source) (address_of q.source))
    (ordering_then (nat_cmp (length p.source) (length q.source))
    (nat_cmp (address_of p.dest) (address_of q.dest))))) less

-- two lists in order, where each element of the first comes before each of the second
level_descent_pairs-append : {X : Type 0} (R : X → X → Type 0) (xs ys : List X) → AllPairs R xs → AllPairs R ys
    → ((x y : X) → Contains xs x → Contains ys y → R x y) → AllPairs R (xs ++ ys)
level_descent_pairs-append {X} R xs ys first second across = λ i j d before below.
    let all : length (xs ++ ys) ≡ length xs + length ys = length-append xs ys in
    elim (cases_lt j (length xs)) [
      | inl both ↦
          let i_in : i < length xs = omega arith in
          subst (λ x. R x (get_or (xs ++ ys) j d)) (sym (get_or_append_left xs ys d i i_in))
          (subst (R (get_or xs i d)) (sym (get_or_append_left xs ys d j both)) (first i j d before both))
      | inr past ↦
          let j_in : j - length xs < length ys = omega arith in
          let at_j = get_or-append_right xs ys (length xs) j d refl past in
          elim (cases_lt i (length xs)) [
            | inl i_in ↦
                subst (λ x. R x (get_or (xs ++ ys) j d)) (sym (get_or_append_left xs ys d i i_in))
                (subst (R (get_or xs i d)) (sym at_j)
                (across (get_or xs i d) (get_or ys (j - length xs) d) (Contains-get_or xs i d i_in)
                (Contains-get_or ys (j - length xs) d j_in)))
            | inr i_past ↦
                subst (λ x. R x (get_or (xs ++ ys) j d)) (sym (get_or-append_right xs ys (length xs) i d refl i_past))
                (subst (R (get_or ys (i - length xs) d)) (sym at_j)
                (second (i - length xs) (j - length xs) d (omega arith) j_in))
          ]
    ]

-- at first no level is searched
pub level_descent_starts_empty : (merged : MergedValue) (threshold : ℕ) → AreDownTo merged threshold 0 []
level_descent_starts_empty merged threshold = record {
  above = λ line there. absurd (no_line line there);
  members = λ line high. (
    λ there. absurd (no_line line there),
    λ selected.
        let few : prefix_level line.prefix ≤ deepest_level =
        prefix_level-few line.prefix selected.is_prefix in
        absurd (omega arith),
  );
  rising = λ i j d before below. absurd (omega arith);
  few = omega arith;
}
  where
    no_line : (line : Line) → Contains {X = Line} [] line → ⊥
    no_line line (k, below, at) = omega arith

-- one more level
module _ (merged : MergedValue) (threshold levels : ℕ) (lines found : List Line) (law : NearLineLevelsFall)
    (some : levels < deepest_level + 1)
    (down : AreDownTo merged threshold levels lines)
    (of_level : AreOfLevel merged threshold (prefixes_of_lines lines) (deepest_level - levels) found) where
  level_descent_reaches_level : (line : Line) → Contains found line → prefix_level line.prefix ≡ deepest_level - levels
  level_descent_reaches_level line there = ((of_level.members line).0 there).0

  -- the new lines don't change which lines are closest to one of no smaller level
  level_descent_keeps_closest : (line : Line) → deepest_level < prefix_level line.prefix + (levels + 1)
      → closest line.prefix (prefixes_of_lines (lines ++ found)) ≡ closest line.prefix (prefixes_of_lines lines)
  level_descent_keeps_closest line high =
      ap (closest line.prefix) (map-append (λ (l : Line). l.prefix) lines found)
      ∙ near_lines-append line.prefix (prefixes_of_lines lines) (prefixes_of_lines found) law
      (All-map (λ p. prefix_level p ≤ prefix_level line.prefix) (λ (l : Line). l.prefix) found
      (All-weaker (Contains found) (λ (l : Line). prefix_level l.prefix ≤ prefix_level line.prefix)
      (λ other there. omega (arith, level_descent_reaches_level other there, high)) found (All-contains_itself found)))

  pub level_descent_goes_on : AreDownTo merged threshold (levels + 1) (lines ++ found)
  level_descent_goes_on = record {
    above = λ line there. elim (Contains-append_cases lines found line there) [
      | inl earlier ↦ let high : deepest_level < prefix_level line.prefix + levels = down.above line earlier in omega
          arith
      | inr new ↦ omega (arith, level_descent_reaches_level line new)
    ];
    members = λ line high. (
      λ there. level_descent_asks_by_closest merged threshold (prefixes_of_lines lines) (prefixes_of_lines (lines ++ found)) line
          (sym (level_descent_keeps_closest line high)) (elim (Contains-append_cases lines found line there) [
            | inl earlier ↦ (down.members line (down.above line earlier)).0 earlier
            | inr new ↦ ((of_level.members line).0 new).1
          ]),
      λ selected.
          let before =
          level_descent_asks_by_closest merged threshold (prefixes_of_lines (lines ++ found)) (prefixes_of_lines lines) line
          (level_descent_keeps_closest line high) selected in
          elim (cases_lt deepest_level (prefix_level line.prefix + levels)) [
            | inl above ↦ Contains-append_left lines found line ((down.members line above).1 before)
            | inr not_above ↦ let here : prefix_level line.prefix ≡ deepest_level - levels = omega arith in
                Contains-append_right lines found line ((of_level.members line).1 (here, before))
          ],
    );
    rising = level_descent_pairs-append BeforeInOneReport lines found down.rising of_level.rising
        (λ line later earlier new.
        let high : deepest_level < prefix_level line.prefix + levels = down.above line earlier in
        level_descent_puts_greater_first line later (omega (arith, level_descent_reaches_level later new)));
    few =
        let grain = merged.shape.grain in
        let here = nodes_before grain (deepest_level - levels) (node_count grain) in
        let more : nodes_down grain (levels + 1) * most_candidates grain
        ≡ nodes_down grain levels * most_candidates grain + here * most_candidates grain =
        ap (λ n. nodes_down grain n * most_candidates grain) (add-one levels)
        ∙ add-mul (nodes_down grain levels) here (most_candidates grain) in
        omega (arith, more, down.few, of_level.few, length-append lines found);
  }
