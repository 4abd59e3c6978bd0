-- Finding the lines of a level, node by node, and sorting them.
use Rattle.std.proofs.Common.{◌≡◌, ◌≢◌, ℕ, ◌+◌, ◌*◌, ◌<◌, ◌≤◌, ◌↔◌, ◌⊎◌, inl, inr, eqb, ◌&&◌, Bool, true, false}
use Rattle.std.proofs.Common.{List, [], length, get_or, All, Contains, refl, sym, ap, ◌∙◌, subst, add-one}
use Rattle.std.proofs.Common.{if◌then◌else◌, arith}
use Rattle.std.specs.declared.cmp.Ordering.{Ordering}
use Rattle.std.specs.declared.cmp.Ordering.TheVariants.{Less, Equal, Greater}
use Rattle.std.specs.Ordering.{is_lt, ordering_reverse}
use Rattle.std.specs.Cmp.{IsTotalOrder}
use Rattle.std.specs.List.{IsDistinct}
use Rattle.std.specs.List.Sorted.{IsPermutation, IsSortedBy}
use Rattle.std.proofs.Math.Bool.{and_comm}
use Rattle.std.proofs.lemmas.Bool.{eqb-true, eq-eqb, false≢true, and_parts}
use Rattle.std.proofs.lemmas.List.Elements.{All-weaker, All-contains_itself, Contains-get_or}
use Rattle.std.proofs.lemmas.List.Sorted.{sorted_far, ranks_by, Contains-permutation, IsPermutation-sym}
use Rattle.std.proofs.lemmas.List.Sorted.{length_permutation}
use Rattle.std.proofs.lemmas.Map.Keys.{IsDistinct-IsPermutation, IsDistinct-from_apart, apart_from_distinct}
use Rattle.std.proofs.Math.Nat.{add-mul}
use Rattle.prefix_lattice.specs.{NodeValue, node_index, node_at, node_level, node_count, PrefixValue, IsPrefix}
use Rattle.prefix_lattice.specs.{node_of_prefix, prefix_level, finest_grain, under, same_as, report_order}
use Rattle.prefix_lattice.specs.declared.grain.Grain.{Grain}
use Rattle.prefix_lattice.proofs.NodePlaceLemmas.{node_at_own_place}
use Rattle.cut_merge.specs.{MergedValue}
use Rattle.hhh_report.specs.declared.line.Line.{Line}
use Rattle.hhh_output.specs.Selecting.{IsSelected, AreDistinct, AreOfLevel, nodes_before}
use Rattle.hhh_output.specs.Selecting.{most_candidates}
use Rattle.hhh_output.proofs.PrefixNodeLemmas.{prefix_node_is_valid, prefix_node_place_is_small}
use Rattle.hhh_output.proofs.PrefixNodeLemmas.{prefix_is_of_finest_grain}
use Rattle.hhh_output.proofs.OneReportLemmas.{BeforeInOneReport}

-- the nodes before an index are searched
pub record IsLevelSearch (merged : MergedValue) (threshold : ℕ) (reported : List PrefixValue) (level : ℕ)
    (found : List Line) (place : ℕ) : Type 0 where
  pub members : (line : Line)
      → Contains found line
      ↔ ((node_index (node_of_prefix merged.shape.grain line.prefix) < place) × (prefix_level line.prefix ≡ level)
      × IsSelected merged threshold reported line)
  pub distinct : AreDistinct found
  pub few : length found ≤ nodes_before merged.shape.grain level place * most_candidates merged.shape.grain

-- none at first
pub level_search_starts_empty : (merged : MergedValue) (threshold : ℕ) (reported : List PrefixValue) (level : ℕ)
    → IsLevelSearch merged threshold reported level [] 0
level_search_starts_empty merged threshold reported level = record {
  members = λ line. (
    λ there. absurd (no_line line there),
    λ part. let never : node_index (node_of_prefix merged.shape.grain line.prefix) < 0 = part.0 in absurd (omega arith),
  );
  distinct = λ i j d before below. absurd (omega arith);
  few = omega arith;
}
  where
    no_line : (line : Line) → Contains {X = Line} [] line → ⊥
    no_line line (k, below, at) = omega arith

-- a prefix whose node has this index is of this node
level_search_is_at_node : (grain : Grain) (prefix : PrefixValue) (node : NodeValue) (place : ℕ) → IsPrefix grain prefix
    → node ≡ node_at grain place → node_index (node_of_prefix grain prefix) ≡ place → node_of_prefix grain prefix ≡ node
level_search_is_at_node grain prefix node place is_prefix is same =
    sym (node_at_own_place (node_of_prefix grain prefix) (prefix_node_is_valid prefix is_prefix))
    ∙ ap (node_at grain) same ∙ sym is

level_search_nodes_grow : (grain : Grain) (level place : ℕ)
    → nodes_before grain level (place + 1) * most_candidates grain
    ≡ nodes_before grain level place * most_candidates grain
    + (if eqb (node_level (node_at grain place)) level then 1 else 0) * most_candidates grain
level_search_nodes_grow grain level place =
    ap (λ n. nodes_before grain level n * most_candidates grain) (add-one place)
    ∙ add-mul (nodes_before grain level place) (if eqb (node_level (node_at grain place)) level then 1 else 0)
    (most_candidates grain)

module _ (merged : MergedValue) (threshold : ℕ) (reported : List PrefixValue) (level : ℕ) (found : List Line)
    (place : ℕ) (node : NodeValue)
    (looks : IsLevelSearch merged threshold reported level found place) (is : node ≡ node_at merged.shape.grain place)
    (back : node_index node ≡ place) where
  -- a node of another level has none of its lines
  pub level_search_skips_node : node_level node ≢ level → IsLevelSearch merged threshold reported level found (place + 1)
  level_search_skips_node other = record {
    members = λ line. (
      λ there.
          let part = (looks.members line).0 there in
          let before : node_index (node_of_prefix merged.shape.grain line.prefix) < place = part.0 in
          (omega arith, part.1, part.2),
      λ part. (looks.members line).1 (earlier line part, part.1, part.2),
    );
    distinct = looks.distinct;
    few = omega (arith, looks.few, fewer);
  }
    where
      earlier : (line : Line)
          → (node_index (node_of_prefix merged.shape.grain line.prefix) < place + 1)
          × (prefix_level line.prefix ≡ level)
          × IsSelected merged threshold reported line
          → node_index (node_of_prefix merged.shape.grain line.prefix) < place
      earlier line part =
          let few : node_index (node_of_prefix merged.shape.grain line.prefix) < place + 1 = part.0 in
          let apart : node_index (node_of_prefix merged.shape.grain line.prefix) ≢ place =
          λ same. other (ap node_level (sym (level_search_is_at_node merged.shape.grain line.prefix node place
          part.2.is_prefix is same)) ∙ part.1) in
          omega (arith, apart)

      fewer : nodes_before merged.shape.grain level place * most_candidates merged.shape.grain
          ≤ nodes_before merged.shape.grain level (place + 1) * most_candidates merged.shape.grain
      fewer = omega (arith, level_search_nodes_grow merged.shape.grain level place)

  -- the lines found before are of other nodes
  pub level_search_was_elsewhere : All (λ (line : Line). node_of_prefix merged.shape.grain line.prefix ≢ node) found
  level_search_was_elsewhere = All-weaker (Contains found) (λ
      (line : Line). node_of_prefix merged.shape.grain line.prefix ≢ node)
      (λ line there same.
      let before : node_index (node_of_prefix merged.shape.grain line.prefix) < place =
      ((looks.members line).0 there).0 in
      let here : node_index (node_of_prefix merged.shape.grain line.prefix) ≡ place = ap node_index same
      ∙ back in omega arith)
      found (All-contains_itself found)

  -- a node of the level adds its lines
  pub level_search_takes_node : node_level node ≡ level → (after : List Line) (candidates : ℕ)
      → candidates ≤ most_candidates merged.shape.grain
      → ((line : Line) → Contains after line
      ↔ (Contains found line ⊎ ((node_of_prefix merged.shape.grain line.prefix ≡ node)
      × IsSelected merged threshold reported line)))
      → AreDistinct after → length after ≤ length found + candidates
      → IsLevelSearch merged threshold reported level after (place + 1)
  level_search_takes_node same after candidates few_candidates members distinct few = record {
    members = λ line. (
      λ there. elim ((members line).0 there) [
        | inl earlier ↦
            let part = (looks.members line).0 earlier in
            let before : node_index (node_of_prefix merged.shape.grain line.prefix) < place = part.0 in
            (omega arith, part.1, part.2)
        | inr new ↦
            let here : node_index (node_of_prefix merged.shape.grain line.prefix) ≡ place = ap node_index new.0
            ∙ back in
            (omega arith, ap node_level new.0 ∙ same, new.1)
      ],
      λ part. (members line).1 (sides line part (eqb (node_index
          (node_of_prefix merged.shape.grain line.prefix)) place) refl),
    );
    distinct = distinct;
    few =
        let count : Bool → ℕ = λ b. if b then 1 else 0 in
        let grain = merged.shape.grain in
        let one : count (eqb (node_level (node_at grain place)) level) * most_candidates grain
        ≡ 1 * most_candidates grain =
        ap (λ b. count b * most_candidates grain)
        (eq-eqb (node_level (node_at grain place)) level (ap node_level (sym is) ∙ same)) in
        omega (arith, few, few_candidates, looks.few, level_search_nodes_grow grain level place, one);
  }
    where
      sides : (line : Line)
          → (node_index (node_of_prefix merged.shape.grain line.prefix) < place + 1)
          × (prefix_level line.prefix ≡ level)
          × IsSelected merged threshold reported line
          → (b : Bool) → eqb (node_index (node_of_prefix merged.shape.grain line.prefix)) place ≡ b
          → Contains found line ⊎ ((node_of_prefix merged.shape.grain line.prefix ≡ node)
          × IsSelected merged threshold reported line)
      sides line part true here =
          inr (
            level_search_is_at_node merged.shape.grain line.prefix node place part.2.is_prefix is
                (eqb-true (node_index (node_of_prefix merged.shape.grain line.prefix)) place here),
            part.2,
          )
      sides line part false other =
          let few_places : node_index (node_of_prefix merged.shape.grain line.prefix) < place + 1 = part.0 in
          let apart : node_index (node_of_prefix merged.shape.grain line.prefix) ≢ place =
          λ same_place. false≢true (sym other ∙ eq-eqb (node_index
          (node_of_prefix merged.shape.grain line.prefix)) place same_place) in
          inl ((looks.members line).1 (omega (arith, apart), part.1, part.2))

-- the laws of the order of a report
pub record LevelSearchIsOrdered : Type 0 where
  pub total : IsTotalOrder report_order
  pub apart : (prefix other : PrefixValue) → IsPrefix finest_grain prefix → IsPrefix finest_grain other
      → (report_order prefix other ≡ Equal) ↔ (prefix ≡ other)
  pub reflexive : (prefix : PrefixValue) → under prefix prefix ≡ true
  pub antisymmetric : (prefix other : PrefixValue) → under prefix other ≡ true → under other prefix ≡ true
      → prefix ≡ other

-- whether two lines have the same prefix
abbrev level_search_same_line : Line → Line → Bool
level_search_same_line line other = same_as line.prefix other.prefix

-- lines of distinct prefixes stay so in another order
level_search_stays_distinct : LevelSearchIsOrdered → (lines moved : List Line) → IsPermutation lines moved → AreDistinct lines
    → AreDistinct moved
level_search_stays_distinct order lines moved moves distinct =
    let differ : (line other : Line) → line.prefix ≢ other.prefix → level_search_same_line line other ≡ false =
    λ line other apart. by line other apart (level_search_same_line line other) refl in
    let apart : IsDistinct level_search_same_line lines =
    IsDistinct-from_apart level_search_same_line lines
    (λ i j d before below. differ (get_or lines i d) (get_or lines j d) (distinct i j d before below)) in
    let still : IsDistinct level_search_same_line moved =
    IsDistinct-IsPermutation level_search_same_line
    (λ line other. and_comm (under line.prefix other.prefix) (under other.prefix line.prefix)) lines moved moves
    apart in
    λ i j d before below same. false≢true (sym (apart_from_distinct level_search_same_line moved i j d still before below)
    ∙ subst (λ p. same_as (get_or moved i d).prefix p ≡ true) same
    (ap (λ b. b && b) (order.reflexive (get_or moved i d).prefix)))
  where
    by : (line other : Line) → line.prefix ≢ other.prefix → (b : Bool) → level_search_same_line line other ≡ b
        → level_search_same_line line other ≡ false
    by line other apart true is =
        let both = and_parts (under line.prefix other.prefix) (under other.prefix line.prefix) is in
        absurd (apart (order.antisymmetric line.prefix other.prefix both.0 both.1))
    by line other apart false is = is

-- a line comes before another if it doesn't come after it and their prefixes differ
level_search_line_stands_before : LevelSearchIsOrdered → {grain : Grain} (line other : Line)
    → IsPrefix grain line.prefix
    → IsPrefix grain other.prefix
    → line.prefix ≢ other.prefix
    → is_lt (report_order other.prefix line.prefix) ≡ false → BeforeInOneReport line other
level_search_line_stands_before order line other is_prefix other_is apart after = by (report_order line.prefix other.prefix) refl
  where
    by : (o : Ordering) → report_order line.prefix other.prefix ≡ o → report_order line.prefix other.prefix ≡ Less
    by Less is = is
    by Equal is = absurd (apart ((order.apart line.prefix other.prefix (prefix_is_of_finest_grain line.prefix is_prefix)
        (prefix_is_of_finest_grain other.prefix other_is)).0 is))
    by Greater is =
        absurd (false≢true
        (sym after ∙ ap is_lt (order.total.antisymm other.prefix line.prefix ∙ ap ordering_reverse is)))

-- the lines of a level, sorted
pub level_search_is_sorted : (merged : MergedValue) (threshold : ℕ) (reported : List PrefixValue) (level : ℕ)
    (found sorted : List Line) → LevelSearchIsOrdered
    → IsLevelSearch merged threshold reported level found (node_count merged.shape.grain) → IsPermutation found sorted
    → IsSortedBy (λ line other. is_lt (report_order line.prefix other.prefix)) sorted
    → AreOfLevel merged threshold reported level sorted
level_search_is_sorted merged threshold reported level found sorted order looks moves rises =
    let lt : Line → Line → Bool = λ line other. is_lt (report_order line.prefix other.prefix) in
    let selected : (line : Line) → Contains sorted line
    → (prefix_level line.prefix ≡ level) × IsSelected merged threshold reported line =
    λ line there.
    let part =
    (looks.members line).0
    (Contains-permutation sorted found line (IsPermutation-sym found sorted moves) there) in
    (part.1, part.2) in
    let distinct = level_search_stays_distinct order found sorted moves looks.distinct in
    record {
      members = λ line. (
        selected line,
        λ part.
            Contains-permutation found sorted line moves
            ((looks.members line).1 (prefix_node_place_is_small line.prefix part.1.is_prefix, part.0, part.1)),
      );
      rising = λ i j d before below.
          let line = get_or sorted i d in
          let other = get_or sorted j d in
          let within : i < length sorted = omega arith in
          level_search_line_stands_before order line other (selected line (Contains-get_or sorted i d within)).1.is_prefix
          (selected other (Contains-get_or sorted j d below)).1.is_prefix
          (distinct i j d before below)
          (sorted_far lt (ranks_by order.total (λ (l : Line). l.prefix)) sorted rises i j d (omega arith) below);
      few = omega (arith, looks.few, length_permutation found sorted moves);
    }
