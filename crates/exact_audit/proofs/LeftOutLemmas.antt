-- The first of the prefixes that are left out.
use Rattle.std.proofs.Common.{◌≡◌, ◌≢◌, ℕ, ◌+◌, ◌<◌, ◌≤◌, ◌^◌, nat_eq, Bool, true, false, ◌||◌, cond, List, [], ◌∷◌}
use Rattle.std.proofs.Common.{length}
use Rattle.std.proofs.Common.{take, get_or, Contains, Option, None, Some, unwrap_or, refl, sym, ap, ◌∙◌, subst, arith}
use Rattle.std.proofs.Common.{◌⊎◌, inl, inr, ⊎_elim}
use Rattle.std.specs.List.{list_any}
use Rattle.std.specs.Cmp.{IsTotalOrder}
use Rattle.std.specs.HashMap.{HashMap, keys}
use Rattle.std.specs.Map.{lookup, keys_of}
use Rattle.std.specs.Ordering.{ordering_reverse}
use Rattle.std.specs.declared.cmp.Ordering.{Ordering}
use Rattle.std.specs.declared.cmp.Ordering.TheVariants.{Less, Equal, Greater}
use Rattle.std.proofs.lemmas.Bool.{false≢true, eqb-true, eq-eqb, or_cases, or_left, or_right, cases_lt, cond_both}
use Rattle.std.proofs.lemmas.Bool.{true_from_ne_false}
use Rattle.std.proofs.lemmas.List.Folds.{list_any_more}
use Rattle.prefix_lattice.specs.{RecordValue, NodeValue, IsNode, node_index, node_at, PrefixValue, IsPrefix}
use Rattle.prefix_lattice.specs.{HasPrefixKey}
use Rattle.prefix_lattice.specs.{node_of_prefix, prefix_key}
use Rattle.prefix_lattice.specs.{report_order, conditioned_weight}
use Rattle.prefix_lattice.specs.declared.grain.Grain.{Grain}
use Rattle.prefix_lattice.proofs.NodePlaceLemmas.{node_at_own_place}
use Rattle.exact_audit.specs.declared.node_sums.Sums.{Sums}
use Rattle.exact_audit.specs.declared.left_out.LeftOut.{LeftOut}
use Rattle.exact_audit.specs.LeftOut.{IsLeftOut}
use Rattle.exact_audit.specs.LineCodes.{AreLineCodes, line_code}
use Rattle.exact_audit.specs.NodeSums.{no_sums, sums_for, sums_of, AreNodeSums}
use Rattle.exact_audit.specs.Findings.{first_by, first_with, IsFirst, IsFirstBefore}
use Rattle.exact_audit.specs.Findings.{IsFirstWith}
use Rattle.exact_audit.proofs.DepthLemmas.{coded_depth_has_line, uncoded_depth_has_no_line}
use Rattle.exact_audit.proofs.DepthLemmas.{IsNode-depth, IsPrefix-depth_finest, DepthLineKeysAreApart}

-- the first of those that meet a condition is the first of those that meet an equivalent one
pub IsFirst-same_left_out : (Meets Others : PrefixValue → ℕ → Type 0) (found : Option LeftOut)
    → ((prefix : PrefixValue) (weight : ℕ) → Meets prefix weight → Others prefix weight)
    → ((prefix : PrefixValue) (weight : ℕ) → Others prefix weight → Meets prefix weight)
    → IsFirst Meets found → IsFirst Others found
IsFirst-same_left_out Meets Others None to from first = λ prefix weight other. first prefix weight (from prefix weight other)
IsFirst-same_left_out Meets Others (Some found) to from first =
    (to found.prefix found.weight first.0, λ prefix weight other. first.1 prefix weight (from prefix weight other))

-- one more, which meets the condition too
pub IsFirst-more_left_out : IsTotalOrder report_order
    → (Meets Others : PrefixValue → ℕ → Type 0) (found : Option LeftOut)
    (one : LeftOut) → Others one.prefix one.weight
    → ((prefix : PrefixValue) (weight : ℕ) → Meets prefix weight → Others prefix weight)
    → ((prefix : PrefixValue) (weight : ℕ) → Others prefix weight → Meets prefix weight ⊎ (prefix ≡ one.prefix))
    → IsFirst Meets found → IsFirst Others (Some (first_with found one))
IsFirst-more_left_out order Meets Others None one meets to from first = (
  meets,
  λ prefix weight other less.
      ⊎_elim (λ (met : Meets prefix weight). first prefix weight met)
      (λ (same : prefix ≡ one.prefix). not_less order one.prefix
      (subst (λ p. report_order p one.prefix ≡ Less) same less))
      (from prefix weight other),
)
  where
    not_less : IsTotalOrder report_order → (prefix : PrefixValue) → report_order prefix prefix ≡ Less → ⊥
    not_less order prefix less =
        let turned : report_order prefix prefix ≡ ordering_reverse (report_order prefix prefix) =
        order.antisymm prefix prefix in
        let more : Less ≡ Greater = sym less ∙ turned ∙ ap ordering_reverse less in
        cc
IsFirst-more_left_out order Meets Others (Some found) one meets to from first =
    by (report_order one.prefix found.prefix) refl
  where
    not_less : (prefix : PrefixValue) → report_order prefix prefix ≡ Less → ⊥
    not_less prefix less =
        let turned : report_order prefix prefix ≡ ordering_reverse (report_order prefix prefix) =
        order.antisymm prefix prefix in
        let more : Less ≡ Greater = sym less ∙ turned ∙ ap ordering_reverse less in
        cc

    keeps : report_order one.prefix found.prefix ≢ Less → IsFirst Others (Some found)
    keeps not = (
      to found.prefix found.weight first.0,
      λ prefix weight other less.
          ⊎_elim (λ (met : Meets prefix weight). first.1 prefix weight met less)
          (λ (same : prefix ≡ one.prefix). not (subst (λ p. report_order p found.prefix ≡ Less) same less))
          (from prefix weight other),
    )

    by : (answer : Ordering) → report_order one.prefix found.prefix ≡ answer
        → IsFirst Others (Some (first_by answer one found))
    by Less is = (
      meets,
      λ prefix weight other less.
          ⊎_elim (λ (met : Meets prefix weight).
          first.1 prefix weight met (order.trans prefix one.prefix found.prefix less is))
          (λ (same : prefix ≡ one.prefix). not_less one.prefix
          (subst (λ p. report_order p one.prefix ≡ Less) same less))
          (from prefix weight other),
    )
    by Equal is = keeps (λ less. let same : Less ≡ Equal = sym less ∙ is in cc)
    by Greater is = keeps (λ less. let same : Less ≡ Greater = sym less ∙ is in cc)

-- before the first key
pub first_left_out_before_keys : (grain : Grain) (index : ℕ) (lines : List PrefixValue) (records : List RecordValue) (threshold : ℕ)
    (found : Option LeftOut) → IsFirstBefore grain index lines records threshold found
    → IsFirstWith grain index [] lines records threshold found
first_left_out_before_keys grain index lines records threshold found =
    IsFirst-same_left_out
    (λ prefix weight. IsLeftOut grain lines records threshold prefix weight × (node_index (node_of_prefix grain prefix) < index))
    (λ prefix weight. IsLeftOut grain lines records threshold prefix weight
    × ((node_index (node_of_prefix grain prefix) < index) ⊎ ((node_index (node_of_prefix grain prefix) ≡ index) × (false ≡ true)))) found
    (λ prefix weight met. (met.0, inl met.1))
    (λ prefix weight met. (
      met.0,
      ⊎_elim (λ (before : node_index (node_of_prefix grain prefix) < index). before)
          (λ (at : (node_index (node_of_prefix grain prefix) ≡ index) × (false ≡ true)). absurd (false≢true at.1)) met.1,
    ))

-- what a look-up finds is under a key that is there
left_out_lookup_has_key : {X : Type 0} (test : ℕ → Bool) (es : List (ℕ × X)) → list_any test (keys_of es) ≡ false
    → lookup test es ≡ None
left_out_lookup_has_key test [] none = refl
left_out_lookup_has_key {X} test (e ∷ es) none =
    split (test e.0) (left_out_lookup_has_key test es) none
  where
    split : (b : Bool) → (list_any test (keys_of es) ≡ false → lookup test es ≡ None)
        → (b || list_any test (keys_of es)) ≡ false → cond b (Some e.1) (lookup test es) ≡ None
    split true rest none = absurd (false≢true (sym none))
    split false rest none = rest none

-- a prefix of the node of an index is a prefix of the node
pub left_out_node_by_index : {grain : Grain} (node : NodeValue) (prefix : PrefixValue) → IsNode grain node
    → IsPrefix grain prefix → node_index (node_of_prefix grain prefix) ≡ node_index node
    → node_of_prefix grain prefix ≡ node
left_out_node_by_index {grain} node prefix is prefix_is same =
    sym (node_at_own_place (node_of_prefix grain prefix) (IsNode-depth prefix prefix_is))
    ∙ ap (node_at grain) same ∙ node_at_own_place node is

-- after the last key
pub first_left_out_after_keys : {S : Type 0} (node : NodeValue) (lines : List PrefixValue) (records : List RecordValue) (threshold : ℕ)
    (sums : HashMap ℕ Sums S) (found : Option LeftOut) → IsNode node.grain node → 1 ≤ threshold → AreNodeSums node lines records
    sums
    → IsFirstWith node.grain (node_index node) (keys sums) lines records threshold found
    → IsFirstBefore node.grain (node_index node + 1) lines records threshold found
first_left_out_after_keys {S} node lines records threshold sums found node_is some are =
    IsFirst-same_left_out
    (λ prefix weight. IsLeftOut node.grain lines records threshold prefix weight × ((node_index (node_of_prefix node.grain prefix) < node_index node)
    ⊎ ((node_index (node_of_prefix node.grain prefix) ≡ node_index node) × (list_any (nat_eq (prefix_key prefix)) (keys sums) ≡ true))))
    (λ prefix weight. IsLeftOut node.grain lines records threshold prefix weight × (node_index (node_of_prefix node.grain prefix) < node_index node + 1))
    found
    (λ prefix weight met. (
      met.0,
      ⊎_elim (λ (before : node_index (node_of_prefix node.grain prefix) < node_index node). omega (arith, before))
          (λ (at : (node_index (node_of_prefix node.grain prefix) ≡ node_index node)
          × (list_any (nat_eq (prefix_key prefix)) (keys sums) ≡ true)).
          omega (arith, at.0)) met.1,
    ))
    (λ prefix weight met. (
      met.0,
      ⊎_elim (λ (before : node_index (node_of_prefix node.grain prefix) < node_index node). inl before)
          (λ (past : node_index node ≤ node_index (node_of_prefix node.grain prefix)).
          let at : node_index (node_of_prefix node.grain prefix) ≡ node_index node = omega (arith, past, met.1) in
          inr (at, there prefix weight met.0 at))
          (cases_lt (node_index (node_of_prefix node.grain prefix)) (node_index node)),
    ))
  where
    there : (prefix : PrefixValue) (weight : ℕ) → IsLeftOut node.grain lines records threshold prefix weight
        → node_index (node_of_prefix node.grain prefix) ≡ node_index node
        → list_any (nat_eq (prefix_key prefix)) (keys sums) ≡ true
    there prefix weight left_out at =
        true_from_ne_false (list_any (nat_eq (prefix_key prefix)) (keys sums)) (λ none.
        let is : sums_for sums (prefix_key prefix) ≡ sums_of lines records prefix =
        are prefix left_out.is_prefix (left_out_node_by_index node prefix node_is left_out.is_prefix at) in
        let nothing : sums_for sums (prefix_key prefix) ≡ no_sums =
        ap (λ o. unwrap_or o no_sums) (left_out_lookup_has_key (nat_eq (prefix_key prefix)) sums.entries none) in
        let left : 0 ≡ conditioned_weight prefix lines records = ap (λ (s : Sums). s.left) (sym nothing ∙ is) in
        omega (arith, left, left_out.weighs, left_out.heavy, some))

-- one more key, whose conditioned weight is below the threshold
pub first_left_out_skips_light : {S : Type 0} (node : NodeValue) (lines : List PrefixValue) (records : List RecordValue)
    (threshold : ℕ)
    (sums : HashMap ℕ Sums S) (place key left : ℕ) (found : Option LeftOut) → IsNode node.grain node
    → AreNodeSums node lines records sums → place < length (keys sums) → get_or (keys sums) place 0 ≡ key
    → (sums_for sums key).left ≡ left → left < threshold
    → IsFirstWith node.grain (node_index node) (take place (keys sums)) lines records threshold found
    → IsFirstWith node.grain (node_index node) (take (place + 1) (keys sums)) lines records threshold found
first_left_out_skips_light node lines records threshold sums place key left found node_is are within at of_key light =
    IsFirst-same_left_out (With (take place (keys sums))) (With (take (place + 1) (keys sums))) found
    (λ prefix weight met. (
      met.0,
      ⊎_elim (λ (before : node_index (node_of_prefix node.grain prefix) < node_index node). inl before)
          (λ (is : (node_index (node_of_prefix node.grain prefix) ≡ node_index node)
          × (list_any (nat_eq (prefix_key prefix)) (take place (keys sums)) ≡ true)).
          inr (
            is.0,
            list_any_more (nat_eq (prefix_key prefix)) (keys sums) place 0 within
                ∙ or_left (list_any (nat_eq (prefix_key prefix)) (take place (keys sums)))
                (nat_eq (prefix_key prefix) (get_or (keys sums) place 0)) is.1,
          )) met.1,
    ))
    (λ prefix weight met. (
      met.0,
      ⊎_elim (λ (before : node_index (node_of_prefix node.grain prefix) < node_index node). inl before)
          (λ (is : (node_index (node_of_prefix node.grain prefix) ≡ node_index node)
          × (list_any (nat_eq (prefix_key prefix)) (take (place + 1) (keys sums)) ≡ true)).
          ⊎_elim (λ (old : list_any (nat_eq (prefix_key prefix)) (take place (keys sums)) ≡ true). inr (is.0, old))
          (λ (new : nat_eq (prefix_key prefix) (get_or (keys sums) place 0) ≡ true). absurd
          (no prefix weight met.0 is.0 new))
          (or_cases (list_any (nat_eq (prefix_key prefix)) (take place (keys sums)))
          (nat_eq (prefix_key prefix) (get_or (keys sums) place 0))
          (sym (list_any_more (nat_eq (prefix_key prefix)) (keys sums) place 0 within) ∙ is.1))) met.1,
    ))
  where
    With : List ℕ → PrefixValue → ℕ → Type 0
    With some prefix weight = IsLeftOut node.grain lines records threshold prefix weight
        × ((node_index (node_of_prefix node.grain prefix) < node_index node)
        ⊎ ((node_index (node_of_prefix node.grain prefix) ≡ node_index node) × (list_any (nat_eq (prefix_key prefix)) some ≡ true)))

    no : (prefix : PrefixValue) (weight : ℕ) → IsLeftOut node.grain lines records threshold prefix weight
        → node_index (node_of_prefix node.grain prefix) ≡ node_index node
        → nat_eq (prefix_key prefix) (get_or (keys sums) place 0) ≡ true → ⊥
    no prefix weight left_out node_same key_same =
        let is : sums_for sums (prefix_key prefix) ≡ sums_of lines records prefix =
        are prefix left_out.is_prefix (left_out_node_by_index node prefix node_is left_out.is_prefix node_same) in
        let same : prefix_key prefix ≡ key = eqb-true (prefix_key prefix) (get_or (keys sums) place 0) key_same ∙ at in
        let lefts : left ≡ conditioned_weight prefix lines records =
        sym of_key ∙ ap (λ k. (sums_for sums k).left) (sym same) ∙ ap (λ (s : Sums). s.left) is in
        omega (arith, lefts, left_out.weighs, left_out.heavy, light)

-- one more key, whose conditioned weight reaches the threshold
pub first_left_out_takes_heavy : {S : Type 0} → IsTotalOrder report_order → DepthLineKeysAreApart
    → (node : NodeValue) (lines : List PrefixValue) (records : List RecordValue) (codes : List ℕ) (threshold : ℕ)
    (sums : HashMap ℕ Sums S) (place key left : ℕ) (one : PrefixValue) (found : Option LeftOut) → IsNode node.grain node
    → AreNodeSums node lines records sums → AreLineCodes node.grain lines codes → place < length (keys sums)
    → get_or (keys sums) place 0 ≡ key → (sums_for sums key).left ≡ left → threshold ≤ left
    → HasPrefixKey node key one → key < 2 ^ 64
    → IsFirstWith node.grain (node_index node) (take place (keys sums)) lines records threshold found
    → IsFirstWith node.grain (node_index node) (take (place + 1) (keys sums)) lines records threshold
    (cond (list_any (nat_eq (line_code one)) codes) found
    (Some (first_with found (record { prefix = one; weight = left }))))
first_left_out_takes_heavy order apart node lines records codes threshold sums place key left one found node_is are coded within at
    of_key
    heavy one_is small before =
    cond_both (list_any (nat_eq (line_code one)) codes) found
    (Some (first_with found (record { prefix = one; weight = left })))
    (IsFirstWith node.grain (node_index node) (take (place + 1) (keys sums)) lines records threshold)
    (λ has. IsFirst-same_left_out (With (take place (keys sums))) (With (take (place + 1) (keys sums))) found to
    (λ prefix weight met. ⊎_elim (λ (old : With (take place (keys sums)) prefix weight). old)
    (λ (same : prefix ≡ one). absurd (met.0.no_line (subst (Contains lines) (sym same)
    (coded_depth_has_line apart lines codes one coded (IsPrefix-depth_finest one one_is.is_prefix) (omega (arith, one_is.of_key, small)) has))))
    (from prefix weight met)) before)
    (λ has_not. IsFirst-more_left_out order (With (take place (keys sums))) (With (take (place + 1) (keys sums))) found
    (record { prefix = one; weight = left }) (meets has_not) to from before)
  where
    With : List ℕ → PrefixValue → ℕ → Type 0
    With some prefix weight = IsLeftOut node.grain lines records threshold prefix weight
        × ((node_index (node_of_prefix node.grain prefix) < node_index node)
        ⊎ ((node_index (node_of_prefix node.grain prefix) ≡ node_index node) × (list_any (nat_eq (prefix_key prefix)) some ≡ true)))

    to : (prefix : PrefixValue) (weight : ℕ) → With (take place (keys sums)) prefix weight
        → With (take (place + 1) (keys sums)) prefix weight
    to prefix weight met = (
      met.0,
      ⊎_elim (λ (before : node_index (node_of_prefix node.grain prefix) < node_index node). inl before)
          (λ (is : (node_index (node_of_prefix node.grain prefix) ≡ node_index node)
          × (list_any (nat_eq (prefix_key prefix)) (take place (keys sums)) ≡ true)).
          inr (
            is.0,
            list_any_more (nat_eq (prefix_key prefix)) (keys sums) place 0 within
                ∙ or_left (list_any (nat_eq (prefix_key prefix)) (take place (keys sums)))
                (nat_eq (prefix_key prefix) (get_or (keys sums) place 0)) is.1,
          )) met.1,
    )

    from : (prefix : PrefixValue) (weight : ℕ) → With (take (place + 1) (keys sums)) prefix weight
        → With (take place (keys sums)) prefix weight ⊎ (prefix ≡ one)
    from prefix weight met =
        ⊎_elim (λ (before : node_index (node_of_prefix node.grain prefix) < node_index node). inl (met.0, inl before))
        (λ (is : (node_index (node_of_prefix node.grain prefix) ≡ node_index node)
        × (list_any (nat_eq (prefix_key prefix)) (take (place + 1) (keys sums)) ≡ true)).
        ⊎_elim (λ (old : list_any (nat_eq (prefix_key prefix)) (take place (keys sums)) ≡ true). inl
        (met.0, inr (is.0, old)))
        (λ (new : nat_eq (prefix_key prefix) (get_or (keys sums) place 0) ≡ true).
        inr (apart node.grain prefix one met.0.is_prefix one_is.is_prefix
        (left_out_node_by_index node prefix node_is met.0.is_prefix is.0 ∙ sym one_is.of_node)
        (eqb-true (prefix_key prefix) (get_or (keys sums) place 0) new ∙ at ∙ sym one_is.of_key)))
        (or_cases (list_any (nat_eq (prefix_key prefix)) (take place (keys sums)))
        (nat_eq (prefix_key prefix) (get_or (keys sums) place 0))
        (sym (list_any_more (nat_eq (prefix_key prefix)) (keys sums) place 0 within) ∙ is.1))) met.1

    meets : list_any (nat_eq (line_code one)) codes ≡ false → With (take (place + 1) (keys sums)) one left
    meets has_not =
        let is : sums_for sums (prefix_key one) ≡ sums_of lines records one = are one one_is.is_prefix one_is.of_node in (
          record {
            is_prefix = one_is.is_prefix;
            no_line = uncoded_depth_has_no_line lines codes one coded has_not;
            weighs = sym of_key ∙ ap (λ k. (sums_for sums k).left) (sym one_is.of_key) ∙ ap (λ (s : Sums). s.left) is;
            heavy = heavy;
          },
          inr (
            ap node_index one_is.of_node,
            list_any_more (nat_eq (prefix_key one)) (keys sums) place 0 within
                ∙ or_right (list_any (nat_eq (prefix_key one)) (take place (keys sums)))
                (nat_eq (prefix_key one) (get_or (keys sums) place 0))
                (eq-eqb (prefix_key one) (get_or (keys sums) place 0) (one_is.of_key ∙ sym at)),
          ),
        )
