-- Keys in first-seen order: one more, many more, and which keys are among them.
use Rattle.std.proofs.Common.{◌≡◌, ◌≢◌, ℕ, ◌≤◌, ◌⊎◌, inl, inr, length, All, AllPairs, Contains, arith, eqb, not}
use Rattle.std.proofs.Common.{cond, ◌||◌, Bool, true, false, List, [], ◌∷◌, ◌++◌, filter, fold, refl, sym, ap, ◌∙◌}
use Rattle.std.proofs.Common.{subst, if◌then◌else◌}
use Rattle.std.proofs.lemmas.Bool.{eqb-true, eq-eqb, false≢true, or_parts}
use Rattle.std.proofs.lemmas.List.{append_assoc, append-nil}
use Rattle.std.proofs.lemmas.List.Elements.{filter-append, All-cons, All-head, All-tail, All-filter, All-weaker}
use Rattle.std.proofs.lemmas.List.Elements.{filter_passes}
use Rattle.std.proofs.lemmas.List.Kept.{AllPairs-cons, AllPairs-filter}
use Rattle.std.proofs.lemmas.List.Folds.{list_any-append}
use Rattle.std.proofs.lemmas.List.Sums.{length-filter, count_by-le-length}
use Rattle.std.proofs.lemmas.Map.Views.{any-filter_same}
use Rattle.std.specs.List.{list_any}
use Rattle.prefix_lattice.proofs.ListLemmas.{Contains-list_head, Contains-list_tail, Contains-list_cons}
use Rattle.prefix_lattice.proofs.ListLemmas.{Contains-empty_list}
use Rattle.cut_merge.specs.CutTables.{first_seen}
use Rattle.cut_merge.specs.Merged.{keys_seen}

-- the keys that differ from a first one
abbrev first_seen_others : ℕ → List ℕ → List ℕ
first_seen_others first keys = filter (λ other. not (eqb first other)) keys

-- one more key that is the first one leaves the keys that differ from the first
first_seen_others-same_key : (first key : ℕ) (keys : List ℕ) → eqb key first ≡ true
    → first_seen_others first (keys_seen keys key) ≡ first_seen_others first keys
first_seen_others-same_key first key keys same =
    let k : first ≡ key = sym (eqb-true key first same) in
    (elim (list_any (λ other. eqb key other) keys) as
    (λ b. first_seen_others first (if b then keys else keys ++ key ∷ []) ≡ first_seen_others first keys) [
      | true ↦ refl
      | false ↦ filter-append (λ other. not (eqb first other)) keys (key ∷ [])
          ∙ ap (λ b. first_seen_others first keys ++ cond (not b) (key ∷ []) []) (eq-eqb first key k)
          ∙ append-nil (first_seen_others first keys)
    ])

-- and a key that differs from the first is added among them
first_seen_others-other_key : (first key : ℕ) (keys : List ℕ) → eqb key first ≡ false
    → first_seen_others first (keys_seen keys key) ≡ keys_seen (first_seen_others first keys) key
first_seen_others-other_key first key keys differs =
    let apart : eqb first key ≡ false = by_cases (eqb first key) refl in
    let kept : list_any (λ other. eqb key other) (first_seen_others first keys) ≡ list_any (λ other. eqb key other) keys =
    any-filter_same (λ other. eqb key other) (λ other. not (eqb first other)) true
    (λ other is. subst (λ o. not (eqb first o) ≡ true) (eqb-true key other is) (ap not apart)) keys in
    (elim (list_any (λ other. eqb key other) keys) as
    (λ b. first_seen_others first (if b then keys else keys ++ key ∷ [])
    ≡ (if b then first_seen_others first keys else first_seen_others first keys ++ key ∷ [])) [
      | true ↦ refl
      | false ↦
          filter-append (λ other. not (eqb first other)) keys (key ∷ [])
          ∙ ap (λ b. first_seen_others first keys ++ cond (not b) (key ∷ []) []) apart
    ]) ∙ ap (λ b. if b then first_seen_others first keys else first_seen_others first keys ++ key ∷ []) (sym kept)
  where
    by_cases : (b : Bool) → eqb first key ≡ b → eqb first key ≡ false
    by_cases true same = absurd (false≢true (sym differs ∙ eq-eqb key first (sym (eqb-true first key same))))
    by_cases false differs_too = differs_too

-- one more key is the last that is seen
pub first_seen-push : (keys : List ℕ) (key : ℕ) → first_seen (keys ++ key ∷ []) ≡ keys_seen (first_seen keys) key
first_seen-push [] key = refl
first_seen-push (first ∷ keys) key =
    ap (λ rest. first ∷ first_seen_others first rest) (first_seen-push keys key) ∙ by (eqb key first) refl
  where
    by : (b : Bool) → eqb key first ≡ b
        → first ∷ first_seen_others first (keys_seen (first_seen keys) key) ≡ keys_seen
        (first ∷ first_seen_others first (first_seen keys)) key
    by true same = ap (λ rest. first ∷ rest) (first_seen_others-same_key first key (first_seen keys) same)
        ∙ ap (λ b.
        if b
        || list_any (λ other. eqb key other) (first_seen_others first (first_seen keys)) then first
        ∷ first_seen_others first (first_seen keys) else first ∷ first_seen_others first (first_seen keys) ++ key ∷ []) (sym same)
    by false differs = ap (λ rest. first ∷ rest) (first_seen_others-other_key first key (first_seen keys) differs)
        ∙ (elim (list_any (λ other. eqb key other) (first_seen_others first (first_seen keys))) as
        (λ b. first ∷ (if b then first_seen_others first (first_seen keys) else first_seen_others first (first_seen keys) ++ key ∷ [])
        ≡ (if b then first ∷ first_seen_others first (first_seen keys) else first ∷ first_seen_others first (first_seen keys) ++ key
        ∷ [])) [ true ↦ refl | false ↦ refl ])
        ∙ ap (λ b.
        if b
        || list_any (λ other. eqb key other) (first_seen_others first (first_seen keys)) then first
        ∷ first_seen_others first (first_seen keys) else first ∷ first_seen_others first (first_seen keys) ++ key ∷ [])
        (sym differs)

-- and many more keys are seen one after another
pub first_seen-append : (keys more : List ℕ) → first_seen (keys ++ more) ≡ fold keys_seen (first_seen keys) more
first_seen-append keys [] = ap first_seen (append-nil keys)
first_seen-append keys (key ∷ more) =
    ap first_seen (sym (append_assoc keys (key ∷ []) more)) ∙ first_seen-append (keys ++ key ∷ []) more
    ∙ ap (λ start. fold keys_seen start more) (first_seen-push keys key)

-- a key that differs from the first is among the others
first_seen_others-contains : (first key : ℕ) (keys : List ℕ) → eqb first key ≡ false → Contains keys key
    → Contains (first_seen_others first keys) key
first_seen_others-contains first key [] differs there = absurd (Contains-empty_list key there)
first_seen_others-contains first key (k ∷ keys) differs there =
    by (eqb first k) refl (first_seen_others-contains first key keys differs) (Contains-list_cons k keys key there)
  where
    by : (b : Bool) → eqb first k ≡ b → (Contains keys key → Contains (first_seen_others first keys) key)
        → (k ≡ key) ⊎ Contains keys key
        → Contains (cond (not b) (k ∷ first_seen_others first keys) (first_seen_others first keys)) key
    by true same rest (inl is) = absurd (false≢true (sym differs ∙ ap (eqb first) (sym is) ∙ same))
    by true same rest (inr later) = rest later
    by false _ rest (inl is) = subst (Contains (k ∷ first_seen_others first keys)) is (Contains-list_head k (first_seen_others first keys))
    by false _ rest (inr later) = Contains-list_tail k (first_seen_others first keys) key (rest later)

-- each key of a list is seen
pub first_seen-contains : (keys : List ℕ) (key : ℕ) → Contains keys key → Contains (first_seen keys) key
first_seen-contains [] key there = there
first_seen-contains (first ∷ keys) key there =
    by (eqb first key) refl (first_seen-contains keys key) (Contains-list_cons first keys key there)
  where
    by : (b : Bool) → eqb first key ≡ b → (Contains keys key → Contains (first_seen keys) key)
        → (first ≡ key) ⊎ Contains keys key
        → Contains (first ∷ first_seen_others first (first_seen keys)) key
    by _ _ rest (inl is) =
        subst (Contains (first ∷ first_seen_others first (first_seen keys))) is
        (Contains-list_head first (first_seen_others first (first_seen keys)))
    by true same rest (inr _) =
        subst (Contains (first ∷ first_seen_others first (first_seen keys))) (eqb-true first key same)
        (Contains-list_head first (first_seen_others first (first_seen keys)))
    by false differs rest (inr later) =
        Contains-list_tail first (first_seen_others first (first_seen keys)) key
        (first_seen_others-contains first key (first_seen keys) differs (rest later))

-- two keys differ whichever comes first
first_seen_differs_either_way : (first key : ℕ) → eqb key first ≡ false → eqb first key ≡ false
first_seen_differs_either_way first key differs =
    by (eqb first key) refl
  where
    by : (b : Bool) → eqb first key ≡ b → eqb first key ≡ false
    by true same = absurd (false≢true (sym differs ∙ eq-eqb key first (sym (eqb-true first key same))))
    by false is = is

-- a key is seen exactly where it is in the list
pub first_seen-any : (key : ℕ) (keys : List ℕ)
    → list_any (λ other. eqb key other) (first_seen keys) ≡ list_any (λ other. eqb key other) keys
first_seen-any key [] = refl
first_seen-any key (first ∷ keys) =
    by (eqb key first) refl (first_seen-any key keys)
  where
    by : (b : Bool) → eqb key first ≡ b
        → list_any (λ other. eqb key other) (first_seen keys) ≡ list_any (λ other. eqb key other) keys
        → (b || list_any (λ other. eqb key other) (first_seen_others first (first_seen keys)))
        ≡ (b || list_any (λ other. eqb key other) keys)
    by true same rest = refl
    by false differs rest =
        any-filter_same (λ other. eqb key other) (λ other. not (eqb first other)) true
        (λ other is. subst (λ o. not (eqb first o) ≡ true) (eqb-true key other is)
        (ap not (first_seen_differs_either_way first key differs))) (first_seen keys)
        ∙ rest

-- one more key doesn't change whether another is seen
first_seen-any_after_key : (key other : ℕ) (keys : List ℕ) → eqb key other ≡ false
    → list_any (λ k. eqb key k) (keys_seen keys other) ≡ list_any (λ k. eqb key k) keys
first_seen-any_after_key key other keys differs =
    by (list_any (λ k. eqb other k) keys)
  where
    last : (b : Bool) → (b || (false || false)) ≡ b
    last true = refl
    last false = refl

    by : (b : Bool) → list_any (λ k. eqb key k) (if b then keys else keys ++ other ∷ []) ≡ list_any (λ k. eqb key k) keys
    by true = refl
    by false =
        list_any-append (λ k. eqb key k) keys (other ∷ [])
        ∙ ap (λ b. list_any (λ k. eqb key k) keys || (b || false)) differs
        ∙ last (list_any (λ k. eqb key k) keys)

-- nor do many that are not the key
pub first_seen-any_after_others : (key : ℕ) (keys more : List ℕ) → list_any (λ k. eqb key k) more ≡ false
    → list_any (λ k. eqb key k) (fold keys_seen keys more) ≡ list_any (λ k. eqb key k) keys
first_seen-any_after_others key keys [] none = refl
first_seen-any_after_others key keys (other ∷ more) none =
    let parts : (eqb key other ≡ false) × (list_any (λ k. eqb key k) more ≡ false) =
    or_parts (eqb key other) (list_any (λ k. eqb key k) more) none in
    first_seen-any_after_others key (keys_seen keys other) more parts.1 ∙ first_seen-any_after_key key other keys parts.0

-- what holds of each key of a list holds of each that is seen
pub first_seen-all : (P : ℕ → Type 0) (keys : List ℕ) → All P keys → All P (first_seen keys)
first_seen-all P [] all = all
first_seen-all P (first ∷ keys) all =
    All-cons P first (first_seen_others first (first_seen keys)) (All-head P first keys all)
    (All-filter (λ other. not (eqb first other)) P (first_seen keys)
    (first_seen-all P keys (All-tail P first keys all)))

-- no key is seen twice
pub first_seen-distinct : (keys : List ℕ) → AllPairs (λ key other. key ≢ other) (first_seen keys)
first_seen-distinct [] = λ i j d before below. absurd (omega arith)
first_seen-distinct (first ∷ keys) =
    AllPairs-cons (λ key other. key ≢ other) first (first_seen_others first (first_seen keys))
    (All-weaker (λ other. not (eqb first other) ≡ true) (λ other. first ≢ other)
    (λ other passes same. false≢true (sym (ap not (eq-eqb first other same)) ∙ passes))
    (first_seen_others first (first_seen keys)) (filter_passes (λ other. not (eqb first other)) (first_seen keys)))
    (AllPairs-filter (λ key other. key ≢ other) (λ other. not (eqb first other)) (first_seen keys)
    (first_seen-distinct keys))

-- and no more keys are seen than there are
pub first_seen-length : (keys : List ℕ) → length (first_seen keys) ≤ length keys
first_seen-length [] = omega arith
first_seen-length (first ∷ keys) =
    omega (
      arith,
      first_seen-length keys,
      length-filter (λ other. not (eqb first other)) (first_seen keys),
      count_by-le-length (λ other. not (eqb first other)) (first_seen keys),
    )
