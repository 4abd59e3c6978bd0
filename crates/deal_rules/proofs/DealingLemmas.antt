-- A dealing holds the records that were dealt.
use Rattle.std.proofs.Common.{◌≡◌, ℕ, suc, zero, ◌+◌, ◌^◌, ◌<◌, ◌≤◌, eqb, true, false, cond, List, [], ◌∷◌, ◌++◌}
use Rattle.std.proofs.Common.{length, map, filter, get_or, All, refl, sym, ap, ◌∙◌, subst, arith}
use Rattle.std.specs.List.{zip, range_with_len, flat_map, sum_by}
use Rattle.std.specs.List.Sorted.{IsPermutation}
use Rattle.std.proofs.lemmas.Bool.{eqb-true, eqb-false, cond_both}
use Rattle.std.proofs.lemmas.List.Elements.{All-head, All-tail}
use Rattle.std.proofs.lemmas.List.Sums.{sum_by-cons, sum_by-append}
use Rattle.std.proofs.lemmas.List.Concat.{length-flat_map}
use Rattle.std.proofs.lemmas.List.Sorted.{IsPermutation-refl, IsPermutation-sym, IsPermutation-trans}
use Rattle.std.proofs.lemmas.List.Sorted.{IsPermutation-cons, IsPermutation-append_right, IsPermutation-middle}
use Rattle.std.proofs.lemmas.List.Sorted.{length_permutation, sum_by-IsPermutation}
use Rattle.std.proofs.lemmas.Grind.{same_number_lists}
use Rattle.std.proofs.lemmas.Option.{slice_get-get_or}
use Rattle.prefix_lattice.specs.{RecordValue, PrefixValue, covers, prefix_weight, total_weight}
use Rattle.deal_rules.specs.declared.deal_kind.DealKind.{DealKind}
use Rattle.deal_rules.proofs.ShardListLemmas.{each_shard_has_list}
use Rattle.deal_rules.specs.Dealing.{dealt_list, dealt_lists, AreDealt, FollowsRule, IsDealing, AreDealings}

-- the lists of `count` shards, from shard `from` on, joined in their order
abbrev joined_dealing : (ℕ → List RecordValue) → ℕ → ℕ → List RecordValue
joined_dealing f from count = flat_map (λ list. list) (map f (range_with_len from count))

-- the record goes to the front of its shard's list
abbrev dealing_with_first : ℕ → RecordValue → (ℕ → List RecordValue) → ℕ → List RecordValue
dealing_with_first n r f shard = cond (eqb n shard) (r ∷ f shard) (f shard)

dealing_shard_is_later : (n from : ℕ) → from ≤ n → (n ≡ from → ⊥) → from + 1 ≤ n
dealing_shard_is_later n from least apart = omega (arith, least, apart)

-- the lists of the shards after the record's own are as before
joined_dealing-past : (n : ℕ) (r : RecordValue) (f : ℕ → List RecordValue) (from count : ℕ) → n < from
    → joined_dealing (dealing_with_first n r f) from count ≡ joined_dealing f from count
joined_dealing-past n r f from zero past = refl
joined_dealing-past n r f from (suc count) past =
    cond_both (eqb n from) (r ∷ f from) (f from)
    (λ l. l ++ joined_dealing (dealing_with_first n r f) (from + 1) count ≡ joined_dealing f from (suc count))
    (λ here. let e : n ≡ from = eqb-true n from here in absurd (omega (arith, e, past)))
    (λ other. ap (λ l. f from ++ l) (joined_dealing-past n r f (from + 1) count (omega (arith, past))))

-- the joined lists have the record once more, whichever its shard is
joined_dealing-first : (n : ℕ) (r : RecordValue) (f : ℕ → List RecordValue) (from count : ℕ) → from ≤ n → n < from + count
    → IsPermutation (r ∷ joined_dealing f from count) (joined_dealing (dealing_with_first n r f) from count)
joined_dealing-first n r f from zero least most = absurd (omega (arith, least, most))
joined_dealing-first n r f from (suc count) least most =
    cond_both (eqb n from) (r ∷ f from) (f from)
    (λ l. IsPermutation (r ∷ joined_dealing f from (suc count)) (l ++ joined_dealing (dealing_with_first n r f) (from + 1) count))
    (λ here. let e : n ≡ from = eqb-true n from here in
    subst (λ l. IsPermutation (r ∷ joined_dealing f from (suc count)) ((r ∷ f from) ++ l))
    (sym (joined_dealing-past n r f (from + 1) count (omega (arith, e))))
    (IsPermutation-refl (r ∷ joined_dealing f from (suc count))))
    (λ other. let apart : n ≡ from → ⊥ = eqb-false n from other in
    let later : IsPermutation (r ∷ joined_dealing f (from + 1) count) (joined_dealing (dealing_with_first n r f) (from + 1) count) =
    joined_dealing-first n r f (from + 1) count (dealing_shard_is_later n from least apart) (omega (arith, most)) in
    IsPermutation-trans _ _ _ (IsPermutation-sym _ _ (IsPermutation-middle (f from) r (joined_dealing f (from + 1) count)))
    (IsPermutation-append_right (f from) _ _ later))

-- without records the joined lists are empty
joined_dealing-none : (from count : ℕ) → joined_dealing (λ shard. []) from count ≡ []
joined_dealing-none from zero = refl
joined_dealing-none from (suc count) = joined_dealing-none (from + 1) count

dealing-cons : (shard n : ℕ) (ns : List ℕ) (r : RecordValue) (rs : List RecordValue)
    → dealt_list shard (n ∷ ns) (r ∷ rs) ≡ dealing_with_first n r (λ s. dealt_list s ns rs) shard
dealing-cons shard n ns r rs =
    let record_of : ℕ × RecordValue → RecordValue = λ dealt. dealt.1 in
    let later : List (ℕ × RecordValue) = filter (λ (dealt : ℕ × RecordValue). eqb dealt.0 shard) (zip ns rs) in
    elim (eqb n shard) as
    (λ b. map record_of (cond b ((n, r) ∷ later) later) ≡ cond b (r ∷ map record_of later) (map record_of later))
    [ true ↦ refl | false ↦ refl ]

joined_dealing-same : (f g : ℕ → List RecordValue) → ((shard : ℕ) → f shard ≡ g shard) → (from count : ℕ)
    → joined_dealing f from count ≡ joined_dealing g from count
joined_dealing-same f g same from zero = refl
joined_dealing-same f g same from (suc count) =
    ap (λ l. l ++ joined_dealing f (from + 1) count) (same from)
    ∙ ap (λ l. g from ++ l) (joined_dealing-same f g same (from + 1) count)

-- the lists of all shards together are the records in another order
dealing-permuted : (shards : ℕ) (ns : List ℕ) (rs : List RecordValue) → length ns ≡ length rs
    → All (λ n. n < shards) ns
    → IsPermutation rs (flat_map (λ list. list) (dealt_lists shards ns rs))
dealing-permuted shards [] [] same below =
    subst (λ l. IsPermutation [] l) (sym (joined_dealing-none 0 shards)) (IsPermutation-refl [])
dealing-permuted shards [] (r ∷ rs) same below = absurd (omega (arith, same))
dealing-permuted shards (n ∷ ns) [] same below = absurd (omega (arith, same))
dealing-permuted shards (n ∷ ns) (r ∷ rs) same below =
    let f : ℕ → List RecordValue = λ s. dealt_list s ns rs in
    let earlier : IsPermutation rs (joined_dealing f 0 shards) =
    dealing-permuted shards ns rs (omega (arith, same)) (All-tail (λ m. m < shards) n ns below) in
    let first : IsPermutation (r ∷ joined_dealing f 0 shards) (joined_dealing (dealing_with_first n r f) 0 shards) =
    joined_dealing-first n r f 0 shards (omega arith)
    (let h : n < shards = All-head (λ m. m < shards) n ns below in omega (arith, h)) in
    subst (λ l. IsPermutation (r ∷ rs) l)
    (sym (joined_dealing-same (λ s. dealt_list s (n ∷ ns) (r ∷ rs)) (dealing_with_first n r f)
    (λ s. dealing-cons s n ns r rs) 0 shards))
    (IsPermutation-trans (r ∷ rs) (r ∷ joined_dealing f 0 shards) _ (IsPermutation-cons r rs (joined_dealing f 0 shards) earlier) first)

joined_dealing-sum : {X : Type 0} (f : X → ℕ) → (lists : List (List X))
    → sum_by f (flat_map (λ list. list) lists) ≡ sum_by (sum_by f) lists
joined_dealing-sum f [] = refl
joined_dealing-sum f (l ∷ ls) =
    sum_by-append f l (flat_map (λ list. list) ls) ∙ ap (λ n. sum_by f l + n) (joined_dealing-sum f ls)
    ∙ sym (sum_by-cons (sum_by f) l ls)

dealing_sum-same : {X : Type 0} (f g : X → ℕ) → ((x : X) → f x ≡ g x) → (xs : List X) → sum_by f xs ≡ sum_by g xs
dealing_sum-same f g same [] = refl
dealing_sum-same f g same (x ∷ xs) =
    sum_by-cons f x xs ∙ ap (λ n. n + sum_by f xs) (same x) ∙ ap (λ n. g x + n) (dealing_sum-same f g same xs)
    ∙ sym (sum_by-cons g x xs)

-- the weight of the covered records, as a sum over all records
dealing_weight-sum : (prefix : PrefixValue) (rs : List RecordValue)
    → prefix_weight prefix rs ≡ sum_by (λ rec. cond (covers prefix rec) rec.weight 0) rs
dealing_weight-sum prefix [] = refl
dealing_weight-sum prefix (r ∷ rs) =
    let weigh : RecordValue → ℕ = λ rec. rec.weight in
    let part : RecordValue → ℕ = λ rec. cond (covers prefix rec) rec.weight 0 in
    let later : List RecordValue = filter (covers prefix) rs in
    let ih : sum_by weigh later ≡ sum_by part rs = dealing_weight-sum prefix rs in
    let here : sum_by weigh (cond (covers prefix r) (r ∷ later) later)
    ≡ cond (covers prefix r) r.weight 0 + sum_by weigh later =
    elim (covers prefix r) as
    (λ b. sum_by weigh (cond b (r ∷ later) later) ≡ cond b r.weight 0 + sum_by weigh later)
    [ true ↦ sum_by-cons weigh r later | false ↦ omega arith ] in
    here ∙ ap (λ n. part r + n) ih ∙ sym (sum_by-cons part r rs)

-- the laws of dealt lists
pub dealing_permutes_records : (shards : ℕ) (records : List RecordValue) (numbers : List ℕ) (lists : List (List RecordValue))
    → AreDealt shards records numbers lists
    → IsPermutation records (flat_map (λ list. list) lists)
dealing_permutes_records shards records numbers lists dealt =
    subst (λ (ls : List (List RecordValue)). IsPermutation records (flat_map (λ list. list) ls)) (sym dealt.parted)
    (dealing-permuted shards numbers records dealt.as_many dealt.below)

pub dealing_keeps_sums : (shards : ℕ) (records : List RecordValue) (numbers : List ℕ) (lists : List (List RecordValue))
    → AreDealt shards records numbers lists
    → (weigh : RecordValue → ℕ) → sum_by (sum_by weigh) lists ≡ sum_by weigh records
dealing_keeps_sums shards records numbers lists dealt weigh =
    sym (joined_dealing-sum weigh lists)
    ∙ sum_by-IsPermutation weigh records _ (dealing_permutes_records shards records numbers lists dealt)

pub dealing_loses_no_record : (shards : ℕ) (records : List RecordValue) (numbers : List ℕ) (lists : List (List RecordValue))
    → AreDealt shards records numbers lists
    → sum_by (λ list. length list) lists ≡ length records
dealing_loses_no_record shards records numbers lists dealt =
    sym (length-flat_map (λ list. list) lists)
    ∙ length_permutation records _ (dealing_permutes_records shards records numbers lists dealt)

pub dealing_keeps_each_weight : (shards : ℕ) (records : List RecordValue) (numbers : List ℕ) (lists : List (List RecordValue))
    → AreDealt shards records numbers lists
    → (prefix : PrefixValue) → sum_by (prefix_weight prefix) lists ≡ prefix_weight prefix records
dealing_keeps_each_weight shards records numbers lists dealt prefix =
    let part : RecordValue → ℕ = λ rec. cond (covers prefix rec) rec.weight 0 in
    dealing_sum-same (prefix_weight prefix) (sum_by part) (dealing_weight-sum prefix) lists
    ∙ dealing_keeps_sums shards records numbers lists dealt part ∙ sym (dealing_weight-sum prefix records)

pub dealing_keeps_total : (shards : ℕ) (records : List RecordValue) (numbers : List ℕ) (lists : List (List RecordValue))
    → AreDealt shards records numbers lists
    → sum_by total_weight lists ≡ total_weight records
dealing_keeps_total shards records numbers lists dealt = dealing_keeps_sums shards records numbers lists dealt (λ rec. rec.weight)

-- a dealing has as many records as were dealt
pub dealing_is_small_enough : (kind : DealKind) (may_answer : ℕ → RecordValue → ℕ → ℕ → Type 0) (shards : ℕ)
    (records : List RecordValue) (lists : List (List RecordValue))
    → IsDealing kind may_answer shards records lists → 1 ≤ shards → shards ≤ 16 → length records ≤ 2 ^ 24
    → AreDealings lists
dealing_is_small_enough kind may_answer shards records lists dealing some few small =
    let long : length lists ≡ shards = each_shard_has_list kind may_answer shards records lists dealing in
    let all : sum_by (λ list. length list) lists ≡ length records =
    dealing_loses_no_record shards records dealing.numbers lists dealing.dealt in
    record { some = omega (arith, long, some); few = omega (arith, long, few); small = omega (arith, all, small) }

-- the number of each record, where the rule is a formula
dealing_follows_formula : (kind : DealKind) (formula : ℕ → RecordValue → ℕ → ℕ) (shards : ℕ) (records : List RecordValue)
    (numbers : List ℕ) (place : ℕ) (d : RecordValue) → length numbers ≡ length records
    → FollowsRule kind (λ place rec shards number. number ≡ formula place rec shards) shards records numbers
    → place < length numbers → get_or numbers place 0 ≡ formula place (get_or records place d) shards
dealing_follows_formula kind formula shards records numbers place d same follow within =
    (follow place (get_or numbers place 0) (get_or records place d)
    (slice_get-get_or records place d (omega (arith, within, same)))
    (slice_get-get_or numbers place 0 within)).answered

-- a rule that is a formula deals records in one way
pub one_dealing : (kind : DealKind) (formula : ℕ → RecordValue → ℕ → ℕ) (shards : ℕ) (records : List RecordValue)
    (lists others : List (List RecordValue))
    → IsDealing kind (λ place rec shards number. number ≡ formula place rec shards) shards records lists
    → IsDealing kind (λ place rec shards number. number ≡ formula place rec shards) shards records others
    → lists ≡ others
one_dealing kind formula shards records lists others dealing other =
    let d : RecordValue = record { src = 0; dst = 0; weight = 0 } in
    let long : length dealing.numbers ≡ length other.numbers = dealing.dealt.as_many ∙ sym other.dealt.as_many in
    let numbers_are_one : dealing.numbers ≡ other.numbers =
    same_number_lists dealing.numbers other.numbers long
    (λ place within. dealing_follows_formula kind formula shards records dealing.numbers place d dealing.dealt.as_many
    dealing.ruled within
    ∙ sym (dealing_follows_formula kind formula shards records other.numbers place d other.dealt.as_many other.ruled
    (omega (arith, within, long)))) in
    dealing.dealt.parted ∙ ap (λ numbers. dealt_lists shards numbers records) numbers_are_one
    ∙ sym other.dealt.parted
