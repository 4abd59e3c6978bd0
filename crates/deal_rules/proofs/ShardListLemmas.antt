-- The lists of the shards as one more record is dealt.
use Rattle.std.proofs.Common.{◌≡◌, ℕ, suc, zero, ◌+◌, ◌<◌, ◌≤◌, eqb, Bool, true, false, cond, List, [], ◌∷◌, ◌++◌}
use Rattle.std.proofs.Common.{length, map, filter, take, drop, get_or, set, refl, sym, ap, ◌∙◌, subst, inl, inr, ◌⊎◌}
use Rattle.std.proofs.Common.{arith, length-set, length-append, length-drop}
use Rattle.std.specs.List.{zip, slice_get}
use Rattle.std.specs.Prelude.{Some}
use Rattle.std.proofs.lemmas.Bool.{eqb-true, eqb-false, cond_both}
use Rattle.std.proofs.lemmas.List.{map-append, append-nil, get_or_default, take_more, take_all, length-take-le}
use Rattle.std.proofs.lemmas.List.{get_or-set_same, get_or-set_other}
use Rattle.std.proofs.lemmas.List.Elements.{filter-append, All-nil, All-push}
use Rattle.std.proofs.lemmas.List.FromFn.{length-map-range_with_len, get_or-map-range_with_len, fill_by_all}
use Rattle.std.proofs.lemmas.Option.{slice_get_within, get_or_from_slice_get}
use Rattle.prefix_lattice.specs.{RecordValue}
use Rattle.deal_rules.specs.declared.deal_kind.DealKind.{DealKind}
use Rattle.deal_rules.specs.DealKind.{MayDeal}
use Rattle.deal_rules.specs.Dealing.{dealt_list, dealt_lists, FollowsRule, IsDealing}

shard_list_zip-push : (ns : List ℕ) (rs : List RecordValue) (n : ℕ) (r : RecordValue) → length ns ≡ length rs
    → zip (ns ++ n ∷ []) (rs ++ r ∷ []) ≡ zip ns rs ++ (n, r) ∷ []
shard_list_zip-push [] [] n r same = refl
shard_list_zip-push [] (q ∷ rs) n r same = absurd (omega (arith, same))
shard_list_zip-push (m ∷ ns) [] n r same = absurd (omega (arith, same))
shard_list_zip-push (m ∷ ns) (q ∷ rs) n r same = ap (λ l. (m, q) ∷ l) (shard_list_zip-push ns rs n r (omega (arith, same)))

-- a record comes last in the list of its shard, and in no other
shard_list-push : (shard : ℕ) (ns : List ℕ) (rs : List RecordValue) (n : ℕ) (r : RecordValue) → length ns ≡ length rs
    → dealt_list shard (ns ++ n ∷ []) (rs ++ r ∷ []) ≡ dealt_list shard ns rs ++ cond (eqb n shard) (r ∷ []) []
shard_list-push shard ns rs n r same =
    let is_here : ℕ × RecordValue → Bool = λ dealt. eqb dealt.0 shard in
    let record_of : ℕ × RecordValue → RecordValue = λ dealt. dealt.1 in
    let last : map record_of (cond (eqb n shard) ((n, r) ∷ []) []) ≡ cond (eqb n shard) (r ∷ []) [] =
    elim (eqb n shard) as (λ b. map record_of (cond b ((n, r) ∷ []) []) ≡ cond b (r ∷ []) [])
    [ true ↦ refl | false ↦ refl ] in
    ap (λ l. map record_of (filter is_here l)) (shard_list_zip-push ns rs n r same)
    ∙ ap (map record_of) (filter-append is_here (zip ns rs) ((n, r) ∷ []))
    ∙ map-append record_of (filter is_here (zip ns rs)) (filter is_here ((n, r) ∷ []))
    ∙ ap (λ l. map record_of (filter is_here (zip ns rs)) ++ l) last

-- each shard's list as one more record is pushed to its own
shard_list_after_push : (shards : ℕ) (ns : List ℕ) (rs : List RecordValue) (n : ℕ) (r : RecordValue) → length ns ≡ length rs
    → n < shards → (shard : ℕ) → shard < shards
    → get_or (set (dealt_lists shards ns rs) n (dealt_list n ns rs ++ r ∷ [])) shard []
    ≡ dealt_list shard (ns ++ n ∷ []) (rs ++ r ∷ [])
shard_list_after_push shards ns rs n r same below shard within =
    let old = dealt_lists shards ns rs in
    let long : length old ≡ shards = length-map-range_with_len (λ s. dealt_list s ns rs) 0 shards in
    let read : get_or old shard [] ≡ dealt_list shard ns rs =
    get_or-map-range_with_len (λ s. dealt_list s ns rs) 0 shards shard shard [] within (omega arith) in
    sym (shard_list-push shard ns rs n r same
    ∙ cond_both (eqb n shard) (r ∷ []) []
    (λ last. dealt_list shard ns rs ++ last ≡ get_or (set old n (dealt_list n ns rs ++ r ∷ [])) shard [])
    (λ here. let e : n ≡ shard = eqb-true n shard here in
    ap (λ s. dealt_list s ns rs ++ r ∷ []) (sym e)
    ∙ sym (get_or-set_same old n (dealt_list n ns rs ++ r ∷ []) [] (omega (arith, long, below)))
    ∙ ap (λ s. get_or (set old n (dealt_list n ns rs ++ r ∷ [])) s []) e)
    (λ other. append-nil (dealt_list shard ns rs) ∙ sym read
    ∙ sym (get_or-set_other old n shard (dealt_list n ns rs ++ r ∷ []) [] (λ e. eqb-false n shard other (sym e)))))

-- the lists as one more record is pushed to its shard's list
pub shard_lists-push : (shards : ℕ) (ns : List ℕ) (rs : List RecordValue) (n : ℕ) (r : RecordValue)
    → length ns ≡ length rs → n < shards
    → set (dealt_lists shards ns rs) n (dealt_list n ns rs ++ r ∷ []) ≡ dealt_lists shards (ns ++ n ∷ []) (rs ++ r ∷ [])
shard_lists-push shards ns rs n r same below =
    let old = dealt_lists shards ns rs in
    let long : length old ≡ shards = length-map-range_with_len (λ shard. dealt_list shard ns rs) 0 shards in
    let now = set old n (dealt_list n ns rs ++ r ∷ []) in
    fill_by_all (λ shard. dealt_list shard (ns ++ n ∷ []) (rs ++ r ∷ [])) now shards []
    (length-set old n (dealt_list n ns rs ++ r ∷ []) ∙ long)
    (λ k within. shard_list_after_push shards ns rs n r same below k within)

-- an element read from a list with one more is read from the list, or is the added one
shard_list_item-push : {X : Type 0} (xs : List X) (x : X) (place : ℕ) (read : X) → slice_get (xs ++ x ∷ []) place ≡ Some read
    → (slice_get xs place ≡ Some read) ⊎ ((place ≡ length xs) × (read ≡ x))
shard_list_item-push [] x zero read got = inr (refl, cc)
shard_list_item-push [] x (suc place) read got = cc
shard_list_item-push (y ∷ xs) x zero read got = inl got
shard_list_item-push (y ∷ xs) x (suc place) read got =
    elim (shard_list_item-push xs x place read got) [ inl h ↦ inl h | inr h ↦ inr (omega (arith, h.0), h.1) ]

shard_list_rule-push : (kind : DealKind) (may_answer : ℕ → RecordValue → ℕ → ℕ → Type 0) (shards : ℕ)
    (rs : List RecordValue) (ns : List ℕ) (r : RecordValue) (n : ℕ)
    → length ns ≡ length rs → FollowsRule kind may_answer shards rs ns
    → MayDeal kind may_answer (length rs) r shards n
    → FollowsRule kind may_answer shards (rs ++ r ∷ []) (ns ++ n ∷ [])
shard_list_rule-push kind may_answer shards rs ns r n same follow last = λ place number rec read_rec read_number.
    elim (shard_list_item-push rs r place rec read_rec) [
      | inl of_rec ↦ elim (shard_list_item-push ns n place number read_number) [
        | inl of_number ↦ follow place number rec of_rec of_number
        | inr is_last ↦
            let h : place < length rs = slice_get_within rs place rec of_rec in
            absurd (omega (arith, h, is_last.0, same))
      ]
      | inr is_rec ↦ elim (shard_list_item-push ns n place number read_number) [
        | inl of_number ↦
            let h : place < length ns = slice_get_within ns place number of_number in
            absurd (omega (arith, h, is_rec.0, same))
        | inr is_last ↦ subst (λ p. MayDeal kind may_answer p rec shards number) (sym is_rec.0)
            (subst (λ q. MayDeal kind may_answer (length rs) q shards number) (sym is_rec.1)
            (subst (λ m. MayDeal kind may_answer (length rs) r shards m) (sym is_last.1) last))
      ]
    ]

-- a dealing has a list for each shard
pub each_shard_has_list : (kind : DealKind) (may_answer : ℕ → RecordValue → ℕ → ℕ → Type 0) (shards : ℕ)
    (records : List RecordValue) (lists : List (List RecordValue))
    → IsDealing kind may_answer shards records lists → length lists ≡ shards
each_shard_has_list kind may_answer shards records lists dealing =
    ap (λ (ls : List (List RecordValue)). length ls) dealing.dealt.parted
    ∙ length-map-range_with_len (λ shard. dealt_list shard dealing.numbers records) 0 shards

-- no record is dealt yet
pub shard_lists_start_empty : (kind : DealKind) (may_answer : ℕ → RecordValue → ℕ → ℕ → Type 0) (shards : ℕ)
    (lists : List (List RecordValue)) → lists ≡ dealt_lists shards [] []
    → IsDealing kind may_answer shards [] lists
shard_lists_start_empty kind may_answer shards lists empty = record {
  numbers = [];
  dealt = record { as_many = refl; below = All-nil (λ n. n < shards); parted = empty };
  ruled = λ place number rec read_rec read_number. cc;
}

-- one more record is dealt
pub shard_lists_take_record : (kind : DealKind) (may_answer : ℕ → RecordValue → ℕ → ℕ → Type 0) (shards : ℕ)
    (rs : List RecordValue) (lists : List (List RecordValue)) (r : RecordValue) (n : ℕ)
    → IsDealing kind may_answer shards rs lists → MayDeal kind may_answer (length rs) r shards n
    → IsDealing kind may_answer shards (rs ++ r ∷ []) (set lists n (get_or lists n [] ++ r ∷ []))
shard_lists_take_record kind may_answer shards rs lists r n dealing last =
    let ns = dealing.numbers in
    let at : get_or (dealt_lists shards ns rs) n [] ≡ dealt_list n ns rs =
    get_or-map-range_with_len (λ s. dealt_list s ns rs) 0 shards n n [] last.below (omega arith) in
    record {
      numbers = ns ++ n ∷ [];
      dealt = record {
        as_many = length-append ns (n ∷ []) ∙ ap (λ k. k + 1) dealing.dealt.as_many ∙ sym (length-append rs (r ∷ []));
        below = All-push (λ m. m < shards) ns n dealing.dealt.below last.below;
        parted = ap (λ (ls : List (List RecordValue)). set ls n (get_or ls n [] ++ r ∷ [])) dealing.dealt.parted
            ∙ ap (λ l. set (dealt_lists shards ns rs) n (l ++ r ∷ [])) at
            ∙ shard_lists-push shards ns rs n r dealing.dealt.as_many last.below;
      };
      ruled = shard_list_rule-push kind may_answer shards rs ns r n dealing.dealt.as_many dealing.ruled last;
    }

-- the next record of a list is dealt: the list of its shard was `old` and is `new`
pub shard_lists_take_next_record : (kind : DealKind) (may_answer : ℕ → RecordValue → ℕ → ℕ → Type 0) (shards : ℕ)
    (records : List RecordValue) (place : ℕ) (lists : List (List RecordValue)) (r : RecordValue) (n : ℕ)
    (old new : List RecordValue)
    → slice_get records place ≡ Some r → IsDealing kind may_answer shards (take place records) lists
    → MayDeal kind may_answer place r shards n
    → old ≡ get_or lists n old → new ≡ old ++ r ∷ []
    → IsDealing kind may_answer shards (take (place + 1) records) (set lists n new)
shard_lists_take_next_record kind may_answer shards records place lists r n old new read dealing last was pushed =
    let within : place < length records = slice_get_within records place r read in
    let long : length (take place records) ≡ place = length-take-le place records (omega (arith, within)) in
    let longer : take (place + 1) records ≡ take place records ++ r ∷ [] =
    take_more records place r within
    ∙ ap (λ q. take place records ++ q ∷ []) (get_or_from_slice_get records place r r read) in
    let here : n < length lists =
    let h = last.below in
    let e = each_shard_has_list kind may_answer shards (take place records) lists dealing in omega (arith, h, e) in
    let grown : new ≡ get_or lists n [] ++ r ∷ [] =
    pushed ∙ ap (λ l. l ++ r ∷ []) (was ∙ get_or_default lists n old [] here) in
    subst (λ (rs : List RecordValue). IsDealing kind may_answer shards rs (set lists n new)) (sym longer)
    (subst (λ l. IsDealing kind may_answer shards (take place records ++ r ∷ []) (set lists n l)) (sym grown)
    (shard_lists_take_record kind may_answer shards (take place records) lists r n dealing
    (subst (λ p. MayDeal kind may_answer p r shards n) (sym long) last)))

-- what is left begins with the next record: the record at this place, and those after it
pub shard_lists_leave_next_record : (records : List RecordValue) (place : ℕ) (r : RecordValue) (left : List RecordValue)
    → r ∷ left ≡ drop place records → (slice_get records place ≡ Some r) × (left ≡ drop (suc place) records)
shard_lists_leave_next_record [] zero r left is = cc
shard_lists_leave_next_record [] (suc place) r left is = cc
shard_lists_leave_next_record (q ∷ records) zero r left is = (cc, cc)
shard_lists_leave_next_record (q ∷ records) (suc place) r left is = shard_lists_leave_next_record records place r left is

-- once none is left, all records are dealt
pub shard_lists_leave_none : (kind : DealKind) (may_answer : ℕ → RecordValue → ℕ → ℕ → Type 0) (shards : ℕ)
    (records : List RecordValue) (place : ℕ) (lists : List (List RecordValue))
    → [] ≡ drop place records → IsDealing kind may_answer shards (take place records) lists
    → IsDealing kind may_answer shards records lists
shard_lists_leave_none kind may_answer shards records place lists none dealing =
    let left : length (drop place records) ≡ 0 = ap length (sym none) in
    let past : length records ≤ place = omega (arith, length-drop place records, left) in
    subst (λ (rs : List RecordValue). IsDealing kind may_answer shards rs lists) (take_all place records past) dealing
