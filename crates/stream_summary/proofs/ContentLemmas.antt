-- Tables of entries that are split at one of them.
use Rattle.std.proofs.Common.{◌≡◌, ◌≢◌, ℕ, ◌+◌, ◌<◌, ◌≤◌, eqb, leb, ltb, List, [], ◌∷◌, ◌++◌, length, map, None}
use Rattle.std.proofs.Common.{Some, refl, sym, ap, ◌∙◌, subst}
use Rattle.std.proofs.lemmas.Bool.{cond-true, cond-false, eq-eqb, ne_eqb, le-leb, lt-leb, lt-ltb, le-ltb}
use Rattle.std.specs.List.{AllByRecursion}
use Rattle.space_saving.specs.declared.entry.Entry.{Entry}
use Rattle.space_saving.specs.{TableAdd, KeysApart, after_step, after_step_from, put_into, replace_head, table_entry}
use Rattle.space_saving.specs.{table_without}

-- an entry is put between those with counts of at most its own and those with greater ones
pub content_put_between : (entry : Entry) (front back : List Entry) → AllByRecursion (λ e. e.count ≤ entry.count) front
    → AllByRecursion (λ e. entry.count < e.count) back → put_into entry (front ++ back) ≡ front ++ entry ∷ back
content_put_between entry [] [] less greater = refl
content_put_between entry [] (e ∷ back) less greater =
    cond-false (leb e.count entry.count) (e ∷ put_into entry back) (entry ∷ e ∷ back) (lt-leb e.count entry.count greater.0)
content_put_between entry (e ∷ front) back less greater =
    cond-true (leb e.count entry.count) (e ∷ put_into entry (front ++ back)) (entry ∷ e ∷ (front ++ back)) (le-leb e.count entry.count less.0)
    ∙ ap (λ l. e ∷ l) (content_put_between entry front back less.1 greater)

-- the same where the entries are those at places, of which the others stay as they were
pub content_put_at_place : (old new : ℕ → Entry) (place : ℕ) (entry : Entry) (front back : List ℕ)
    → map new (front ++ back) ≡ map old (front ++ back) → new place ≡ entry
    → AllByRecursion (λ x. (old x).count ≤ entry.count) front → AllByRecursion (λ x. entry.count < (old x).count) back
    → map new (front ++ place ∷ back) ≡ put_into entry (map old (front ++ back))
content_put_at_place old new place entry [] [] same here less greater = ap (λ e. e ∷ []) here
content_put_at_place old new place entry [] (x ∷ back) same here less greater =
    ap (λ e. e ∷ map new (x ∷ back)) here ∙ ap (λ l. entry ∷ l) same
    ∙ sym (cond-false (leb (old x).count entry.count) (old x ∷ put_into entry (map old back)) (entry ∷ old x ∷ map old back)
    (lt-leb (old x).count entry.count greater.0))
content_put_at_place old new place entry (x ∷ front) back same here less greater =
    let first : new x ≡ old x = cc in
    let rest : map new (front ++ back) ≡ map old (front ++ back) = cc in
    ap (λ e. e ∷ map new (front ++ place ∷ back)) first ∙ ap (λ l. old x ∷ l) (content_put_at_place old new place entry front back rest here less.1 greater)
    ∙ sym (cond-true (leb (old x).count entry.count) (old x ∷ put_into entry (map old (front ++ back))) (entry ∷ old x ∷ map old (front ++ back))
    (le-leb (old x).count entry.count less.0))

-- the entry of a key, and the entries without it
pub content_entry_at_split : (key : ℕ) (front : List Entry) (e : Entry) (back : List Entry) → KeysApart (front ++ e ∷ back) → e.key ≡ key
    → table_entry key (front ++ e ∷ back) ≡ Some e
content_entry_at_split key [] e back apart has = cond-true (eqb e.key key) (Some e) (table_entry key back) (eq-eqb e.key key has)
content_entry_at_split key (f ∷ front) e back apart has =
    let rest : table_entry key (front ++ e ∷ back) ≡ Some e = content_entry_at_split key front e back apart.1 has in
    let other : f.key ≢ key = λ same. let none : table_entry key (front ++ e ∷ back) ≡ None = ap (λ k. table_entry k (front ++ e ∷ back)) (sym same)
    ∙ apart.0 in
    let wrong : None ≡ Some e = sym none ∙ rest in cc in
    cond-false (eqb f.key key) (Some f) (table_entry key (front ++ e ∷ back)) (ne_eqb f.key key other) ∙ rest

pub content_without_at_split : (key : ℕ) (front : List Entry) (e : Entry) (back : List Entry) → KeysApart (front ++ e ∷ back) → e.key ≡ key
    → table_without key (front ++ e ∷ back) ≡ front ++ back
content_without_at_split key [] e back apart has = cond-true (eqb e.key key) back (e ∷ table_without key back) (eq-eqb e.key key has)
content_without_at_split key (f ∷ front) e back apart has =
    let rest : table_entry key (front ++ e ∷ back) ≡ Some e = content_entry_at_split key front e back apart.1 has in
    let other : f.key ≢ key = λ same. let none : table_entry key (front ++ e ∷ back) ≡ None = ap (λ k. table_entry k (front ++ e ∷ back)) (sym same)
    ∙ apart.0 in
    let wrong : None ≡ Some e = sym none ∙ rest in cc in
    cond-false (eqb f.key key) (front ++ e ∷ back) (f ∷ table_without key (front ++ e ∷ back)) (ne_eqb f.key key other)
    ∙ ap (λ l. f ∷ l) (content_without_at_split key front e back apart.1 has)

-- a key that no entry has
pub content_entry_is_missing : (key : ℕ) (es : List Entry) → AllByRecursion (λ e. e.key ≢ key) es → table_entry key es ≡ None
content_entry_is_missing key [] missing = refl
content_entry_is_missing key (e ∷ es) missing =
    cond-false (eqb e.key key) (Some e) (table_entry key es) (ne_eqb e.key key missing.0) ∙ content_entry_is_missing key es missing.1

-- the three cases of a step
pub content_step_of_found : (capacity : ℕ) (es front : List Entry) (e : Entry) (back : List Entry) (add : TableAdd) → es ≡ front ++ e ∷ back
    → KeysApart es → e.key ≡ add.key
    → put_into (record e { count = e.count + add.weight }) (front ++ back) ≡ after_step capacity es add
content_step_of_found capacity es front e back add is apart has =
    let split = subst KeysApart is apart in
    let found : table_entry add.key es ≡ Some e = ap (table_entry add.key) is ∙ content_entry_at_split add.key front e back split has in
    let gone : table_without add.key es ≡ front ++ back = ap (table_without add.key) is ∙ content_without_at_split add.key front e back split has in
    ap (put_into (record e { count = e.count + add.weight })) (sym gone) ∙ ap (λ o. after_step_from o capacity es add) (sym found)

pub content_step_with_room : (capacity : ℕ) (es : List Entry) (add : TableAdd) → table_entry add.key es ≡ None → length es < capacity
    → put_into (record { key = add.key; count = add.weight; error = 0 }) es ≡ after_step capacity es add
content_step_with_room capacity es add missing room =
    sym (cond-true (ltb (length es) capacity) (put_into (record { key = add.key; count = add.weight; error = 0 }) es) (replace_head es add)
    (lt-ltb (length es) capacity room)) ∙ ap (λ o. after_step_from o capacity es add) (sym missing)

pub content_step_when_full : (capacity : ℕ) (es : List Entry) (head : Entry) (rest : List Entry) (add : TableAdd) → es ≡ head ∷ rest
    → table_entry add.key es ≡ None → capacity ≤ length es
    → put_into (record { key = add.key; count = head.count + add.weight; error = head.count }) rest ≡ after_step capacity es add
content_step_when_full capacity es head rest add is missing full =
    ap (λ l. replace_head l add) (sym is)
    ∙ sym (cond-false (ltb (length es) capacity) (put_into (record { key = add.key; count = add.weight; error = 0 }) es) (replace_head es add)
    (le-ltb (length es) capacity full)) ∙ ap (λ o. after_step_from o capacity es add) (sym missing)
