-- A step keeps what is true of every key.
use Rattle.std.proofs.Common.{ℕ, ◌+◌, eqb, Bool, true, false, cond, nat_le, nat_lt, List, [], ◌∷◌, length, Option, None}
use Rattle.std.proofs.Common.{Some, IfSome, All}
use Rattle.std.proofs.lemmas.List.Elements.{All-cons, All-head, All-tail}
use Rattle.space_saving.specs.declared.entry.Entry.{Entry}
use Rattle.space_saving.specs.{TableAdd, put_into, table_entry, table_without, replace_head, enter_table}
use Rattle.space_saving.specs.{after_step_from, after_step}

-- each key has this property
abbrev pub KeysHaveProperty : (ℕ → Type 0) → List Entry → Type 0
KeysHaveProperty Q entries = All (λ (e : Entry). Q e.key) entries

KeysHaveProperty-cons : (Q : ℕ → Type 0) (entry : Entry) (entries : List Entry) → Q entry.key → KeysHaveProperty Q entries
    → KeysHaveProperty Q (entry ∷ entries)
KeysHaveProperty-cons Q entry entries here rest = All-cons (λ (e : Entry). Q e.key) entry entries here rest

KeysHaveProperty-head : (Q : ℕ → Type 0) (entry : Entry) (entries : List Entry) → KeysHaveProperty Q (entry ∷ entries) → Q entry.key
KeysHaveProperty-head Q entry entries have = All-head (λ (e : Entry). Q e.key) entry entries have

KeysHaveProperty-tail : (Q : ℕ → Type 0) (entry : Entry) (entries : List Entry) → KeysHaveProperty Q (entry ∷ entries) → KeysHaveProperty Q entries
KeysHaveProperty-tail Q entry entries have = All-tail (λ (e : Entry). Q e.key) entry entries have

KeysHaveProperty-put : (Q : ℕ → Type 0) (entry : Entry) (entries : List Entry) → Q entry.key → KeysHaveProperty Q entries
    → KeysHaveProperty Q (put_into entry entries)
KeysHaveProperty-put Q entry [] here have = KeysHaveProperty-cons Q entry [] here have
KeysHaveProperty-put Q entry (first ∷ rest) here have =
    let again = KeysHaveProperty-put Q entry rest here (KeysHaveProperty-tail Q first rest have) in
    elim (nat_le first.count entry.count) as (λ later. KeysHaveProperty Q (cond later (first ∷ put_into entry rest) (entry ∷ first ∷ rest))) [
      | true ↦ KeysHaveProperty-cons Q first (put_into entry rest) (KeysHaveProperty-head Q first rest have) again
      | false ↦ KeysHaveProperty-cons Q entry (first ∷ rest) here have
    ]

KeysHaveProperty-without : (Q : ℕ → Type 0) (key : ℕ) (entries : List Entry) → KeysHaveProperty Q entries → KeysHaveProperty Q (table_without key entries)
KeysHaveProperty-without Q key [] have = have
KeysHaveProperty-without Q key (first ∷ rest) have =
    let again = KeysHaveProperty-without Q key rest (KeysHaveProperty-tail Q first rest have) in
    elim (eqb first.key key) as (λ same. KeysHaveProperty Q (cond same rest (first ∷ table_without key rest))) [
      | true ↦ KeysHaveProperty-tail Q first rest have
      | false ↦ KeysHaveProperty-cons Q first (table_without key rest) (KeysHaveProperty-head Q first rest have) again
    ]

KeysHaveProperty-found : (Q : ℕ → Type 0) (key : ℕ) (entries : List Entry) → KeysHaveProperty Q entries
    → IfSome (table_entry key entries) (λ (e : Entry). Q e.key)
KeysHaveProperty-found Q key [] have = tt
KeysHaveProperty-found Q key (first ∷ rest) have =
    let again = KeysHaveProperty-found Q key rest (KeysHaveProperty-tail Q first rest have) in
    elim (eqb first.key key) as (λ same. IfSome (cond same (Some first) (table_entry key rest)) (λ (e : Entry). Q e.key)) [
      | true ↦ KeysHaveProperty-head Q first rest have
      | false ↦ again
    ]

KeysHaveProperty-replaced : (Q : ℕ → Type 0) (entries : List Entry) (add : TableAdd) → Q add.key → KeysHaveProperty Q entries
    → KeysHaveProperty Q (replace_head entries add)
KeysHaveProperty-replaced Q [] add here have = have
KeysHaveProperty-replaced Q (head ∷ rest) add here have =
    KeysHaveProperty-put Q (record { key = add.key; count = head.count + add.weight; error = head.count }) rest here (KeysHaveProperty-tail Q head rest have)

KeysHaveProperty-entered : (Q : ℕ → Type 0) (capacity : ℕ) (entries : List Entry) (add : TableAdd) → Q add.key → KeysHaveProperty Q entries
    → KeysHaveProperty Q (enter_table capacity entries add)
KeysHaveProperty-entered Q capacity entries add here have = by_test (nat_lt (length entries) capacity)
  where
    by_test : (room : Bool)
        → KeysHaveProperty Q (cond room (put_into (record { key = add.key; count = add.weight; error = 0 }) entries) (replace_head entries add))
    by_test true = KeysHaveProperty-put Q (record { key = add.key; count = add.weight; error = 0 }) entries here have
    by_test false = KeysHaveProperty-replaced Q entries add here have

KeysHaveProperty-step_from : (Q : ℕ → Type 0) (found : Option Entry) (capacity : ℕ) (entries : List Entry) (add : TableAdd)
    → IfSome found (λ (e : Entry). Q e.key)
    → Q add.key → KeysHaveProperty Q entries → KeysHaveProperty Q (after_step_from found capacity entries add)
KeysHaveProperty-step_from Q None capacity entries add found here have = KeysHaveProperty-entered Q capacity entries add here have
KeysHaveProperty-step_from Q (Some entry) capacity entries add found here have =
    KeysHaveProperty-put Q (record entry { count = entry.count + add.weight }) (table_without add.key entries) found
    (KeysHaveProperty-without Q add.key entries have)

-- a step for a key that has it leaves keys that have it
pub KeysHaveProperty-step : (Q : ℕ → Type 0) (capacity : ℕ) (entries : List Entry) (add : TableAdd) → Q add.key → KeysHaveProperty Q entries
    → KeysHaveProperty Q (after_step capacity entries add)
KeysHaveProperty-step Q capacity entries add here have = KeysHaveProperty-step_from Q (table_entry add.key entries) capacity entries add
    (KeysHaveProperty-found Q add.key entries have) here have
