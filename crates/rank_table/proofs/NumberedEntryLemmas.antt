-- Entries of a table that are inserted one after the other.
use Rattle.std.proofs.Common.{◌≡◌, ℕ, ◌+◌, ◌<◌, ◌≤◌, true, false, cond, eqb, List, [], ◌∷◌, ◌++◌, length, map, None}
use Rattle.std.proofs.Common.{Some, refl, sym, ap, ◌∙◌, arith}
use Rattle.std.specs.List.{AllByRecursion}
use Rattle.std.proofs.lemmas.Bool.{eqb-false}
use Rattle.space_saving.specs.declared.entry.Entry.{Entry}
use Rattle.space_saving.specs.{table_entry, RisesFrom, KeysApart}
use Rattle.rank_table.specs.declared.slot.Slot.{Slot}
use Rattle.rank_table.specs.Marks.{numbered}
use Rattle.rank_table.specs.Ranks.{slot_rank}
use Rattle.rank_table.specs.SlotOrder.{put_in_order, in_rank_order, ordered_entries, AreOrdered}
use Rattle.rank_table.specs.Slot.{AreApart}
use Rattle.rank_table.proofs.RankedSlotLemmas.{ranked_slot_entry, slot_put_in_order-least}

pub length-numbered_entries : (time : ℕ) (entries : List Entry) → length (numbered time entries) ≡ length entries
length-numbered_entries time [] = refl
length-numbered_entries time (entry ∷ rest) = omega (arith, length-numbered_entries (time + 1) rest)

pub numbered-push_entry : (time : ℕ) (entries : List Entry) (entry : Entry) (last : ℕ) → time + length entries ≡ last
    → numbered time (entries ++ entry ∷ []) ≡ numbered time entries ++ (let s : Slot = record { entry = entry; time = last } in s) ∷ []
numbered-push_entry time [] entry last is = ap (λ n. (let s : Slot = record { entry = entry; time = n } in s) ∷ [])
    (let e : time ≡ last = omega arith in e)
numbered-push_entry time (first ∷ rest) entry last is = ap (λ l. (let s : Slot = record { entry = first; time = time } in s) ∷ l)
    (numbered-push_entry (time + 1) rest entry last (omega arith))

-- counts that rise from a number rise from each smaller one
numbered_entries_rise_from_less : (less least : ℕ) (entries : List Entry) → RisesFrom least entries → less ≤ least → RisesFrom less entries
numbered_entries_rise_from_less less least [] rises below = tt
numbered_entries_rise_from_less less least (entry ∷ rest) rises below = (let above : least ≤ entry.count = rises.0 in omega arith, rises.1)

-- the first entry's key differs from one that is missing
missing_numbered_entry_parts : (key : ℕ) (entry : Entry) (rest : List Entry) → table_entry key (entry ∷ rest) ≡ None → (entry.key ≡ key → ⊥)
    × (table_entry key rest ≡ None)
missing_numbered_entry_parts key entry rest missing =
    (elim (eqb entry.key key) as (λ b. eqb entry.key key ≡ b → cond b (Some entry) (table_entry key rest) ≡ None → (entry.key ≡ key
    → ⊥) × (table_entry key rest ≡ None)) [
      | true ↦ λ _ is. cc
      | false ↦ λ no is. (eqb-false entry.key key no, is)
    ]) refl missing

-- slots of rising counts and times are in order
numbered_entry_ranks_rise : (slot : Slot) (time : ℕ) (entries : List Entry) → slot.time < time → RisesFrom slot.entry.count entries
    → AllByRecursion (λ other. slot_rank slot ≤ slot_rank other) (numbered time entries)
unfolding slot_rank
numbered_entry_ranks_rise slot time [] sooner rises = tt
numbered_entry_ranks_rise slot time (entry ∷ rest) sooner rises =
    let at_most : slot.entry.count ≤ entry.count = rises.0 in (
      omega arith,
      numbered_entry_ranks_rise slot (time + 1) rest (omega arith) (numbered_entries_rise_from_less slot.entry.count entry.count rest rises.1
          at_most),
    )

pub in_rank_order-numbered_entries : (time least : ℕ) (entries : List Entry) → RisesFrom least entries
    → in_rank_order (numbered time entries) ≡ numbered time entries
in_rank_order-numbered_entries time least [] rises = refl
in_rank_order-numbered_entries time least (entry ∷ rest) rises =
    let slot : Slot = record { entry = entry; time = time } in
    ap (put_in_order slot) (in_rank_order-numbered_entries (time + 1) entry.count rest rises.1)
    ∙ slot_put_in_order-least slot (numbered (time + 1) rest) (numbered_entry_ranks_rise slot (time + 1) rest (omega arith) rises.1)

entries-numbered : (time : ℕ) (entries : List Entry) → map ranked_slot_entry (numbered time entries) ≡ entries
entries-numbered time [] = refl
entries-numbered time (entry ∷ rest) = ap (λ l. entry ∷ l) (entries-numbered (time + 1) rest)

pub ordered_entries-numbered : (entries : List Entry) → RisesFrom 0 entries → ordered_entries (numbered 0 entries) ≡ entries
ordered_entries-numbered entries rises = ap (map ranked_slot_entry) (in_rank_order-numbered_entries 0 0 entries rises) ∙ entries-numbered 0 entries

-- a slot whose key is missing among later entries is apart from their slots
apart_from_numbered_entries : (slot : Slot) (time : ℕ) (entries : List Entry) → slot.time < time → table_entry slot.entry.key entries ≡ None
    → AllByRecursion (AreApart slot) (numbered time entries)
apart_from_numbered_entries slot time [] sooner missing = tt
apart_from_numbered_entries slot time (entry ∷ rest) sooner missing =
    let parts = missing_numbered_entry_parts slot.entry.key entry rest missing in
    ((λ same. parts.0 (sym same), λ same. omega arith), apart_from_numbered_entries slot (time + 1) rest (omega arith) parts.1)

AreOrdered-numbered_entries : (time now : ℕ) (entries : List Entry) → KeysApart entries → time + length entries ≤ now
    → AreOrdered now (numbered time entries)
AreOrdered-numbered_entries time now [] apart fits = record { timed = tt; distinct = tt }
AreOrdered-numbered_entries time now (entry ∷ rest) apart fits =
    let behind = AreOrdered-numbered_entries (time + 1) now rest apart.1 (omega arith) in
    record {
      timed = (omega arith, behind.timed);
      distinct = (apart_from_numbered_entries (record { entry = entry; time = time }) (time + 1) rest (omega arith) apart.0, behind.distinct);
    }

pub AreOrdered-all_numbered_entries : (entries : List Entry) → KeysApart entries → AreOrdered (length entries) (numbered 0 entries)
AreOrdered-all_numbered_entries entries apart = AreOrdered-numbered_entries 0 (length entries) entries apart (omega arith)
