-- Space-Saving with weights (Metwally, Agrawal, El Abbadi 2005): a table of a few entries, one step for each
-- weight that is added for a key, and the interval that the table then gives for a key.
use Rattle.std.specs.Prelude.{ℕ, ◌+◌, ◌-◌, ◌==◌, nat_lt, nat_le, if◌then◌else◌, List, [], ◌∷◌, length, filter, fold}
use Rattle.std.specs.Prelude.{sum_by, Option, None, Some, ◌≡◌, ◌*◌, ◌^◌, ◌<◌, ◌≤◌, All, ⊤}
use Rattle.space_saving.specs.declared.entry.Entry.{Entry}

-- one weight that is added for one key
pub record TableAdd : Type 0 where
  pub key : ℕ
  pub weight : ℕ

-- a table: the most entries that it may hold, and those that it holds, counts ascending
pub record TableValue : Type 0 where
  pub capacity : ℕ
  pub entries : List Entry

-- the entries after one more is inserted: after every entry whose count is at most its own, so last in a tie
abbrev pub put_into : Entry → List Entry → List Entry
put_into entry [] = entry ∷ []
put_into entry (first ∷ rest) = if nat_le first.count entry.count then first ∷ put_into entry rest else entry ∷ first ∷ rest

-- the entry of a key
abbrev pub table_entry : ℕ → List Entry → Option Entry
table_entry key [] = None
table_entry key (first ∷ rest) = if first.key == key then Some first else table_entry key rest

-- the entries after the first one of a key is removed
abbrev pub table_without : ℕ → List Entry → List Entry
table_without key [] = []
table_without key (first ∷ rest) = if first.key == key then rest else first ∷ table_without key rest

-- the entries after the head is replaced: its count becomes the error of the new entry
abbrev pub replace_head : List Entry → TableAdd → List Entry
replace_head [] add = []
replace_head (head ∷ rest) add =
    put_into (record { key = add.key; count = head.count + add.weight; error = head.count }) rest

-- the entries after an add for a key that has no entry: the new entry takes a free place, or replaces the head
abbrev pub enter_table : ℕ → List Entry → TableAdd → List Entry
enter_table capacity entries add =
    if nat_lt (length entries) capacity
    then put_into (record { key = add.key; count = add.weight; error = 0 }) entries
    else replace_head entries add

-- the entries after an add, by the entry that its key has: that entry is removed, and inserted with the weight added
abbrev pub after_step_from : Option Entry → ℕ → List Entry → TableAdd → List Entry
after_step_from None capacity entries add = enter_table capacity entries add
after_step_from (Some entry) capacity entries add =
    put_into (record entry { count = entry.count + add.weight }) (table_without add.key entries)

-- the entries of a table of this capacity after an add
abbrev pub after_step : ℕ → List Entry → TableAdd → List Entry
after_step capacity entries add = after_step_from (table_entry add.key entries) capacity entries add

-- the entries of a table of this capacity after these adds, started empty
abbrev pub table_of : ℕ → List TableAdd → List Entry
table_of capacity adds = fold (after_step capacity) [] adds

-- the sum of the counts
abbrev pub table_total : List Entry → ℕ
table_total entries = sum_by (λ entry. entry.count) entries

-- the least and the greatest weight that a key can have had
pub record TableInterval : Type 0 where
  pub low : ℕ
  pub high : ℕ

-- the count of the head, or 0 if there is no entry
abbrev pub least_count : List Entry → ℕ
least_count [] = 0
least_count (head ∷ rest) = head.count

-- the interval of a key by its entry; the high of a key without an entry is the least count if the table is full, else 0
abbrev pub interval_from : Option Entry → TableValue → TableInterval
interval_from None table = record {
  low = 0;
  high = if nat_lt (length table.entries) table.capacity then 0 else least_count table.entries;
}
interval_from (Some entry) table = record { low = entry.count - entry.error; high = entry.count }

-- the interval of a key in a table
abbrev pub interval_in : TableValue → ℕ → TableInterval
interval_in table key = interval_from (table_entry key table.entries) table

-- the interval of a key in a table of this capacity after these adds
abbrev pub interval_after : ℕ → List TableAdd → ℕ → TableInterval
interval_after capacity adds key = interval_in (record { capacity = capacity; entries = table_of capacity adds }) key

-- the weight that was added for a key
abbrev pub weight_of_key : ℕ → List TableAdd → ℕ
weight_of_key key adds = sum_by (λ add. add.weight) (filter (λ add. add.key == key) adds)

-- the weight that was added for all keys
abbrev pub total_added : List TableAdd → ℕ
total_added adds = sum_by (λ add. add.weight) adds

-- the counts are at least this number and never fall
abbrev pub RisesFrom : ℕ → List Entry → Type 0
RisesFrom least [] = ⊤
RisesFrom least (first ∷ rest) = (least ≤ first.count) × RisesFrom first.count rest

-- no two entries have the same key
abbrev pub KeysApart : List Entry → Type 0
KeysApart [] = ⊤
KeysApart (first ∷ rest) = (table_entry first.key rest ≡ None) × KeysApart rest

-- the error is below the count, and the error times the capacity is at most the total
abbrev pub HasSmallError : ℕ → ℕ → Entry → Type 0
HasSmallError capacity total entry = (entry.error < entry.count) × (entry.error * capacity ≤ total)

-- at most as many entries as the capacity, counts ascending, keys distinct, errors small
pub record IsTable (capacity : ℕ) (entries : List Entry) : Type 0 where
  pub fits : length entries ≤ capacity
  pub ascending : RisesFrom 0 entries
  pub distinct : KeysApart entries
  pub small_errors : All (HasSmallError capacity (table_total entries)) entries

-- the least capacity of a table
abbrev pub least_capacity : ℕ
least_capacity = 2

-- the greatest capacity of a table
abbrev pub most_capacity : ℕ
most_capacity = 4096

-- no table's total reaches this: a table counts at most 2^24 adds, each of which weighs less than 2^32
abbrev pub table_limit : ℕ
table_limit = 2 ^ 56

-- the entries of a table of this capacity whose counts add up to less than 2^56
pub record AreTableEntries (capacity : ℕ) (entries : List Entry) : Type 0 where
  pub is_table : IsTable capacity entries
  pub bounded : table_total entries < table_limit

-- what always holds of a table: its capacity is allowed, its memory has room for it, its total is the sum of the counts
pub record IsKeptTable (capacity room total : ℕ) (entries : List Entry) : Type 0 where
  pub least : least_capacity ≤ capacity
  pub most : capacity ≤ most_capacity
  pub has_room : capacity ≤ room
  pub adds_up : total ≡ table_total entries
  pub are_entries : AreTableEntries capacity entries

-- each weight is at least 1
abbrev pub AreWeighed : List TableAdd → Type 0
AreWeighed adds = All (λ add. 1 ≤ add.weight) adds
