-- The intervals of one table, in the order of their keys.
use Rattle.std.specs.Prelude.{ℕ, ◌≡◌, ◌-◌, ◌==◌, Bool, List, Option, None, Some, Contains, is_some}
use Rattle.std.specs.List.{find}
use Rattle.std.specs.List.Sorted.{IsNonDecreasingBy}
use Rattle.std.specs.Option.{option_map}
use Rattle.space_saving.specs.{TableValue, TableInterval, table_entry, interval_from}
use Rattle.space_saving.specs.declared.entry.Entry.{Entry}
use Rattle.cut_merge.specs.declared.key_interval.KeyInterval.{KeyInterval}

-- the intervals of the keys that a table monitors, and the high of a key that it lacks
pub record RunValue : Type 0 where
  pub intervals : List KeyInterval
  pub missing : ℕ

-- the interval that an entry gives its key
abbrev pub interval_of_entry : Entry → KeyInterval
interval_of_entry entry = record { key = entry.key; low = entry.count - entry.error; high = entry.count }

-- the high of a key that is missing in a table
abbrev pub missing_high : TableValue → ℕ
missing_high table = (interval_from None table).high

-- intervals in the order of their keys, one for each key
pub record IsRun (intervals : List KeyInterval) : Type 0 where
  pub rising : IsNonDecreasingBy (λ interval. interval.key) intervals
  pub single : (interval other : KeyInterval) → Contains intervals interval → Contains intervals other
      → interval.key ≡ other.key → interval ≡ other

-- the interval of a key, if the run has the key
abbrev pub run_entry : ℕ → RunValue → Option KeyInterval
run_entry key run = find (λ interval. interval.key == key) run.intervals

-- the interval of a key by what the run has of it: where it has none, its low is 0, and its high that of a missing key
abbrev pub interval_or_missing : ℕ → Option KeyInterval → TableInterval
interval_or_missing missing None = record { low = 0; high = missing }
interval_or_missing missing (Some interval) = record { low = interval.low; high = interval.high }

-- the interval of a key in a run
abbrev pub run_interval : RunValue → ℕ → TableInterval
run_interval run key = interval_or_missing run.missing (run_entry key run)

-- whether a run has the key
abbrev pub is_monitored : ℕ → RunValue → Bool
is_monitored key run = is_some (run_entry key run)

-- the run has the intervals of a table: that of each entry, and the high of a key that is missing there
pub record IsRunOf (run : RunValue) (table : TableValue) : Type 0 where
  pub entries : (key : ℕ) → run_entry key run ≡ option_map interval_of_entry (table_entry key table.entries)
  pub missing : run.missing ≡ missing_high table
