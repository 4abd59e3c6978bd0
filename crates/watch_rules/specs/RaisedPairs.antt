-- The pairs of a rule and a prefix for which there was an alarm, and their codes.
use Rattle.std.specs.Prelude.{ℕ, ◌≡◌, ◌+◌, ◌*◌, ◌^◌, ◌<◌, ◌==◌, ◌&&◌, Bool, false, List, length, map, All}
use Rattle.std.specs.List.{list_any}
use Rattle.std.specs.BTreeSet.{BTreeSet, contains}
use Rattle.std.specs.Ordering.{nat_cmp}
use Rattle.prefix_lattice.specs.{PrefixValue, IsPrefix, finest_grain, prefix_key, same_as}
use Rattle.watch_rules.specs.declared.alarm.Alarm.{Alarm}
use Rattle.watch_rules.specs.declared.raised.Raised.{Raised}

-- the pairs of a rule and a prefix that some alarms name
abbrev pub raised_by : List Alarm → List Raised
raised_by alarms = map (λ (alarm : Alarm). record { rule = alarm.rule; prefix = alarm.prefix }) alarms

-- a rule, by its number, and a prefix are among these pairs
abbrev pub is_raised : List Raised → ℕ → PrefixValue → Bool
is_raised raised number prefix =
    list_any (λ (pair : Raised). pair.rule == number && same_as pair.prefix prefix) raised

-- no alarm is of one of these pairs
abbrev pub AreNew : List Raised → List Alarm → Type 0
AreNew raised alarms = All (λ (alarm : Alarm). is_raised raised alarm.rule alarm.prefix ≡ false) alarms

-- the code of a rule and a prefix: the rule's number, how many bits the prefix keeps of each address, and its key
abbrev pub pair_code : ℕ → PrefixValue → ℕ
pair_code number prefix =
    (number * 65536 + (length prefix.source * 256 + length prefix.dest)) * 2 ^ 64 + prefix_key prefix

-- these codes are those of the pairs: a rule below 2^32 and a prefix have their code there exactly if they are raised
abbrev pub AreCoded : List Raised → BTreeSet ℕ → Type 0
AreCoded raised codes = (number : ℕ) (prefix : PrefixValue) → number < 2 ^ 32 → IsPrefix finest_grain prefix
    → contains nat_cmp codes (pair_code number prefix) ≡ is_raised raised number prefix
