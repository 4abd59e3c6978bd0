-- The three rules by which the program deals records to shards, and its rule of severity.
use Rattle.std.specs.Prelude.{ℕ, ◌%◌, ◌/◌, min, bit_xor}
use Rattle.prefix_lattice.specs.{RecordValue}
use Rattle.deal_rules.specs.declared.deal_kind.DealKind.{DealKind}
use Rattle.deal_rules.specs.declared.deal_kind.DealKind.TheVariants.{RoundRobin, BySource, Free}
use Rattle.hhh_engine.specs.{RunRules, judged_by, rules_by, run_rules}

-- the shard of a record: in turn, by its source address, or by both its addresses
abbrev pub rule_shard : DealKind → ℕ → RecordValue → ℕ → ℕ
rule_shard RoundRobin place rec shards = place % shards
rule_shard BySource place rec shards = rec.src % shards
rule_shard Free place rec shards = bit_xor rec.src rec.dst % shards

-- the severity of an alarm: how many times its low holds the limit, at most 7
abbrev pub severity : ℕ → ℕ → ℕ → ℕ
severity lo hi limit = min (lo / limit) 7

-- these formulas, as the rules of a run
abbrev pub program_rules : RunRules
program_rules = run_rules (rules_by rule_shard) (judged_by severity)
