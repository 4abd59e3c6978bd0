-- What a rule of dealing is asked, and what it may answer.
use Rattle.std.specs.Prelude.{ℕ, ◌≡◌, ◌%◌, ◌^◌, ◌<◌, ◌≤◌}
use Rattle.prefix_lattice.specs.{RecordValue, record_limit, shard_limit}
use Rattle.deal_rules.specs.declared.deal_kind.DealKind.{DealKind}
use Rattle.deal_rules.specs.declared.deal_kind.DealKind.TheVariants.{RoundRobin, BySource}

-- what a rule may be asked: an index below 16,777,216, a record of weight 1 or more, and a number of shards, 1 to 16
pub record IsAsked (place : ℕ) (rec : RecordValue) (shards : ℕ) : Type 0 where
  pub early : place < record_limit
  pub source : rec.src < 2 ^ 32
  pub dest : rec.dst < 2 ^ 32
  pub weighed : 1 ≤ rec.weight
  pub light : rec.weight < 2 ^ 32
  pub some : 1 ≤ shards
  pub few : shards ≤ shard_limit

-- a number that a rule of the kind may give: the index, or the source address, modulo the number of shards; Free allows
-- any number
pub record IsNumberBy (kind : DealKind) (place : ℕ) (rec : RecordValue) (shards number : ℕ) : Type 0 where
  pub round : kind ≡ RoundRobin → number ≡ place % shards
  pub source : kind ≡ BySource → number ≡ rec.src % shards

-- a shard that a dealing may give a record: it follows the formula of the kind, and the dealer's function may return it
pub record MayDeal (kind : DealKind) (may_answer : ℕ → RecordValue → ℕ → ℕ → Type 0) (place : ℕ)
    (rec : RecordValue) (shards number : ℕ) : Type 0 where
  pub below : number < shards
  pub of_kind : IsNumberBy kind place rec shards number
  pub answered : may_answer place rec shards number
