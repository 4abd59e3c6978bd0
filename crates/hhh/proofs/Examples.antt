-- Worked examples of the shards that records go to, of severities, and of the stores that words name.
use Rattle.std.proofs.Common.{◌≡◌, List, [], ◌∷◌, codes, refl}
use Rattle.prefix_lattice.specs.{RecordValue}
use Rattle.deal_rules.specs.declared.deal_kind.DealKind.TheVariants.{RoundRobin, BySource, Free}
use Rattle.hhh.specs.Named.{AreStoresOf}
use Rattle.hhh.specs.Rules.{rule_shard, severity}

-- 100 bytes from 10.1.2.3 to 20.1.2.2
abbrev packet : RecordValue
packet = record { src = 0x0a010203; dst = 0x14010202; weight = 100 }

-- the sixth record is the second of its round
pub shard_in_turn : rule_shard RoundRobin 5 packet 4 ≡ 1
shard_in_turn = refl

pub shard_of_a_source : rule_shard BySource 5 packet 4 ≡ 3
shard_of_a_source = refl

-- the lowest bits of the two addresses are 11 and 10
pub shard_of_both_addresses : rule_shard Free 5 packet 4 ≡ 1
shard_of_both_addresses = refl

-- a low of 250 holds the limit 100 twice, whatever the high
pub severity_of_two_and_a_half : severity 250 900 100 ≡ 2
severity_of_two_and_a_half = refl

pub severity_of_the_limit_itself : severity 100 100 100 ≡ 1
severity_of_the_limit_itself = refl

pub severity_is_at_most_7 : severity 5000 5000 100 ≡ 7
severity_is_at_most_7 = refl

-- no words ask for no report over sites
pub no_words_name_no_store : AreStoresOf [] []
no_words_name_no_store = record { named = λ settings phi names asked. absurd asked; unnamed = λ none. refl }

pub no_words_name_a_store : AreStoresOf [] (codes "a" ∷ []) → ⊥
no_words_name_a_store are = let none : codes "a" ∷ [] ≡ [] = are.unnamed (λ names sites. sites.asked) in cc none
