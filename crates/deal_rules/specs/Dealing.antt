-- Dealing: one shard number for each record, and each shard's records in their order.
use Rattle.std.specs.Prelude.{ℕ, ◌≡◌, ◌<◌, ◌≤◌, ◌==◌, List, length, map, filter, All, slice_get, Some}
use Rattle.std.specs.List.{zip, range_with_len, sum_by}
use Rattle.prefix_lattice.specs.{RecordValue, record_limit, shard_limit}
use Rattle.deal_rules.specs.declared.deal_kind.DealKind.{DealKind}
use Rattle.deal_rules.specs.DealKind.{MayDeal}

-- the records of a shard: those whose number is the shard's, in order
abbrev pub dealt_list : ℕ → List ℕ → List RecordValue → List RecordValue
dealt_list shard numbers records =
    map (λ (dealt : ℕ × RecordValue). dealt.1)
    (filter (λ (dealt : ℕ × RecordValue). dealt.0 == shard) (zip numbers records))

-- the lists of all shards, from shard 0 on
abbrev pub dealt_lists : ℕ → List ℕ → List RecordValue → List (List RecordValue)
dealt_lists shards numbers records = map (λ shard. dealt_list shard numbers records) (range_with_len 0 shards)

-- each record has one number, which is a shard, and each shard has the records with its number
pub record AreDealt (shards : ℕ) (records : List RecordValue) (numbers : List ℕ) (lists : List (List RecordValue))
    : Type 0 where
  pub as_many : length numbers ≡ length records
  pub below : All (λ number. number < shards) numbers
  pub parted : lists ≡ dealt_lists shards numbers records

-- each number is one that the rule may give the record at its index, counted from 0
abbrev pub FollowsRule : DealKind → (ℕ → RecordValue → ℕ → ℕ → Type 0) → ℕ → List RecordValue → List ℕ → Type 0
FollowsRule kind may_answer shards records numbers = (place number : ℕ) (rec : RecordValue)
    → slice_get records place ≡ Some rec → slice_get numbers place ≡ Some number
    → MayDeal kind may_answer place rec shards number

-- the lists are a dealing of the records by the rule
pub record IsDealing (kind : DealKind) (may_answer : ℕ → RecordValue → ℕ → ℕ → Type 0) (shards : ℕ)
    (records : List RecordValue) (lists : List (List RecordValue)) : Type 0 where
  pub numbers : List ℕ
  pub dealt : AreDealt shards records numbers lists
  pub ruled : FollowsRule kind may_answer shards records numbers

-- the lists of 1 to 16 shards, with at most 16,777,216 records in all
pub record AreDealings (lists : List (List RecordValue)) : Type 0 where
  pub some : 1 ≤ length lists
  pub few : length lists ≤ shard_limit
  pub small : sum_by (λ list. length list) lists ≤ record_limit
