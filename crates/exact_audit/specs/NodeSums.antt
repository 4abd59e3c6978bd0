-- The sums of a node: for each key the weight of its records, and of those that no line strictly under its prefix
-- covers.
use Rattle.std.specs.Prelude.{ℕ, ◌≡◌, ◌==◌, ◌&&◌, not, nat_eq, Bool, List, map, sum_by, All, unwrap_or, is_some, true}
use Rattle.std.specs.Prelude.{if◌then◌else◌}
use Rattle.std.specs.HashMap.{HashMap, get}
use Rattle.prefix_lattice.specs.{RecordValue, NodeValue, PrefixValue, IsPrefix, IsPrefixKey, node_of_prefix, prefix_key}
use Rattle.prefix_lattice.specs.{prefix_at}
use Rattle.prefix_lattice.specs.{prefix_weight, conditioned_weight}
use Rattle.prefix_lattice.specs.declared.grain.Grain.{Grain}
use Rattle.exact_audit.specs.declared.counted.Counted.{Counted}
use Rattle.exact_audit.specs.declared.node_sums.Sums.{Sums}
use Rattle.exact_audit.specs.Depths.{AreDepths, explained_by}

-- the records that are counted
abbrev pub records_in : List Counted → List RecordValue
records_in counted = map (λ c. c.rec) counted

-- these records are counted, each with its depths under lines, which are of a grain
pub record AreCountedIn (grain : Grain) (lines : List PrefixValue) (records : List RecordValue) (counted : List Counted)
    : Type 0 where
  pub prefixes : All (IsPrefix grain) lines
  pub same : records_in counted ≡ records
  pub depths : All (λ c. AreDepths grain lines c.rec c.depths) counted

-- the sums of no record
abbrev pub no_sums : Sums
no_sums = record { weight = 0; left = 0 }

-- whether the record's prefix of a node has a key
abbrev pub has_sum : NodeValue → ℕ → Counted → Bool
has_sum node key counted = prefix_key (prefix_at node counted.rec) == key

-- the weight of the records whose prefix of a node has a key
abbrev pub sum_weight : NodeValue → ℕ → List Counted → ℕ
sum_weight node key counted = sum_by (λ c. if has_sum node key c then c.rec.weight else 0) counted

-- the weight of those among them that no line strictly under the prefix covers
abbrev pub sum_left : NodeValue → ℕ → List Counted → ℕ
sum_left node key counted =
    sum_by (λ c. if has_sum node key c && not (explained_by c.depths node) then c.rec.weight else 0) counted

-- the sums of a key, none if it is missing
abbrev pub sums_for : {S : Type 0} → HashMap ℕ Sums S → ℕ → Sums
sums_for sums key = unwrap_or (get nat_eq sums key) no_sums

-- the sums of a node over counted records, by the keys of their prefixes
pub record AreKeySums {S : Type 0} (node : NodeValue) (counted : List Counted) (sums : HashMap ℕ Sums S) : Type 0 where
  pub weight : (key : ℕ) → (sums_for sums key).weight ≡ sum_weight node key counted
  pub left : (key : ℕ) → (sums_for sums key).left ≡ sum_left node key counted

-- the weight of a prefix, and its conditioned weight over lines
abbrev pub sums_of : List PrefixValue → List RecordValue → PrefixValue → Sums
sums_of lines records prefix = record {
  weight = prefix_weight prefix records;
  left = conditioned_weight prefix lines records;
}

-- the sums of a node: those of each of its prefixes, by its key
abbrev pub AreNodeSums : {S : Type 0} → NodeValue → List PrefixValue → List RecordValue → HashMap ℕ Sums S → Type 0
AreNodeSums node lines records sums = (prefix : PrefixValue) → IsPrefix node.grain prefix
    → node_of_prefix node.grain prefix ≡ node
    → sums_for sums (prefix_key prefix) ≡ sums_of lines records prefix

-- each key that is kept is one of the node
abbrev pub HasSumKeys : {S : Type 0} → NodeValue → HashMap ℕ Sums S → Type 0
HasSumKeys node sums = (key : ℕ) → is_some (get nat_eq sums key) ≡ true → IsPrefixKey node key
