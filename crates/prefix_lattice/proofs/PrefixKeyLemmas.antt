-- The keys of a node, and the one prefix of the node that has each.
use Rattle.std.proofs.Common.{◌≡◌, ℕ, List, ◌*◌, ◌+◌, ◌-◌, ◌/◌, ◌%◌, ◌^◌, ◌<◌, length, take, Option, None, Some, IsSome, IfSome}
use Rattle.std.proofs.Common.{IfNone, refl, sym, ap, ◌∙◌, arith, subst}
use Rattle.std.proofs.Math.Nat.{mul-mod_left}
use Rattle.prefix_lattice.specs.Address.{address_bits, address_of, number_from}
use Rattle.prefix_lattice.specs.Record.{RecordValue}
use Rattle.prefix_lattice.specs.Node.{NodeValue, IsNode}
use Rattle.prefix_lattice.specs.Prefix.{PrefixValue, IsPrefix, node_of_prefix, prefix_at, prefix_key, IsPrefixKey}
use Rattle.prefix_lattice.specs.Prefix.{HasPrefixKey}
use Rattle.prefix_lattice.specs.declared.grain.Grain.{Grain}
use Rattle.prefix_lattice.proofs.AddressLemmas.{address_of-small}
use Rattle.prefix_lattice.proofs.NodePrefixLemmas.{node_prefix-same_key, node_prefix-is_of_node}

-- the key of a prefix sets no bit that its node doesn't keep
pub IsPrefixKey-prefix : (grain : Grain) (prefix : PrefixValue) → IsPrefix grain prefix
    → IsPrefixKey (node_of_prefix grain prefix) (prefix_key prefix)
IsPrefixKey-prefix grain prefix valid =
    let small : address_of prefix.dest < 2 ^ 32 = address_of-small prefix.dest valid.dest in
    let high : prefix_key prefix / 2 ^ 32 ≡ address_of prefix.source = omega arith in
    let low : prefix_key prefix % 2 ^ 32 ≡ address_of prefix.dest = omega arith in
    record {
      source =
          ap (λ m. m % 2 ^ (32 - length prefix.source)) high
          ∙ mul-mod_left (number_from 2 0 prefix.source) (2 ^ (32 - length prefix.source));
      dest =
          ap (λ m. m % 2 ^ (32 - length prefix.dest)) low
          ∙ mul-mod_left (number_from 2 0 prefix.dest) (2 ^ (32 - length prefix.dest));
    }

-- the key of a prefix of a node is a key of the node
pub IsPrefixKey-had_by_prefix : (node : NodeValue) (key : ℕ) (prefix : PrefixValue) → HasPrefixKey node key prefix → IsPrefixKey node key
IsPrefixKey-had_by_prefix node key prefix has =
    subst (IsPrefixKey node) has.of_key
    (subst (λ n. IsPrefixKey n (prefix_key prefix)) has.of_node (IsPrefixKey-prefix node.grain prefix has.is_prefix))

-- the key of a record's prefix at a node is a key of the node
pub IsPrefixKey-record_prefix : (node : NodeValue) (rec : RecordValue) → IsNode node.grain node
    → IsPrefixKey node (prefix_key (prefix_at node rec))
IsPrefixKey-record_prefix node rec valid =
    IsPrefixKey-had_by_prefix node (prefix_key (prefix_at node rec)) (prefix_at node rec) (node_prefix-is_of_node node rec valid)

-- a node has one prefix with a key
one_prefix_with_key : (node : NodeValue) (key : ℕ) (prefix other : PrefixValue) → HasPrefixKey node key prefix
    → HasPrefixKey node key other → prefix ≡ other
one_prefix_with_key node key prefix other has other_has =
    node_prefix-same_key prefix other has.is_prefix other_has.is_prefix (has.of_node ∙ sym other_has.of_node)
    (has.of_key ∙ sym other_has.of_key)

-- a result that has the key, or is None where the key is none of the node, is the only correct one
pub prefix_is_some_for_key : (node : NodeValue) (key : ℕ) (result : Option PrefixValue) → IfSome result (HasPrefixKey node key)
    → IfNone result (IsPrefixKey node key → ⊥)
    → (IsSome result → IsPrefixKey node key) × (IsPrefixKey node key → IsSome result)
prefix_is_some_for_key node key (Some found) some none = (λ _. IsPrefixKey-had_by_prefix node key found some, λ _. refl)
prefix_is_some_for_key node key None some none = (λ no. cc no, λ is_key. absurd (none is_key))

pub exactly_prefix_with_key : (node : NodeValue) (key : ℕ) (result : Option PrefixValue) → IfSome result (HasPrefixKey node key)
    → IfNone result (IsPrefixKey node key → ⊥)
    → (prefix : PrefixValue)
    → (result ≡ Some prefix → HasPrefixKey node key prefix) × (HasPrefixKey node key prefix → result ≡ Some prefix)
exactly_prefix_with_key node key (Some found) some none prefix =
    (λ same. subst (HasPrefixKey node key) (cc same) some, λ has. ap Some (one_prefix_with_key node key found prefix some has))
exactly_prefix_with_key node key None some none prefix =
    (λ same. cc same, λ has. absurd (none (IsPrefixKey-had_by_prefix node key prefix has)))

-- two sides that are the first bits of the halves of a key, with nothing loose, are the node's prefix with that key
pub HasPrefixKey-of_sides : (node : NodeValue) (key high low m n : ℕ) (source dest : List ℕ) → IsNode node.grain node
    → m ≡ node.source_bits → n ≡ node.dest_bits → high * 2 ^ 32 + low ≡ key
    → (source ≡ take m (address_bits high)) × (address_of source ≡ high)
    → (dest ≡ take n (address_bits low)) × (address_of dest ≡ low)
    → HasPrefixKey node key (record { source = source; dest = dest })
HasPrefixKey-of_sides node key high low m n source dest valid of_m of_n whole from_high from_low =
    let rec : RecordValue = record { src = high; dst = low; weight = 1 } in
    let make : List ℕ → List ℕ → PrefixValue = λ s d. record { source = s; dest = d } in
    let same : prefix_at node rec ≡ record { source = source; dest = dest } =
    ap (λ s. make s (take node.dest_bits (address_bits low)))
    (sym (from_high.0 ∙ ap (λ k. take k (address_bits high)) of_m))
    ∙ ap (make source) (sym (from_low.0 ∙ ap (λ k. take k (address_bits low)) of_n)) in
    let has = subst (λ p. HasPrefixKey node (prefix_key p) p) same (node_prefix-is_of_node node rec valid) in
    record {
      is_prefix = has.is_prefix;
      of_node = has.of_node;
      of_key =
          ap (λ address. address * 2 ^ 32 + address_of dest) from_high.1
          ∙ ap (λ address. high * 2 ^ 32 + address) from_low.1 ∙ whole;
    }
