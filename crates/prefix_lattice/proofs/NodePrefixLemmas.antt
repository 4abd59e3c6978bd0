-- The prefix of a node that covers a record, and its key.
use Rattle.std.proofs.Common.{◌≡◌, ℕ, ◌%◌, ◌^◌, ◌<◌, ◌≤◌, eqb, true, List, length, take, refl, sym, ap, ◌∙◌, arith, subst}
use Rattle.std.proofs.lemmas.Bool.{eqb-true, eq-eqb, and_parts, and_from}
use Rattle.prefix_lattice.specs.Address.{address_bits, address_of}
use Rattle.prefix_lattice.specs.KeptBits.{begins_with}
use Rattle.prefix_lattice.specs.Grain.{grain_bits}
use Rattle.prefix_lattice.specs.Record.{RecordValue}
use Rattle.prefix_lattice.specs.Node.{NodeValue, IsNode}
use Rattle.prefix_lattice.specs.declared.grain.Grain.{Grain}
use Rattle.prefix_lattice.specs.Prefix.{PrefixValue, IsPrefix, covers, node_of_prefix, prefix_at, prefix_key, HasPrefixKey}
use Rattle.prefix_lattice.proofs.AddressLemmas.{address_front_is_leading, address_front-length, address_of-small}
use Rattle.prefix_lattice.proofs.AddressLemmas.{address_tells_leading_bits}
use Rattle.prefix_lattice.proofs.AddressLemmas.{address_tests_agree, begins_with-address_front}
use Rattle.prefix_lattice.proofs.AddressLemmas.{address_front-from_begins_with}

-- an address begins with its own first bits
node_prefix-own_bits : (n address : ℕ) → n ≤ 32 → begins_with (address_bits address) (take n (address_bits address)) ≡ true
node_prefix-own_bits n address few = begins_with-address_front (address_bits address) (take n (address_bits address))
    (ap (λ m. take m (address_bits address)) (address_front-length n address few))

-- a record is covered by its prefix at a node
pub node_prefix-covers : (node : NodeValue) (rec : RecordValue) → node.source_bits ≤ 32 → node.dest_bits ≤ 32
    → covers (prefix_at node rec) rec ≡ true
node_prefix-covers node rec few_source few_dest =
    and_from _ _ (node_prefix-own_bits node.source_bits rec.src few_source)
    (node_prefix-own_bits node.dest_bits rec.dst few_dest)

-- no other prefix of the node covers it
pub only_node_prefix_covers : (node : NodeValue) (rec : RecordValue) (other : PrefixValue) → node_of_prefix node.grain other ≡ node
    → covers other rec ≡ true → other ≡ prefix_at node rec
only_node_prefix_covers node rec other of_node covered =
    let both : (begins_with (address_bits rec.src) other.source ≡ true)
    × (begins_with (address_bits rec.dst) other.dest ≡ true) =
    and_parts _ _ covered in
    let source : other.source ≡ take node.source_bits (address_bits rec.src) =
    sym (address_front-from_begins_with (address_bits rec.src) other.source both.0)
    ∙ ap (λ (n : NodeValue). take n.source_bits (address_bits rec.src)) of_node in
    let dest : other.dest ≡ take node.dest_bits (address_bits rec.dst) =
    sym (address_front-from_begins_with (address_bits rec.dst) other.dest both.1)
    ∙ ap (λ (n : NodeValue). take n.dest_bits (address_bits rec.dst)) of_node in
    let with_source : _ → PrefixValue = λ s. record { source = s; dest = other.dest } in
    let with_dest : _ → PrefixValue =
    λ d. record { source = take node.source_bits (address_bits rec.src); dest = d } in
    ap with_source source ∙ ap with_dest dest

-- two prefixes of one node with the same key are the same
pub node_prefix-same_key : {grain : Grain} (prefix other : PrefixValue) → IsPrefix grain prefix → IsPrefix grain other
    → node_of_prefix grain prefix ≡ node_of_prefix grain other
    → prefix_key prefix ≡ prefix_key other → prefix ≡ other
node_prefix-same_key prefix other valid other_valid of_node same =
    let dest_small : address_of prefix.dest < 2 ^ 32 = address_of-small prefix.dest valid.dest in
    let other_small : address_of other.dest < 2 ^ 32 = address_of-small other.dest other_valid.dest in
    let sources : address_of prefix.source ≡ address_of other.source = omega arith in
    let dests : address_of prefix.dest ≡ address_of other.dest = omega arith in
    let source : prefix.source ≡ other.source =
    address_tells_leading_bits _ _ valid.source other_valid.source (ap (λ (n : NodeValue). n.source_bits) of_node) sources in
    let dest : prefix.dest ≡ other.dest =
    address_tells_leading_bits _ _ valid.dest other_valid.dest (ap (λ (n : NodeValue). n.dest_bits) of_node) dests in
    let with_source : _ → PrefixValue = λ s. record { source = s; dest = prefix.dest } in
    let with_dest : _ → PrefixValue = λ d. record { source = other.source; dest = d } in
    ap with_source source ∙ ap with_dest dest

-- the prefix of a record at a node is a prefix of that node
pub node_prefix-is_of_node : (node : NodeValue) (rec : RecordValue) → IsNode node.grain node
    → HasPrefixKey node (prefix_key (prefix_at node rec)) (prefix_at node rec)
node_prefix-is_of_node node rec valid =
    let sources = address_front-length node.source_bits rec.src valid.source.few in
    let dests = address_front-length node.dest_bits rec.dst valid.dest.few in
    let lengths : _ → _ → NodeValue = λ m n. record { grain = node.grain; source_bits = m; dest_bits = n } in
    record {
      is_prefix = record {
        source = address_front_is_leading node.source_bits rec.src valid.source.few;
        dest = address_front_is_leading node.dest_bits rec.dst valid.dest.few;
        source_steps = ap (λ n. n % grain_bits node.grain) sources ∙ valid.source.whole;
        dest_steps = ap (λ n. n % grain_bits node.grain) dests ∙ valid.dest.whole;
      };
      of_node =
          ap (λ m. lengths m (length (take node.dest_bits (address_bits rec.dst)))) sources
          ∙ ap (λ m. lengths node.source_bits m) dests;
      of_key = refl;
    }

-- a prefix covers a record where the record's prefix at its node has its key
pub node_prefix-covers_by_key : {grain : Grain} (prefix : PrefixValue) (rec : RecordValue) → IsPrefix grain prefix
    → covers prefix rec ≡ eqb (prefix_key (prefix_at (node_of_prefix grain prefix) rec)) (prefix_key prefix)
node_prefix-covers_by_key {grain} prefix rec valid =
    let node = node_of_prefix grain prefix in
    let own = prefix_at node rec in
    let own_is = node_prefix-is_of_node node rec (record {
      of_grain = refl;
      source = record { few = valid.source.few; whole = valid.source_steps };
      dest = record { few = valid.dest.few; whole = valid.dest_steps };
    }) in
    address_tests_agree (covers prefix rec) (eqb (prefix_key own) (prefix_key prefix))
    (λ covered. eq-eqb (prefix_key own) (prefix_key prefix) (ap prefix_key (sym (only_node_prefix_covers node rec prefix refl covered))))
    (λ same.
    subst (λ p. covers p rec ≡ true)
    (node_prefix-same_key own prefix own_is.is_prefix valid own_is.of_node (eqb-true (prefix_key own) (prefix_key prefix) same))
    (node_prefix-covers node rec valid.source.few valid.dest.few))

-- the prefix made of a record's first bits is its prefix at the node
pub node_prefix-made_of_bits : (node : NodeValue) (rec : RecordValue) (m n : ℕ) (source dest : List ℕ) → m ≡ node.source_bits
    → n ≡ node.dest_bits
    → source ≡ take m (address_bits rec.src) → dest ≡ take n (address_bits rec.dst)
    → (made : PrefixValue) → made.source ≡ source → made.dest ≡ dest → made ≡ prefix_at node rec
node_prefix-made_of_bits node rec m n source dest of_m of_n from_source from_dest made is_source is_dest =
    let with_source : _ → PrefixValue = λ s. record { source = s; dest = made.dest } in
    let with_dest : _ → PrefixValue =
    λ d. record { source = take node.source_bits (address_bits rec.src); dest = d } in
    ap with_source (is_source ∙ from_source ∙ ap (λ k. take k (address_bits rec.src)) of_m)
    ∙ ap with_dest (is_dest ∙ from_dest ∙ ap (λ k. take k (address_bits rec.dst)) of_n)
