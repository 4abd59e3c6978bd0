-- The prefixes that a prefix is under, node by node.
use Rattle.std.proofs.Common.{◌≡◌, ℕ, ◌%◌, ◌<◌, ◌≤◌, nat_le, eqb, Bool, true, false}
use Rattle.std.proofs.Common.{zero, suc, List, [], ◌∷◌, length, take, get_or, Option, None, Some, cond, refl, ap}
use Rattle.std.proofs.Common.{◌∙◌, subst, arith}
use Rattle.std.proofs.lemmas.Bool.{false≢true, eqb-true, eq-eqb, and_parts, and_from}
use Rattle.std.proofs.lemmas.Bool.Decides.{nat_tests}
use Rattle.std.proofs.lemmas.Option.{none-some}
use Rattle.prefix_lattice.specs.Address.{address_bits, address_of}
use Rattle.prefix_lattice.specs.KeptBits.{begins_with, AreLeadingBits}
use Rattle.prefix_lattice.specs.Grain.{grain_bits}
use Rattle.prefix_lattice.specs.Node.{NodeValue, IsNode}
use Rattle.prefix_lattice.specs.Prefix.{PrefixValue, IsPrefix, node_of_prefix, prefix_at}
use Rattle.prefix_lattice.specs.Lattice.{under}
use Rattle.prefix_lattice.specs.Uppers.{IsAbove, is_upper, shortened, upper_at}
use Rattle.prefix_lattice.specs.declared.grain.Grain.{Grain}
use Rattle.prefix_lattice.proofs.AddressLemmas.{address_front-from_begins_with}
use Rattle.prefix_lattice.proofs.ListFrontLemmas.{list_front-no_longer}
use Rattle.prefix_lattice.proofs.UnderMeetLemmas.{under_meet-address_begins}

-- a list begins with each of its fronts
begins_with-upper_front : (bytes : List ℕ) (n : ℕ) → begins_with bytes (take n bytes) ≡ true
begins_with-upper_front bytes zero = refl
begins_with-upper_front [] (suc n) = refl
begins_with-upper_front (x ∷ bytes) (suc n) =
    and_from (eqb x x) (begins_with bytes (take n bytes)) (eq-eqb x x refl) (begins_with-upper_front bytes n)

-- a list that begins with another has its fronts
upper_front-taken : (bytes front : List ℕ) (n : ℕ) → begins_with bytes front ≡ true → n ≤ length front
    → take n bytes ≡ take n front
upper_front-taken bytes front zero begins few = refl
upper_front-taken bytes [] (suc n) begins few = absurd (omega arith)
upper_front-taken [] (b ∷ front) (suc n) begins few = absurd (false≢true begins)
upper_front-taken (x ∷ bytes) (b ∷ front) (suc n) begins few =
    let both : (eqb x b ≡ true) × (begins_with bytes front ≡ true) =
    and_parts (eqb x b) (begins_with bytes front) begins in
    ap (λ d. d ∷ take n bytes) (eqb-true x b both.0)
    ∙ ap (λ l. b ∷ l) (upper_front-taken bytes front n both.1 (omega arith))

upper_front-length : (bytes : List ℕ) (n : ℕ) → n ≤ length bytes → length (take n bytes) ≡ n
upper_front-length bytes zero few = refl
upper_front-length [] (suc n) few = absurd (omega arith)
upper_front-length (x ∷ bytes) (suc n) few = let rest = upper_front-length bytes n (omega arith) in omega arith

-- what `upper` makes of the addresses of a prefix is the prefix cut down to the node
pub upper_of_addresses-shortened : {grain : Grain} (prefix : PrefixValue) (node : NodeValue) → IsPrefix grain prefix
    → node.source_bits ≤ length prefix.source → node.dest_bits ≤ length prefix.dest
    → prefix_at node (record { src = address_of prefix.source; dst = address_of prefix.dest; weight = 1 })
    ≡ shortened prefix node
upper_of_addresses-shortened prefix node is sources dests =
    let make : List ℕ → List ℕ → PrefixValue = λ source dest. record { source = source; dest = dest } in
    ap (λ source. make source (take node.dest_bits (address_bits (address_of prefix.dest))))
    (upper_front-taken (address_bits (address_of prefix.source)) prefix.source node.source_bits
    (under_meet-address_begins prefix.source is.source) sources)
    ∙ ap (make (take node.source_bits prefix.source))
    (upper_front-taken (address_bits (address_of prefix.dest)) prefix.dest node.dest_bits
    (under_meet-address_begins prefix.dest is.dest) dests)

-- a node that keeps no more than a prefix
pub is_upper-upper : (node : NodeValue) (prefix : PrefixValue) → node.source_bits ≤ length prefix.source
    → node.dest_bits ≤ length prefix.dest → is_upper node prefix ≡ true
is_upper-upper node prefix sources dests =
    and_from (nat_le node.source_bits (length prefix.source)) (nat_le node.dest_bits (length prefix.dest))
    (le-true _ _ sources) (le-true _ _ dests)
  where
    le-true : (a b : ℕ) → a ≤ b → nat_le a b ≡ true
    le-true a b le = grind (arith, nat_tests)

pub is_upper-upper_parts : (node : NodeValue) (prefix : PrefixValue) → is_upper node prefix ≡ true
    → (node.source_bits ≤ length prefix.source) × (node.dest_bits ≤ length prefix.dest)
is_upper-upper_parts node prefix keeps =
    let both = and_parts (nat_le node.source_bits (length prefix.source))
    (nat_le node.dest_bits (length prefix.dest)) keeps in
    (true-le _ _ both.0, true-le _ _ both.1)
  where
    true-le : (a b : ℕ) → nat_le a b ≡ true → a ≤ b
    true-le a b is = grind (arith, nat_tests)

-- a prefix has an upper one at a node exactly where the node keeps no more
pub upper-some : (prefix : PrefixValue) (node : NodeValue) → node.source_bits ≤ length prefix.source
    → node.dest_bits ≤ length prefix.dest → upper_at prefix node ≡ Some (shortened prefix node)
upper-some prefix node sources dests =
    ap (λ b. cond b (Some (shortened prefix node)) None) (is_upper-upper node prefix sources dests)

upper_front-small : (bytes : List ℕ) (n place : ℕ) → ((k : ℕ) → get_or bytes k 0 < 2)
    → get_or (take n bytes) place 0 < 2
upper_front-small bytes zero place small = omega arith
upper_front-small [] (suc n) place small = omega arith
upper_front-small (x ∷ bytes) (suc n) zero small = small 0
upper_front-small (x ∷ bytes) (suc n) (suc place) small = upper_front-small bytes n place (λ k. small (suc k))

upper_front-few : (bytes : List ℕ) (n : ℕ) → length (take n bytes) ≤ length bytes
upper_front-few bytes zero = omega arith
upper_front-few [] (suc n) = omega arith
upper_front-few (x ∷ bytes) (suc n) = let rest = upper_front-few bytes n in omega arith

upper_front-leading : (front : List ℕ) (n : ℕ) → AreLeadingBits front → AreLeadingBits (take n front)
upper_front-leading front n leading = record {
  few = omega (arith, upper_front-few front n, leading.few);
  bits = λ place. upper_front-small front n place leading.bits;
}

-- what an upper prefix is
pub upper-is : {grain : Grain} (prefix upper : PrefixValue) (node : NodeValue) → IsPrefix grain prefix
    → IsNode node.grain node → upper_at prefix node ≡ Some upper → IsAbove prefix upper node
upper-is prefix upper node is is_node found =
    by (is_upper node prefix) refl found
  where
    of : is_upper node prefix ≡ true → IsAbove prefix (shortened prefix node) node
    of keeps =
        let parts = is_upper-upper_parts node prefix keeps in
        let sources = upper_front-length prefix.source node.source_bits parts.0 in
        let dests = upper_front-length prefix.dest node.dest_bits parts.1 in
        let make : ℕ → ℕ → NodeValue = λ s d. record { grain = node.grain; source_bits = s; dest_bits = d } in
        record {
          is_prefix = record {
            source = upper_front-leading prefix.source node.source_bits is.source;
            dest = upper_front-leading prefix.dest node.dest_bits is.dest;
            source_steps = ap (λ n. n % grain_bits node.grain) sources ∙ is_node.source.whole;
            dest_steps = ap (λ n. n % grain_bits node.grain) dests ∙ is_node.dest.whole;
          };
          of_node =
              ap (λ s. make s (length (take node.dest_bits prefix.dest))) sources ∙ ap (make node.source_bits) dests;
          is_under =
              and_from (begins_with prefix.source (take node.source_bits prefix.source))
              (begins_with prefix.dest (take node.dest_bits prefix.dest))
              (begins_with-upper_front prefix.source node.source_bits) (begins_with-upper_front prefix.dest node.dest_bits);
        }

    some-injective : (x y : PrefixValue) → ◌≡◌ {A = Option PrefixValue} (Some x) (Some y) → x ≡ y
    some-injective x y same = cc

    by : (b : Bool) → is_upper node prefix ≡ b → cond b (Some (shortened prefix node)) None ≡ Some upper
        → IsAbove prefix upper node
    by true keeps same = subst (λ u. IsAbove prefix u node) (some-injective _ _ same) (of keeps)
    by false _ same = absurd (none-some upper same)

-- each prefix that a prefix is under is the upper one at its node
pub upper-only : (grain : Grain) (prefix upper : PrefixValue) → under prefix upper ≡ true
    → upper_at prefix (node_of_prefix grain upper) ≡ Some upper
upper-only grain prefix upper is =
    let both = and_parts (begins_with prefix.source upper.source) (begins_with prefix.dest upper.dest) is in
    let make : List ℕ → List ℕ → PrefixValue = λ source dest. record { source = source; dest = dest } in
    upper-some prefix (node_of_prefix grain upper) (list_front-no_longer prefix.source upper.source both.0)
    (list_front-no_longer prefix.dest upper.dest both.1)
    ∙ ap Some (ap (λ source. make source (take (length upper.dest) prefix.dest))
    (address_front-from_begins_with prefix.source upper.source both.0)
    ∙ ap (make upper.source) (address_front-from_begins_with prefix.dest upper.dest both.1))
