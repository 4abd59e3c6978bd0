-- The prefixes that a cut monitors are in one list.
use Rattle.std.proofs.Common.{◌≡◌, ℕ, ◌+◌, ◌*◌, ◌/◌, ◌%◌, ◌^◌, ◌<◌, ◌≤◌, zero, suc, eqb, true, List, [], ◌++◌, length}
use Rattle.std.proofs.Common.{get_or, map, All, Contains, inl, inr, sym, ap, ◌∙◌, subst, length-append, arith}
use Rattle.std.proofs.lemmas.Bool.{cases_lt, eqb-true}
use Rattle.std.proofs.lemmas.List.{length-map, get_or-map}
use Rattle.std.proofs.lemmas.List.Elements.{All-nil, All-append, All-map, Contains-append_left}
use Rattle.std.proofs.lemmas.List.Elements.{Contains-append_right}
use Rattle.std.proofs.Math.Nat.{suc-mul}
use Rattle.prefix_lattice.specs.{RecordValue, NodeValue, IsNode, node_index, node_at, node_count, PrefixValue, IsPrefix}
use Rattle.prefix_lattice.specs.{node_of_prefix, prefix_key, prefix_at, address_of, covers, HasPrefixKey}
use Rattle.prefix_lattice.specs.declared.grain.Grain.{Grain}
use Rattle.prefix_lattice.proofs.NodePlaceLemmas.{node_at_own_place, IsNode-node_at_place}
use Rattle.shard_state.specs.{CutValue, IsCut}
use Rattle.cut_merge.specs.{monitored_in_cut}
use Rattle.hhh_output.specs.Reporting.{IsMonitored}
use Rattle.hhh_output.specs.Selecting.{most_candidates}
use Rattle.hhh_output.proofs.PrefixNodeLemmas.{prefix_node_is_valid}
use Rattle.hhh_output.proofs.SelectionLemmas.{selection_entries-few}

-- what the laws of the lattice say of keys: a record's prefix at a node is one of that node, distinct prefixes of a
-- node have distinct keys, a prefix covers a record whose prefix at its node has its key, and a prefix covers its own
-- addresses
pub record MonitoredPrefixKeysHold : Type 0 where
  pub made : (node : NodeValue) (rec : RecordValue) → IsNode node.grain node
      → HasPrefixKey node (prefix_key (prefix_at node rec)) (prefix_at node rec)
  pub apart : (grain : Grain) (prefix other : PrefixValue) → IsPrefix grain prefix → IsPrefix grain other
      → node_of_prefix grain prefix ≡ node_of_prefix grain other → prefix_key prefix ≡ prefix_key other → prefix ≡ other
  pub covering : (grain : Grain) (prefix : PrefixValue) (rec : RecordValue) → IsPrefix grain prefix
      → covers prefix rec ≡ eqb (prefix_key (prefix_at (node_of_prefix grain prefix) rec)) (prefix_key prefix)
  pub own : (grain : Grain) (prefix : PrefixValue) (weight : ℕ) → IsPrefix grain prefix
      → covers prefix (record { src = address_of prefix.source; dst = address_of prefix.dest; weight = weight }) ≡ true
  pub small : (grain : Grain) (prefix : PrefixValue) → IsPrefix grain prefix → address_of prefix.dest < 2 ^ 32

-- the two halves of a key
monitored_prefix_halves : (source dest : ℕ) → dest < 2 ^ 32
    → ((source * 2 ^ 32 + dest) / 2 ^ 32 ≡ source) × ((source * 2 ^ 32 + dest) % 2 ^ 32 ≡ dest)
monitored_prefix_halves source dest few = (omega arith, omega arith)

-- the prefix of a node whose addresses begin as a key says
abbrev monitored_prefix_of_key : NodeValue → ℕ → PrefixValue
monitored_prefix_of_key node key = prefix_at node (record { src = key / 2 ^ 32; dst = key % 2 ^ 32; weight = 1 })

-- that of the key of a prefix is the prefix
monitored_prefix_of_own_key : MonitoredPrefixKeysHold → (grain : Grain) (prefix : PrefixValue) → IsPrefix grain prefix
    → monitored_prefix_of_key (node_of_prefix grain prefix) (prefix_key prefix) ≡ prefix
monitored_prefix_of_own_key keys grain prefix is =
    let node = node_of_prefix grain prefix in
    let made : ℕ → ℕ → PrefixValue = λ src dst. prefix_at node (record { src = src; dst = dst; weight = 1 }) in
    let halves =
    monitored_prefix_halves (address_of prefix.source) (address_of prefix.dest) (keys.small grain prefix is) in
    let rec : RecordValue = record { src = address_of prefix.source; dst = address_of prefix.dest; weight = 1 } in
    let own = keys.made node rec (prefix_node_is_valid prefix is) in
    let key : prefix_key (prefix_at node rec) ≡ prefix_key prefix =
    eqb-true (prefix_key (prefix_at node rec)) (prefix_key prefix)
    (sym (keys.covering grain prefix rec is) ∙ keys.own grain prefix 1 is) in
    ap (λ src. made src (prefix_key prefix % 2 ^ 32)) halves.0
    ∙ ap (made (address_of prefix.source)) halves.1
    ∙ keys.apart grain (prefix_at node rec) prefix own.is_prefix is own.of_node key

-- where a list has an element, the list of what a function makes of it has what it makes of this one
pub Contains-monitored_map : {X Y : Type 0} (f : X → Y) (xs : List X) (x : X) → Contains xs x
    → Contains (map f xs) (f x)
Contains-monitored_map f xs x (place, within, same) =
    (place, omega (arith, length-map xs f), get_or-map f xs place x (f x) within ∙ ap f same)

-- the prefixes of a node whose keys a cut monitors
abbrev monitored_prefixes_at : CutValue → NodeValue → List PrefixValue
monitored_prefixes_at cut node = map (monitored_prefix_of_key node) (monitored_in_cut cut node)

-- each prefix that a cut monitors is among those of its node
monitored_prefix_is_at_node : MonitoredPrefixKeysHold → (cut : CutValue) (prefix : PrefixValue) (place : ℕ)
    → IsPrefix cut.shape.grain prefix → IsMonitored cut prefix
    → node_index (node_of_prefix cut.shape.grain prefix) ≡ place
    → Contains (monitored_prefixes_at cut (node_at cut.shape.grain place)) prefix
monitored_prefix_is_at_node keys cut prefix place is monitored same =
    let grain = cut.shape.grain in
    let node = node_of_prefix grain prefix in
    let at : node_at grain place ≡ node =
    ap (node_at grain) (sym same) ∙ node_at_own_place node (prefix_node_is_valid prefix is) in
    let own : Contains (monitored_prefixes_at cut node) prefix =
    subst (Contains (monitored_prefixes_at cut node)) (monitored_prefix_of_own_key keys grain prefix is)
    (Contains-monitored_map (monitored_prefix_of_key node) (monitored_in_cut cut node) (prefix_key prefix) monitored) in
    subst (λ (n : NodeValue). Contains (monitored_prefixes_at cut n) prefix) (sym at) own

-- the laws that the list rests on
pub record MonitoredPrefixesAreFew (cut : CutValue) : Type 0 where
  pub few : (node : NodeValue) → IsNode cut.shape.grain node
      → length (monitored_in_cut cut node) ≤ length cut.shards * cut.shape.capacity
  pub keys : MonitoredPrefixKeysHold

-- prefixes among which is each one of the nodes before an index that the cut monitors
pub record HasMonitoredPrefixes (cut : CutValue) (places : ℕ) (prefixes : List PrefixValue) : Type 0 where
  pub are_prefixes : All (IsPrefix cut.shape.grain) prefixes
  pub there : (prefix : PrefixValue) → IsPrefix cut.shape.grain prefix → IsMonitored cut prefix
      → node_index (node_of_prefix cut.shape.grain prefix) < places → Contains prefixes prefix
  pub few : length prefixes ≤ places * most_candidates cut.shape.grain

-- those of one more node
monitored_prefixes_go_on : (cut : CutValue) (place : ℕ) (older : List PrefixValue) → IsCut cut
    → MonitoredPrefixesAreFew cut → place < node_count cut.shape.grain → HasMonitoredPrefixes cut place older
    → HasMonitoredPrefixes cut (suc place) (older ++ monitored_prefixes_at cut (node_at cut.shape.grain place))
monitored_prefixes_go_on cut place older kept laws small has =
    let grain = cut.shape.grain in
    let node = node_at grain place in
    let keys = monitored_in_cut cut node in
    let new = monitored_prefixes_at cut node in
    let is_node : IsNode grain node = IsNode-node_at_place grain place small in
    record {
      are_prefixes =
          All-append (IsPrefix grain) older new has.are_prefixes
          (All-map (IsPrefix grain) (monitored_prefix_of_key node) keys
          (λ k d within.
          (laws.keys.made node (record { src = get_or keys k d / 2 ^ 32; dst = get_or keys k d % 2 ^ 32; weight = 1 })
          is_node).is_prefix));
      there = λ prefix is monitored within. elim (cases_lt (node_index (node_of_prefix grain prefix)) place) [
        | inl before ↦ Contains-append_left older new prefix (has.there prefix is monitored before)
        | inr here ↦
            Contains-append_right older new prefix
            (monitored_prefix_is_at_node laws.keys cut prefix place is monitored (omega (arith, within, here)))
      ];
      few =
          omega (
            arith,
            has.few,
            laws.few node is_node,
            selection_entries-few cut kept,
            suc-mul place (most_candidates grain),
            length-append older new,
            length-map keys (monitored_prefix_of_key node),
          );
    }

-- there are such prefixes
pub each_cut_has_monitored_prefixes : (cut : CutValue) → IsCut cut → MonitoredPrefixesAreFew cut → (places : ℕ)
    → places ≤ node_count cut.shape.grain → (prefixes : List PrefixValue) × HasMonitoredPrefixes cut places prefixes
each_cut_has_monitored_prefixes cut kept laws zero within = (
  [],
  record {
    are_prefixes = All-nil (IsPrefix cut.shape.grain);
    there = λ prefix is monitored before. absurd (omega (arith, before));
    few = omega arith;
  },
)
each_cut_has_monitored_prefixes cut kept laws (suc place) within =
    let older = each_cut_has_monitored_prefixes cut kept laws place (omega arith) in (
      older.0 ++ monitored_prefixes_at cut (node_at cut.shape.grain place),
      monitored_prefixes_go_on cut place older.0 kept laws (omega arith) older.1,
    )
