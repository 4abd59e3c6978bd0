-- Worked examples of how the lines of a report are found, most by computing.
use Rattle.std.proofs.Common.{◌≡◌, ◌≢◌, ℕ, ◌+◌, ◌*◌, ◌≤◌, ◌≤ℤ◌, List, [], ◌∷◌, ◌++◌, length, All, AllPairs, Contains}
use Rattle.std.proofs.Common.{refl, sym, ap, subst, arith, pos}
use Rattle.std.proofs.Math.ListN.{replicate}
use Rattle.std.proofs.lemmas.Int.{ints}
use Rattle.std.proofs.lemmas.List.Elements.{All-nil, All-cons}
use Rattle.std.proofs.lemmas.List.Kept.{AllPairs-cons}
use Rattle.prefix_lattice.specs.{NodeValue, node_index, PrefixValue, node_of_prefix, prefix_key, IsPrefixKey}
use Rattle.prefix_lattice.specs.{node_count, deepest_level, IsGrainLength}
use Rattle.prefix_lattice.specs.declared.grain.Grain.TheVariants.{Byte, Nibble}
use Rattle.cut_merge.specs.{NodeMergeValue, MergedValue, nothing_merged, candidates_at}
use Rattle.hhh_report.specs.declared.line.Line.{Line}
use Rattle.hhh_report.specs.{line_limit}
use Rattle.hhh_output.specs.Selecting.{low_of, high_of, CanSelect, IsSelected}
use Rattle.hhh_output.specs.Selecting.{most_candidates}
use Rattle.hhh_output.specs.Selecting.{AreCandidates, nodes_before, nodes_down}
use Rattle.hhh_output.specs.Selecting.{AreDistinct, AreOfLevel, AreDownTo}
use Rattle.hhh_output.proofs.Examples.{root, whole, whole_is_prefix, own, of_all, alike}
use Rattle.conditioned_bounds.specs.{member_limit}

-- of the nodes by whole bytes one has level 64, and two have level 56
pub nodes_of_the_first_levels : nodes_down Byte 9 ≡ 3
nodes_of_the_first_levels = refl

-- of those by half bytes one has level 64, two have level 60, and three have level 56
pub nodes_of_the_first_levels_by_half_bytes : nodes_down Nibble 9 ≡ 6
nodes_of_the_first_levels_by_half_bytes = refl

pub nodes_of_level_32 : nodes_before Byte 32 25 ≡ 5
nodes_of_level_32 = refl

pub nodes_of_level_32_by_half_bytes : nodes_before Nibble 32 81 ≡ 9
nodes_of_level_32_by_half_bytes = refl

pub no_node_of_level_33 : nodes_before Nibble 33 81 ≡ 0
no_node_of_level_33 = refl

pub a_node_has_the_entries_of_128_tables_at_most : most_candidates Byte ≡ 128 * 4096
a_node_has_the_entries_of_128_tables_at_most = refl

pub and_of_smaller_ones_by_half_bytes : most_candidates Nibble ≡ 128 * 1024
and_of_smaller_ones_by_half_bytes = refl

-- the index of lines, by which they are selected, has room for all lines of a report
pub limit_of_an_index_is_that_of_lines : member_limit ≡ line_limit
limit_of_an_index_is_that_of_lines = refl

pub lines_of_two_prefixes_are_distinct : AreDistinct (own ∷ of_all ∷ [])
lines_of_two_prefixes_are_distinct =
    let Other : Line → Line → Type 0 = λ line other. line.prefix ≢ other.prefix in
    AllPairs-cons Other own (of_all ∷ [])
    (All-cons (Other own) of_all []
    (λ same. let kept : 32
    ≡ 0 = ap (λ (prefix : PrefixValue). length prefix.source) same in omega (arith, kept))
    (All-nil (Other own)))
    (AllPairs-cons Other of_all [] (All-nil (Other of_all)) (λ place later other before within. absurd (omega arith)))

pub a_prefix_has_one_line : ¬ AreDistinct (own ∷ own ∷ [])
a_prefix_has_one_line distinct = distinct 0 1 own (omega arith) (omega arith) refl

-- merged tables that know the packet's own prefix, 100 to 100, at the last of the 25 nodes, and nothing elsewhere
abbrev merged : MergedValue
merged = record {
  shape = record { grain = Byte; capacity = 4 };
  total = 100;
  nodes =
      replicate 24 nothing_merged
      ++ record {
        runs = record { intervals = record { key = prefix_key whole; low = 100; high = 100 } ∷ []; missing = 0 } ∷ [];
        keys = prefix_key whole ∷ [];
      } ∷ [];
}

-- those that know nothing at all
abbrev nothing : MergedValue
nothing = record {
  shape = record { grain = Byte; capacity = 4 };
  total = 0;
  nodes = replicate (node_count Byte) nothing_merged;
}

pub low_of_the_own_prefix : low_of merged whole ≡ 100
low_of_the_own_prefix = refl

pub high_of_the_unknown_root : high_of merged root ≡ 0
high_of_the_unknown_root = refl

pub line_that_is_asked_for : CanSelect merged 100 [] own
line_that_is_asked_for =
    let unexplained : pos 100 ≤ℤ pos 100 = omega (arith, ints) in
    record { low = refl; high = refl; heavy = omega arith; unexplained = unexplained }

pub line_below_the_threshold : ¬ CanSelect merged 101 [] own
line_below_the_threshold asked = omega (arith, asked.heavy)

pub line_with_another_interval : ¬ CanSelect merged 0 [] of_all
line_with_another_interval asked = let low : 100 ≡ 0 = asked.low in omega (arith, low)

pub selected_line : IsSelected merged 100 [] own
selected_line = record {
  is_prefix = whole_is_prefix;
  candidate = (0, omega arith, refl);
  asked = line_that_is_asked_for;
}

no_candidates : (node : NodeValue) → candidates_at nothing node ≡ []
no_candidates node = ap (λ (merge : NodeMergeValue). merge.keys) (alike nothing_merged (node_count Byte)
    (node_index node))

pub nothing_has_no_candidates : AreCandidates nothing
nothing_has_no_candidates = record {
  keyed = λ node is_node. subst (All (IsPrefixKey node)) (sym (no_candidates node)) (All-nil (IsPrefixKey node));
  distinct = λ node is_node.
      subst (AllPairs (λ key other. key ≢ other)) (sym (no_candidates node))
      (λ place later other before within. absurd (omega arith));
  few = λ node is_node.
      subst (λ (keys : List ℕ). length keys ≤ most_candidates Byte) (sym (no_candidates node)) (omega arith);
}

-- the root keeps no bit, so its only key is 0
pub root_has_no_key_1 : ¬ AreCandidates
    (record nothing { nodes = record { runs = []; keys = 1 ∷ [] } ∷ [] })
root_has_no_key_1 candidates =
    let none : IsGrainLength Byte 0 = record { few = omega arith; whole = refl } in
    let loose : 1 ≡ 0 =
    (candidates.keyed (node_of_prefix Byte root) (record { of_grain = refl; source = none; dest = none }) 0 1
    (omega arith)).dest in
    omega (arith, loose)

-- nothing is selected from nothing
none_selected : (threshold : ℕ) (lines : List PrefixValue) (line : Line) → ¬ IsSelected nothing threshold lines line
none_selected threshold lines line selected =
    let none =
    subst (λ keys. Contains keys (prefix_key line.prefix)) (no_candidates
    (node_of_prefix Byte line.prefix)) selected.candidate in
    omega (arith, none.1)

pub nothing_has_no_line_of_the_deepest_level : AreOfLevel nothing 1 [] deepest_level []
nothing_has_no_line_of_the_deepest_level = record {
  members = λ line.
      ((λ inside. absurd (omega (arith, inside.1))), (λ selected. absurd (none_selected 1 [] line selected.1)));
  rising = λ place later other before within. absurd (omega arith);
  few = omega arith;
}

pub a_selected_line_is_not_left_out : ¬ AreOfLevel merged 100 [] deepest_level []
a_selected_line_is_not_left_out level =
    let inside = (level.members own).1 (refl, selected_line) in omega (arith, inside.1)

pub nothing_has_no_line_of_any_level : AreDownTo nothing 1 (deepest_level + 1) []
nothing_has_no_line_of_any_level = record {
  above = λ line inside. absurd (omega (arith, inside.1));
  members = λ line of_level.
      ((λ inside. absurd (omega (arith, inside.1))), (λ selected. absurd (none_selected 1 [] line selected)));
  rising = λ place later other before within. absurd (omega arith);
  few = omega arith;
}

-- before the deepest level no line is found, whatever is merged
pub no_level_has_no_line : AreDownTo merged 100 0 []
no_level_has_no_line = record {
  above = λ line inside. absurd (omega (arith, inside.1));
  members = λ line above. (
    (λ inside. absurd (omega (arith, inside.1))),
    (λ selected. absurd (omega (arith, above, selected.is_prefix.source.few, selected.is_prefix.dest.few))),
  );
  rising = λ place later other before within. absurd (omega arith);
  few = omega arith;
}

pub deepest_level_is_not_left_out : ¬ AreDownTo merged 100 1 []
deepest_level_is_not_left_out down = let inside = (down.members own (omega arith)).1 selected_line in omega
    (arith, inside.1)
