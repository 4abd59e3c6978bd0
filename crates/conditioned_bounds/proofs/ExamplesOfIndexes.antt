-- Worked examples of how lines are indexed, most by computing.
use Rattle.std.proofs.Common.{◌≡◌, ◌≢◌, ℕ, ◌+◌, ◌*◌, ◌^◌, false, List, [], ◌∷◌, length, None, Some, refl, sym, ap}
use Rattle.std.proofs.Common.{◌<◌, ◌∙◌, map, All, Vec, subst, arith}
use Rattle.std.specs.Map.{lookup}
use Rattle.std.specs.Ordering.{nat_cmp}
use Rattle.std.specs.Prelude.{vec_len, vec_capacity}
use Rattle.std.specs.BTreeMap.{BTreeMap, is_at}
use Rattle.std.specs.declared.alloc.Global.{Global}
use Rattle.std.proofs.lemmas.Bool.{false≢true}
use Rattle.prefix_lattice.proofs.ListLemmas.{Contains-list_head}
use Rattle.prefix_lattice.proofs.Examples.{front}
use Rattle.prefix_lattice.specs.{PrefixValue, AreLeadingBits, IsPrefix, node_of_prefix, strictly_under, finest_grain}
use Rattle.prefix_lattice.specs.{prefix_code}
use Rattle.prefix_lattice.specs.declared.grain.Grain.{Grain}
use Rattle.prefix_lattice.specs.declared.grain.Grain.TheVariants.{Byte, Nibble}
use Rattle.conditioned_bounds.specs.Uppers.{AreUpperCodes}
use Rattle.conditioned_bounds.specs.Members.{member_limit, AreMembers}
use Rattle.conditioned_bounds.specs.Numbers.{line_numbers, line_numbers_at, HaveRoom}
use Rattle.conditioned_bounds.specs.Numbers.{HasRoomFor}
use Rattle.conditioned_bounds.specs.LineIndex.{root_line, indexed_line, AreIndexed}

-- 10.1.0.0/16 20.0.0.0/8
abbrev net : PrefixValue
net = record { source = front 0x0a010000 16; dest = front 0x14000000 8 }

-- node 11 of the 25, and 10.1.0.0 and 20.0.0.0
pub code_of_the_net : prefix_code Byte net ≡ 11 * 2 ^ 64 + 0x0a01000014000000
code_of_the_net = refl

-- among half bytes it is of node 38 of the 81
pub code_of_the_net_by_half_bytes : prefix_code Nibble net ≡ 38 * 2 ^ 64 + 0x0a01000014000000
code_of_the_net_by_half_bytes = refl

-- 10.0.0.0/8 and 10.0.0.0/16 have the same address, and differ in their nodes
pub nets_of_one_address_have_two_codes : prefix_code Byte (record { source = front 0x0a000000 8; dest = [] })
    ≢ prefix_code Byte (record { source = front 0x0a000000 16; dest = [] })
nets_of_one_address_have_two_codes same = omega (arith, same)

no_upper : (source dest : List ℕ) → false ≡ strictly_under root_line (record { source = source; dest = dest })
no_upper [] [] = refl
no_upper [] (bit ∷ dest) = refl
no_upper (bit ∷ source) dest = refl

root_is_prefix : IsPrefix Byte root_line
root_is_prefix =
    let none : AreLeadingBits [] = record { few = omega arith; bits = λ place. omega arith } in
    record { source = none; dest = none; source_steps = refl; dest_steps = refl }

-- nothing is above the root
pub the_root_has_no_codes_above : (grain : Grain) → AreUpperCodes grain root_line []
the_root_has_no_codes_above grain = record {
  distinct = λ i j d before within. absurd (omega arith);
  members = λ upper is. no_upper upper.source upper.dest;
}

pub the_root_is_not_above_itself : ¬ AreUpperCodes Byte root_line (prefix_code Byte root_line ∷ [])
the_root_is_not_above_itself above = false≢true (sym (above.members root_line root_is_prefix))

pub limit_of_an_index : member_limit ≡ 2 ^ 24
limit_of_an_index = refl

-- no prefixes, no codes, no nodes
pub no_members : AreMembers [] (record { keys = [] }) []
no_members = record {
  few = omega arith;
  prefixes = λ k d within. absurd (omega arith);
  coded = λ prefix there. absurd (omega (arith, there.1));
  found = λ prefix is there. absurd (false≢true there);
  nodes = λ k d within. absurd (omega arith);
  finest = λ k d within. absurd (omega arith);
}

-- a member whose code is missing wouldn't be found
pub a_member_has_its_code : ¬ AreMembers (root_line ∷ []) (record { keys = [] })
    (node_of_prefix finest_grain root_line ∷ [])
a_member_has_its_code are = false≢true (are.coded root_line (Contains-list_head root_line []))

-- a map of one code, with the numbers that are kept under it
pub numbers_of_a_code : (kept : BTreeMap ℕ (Vec ℕ Global)) (numbers : Vec ℕ Global)
    → kept.entries ≡ (5, numbers) ∷ [] → line_numbers_at kept 5 ≡ numbers.items
numbers_of_a_code kept numbers is =
    ap (λ (entries : List (ℕ × Vec ℕ Global)). line_numbers (lookup (is_at (nat_cmp 5)) entries)) is

pub no_numbers_of_another_code : (kept : BTreeMap ℕ (Vec ℕ Global)) (numbers : Vec ℕ Global)
    → kept.entries ≡ (5, numbers) ∷ [] → line_numbers_at kept 6 ≡ []
no_numbers_of_another_code kept numbers is =
    ap (λ (entries : List (ℕ × Vec ℕ Global)). line_numbers (lookup (is_at (nat_cmp 6)) entries)) is

pub nothing_kept_is_no_number : line_numbers None ≡ []
nothing_kept_is_no_number = refl

pub another_code_has_no_room : (kept : BTreeMap ℕ (Vec ℕ Global)) (numbers : Vec ℕ Global)
    → kept.entries ≡ (5, numbers) ∷ [] → ¬ HasRoomFor kept 6
another_code_has_no_room kept numbers is room =
    subst (λ (entries : List (ℕ × Vec ℕ Global)). HaveRoom (lookup (is_at (nat_cmp 6)) entries)) is room

pub no_room_where_the_capacity_is_used_up : (numbers : Vec ℕ Global) → vec_len numbers ≡ vec_capacity numbers
    → ¬ HaveRoom (Some numbers)
no_room_where_the_capacity_is_used_up numbers full room = omega (arith, full, room)

pub first_line : indexed_line (net ∷ root_line ∷ []) 0 ≡ net
first_line = refl

pub no_line_of_a_number_past_the_last : indexed_line (net ∷ []) 1 ≡ root_line
no_line_of_a_number_past_the_last = refl

nothing_at : (kept : BTreeMap ℕ (Vec ℕ Global)) (code : ℕ) → kept.entries ≡ [] → line_numbers_at kept code ≡ []
nothing_at kept code is =
    ap (λ (entries : List (ℕ × Vec ℕ Global)). line_numbers (lookup (is_at (nat_cmp code)) entries)) is

pub no_lines_are_indexed_by_nothing : (grain : Grain) (kept : BTreeMap ℕ (Vec ℕ Global)) → kept.entries ≡ []
    → AreIndexed grain [] kept
no_lines_are_indexed_by_nothing grain kept is = record {
  few = omega arith;
  prefixes = λ k d within. absurd (omega arith);
  distinct = λ i j d before within. absurd (omega arith);
  numbers = λ code.
      subst (All (λ number. number < 0)) (sym (nothing_at kept code is)) (λ k d within. absurd (omega arith));
  under = λ prefix is_prefix. ap (map (indexed_line [])) (nothing_at kept (prefix_code grain prefix) is);
}

-- the root would miss the net under it
pub a_line_is_not_indexed_by_nothing : (kept : BTreeMap ℕ (Vec ℕ Global)) → kept.entries ≡ []
    → ¬ AreIndexed Byte (net ∷ []) kept
a_line_is_not_indexed_by_nothing kept is are =
    let missed : 0 ≡ 1 =
    ap length (sym (ap (map (indexed_line (net ∷ []))) (nothing_at kept (prefix_code Byte root_line) is))
    ∙ are.under root_line root_is_prefix) in
    omega (arith, missed)
