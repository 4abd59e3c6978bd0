-- Worked examples of the definitions, most by computing.
use Rattle.std.proofs.Common.{◌≡◌, ℕ, ◌≤◌, cond, List, [], ◌∷◌, refl, pos, negsuc, arith, ◌^◌}
use Rattle.std.proofs.lemmas.List.Elements.{All-from_recursion}
use Rattle.prefix_lattice.specs.{RecordValue, PrefixValue, covers, prefix_weight, conditioned_weight}
use Rattle.prefix_lattice.specs.{HoldsWeight, IsNarrow}
use Rattle.prefix_lattice.proofs.Examples.{front}
use Rattle.conditioned_bounds.specs.Bounds.{bound_of, prefixes_asked, HoldWeights, AreNarrow}
use Rattle.conditioned_bounds.specs.Bounds.{AreWeights, sum_limit}

-- 9 bytes from 10.1.1.1 to 20.1.1.1
abbrev packet : RecordValue
packet = record { src = 0x0a010101; dst = 0x14010101; weight = 9 }

-- 0.0.0.0/0 0.0.0.0/0
abbrev root : PrefixValue
root = record { source = []; dest = [] }

-- (10.0.0.0/8, 20.1.1.0/24), (10.1.0.0/16, 20.1.0.0/16) and (10.1.1.0/24, 20.0.0.0/8)
abbrev stairs : List PrefixValue
stairs =
    record { source = front 0x0a000000 8; dest = front 0x14010100 24 }
    ∷ record { source = front 0x0a010000 16; dest = front 0x14010000 16 }
    ∷ record { source = front 0x0a010100 24; dest = front 0x14000000 8 } ∷ []

-- this number for each prefix that covers the packet
abbrev where_covered : ℕ → PrefixValue → ℕ
where_covered number prefix = cond (covers prefix packet) number 0

-- 9 - 27 + 18
pub exact_intervals_leave_nothing : bound_of (where_covered 9) (where_covered 9) root stairs
    ≡ pos (conditioned_weight root stairs (packet ∷ []))
exact_intervals_leave_nothing = refl

-- 11 - 21 + 22
pub wide_intervals_add_up : bound_of (where_covered 7) (where_covered 11) root stairs ≡ pos 12
wide_intervals_add_up = refl

-- 2 - 9, of intervals that hold no weights
pub bounds_may_be_below_zero : bound_of (λ prefix. 9) (λ prefix. 2) root
    (record { source = front 0x0a000000 8; dest = [] } ∷ []) ≡ negsuc 6
bounds_may_be_below_zero = refl

-- nothing is explained
pub without_lines_it_is_the_high : bound_of (where_covered 7) (where_covered 11) root [] ≡ pos 11
without_lines_it_is_the_high = refl

-- the prefix, its line, and no meet
pub asks_the_prefix_and_its_line : prefixes_asked root (record { source = front 0x0a000000 8; dest = [] } ∷ [])
    ≡ root ∷ record { source = front 0x0a000000 8; dest = [] } ∷ []
asks_the_prefix_and_its_line = refl

-- the root, its three stairs, and the two meets that are kept: all six cover the packet
pub wide_intervals_hold_the_weights : HoldWeights (where_covered 7) (where_covered 11) (packet ∷ [])
    (prefixes_asked root stairs)
wide_intervals_hold_the_weights =
    let within : HoldsWeight 7 11 9 = record { low = omega arith; high = omega arith } in
    All-from_recursion
    (λ prefix. HoldsWeight (where_covered 7 prefix) (where_covered 11 prefix) (prefix_weight prefix (packet ∷ [])))
    (prefixes_asked root stairs) (within, (within, (within, (within, (within, (within, tt))))))

pub intervals_up_to_8_do_not_hold_a_weight_of_9 : ¬ HoldWeights (where_covered 7) (where_covered 8) (packet ∷ [])
    (root ∷ [])
intervals_up_to_8_do_not_hold_a_weight_of_9 held =
    let most : 9 ≤ 8 = (held 0 root (omega arith)).high in omega (arith, most)

-- a width of 4, times 2, is at most 9
pub wide_intervals_are_narrow_for_two_entries : AreNarrow (where_covered 7) (where_covered 11) 2 9 (root ∷ stairs)
wide_intervals_are_narrow_for_two_entries =
    let narrow : 8 ≤ 9 = omega arith in
    All-from_recursion (λ prefix. IsNarrow (where_covered 7 prefix) (where_covered 11 prefix) 2 9) (root ∷ stairs)
    (narrow, (narrow, (narrow, (narrow, tt))))

pub and_too_wide_for_three : ¬ AreNarrow (where_covered 7) (where_covered 11) 3 9 (root ∷ stairs)
and_too_wide_for_three narrow = let most : 12 ≤ 9 = narrow 0 root (omega arith) in omega (arith, most)

pub exact_intervals_are_the_weights : AreWeights (where_covered 9) (where_covered 9) (packet ∷ []) (root ∷ stairs)
exact_intervals_are_the_weights =
    All-from_recursion
    (λ prefix.
    (where_covered 9 prefix ≡ prefix_weight prefix (packet ∷ []))
    × (where_covered 9 prefix ≡ prefix_weight prefix (packet ∷ [])))
    (root ∷ stairs) ((refl, refl), ((refl, refl), ((refl, refl), ((refl, refl), tt))))

pub and_wide_ones_are_not : ¬ AreWeights (where_covered 7) (where_covered 11) (packet ∷ []) (root ∷ stairs)
and_wide_ones_are_not weights = let low : 7 ≡ 9 = (weights 0 root (omega arith)).0 in omega (arith, low)

pub limit_of_a_sum : sum_limit ≡ 2 ^ 124
limit_of_a_sum = refl
