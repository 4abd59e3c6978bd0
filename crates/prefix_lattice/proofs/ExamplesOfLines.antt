-- Worked examples of what lines explain: closest lines, kept pairs and the staircase law.
use Rattle.std.proofs.Common.{◌≡◌, ◌≢◌, ℕ, ◌*◌, List, [], ◌∷◌, length, true, false, None, Some, AllPairs, refl, ap, arith}
use Rattle.std.proofs.lemmas.List.Elements.{All-cons, All-nil}
use Rattle.std.proofs.lemmas.List.Kept.{AllPairs-cons}
use Rattle.prefix_lattice.specs.Node.{NodeValue}
use Rattle.prefix_lattice.specs.Record.{RecordValue}
use Rattle.prefix_lattice.specs.Prefix.{PrefixValue}
use Rattle.prefix_lattice.specs.Lattice.{strictly_under}
use Rattle.prefix_lattice.specs.Meets.{meet}
use Rattle.prefix_lattice.specs.ClosestLines.{lines_under, one_line_covers, greatest_lines, closest}
use Rattle.prefix_lattice.specs.ConditionedWeight.{conditioned_weight}
use Rattle.prefix_lattice.specs.KeptPairs.{under_third, unless_third, pair_meet}
use Rattle.prefix_lattice.specs.KeptPairs.{pair_meets, kept_pairs}
use Rattle.prefix_lattice.specs.ClosestLines.{AreIncomparable, covering_count}
use Rattle.prefix_lattice.specs.Staircase.{ObeyStaircase}
use Rattle.prefix_lattice.specs.declared.grain.Grain.TheVariants.{Byte}
use Rattle.prefix_lattice.specs.Uppers.{is_upper, shortened, upper_at}
use Rattle.prefix_lattice.proofs.Examples.{front, packet, answer, prefix, root, to_twenty, from_ten_to_twenty}

-- a node that keeps this many bytes of each address
abbrev node : ℕ → ℕ → NodeValue
node sources dests = record { grain = Byte; source_bits = 8 * sources; dest_bits = 8 * dests }

-- 10.1.0.0/16 20.0.0.0/8
abbrev net : PrefixValue
net = record { source = front 0x0a010000 16; dest = front 0x14000000 8 }

pub a_node_of_fewer_source_bytes : is_upper (node 1 1) net ≡ true
a_node_of_fewer_source_bytes = refl

pub a_node_of_more_destination_bytes : is_upper (node 1 2) net ≡ false
a_node_of_more_destination_bytes = refl

-- 10.0.0.0/8 0.0.0.0/0
pub net_cut_down : shortened net (node 1 0) ≡ record { source = front 0x0a000000 8; dest = [] }
net_cut_down = refl

pub net_is_under_one_prefix_of_a_node : upper_at net (node 1 1) ≡ Some (record { source = front 0x0a000000 8; dest = front 0x14000000 8 })
net_is_under_one_prefix_of_a_node = refl

pub net_is_under_none_of_a_node_that_keeps_more : upper_at net (node 3 0) ≡ None
net_is_under_none_of_a_node_that_keeps_more = refl

-- the root and three under it, of which the first is under the other two
abbrev lines : List PrefixValue
lines = prefix ∷ from_ten_to_twenty ∷ to_twenty ∷ root ∷ []

pub no_line_is_under_itself : lines_under to_twenty lines ≡ prefix ∷ from_ten_to_twenty ∷ []
no_line_is_under_itself = refl

pub lines_that_cover_the_packet : one_line_covers lines packet ≡ true
lines_that_cover_the_packet = refl

-- only the root covers the answer
pub lines_that_cover_no_answer : one_line_covers (lines_under root lines) answer ≡ false
lines_that_cover_no_answer = refl

-- a line explains the packets, but not the answer
pub conditioned_by_a_line : conditioned_weight root (from_ten_to_twenty ∷ root ∷ []) (packet ∷ answer ∷ packet ∷ [])
    ≡ 60
conditioned_by_a_line = refl

-- a line explains none of its own weight
pub not_conditioned_by_itself : conditioned_weight prefix (prefix ∷ []) (packet ∷ answer ∷ packet ∷ []) ≡ 200
not_conditioned_by_itself = refl

pub member_that_all_others_are_under : greatest_lines lines ≡ root ∷ []
member_that_all_others_are_under = refl

-- a line that is under another line is not closest
pub nearer_lines_are_closest : closest root lines ≡ to_twenty ∷ []
nearer_lines_are_closest = refl

-- (10.0.0.0/8, 20.1.1.0/24), (10.1.0.0/16, 20.1.0.0/16) and (10.1.1.0/24, 20.0.0.0/8)
abbrev lowest_step : PrefixValue
lowest_step = record { source = front 0x0a000000 8; dest = front 0x14010100 24 }

abbrev middle_step : PrefixValue
middle_step = record { source = front 0x0a010000 16; dest = front 0x14010000 16 }

abbrev highest_step : PrefixValue
highest_step = record { source = front 0x0a010100 24; dest = front 0x14000000 8 }

abbrev stairs : List PrefixValue
stairs = lowest_step ∷ middle_step ∷ highest_step ∷ []

-- what the lower two share, and the upper two
abbrev lower_meet : PrefixValue
lower_meet = record { source = front 0x0a010000 16; dest = front 0x14010100 24 }

abbrev upper_meet : PrefixValue
upper_meet = record { source = front 0x0a010100 24; dest = front 0x14010000 16 }

-- what the outer two share
abbrev outer_meet : PrefixValue
outer_meet = record { source = front 0x0a010100 24; dest = front 0x14010100 24 }

-- from 10.1.1.1 to 20.1.1.1
abbrev climber : RecordValue
climber = record { src = 0x0a010101; dst = 0x14010101; weight = 9 }

pub none_of_the_stairs_is_under_another : closest root stairs ≡ stairs
none_of_the_stairs_is_under_another = refl

pub outer_meet_is_under_the_middle_step : under_third stairs lowest_step highest_step outer_meet ≡ true
outer_meet_is_under_the_middle_step = refl

-- the two members whose meet it is don't count as a third
pub lower_meet_is_under_no_third_step : under_third stairs lowest_step middle_step lower_meet ≡ false
lower_meet_is_under_no_third_step = refl

pub prefix_under_a_third_is_dropped : unless_third stairs lowest_step highest_step (Some outer_meet) ≡ None
prefix_under_a_third_is_dropped = refl

pub prefix_under_no_third_stays : unless_third stairs lowest_step middle_step (Some lower_meet) ≡ Some lower_meet
prefix_under_no_third_stays = refl

pub meet_of_neighbours_is_kept : pair_meet stairs middle_step highest_step ≡ Some upper_meet
meet_of_neighbours_is_kept = refl

-- the meet exists, but is not kept
pub meet_of_the_outer_two : meet lowest_step highest_step ≡ Some outer_meet
meet_of_the_outer_two = refl

pub meet_of_the_outer_two_is_not_kept : pair_meet stairs lowest_step highest_step ≡ None
meet_of_the_outer_two_is_not_kept = refl

-- the pairs whose first member follows the lowest step
pub kept_pairs_of_the_upper_steps : pair_meets stairs (middle_step ∷ highest_step ∷ []) ≡ upper_meet ∷ []
kept_pairs_of_the_upper_steps = refl

pub neighbours_are_kept : kept_pairs stairs ≡ lower_meet ∷ upper_meet ∷ []
neighbours_are_kept = refl

pub stairs_are_incomparable : AreIncomparable stairs
stairs_are_incomparable = record {
  distinct =
      pairs (λ line other. line ≢ other) (λ same. omega (arith, ap (λ p. length p.dest) same))
      (λ same. omega (arith, ap (λ p. length p.dest) same))
      (λ same. omega (arith, ap (λ p. length p.dest) same));
  none_under =
      pairs (λ line other. (strictly_under line other ≡ false) × (strictly_under other line ≡ false)) (refl, refl)
      (refl, refl) (refl, refl);
}
  where
    pairs : (R : PrefixValue → PrefixValue → Type 0) → R lowest_step middle_step → R lowest_step highest_step
        → R middle_step highest_step → AllPairs R stairs
    pairs R one two three =
        AllPairs-cons R lowest_step (middle_step ∷ highest_step ∷ [])
        (All-cons (R lowest_step) middle_step (highest_step ∷ []) one
        (All-cons (R lowest_step) highest_step [] two (All-nil (R lowest_step))))
        (AllPairs-cons R middle_step (highest_step ∷ [])
        (All-cons (R middle_step) highest_step [] three (All-nil (R middle_step)))
        (AllPairs-cons R highest_step [] (All-nil (R highest_step)) (λ i j d before within. absurd (omega arith))))

pub lines_under_one_another_are_comparable : AreIncomparable lines → ⊥
lines_under_one_another_are_comparable apart = cc ((apart.none_under 0 1 root (omega arith) (omega arith)).0)

-- three steps cover the record, and two kept pairs
pub steps_that_cover : covering_count climber stairs ≡ 3
steps_that_cover = refl

pub kept_pairs_that_cover : covering_count climber (kept_pairs stairs) ≡ 2
kept_pairs_that_cover = refl

pub stairs_obey_the_law : ObeyStaircase stairs climber
stairs_obey_the_law some = refl

-- of three lines under one another only one pair is kept, although all three cover the packet
pub comparable_lines_do_not_obey : ObeyStaircase (prefix ∷ from_ten_to_twenty ∷ to_twenty ∷ []) packet → ⊥
comparable_lines_do_not_obey obeys = omega (arith, obeys (omega arith))
