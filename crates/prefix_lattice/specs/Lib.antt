pub mod Address
pub mod Grain
pub mod KeptBits
pub mod Limits
pub mod Record
pub mod Node
pub mod Weight
pub mod Prefix
pub mod PrefixText
pub mod Meets
pub mod ReportOrder
pub mod Lattice
pub mod Interval
pub mod ConditionedWeight
pub mod KeptPairs
pub mod Staircase
pub mod ClosestLines
pub mod Uppers
-- the face: what contracts of other crates cite
pub use Rattle.prefix_lattice.specs.Staircase.{ObeyStaircase}
pub use Rattle.prefix_lattice.specs.ClosestLines.{closest, covering_count, greatest_lines}
pub use Rattle.prefix_lattice.specs.ConditionedWeight.{conditioned_weight}
pub use Rattle.prefix_lattice.specs.KeptPairs.{pair_meets}
pub use Rattle.prefix_lattice.specs.KeptPairs.{pair_meet, kept_pairs, under_third}
pub use Rattle.prefix_lattice.specs.KeptPairs.{unless_third}
pub use Rattle.prefix_lattice.specs.ClosestLines.{lines_under, one_line_covers}
pub use Rattle.prefix_lattice.specs.Interval.{HoldsWeight, IsWithinTotal, IsNarrow}
pub use Rattle.prefix_lattice.specs.KeptBits.{AreLeadingBits, begins_with}
pub use Rattle.prefix_lattice.specs.Address.{address_bits, address_of, address_size}
pub use Rattle.prefix_lattice.specs.Meets.{meet}
pub use Rattle.prefix_lattice.specs.ReportOrder.{report_order}
pub use Rattle.prefix_lattice.specs.Lattice.{same_as, strictly_under, under}
pub use Rattle.prefix_lattice.specs.Limits.{most_grain_capacity, record_limit, shard_limit, total_limit}
pub use Rattle.prefix_lattice.specs.Node.{IsNode, NodeValue, deepest_level, node_index, node_level, node_at}
pub use Rattle.prefix_lattice.specs.Grain.{IsGrainLength, finest_grain, grain_bits, grain_lengths, node_count}
pub use Rattle.prefix_lattice.specs.Prefix.{HasPrefixKey, IsPrefixKey, IsPrefix, PrefixValue, covers, prefix_code}
pub use Rattle.prefix_lattice.specs.Prefix.{prefix_key, node_of_prefix, prefix_at, prefix_level}
pub use Rattle.prefix_lattice.specs.Uppers.{upper_at}
pub use Rattle.prefix_lattice.specs.Weight.{total_weight, prefix_weight}
pub use Rattle.prefix_lattice.specs.PrefixText.{HasPrefixFault, SpellsPrefix, address_text}
pub use Rattle.prefix_lattice.specs.PrefixText.{longest_prefix_text, prefix_text, side_text, text_space}
pub use Rattle.prefix_lattice.specs.Record.{RecordValue}
