pub mod CutTables
pub mod Run
pub mod NodeMerge
pub mod HighBounds
pub mod SeenHomes
pub mod Merged
-- the face: what contracts of other crates cite
pub use Rattle.cut_merge.specs.Merged.{MergedValue, RepresentsCut, candidates_at, interval_for}
pub use Rattle.cut_merge.specs.Merged.{nothing_merged}
pub use Rattle.cut_merge.specs.NodeMerge.{NodeMergeValue}
pub use Rattle.cut_merge.specs.CutTables.{TableInterval, FitsTotal, monitored_in_cut}
pub use Rattle.cut_merge.specs.CutTables.{interval_in_cut, monitored_in}
