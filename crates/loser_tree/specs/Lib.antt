pub use Rattle.loser_tree.specs.LoserTree.{HasLeaves}
-- within the crate
pub mod LoserTree
pub mod Nodes
