pub mod DealKind
pub mod Dealing
pub mod Dealers
-- the face: what contracts of other crates cite
pub use Rattle.deal_rules.specs.Dealers.{dealer_of}
pub use Rattle.deal_rules.specs.Dealing.{AreDealings, IsDealing}
pub use Rattle.deal_rules.specs.DealKind.{IsAsked}
