-- The dealer of a kind.
use Rattle.deal_rules.specs.declared.deal_kind.DealKind.{DealKind}
use Rattle.deal_rules.specs.declared.deal_kind.DealKind.TheVariants.{RoundRobin, BySource, Free}
use Rattle.deal_rules.specs.declared.dealer.Dealer.{Dealer}
use Rattle.deal_rules.specs.declared.dealers.Dealers.{Dealers}

-- the dealer of a kind among those of a program; X, F and g are the types of their functions
abbrev pub dealer_of : {X : Type 0} {F : X → Type 0} {g : _} → DealKind → Dealers X F g → Dealer X F g
dealer_of RoundRobin dealers = dealers.round
dealer_of BySource dealers = dealers.source
dealer_of Free dealers = dealers.free
