use Rattle.deal_rules.proofs.DealingLemmas.{one_dealing}
use Rattle.deal_rules.proofs.dealing.a_formula_deals_in_one_way.Goals as goal

pub returns : goal.returns
returns c = one_dealing
