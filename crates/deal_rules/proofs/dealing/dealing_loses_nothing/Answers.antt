use Rattle.deal_rules.proofs.DealingLemmas.{dealing_permutes_records, dealing_keeps_sums, dealing_loses_no_record}
use Rattle.deal_rules.proofs.DealingLemmas.{dealing_keeps_each_weight, dealing_keeps_total}
use Rattle.deal_rules.proofs.dealing.dealing_loses_nothing.Goals as goal

pub returns-clause-permuted : goal.returns-clause-permuted
returns-clause-permuted c = dealing_permutes_records

pub returns-clause-summed : goal.returns-clause-summed
returns-clause-summed c = dealing_keeps_sums

pub returns-clause-counted : goal.returns-clause-counted
returns-clause-counted c = dealing_loses_no_record

pub returns-clause-weighed : goal.returns-clause-weighed
returns-clause-weighed c = dealing_keeps_each_weight

pub returns-clause-total : goal.returns-clause-total
returns-clause-total c = dealing_keeps_total
