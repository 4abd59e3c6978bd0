use Rattle.cut_merge.proofs.FirstSeenLemmas.{first_seen-distinct}
use Rattle.cut_merge.proofs.MonitoredKeyLemmas.{monitored_keyed, monitored_few, all_monitored_keys}
use Rattle.cut_merge.proofs.laws.monitored_keys_are_few.Goals as goal

pub returns-clause-keyed : goal.returns-clause-keyed
returns-clause-keyed c = λ cut node kept is_node. monitored_keyed cut node kept is_node

pub returns-clause-distinct : goal.returns-clause-distinct
returns-clause-distinct c = λ cut node. first_seen-distinct (all_monitored_keys cut node)

pub returns-clause-few : goal.returns-clause-few
returns-clause-few c = λ cut node kept is_node. monitored_few cut node kept is_node
