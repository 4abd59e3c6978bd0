use Rattle.shard_state.proofs.RepresentationLemmas.{RepresentationLaws, representation_keeps_total}
use Rattle.shard_state.proofs.RepresentationLemmas.{representation_keeps_weight, representation_of_cut_total}
use Rattle.shard_state.proofs.laws.snapshots_hold_weights.Goals as goal

pub returns-clause-weight : goal.returns-clause-weight
returns-clause-weight c = λ snapshot list prefix.
    let hold : RepresentationLaws = record { weight = c.tables_hold_weights.ensures.weight; total = c.tables_hold_weights.ensures.total } in
    representation_keeps_weight snapshot list prefix hold

pub returns-clause-total : goal.returns-clause-total
returns-clause-total c = λ snapshot list.
    let hold : RepresentationLaws = record { weight = c.tables_hold_weights.ensures.weight; total = c.tables_hold_weights.ensures.total } in
    representation_keeps_total snapshot list hold

pub returns-clause-cut_total : goal.returns-clause-cut_total
returns-clause-cut_total c = λ cut lists.
    let hold : RepresentationLaws = record { weight = c.tables_hold_weights.ensures.weight; total = c.tables_hold_weights.ensures.total } in
    representation_of_cut_total cut lists hold
