use Rattle.std.proofs.Common.{ap, subst}
use Rattle.shard_state.specs.{CutValue, TableShape, core_lists, cut_positions}
use Rattle.hhh_report.specs.{IsSound}
use Rattle.gate_workers.proofs.CallLemmas.{call_cut_represents_records, call_weights_are_positive}
use Rattle.gate_workers.proofs.calling.report_at.Goals as goal

pub returns-clause-sound : goal.returns-clause-sound
returns-clause-sound c = λ bases.
    let opening = c.args.board.now.opening in
    let cut = c.args.cut.now in
    let at = c.requires.cut in
    let stands =
    call_cut_represents_records opening (cut_positions cut) cut c.shards.ensures.kept at c.shards_stand.ensures.goes_on bases in
    subst (λ (shape : TableShape). IsSound shape.grain c.in_ok-report.report (core_lists opening) shape.capacity c.args.phi)
    (ap (λ (cut : CutValue). cut.shape) at.is)
    (c.in_ok-report.ensures.sound (core_lists opening) stands
    (call_weights_are_positive opening (cut_positions cut) at.as_many at.kept))
