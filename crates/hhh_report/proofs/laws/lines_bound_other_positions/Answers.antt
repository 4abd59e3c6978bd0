use Rattle.std.proofs.Common.{arith, slice_index_or}
use Rattle.hhh_report.proofs.WeightsRiseLemmas.{weight_rises}
use Rattle.hhh_report.proofs.laws.lines_bound_other_positions.Goals as goal

pub returns-clause-earlier : goal.returns-clause-earlier
returns-clause-earlier c grain report lists capacity phi positions sound order place default below =
    let line = slice_index_or report.lines place default in
    let holds = sound.interval place default below in
    omega (arith, holds.high, weight_rises line.prefix lists positions report.positions order)

pub returns-clause-later : goal.returns-clause-later
returns-clause-later c grain report lists capacity phi positions sound order place default below =
    let line = slice_index_or report.lines place default in
    let holds = sound.interval place default below in
    omega (arith, holds.low, weight_rises line.prefix lists report.positions positions order)
