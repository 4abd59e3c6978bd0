use Rattle.std.proofs.Common.{refl}
use Rattle.gate_workers.specs.Calling.{cut_at}
use Rattle.gate_workers.proofs.CallLemmas.{call_cut_represents_records}
use Rattle.gate_workers.proofs.laws.reported_cuts_represent.Goals as goal

pub returns : goal.returns
returns c = λ opening phi report are at bases.
    call_cut_represents_records opening report.positions (cut_at opening report.positions) are
    (record { as_many = at.as_many; kept = at.kept; is = refl }) c.shards_stand.ensures.goes_on bases
