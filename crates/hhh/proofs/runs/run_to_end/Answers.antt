use Rattle.hhh.proofs.runs.run_to_end.Goals as goal

pub returns-clause-ends : goal.returns-clause-ends
returns-clause-ends g c = (_, c.in_ok-status.ensures.ends, c.finish.ensures.code, c.finish.ensures.told)
