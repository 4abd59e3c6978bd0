use Rattle.gate_workers.proofs.CallLemmas.{more_calls, no_calls}
use Rattle.gate_workers.proofs.laws.calls_follow_calls.Goals as goal

pub returns-clause-none : goal.returns-clause-none
returns-clause-none c = λ opening phi now. no_calls opening phi now

pub returns-clause-more : goal.returns-clause-more
returns-clause-more c = λ opening phi rounds more before middle now reports later many one two.
    more_calls opening phi rounds more before middle now reports later many one two
