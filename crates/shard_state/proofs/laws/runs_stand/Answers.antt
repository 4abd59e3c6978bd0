use Rattle.shard_state.proofs.EventRunLemmas.{event_run_cut_stands}
use Rattle.shard_state.proofs.laws.runs_stand.Goals as goal

pub returns : goal.returns
returns c = λ core events caller cut kept shapes bases is_cut reads. event_run_cut_stands events core caller cut kept shapes bases is_cut reads
