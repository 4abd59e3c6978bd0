use Rattle.pcapng_frames.proofs.NgFileLemmas.{ng_captures_decided}
use Rattle.pcapng_frames.proofs.laws.ng_captures_are_decided.Goals as goal

pub returns : goal.returns
returns c = ng_captures_decided
