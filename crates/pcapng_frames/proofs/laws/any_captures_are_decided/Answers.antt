use Rattle.pcapng_frames.proofs.EitherFormatLemmas.{either_format_is_decided}
use Rattle.pcapng_frames.proofs.laws.any_captures_are_decided.Goals as goal

pub returns : goal.returns
returns c = either_format_is_decided c.ng_captures_are_decided.ensures c.captures_are_decided.ensures
