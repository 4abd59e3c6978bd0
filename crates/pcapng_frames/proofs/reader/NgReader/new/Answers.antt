use Rattle.std.proofs.Common.{[], sym, subst}
use Rattle.pcapng_frames.specs.NgReader.{IsInBlock}
use Rattle.pcapng_frames.proofs.NgStepLemmas.{ng_reader_before_first_step}
use Rattle.pcapng_frames.proofs.reader.NgReader.new.Goals as goal

pub returns : goal.returns
returns c = subst (λ place. IsInBlock place [] []) (sym c.new.ensures.place) ng_reader_before_first_step
