use Rattle.pcap_frames.proofs.CaptureFileLemmas.{classic_captures_are_decided}
use Rattle.pcap_frames.proofs.laws.captures_are_decided.Goals as goal

pub returns : goal.returns
returns c = classic_captures_are_decided
