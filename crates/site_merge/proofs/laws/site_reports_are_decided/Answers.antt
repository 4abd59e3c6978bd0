use Rattle.site_merge.proofs.DecidedSiteLemmas.{decided_sites}
use Rattle.site_merge.proofs.laws.site_reports_are_decided.Goals as goal

pub returns : goal.returns
returns c = λ settings images are. decided_sites c.readings_are_decided.ensures settings are images
