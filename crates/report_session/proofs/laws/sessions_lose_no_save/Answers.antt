use Rattle.dealt_capture.specs.{rules_by}
use Rattle.report_session.proofs.ReopenedStoreLemmas.{reopened_store_after_breaking_off}
use Rattle.report_session.proofs.ReopenedStoreLemmas.{reopened_store_after_completion}
use Rattle.report_session.proofs.laws.sessions_lose_no_save.Goals as goal

pub returns-clause-whole : goal.returns-clause-whole
returns-clause-whole g c = λ formula before now settings file text session.
    reopened_store_after_completion g.D.Disk (rules_by formula) settings before now file text session

pub returns-clause-in_part : goal.returns-clause-in_part
returns-clause-in_part g c = λ formula before now settings file front limited session.
    reopened_store_after_breaking_off c.stores_open_to_one.ensures g.D.Disk
    (rules_by formula) settings before now file front limited session
