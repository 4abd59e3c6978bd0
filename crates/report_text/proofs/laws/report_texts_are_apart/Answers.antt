use Rattle.report_text.proofs.ReportApartLemmas.{report-apart}
use Rattle.report_text.proofs.laws.report_texts_are_apart.Goals as goal

pub returns : goal.returns
returns c = report-apart c.prefix_texts_read_back.ensures.apart
