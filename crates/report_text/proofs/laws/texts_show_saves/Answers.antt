use Rattle.report_text.proofs.SavedLineLemmas.{front_shows_no_saved_line, last_lines_show_no_saved_one, marked_line_is_whole}
use Rattle.report_text.proofs.SavedLineLemmas.{opened_line_is_not_saved}
use Rattle.report_text.proofs.SavedLineLemmas.{report_shows_no_saved_line, saved_line_shows_its_save, strict_front_has_no_whole_line}
use Rattle.report_text.proofs.laws.texts_show_saves.Goals as goal

pub returns-clause-report : goal.returns-clause-report
returns-clause-report c = report_shows_no_saved_line

pub returns-clause-opened : goal.returns-clause-opened
returns-clause-opened c = opened_line_is_not_saved

pub returns-clause-saved : goal.returns-clause-saved
returns-clause-saved c = saved_line_shows_its_save

pub returns-clause-line : goal.returns-clause-line
returns-clause-line c = marked_line_is_whole

pub returns-clause-tail : goal.returns-clause-tail
returns-clause-tail c = last_lines_show_no_saved_one

pub returns-clause-front : goal.returns-clause-front
returns-clause-front c = front_shows_no_saved_line

pub returns-clause-unfinished : goal.returns-clause-unfinished
returns-clause-unfinished c = strict_front_has_no_whole_line
