use Rattle.session_watch.proofs.WatchTextLemmas.{watch_text_goes_by_formula, watch_text_is_one}
use Rattle.session_watch.proofs.laws.watches_have_one_text.Goals as goal

pub returns-clause-by_formula : goal.returns-clause-by_formula
returns-clause-by_formula g c = watch_text_goes_by_formula _ c.formulas_give_one_list.ensures.by_formula

pub returns-clause-one_text : goal.returns-clause-one_text
returns-clause-one_text g c =
    watch_text_is_one c.formulas_give_one_list.ensures.one_list c.session_texts_have_one_reading.ensures.apart
    c.same_sessions_have_equal_reports.ensures
