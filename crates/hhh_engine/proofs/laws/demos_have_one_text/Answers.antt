use Rattle.hhh_engine.proofs.DemoTextLemmas.{demo_text_is_unique}
use Rattle.hhh_engine.proofs.laws.demos_have_one_text.Goals as goal

pub returns : goal.returns
returns c =
    demo_text_is_unique
    (record { records = c.captures_are_dealt_in_one_way.ensures.records; lists = c.captures_are_dealt_in_one_way.ensures.lists })
    c.whole_reports_are_one.ensures
