use Rattle.hhh_engine.proofs.WeightTextLemmas.{weight_text_of_three_lines}
use Rattle.hhh_engine.proofs.commands.weigh.three_lines.Goals as goal

pub returns : goal.returns
returns c =
    weight_text_of_three_lines c.new-text.result.items c.push_number.new.text.items c.push_number-2.new.text.items
    c.push_number-3.new.text.items c.extend_from_slice.new.self.items c.args.low c.args.high c.args.total
    c.new-text.ensures.items c.in_ok-push_number.ensures.appended c.in_ok-push_number-2.ensures.appended
    c.in_ok-push_number-3.ensures.appended c.in_ok-extend_from_slice.ensures.items
