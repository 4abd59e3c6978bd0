use Rattle.std.proofs.Common.{◌≡◌, ◌++◌, ap, ◌∙◌, take_all}
use Rattle.std.specs.List.{flat_map}
use Rattle.report_text.proofs.TextPartLemmas.{spaced_text_part, text_parts_of_positions}
use Rattle.report_text.proofs.putting.put_positions.Goals as goal

pub returns-clause-text : goal.returns-clause-text
returns-clause-text c =
    let positions = c.args.positions.now in
    let written : c.loop-position.text.items ≡ c.put.new.text.items ++ flat_map spaced_text_part positions =
    c.loop-position.invariant.text
    ∙ ap (λ l. c.put.new.text.items ++ flat_map spaced_text_part l)
    (take_all c.loop-position.position-index positions c.loop-position-test.false) in
    text_parts_of_positions c.args.text.now.items c.put.new.text.items c.loop-position.text.items c.put-2.new.text.items
    c.args.name.now positions c.put.ensures.text written c.put-2.ensures.text
