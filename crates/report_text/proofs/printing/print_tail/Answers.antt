use Rattle.std.proofs.Common.{◌++◌, codes, decimal, ap, ◌∙◌}
use Rattle.report_text.specs.Printing.{cut_text}
use Rattle.report_text.proofs.TextPartLemmas.{text_parts_of_tail}
use Rattle.report_text.proofs.printing.print_tail.Goals as goal

pub returns-clause-ok : goal.returns-clause-ok
returns-clause-ok c =
    text_parts_of_tail c.args.into.now.items c.put_number.new.text.items c.put_number-2.new.text.items
    c.put_number-3.new.text.items c.put_number-4.new.text.items c.put.new.text.items c.put_cut.new.text.items
    c.put-2.new.text.items
    (decimal c.args.records.now.frames) (decimal c.args.records.now.not_ipv4) (decimal c.args.records.now.short)
    (decimal c.args.records.now.bad_header) (cut_text c.args.records.now.cut)
    (c.put_number.ensures.text
    ∙ ap (λ l. l ++ codes "frames " ++ decimal c.args.records.now.frames) c.reserve.ensures.items)
    c.put_number-2.ensures.text c.put_number-3.ensures.text c.put_number-4.ensures.text c.put.ensures.text
    c.put_cut.ensures.text c.put-2.ensures.text
