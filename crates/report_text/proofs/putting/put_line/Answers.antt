use Rattle.std.proofs.Common.{decimal}
use Rattle.prefix_lattice.specs.{prefix_text}
use Rattle.report_text.proofs.TextPartLemmas.{text_parts_of_line}
use Rattle.report_text.proofs.putting.put_line.Goals as goal

pub returns-clause-text : goal.returns-clause-text
returns-clause-text c =
    text_parts_of_line c.args.text.now.items c.put.new.text.items c.put_prefix.new.text.items c.put_number.new.text.items
    c.put_number-2.new.text.items c.put-2.new.text.items
    (prefix_text c.args.line.now.prefix) (decimal c.args.line.now.lo) (decimal c.args.line.now.hi)
    c.put.ensures.text c.put_prefix.ensures.text c.put_number.ensures.text c.put_number-2.ensures.text
    c.put-2.ensures.text
