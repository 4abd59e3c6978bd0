use Rattle.std.proofs.Common.{◌≡◌, sym, ◌∙◌, arith}
use Rattle.std.proofs.lemmas.Fmt.{decimal_injective}
use Rattle.report_text.proofs.line_reading.position_of.Goals as goal

pub returns-then-position-gt-GREATEST_POSITION-clause-refused :
    goal.returns-then-position-gt-GREATEST_POSITION-clause-refused
returns-then-position-gt-GREATEST_POSITION-clause-refused c = λ position few same.
    let number_is : c.in-Some.position ≡ position =
    decimal_injective c.in-Some.position position (omega arith) (omega arith) (sym c.in-Some.ensures.some ∙ same) in
    omega arith
