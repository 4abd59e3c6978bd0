use Rattle.std.proofs.Common.{◌≡◌, [], ◌∷◌, decimal, sym, ◌∙◌, arith}
use Rattle.std.proofs.lemmas.Fmt.{decimal_injective}
use Rattle.report_text.proofs.line_reading.threshold_of.Goals as goal

pub returns-then-threshold-eq0-clause-refused : goal.returns-then-threshold-eq0-clause-refused
returns-then-threshold-eq0-clause-refused c = λ threshold some small same.
    let both : decimal c.in-Some.threshold ∷ [] ≡ decimal threshold ∷ [] = sym c.in-Some.ensures.read ∙ same in
    let digits : decimal c.in-Some.threshold ≡ decimal threshold = cc in
    let number_is : c.in-Some.threshold ≡ threshold =
    decimal_injective c.in-Some.threshold threshold (omega arith) small digits in
    omega arith
