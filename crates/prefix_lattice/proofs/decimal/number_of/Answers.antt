use Rattle.std.proofs.Common.{◌≡◌, ℕ, Result, Ok, Err, decimal, ap, sym, subst, ◌∙◌}
use Rattle.std.specs.Str.{IsUtf8}
use Rattle.std.proofs.lemmas.Str.{IsUtf8-from_ascii}
use Rattle.std.proofs.lemmas.Fmt.{IsAscii-decimal, parse-decimal}
use Rattle.std.proofs.lemmas.Bool.{false≢true}
use Rattle.std.proofs.lemmas.Bool.Decides.{Decides-eqb}
use Rattle.std.proofs.lemmas.Slice.Eq.{slice_eq-Decides}
use Rattle.prefix_lattice.proofs.decimal.number_of.Goals as goal

same_ok : {E : Type 0} (a b : ℕ) → Path (Result ℕ E) (Ok a) (Ok b) → a ≡ b
same_ok a b same = cc

pub returns-in_default-clause-none : goal.returns-in_default-clause-none
returns-in_default-clause-none c = λ number small same.
    c.in_default.ensures.cases.0
    (subst IsUtf8 (sym same) (IsUtf8-from_ascii (decimal number) (IsAscii-decimal number small)))

pub returns-in_default-parse-clause-none : goal.returns-in_default-parse-clause-none
returns-in_default-parse-clause-none c = λ number small same.
    let read =
    parse-decimal 64 number c.in-Ok.digits.now (Err c.in_default-parse.field-0) small small
    (c.in-Ok.ensures.cases.0 ∙ same) c.in_default-parse.ensures.value.0 in
    cc read

pub returns-else-eq-clause-none : goal.returns-else-eq-clause-none
returns-else-eq-clause-none c = λ number small same.
    let number_is : c.in-Ok-parse.number ≡ number =
    same_ok {E = Unit {0}} _ _
    (parse-decimal 64 number c.in-Ok.digits.now (Ok c.in-Ok-parse.number) small small
    (c.in-Ok.ensures.cases.0 ∙ same) c.in-Ok-parse.ensures.value.0) in
    let written : c.as_bytes.result.now ≡ c.args.text.now =
    c.as_bytes.ensures.value ∙ c.format.ensures.text ∙ ap decimal number_is ∙ sym same in
    false≢true ((slice_eq-Decides Decides-eqb c.as_bytes.result.now c.args.text.now _ c.if-eq.ensures).1 written)
