use Rattle.std.proofs.Common.{◌≡◌, ◌%◌, arith, ap, ◌∙◌}
use Rattle.prefix_lattice.proofs.TextCutLemmas.{cut_text-tells_number}
use Rattle.prefix_lattice.proofs.side_reading.length_of_text.Goals as goal

pub returns-then-number-gt32-clause-none : goal.returns-then-number-gt32-clause-none
returns-then-number-gt32-clause-none c = λ bits is_length same.
    let few = is_length.few in
    let bits_are : c.in-Some.number ≡ bits =
    cut_text-tells_number c.args.text.now c.in-Some.number bits (omega arith) (omega arith) c.in-Some.ensures.some
    same in
    omega arith

pub returns-then-bits-ne0-clause-none : goal.returns-then-bits-ne0-clause-none
returns-then-bits-ne0-clause-none c = λ bits is_length same.
    let few = is_length.few in
    let number_is : c.in-Some.number ≡ bits =
    cut_text-tells_number c.args.text.now c.in-Some.number bits (omega arith) (omega arith) c.in-Some.ensures.some
    same in
    c.if-bits-ne0.true
    (ap (λ n. n % c.bits.result) number_is ∙ ap (λ step. bits % step) c.bits.ensures.value ∙ is_length.whole)
