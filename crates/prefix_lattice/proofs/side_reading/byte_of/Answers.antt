use Rattle.std.proofs.Common.{◌≡◌, arith}
use Rattle.prefix_lattice.proofs.TextCutLemmas.{cut_text-tells_number}
use Rattle.prefix_lattice.proofs.side_reading.byte_of.Goals as goal

pub returns-else-number-lt256-clause-none : goal.returns-else-number-lt256-clause-none
returns-else-number-lt256-clause-none c = λ byte small same.
    let number_is : c.in-Some.number ≡ byte =
    cut_text-tells_number c.args.text.now c.in-Some.number byte (omega arith) (omega arith) c.in-Some.ensures.some same in
    omega arith
