use Rattle.std.proofs.Common.{[], refl, subst}
use Rattle.std.specs.Io.KnownBytes.{Appends}
use Rattle.std.proofs.KnownBytes.{Appends-nil}
use Rattle.outside_io.specs.{AppendsFront}
use Rattle.hhh.proofs.ToldLineLemmas.{front_is_told, line_is_told}
use Rattle.hhh.proofs.ending.tell.Goals as goal

pub returns-then-number-eq0-clause-told : goal.returns-then-number-eq0-clause-told
returns-then-number-eq0-clause-told g c =
    record { told = record { front = []; is_beginning = (_, refl); appended = Appends-nil _ }; silent = λ is. refl }
