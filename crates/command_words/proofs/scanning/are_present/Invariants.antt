use Rattle.std.proofs.Common.{List, take}
use Rattle.std.specs.List.{All, Contains}
use Rattle.command_words.specs.Arguments.{Argument, SpellAll, names_in}
use Rattle.command_words.specs.Arguments.{argument_texts}
use Rattle.command_words.proofs.scanning.are_present.Given as goal

-- the names before the index are all present
abbrev pub invariant-loop-name : goal.invariant-loop-name
invariant-loop-name l =
    (arguments : List Argument) → SpellAll (argument_texts l.words) arguments
    → All (λ name. Contains (names_in arguments) name.now) (take l.name-index l.names)
