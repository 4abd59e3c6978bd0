use Rattle.std.proofs.Common.{List, length, drop, ◌≤◌, ◌-◌}
use Rattle.command_words.specs.Arguments.{Argument, SpellAll}
use Rattle.command_words.specs.Arguments.{argument_texts}
use Rattle.command_words.proofs.ArgumentTailLemmas.{ArgumentTailKeepsName}
use Rattle.command_words.proofs.scanning.stands.Given as goal

-- whatever arguments the words spell, the name is present among them exactly if it is among the remaining ones
abbrev pub invariant-fronts : goal.invariant-fronts
invariant-fronts l =
    (l.from ≤ length l.words)
    × ((arguments : List Argument) → SpellAll (argument_texts l.words) arguments
    → ArgumentTailKeepsName (argument_texts (drop l.from l.words)) arguments l.name)

abbrev pub decreases-fronts : goal.decreases-fronts
decreases-fronts l = length l.words - l.from
