use Rattle.std.proofs.Common.{List, length, drop, ◌≤◌, ◌-◌}
use Rattle.command_words.specs.Arguments.{Argument, ArgumentText, argument_texts}
use Rattle.command_words.specs.Names.{BeginWithOptions}
use Rattle.command_words.proofs.LeadingOptionLemmas.{LeadingOptionsLeft}
use Rattle.command_words.proofs.names.leading_options.Given as goal

-- whatever options the words begin with, those that weren't passed begin the remaining words
abbrev pub invariant-fronts : goal.invariant-fronts
invariant-fronts l =
    (l.from ≤ length l.words)
    × ((front names : List ArgumentText) (arguments : List Argument) → BeginWithOptions (argument_texts l.words) front names arguments
    → LeadingOptionsLeft (argument_texts (drop l.from l.words)) l.from front names)

abbrev pub decreases-fronts : goal.decreases-fronts
decreases-fronts l = length l.words - l.from
