use Rattle.std.proofs.Common.{take}
use Rattle.std.specs.List.{All}
use Rattle.command_words.specs.Arguments.{IsValue}
use Rattle.command_words.proofs.names.are_values.Given as goal

-- the words before the index can be values
abbrev pub invariant-loop-word : goal.invariant-loop-word
invariant-loop-word l = All (λ word. IsValue word.now) (take l.word-index l.words)
