use Rattle.std.proofs.Common.{◌≡◌, take}
use Rattle.clap.specs.Words.{app_of}
use Rattle.command_words.specs.Parsing.{with_positionals}
use Rattle.command_words.specs.Arguments.{argument_texts}
use Rattle.command_words.proofs.parsing.take_positionals.Given as goal

abbrev pub invariant-loop-name : goal.invariant-loop-name
invariant-loop-name l = app_of l.parser ≡ with_positionals (app_of l.fn.parser) (take l.name-index (argument_texts l.names))
