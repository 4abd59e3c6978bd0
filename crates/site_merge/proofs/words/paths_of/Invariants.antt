use Rattle.std.proofs.Common.{◌≡◌, take}
use Rattle.command_words.specs.{argument_texts}
use Rattle.site_merge.proofs.words.paths_of.Given as goal

-- the paths of the names before the index
abbrev pub invariant-loop-name : goal.invariant-loop-name
invariant-loop-name l = l.paths.items ≡ argument_texts (take l.name-index l.names)
