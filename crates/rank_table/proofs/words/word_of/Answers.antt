use Rattle.std.proofs.Common.{arith}
use Rattle.rank_table.specs.Words.{rank_word}
use Rattle.rank_table.proofs.words.word_of.Goals as goal

pub returns : goal.returns
unfolding rank_word
returns c = omega arith
