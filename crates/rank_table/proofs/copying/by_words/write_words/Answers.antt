use Rattle.std.proofs.Common.{arith}
use Rattle.rank_table.proofs.SortedWordLemmas.{sorted_words_are}
use Rattle.rank_table.proofs.copying.by_words.write_words.Goals as goal

pub returns-clause-words : goal.returns-clause-words
returns-clause-words c = λ yes.
    sorted_words_are c.loop-place.words c.args.slots.now (omega arith) (λ place d within. c.loop-place.invariant.written place d (omega arith))
