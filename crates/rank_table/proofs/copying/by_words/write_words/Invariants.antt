use Rattle.std.proofs.Common.{◌≡◌, ℕ, ◌<◌, length, get_or}
use Rattle.rank_table.specs.Marks.{without_mark}
use Rattle.rank_table.specs.Words.{rank_word, IsExactWord}
use Rattle.rank_table.proofs.copying.by_words.write_words.Given as goal

-- the slots so far fit into words, which are written
abbrev pub invariant-loop-place : goal.invariant-loop-place
invariant-loop-place l = record {
  long : length l.words ≡ length l.initial.words;
  exact : (place : ℕ) → place < l.place → IsExactWord 0 (get_or l.slots place without_mark);
  written : (place d : ℕ) → place < l.place → get_or l.words place d ≡ rank_word 0 (get_or l.slots place without_mark) place;
}
