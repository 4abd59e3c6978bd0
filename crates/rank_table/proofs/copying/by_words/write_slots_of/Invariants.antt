use Rattle.std.proofs.Common.{◌≡◌, ℕ, ◌<◌, length, get_or}
use Rattle.space_saving.specs.declared.entry.Entry.{Entry}
use Rattle.rank_table.specs.Words.{slot_of_word}
use Rattle.rank_table.proofs.copying.by_words.write_slots_of.Given as goal

-- the entries so far
abbrev pub invariant-loop-place : goal.invariant-loop-place
invariant-loop-place l = record {
  long : length l.into ≡ length l.initial.into;
  written : (place : ℕ) (d : Entry) → place < l.place → get_or l.into place d ≡ (slot_of_word l.slots (get_or l.words place 0)).entry;
}
