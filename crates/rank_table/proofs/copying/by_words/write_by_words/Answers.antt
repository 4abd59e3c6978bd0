use Rattle.std.proofs.Common.{List, ℕ, refl, subst, ◌∙◌}
use Rattle.std.specs.List.Sorted.{IsPermutation}
use Rattle.rank_table.proofs.SortedWordLemmas.{moved_words_name_slots, sorted_words_give_table}
use Rattle.rank_table.proofs.copying.by_words.write_by_words.Goals as goal

pub write_slots_of-requires-clause-named : goal.write_slots_of-requires-clause-named
write_slots_of-requires-clause-named c =
    moved_words_name_slots c.args.slots.now c.sort_words.new.words c.requires.few c.requires.slots (c.if-not-write_words.ensures.exact.0 refl)
    (subst (λ (words : List ℕ). IsPermutation words c.sort_words.new.words) (c.if-not-write_words.ensures.words refl) c.sort_words.ensures.permuted)

pub returns-clause-written : goal.returns-clause-written
returns-clause-written c = λ yes.
    c.write_slots_of.ensures
    ∙ sorted_words_give_table c.args.slots.now c.sort_words.new.words c.requires.few c.requires.slots (c.if-not-write_words.ensures.exact.0 refl)
    (subst (λ (words : List ℕ). IsPermutation words c.sort_words.new.words) (c.if-not-write_words.ensures.words refl) c.sort_words.ensures.permuted)
    c.sort_words.ensures.rising
