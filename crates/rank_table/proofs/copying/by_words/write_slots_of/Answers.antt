use Rattle.std.proofs.Common.{ℕ, ◌<◌, List, length, map, sym, ◌∙◌, arith}
use Rattle.std.proofs.lemmas.List.{same_lists, length-map, get_or-map}
use Rattle.rank_table.specs.Words.{slot_of_word}
use Rattle.rank_table.proofs.copying.by_words.write_slots_of.Goals as goal

pub returns : goal.returns
returns c =
    let entry_of = λ (word : ℕ). (slot_of_word c.args.slots.now word).entry in
    let words : List ℕ = c.args.words.now in
    same_lists c.loop-place.into (map entry_of words) (omega (arith, length-map words entry_of))
    (λ place d within. let low : place < length words = omega arith in
    c.loop-place.invariant.written place d (omega arith) ∙ sym (get_or-map entry_of words place 0 d low))
