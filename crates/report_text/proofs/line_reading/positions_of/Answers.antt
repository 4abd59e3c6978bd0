use Rattle.std.proofs.Common.{◌≡◌, ◌++◌, [], ◌∷◌, map, decimal, length, sym, ap, ◌∙◌, arith, length-append}
use Rattle.std.proofs.lemmas.List.{length-map}
use Rattle.report_text.specs.Stages.{words_in}
use Rattle.report_text.proofs.NamedLineLemmas.{named_line_next_position, named_line_positions_within}
use Rattle.report_text.proofs.NamedLineLemmas.{named_line_has_words}
use Rattle.report_text.proofs.line_reading.positions_of.Goals as goal

pub returns-in_default-position_of-clause-refused : goal.returns-in_default-position_of-clause-refused
returns-in_default-position_of-clause-refused c = λ positions are same.
    let cut = c.in-Some.cut in
    let next = named_line_next_position c.loop-cut.positions cut.word.now (words_in cut.rest.now) positions
    (named_line_positions_within positions are)
    (ap (λ l. map decimal c.loop-cut.positions ++ l) (sym c.in-Some.ensures.cut) ∙ sym c.loop-cut.invariant.words ∙ same)
    in
    c.in_default-position_of.ensures.refused next.position next.within next.spelled

pub returns-then-len-eq-MOST_POSITIONS-clause-refused : goal.returns-then-len-eq-MOST_POSITIONS-clause-refused
returns-then-len-eq-MOST_POSITIONS-clause-refused c = λ positions are same.
    let cut = c.in-Some.cut in
    let all : map decimal c.loop-cut.positions ++ cut.word.now ∷ words_in cut.rest.now ≡ map decimal positions =
    ap (λ l. map decimal c.loop-cut.positions ++ l) (sym c.in-Some.ensures.cut) ∙ sym c.loop-cut.invariant.words ∙ same
    in
    omega (
      arith,
      ap length all,
      length-append (map decimal c.loop-cut.positions) (cut.word.now ∷ words_in cut.rest.now),
      length-map c.loop-cut.positions decimal,
      length-map positions decimal,
      named_line_has_words cut.rest.now,
      are.few,
    )

pub returns-in_default-position_of-2-clause-refused : goal.returns-in_default-position_of-2-clause-refused
returns-in_default-position_of-2-clause-refused c = λ positions are same.
    let next = named_line_next_position c.loop-cut.positions c.loop-cut.rest.now [] positions (named_line_positions_within positions are)
    (ap (λ l. map decimal c.loop-cut.positions ++ l) (sym c.in_default.ensures.last) ∙ sym c.loop-cut.invariant.words
    ∙ same) in
    c.in_default-position_of-2.ensures.refused next.position next.within next.spelled
