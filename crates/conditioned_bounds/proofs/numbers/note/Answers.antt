use Rattle.std.proofs.Common.{get_or, ◌∙◌, arith}
use Rattle.std.proofs.lemmas.Bool.{ne_eqb}
use Rattle.std.proofs.lemmas.List.{get_or_default}
use Rattle.conditioned_bounds.specs.Numbers.{line_numbers_at}
use Rattle.conditioned_bounds.proofs.NotedNumberLemmas.{noted_number-more}
use Rattle.conditioned_bounds.proofs.numbers.note.Goals as goal

pub loop-code-preserved : goal.loop-code-preserved
loop-code-preserved c =
    let codes = c.args.codes.now in
    let at = c.loop-code.code-index in
    record {
      noted =
          noted_number-more codes at c.args.number (line_numbers_at c.args.kept.now) (line_numbers_at c.loop-code.kept)
          (line_numbers_at c.note_at.new.kept) c.requires.distinct c.loop-code-test.true c.loop-code.invariant.noted
          c.note_at.ensures.noted;
      room = λ k d above within.
          c.note_at.ensures.kept (get_or codes k d)
          (ne_eqb (get_or codes at 0) (get_or codes k d)
          (λ same. c.requires.distinct at k 0 (omega arith) within (same ∙ get_or_default codes k d 0 within)))
          (c.loop-code.invariant.room k d (omega arith) within);
    }
