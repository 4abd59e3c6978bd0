use Rattle.std.proofs.Common.{◌≡◌, ◌≤◌, ◌<◌, ◌^◌, [], ◌∷◌, eqb, codes, decimal, refl, ap, ◌∙◌}
use Rattle.std.specs.Cmp.Lexicographic.{pointwise}
use Rattle.report_text.proofs.NamedLineLemmas.{named_line_texts_unlike, named_line_has_words, no_named_line_with_words}
use Rattle.report_text.proofs.NamedLineLemmas.{named_line_words, named_line_fits}
use Rattle.std.proofs.lemmas.Option.{IfSome_then}
use Rattle.report_text.specs.Session.{AreSkips, skipped_words}
use Rattle.report_text.specs.declared.session_line.SessionLine.TheVariants.{Total, Threshold, Frames, Skipped, Cut}
use Rattle.report_text.specs.Stages.{words_in}
use Rattle.report_text.proofs.line_reading.read_numbers.Goals as goal

pub returns-then-eq-clause-read : goal.returns-then-eq-clause-read
returns-then-eq-clause-read c = λ grain.
    named_line_words grain Total (λ number. decimal number ∷ []) (λ number. number < 2 ^ 64) c.args.name.now (codes "total")
    c.eq.result (words_in c.args.rest.now) c.last_number.result c.map.result
    (c.eq.ensures ∙ ap (pointwise eqb c.args.name.now) c.as_slice.ensures) c.if-eq.true
    (λ x is. is) (λ x. refl) c.map.ensures.cases
    (named_line_fits (λ number. number < 2 ^ 64) (λ number. words_in c.args.rest.now ≡ decimal number ∷ [])
    c.last_number.result c.last_number.ensures.small c.last_number.ensures.read)

pub returns-then-eq-2-clause-read : goal.returns-then-eq-2-clause-read
returns-then-eq-2-clause-read c = λ grain.
    named_line_words grain Threshold (λ number. decimal number ∷ []) (λ number. (1 ≤ number) × (number < 2 ^ 64))
    c.args.name.now (codes "threshold") c.eq-2.result (words_in c.args.rest.now) c.threshold_of.result c.map-then-eq-2.result
    (c.eq-2.ensures ∙ ap (pointwise eqb c.args.name.now) c.as_slice-2.ensures) c.if-eq-2.true
    (λ x is. is) (λ x. refl) c.map-then-eq-2.ensures.cases
    (IfSome_then c.threshold_of.result
    (named_line_fits (λ number. number < 2 ^ 64)
    (λ number. (1 ≤ number) × (words_in c.args.rest.now ≡ decimal number ∷ []))
    c.threshold_of.result c.threshold_of.ensures.small c.threshold_of.ensures.read)
    (λ number is. ((is.1.0, is.0), is.1.1)))

pub returns-then-eq-3-clause-read : goal.returns-then-eq-3-clause-read
returns-then-eq-3-clause-read c = λ grain.
    named_line_words grain Frames (λ number. decimal number ∷ []) (λ number. number < 2 ^ 64) c.args.name.now (codes "frames")
    c.eq-3.result (words_in c.args.rest.now) c.last_number-then-eq-3.result c.map-then-eq-3.result
    (c.eq-3.ensures ∙ ap (pointwise eqb c.args.name.now) c.as_slice-3.ensures) c.if-eq-3.true
    (λ x is. is) (λ x. refl) c.map-then-eq-3.ensures.cases
    (named_line_fits (λ number. number < 2 ^ 64) (λ number. words_in c.args.rest.now ≡ decimal number ∷ [])
    c.last_number-then-eq-3.result c.last_number-then-eq-3.ensures.small c.last_number-then-eq-3.ensures.read)

pub returns-then-eq-4-clause-read : goal.returns-then-eq-4-clause-read
returns-then-eq-4-clause-read c = λ grain.
    named_line_words grain Skipped skipped_words AreSkips c.args.name.now (codes "skipped")
    c.eq-4.result (words_in c.args.rest.now) c.skips_of.result c.map-then-eq-4.result
    (c.eq-4.ensures ∙ ap (pointwise eqb c.args.name.now) c.as_slice-4.ensures) c.if-eq-4.true
    (λ x is. is) (λ x. refl) c.map-then-eq-4.ensures.cases
    (named_line_fits AreSkips (λ skips. words_in c.args.rest.now ≡ skipped_words skips)
    c.skips_of.result c.skips_of.ensures.small c.skips_of.ensures.read)

pub returns-then-eq-5-clause-read : goal.returns-then-eq-5-clause-read
returns-then-eq-5-clause-read c = λ grain.
    named_line_words grain Cut (λ number. decimal number ∷ []) (λ number. number < 2 ^ 64) c.args.name.now (codes "cut")
    c.eq-5.result (words_in c.args.rest.now) c.last_number-then-eq-5.result c.map-then-eq-5.result
    (c.eq-5.ensures ∙ ap (pointwise eqb c.args.name.now) c.as_slice-5.ensures) c.if-eq-5.true
    (λ x is. is) (λ x. refl) c.map-then-eq-5.ensures.cases
    (named_line_fits (λ number. number < 2 ^ 64) (λ number. words_in c.args.rest.now ≡ decimal number ∷ [])
    c.last_number-then-eq-5.result c.last_number-then-eq-5.ensures.small c.last_number-then-eq-5.ensures.read)

pub returns-clause-refused : goal.returns-clause-refused
returns-clause-refused c = λ grain line is same.
    let name = c.args.name.now in
    no_named_line_with_words name (words_in c.args.rest.now)
    (record {
      line = c.requires.line;
      at = c.requires.at;
      opened = c.requires.opened;
      saved = c.requires.saved;
      total = named_line_texts_unlike name _ c.eq.result (c.eq.ensures ∙ ap (pointwise eqb name) c.as_slice.ensures) c.if-eq.false;
      threshold =
          named_line_texts_unlike name _ c.eq-2.result (c.eq-2.ensures ∙ ap (pointwise eqb name) c.as_slice-2.ensures)
          c.if-eq-2.false;
      frames =
          named_line_texts_unlike name _ c.eq-3.result (c.eq-3.ensures ∙ ap (pointwise eqb name) c.as_slice-3.ensures)
          c.if-eq-3.false;
      skipped =
          named_line_texts_unlike name _ c.eq-4.result (c.eq-4.ensures ∙ ap (pointwise eqb name) c.as_slice-4.ensures)
          c.if-eq-4.false;
      cut =
          named_line_texts_unlike name _ c.eq-5.result (c.eq-5.ensures ∙ ap (pointwise eqb name) c.as_slice-5.ensures)
          c.if-eq-5.false;
    })
    (named_line_has_words c.args.rest.now) line same
