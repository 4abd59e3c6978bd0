use Rattle.std.proofs.Common.{eqb, codes, map, decimal, ap, refl, ◌∙◌}
use Rattle.std.specs.Cmp.Lexicographic.{pointwise}
use Rattle.report_text.specs.Printing.{ShowsPositions}
use Rattle.report_text.specs.Session.{IsReportLine, report_words}
use Rattle.report_text.specs.Stages.{words_in}
use Rattle.report_text.specs.declared.session_line.SessionLine.TheVariants.{Line, At, Opened, Saved}
use Rattle.report_text.proofs.NamedLineLemmas.{named_line_words}
use Rattle.report_text.proofs.line_reading.read_words.Goals as goal

pub returns-then-eq-clause-read : goal.returns-then-eq-clause-read
returns-then-eq-clause-read c =
    named_line_words c.args.grain Line report_words (IsReportLine c.args.grain) c.args.name.now (codes "line") c.eq.result
    (words_in c.args.rest.now) c.report_line_of.result c.map.result
    (c.eq.ensures ∙ ap (pointwise eqb c.args.name.now) c.as_slice.ensures) c.if-eq.true
    (λ x is. is) (λ x. refl) c.map.ensures.cases c.report_line_of.ensures.read

pub returns-then-eq-2-clause-read : goal.returns-then-eq-2-clause-read
returns-then-eq-2-clause-read c =
    named_line_words c.args.grain At (map decimal) ShowsPositions c.args.name.now (codes "at") c.eq-2.result
    (words_in c.args.rest.now) c.in_ok-positions_of.field-0 c.map-then-eq-2.result
    (c.eq-2.ensures ∙ ap (pointwise eqb c.args.name.now) c.as_slice-2.ensures) c.if-eq-2.true
    (λ x is. is) (λ x. refl) c.map-then-eq-2.ensures.cases c.in_ok-positions_of.ensures.read

pub returns-then-eq-3-clause-read : goal.returns-then-eq-3-clause-read
returns-then-eq-3-clause-read c =
    named_line_words c.args.grain Opened (map decimal) ShowsPositions c.args.name.now (codes "opened") c.eq-3.result
    (words_in c.args.rest.now) c.in_ok-positions_of-2.field-0 c.map-then-eq-3.result
    (c.eq-3.ensures ∙ ap (pointwise eqb c.args.name.now) c.as_slice-3.ensures) c.if-eq-3.true
    (λ x is. is) (λ x. refl) c.map-then-eq-3.ensures.cases c.in_ok-positions_of-2.ensures.read

pub returns-then-eq-4-clause-read : goal.returns-then-eq-4-clause-read
returns-then-eq-4-clause-read c =
    named_line_words c.args.grain Saved (map decimal) ShowsPositions c.args.name.now (codes "saved") c.eq-4.result
    (words_in c.args.rest.now) c.in_ok-positions_of-3.field-0 c.map-then-eq-4.result
    (c.eq-4.ensures ∙ ap (pointwise eqb c.args.name.now) c.as_slice-4.ensures) c.if-eq-4.true
    (λ x is. is) (λ x. refl) c.map-then-eq-4.ensures.cases c.in_ok-positions_of-3.ensures.read
