use Rattle.std.proofs.Common.{length, take, replicate, [], sym, ap, subst, ◌∙◌, arith}
use Rattle.std.proofs.lemmas.List.{length-map, get_or-map}
use Rattle.prefix_lattice.specs.{node_count}
use Rattle.hhh_report.specs.declared.line.Line.{Line}
use Rattle.hhh_report.specs.{prefixes_of_lines}
use Rattle.exact_audit.specs.LineCodes.{line_code}
use Rattle.exact_audit.specs.ClosestLines.{IsNotedBefore}
use Rattle.exact_audit.proofs.ClosestLineLemmas.{no_line_is_right_under, lines_right_under-more}
use Rattle.exact_audit.proofs.ClosestLineLemmas.{length-lines_right_under, lines_right_under-closest}
use Rattle.exact_audit.proofs.closest_lines.closest_of_each.Goals as goal

pub loop-line-init : goal.loop-line-init
loop-line-init c =
    let prefixes = prefixes_of_lines c.args.lines.now in
    c.in_ok-each.ensures
    ∙ ap (λ n. replicate n []) (sym (length-map c.args.lines.now (λ (l : Line). l.prefix)))
    ∙ no_line_is_right_under prefixes prefixes

pub note-requires : goal.note-requires
note-requires c =
    let prefixes = prefixes_of_lines c.args.lines.now in
    ap length c.loop-line.invariant ∙ length-lines_right_under prefixes (take c.loop-line.line-index prefixes)
    ∙ sym (ap length c.requires.placed.at_places ∙ length-map prefixes line_code)

pub loop-line-preserved : goal.loop-line-preserved
loop-line-preserved c =
    let lines = c.args.lines.now in
    let prefixes = prefixes_of_lines lines in
    let index = c.loop-line.line-index in
    let line = c.line-item.result in
    let long = length-map lines (λ (l : Line). l.prefix) in
    lines_right_under-more prefixes index line.prefix c.note.new.each.items c.requires.codes.prefixes
    (omega (arith, long, c.loop-line-test.true))
    (ap (λ (l : Line). l.prefix) c.line-item.is
    ∙ sym (get_or-map (λ (l : Line). l.prefix) lines index line line.prefix c.loop-line-test.true))
    (subst (λ old. IsNotedBefore c.args.grain (node_count c.args.grain) prefixes line.prefix old c.note.new.each.items) c.loop-line.invariant
    (c.in_ok-note.ensures prefixes c.requires.codes c.requires.placed))

pub returns : goal.returns
returns c =
    let prefixes = prefixes_of_lines c.args.lines.now in
    let long = length-map c.args.lines.now (λ (l : Line). l.prefix) in
    c.loop-line.invariant ∙ lines_right_under-closest prefixes c.loop-line.line-index (omega (arith, long, c.loop-line-test.false))
