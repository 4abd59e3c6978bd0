use Rattle.std.proofs.Common.{◌≡◌, ℕ, ◌++◌, [], ◌∷◌, nat_eq, true, cond, map, take, ap, subst, ◌∙◌}
use Rattle.std.specs.List.{list_any}
use Rattle.std.proofs.lemmas.List.{take_all}
use Rattle.prefix_lattice.specs.{finest_grain}
use Rattle.hhh_report.specs.{prefixes_of_lines}
use Rattle.exact_audit.specs.LineCodes.{AreLineCodes, line_code}
use Rattle.exact_audit.proofs.LineCodeLemmas.{AreLineCodes-more, codes_stay_placed, line_prefixes_differ}
use Rattle.exact_audit.proofs.LineCodeLemmas.{next_line_code_is_new, AreLineCodes-of_grain}
use Rattle.exact_audit.proofs.line_codes.LineCodes.of.Goals as goal

pub loop-line-preserved : goal.loop-line-preserved
loop-line-preserved c =
    let lines = c.args.lines.now in
    let index = c.loop-line.line-index in
    let line = c.line-item.result in
    let codes = c.loop-line.codes.keys in
    let is = c.code_of.ensures.prefix in
    let small = c.code_of.ensures.small in
    let differ = line_prefixes_differ c.report_order_is_total.ensures.total lines c.requires.rising in
    let none = next_line_code_is_new c.keys_are_of_their_node.ensures.apart lines index line codes differ
    c.loop-line-test.true c.line-item.is is small c.loop-line.invariant.0 in (
      AreLineCodes-more lines index line codes c.insert.new.self.keys c.loop-line-test.true c.line-item.is is small
          (subst (λ (code : ℕ). (q : ℕ) → list_any (nat_eq q) c.insert.new.self.keys
          ≡ cond (nat_eq code q) true (list_any (nat_eq q) codes))
          c.code_of.ensures.value c.in_ok-insert.ensures.updates.0)
          c.loop-line.invariant.0,
      codes_stay_placed lines index line codes c.insert.new.self.keys c.loop-line-test.true c.line-item.is none
          (subst (λ (code : ℕ). c.insert.new.self.keys
          ≡ cond (list_any (nat_eq code) codes) codes (codes ++ code ∷ []))
          c.code_of.ensures.value c.in_ok-insert.ensures.keys)
          c.loop-line.invariant.1,
    )

pub returns-clause-codes : goal.returns-clause-codes
returns-clause-codes c = λ grain of_grain.
    AreLineCodes-of_grain c.args.lines.now c.loop-line.codes.keys of_grain
    (subst (λ lines. AreLineCodes finest_grain (prefixes_of_lines lines) c.loop-line.codes.keys)
    (take_all c.loop-line.line-index c.args.lines.now c.loop-line-test.false) c.loop-line.invariant.0)

pub returns-clause-placed : goal.returns-clause-placed
returns-clause-placed c =
    let whole : take c.loop-line.line-index c.args.lines.now ≡ c.args.lines.now =
    take_all c.loop-line.line-index c.args.lines.now c.loop-line-test.false in
    record {
      apart = line_prefixes_differ c.report_order_is_total.ensures.total c.args.lines.now c.requires.rising;
      at_places = c.loop-line.invariant.1 ∙ ap (λ lines. map line_code (prefixes_of_lines lines)) whole;
    }
