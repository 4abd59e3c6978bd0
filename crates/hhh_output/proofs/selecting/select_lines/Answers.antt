use Rattle.std.proofs.Common.{◌≡◌, ◌≢◌, ℕ, ◌+◌, ◌-◌, ◌<◌, List, ◌++◌, length, AllPairs, Contains, sym, subst, ap, ◌∙◌}
use Rattle.std.proofs.Common.{arith}
use Rattle.std.proofs.lemmas.List.{map-append, length-map, length-append}
use Rattle.std.proofs.lemmas.List.Elements.{All-weaker, All-contains_itself}
use Rattle.prefix_lattice.specs.{PrefixValue, IsPrefix, deepest_level}
use Rattle.cut_merge.specs.{MergedValue}
use Rattle.conditioned_bounds.specs.{member_limit}
use Rattle.hhh_report.specs.declared.line.Line.{Line}
use Rattle.hhh_report.specs.{AreOfGrain, prefixes_of_lines}
use Rattle.hhh_output.specs.Selecting.{AreOfLevel, AreDownTo}
use Rattle.hhh_output.proofs.NearLineLemmas.{NearLineLevelsFall}
use Rattle.hhh_output.proofs.LevelDescentLemmas.{level_descent_goes_on}
use Rattle.hhh_output.proofs.SoundReportLemmas.{sound_report_prefixes_differ}
use Rattle.hhh_output.proofs.AppendedLineLemmas.{appended_lines-few}
use Rattle.hhh_output.proofs.selecting.select_lines.Goals as goal

-- the lines with those of one more level
further : (merged : MergedValue) (threshold levels : ℕ) (lines found : List Line) (reported : List PrefixValue)
    (items : List Line) → NearLineLevelsFall → levels < deepest_level + 1 → reported ≡ prefixes_of_lines lines
    → items ≡ found
    → AreDownTo merged threshold levels lines → AreOfLevel merged threshold reported (deepest_level - levels) found
    → (reported ++ prefixes_of_lines items ≡ prefixes_of_lines (lines ++ found))
    × AreDownTo merged threshold (levels + 1) (lines ++ found)
further merged threshold levels lines found reported items law some same same_items down of_level = (
  ap (λ before. before ++ prefixes_of_lines items) same
      ∙ ap (λ (more : List Line). prefixes_of_lines lines ++ prefixes_of_lines more) same_items
      ∙ sym (map-append (λ (l : Line). l.prefix) lines found),
  level_descent_goes_on merged threshold levels lines found law some down
      (subst (λ before. AreOfLevel merged threshold before (deepest_level - levels) found) same of_level),
)

pub append-requires-clause-of_grain : goal.append-requires-clause-of_grain
append-requires-clause-of_grain c =
    let merged = c.args.merged.now in
    let found = c.in_ok-found.found.items in
    let all : AreOfGrain merged.shape.grain found =
    All-weaker (Contains found) (λ line. IsPrefix merged.shape.grain line.prefix)
    (λ line there. ((c.in_ok-found.ensures.members line).0 there).1.is_prefix) found (All-contains_itself found) in
    subst (λ grain. AreOfGrain grain c.deref.result.now) (sym c.loop-levels.invariant.grain)
    (subst (AreOfGrain merged.shape.grain) (sym c.deref.ensures.value) all)

pub append-requires-clause-distinct : goal.append-requires-clause-distinct
append-requires-clause-distinct c =
    let more =
    further c.args.merged.now c.args.threshold c.loop-levels.levels c.loop-levels.lines c.in_ok-found.found.items
    c.loop-levels.reported.lines c.deref.result.now (record { falls = c.prefixes_are_ordered.ensures.level })
    c.loop-levels-test.true c.loop-levels.invariant.prefixes c.deref.ensures.value c.loop-levels.invariant.down
    c.in_ok-found.ensures in
    subst (AllPairs (λ prefix other. prefix ≢ other)) (sym more.0)
    (sound_report_prefixes_differ c.report_order_is_total.ensures.total (c.loop-levels.lines ++ c.in_ok-found.found.items)
    more.1.rising)

pub append-requires-clause-few : goal.append-requires-clause-few
append-requires-clause-few c =
    let levels = c.loop-levels.levels in
    let lines = c.loop-levels.lines in
    let found = c.in_ok-found.found.items in
    let more =
    further c.args.merged.now c.args.threshold levels lines found
    c.loop-levels.reported.lines c.deref.result.now (record { falls = c.prefixes_are_ordered.ensures.level })
    c.loop-levels-test.true c.loop-levels.invariant.prefixes c.deref.ensures.value c.loop-levels.invariant.down
    c.in_ok-found.ensures in
    let few : length (lines ++ found) < member_limit =
    appended_lines-few c.args.merged.now.shape.grain (levels + 1) (length (lines ++ found)) (omega
    (arith, c.loop-levels-test.true)) more.1.few in
    let reported : length c.loop-levels.reported.lines ≡ length lines =
    ap length c.loop-levels.invariant.prefixes ∙ length-map lines (λ (l : Line). l.prefix) in
    let items : length c.deref.result.now ≡ length found = ap length c.deref.ensures.value in
    omega (arith, few, reported, items, length-append lines found)

pub loop-levels-preserved : goal.loop-levels-preserved
loop-levels-preserved c =
    let merged = c.args.merged.now in
    let threshold = c.args.threshold in
    let levels = c.loop-levels.levels in
    let found = c.in_ok-found.found.items in
    let lines = c.loop-levels.lines in
    let new_lines : c.append.new.lines ≡ lines ++ found =
    c.in_ok-append.ensures.lines ∙ ap (λ (more : List Line). lines ++ more) c.deref.ensures.value in
    let new_prefixes : c.append.new.reported.lines ≡ prefixes_of_lines (lines ++ found) =
    c.in_ok-append.ensures.prefixes
    ∙ ap (λ (more : List Line). c.loop-levels.reported.lines ++ prefixes_of_lines more) c.deref.ensures.value
    ∙ ap (λ before. before ++ prefixes_of_lines found) c.loop-levels.invariant.prefixes
    ∙ sym (map-append (λ (l : Line). l.prefix) lines found) in
    let of_level : AreOfLevel merged threshold (prefixes_of_lines lines) (deepest_level - levels) found =
    subst (λ reported. AreOfLevel merged threshold reported
    (deepest_level - levels) found) c.loop-levels.invariant.prefixes
    c.in_ok-found.ensures in
    record {
      grain = c.in_ok-append.ensures.grain ∙ c.loop-levels.invariant.grain;
      prefixes = new_prefixes ∙ ap prefixes_of_lines (sym new_lines);
      down =
          subst (AreDownTo merged threshold (levels + 1)) (sym new_lines)
          (level_descent_goes_on merged threshold levels lines found (record { falls = c.prefixes_are_ordered.ensures.level })
          c.loop-levels-test.true c.loop-levels.invariant.down of_level);
    }
