-- A cut has one report.
use Rattle.std.proofs.Common.{◌≡◌, ℕ, ◌+◌, ◌<◌, ◌≤◌, ◌↔◌, ltb, cond, Bool, zero, suc, true, false, true≢false, ◌⊎◌}
use Rattle.std.proofs.Common.{inl, inr, List, [], ◌∷◌, filter, Contains, refl, sym, ap, ◌∙◌, subst, arith}
use Rattle.std.specs.declared.cmp.Ordering.TheVariants.{Less, Greater}
use Rattle.std.specs.Ordering.{ordering_reverse}
use Rattle.std.specs.Cmp.{IsTotalOrder}
use Rattle.std.proofs.lemmas.Bool.{ltb-true}
use Rattle.std.proofs.lemmas.List.Kept.{AllPairs-filter}
use Rattle.prefix_lattice.specs.{prefix_level, deepest_level, report_order, closest}
use Rattle.shard_state.specs.{CutValue}
use Rattle.hhh_report.specs.declared.line.Line.{Line}
use Rattle.hhh_report.specs.{IsThreshold, prefixes_of_lines, AreReportLines}
use Rattle.hhh_output.specs.Reporting.{IsLineOf}
use Rattle.prefix_lattice.proofs.ListLemmas.{Contains-list_cons, Contains-list_head, Contains-list_tail}
use Rattle.prefix_lattice.proofs.ListLemmas.{Contains-empty_list}
use Rattle.hhh_output.proofs.StrictOrderLemmas.{same_in_strict_order}
use Rattle.hhh_output.proofs.PrefixNodeLemmas.{prefix_level-few}
use Rattle.hhh_output.proofs.NearLineLemmas.{near_lines_above, NearLineLevelsFall}
use Rattle.hhh_output.proofs.NearLineLemmas.{near_lines_above_suffice, near_lines_decide_line}

-- a line that comes before another in a report
abbrev pub BeforeInOneReport : Line → Line → Type 0
BeforeInOneReport line later = report_order line.prefix later.prefix ≡ Less

-- no line comes before one that comes before it
pub BeforeInOneReport-strict : IsTotalOrder report_order → (line other : Line) → BeforeInOneReport line other → BeforeInOneReport other line → ⊥
BeforeInOneReport-strict order line other first second =
    let turned : Less ≡ Greater = sym first ∙ order.antisymm line.prefix other.prefix ∙ ap ordering_reverse second in cc

-- an element of a filtered list is an element of the list, and passes
one_report_filter-there : {X : Type 0} (test : X → Bool) (xs : List X) (x : X) → Contains (filter test xs) x
    → Contains xs x × (test x ≡ true)
one_report_filter-there test [] x there = absurd (Contains-empty_list x there)
one_report_filter-there {X} test (y ∷ ys) x there = by (test y) refl (one_report_filter-there test ys x) there
  where
    by : (b : Bool) → test y ≡ b → (Contains (filter test ys) x → Contains ys x × (test x ≡ true))
        → Contains (cond b (y ∷ filter test ys) (filter test ys)) x
        → Contains (y ∷ ys) x × (test x ≡ true)
    by true passes rest there = elim (Contains-list_cons y (filter test ys) x there) [
      | inl same ↦ (subst (Contains (y ∷ ys)) same (Contains-list_head y ys), ap test (sym same) ∙ passes)
      | inr later ↦ (Contains-list_tail y ys x (rest later).0, (rest later).1)
    ]
    by false fails rest there = (Contains-list_tail y ys x (rest there).0, (rest there).1)

-- and back
one_report_filter-back : {X : Type 0} (test : X → Bool) (xs : List X) (x : X) → Contains xs x → test x ≡ true
    → Contains (filter test xs) x
one_report_filter-back test [] x there passes = absurd (Contains-empty_list x there)
one_report_filter-back {X} test (y ∷ ys) x there passes = by (test y) refl (one_report_filter-back test ys x) (Contains-list_cons y ys x there)
  where
    by : (b : Bool) → test y ≡ b → (Contains ys x → test x ≡ true → Contains (filter test ys) x)
        → (y ≡ x) ⊎ Contains ys x
        → Contains (cond b (y ∷ filter test ys) (filter test ys)) x
    by true _ rest (inl same) = subst (Contains (y ∷ filter test ys)) same (Contains-list_head y (filter test ys))
    by true _ rest (inr later) = Contains-list_tail y (filter test ys) x (rest later passes)
    by false fails rest (inl same) = absurd (true≢false (sym passes ∙ ap test (sym same) ∙ fails))
    by false _ rest (inr later) = rest later passes

-- the lines of one list are in another, from some level on
abbrev StandInOneReport : ℕ → List Line → List Line → Type 0
StandInOneReport least lines other = (line : Line) → least ≤ prefix_level line.prefix → Contains lines line
    → Contains other line

-- two lists that have the same lines above a level have them in the same order
one_report_same_above : IsTotalOrder report_order → (least : ℕ) (lines other : List Line) → AreReportLines lines → AreReportLines other
    → StandInOneReport (suc least) lines other → StandInOneReport (suc least) other lines
    → near_lines_above least lines ≡ near_lines_above least other
one_report_same_above order least lines other kept other_kept there back =
    let above : Line → Bool = λ line. ltb least (prefix_level line.prefix) in
    let one_way : (xs ys : List Line) → StandInOneReport (suc least) xs ys → (line : Line) → Contains (filter above xs) line
    → Contains (filter above ys) line =
    λ xs ys to line is.
    let parts = one_report_filter-there above xs line is in
    let high : least < prefix_level line.prefix = ltb-true least (prefix_level line.prefix) parts.1 in
    one_report_filter-back above ys line (to line (omega arith) parts.0) parts.1 in
    same_in_strict_order BeforeInOneReport (BeforeInOneReport-strict order) (near_lines_above least lines) (near_lines_above least other)
    (AllPairs-filter BeforeInOneReport above lines kept.rising) (AllPairs-filter BeforeInOneReport above other other_kept.rising)
    (one_way lines other there) (one_way other lines back)

-- what makes the lines of a report, seen from the lists alone
pub record MakesOneReport (cut : CutValue) (threshold : ℕ) (lines : List Line) : Type 0 where
  pub kept : AreReportLines lines
  pub asked : (line : Line) → Contains lines line ↔ IsLineOf cut threshold (prefixes_of_lines lines) line

-- two such lists have the same lines from each level on, the greatest first
one_report_same_from_level : (cut : CutValue) (threshold : ℕ) (lines other : List Line) → IsTotalOrder report_order → NearLineLevelsFall
    → MakesOneReport cut threshold lines → MakesOneReport cut threshold other
    → (steps least : ℕ) → deepest_level < least + steps
    → StandInOneReport least lines other × StandInOneReport least other lines
one_report_same_from_level cut threshold lines other order law makes other_makes zero least done =
    let none : (xs : List Line) → MakesOneReport cut threshold xs → (line : Line) → least ≤ prefix_level line.prefix
    → Contains xs line → ⊥ =
    λ xs made line high there.
    let is : IsLineOf cut threshold (prefixes_of_lines xs) line = (made.asked line).0 there in
    let few : prefix_level line.prefix ≤ deepest_level = prefix_level-few line.prefix is.is_prefix in omega arith in (
      λ line high there. absurd (none lines makes line high there),
      λ line high there. absurd (none other other_makes line high there),
    )
one_report_same_from_level cut threshold lines other order law makes other_makes (suc steps) least done =
    let one_way : (xs ys : List Line) → MakesOneReport cut threshold xs → MakesOneReport cut threshold ys
    → ((least : ℕ) → deepest_level < least + steps → StandInOneReport least xs ys × StandInOneReport least ys xs)
    → StandInOneReport least xs ys =
    λ xs ys made other_made rest line high there.
    let here = prefix_level line.prefix in
    let above = rest (suc here) (omega arith) in
    let is : IsLineOf cut threshold (prefixes_of_lines xs) line = (made.asked line).0 there in
    let same : closest line.prefix (prefixes_of_lines xs) ≡ closest line.prefix (prefixes_of_lines ys) =
    sym (near_lines_above_suffice line.prefix xs law)
    ∙ ap (λ l. closest line.prefix (prefixes_of_lines l))
    (one_report_same_above order here xs ys made.kept other_made.kept above.0 above.1)
    ∙ near_lines_above_suffice line.prefix ys law in
    (other_made.asked line).1 (near_lines_decide_line cut threshold (prefixes_of_lines xs) (prefixes_of_lines ys) line same is) in
    let rest : (least : ℕ) → deepest_level < least + steps
    → StandInOneReport least lines other × StandInOneReport least other lines =
    λ above enough. one_report_same_from_level cut threshold lines other order law makes other_makes steps above enough in (
      one_way lines other makes other_makes rest,
      one_way other lines other_makes makes (λ above enough. ((rest above enough).1, (rest above enough).0)),
    )

-- a cut and a threshold make one list of lines
pub one_report_has_one_list : (cut : CutValue) (threshold : ℕ) (lines other : List Line) → IsTotalOrder report_order → NearLineLevelsFall
    → MakesOneReport cut threshold lines → MakesOneReport cut threshold other
    → lines ≡ other
one_report_has_one_list cut threshold lines other order law makes other_makes =
    let both = one_report_same_from_level cut threshold lines other order law makes other_makes (deepest_level + 1) 0
    (omega arith) in
    same_in_strict_order BeforeInOneReport (BeforeInOneReport-strict order) lines other makes.kept.rising other_makes.kept.rising
    (λ line there. both.0 line (omega arith) there) (λ line there. both.1 line (omega arith) there)

-- a total has one threshold
pub one_report_has_one_threshold : (phi total threshold other : ℕ) → IsThreshold phi total threshold → IsThreshold phi total other
    → threshold ≡ other
one_report_has_one_threshold phi total threshold other is other_is =
    omega (arith, is.least other other_is.heavy, other_is.least threshold is.heavy)
