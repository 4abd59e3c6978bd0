-- The crossings of reports, one report after another.
use Rattle.std.proofs.Common.{◌≡◌, ℕ, suc, ◌+◌, ◌-◌, ◌<◌, Bool, true, false, cond, not, ◌&&◌, ◌||◌, leb}
use Rattle.std.proofs.Common.{List, [], ◌∷◌, ◌++◌, length, filter, take, refl, sym, ap, subst, ◌∙◌, arith, append_assoc}
use Rattle.std.proofs.Common.{length-append, get_or}
use Rattle.std.specs.Prelude.{Some}
use Rattle.std.specs.List.{list_any, enumerate_from, flat_map, slice_get}
use Rattle.std.proofs.lemmas.Bool.{and_parts}
use Rattle.std.proofs.lemmas.List.{append-nil, take_more, length-take-le}
use Rattle.std.proofs.lemmas.Grind.{flat_map-append}
use Rattle.std.proofs.lemmas.List.Elements.{filter-append}
use Rattle.std.proofs.lemmas.List.Folds.{list_any-append}
use Rattle.std.proofs.Math.Seq.{take-append_seam}
use Rattle.prefix_lattice.specs.{PrefixValue, under, same_as}
use Rattle.hhh_report.specs.declared.line.Line.{Line}
use Rattle.hhh_report.specs.declared.reports.Reported.{Reported}
use Rattle.watch_rules.specs.declared.rule.Rule.{Rule}
use Rattle.watch_rules.specs.declared.raised.Raised.{Raised}
use Rattle.watch_rules.specs.Crossings.{LineByRule, beside, line_by_rules, lines_by_rules, is_over, is_first_over}
use Rattle.watch_rules.specs.Crossings.{have_over, had_over, crossings}
use Rattle.watch_rules.specs.RaisedPairs.{is_raised}
use Rattle.watch_rules.specs.Watch.{is_next, next_crossings}
use Rattle.watch_rules.proofs.PairLemmas.{PairUnderHolds, is_pair, pair_rules, pair_any-count, pair_any-filter, pair_count-rule}

-- the crossings of a report after others
abbrev pub report_crossings : List Rule → List Reported → Reported → List LineByRule
report_crossings rules before reported =
    filter (is_first_over before) (lines_by_rules rules (length before + 1) reported.report.lines)

-- the crossings of reports after others, by recursion
abbrev pub crossings_after : List Rule → List Reported → List Reported → List LineByRule
crossings_after rules before [] = []
crossings_after rules before (reported ∷ reports) =
    report_crossings rules before reported ++ crossings_after rules (before ++ reported ∷ []) reports

-- these are the crossings of the reports among all
crossings_by_recursion : (rules : List Rule) (before reports rest whole : List Reported) (number : ℕ)
    → whole ≡ before ++ (reports ++ rest) → number ≡ length before + 1
    → flat_map (λ (numbered : ℕ × Reported). filter (is_first_over (take (numbered.0 - 1) whole))
    (lines_by_rules rules numbered.0 numbered.1.report.lines)) (enumerate_from number reports)
    ≡ crossings_after rules before reports
crossings_by_recursion rules before [] rest whole number is next = refl
crossings_by_recursion rules before (reported ∷ reports) rest whole number is next =
    let earlier : take (number - 1) whole ≡ before =
    let last : number - 1 ≡ length before = omega (arith, next) in
    ap (λ n. take n whole) last ∙ ap (λ l. take (length before) l) is ∙ take-append_seam before ((reported ∷ reports) ++ rest) in
    let grown : length (before ++ reported ∷ []) ≡ length before + 1 = length-append before (reported ∷ []) in
    let more = crossings_by_recursion rules (before ++ reported ∷ []) reports rest whole (number + 1)
    (is ∙ sym (append_assoc before (reported ∷ []) (reports ++ rest))) (omega (arith, next, grown)) in
    ap (λ l. filter (is_first_over l) (lines_by_rules rules number reported.report.lines)
    ++ flat_map (λ (numbered : ℕ × Reported). filter (is_first_over (take (numbered.0 - 1) whole))
    (lines_by_rules rules numbered.0 numbered.1.report.lines)) (enumerate_from (number + 1) reports)) earlier
    ∙ ap (λ l. filter (is_first_over before) (lines_by_rules rules number reported.report.lines) ++ l) more
    ∙ ap (λ n. filter (is_first_over before) (lines_by_rules rules n reported.report.lines)
    ++ crossings_after rules (before ++ reported ∷ []) reports) next

pub crossings_are_recursive : (rules : List Rule) (reports : List Reported) → crossings rules reports ≡ crossings_after rules [] reports
crossings_are_recursive rules reports = crossings_by_recursion rules [] reports [] reports 1 (sym (append-nil reports)) refl

crossings_after-push : (rules : List Rule) (before reports : List Reported) (last : Reported)
    → crossings_after rules before (reports ++ last ∷ [])
    ≡ crossings_after rules before reports ++ report_crossings rules (before ++ reports) last
crossings_after-push rules before [] last =
    append-nil (report_crossings rules before last) ∙ ap (λ l. report_crossings rules l last) (sym (append-nil before))
crossings_after-push rules before (reported ∷ reports) last =
    ap (λ l. report_crossings rules before reported ++ l) (crossings_after-push rules (before ++ reported ∷ []) reports last)
    ∙ sym (append_assoc (report_crossings rules before reported) (crossings_after rules (before ++ reported ∷ []) reports)
    (report_crossings rules ((before ++ reported ∷ []) ++ reports) last))
    ∙ ap (λ l. (report_crossings rules before reported ++ crossings_after rules (before ++ reported ∷ []) reports)
    ++ report_crossings rules l last) (append_assoc before (reported ∷ []) reports)

-- one report more has its crossings after the others
pub crossings-push : (rules : List Rule) (reports : List Reported) (last : Reported)
    → crossings rules (reports ++ last ∷ []) ≡ crossings rules reports ++ report_crossings rules reports last
crossings-push rules reports last =
    crossings_are_recursive rules (reports ++ last ∷ []) ∙ crossings_after-push rules [] reports last
    ∙ ap (λ l. l ++ report_crossings rules reports last) (sym (crossings_are_recursive rules reports))

crossing_and_turned : (x y z : Bool) → ((x && y) && z) ≡ (y && (x && z))
crossing_and_turned true true z = refl
crossing_and_turned true false z = refl
crossing_and_turned false true z = refl
crossing_and_turned false false z = refl

-- a line of a prefix is over the limit for the first time exactly if its low reaches the limit, the prefix is under the
-- rule's, and no earlier report had it over the limit
pub crossing_of_prefix : PairUnderHolds → (before : List Reported) (prefix : PrefixValue) (report : ℕ) (line : Line) (number : ℕ) (rule : Rule)
    → (same_as line.prefix prefix && is_first_over before (beside report line number rule))
    ≡ ((same_as line.prefix prefix && leb rule.limit line.lo)
    && (under prefix rule.prefix && not (had_over prefix rule.limit before)))
crossing_of_prefix one before prefix report line number rule = by_same (same_as line.prefix prefix) refl
  where
    first : Bool
    first = is_first_over before (beside report line number rule)

    news : Bool
    news = under prefix rule.prefix && not (had_over prefix rule.limit before)

    by_same : (same : Bool) → same_as line.prefix prefix ≡ same
        → (same_as line.prefix prefix && is_first_over before (beside report line number rule))
        ≡ ((same_as line.prefix prefix && leb rule.limit line.lo)
        && (under prefix rule.prefix && not (had_over prefix rule.limit before)))
    by_same true is =
        let parts = and_parts (under line.prefix prefix) (under prefix line.prefix) is in
        let equal : line.prefix ≡ prefix = one line.prefix prefix parts.0 parts.1 in
        ap (λ b. b && is_first_over before (beside report line number rule)) is
        ∙ ap (λ p. (under p rule.prefix && leb rule.limit line.lo) && not (had_over p rule.limit before)) equal
        ∙ crossing_and_turned (under prefix rule.prefix) (leb rule.limit line.lo) (not (had_over prefix rule.limit before))
        ∙ sym (ap (λ b. (b && leb rule.limit line.lo)
        && (under prefix rule.prefix && not (had_over prefix rule.limit before))) is)
    by_same false is =
        ap (λ b. b && is_first_over before (beside report line number rule)) is
        ∙ sym (ap (λ b. (b && leb rule.limit line.lo)
        && (under prefix rule.prefix && not (had_over prefix rule.limit before))) is)

crossing_or_of_ands : (x y z : Bool) → ((x && z) || (y && z)) ≡ ((x || y) && z)
crossing_or_of_ands true true true = refl
crossing_or_of_ands true true false = refl
crossing_or_of_ands true false true = refl
crossing_or_of_ands true false false = refl
crossing_or_of_ands false y z = refl

-- whether a rule and a prefix are among the crossings of lines after other reports
crossing_is_among_lines : PairUnderHolds → (rules : List Rule) (number : ℕ) (rule : Rule) → slice_get rules number ≡ Some rule
    → (before : List Reported) (prefix : PrefixValue) (report : ℕ) (lines : List Line)
    → list_any (is_pair number prefix) (filter (is_first_over before) (lines_by_rules rules report lines))
    ≡ (have_over prefix rule.limit lines && (under prefix rule.prefix && not (had_over prefix rule.limit before)))
crossing_is_among_lines one rules number rule got before prefix report [] = refl
crossing_is_among_lines one rules number rule got before prefix report (line ∷ lines) =
    let here = line_by_rules rules report line in
    let others = lines_by_rules rules report lines in
    let news : Bool = under prefix rule.prefix && not (had_over prefix rule.limit before) in
    let over : Bool = same_as line.prefix prefix && leb rule.limit line.lo in
    let at_line : list_any (is_pair number prefix) (filter (is_first_over before) here) ≡ (over && news) =
    pair_any-filter (is_first_over before) number prefix here
    ∙ pair_any-count (is_first_over before) number prefix here
    (same_as line.prefix prefix && is_first_over before (beside report line number rule))
    (pair_count-rule (is_first_over before) number prefix report line 0 number rules rule got (omega arith))
    ∙ crossing_of_prefix one before prefix report line number rule in
    ap (list_any (is_pair number prefix)) (filter-append (is_first_over before) here others)
    ∙ list_any-append (is_pair number prefix) (filter (is_first_over before) here) (filter (is_first_over before) others)
    ∙ ap (λ b. b || list_any (is_pair number prefix) (filter (is_first_over before) others)) at_line
    ∙ ap (λ b. (over && news) || b) (crossing_is_among_lines one rules number rule got before prefix report lines)
    ∙ crossing_or_of_ands over (have_over prefix rule.limit lines) news

crossing_of_one_report_more : (had has any later : Bool)
    → ((had || (has || false)) || any) ≡ ((had || (has || false)) || later)
    → (had || ((has && (true && not had)) || any)) ≡ (had || (has || later))
crossing_of_one_report_more true has any later same = refl
crossing_of_one_report_more false true any later same = refl
crossing_of_one_report_more false false any later same = same

crossing_is_after : PairUnderHolds → (rules : List Rule) (number : ℕ) (rule : Rule) → slice_get rules number ≡ Some rule
    → (prefix : PrefixValue) → under prefix rule.prefix ≡ true → (before reports : List Reported)
    → (had_over prefix rule.limit before || list_any (is_pair number prefix) (crossings_after rules before reports))
    ≡ (had_over prefix rule.limit before || had_over prefix rule.limit reports)
crossing_is_after one rules number rule got prefix below before [] = refl
crossing_is_after one rules number rule got prefix below before (reported ∷ reports) =
    let had : Bool = had_over prefix rule.limit before in
    let has : Bool = have_over prefix rule.limit reported.report.lines in
    let here = report_crossings rules before reported in
    let later = crossings_after rules (before ++ reported ∷ []) reports in
    let any : Bool = list_any (is_pair number prefix) later in
    let grown : had_over prefix rule.limit (before ++ reported ∷ []) ≡ (had || (has || false)) =
    list_any-append (λ (r : Reported). have_over prefix rule.limit r.report.lines) before (reported ∷ []) in
    let more : ((had || (has || false)) || any) ≡ ((had || (has || false)) || had_over prefix rule.limit reports) =
    subst (λ b. (b || any) ≡ (b || had_over prefix rule.limit reports)) grown
    (crossing_is_after one rules number rule got prefix below (before ++ reported ∷ []) reports) in
    ap (λ b. had || b) (list_any-append (is_pair number prefix) here later)
    ∙ ap (λ b. had || (b || any))
    (crossing_is_among_lines one rules number rule got before prefix (length before + 1) reported.report.lines
    ∙ ap (λ b. has && (b && not had)) below)
    ∙ crossing_of_one_report_more had has any (had_over prefix rule.limit reports) more

-- a rule and a prefix under its own are among the crossings of reports exactly if these have the prefix over its limit
pub crossing_is_among : PairUnderHolds → (rules : List Rule) (number : ℕ) (rule : Rule) → slice_get rules number ≡ Some rule
    → (prefix : PrefixValue) → under prefix rule.prefix ≡ true → (reports : List Reported)
    → list_any (is_pair number prefix) (crossings rules reports) ≡ had_over prefix rule.limit reports
crossing_is_among one rules number rule got prefix below reports =
    ap (list_any (is_pair number prefix)) (crossings_are_recursive rules reports)
    ∙ crossing_is_after one rules number rule got prefix below [] reports

-- one rule more
crossing_rules-push : (report : ℕ) (line : Line) (start : ℕ) (rules : List Rule) (last : Rule)
    → pair_rules report line start (rules ++ last ∷ [])
    ≡ pair_rules report line start rules ++ beside report line (start + length rules) last ∷ []
crossing_rules-push report line start [] last = ap (λ n. beside report line n last ∷ []) (omega arith)
crossing_rules-push report line start (rule ∷ rules) last =
    let count : start + 1 + length rules ≡ start + length (rule ∷ rules) = omega arith in
    ap (λ l. beside report line start rule ∷ l) (crossing_rules-push report line (start + 1) rules last)
    ∙ ap (λ n. (beside report line start rule ∷ pair_rules report line (start + 1) rules) ++ beside report line n last ∷ []) count

pub crossing_rules-more : (report : ℕ) (line : Line) (rules : List Rule) (place : ℕ) (rule : Rule)
    → place < length rules → rule ≡ get_or rules place rule
    → line_by_rules (take (place + 1) rules) report line
    ≡ line_by_rules (take place rules) report line ++ beside report line place rule ∷ []
crossing_rules-more report line rules place rule within at =
    let long : 0 + length (take place rules) ≡ place =
    let h = length-take-le place rules (omega (arith, within)) in omega (arith, h) in
    ap (λ l. line_by_rules l report line) (take_more rules place rule within ∙ ap (λ r. take place rules ++ r ∷ []) (sym at))
    ∙ crossing_rules-push report line 0 (take place rules) rule
    ∙ ap (λ n. line_by_rules (take place rules) report line ++ beside report line n rule ∷ []) long

-- one line more
pub crossing_lines-more : (test : LineByRule → Bool) (rules : List Rule) (report : ℕ) (lines : List Line) (place : ℕ) (line : Line)
    → place < length lines → line ≡ get_or lines place line
    → filter test (lines_by_rules rules report (take (place + 1) lines))
    ≡ filter test (lines_by_rules rules report (take place lines)) ++ filter test (line_by_rules rules report line)
crossing_lines-more test rules report lines place line within at =
    let before = lines_by_rules rules report (take place lines) in
    ap (λ l. filter test (lines_by_rules rules report l))
    (take_more lines place line within ∙ ap (λ r. take place lines ++ r ∷ []) (sym at))
    ∙ ap (filter test) (flat_map-append (line_by_rules rules report) (take place lines) (line ∷ []))
    ∙ filter-append test before (line_by_rules rules report line ++ [])
    ∙ ap (λ l. filter test before ++ filter test l) (append-nil (line_by_rules rules report line))

-- one report more
pub crossings-more : (rules : List Rule) (reports : List Reported) (place : ℕ) (reported : Reported)
    → place < length reports → reported ≡ get_or reports place reported
    → crossings rules (take (place + 1) reports) ≡ crossings rules (take place reports) ++ report_crossings rules (take place reports) reported
crossings-more rules reports place reported within at =
    ap (crossings rules) (take_more reports place reported within ∙ ap (λ r. take place reports ++ r ∷ []) (sym at))
    ∙ crossings-push rules (take place reports) reported

-- two tests that agree beside each rule keep the same crossings
crossing_tests_agree : (test other : LineByRule → Bool) (report : ℕ) (line : Line) (start : ℕ) (rules : List Rule)
    → ((place number : ℕ) (rule : Rule) → slice_get rules place ≡ Some rule → number ≡ start + place
    → test (beside report line number rule) ≡ other (beside report line number rule))
    → filter test (pair_rules report line start rules) ≡ filter other (pair_rules report line start rules)
crossing_tests_agree test other report line start [] agree = refl
crossing_tests_agree test other report line start (rule ∷ rules) agree =
    let at = beside report line start rule in
    let others = pair_rules report line (start + 1) rules in
    ap (λ b. cond b (at ∷ filter test others) (filter test others)) (agree 0 start rule refl (omega arith))
    ∙ ap (λ l. cond (other at) (at ∷ l) l)
    (crossing_tests_agree test other report line (start + 1) rules
    (λ place number later got is. agree (suc place) number later got (omega (arith, is))))

crossing_lines_agree : (test other : LineByRule → Bool) (report : ℕ) (lines : List Line) (rules : List Rule)
    → ((line : Line) (number : ℕ) (rule : Rule) → slice_get rules number ≡ Some rule
    → test (beside report line number rule) ≡ other (beside report line number rule))
    → filter test (lines_by_rules rules report lines) ≡ filter other (lines_by_rules rules report lines)
crossing_lines_agree test other report [] rules agree = refl
crossing_lines_agree test other report (line ∷ lines) rules agree =
    let here = line_by_rules rules report line in
    let others = lines_by_rules rules report lines in
    filter-append test here others
    ∙ ap (λ l. l ++ filter test others) (crossing_tests_agree test other report line 0 rules
    (λ place number rule got is. agree line number rule (subst (λ n. slice_get rules n ≡ Some rule) (omega (arith, is)) got)))
    ∙ ap (λ l. filter other here ++ l) (crossing_lines_agree test other report lines rules agree)
    ∙ sym (filter-append other here others)

-- the crossings of the next report are those of it after the others, if the raised pairs are those of their crossings
pub next_crossings_are : PairUnderHolds → (rules : List Rule) (before : List Reported) (raised : List Raised) (reported : Reported)
    → ((number : ℕ) (prefix : PrefixValue) → is_raised raised number prefix ≡ list_any (is_pair number prefix) (crossings rules before))
    → next_crossings rules raised (length before + 1) reported.report.lines ≡ report_crossings rules before reported
next_crossings_are one rules before raised reported known =
    crossing_lines_agree (is_next raised) (is_first_over before) (length before + 1) reported.report.lines rules
    (λ line number rule got. by_over line number rule got (is_over (beside (length before + 1) line number rule)) refl)
  where
    by_over : (line : Line) (number : ℕ) (rule : Rule) → slice_get rules number ≡ Some rule
        → (over : Bool) → is_over (beside (length before + 1) line number rule) ≡ over
        → is_next raised (beside (length before + 1) line number rule) ≡ is_first_over before (beside (length before + 1) line number rule)
    by_over line number rule got true is =
        let below = (and_parts (under line.prefix rule.prefix) (leb rule.limit line.lo) is).0 in
        ap (λ b. is_over (beside (length before + 1) line number rule) && not b)
        (known number line.prefix ∙ crossing_is_among one rules number rule got line.prefix below before)
    by_over line number rule got false is =
        ap (λ b. b && not (is_raised raised number line.prefix)) is
        ∙ sym (ap (λ b. b && not (had_over line.prefix rule.limit before)) is)
