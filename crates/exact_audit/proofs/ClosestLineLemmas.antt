-- Closest lines, found from the lines below them.
use Rattle.std.proofs.Common.{◌≡◌, ◌≢◌, ℕ, ◌+◌, ◌<◌, ◌≤◌, ◌^◌, nat_eq, nat_lt, Bool, true, false, ◌&&◌, not, cond}
use Rattle.std.proofs.Common.{zero, suc, List, [], ◌∷◌, ◌++◌, length, take, get_or, set, map, filter, replicate, All}
use Rattle.std.proofs.Common.{AllPairs, Contains}
use Rattle.std.proofs.Common.{Option, None, Some, slice_get, refl, sym, ap, ◌∙◌, subst, arith, ⊎_elim, take_all}
use Rattle.std.specs.Prelude.{position}
use Rattle.std.specs.List.{list_any}
use Rattle.std.proofs.lemmas.Bool.{false≢true, and_parts, and_from, and_left, and_right, false_from_ne_true, eqb-true}
use Rattle.std.proofs.lemmas.Bool.{cases_lt, cases_eq, lt-ltb, le-ltb, cond-true, cond-false}
use Rattle.std.proofs.lemmas.Option.{none-some, slice_get-get_or, slice_get_read, slice_get_within, get_or_from_slice_get}
use Rattle.std.proofs.lemmas.List.{append-nil, ext_get_or, get_or-map, get_or-set_same, get_or-set_other}
use Rattle.std.proofs.lemmas.List.{length-map, length-set}
use Rattle.std.proofs.lemmas.List.Elements.{All-contains, Contains-get_or, filter_agree, filter_more}
use Rattle.std.proofs.lemmas.List.Folds.{list_any_at, list_any_none}
use Rattle.std.proofs.lemmas.List.Quantifiers.{position-Some}
use Rattle.prefix_lattice.specs.{NodeValue, IsNode, PrefixValue, IsPrefix, finest_grain, node_at, node_count, node_index}
use Rattle.prefix_lattice.specs.{node_of_prefix, prefix_key}
use Rattle.prefix_lattice.specs.{closest, lines_under, same_as, strictly_under, under, upper_at}
use Rattle.prefix_lattice.specs.declared.grain.Grain.{Grain}
use Rattle.prefix_lattice.proofs.NodePlaceLemmas.{node_at_own_place, node_place_is_small}
use Rattle.hhh_report.specs.declared.line.Line.{Line}
use Rattle.hhh_report.specs.{prefixes_of_lines}
use Rattle.exact_audit.specs.LineCodes.{AreLineCodes, ArePlaced, line_code}
use Rattle.exact_audit.specs.ClosestLines.{is_between, is_right_above, right_under_each, closest_of_lines}
use Rattle.exact_audit.specs.ClosestLines.{noted_before, IsNotedBefore, IsPlaceRightAbove}
use Rattle.exact_audit.proofs.ListAnyLemmas.{list_any-filter}
use Rattle.exact_audit.proofs.DepthLemmas.{depth_code_tells_prefix, coded_depth_has_line}
use Rattle.exact_audit.proofs.DepthLemmas.{IsNode-depth, IsPrefix-depth_finest, DepthLineKeysAreApart}

-- what the laws of prefixes say of the one upper prefix of a node
abbrev pub UpperLineIsOnly : Type 0
UpperLineIsOnly = (grain : Grain) (prefix upper : PrefixValue) → under prefix upper ≡ true
    → upper_at prefix (node_of_prefix grain upper) ≡ Some upper

line_strictly_under-under : (lower upper : PrefixValue) → strictly_under lower upper ≡ true → under lower upper ≡ true
line_strictly_under-under lower upper is = (and_parts (under lower upper) (not (same_as lower upper)) is).0

closest_line_some-injective : (x y : PrefixValue) → ◌≡◌ {A = Option PrefixValue} (Some x) (Some y) → x ≡ y
closest_line_some-injective x y same = cc

-- a prefix of a node that another is strictly under is its upper one there
pub upper_line_of_node : UpperLineIsOnly → (lower upper other : PrefixValue) (node : NodeValue)
    → upper_at lower node ≡ Some upper → node_of_prefix node.grain other ≡ node → strictly_under lower other ≡ true
    → upper ≡ other
upper_line_of_node only lower upper other node found at is =
    closest_line_some-injective upper other
    (sym found ∙ ap (upper_at lower) (sym at) ∙ only node.grain lower other (line_strictly_under-under lower other is))

-- where it has none, it is strictly under no prefix of the node
pub no_upper_line_of_node : UpperLineIsOnly → (lower other : PrefixValue) (node : NodeValue)
    → upper_at lower node ≡ None → node_of_prefix node.grain other ≡ node → strictly_under lower other ≡ false
no_upper_line_of_node only lower other node none at =
    false_from_ne_true (strictly_under lower other) (λ is.
    none-some other
    (sym none ∙ ap (upper_at lower) (sym at) ∙ only node.grain lower other (line_strictly_under-under lower other is)))

-- of the prefixes of a node, only the upper one may be between
pub no_upper_line_between : UpperLineIsOnly → (upper lower other : PrefixValue) (node : NodeValue)
    → upper_at lower node ≡ None → node_of_prefix node.grain other ≡ node → is_between upper lower other ≡ false
no_upper_line_between only upper lower other node none at =
    and_right (strictly_under other upper) (strictly_under lower other)
    (no_upper_line_of_node only lower other node none at)

pub only_upper_line_between : UpperLineIsOnly → (upper lower own other : PrefixValue) (node : NodeValue)
    → upper_at lower node ≡ Some own → node_of_prefix node.grain other ≡ node
    → (own ≡ other → is_between upper lower own ≡ false) → is_between upper lower other ≡ false
only_upper_line_between only upper lower own other node found at fails =
    false_from_ne_true (is_between upper lower other) (λ is.
    let both = and_parts (strictly_under other upper) (strictly_under lower other) is in
    let same : own ≡ other = upper_line_of_node only lower own other node found at both.1 in
    false≢true (sym (fails same) ∙ ap (is_between upper lower) same ∙ is))

-- a line with a code that is between
pub coded_line_is_between : {grain : Grain} → DepthLineKeysAreApart
    → (lines : List PrefixValue) (codes : List ℕ) (upper lower own : PrefixValue)
    → AreLineCodes grain lines codes → IsPrefix finest_grain own → prefix_key own < 2 ^ 64
    → list_any (nat_eq (line_code own)) codes ≡ true → is_between upper lower own ≡ true
    → list_any (is_between upper lower) lines ≡ true
coded_line_is_between apart lines codes upper lower own coded is small has between =
    at (coded_depth_has_line apart lines codes own coded is small has)
  where
    at : Contains lines own → list_any (is_between upper lower) lines ≡ true
    at (place, within, same) =
        list_any_at (is_between upper lower) lines place own within (ap (is_between upper lower) same ∙ between)

-- a line is of the node at the index of its own
pub line_is_at_own_node : {grain : Grain} (lines : List PrefixValue) (codes : List ℕ) (line : PrefixValue)
    → AreLineCodes grain lines codes → Contains lines line
    → node_of_prefix grain line ≡ node_at grain (node_index (node_of_prefix grain line))
line_is_at_own_node {grain} lines codes line coded there =
    let is : IsPrefix grain line = All-contains (IsPrefix grain) lines line coded.prefixes there in
    sym (node_at_own_place (node_of_prefix grain line) (IsNode-depth line is))

-- where none of any node is between, none is
pub no_line_is_between : {grain : Grain} (lines : List PrefixValue) (codes : List ℕ) (upper lower : PrefixValue) (index : ℕ)
    → AreLineCodes grain lines codes → node_count grain ≤ index
    → ((other : PrefixValue) → Contains lines other → node_index (node_of_prefix grain other) < index
    → is_between upper lower other ≡ false)
    → list_any (is_between upper lower) lines ≡ false
no_line_is_between {grain} lines codes upper lower index coded all none =
    list_any_none (is_between upper lower) lines (λ place default within.
    let line = get_or lines place default in
    let small = node_place_is_small (node_of_prefix grain line) (IsNode-depth line (coded.prefixes place default within)) in
    none line (Contains-get_or lines place default within) (omega (arith, small, all)))

-- of the lines of a node, only the upper one may be right above
pub only_upper_line_right_above : UpperLineIsOnly → (lines : List PrefixValue) (lower own other : PrefixValue)
    (node : NodeValue)
    → upper_at lower node ≡ Some own → node_of_prefix node.grain other ≡ node
    → (own ≡ other → is_right_above lines own lower ≡ false) → is_right_above lines other lower ≡ false
only_upper_line_right_above only lines lower own other node found at fails =
    false_from_ne_true (is_right_above lines other lower) (λ is.
    let both = and_parts (strictly_under lower other) (not (list_any (is_between other lower) lines)) is in
    let same : own ≡ other = upper_line_of_node only lower own other node found at both.0 in
    false≢true (sym (fails same) ∙ ap (λ upper. is_right_above lines upper lower) same ∙ is))

-- a line that was found by its code stands at the place of the code
pub coded_line_at_place : {grain : Grain} → DepthLineKeysAreApart → (lines : List PrefixValue) (codes : List ℕ)
    (own : PrefixValue) (place : ℕ)
    → AreLineCodes grain lines codes → ArePlaced lines codes → IsPrefix finest_grain own → prefix_key own < 2 ^ 64
    → position (nat_eq (line_code own)) codes ≡ Some place → slice_get lines place ≡ Some own
coded_line_at_place apart lines codes own place coded placed is small found =
    let at = position-Some (nat_eq (line_code own)) codes place 0 found in
    let long : length codes ≡ length lines = ap length placed.at_places ∙ length-map lines line_code in
    let within : place < length lines = omega (arith, at.0, long) in
    let code : line_code own ≡ line_code (get_or lines place own) =
    eqb-true (line_code own) (get_or codes place 0) at.1
    ∙ ap (λ (all : List ℕ). get_or all place 0) placed.at_places
    ∙ get_or-map line_code lines place own 0 within in
    slice_get_read lines (length lines) place own refl within
    (depth_code_tells_prefix apart own (get_or lines place own) is
    (IsPrefix-depth_finest (get_or lines place own) (coded.prefixes place own within)) small
    (coded.small place own within) code)

-- a prefix is noted before one more index just as before, unless a line of that index is right above it
line_noted_before_next : (grain : Grain) (index : ℕ) (lines : List PrefixValue) (upper lower : PrefixValue)
    → (node_index (node_of_prefix grain upper) ≡ index → is_right_above lines upper lower ≡ false)
    → noted_before grain index lines upper lower ≡ noted_before grain (index + 1) lines upper lower
line_noted_before_next grain index lines upper lower none =
    ap (λ b. cond b (lower ∷ []) [])
    (⊎_elim
    (λ (less : n < index).
    ap (λ b. b && is_right_above lines upper lower) (lt-ltb n index less ∙ sym (lt-ltb n (index + 1) (omega arith))))
    (λ (not_less : index ≤ n).
    ⊎_elim
    (λ (same : n ≡ index).
    and_right (nat_lt n index) (is_right_above lines upper lower) (none same)
    ∙ sym (and_right (nat_lt n (index + 1)) (is_right_above lines upper lower) (none same)))
    (λ (apart : n ≢ index).
    ap (λ b. b && is_right_above lines upper lower)
    (le-ltb n index not_less ∙ sym (le-ltb n (index + 1) (past apart not_less))))
    (cases_eq n index))
    (cases_lt n index))
  where
    n : ℕ
    n = node_index (node_of_prefix grain upper)

    past : {a b : ℕ} → a ≢ b → b ≤ a → b + 1 ≤ a
    past {a} {b} apart at_least = ⊎_elim (λ (less : b < a). omega arith) (λ (most : a ≤ b). absurd (apart (omega arith)))
        (cases_lt b a)

-- before the first node nothing is noted
pub no_line_is_noted : (grain : Grain) (lines : List PrefixValue) (lower : PrefixValue) (lists : List (List PrefixValue))
    → IsNotedBefore grain 0 lines lower lists lists
no_line_is_noted grain lines lower lists = record {
  as_many = refl;
  each = λ place upper is.
      sym (append-nil (get_or lists place []))
      ∙ ap (λ more. get_or lists place [] ++ more)
      (sym (cond-false (nat_lt (node_index (node_of_prefix grain upper)) 0 && is_right_above lines upper lower) (lower ∷ []) []
      (and_left (nat_lt (node_index (node_of_prefix grain upper)) 0) (is_right_above lines upper lower)
      (le-ltb (node_index (node_of_prefix grain upper)) 0 (omega arith)))));
}

-- a node of which no line is right above
pub no_more_lines_are_noted : {grain : Grain} (index : ℕ) (lines : List PrefixValue) (lower : PrefixValue)
    (old new : List (List PrefixValue))
    → ((upper : PrefixValue) → Contains lines upper → node_index (node_of_prefix grain upper) ≡ index
    → is_right_above lines upper lower ≡ false)
    → IsNotedBefore grain index lines lower old new → IsNotedBefore grain (index + 1) lines lower old new
no_more_lines_are_noted {grain} index lines lower old new none before = record {
  as_many = before.as_many;
  each = λ place upper is.
      before.each place upper is
      ∙ ap (λ more. get_or old place [] ++ more)
      (line_noted_before_next grain index lines upper lower (none upper (line_there place upper is)));
}
  where
    line_there : (place : ℕ) (upper : PrefixValue) → slice_get lines place ≡ Some upper → Contains lines upper
    line_there place upper is = (place, slice_get_within lines place upper is, get_or_from_slice_get lines place upper upper is)

-- no line has two places
line_has_one_place : (lines : List PrefixValue) (one two : ℕ) (line : PrefixValue)
    → AllPairs (λ line other. line ≢ other) lines → slice_get lines one ≡ Some line → slice_get lines two ≡ Some line
    → one ≡ two
line_has_one_place lines one two line apart at_one at_two =
    ⊎_elim (λ (less : one < two). absurd (differ one two less at_one at_two))
    (λ (not_less : two ≤ one).
    ⊎_elim (λ (more : two < one). absurd (differ two one more at_two at_one))
    (λ (not_more : one ≤ two). omega arith) (cases_lt two one))
    (cases_lt one two)
  where
    differ : (i j : ℕ) → i < j → slice_get lines i ≡ Some line → slice_get lines j ≡ Some line → ⊥
    differ i j less at_i at_j =
        apart i j line less (slice_get_within lines j line at_j)
        (get_or_from_slice_get lines i line line at_i ∙ sym (get_or_from_slice_get lines j line line at_j))

-- a node of which one line is
pub line_noted_at_place : UpperLineIsOnly
    → (index : ℕ) (lines : List PrefixValue) (codes : List ℕ) (lower : PrefixValue)
    (node : NodeValue) (place : ℕ) (old new : List (List PrefixValue))
    → AreLineCodes node.grain lines codes → ArePlaced lines codes → IsPlaceRightAbove lines lower node place
    → node_index node ≡ index → place < length new → IsNotedBefore node.grain index lines lower old new
    → IsNotedBefore node.grain (index + 1) lines lower old (set new place (get_or new place [] ++ lower ∷ []))
line_noted_at_place only index lines codes lower node place old new coded placed right at within before = record {
  as_many = length-set new place (get_or new place [] ++ lower ∷ []) ∙ before.as_many;
  each = λ other upper is. ⊎_elim (here other upper is) (there other upper is) (cases_eq other place);
}
  where
    own : PrefixValue
    own = right.upper

    index_of : PrefixValue → ℕ
    index_of prefix = node_index (node_of_prefix node.grain prefix)

    of_index : index_of own ≡ index
    of_index = ap node_index right.of_node ∙ at

    now : List (List PrefixValue)
    now = set new place (get_or new place [] ++ lower ∷ [])

    nothing_yet : noted_before node.grain index lines own lower ≡ []
    nothing_yet =
        cond-false (nat_lt (index_of own) index && is_right_above lines own lower) (lower ∷ []) []
        (and_left (nat_lt (index_of own) index) (is_right_above lines own lower)
        (le-ltb (index_of own) index (omega (arith, of_index))))

    noted : noted_before node.grain (index + 1) lines own lower ≡ lower ∷ []
    noted =
        cond-true (nat_lt (index_of own) (index + 1) && is_right_above lines own lower) (lower ∷ []) []
        (and_from (nat_lt (index_of own) (index + 1)) (is_right_above lines own lower)
        (lt-ltb (index_of own) (index + 1) (omega (arith, of_index))) right.right_above)

    here : (other : ℕ) (upper : PrefixValue) → slice_get lines other ≡ Some upper → other ≡ place
        → get_or now other [] ≡ get_or old other [] ++ noted_before node.grain (index + 1) lines upper lower
    here other upper is same =
        let it : own ≡ upper =
        closest_line_some-injective own upper (sym right.is ∙ ap (slice_get lines) (sym same) ∙ is) in
        ap (λ p. get_or now p []) same
        ∙ get_or-set_same new place (get_or new place [] ++ lower ∷ []) [] within
        ∙ ap (λ list. list ++ lower ∷ [])
        (before.each place own right.is ∙ ap (λ more. get_or old place [] ++ more) nothing_yet
        ∙ append-nil (get_or old place []))
        ∙ ap (λ more. get_or old place [] ++ more) (sym noted)
        ∙ ap (λ p. get_or old p [] ++ noted_before node.grain (index + 1) lines own lower) (sym same)
        ∙ ap (λ line. get_or old other [] ++ noted_before node.grain (index + 1) lines line lower) it

    valid : (p : ℕ) (prefix : PrefixValue) → slice_get lines p ≡ Some prefix → IsNode node.grain (node_of_prefix node.grain prefix)
    valid p prefix is =
        let all : IsPrefix node.grain (get_or lines p prefix) =
        coded.prefixes p prefix (slice_get_within lines p prefix is) in
        IsNode-depth prefix (subst (IsPrefix node.grain) (get_or_from_slice_get lines p prefix prefix is) all)

    not_this : (other : ℕ) (upper : PrefixValue) → slice_get lines other ≡ Some upper → other ≢ place
        → index_of upper ≡ index → is_right_above lines upper lower ≡ false
    not_this other upper is apart of_this =
        false_from_ne_true (is_right_above lines upper lower) (λ above.
        let mine = and_parts (strictly_under lower own) (not (list_any (is_between own lower) lines)) right.right_above in
        let its = and_parts (strictly_under lower upper) (not (list_any (is_between upper lower) lines)) above in
        let same_node : node_of_prefix node.grain upper ≡ node_of_prefix node.grain own =
        sym (node_at_own_place (node_of_prefix node.grain upper) (valid other upper is)) ∙ ap (node_at node.grain) (of_this ∙ sym of_index)
        ∙ node_at_own_place (node_of_prefix node.grain own) (valid place own right.is) in
        let same : own ≡ upper =
        upper_line_of_node only lower own upper (node_of_prefix node.grain own)
        (only node.grain lower own (line_strictly_under-under lower own mine.0)) same_node its.0 in
        apart (line_has_one_place lines other place upper placed.apart is (right.is ∙ ap Some same)))

    there : (other : ℕ) (upper : PrefixValue) → slice_get lines other ≡ Some upper → other ≢ place
        → get_or now other [] ≡ get_or old other [] ++ noted_before node.grain (index + 1) lines upper lower
    there other upper is apart =
        get_or-set_other new place other (get_or new place [] ++ lower ∷ []) [] apart
        ∙ before.each other upper is
        ∙ ap (λ more. get_or old other [] ++ more)
        (line_noted_before_next node.grain index lines upper lower (not_this other upper is apart))

-- at first nothing is under any line
pub no_line_is_right_under : (all lines : List PrefixValue)
    → replicate (length lines) [] ≡ map (λ upper. filter (is_right_above all upper) []) lines
no_line_is_right_under all [] = refl
no_line_is_right_under all (line ∷ lines) = ap (λ lists. [] ∷ lists) (no_line_is_right_under all lines)

-- as many lists as lines
pub length-lines_right_under : (lines prefixes : List PrefixValue)
    → length (right_under_each lines prefixes) ≡ length lines
length-lines_right_under lines prefixes = length-map lines (λ upper. filter (is_right_above lines upper) prefixes)

-- one more line, noted with each line that is right above it
pub lines_right_under-more : {grain : Grain} (lines : List PrefixValue) (index : ℕ) (lower : PrefixValue) (new : List (List PrefixValue))
    → All (IsPrefix grain) lines → index < length lines → lower ≡ get_or lines index lower
    → IsNotedBefore grain (node_count grain) lines lower (right_under_each lines (take index lines)) new
    → new ≡ right_under_each lines (take (index + 1) lines)
lines_right_under-more {grain} lines index lower new prefixes within at noted =
    ext_get_or [] new (right_under_each lines (take (index + 1) lines))
    (long ∙ sym (length-lines_right_under lines (take (index + 1) lines)))
    (λ place below. each place (omega (arith, below, long)))
  where
    long : length new ≡ length lines
    long = noted.as_many ∙ length-lines_right_under lines (take index lines)

    all_noted : (upper : PrefixValue) → IsPrefix grain upper
        → noted_before grain (node_count grain) lines upper lower ≡ cond (is_right_above lines upper lower) (lower ∷ []) []
    all_noted upper is =
        let small = node_place_is_small (node_of_prefix grain upper) (IsNode-depth upper is) in
        ap (λ b. cond (b && is_right_above lines upper lower) (lower ∷ []) [])
        (lt-ltb (node_index (node_of_prefix grain upper)) (node_count grain) small)

    each : (place : ℕ) → place < length lines
        → get_or new place [] ≡ get_or (right_under_each lines (take (index + 1) lines)) place []
    each place below =
        let upper = get_or lines place lower in
        let is : IsPrefix grain upper = prefixes place lower below in
        let test = is_right_above lines upper in
        noted.each place upper (slice_get-get_or lines place lower below)
        ∙ ap (λ list. list ++ noted_before grain (node_count grain) lines upper lower)
        (get_or-map (λ line. filter (is_right_above lines line) (take index lines)) lines place lower [] below)
        ∙ ap (λ more. filter test (take index lines) ++ more)
        (all_noted upper is ∙ ap (λ line. cond (test line) (line ∷ []) []) at)
        ∙ sym (filter_more test lines index lower within)
        ∙ sym (get_or-map (λ line. filter (is_right_above lines line) (take (index + 1) lines)) lines place lower [] below)

-- elements that pass two tests
closest_filter-both : (first second : PrefixValue → Bool) (xs : List PrefixValue)
    → filter second (filter first xs) ≡ filter (λ x. first x && second x) xs
closest_filter-both first second [] = refl
closest_filter-both first second (x ∷ xs) = by (first x) (closest_filter-both first second xs)
  where
    by : (b : Bool) → filter second (filter first xs) ≡ filter (λ y. first y && second y) xs
        → filter second (cond b (x ∷ filter first xs) (filter first xs))
        ≡ cond (b && second x) (x ∷ filter (λ y. first y && second y) xs) (filter (λ y. first y && second y) xs)
    by true rest = ap (λ l. cond (second x) (x ∷ l) l) rest
    by false rest = rest

-- the lines that a line is right above are its closest ones
right_under-closest : (lines : List PrefixValue) (upper : PrefixValue)
    → filter (is_right_above lines upper) lines ≡ closest upper lines
right_under-closest lines upper =
    filter_agree (is_right_above lines upper) (λ line. strictly_under line upper && no_other line)
    (λ line. ap (λ b. strictly_under line upper && not b)
    (sym (list_any-filter (λ other. strictly_under line other) (λ other. strictly_under other upper) lines))) lines
    ∙ sym (closest_filter-both (λ line. strictly_under line upper) no_other lines)
  where
    no_other : PrefixValue → Bool
    no_other line = not (list_any (λ other. strictly_under line other) (lines_under upper lines))

-- so after all lines each line has its closest ones
pub lines_right_under-closest : (lines : List PrefixValue) (index : ℕ) → length lines ≤ index
    → right_under_each lines (take index lines) ≡ closest_of_lines lines
lines_right_under-closest lines index all =
    ap (right_under_each lines) (take_all index lines all)
    ∙ map_same (λ upper. filter (is_right_above lines upper) lines) (λ line. closest line lines) lines
    (right_under-closest lines)
  where
    map_same : (f g : PrefixValue → List PrefixValue) (xs : List PrefixValue) → ((x : PrefixValue) → f x ≡ g x)
        → map f xs ≡ map g xs
    map_same f g [] same = refl
    map_same f g (x ∷ xs) same = ap (λ y. y ∷ map f xs) (same x) ∙ ap (λ ys. g x ∷ ys) (map_same f g xs same)

-- a filter keeps no more than there is
closest_filter-le : (test : PrefixValue → Bool) (xs : List PrefixValue) → length (filter test xs) ≤ length xs
closest_filter-le test [] = omega arith
closest_filter-le test (x ∷ xs) = by (test x) (closest_filter-le test xs)
  where
    by : (b : Bool) → length (filter test xs) ≤ length xs
        → length (cond b (x ∷ filter test xs) (filter test xs)) ≤ suc (length xs)
    by true rest = omega (arith, rest)
    by false rest = omega (arith, rest)

-- a line has no more closest lines than there are lines
pub few_closest_lines : (upper : PrefixValue) (lines : List PrefixValue) → length (closest upper lines) ≤ length lines
few_closest_lines upper lines =
    subst (λ list. length list ≤ length lines) (right_under-closest lines upper)
    (closest_filter-le (is_right_above lines upper) lines)

-- a line that is at a place
pub line_at_place : (lines : List Line) (place : ℕ) → place < length lines
    → (line : Line) × (line ≡ get_or lines place line)
line_at_place [] place within = absurd (omega arith)
line_at_place (line ∷ lines) zero within = (line, refl)
line_at_place (line ∷ lines) (suc place) within = line_at_place lines place (omega arith)

-- of the closest lines of each line, those at its place
pub closest_lines_at_place : (lines : List Line) (place : ℕ) (line : Line) (lists : List (List PrefixValue))
    (found default : List PrefixValue) → place < length lines → line ≡ get_or lines place line
    → lists ≡ closest_of_lines (prefixes_of_lines lines) → found ≡ get_or lists place default
    → found ≡ closest line.prefix (prefixes_of_lines lines)
closest_lines_at_place lines place line lists found default within at same is =
    is ∙ ap (λ (all : List (List PrefixValue)). get_or all place default) same
    ∙ get_or-map (λ prefix. closest prefix prefixes) prefixes place line.prefix default (omega (arith, within, long))
    ∙ ap (λ prefix. closest prefix prefixes)
    (get_or-map (λ (l : Line). l.prefix) lines place line line.prefix within ∙ ap (λ (l : Line). l.prefix) (sym at))
  where
    prefixes : List PrefixValue
    prefixes = prefixes_of_lines lines

    long : length prefixes ≡ length lines
    long = length-map lines (λ (l : Line). l.prefix)
