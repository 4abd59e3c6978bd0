-- Lines and the numbers of those that are strictly under each prefix.
use Rattle.std.proofs.Common.{◌≡◌, ◌≢◌, ℕ, ◌+◌, ◌<◌, ◌≤◌, eqb, cond, Bool, true, false, not, List, [], ◌∷◌, ◌++◌}
use Rattle.std.proofs.Common.{length, map}
use Rattle.std.proofs.Common.{filter, get_or, take, All, Contains, Vec, refl, sym, ap, ◌∙◌, subst, arith}
use Rattle.std.proofs.Common.{if◌then◌else◌, append-nil}
use Rattle.std.specs.List.{list_any}
use Rattle.std.specs.BTreeMap.{BTreeMap}
use Rattle.std.specs.declared.alloc.Global.{Global}
use Rattle.std.proofs.lemmas.List.{length_push, get_or_append_left, get_or_push, map-append, length-map, get_or_default}
use Rattle.std.proofs.lemmas.List.{take_more, get_or-map}
use Rattle.std.proofs.lemmas.List.Elements.{All-push, All-weaker, All-head, All-tail, All-get_or, filter-append}
use Rattle.std.proofs.lemmas.List.Elements.{filter_passes}
use Rattle.std.proofs.lemmas.List.Sums.{length-filter, count_by-le-length}
use Rattle.prefix_lattice.specs.{PrefixValue, IsPrefix, strictly_under, lines_under, closest, prefix_code}
use Rattle.prefix_lattice.specs.declared.grain.Grain.{Grain}
use Rattle.conditioned_bounds.specs.Uppers.{AreUpperCodes}
use Rattle.conditioned_bounds.specs.Numbers.{line_numbers_at}
use Rattle.conditioned_bounds.specs.LineIndex.{AreIndexed, indexed_line, root_line}
use Rattle.conditioned_bounds.specs.Members.{member_limit}
use Rattle.conditioned_bounds.proofs.CodeLemmas.{AllPairs-push_code}

-- lines are indexed by whatever keeps the same numbers
pub index-same : (grain : Grain) (lines : List PrefixValue) (kept others : BTreeMap ℕ (Vec ℕ Global))
    → ((code : ℕ) → line_numbers_at others code ≡ line_numbers_at kept code) → AreIndexed grain lines kept
    → AreIndexed grain lines others
index-same grain lines kept others same are = record {
  few = are.few;
  prefixes = are.prefixes;
  distinct = are.distinct;
  numbers = λ code. subst (All (λ number. number < length lines)) (sym (same code)) (are.numbers code);
  under = λ prefix is. ap (map (indexed_line lines)) (same (prefix_code grain prefix)) ∙ are.under prefix is;
}

-- the lines of numbers stay when a line is appended
index_lines-stay : (lines : List PrefixValue) (line : PrefixValue) (numbers : List ℕ)
    → All (λ number. number < length lines) numbers
    → map (indexed_line (lines ++ line ∷ [])) numbers ≡ map (indexed_line lines) numbers
index_lines-stay lines line [] few = refl
index_lines-stay lines line (number ∷ numbers) few =
    ap (λ l. l ∷ map (indexed_line (lines ++ line ∷ [])) numbers)
    (get_or_append_left lines (line ∷ []) root_line number (All-head (λ n. n < length lines) number numbers few))
    ∙ ap (λ ls. indexed_line lines number ∷ ls)
    (index_lines-stay lines line numbers (All-tail (λ n. n < length lines) number numbers few))

-- one more line, whose number is noted under the codes of all prefixes above it
pub index-push : (grain : Grain) (lines : List PrefixValue) (line : PrefixValue) (kept noted : BTreeMap ℕ
    (Vec ℕ Global))
    (codes : List ℕ) (number : ℕ) → AreIndexed grain lines kept → IsPrefix grain line → ¬ Contains lines line
    → AreUpperCodes grain line codes
    → number ≡ length lines → length lines + 1 < member_limit
    → ((code : ℕ) → line_numbers_at noted code
    ≡ (if list_any (λ other. eqb other code) codes
    then line_numbers_at kept code ++ number ∷ [] else line_numbers_at kept code))
    → AreIndexed grain (lines ++ line ∷ []) noted
index-push grain lines line kept noted codes number are line_is new above is_number less notes = record {
  few = omega (arith, less, length_push lines line);
  prefixes = All-push (IsPrefix grain) lines line are.prefixes line_is;
  distinct =
      AllPairs-push_code (λ one other. one ≢ other) lines line are.distinct
      (λ k d within same. new (k, within, same-at k d within ∙ same));
  numbers = λ code.
      subst (All (λ n. n < length (lines ++ line ∷ []))) (sym (notes code))
      (few code (list_any (λ other. eqb other code) codes));
  under = λ prefix is.
      ap (map (indexed_line (lines ++ line ∷ []))) (notes (prefix_code grain prefix))
      ∙ ap (λ b. map (indexed_line (lines ++ line ∷ []))
      (if b then line_numbers_at kept (prefix_code grain prefix) ++ number ∷ [] else line_numbers_at kept
      (prefix_code grain prefix)))
      (above.members prefix is)
      ∙ by prefix is (strictly_under line prefix) refl
      ∙ sym (filter-append (λ l. strictly_under l prefix) lines (line ∷ []));
}
  where
    same-at : (k : ℕ) (d : PrefixValue) → k < length lines → get_or lines k line ≡ get_or lines k d
    same-at k d within = get_or_default lines k line d within

    few : (code : ℕ) (b : Bool) → All (λ n. n < length (lines ++ line ∷ []))
        (if b then line_numbers_at kept code ++ number ∷ [] else line_numbers_at kept code)
    few code true =
        All-push (λ n. n < length (lines ++ line ∷ [])) (line_numbers_at kept code) number
        (All-weaker (λ n. n < length lines) (λ n. n < length (lines ++ line ∷ []))
        (λ n less. omega (arith, less, length_push lines line)) (line_numbers_at kept code) (are.numbers code))
        (omega (arith, is_number, length_push lines line))
    few code false =
        All-weaker (λ n. n < length lines) (λ n. n < length (lines ++ line ∷ []))
        (λ n less. omega (arith, less, length_push lines line)) (line_numbers_at kept code) (are.numbers code)

    stays : (prefix : PrefixValue) → IsPrefix grain prefix
        → map (indexed_line (lines ++ line ∷ [])) (line_numbers_at kept (prefix_code grain prefix))
        ≡ lines_under prefix lines
    stays prefix is =
        index_lines-stay lines line (line_numbers_at kept (prefix_code grain prefix)) (are.numbers
        (prefix_code grain prefix)) ∙ are.under prefix is

    by : (prefix : PrefixValue) → IsPrefix grain prefix → (b : Bool) → strictly_under line prefix ≡ b
        → map (indexed_line (lines ++ line ∷ []))
        (if b then line_numbers_at kept (prefix_code grain prefix) ++ number ∷ [] else line_numbers_at kept
        (prefix_code grain prefix))
        ≡ lines_under prefix lines ++ cond (strictly_under line prefix) (line ∷ []) []
    by prefix is true strictly =
        map-append (indexed_line (lines ++ line ∷ [])) (line_numbers_at kept (prefix_code grain prefix)) (number ∷ [])
        ∙ ap (λ ls. ls ++ indexed_line (lines ++ line ∷ []) number ∷ []) (stays prefix is)
        ∙ ap (λ l. lines_under prefix lines ++ l ∷ [])
        (get_or_push lines line root_line number (sym is_number))
        ∙ ap (λ b. lines_under prefix lines ++ cond b (line ∷ []) []) (sym strictly)
    by prefix is false strictly =
        stays prefix is ∙ sym (append-nil (lines_under prefix lines))
        ∙ ap (λ b. lines_under prefix lines ++ cond b (line ∷ []) []) (sym strictly)

-- the line of a number under a prefix's code is strictly under the prefix
pub index_line-strictly_under : (lines : List PrefixValue) (numbers : List ℕ) (prefix : PrefixValue) (at : ℕ)
    → map (indexed_line lines) numbers ≡ lines_under prefix lines → at < length numbers
    → strictly_under (indexed_line lines (get_or numbers at 0)) prefix ≡ true
index_line-strictly_under lines numbers prefix at same within =
    let inside : at < length (lines_under prefix lines) =
    subst (λ (ls : List PrefixValue). at < length ls) same (omega (arith, within, length-map numbers (indexed_line lines))) in
    let passes : strictly_under (get_or (lines_under prefix lines) at root_line) prefix ≡ true =
    All-get_or (λ line. strictly_under line prefix ≡ true) (lines_under prefix lines) at root_line inside
    (filter_passes (λ line. strictly_under line prefix) lines) in
    let here : get_or (map (indexed_line lines) numbers) at root_line ≡ indexed_line lines (get_or numbers at 0) =
    get_or-map (indexed_line lines) numbers at 0 root_line within in
    subst (λ line. strictly_under line prefix ≡ true)
    (ap (λ (ls : List PrefixValue). get_or ls at root_line) (sym same) ∙ here) passes

-- one more number, whose line passes a test or fails it
pub index_line-filter : (test : PrefixValue → Bool) (lines : List PrefixValue) (numbers : List ℕ) (at : ℕ)
    (line : PrefixValue) (passes : Bool) → at < length numbers → line ≡ indexed_line lines (get_or numbers at 0)
    → test line ≡ passes
    → filter test (map (indexed_line lines) (take (at + 1) numbers))
    ≡ filter test (map (indexed_line lines) (take at numbers)) ++ cond passes (line ∷ []) []
index_line-filter test lines numbers at line passes within is tested =
    ap (λ ns. filter test (map (indexed_line lines) ns)) (take_more numbers at 0 within)
    ∙ ap (filter test) (map-append (indexed_line lines) (take at numbers) (get_or numbers at 0 ∷ []))
    ∙ filter-append test (map (indexed_line lines) (take at numbers)) (indexed_line lines (get_or numbers at 0) ∷ [])
    ∙ ap (λ l. filter test (map (indexed_line lines) (take at numbers)) ++ cond (test l) (l ∷ []) []) (sym is)
    ∙ ap (λ b. filter test (map (indexed_line lines) (take at numbers)) ++ cond b (line ∷ []) []) tested

-- the closest lines are at most as many as the lines
pub index_closest_are_few : (prefix : PrefixValue) (lines : List PrefixValue) → length (closest prefix lines) ≤ length lines
index_closest_are_few prefix lines =
    let tops = filter-few (λ member. not (list_any (λ other. strictly_under member other) (lines_under prefix lines)))
    (lines_under prefix lines) in
    omega (arith, tops, filter-few (λ line. strictly_under line prefix) lines)
  where
    filter-few : (test : PrefixValue → Bool) (xs : List PrefixValue) → length (filter test xs) ≤ length xs
    filter-few test xs = omega (arith, length-filter test xs, count_by-le-length test xs)
