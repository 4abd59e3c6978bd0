use Rattle.std.proofs.Common.{◌≡◌, ◌<◌, Bool, true, false, not, List, [], ◌∷◌, ◌++◌, length, get_or, map, take, filter}
use Rattle.std.proofs.Common.{All, sym, ap, ◌∙◌, subst, append-nil}
use Rattle.std.specs.List.{list_any}
use Rattle.std.proofs.lemmas.List.{get_or_default}
use Rattle.std.proofs.lemmas.List.Elements.{All-get_or}
use Rattle.prefix_lattice.specs.{PrefixValue, IsPrefix, strictly_under, lines_under, prefix_code}
use Rattle.conditioned_bounds.specs.Numbers.{line_numbers_at}
use Rattle.conditioned_bounds.specs.LineIndex.{LineIndexValue, indexed_line, root_line}
use Rattle.conditioned_bounds.proofs.IndexLemmas.{index_line-strictly_under, index_line-filter}
use Rattle.conditioned_bounds.proofs.line_index.LineIndex.closest.Goals as goal
use Rattle.conditioned_bounds.proofs.line_index.LineIndex.closest.Goals.{then-not-is_under_another+in_ok-push}
use Rattle.conditioned_bounds.proofs.line_index.LineIndex.closest.Goals.{else-not-is_under_another}

pub is_under_another-requires : goal.is_under_another-requires
is_under_another-requires c =
    let lines = c.self.inside.lines in
    let grain = c.self.inside.grain in
    let prefix = c.args.prefix.now in
    let numbers = c.numbers_at-number-items.result.now in
    let at = c.loop-number.number-index in
    let kept : numbers ≡ line_numbers_at c.self.inside.under (prefix_code grain prefix) =
    c.numbers_at-number-items.ensures ∙ ap (line_numbers_at c.self.inside.under) c.code_of.ensures in
    let is : IsPrefix grain prefix =
    subst (λ (index : LineIndexValue). IsPrefix index.grain prefix) (sym c.self.view_is) c.requires in
    let same : map (indexed_line lines) numbers ≡ lines_under prefix lines =
    ap (map (indexed_line lines)) kept ∙ c.self.invariant.under prefix is in
    let number = get_or numbers at 0 in
    let few : number < length lines =
    All-get_or (λ n. n < length lines) numbers at 0 c.loop-number-test.true
    (subst (All (λ n. n < length lines)) (sym kept) (c.self.invariant.numbers (prefix_code grain prefix))) in
    let line : c.index-lines-number.result ≡ indexed_line lines number =
    c.index-lines-number.is
    ∙ ap (λ (ls : List PrefixValue). get_or ls number c.index-lines-number.result) c.as_slice-lines.ensures.value
    ∙ get_or_default lines number c.index-lines-number.result root_line few in
    subst (λ l. strictly_under l prefix ≡ true) (sym line)
    (index_line-strictly_under lines numbers prefix at same c.loop-number-test.true)

pub loop-number-preserved : goal.loop-number-preserved
loop-number-preserved c =
    let lines = c.self.inside.lines in
    let grain = c.self.inside.grain in
    let prefix = c.args.prefix.now in
    let numbers = c.numbers_at-number-items.result.now in
    let at = c.loop-number.number-index in
    let number = get_or numbers at 0 in
    let kept : numbers ≡ line_numbers_at c.self.inside.under (prefix_code grain prefix) =
    c.numbers_at-number-items.ensures ∙ ap (line_numbers_at c.self.inside.under) c.code_of.ensures in
    let few : number < length lines =
    All-get_or (λ n. n < length lines) numbers at 0 c.loop-number-test.true
    (subst (All (λ n. n < length lines)) (sym kept) (c.self.invariant.numbers (prefix_code grain prefix))) in
    let line : c.index-lines-number.result ≡ indexed_line lines number =
    c.index-lines-number.is
    ∙ ap (λ (ls : List PrefixValue). get_or ls number c.index-lines-number.result) c.as_slice-lines.ensures.value
    ∙ get_or_default lines number c.index-lines-number.result root_line few in
    let Test : PrefixValue → Bool =
    λ member. not (list_any (λ other. strictly_under member other) (lines_under prefix lines)) in
    let answer : list_any (λ other. strictly_under c.index-lines-number.result other) (lines_under prefix lines)
    ≡ c.is_under_another.result = sym c.is_under_another.ensures in
    elim c.if-not-is_under_another.branch [
      | then-not-is_under_another+in_ok-push w ↦
          w.tops-is ∙ w.in_ok-push.ensures.ok
          ∙ ap (λ (tops : List PrefixValue). tops ++ c.index-lines-number.result ∷ []) c.loop-number.invariant
          ∙ sym (index_line-filter Test lines numbers at c.index-lines-number.result true c.loop-number-test.true line
          (ap not (answer ∙ w.if-not-is_under_another.true)))
      | else-not-is_under_another w ↦
          w.tops-is ∙ c.loop-number.invariant
          ∙ sym (append-nil (filter Test (map (indexed_line lines) (take at numbers))))
          ∙ sym (index_line-filter Test lines numbers at c.index-lines-number.result false c.loop-number-test.true line
          (ap not (answer ∙ w.if-not-is_under_another.false)))
    ]
