-- Cells that are linked both ways, and what joining two of them does.
use Rattle.std.proofs.Common.{◌≡◌, ◌≢◌, ◌<◌, ℕ, List, [], ◌∷◌, ◌++◌, length, get_or, set, refl, sym, ap, subst}
use Rattle.std.proofs.Common.{◌∙◌, arith}
use Rattle.std.specs.List.{All}
use Rattle.std.proofs.lemmas.List.{get_or-set_other, length-set}
use Rattle.std.proofs.lemmas.Grind.{get_or-set_at}
use Rattle.std.proofs.lemmas.List.Elements.{All-head, All-tail}
use Rattle.stream_summary.specs.Links.{AreLinked, walked}
use Rattle.stream_summary.specs.Ring.{AreDistinct}
use Rattle.stream_summary.proofs.NumberLemmas.{number_all_of_front, number_all_of_back}

pub link_linked_front : (nexts befores : List ℕ) (from : ℕ) (front : List ℕ) (cell : ℕ) (back : List ℕ) (to : ℕ)
    → AreLinked nexts befores from (front ++ cell ∷ back) to → AreLinked nexts befores from front cell
link_linked_front nexts befores from [] cell back to linked = (linked.0, linked.1)
link_linked_front nexts befores from (first ∷ front) cell back to linked =
    (linked.0, linked.1, link_linked_front nexts befores first front cell back to linked.2)

pub link_linked_back : (nexts befores : List ℕ) (from : ℕ) (front : List ℕ) (cell : ℕ) (back : List ℕ) (to : ℕ)
    → AreLinked nexts befores from (front ++ cell ∷ back) to → AreLinked nexts befores cell back to
link_linked_back nexts befores from [] cell back to linked = linked.2
link_linked_back nexts befores from (first ∷ front) cell back to linked = link_linked_back nexts befores first front cell back
    to linked.2

pub link_linked_through : (nexts befores : List ℕ) (from : ℕ) (front : List ℕ) (cell : ℕ) (back : List ℕ) (to : ℕ)
    → AreLinked nexts befores from front cell → AreLinked nexts befores cell back to
    → AreLinked nexts befores from (front ++ cell ∷ back) to
link_linked_through nexts befores from [] cell back to before after = (before.0, before.1, after)
link_linked_through nexts befores from (first ∷ front) cell back to before after =
    (before.0, before.1, link_linked_through nexts befores first front cell back to before.2 after)

pub walked_links : (nexts befores : List ℕ) (from : ℕ) (cells : List ℕ) (to : ℕ) → AreLinked nexts befores from cells to
    → walked (length cells) nexts from ≡ cells
walked_links nexts befores from [] to linked = refl
walked_links nexts befores from (cell ∷ rest) to linked =
    let there = walked_links nexts befores cell rest to linked.2 in
    let P : ℕ → Type 0 = λ next. (next ∷ walked (length rest) nexts next) ≡ cell ∷ rest in
    subst P (sym linked.0) (ap (λ cells. cell ∷ cells) there)

-- what holds of the cells and the last one holds of the cell that follows the first one
pub link_next_is_one : (P : ℕ → Type 0) (nexts befores : List ℕ) (from : ℕ) (cells : List ℕ) (to : ℕ)
    → AreLinked nexts befores from cells to
    → All P cells → P to → P (get_or nexts from 0)
link_next_is_one P nexts befores from [] to linked all last = subst P (sym linked.0) last
link_next_is_one P nexts befores from (cell ∷ rest) to linked all last = subst P (sym linked.0) (All-head P cell rest all)

pub link_before_is_one : (P : ℕ → Type 0) (nexts befores : List ℕ) (from : ℕ) (cells : List ℕ) (to : ℕ)
    → AreLinked nexts befores from cells to
    → P from → All P cells → P (get_or befores to 0)
link_before_is_one P nexts befores from [] to linked first all = subst P (sym linked.1) first
link_before_is_one P nexts befores from (cell ∷ rest) to linked first all =
    link_before_is_one P nexts befores cell rest to linked.2 (All-head P cell rest all) (All-tail P cell rest all)

-- two cells are joined, of which neither is among these
pub link_linked_elsewhere : (nexts befores : List ℕ) (one other from : ℕ) (cells : List ℕ) (to : ℕ)
    → AreLinked nexts befores from cells to
    → from ≢ one → All (λ cell. cell ≢ one) cells → All (λ cell. cell ≢ other) cells → to ≢ other
    → AreLinked (set nexts one other) (set befores other one) from cells to
link_linked_elsewhere nexts befores one other from [] to linked first ones others last =
    (get_or-set_other nexts one from other 0 first ∙ linked.0, get_or-set_other befores other to one 0 last ∙ linked.1)
link_linked_elsewhere nexts befores one other from (cell ∷ rest) to linked first ones others last = (
  get_or-set_other nexts one from other 0 first ∙ linked.0,
  get_or-set_other befores other cell one 0 (All-head (λ cell. cell ≢ other) cell rest others) ∙ linked.1,
  link_linked_elsewhere nexts befores one other cell rest to linked.2 (All-head (λ cell. cell ≢ one) cell rest ones)
      (All-tail (λ cell. cell ≢ one) cell rest ones) (All-tail (λ cell. cell ≢ other) cell rest others) last,
)

-- the cell before one is joined with the cell after it
pub link_linked_without : (nexts befores : List ℕ) (from : ℕ) (front : List ℕ) (cell : ℕ) (back : List ℕ) (to one other : ℕ)
    → AreLinked nexts befores from front cell → AreLinked nexts befores cell back to
    → get_or befores cell 0 ≡ one → get_or nexts cell 0 ≡ other → one < length nexts → other < length befores
    → AreDistinct (from ∷ (front ++ back)) → All (λ cell. cell ≢ to) (front ++ back)
    → AreLinked (set nexts one other) (set befores other one) from (front ++ back) to
link_linked_without nexts befores from [] cell [] to one other before after is_one is_other fits_one fits_other distinct
    inner =
    let here : from ≡ one = sym before.1 ∙ is_one in
    let there : to ≡ other = sym after.0 ∙ is_other in (
      get_or-set_at nexts one from other 0 here fits_one
          ∙ sym there,
      get_or-set_at befores other to one 0 there fits_other ∙ sym here,
    )
link_linked_without nexts befores from [] cell (next ∷ back) to one other before after is_one is_other fits_one fits_other
    distinct inner =
    let here : from ≡ one = sym before.1 ∙ is_one in
    let there : next ≡ other = sym after.0 ∙ is_other in
    let apart : All (λ cell. cell ≢ one) (next ∷ back) = subst (λ one. All (λ cell. cell ≢ one) (next ∷ back)) here
    distinct.0 in
    let others : All (λ cell. cell ≢ other) back = subst (λ other. All (λ cell. cell ≢ other) back) there
    distinct.1.0 in
    let last : to ≢ other = λ same. All-head (λ cell. cell ≢ to) next back inner (there ∙ sym same) in (
      get_or-set_at nexts one from other 0 here fits_one ∙ sym there,
      get_or-set_at befores other next one 0 there fits_other ∙ sym here,
      link_linked_elsewhere nexts befores one other next back to after.2 (All-head (λ cell. cell ≢ one) next back apart)
          (All-tail (λ cell. cell ≢ one) next back apart) others last,
    )
link_linked_without nexts befores from (first ∷ front) cell back to one other before after is_one is_other fits_one
    fits_other distinct inner =
    let P : ℕ → Type 0 = λ cell. cell ≢ from in
    let Q : ℕ → Type 0 = λ cell. cell ≢ first in
    let far : one ≢ from = subst P is_one (link_before_is_one P nexts befores first front cell before.2
    (All-head P first (front ++ back) distinct.0)
    (number_all_of_front P front back (All-tail P first (front ++ back) distinct.0))) in
    let end : to ≢ first = λ same. All-head (λ cell. cell ≢ to) first (front ++ back) inner (sym same) in
    let apart : other ≢ first = subst Q is_other (link_next_is_one Q nexts befores cell back to after
    (number_all_of_back Q front back distinct.1.0) end) in (
      get_or-set_other nexts one from other 0 (λ same. far (sym same)) ∙ before.0,
      get_or-set_other befores other first one 0 (λ same. apart (sym same)) ∙ before.1,
      link_linked_without nexts befores first front cell back to one other before.2 after is_one is_other fits_one
          fits_other distinct.1
          (All-tail (λ cell. cell ≢ to) first (front ++ back) inner),
    )

-- a cell is joined with another, and this with the one that followed it
pub link_linked_from_new : (nexts befores : List ℕ) (cell here : ℕ) (back : List ℕ) (to next : ℕ)
    → AreLinked nexts befores cell back to → get_or nexts cell 0 ≡ next
    → cell < length nexts → here < length nexts → here < length befores → next < length befores
    → cell ≢ here → to ≢ here → All (λ other. other ≢ here) back
    → All (λ other. other ≢ cell) back → All (λ other. other ≢ to) back → AreDistinct back
    → AreLinked (set (set nexts cell here) here next) (set (set befores here cell) next here) cell (here ∷ back) to
link_linked_from_new nexts befores cell here [] to next linked is_next fits_cell fits_here fits_back fits_next apart end
    lacks lacks_cell inner distinct =
    let there : to ≡ next = sym linked.0 ∙ is_next in
    let far : here ≢ next = λ same. end (there ∙ sym same) in
    let long : here < length (set nexts cell here) = omega (arith, length-set nexts cell here) in
    let also : next < length (set befores here cell) = omega (arith, length-set befores here cell) in (
      get_or-set_other (set nexts cell here) here cell next 0 apart
          ∙ get_or-set_at nexts cell cell here 0 refl fits_cell,
      get_or-set_other (set befores here cell) next here here 0 far
          ∙ get_or-set_at befores here here cell 0 refl fits_back,
      (
        get_or-set_at (set nexts cell here) here here next 0 refl long ∙ sym there,
        get_or-set_at (set befores here cell) next to here 0 there also,
      ),
    )
link_linked_from_new nexts befores cell here (first ∷ back) to next linked is_next fits_cell fits_here fits_back fits_next
    apart end lacks lacks_cell inner distinct =
    let there : first ≡ next = sym linked.0 ∙ is_next in
    let new : first ≢ here = All-head (λ other. other ≢ here) first back lacks in
    let far : here ≢ next = λ same. new (there ∙ sym same) in
    let long : here < length (set nexts cell here) = omega (arith, length-set nexts cell here) in
    let also : next < length (set befores here cell) = omega (arith, length-set befores here cell) in
    let behind : All (λ other. other ≢ here) back = All-tail (λ other. other ≢ here) first back lacks in
    let others : All (λ other. other ≢ next) back = subst (λ next. All (λ other. other ≢ next) back) there distinct.0 in
    let last : to ≢ next = λ same. All-head (λ other. other ≢ to) first back inner (there ∙ sym same) in
    let once : AreLinked (set nexts cell here) (set befores here cell) first back to = link_linked_elsewhere nexts befores
    cell here first back to linked.2
    (All-head (λ other. other ≢ cell) first back lacks_cell) (All-tail (λ other. other ≢ cell) first back lacks_cell)
    behind end in (
      get_or-set_other (set nexts cell here) here cell next 0 apart
          ∙ get_or-set_at nexts cell cell here 0 refl fits_cell,
      get_or-set_other (set befores here cell) next here here 0 far
          ∙ get_or-set_at befores here here cell 0 refl fits_back,
      (
        get_or-set_at (set nexts cell here) here here next 0 refl long ∙ sym there,
        get_or-set_at (set befores here cell) next first here 0 there also,
        link_linked_elsewhere (set nexts cell here) (set befores here cell) here next first back to once new behind others
            last,
      ),
    )
