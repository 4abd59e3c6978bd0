-- Lines that are appended to the reported ones, one after another.
use Rattle.std.proofs.Common.{◌≡◌, ◌≢◌, ℕ, ◌+◌, ◌-◌, ◌*◌, ◌<◌, ◌≤◌, zero, suc, List, ◌++◌, length, get_or, take}
use Rattle.std.proofs.Common.{AllPairs}
use Rattle.std.proofs.Common.{Contains, refl, sym, ap, ◌∙◌, subst, ⊎_elim, arith}
use Rattle.std.proofs.lemmas.List.{get_or_append_left, get_or-append-add, get_or-map, get_or-take}
use Rattle.std.proofs.lemmas.List.{length-map, length-take, length-append}
use Rattle.std.proofs.lemmas.List.Elements.{Contains-append_cases}
use Rattle.std.proofs.Math.Nat.{mul-le-mul_right}
use Rattle.prefix_lattice.specs.{PrefixValue, deepest_level, node_count}
use Rattle.prefix_lattice.specs.declared.grain.Grain.{Grain}
use Rattle.prefix_lattice.specs.declared.grain.Grain.TheVariants.{Byte, Nibble}
use Rattle.conditioned_bounds.specs.{member_limit}
use Rattle.hhh_report.specs.declared.line.Line.{Line}
use Rattle.hhh_report.specs.{prefixes_of_lines}
use Rattle.hhh_output.specs.Selecting.{nodes_before, nodes_down, most_candidates}

-- no prefix before an index is the one at the index
pub appended_line_has_new_prefix : (old : List PrefixValue) (found : List Line) (at : ℕ) (line : Line)
    → AllPairs (λ prefix other. prefix ≢ other) (old ++ prefixes_of_lines found) → at < length found
    → line ≡ get_or found at line → ¬ Contains (old ++ prefixes_of_lines (take at found)) line.prefix
appended_line_has_new_prefix old found at line distinct within is there =
    let total = old ++ prefixes_of_lines found in
    let count : length total ≡ length old + length found =
    length-append old (prefixes_of_lines found) ∙ ap (λ n. length old + n) (length-map found (λ (l : Line). l.prefix)) in
    let here : get_or total (length old + at) line.prefix ≡ line.prefix =
    get_or-append-add old (prefixes_of_lines found) at line.prefix
    ∙ get_or-map (λ (l : Line). l.prefix) found at line line.prefix within
    ∙ ap (λ (l : Line). l.prefix) (sym is) in
    ⊎_elim
    (λ (earlier : Contains old line.prefix).
    distinct earlier.0 (length old + at) line.prefix (omega (arith, earlier.1)) (omega (arith, within, count))
    (get_or_append_left old (prefixes_of_lines found) line.prefix earlier.0 earlier.1 ∙ earlier.2 ∙ sym here))
    (λ (later : Contains (prefixes_of_lines (take at found)) line.prefix).
    let few : later.0 < length (take at found) =
    omega (arith, later.1, length-map (take at found) (λ (l : Line). l.prefix)) in
    let before : later.0 < at = omega (arith, few, length-take at found) in
    let same : get_or total (length old + later.0) line.prefix ≡ line.prefix =
    get_or-append-add old (prefixes_of_lines found) later.0 line.prefix
    ∙ get_or-map (λ (l : Line). l.prefix) found later.0 line line.prefix (omega (arith, before, within))
    ∙ ap (λ (l : Line). l.prefix) (sym (get_or-take at found later.0 line before))
    ∙ sym (get_or-map (λ (l : Line). l.prefix) (take at found) later.0 line line.prefix few) ∙ later.2 in
    distinct (length old + later.0) (length old + at) line.prefix (omega (arith, before))
    (omega (arith, within, count)) (same ∙ sym here))
    (Contains-append_cases old (prefixes_of_lines (take at found)) line.prefix there)

-- more levels have no fewer nodes
appended_line_levels-grow : (grain : Grain) (more levels : ℕ)
    → nodes_down grain levels ≤ nodes_down grain (more + levels)
appended_line_levels-grow grain zero levels =
    let none : 0 + levels ≡ levels = omega arith in
    subst (λ n. nodes_down grain levels ≤ nodes_down grain n) (sym none) (omega arith)
appended_line_levels-grow grain (suc more) levels =
    let one : suc more + levels ≡ suc (more + levels) = omega arith in
    subst (λ n. nodes_down grain levels ≤ nodes_down grain n) (sym one)
    (still (nodes_down grain levels) (nodes_down grain (more + levels))
    (nodes_before grain (deepest_level - (more + levels)) (node_count grain))
    (appended_line_levels-grow grain more levels))
  where
    still : (n most others : ℕ) → n ≤ most → n ≤ most + others
    still n most others few = omega (arith, few)

-- all levels have all nodes
appended_line_levels-all : (grain : Grain) → nodes_down grain (deepest_level + 1) ≡ node_count grain
appended_line_levels-all Byte = refl
appended_line_levels-all Nibble = refl

-- the candidates of all nodes are so few that each can have a line
pub appended_line_candidates_are_few : (grain : Grain) → node_count grain * most_candidates grain < member_limit
appended_line_candidates_are_few Byte = omega arith
appended_line_candidates_are_few Nibble = omega arith

-- so there is room for the lines of each level
pub appended_lines-few : (grain : Grain) (levels lines : ℕ) → levels ≤ deepest_level + 1
    → lines ≤ nodes_down grain levels * most_candidates grain → lines < member_limit
appended_lines-few grain levels lines within few =
    let others = deepest_level + 1 - levels in
    let both : others + levels ≡ deepest_level + 1 = omega arith in
    let fewer : nodes_down grain levels ≤ node_count grain =
    subst (λ n. nodes_down grain levels ≤ n) (ap (nodes_down grain) both ∙ appended_line_levels-all grain)
    (appended_line_levels-grow grain others levels) in
    omega (arith, few, mul-le-mul_right (most_candidates grain) fewer, appended_line_candidates_are_few grain)
