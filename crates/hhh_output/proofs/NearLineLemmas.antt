-- Only lines of a greater level are near a prefix.
use Rattle.std.proofs.Common.{◌≡◌, ℕ, ◌<◌, ◌≤◌, ltb, cond, Bool, true, false, List, [], ◌∷◌, ◌++◌, filter, sum_by}
use Rattle.std.proofs.Common.{All, pos, ◌-ℤ◌, ◌≤ℤ◌, ◌+◌, refl, sym, ap, ◌∙◌, subst, arith}
use Rattle.std.proofs.lemmas.Bool.{lt-ltb, false≢true}
use Rattle.std.proofs.lemmas.List.{append-nil}
use Rattle.std.proofs.lemmas.List.Elements.{filter-append, All-head, All-tail}
use Rattle.prefix_lattice.specs.{PrefixValue, prefix_level, strictly_under, lines_under, greatest_lines, closest}
use Rattle.prefix_lattice.specs.{kept_pairs}
use Rattle.shard_state.specs.{CutValue}
use Rattle.hhh_report.specs.declared.line.Line.{Line}
use Rattle.hhh_report.specs.{prefixes_of_lines}
use Rattle.hhh_output.specs.Reporting.{low_in, high_in, IsLineOf}

-- the law that levels fall going up
pub record NearLineLevelsFall : Type 0 where
  pub falls : (lower upper : PrefixValue) → strictly_under lower upper ≡ true → prefix_level upper < prefix_level lower

-- a prefix of no greater level isn't strictly under another
near_line_needs_greater_level : (lower upper : PrefixValue) → NearLineLevelsFall
    → prefix_level lower ≤ prefix_level upper
    → strictly_under lower upper ≡ false
near_line_needs_greater_level lower upper law low = by (strictly_under lower upper) refl
  where
    by : (b : Bool) → strictly_under lower upper ≡ b → strictly_under lower upper ≡ false
    by true is = let falls : prefix_level upper < prefix_level lower = law.falls lower upper is in absurd (omega arith)
    by false is = is

near_lines_are_none : (prefix : PrefixValue) (lines : List PrefixValue) → NearLineLevelsFall
    → All (λ line. prefix_level line ≤ prefix_level prefix) lines → lines_under prefix lines ≡ []
near_lines_are_none prefix [] law low = refl
near_lines_are_none prefix (line ∷ lines) law low =
    ap (λ b. cond b (line ∷ lines_under prefix lines) (lines_under prefix lines))
    (near_line_needs_greater_level line prefix law (All-head
    (λ l. prefix_level l ≤ prefix_level prefix) line lines low))
    ∙ near_lines_are_none prefix lines law (All-tail (λ l. prefix_level l ≤ prefix_level prefix) line lines low)

-- lines of no greater level than a prefix don't change which lines are closest to it
pub near_lines-append : (prefix : PrefixValue) (lines more : List PrefixValue) → NearLineLevelsFall
    → All (λ line. prefix_level line ≤ prefix_level prefix) more
    → closest prefix (lines ++ more) ≡ closest prefix lines
near_lines-append prefix lines more law low =
    ap greatest_lines (filter-append (λ line. strictly_under line prefix) lines more
    ∙ ap (λ rest. lines_under prefix lines ++ rest) (near_lines_are_none prefix more law low)
    ∙ append-nil (lines_under prefix lines))

-- the lines of a greater level than this
abbrev pub near_lines_above : ℕ → List Line → List Line
near_lines_above least lines = filter (λ line. ltb least (prefix_level line.prefix)) lines

-- only they can be under a prefix of that level
near_lines_above-under : (prefix : PrefixValue) (lines : List Line) → NearLineLevelsFall
    → lines_under prefix (prefixes_of_lines (near_lines_above (prefix_level prefix) lines))
    ≡ lines_under prefix (prefixes_of_lines lines)
near_lines_above-under prefix [] law = refl
near_lines_above-under prefix (line ∷ lines) law =
    by (strictly_under line.prefix prefix) refl (ltb (prefix_level prefix) (prefix_level line.prefix)) refl
    (near_lines_above-under prefix lines law)
  where
    by : (b : Bool) → strictly_under line.prefix prefix ≡ b → (c : Bool)
        → ltb (prefix_level prefix) (prefix_level line.prefix) ≡ c
        → lines_under prefix (prefixes_of_lines (near_lines_above (prefix_level prefix) lines))
        ≡ lines_under prefix (prefixes_of_lines lines)
        → lines_under prefix
        (prefixes_of_lines (cond c (line ∷ near_lines_above (prefix_level prefix) lines) (near_lines_above
        (prefix_level prefix) lines)))
        ≡ cond b (line.prefix ∷ lines_under prefix (prefixes_of_lines lines)) (lines_under prefix (prefixes_of_lines lines))
    by true is true above rest =
        ap (λ b.
        cond b (line.prefix ∷ lines_under prefix (prefixes_of_lines (near_lines_above (prefix_level prefix) lines)))
        (lines_under prefix (prefixes_of_lines (near_lines_above (prefix_level prefix) lines)))) is
        ∙ ap (λ l. line.prefix ∷ l) rest
    by true is false above rest =
        absurd
        (false≢true (sym above ∙ lt-ltb (prefix_level prefix) (prefix_level line.prefix)
        (law.falls line.prefix prefix is)))
    by false is true above rest =
        ap (λ b.
        cond b (line.prefix ∷ lines_under prefix (prefixes_of_lines (near_lines_above (prefix_level prefix) lines)))
        (lines_under prefix (prefixes_of_lines (near_lines_above (prefix_level prefix) lines)))) is
        ∙ rest
    by false is false above rest = rest

pub near_lines_above_suffice : (prefix : PrefixValue) (lines : List Line) → NearLineLevelsFall
    → closest prefix (prefixes_of_lines (near_lines_above (prefix_level prefix) lines))
    ≡ closest prefix (prefixes_of_lines lines)
near_lines_above_suffice prefix lines law = ap greatest_lines (near_lines_above-under prefix lines law)

-- whether a prefix has a line depends only on its closest lines
pub near_lines_decide_line : (cut : CutValue) (threshold : ℕ) (lines other : List PrefixValue) (line : Line)
    → closest line.prefix lines ≡ closest line.prefix other
    → IsLineOf cut threshold lines line → IsLineOf cut threshold other line
near_lines_decide_line cut threshold lines other line same is = record {
  is_prefix = is.is_prefix;
  low = is.low;
  high = is.high;
  monitored = is.monitored;
  heavy = is.heavy;
  unexplained =
      subst (λ near.
      pos threshold
      ≤ℤ (pos (high_in cut line.prefix + sum_by (high_in cut) (kept_pairs near))
      -ℤ pos (sum_by (low_in cut) near))) same is.unexplained;
}
