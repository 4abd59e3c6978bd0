-- Lines that cover a record, by how many steps of a grain they keep.
use Rattle.std.proofs.Common.{◌≡◌, ℕ, ◌+◌, ◌*◌, ◌/◌, ◌^◌, ◌<◌, ◌≤◌, nat_le, nat_lt, nat_eq, eqb, Bool, true, false}
use Rattle.std.proofs.Common.{◌&&◌, ◌||◌, not}
use Rattle.std.proofs.Common.{zero, suc, List, [], ◌∷◌, length, take, get_or, All, Contains, refl, sym, ap, ◌∙◌}
use Rattle.std.proofs.Common.{subst, arith, ◌⊎◌, inl}
use Rattle.std.proofs.Common.{⊎_elim}
use Rattle.std.specs.List.{list_any}
use Rattle.std.proofs.lemmas.Bool.{false≢true, eqb-true, eq-eqb, and_parts, and_from, or_parts, or_from}
use Rattle.std.proofs.lemmas.Bool.{false_from_ne_true, lt-ltb, le-ltb, le-leb, leb-true, lt-leb, cases_lt}
use Rattle.std.proofs.lemmas.Bool.{or_cases}
use Rattle.std.proofs.lemmas.Bool.Decides.{nat_tests}
use Rattle.std.proofs.lemmas.List.Elements.{All-head, All-tail}
use Rattle.std.proofs.lemmas.List.Folds.{list_any_at}
use Rattle.std.proofs.lemmas.Nat.{div_below}
use Rattle.std.proofs.Math.Nat.{mul-div_cancel, mul-le-mul_right, le_of_mul-le-mul_right, suc-mul}
use Rattle.prefix_lattice.specs.{RecordValue, NodeValue, IsNode, node_index, node_at, PrefixValue, IsPrefix, covers}
use Rattle.prefix_lattice.specs.{node_of_prefix, finest_grain, grain_bits, grain_lengths}
use Rattle.prefix_lattice.specs.{prefix_key, prefix_at, begins_with, strictly_under, lines_under}
use Rattle.prefix_lattice.specs.{one_line_covers, address_bits}
use Rattle.prefix_lattice.specs.declared.grain.Grain.{Grain}
use Rattle.prefix_lattice.proofs.GrainLemmas.{grain_numbers, grain_length-in_steps, grain_length-steps}
use Rattle.prefix_lattice.proofs.NodePlaceLemmas.{node_at_own_place}
use Rattle.prefix_lattice.proofs.ListLemmas.{Contains-list_head, Contains-list_tail}
use Rattle.exact_audit.specs.declared.depths.Depths.{Depths}
use Rattle.exact_audit.specs.LineCodes.{AreLineCodes, line_code}
use Rattle.exact_audit.specs.Depths.{steps_of, reaches_down, reaches, IsDepth, AreDepths, explained_by}
use Rattle.exact_audit.proofs.ListAnyLemmas.{list_any-same, list_any-filter, list_any-either, list_any-weaker}
use Rattle.exact_audit.proofs.ListAnyLemmas.{list_any_truths_are_equal}

-- what the laws of prefixes say of keys
abbrev pub DepthLineKeysAreApart : Type 0
DepthLineKeysAreApart = (grain : Grain) (prefix other : PrefixValue) → IsPrefix grain prefix → IsPrefix grain other
    → node_of_prefix grain prefix ≡ node_of_prefix grain other → prefix_key prefix ≡ prefix_key other → prefix ≡ other

-- a prefix of a grain has a node of it
pub IsNode-depth : {grain : Grain} (prefix : PrefixValue) → IsPrefix grain prefix
    → IsNode grain (node_of_prefix grain prefix)
IsNode-depth prefix is = record {
  of_grain = refl;
  source = record { few = is.source.few; whole = is.source_steps };
  dest = record { few = is.dest.few; whole = is.dest_steps };
}

-- and is of the finest grain too
pub IsPrefix-depth_finest : {grain : Grain} (prefix : PrefixValue) → IsPrefix grain prefix
    → IsPrefix finest_grain prefix
IsPrefix-depth_finest {grain} prefix is = record {
  source = is.source;
  dest = is.dest;
  source_steps = (grain_numbers grain).refines (length prefix.source) is.source_steps;
  dest_steps = (grain_numbers grain).refines (length prefix.dest) is.dest_steps;
}

-- the node with this many source and destination steps
abbrev pub depth_node : Grain → ℕ → ℕ → NodeValue
depth_node grain source dest = record {
  grain = grain;
  source_bits = source * grain_bits grain;
  dest_bits = dest * grain_bits grain;
}

-- what a list begins with is its front
pub depth_front_is_taken : (bits front : List ℕ) → begins_with bits front ≡ true → take (length front) bits ≡ front
depth_front_is_taken bits [] begins = refl
depth_front_is_taken [] (b ∷ front) begins = absurd (false≢true begins)
depth_front_is_taken (x ∷ bits) (b ∷ front) begins =
    let both : (eqb x b ≡ true) × (begins_with bits front ≡ true) =
    and_parts (eqb x b) (begins_with bits front) begins in
    ap (λ d. d ∷ take (length front) bits) (eqb-true x b both.0)
    ∙ ap (λ l. b ∷ l) (depth_front_is_taken bits front both.1)

-- a list begins with each of its fronts
pub depth_bits_begin_with_front : (bits : List ℕ) (n : ℕ) → begins_with bits (take n bits) ≡ true
depth_bits_begin_with_front bits zero = refl
depth_bits_begin_with_front [] (suc n) = refl
depth_bits_begin_with_front (x ∷ bits) (suc n) =
    and_from (eqb x x) (begins_with bits (take n bits)) (eq-eqb x x refl) (depth_bits_begin_with_front bits n)

pub depth_front_length : (bits : List ℕ) (n : ℕ) → n ≤ length bits → length (take n bits) ≡ n
depth_front_length bits zero few = refl
depth_front_length [] (suc n) few = absurd (omega arith)
depth_front_length (x ∷ bits) (suc n) few = let rest = depth_front_length bits n (omega arith) in omega arith

-- of two fronts of one list, the one that is no shorter begins with the other
pub shorter_depth_front_begins : (bits : List ℕ) (m n : ℕ) → m ≤ length bits → n ≤ length bits
    → begins_with (take m bits) (take n bits) ≡ nat_le n m
shorter_depth_front_begins bits m zero few_m few_n = sym (le-leb 0 m (omega arith))
shorter_depth_front_begins [] m (suc n) few_m few_n = absurd (omega arith)
shorter_depth_front_begins (x ∷ bits) zero (suc n) few_m few_n = sym (lt-leb (suc n) 0 (omega arith))
shorter_depth_front_begins (x ∷ bits) (suc m) (suc n) few_m few_n =
    ap (λ b. b && begins_with (take m bits) (take n bits)) (eq-eqb x x refl)
    ∙ shorter_depth_front_begins bits m n (omega arith) (omega arith)
    ∙ list_any_truths_are_equal (nat_le n m) (nat_le (suc n) (suc m))
    (λ is. le-leb (suc n) (suc m) (let le = leb-true n m is in omega arith))
    (λ is. le-leb n m (let le = leb-true (suc n) (suc m) is in omega arith))

-- a list that begins with another is no shorter
pub depth_front_is_no_longer : (bits front : List ℕ) → begins_with bits front ≡ true → length front ≤ length bits
depth_front_is_no_longer bits [] begins = omega arith
depth_front_is_no_longer [] (b ∷ front) begins = absurd (false≢true begins)
depth_front_is_no_longer (x ∷ bits) (b ∷ front) begins =
    let shorter = depth_front_is_no_longer bits front (and_parts (eqb x b) (begins_with bits front) begins).1 in
    omega arith

-- the number of bits of an address
depth_bits_length : (address : ℕ) → length (address_bits address) ≡ 32
depth_bits_length address = refl

-- a line that covers a record is the record's prefix of its node
pub covering_line_at_depth : (grain : Grain) (line : PrefixValue) (rec : RecordValue) → covers line rec ≡ true
    → prefix_at (node_of_prefix grain line) rec ≡ line
covering_line_at_depth grain line rec covered =
    let both = and_parts (begins_with (address_bits rec.src) line.source) (begins_with (address_bits rec.dst) line.dest)
    covered in
    let make : List ℕ → List ℕ → PrefixValue = λ source dest. record { source = source; dest = dest } in
    ap (λ source. make source (take (length line.dest) (address_bits rec.dst)))
    (depth_front_is_taken (address_bits rec.src) line.source both.0)
    ∙ ap (make line.source) (depth_front_is_taken (address_bits rec.dst) line.dest both.1)

-- fewer steps than there are lengths are kept of each address
pub covering_depth_is_bounded : (grain : Grain) (line : PrefixValue) (rec : RecordValue) → covers line rec ≡ true
    → (steps_of grain line.source < grain_lengths grain) × (steps_of grain line.dest < grain_lengths grain)
covering_depth_is_bounded grain line rec covered =
    let both = and_parts (begins_with (address_bits rec.src) line.source) (begins_with (address_bits rec.dst) line.dest)
    covered in (
      few line.source
          (omega (arith, depth_front_is_no_longer (address_bits rec.src) line.source both.0, depth_bits_length rec.src)),
      few line.dest
          (omega (arith, depth_front_is_no_longer (address_bits rec.dst) line.dest both.1, depth_bits_length rec.dst)),
    )
  where
    few : (front : List ℕ) → length front ≤ 32 → steps_of grain front < grain_lengths grain
    few front short =
        let numbers = grain_numbers grain in
        div_below (length front) (grain_bits grain) (grain_lengths grain) numbers.some_bits
        (omega (arith, numbers.spans, numbers.some_bits, short))

-- which of two numbers of kept bits is more, on both sides
more_depth_on_either_side : (s d l m : ℕ)
    → ((nat_le s l && nat_le d m) && not ((nat_le s l && nat_le d m) && (nat_le l s && nat_le m d)))
    ≡ ((nat_le (s + 1) l && nat_le d m) || (nat_le s l && nat_le (d + 1) m))
more_depth_on_either_side s d l m = grind (arith, nat_tests)

-- a front compared with a line's bits, where a list begins with both
depth_front_against_line : (bits front : List ℕ) (n : ℕ) → begins_with bits front ≡ true → n ≤ length bits
    → (begins_with front (take n bits) ≡ nat_le n (length front))
    × (begins_with (take n bits) front ≡ nat_le (length front) n)
depth_front_against_line bits front n begins few =
    let is = depth_front_is_taken bits front begins in
    let short = depth_front_is_no_longer bits front begins in (
      ap (λ l. begins_with l (take n bits)) (sym is) ∙ shorter_depth_front_begins bits (length front) n short few,
      ap (λ l. begins_with (take n bits) l) (sym is) ∙ shorter_depth_front_begins bits n (length front) few short,
    )

-- whether a line that covers a record is strictly under the record's prefix of a node
depth_strictly_under_by_bits : (node : NodeValue) (rec : RecordValue) → IsNode node.grain node → (line : PrefixValue)
    → covers line rec ≡ true → strictly_under line (prefix_at node rec)
    ≡ ((nat_le (node.source_bits + 1) (length line.source) && nat_le node.dest_bits (length line.dest))
    || (nat_le node.source_bits (length line.source) && nat_le (node.dest_bits + 1) (length line.dest)))
depth_strictly_under_by_bits node rec is line covered =
    let both = and_parts (begins_with (address_bits rec.src) line.source) (begins_with (address_bits rec.dst) line.dest)
    covered in
    let source = depth_front_against_line (address_bits rec.src) line.source node.source_bits both.0
    (omega (arith, is.source.few, depth_bits_length rec.src)) in
    let dest = depth_front_against_line (address_bits rec.dst) line.dest node.dest_bits both.1
    (omega (arith, is.dest.few, depth_bits_length rec.dst)) in
    let shape = λ (a b c d : Bool). (a && b) && not ((a && b) && (c && d)) in
    let sides = λ (a c : Bool). shape a (begins_with line.dest (take node.dest_bits (address_bits rec.dst))) c
    (begins_with (take node.dest_bits (address_bits rec.dst)) line.dest) in
    ap (λ a. sides a (begins_with (take node.source_bits (address_bits rec.src)) line.source)) source.0
    ∙ ap (λ c. sides (nat_le node.source_bits (length line.source)) c) source.1
    ∙ ap (λ b. shape (nat_le node.source_bits (length line.source)) b (nat_le (length line.source) node.source_bits)
    (begins_with (take node.dest_bits (address_bits rec.dst)) line.dest)) dest.0
    ∙ ap (λ d. shape (nat_le node.source_bits (length line.source)) (nat_le node.dest_bits (length line.dest))
    (nat_le (length line.source) node.source_bits) d) dest.1
    ∙ more_depth_on_either_side node.source_bits node.dest_bits (length line.source) (length line.dest)

-- two lengths of a grain, compared by their steps
pub depth_steps_compare_as_bits : (bits s l : ℕ) → 0 < bits → s / bits * bits ≡ s → l / bits * bits ≡ l
    → (nat_le s l ≡ nat_le (s / bits) (l / bits)) × (nat_le (s + 1) l ≡ nat_le (s / bits + 1) (l / bits))
depth_steps_compare_as_bits bits s l some s_whole l_whole = (
  list_any_truths_are_equal (nat_le s l) (nat_le (s / bits) (l / bits))
      (λ is. le-leb (s / bits) (l / bits) (no_fewer (leb-true s l is)))
      (λ is. le-leb s l (no_shorter (leb-true (s / bits) (l / bits) is))),
  list_any_truths_are_equal (nat_le (s + 1) l) (nat_le (s / bits + 1) (l / bits))
      (λ is. le-leb (s / bits + 1) (l / bits) (more (leb-true (s + 1) l is)))
      (λ is. le-leb (s + 1) l (longer (leb-true (s / bits + 1) (l / bits) is))),
)
  where
    no_fewer : s ≤ l → s / bits ≤ l / bits
    no_fewer le = le_of_mul-le-mul_right {k = bits} (omega (arith, le, s_whole, l_whole)) some

    no_shorter : s / bits ≤ l / bits → s ≤ l
    no_shorter le = omega (arith, mul-le-mul_right bits le, s_whole, l_whole)

    more : s + 1 ≤ l → s / bits + 1 ≤ l / bits
    more le =
        ⊎_elim (λ (less : s / bits < l / bits). omega (arith, less))
        (λ (not_less : l / bits ≤ s / bits).
        absurd (omega (arith, mul-le-mul_right bits not_less, le, s_whole, l_whole))) (cases_lt (s / bits) (l / bits))

    longer : s / bits + 1 ≤ l / bits → s + 1 ≤ l
    longer le =
        let most : suc (s / bits) * bits ≤ l / bits * bits = mul-le-mul_right bits (omega (arith, le)) in
        omega (arith, most, suc-mul (s / bits) bits, some, s_whole, l_whole)

-- a line of a grain that covers a record is strictly under the record's prefix of a node where it keeps one step more
strictly_under_by_depth : (node : NodeValue) (rec : RecordValue) → IsNode node.grain node → (line : PrefixValue)
    → IsPrefix node.grain line → covers line rec ≡ true → strictly_under line (prefix_at node rec)
    ≡ (reaches_down node.grain (node.source_bits / grain_bits node.grain + 1) (node.dest_bits / grain_bits node.grain) line
    || reaches_down node.grain (node.source_bits / grain_bits node.grain) (node.dest_bits / grain_bits node.grain + 1) line)
strictly_under_by_depth node rec is line line_is covered =
    depth_strictly_under_by_bits node rec is line covered
    ∙ ap (λ b. (b && nat_le node.dest_bits (length line.dest))
    || (nat_le node.source_bits (length line.source) && nat_le (node.dest_bits + 1) (length line.dest))) source.1
    ∙ ap (λ b. (more_source && b)
    || (nat_le node.source_bits (length line.source) && nat_le (node.dest_bits + 1) (length line.dest))) dest.0
    ∙ ap (λ b. reaches_down node.grain (s + 1) d line || (b && nat_le (node.dest_bits + 1) (length line.dest))) source.0
    ∙ ap (λ b. reaches_down node.grain (s + 1) d line || (nat_le s (steps_of node.grain line.source) && b)) dest.1
  where
    bits : ℕ
    bits = grain_bits node.grain

    s : ℕ
    s = node.source_bits / bits

    d : ℕ
    d = node.dest_bits / bits

    more_source : Bool
    more_source = nat_le (s + 1) (steps_of node.grain line.source)

    kept : IsNode node.grain (node_of_prefix node.grain line)
    kept = IsNode-depth line line_is

    source : (nat_le node.source_bits (length line.source) ≡ nat_le s (steps_of node.grain line.source))
        × (nat_le (node.source_bits + 1) (length line.source) ≡ nat_le (s + 1) (steps_of node.grain line.source))
    source =
        depth_steps_compare_as_bits bits node.source_bits (length line.source) (grain_numbers node.grain).some_bits
        (grain_length-in_steps node.source_bits is.source) (grain_length-in_steps (length line.source) kept.source)

    dest : (nat_le node.dest_bits (length line.dest) ≡ nat_le d (steps_of node.grain line.dest))
        × (nat_le (node.dest_bits + 1) (length line.dest) ≡ nat_le (d + 1) (steps_of node.grain line.dest))
    dest =
        depth_steps_compare_as_bits bits node.dest_bits (length line.dest) (grain_numbers node.grain).some_bits
        (grain_length-in_steps node.dest_bits is.dest) (grain_length-in_steps (length line.dest) kept.dest)

-- a line strictly under the record's prefix of a node covers it exactly if a line that covers it reaches further down
explained_by_reached_depth : (lines : List PrefixValue) (node : NodeValue) (rec : RecordValue) → IsNode node.grain node
    → All (IsPrefix node.grain) lines → one_line_covers (lines_under (prefix_at node rec) lines) rec
    ≡ (reaches node.grain lines rec (node.source_bits / grain_bits node.grain + 1) (node.dest_bits / grain_bits node.grain)
    || reaches node.grain lines rec (node.source_bits / grain_bits node.grain) (node.dest_bits / grain_bits node.grain + 1))
explained_by_reached_depth lines node rec is prefixes =
    list_any-filter (λ line. covers line rec) (λ line. strictly_under line (prefix_at node rec)) lines
    ∙ list_any-same (λ line. strictly_under line (prefix_at node rec) && covers line rec)
    (λ line. (covers line rec && more_source line) || (covers line rec && more_dest line)) lines
    (λ place default within. same (get_or lines place default) (prefixes place default within))
    ∙ list_any-either (λ line. covers line rec && more_source line) (λ line. covers line rec && more_dest line) lines
  where
    more_source : PrefixValue → Bool
    more_source = reaches_down node.grain (node.source_bits / grain_bits node.grain + 1) (node.dest_bits / grain_bits node.grain)

    more_dest : PrefixValue → Bool
    more_dest = reaches_down node.grain (node.source_bits / grain_bits node.grain) (node.dest_bits / grain_bits node.grain + 1)

    split : (covered strict a b : Bool) → (covered ≡ true → strict ≡ (a || b))
        → (strict && covered) ≡ ((covered && a) || (covered && b))
    split true true a b is = is refl
    split true false a b is = is refl
    split false true a b is = refl
    split false false a b is = refl

    same : (line : PrefixValue) → IsPrefix node.grain line → (strictly_under line (prefix_at node rec) && covers line rec)
        ≡ ((covers line rec && more_source line) || (covers line rec && more_dest line))
    same line line_is =
        split (covers line rec) (strictly_under line (prefix_at node rec)) (more_source line) (more_dest line)
        (strictly_under_by_depth node rec is line line_is)

-- lines reach at least as far if less is asked
lesser_depth_is_reached : (grain : Grain) (lines : List PrefixValue) (rec : RecordValue) (s d t e : ℕ) → t ≤ s → e ≤ d
    → reaches grain lines rec s d ≡ true → reaches grain lines rec t e ≡ true
lesser_depth_is_reached grain lines rec s d t e less fewer =
    list_any-weaker (λ line. covers line rec && reaches_down grain s d line)
    (λ line. covers line rec && reaches_down grain t e line) lines
    (λ place default within. weaker (get_or lines place default))
  where
    le_less : (a b c : ℕ) → b ≤ a → nat_le a c ≡ true → nat_le b c ≡ true
    le_less a b c less is = le-leb b c (let le = leb-true a c is in omega arith)

    weaker : (line : PrefixValue) → (covers line rec && reaches_down grain s d line) ≡ true
        → (covers line rec && reaches_down grain t e line) ≡ true
    weaker line is =
        let both = and_parts (covers line rec) (reaches_down grain s d line) is in
        let sides = and_parts (nat_le s (steps_of grain line.source)) (nat_le d (steps_of grain line.dest)) both.1 in
        and_from (covers line rec) (reaches_down grain t e line) both.0
        (and_from (nat_le t (steps_of grain line.source)) (nat_le e (steps_of grain line.dest))
        (le_less s t (steps_of grain line.source) less sides.0) (le_less d e (steps_of grain line.dest) fewer sides.1))

-- no line keeps as many steps as there are lengths
pub depth_past_lengths_is_unreached : (grain : Grain) (lines : List PrefixValue) (rec : RecordValue) (s d : ℕ)
    → (grain_lengths grain ≤ s) ⊎ (grain_lengths grain ≤ d) → reaches grain lines rec s d ≡ false
depth_past_lengths_is_unreached grain [] rec s d past = refl
depth_past_lengths_is_unreached grain (line ∷ lines) rec s d past =
    or_from (covers line rec && reaches_down grain s d line) (reaches grain lines rec s d)
    (false_from_ne_true (covers line rec && reaches_down grain s d line) (λ is.
    let both = and_parts (covers line rec) (reaches_down grain s d line) is in
    let sides = and_parts (nat_le s (steps_of grain line.source)) (nat_le d (steps_of grain line.dest)) both.1 in
    let source = leb-true s (steps_of grain line.source) sides.0 in
    let dest = leb-true d (steps_of grain line.dest) sides.1 in
    let few = covering_depth_is_bounded grain line rec both.0 in
    ⊎_elim (λ (more : grain_lengths grain ≤ s). omega (arith, few.0, source, more))
    (λ (more : grain_lengths grain ≤ d). omega (arith, few.1, dest, more)) past))
    (depth_past_lengths_is_unreached grain lines rec s d past)

-- where no line reaches further down, and none has the record's prefix of a node, none reaches there
depth_without_line_is_unreached : {grain : Grain} (lines : List PrefixValue) (rec : RecordValue) (s d : ℕ)
    → All (IsPrefix grain) lines
    → list_any (λ line. nat_eq (line_code (prefix_at (depth_node grain s d) rec)) (line_code line)) lines ≡ false
    → reaches grain lines rec (s + 1) d ≡ false → reaches grain lines rec s (d + 1) ≡ false
    → reaches grain lines rec s d ≡ false
depth_without_line_is_unreached [] rec s d prefixes none source dest = refl
depth_without_line_is_unreached {grain} (line ∷ lines) rec s d prefixes none source dest =
    let own = prefix_at (depth_node grain s d) rec in
    let nones = or_parts (nat_eq (line_code own) (line_code line))
    (list_any (λ line. nat_eq (line_code own) (line_code line)) lines) none in
    let sources = or_parts (covers line rec && reaches_down grain (s + 1) d line) (reaches grain lines rec (s + 1) d) source in
    let dests = or_parts (covers line rec && reaches_down grain s (d + 1) line) (reaches grain lines rec s (d + 1)) dest in
    or_from (covers line rec && reaches_down grain s d line) (reaches grain lines rec s d)
    (false_from_ne_true (covers line rec && reaches_down grain s d line) (λ is.
    let both = and_parts (covers line rec) (reaches_down grain s d line) is in
    let sides = and_parts (nat_le s (steps_of grain line.source)) (nat_le d (steps_of grain line.dest)) both.1 in
    let no_more_source : steps_of grain line.source ≤ s = at_most (steps_of grain line.source) s (λ more.
    and_from (covers line rec) (reaches_down grain (s + 1) d line) both.0
    (and_from (nat_le (s + 1) (steps_of grain line.source)) (nat_le d (steps_of grain line.dest)) more sides.1)) sources.0 in
    let no_more_dest : steps_of grain line.dest ≤ d = at_most (steps_of grain line.dest) d (λ more.
    and_from (covers line rec) (reaches_down grain s (d + 1) line) both.0
    (and_from (nat_le s (steps_of grain line.source)) (nat_le (d + 1) (steps_of grain line.dest)) sides.0 more)) dests.0 in
    let source_same : s ≡ steps_of grain line.source =
    let le = leb-true s (steps_of grain line.source) sides.0 in omega arith in
    let dest_same : d ≡ steps_of grain line.dest = let le = leb-true d (steps_of grain line.dest) sides.1 in omega arith in
    let kept = IsNode-depth line (All-head (IsPrefix grain) line lines prefixes) in
    let make : ℕ → ℕ → PrefixValue = λ a b. prefix_at (record { grain = grain; source_bits = a; dest_bits = b }) rec in
    let same : own ≡ line =
    ap (λ a. make (a * grain_bits grain) (d * grain_bits grain)) source_same
    ∙ ap (λ b. make (steps_of grain line.source * grain_bits grain) (b * grain_bits grain)) dest_same
    ∙ ap (λ a. make a (steps_of grain line.dest * grain_bits grain)) (grain_length-in_steps (length line.source) kept.source)
    ∙ ap (make (length line.source)) (grain_length-in_steps (length line.dest) kept.dest)
    ∙ covering_line_at_depth grain line rec both.0 in
    false≢true (sym nones.0 ∙ eq-eqb (line_code own) (line_code line) (ap line_code same))))
    (depth_without_line_is_unreached lines rec s d (All-tail (IsPrefix grain) line lines prefixes) nones.1 sources.1 dests.1)
  where
    at_most : {b : Bool} (steps n : ℕ) → (nat_le (n + 1) steps ≡ true → b ≡ true) → b ≡ false → steps ≤ n
    at_most steps n more is =
        ⊎_elim (λ (less : n < steps). absurd (false≢true (sym is ∙ more (le-leb (n + 1) steps (omega arith)))))
        (λ (at : steps ≤ n). at) (cases_lt n steps)

-- two prefixes of one code are the same
pub depth_code_tells_prefix : DepthLineKeysAreApart → (prefix other : PrefixValue) → IsPrefix finest_grain prefix
    → IsPrefix finest_grain other → prefix_key prefix < 2 ^ 64 → prefix_key other < 2 ^ 64
    → line_code prefix ≡ line_code other → prefix ≡ other
depth_code_tells_prefix apart prefix other is other_is small other_small same =
    let own = node_of_prefix finest_grain prefix in
    let its = node_of_prefix finest_grain other in
    let index : node_index own ≡ node_index its = omega arith in
    let key : prefix_key prefix ≡ prefix_key other = omega arith in
    apart finest_grain prefix other is other_is
    (sym (node_at_own_place own (IsNode-depth prefix is)) ∙ ap (node_at finest_grain) index
    ∙ node_at_own_place its (IsNode-depth other other_is)) key

-- where lines have codes, whether one has the code of a prefix
no_depth_line_is_coded : {grain : Grain} (lines : List PrefixValue) (codes : List ℕ) (prefix : PrefixValue)
    → AreLineCodes grain lines codes → list_any (nat_eq (line_code prefix)) codes ≡ false
    → list_any (λ line. nat_eq (line_code prefix) (line_code line)) lines ≡ false
no_depth_line_is_coded lines codes prefix coded none = sym (coded.coded (line_code prefix)) ∙ none

-- one more number of destination steps, where no line has the record's prefix there
pub depth_next : {grain : Grain} (lines : List PrefixValue) (codes : List ℕ) (rec : RecordValue) (s dest below : ℕ)
    → AreLineCodes grain lines codes → IsDepth grain lines rec (s + 1) below → below ≤ dest
    → list_any (nat_eq (line_code (prefix_at (depth_node grain s dest) rec))) codes ≡ false
    → ((d : ℕ) → dest + 1 ≤ d → reaches grain lines rec s d ≡ false)
    → (d : ℕ) → dest ≤ d → reaches grain lines rec s d ≡ false
depth_next {grain} lines codes rec s dest below coded depth past none before d at_least =
    ⊎_elim (λ (same : d < dest + 1).
    let is : dest ≡ d = omega arith in
    subst (λ e. reaches grain lines rec s e ≡ false) is
    (depth_without_line_is_unreached lines rec s dest coded.prefixes
    (no_depth_line_is_coded lines codes (prefix_at (depth_node grain s dest) rec) coded none)
    (sym (depth dest) ∙ le-ltb dest below past) (before (dest + 1) (omega arith))))
    (λ (more : dest + 1 ≤ d). before d more) (cases_lt d (dest + 1))

-- a line has a prefix of one of its codes
pub coded_depth_has_line : {grain : Grain} → DepthLineKeysAreApart → (lines : List PrefixValue) (codes : List ℕ)
    (prefix : PrefixValue) → AreLineCodes grain lines codes → IsPrefix finest_grain prefix → prefix_key prefix < 2 ^ 64
    → list_any (nat_eq (line_code prefix)) codes ≡ true → Contains lines prefix
coded_depth_has_line {grain} apart lines codes prefix coded is small has =
    find lines coded.prefixes coded.small (sym (coded.coded (line_code prefix)) ∙ has)
  where
    find : (lines : List PrefixValue) → All (IsPrefix grain) lines → All (λ line. prefix_key line < 2 ^ 64) lines
        → list_any (λ line. nat_eq (line_code prefix) (line_code line)) lines ≡ true → Contains lines prefix
    find [] are smalls has = absurd (false≢true has)
    find (line ∷ lines) are smalls has =
        ⊎_elim (λ (here : nat_eq (line_code prefix) (line_code line) ≡ true).
        subst (Contains (line ∷ lines))
        (sym (depth_code_tells_prefix apart prefix line is
        (IsPrefix-depth_finest line (All-head (IsPrefix grain) line lines are)) small
        (All-head (λ line. prefix_key line < 2 ^ 64) line lines smalls) (eqb-true (line_code prefix) (line_code line) here)))
        (Contains-list_head line lines))
        (λ (there : list_any (λ line. nat_eq (line_code prefix) (line_code line)) lines ≡ true).
        Contains-list_tail line lines prefix
        (find lines (All-tail (IsPrefix grain) line lines are)
        (All-tail (λ line. prefix_key line < 2 ^ 64) line lines smalls) there))
        (or_cases (nat_eq (line_code prefix) (line_code line))
        (list_any (λ line. nat_eq (line_code prefix) (line_code line)) lines) has)

-- and no line has a prefix of no code
pub uncoded_depth_has_no_line : {grain : Grain} (lines : List PrefixValue) (codes : List ℕ) (prefix : PrefixValue)
    → AreLineCodes grain lines codes → list_any (nat_eq (line_code prefix)) codes ≡ false → ¬ Contains lines prefix
uncoded_depth_has_no_line lines codes prefix coded none (place, within, same) =
    false≢true (sym (no_depth_line_is_coded lines codes prefix coded none)
    ∙ list_any_at (λ line. nat_eq (line_code prefix) (line_code line)) lines place prefix within
    (eq-eqb (line_code prefix) (line_code (get_or lines place prefix)) (sym (ap line_code same))))

-- the depth where a line has the record's prefix, and none reaches further down
pub depth_found : {grain : Grain} (lines : List PrefixValue) (rec : RecordValue) (s dest : ℕ) (prefix : PrefixValue)
    → Contains lines prefix → covers prefix rec ≡ true → node_of_prefix grain prefix ≡ depth_node grain s dest
    → ((d : ℕ) → dest + 1 ≤ d → reaches grain lines rec s d ≡ false) → IsDepth grain lines rec s (dest + 1)
depth_found {grain} lines rec s dest prefix (place, within, same) covered node none = λ d.
    ⊎_elim (λ (less : d < dest + 1).
    lt-ltb d (dest + 1) less ∙ sym (lesser_depth_is_reached grain lines rec s dest s d (omega arith) (omega arith) here))
    (λ (more : dest + 1 ≤ d). le-ltb d (dest + 1) more ∙ sym (none d more)) (cases_lt d (dest + 1))
  where
    source_is : steps_of grain prefix.source ≡ s
    source_is =
        ap (λ (n : NodeValue). n.source_bits / grain_bits grain) node ∙ mul-div_cancel s (grain_numbers grain).some_bits

    dest_is : steps_of grain prefix.dest ≡ dest
    dest_is =
        ap (λ (n : NodeValue). n.dest_bits / grain_bits grain) node ∙ mul-div_cancel dest (grain_numbers grain).some_bits

    Test : PrefixValue → Bool
    Test line = covers line rec && reaches_down grain s dest line

    passes : Test prefix ≡ true
    passes =
        and_from (covers prefix rec) (reaches_down grain s dest prefix) covered
        (and_from (nat_le s (steps_of grain prefix.source)) (nat_le dest (steps_of grain prefix.dest))
        (le-leb s (steps_of grain prefix.source) (omega (arith, source_is)))
        (le-leb dest (steps_of grain prefix.dest) (omega (arith, dest_is))))

    here : reaches grain lines rec s dest ≡ true
    here = list_any_at Test lines place prefix within (subst (λ p. Test p ≡ true) (sym same) passes)

-- the depth where no line reaches further down than with one more source step
pub depth_end : (grain : Grain) (lines : List PrefixValue) (rec : RecordValue) (s dest below : ℕ)
    → IsDepth grain lines rec (s + 1) below
    → dest ≤ below → ((d : ℕ) → dest ≤ d → reaches grain lines rec s d ≡ false) → IsDepth grain lines rec s below
depth_end grain lines rec s dest below depth least none = λ d.
    ⊎_elim (λ (less : d < below).
    lt-ltb d below less
    ∙ sym (lesser_depth_is_reached grain lines rec (s + 1) d s d (omega arith) (omega arith) (sym (depth d) ∙ lt-ltb d below less)))
    (λ (more : below ≤ d). le-ltb d below more ∙ sym (none d (omega arith))) (cases_lt d below)

-- no line reaches down with as many source steps as there are lengths
pub depth_of_all_lengths : (grain : Grain) (lines : List PrefixValue) (rec : RecordValue)
    → IsDepth grain lines rec (grain_lengths grain) 0
depth_of_all_lengths grain lines rec = λ d.
    le-ltb d 0 (omega arith)
    ∙ sym (depth_past_lengths_is_unreached grain lines rec (grain_lengths grain) d (inl (omega arith)))

-- depths decide at each node whether a line strictly under the record's prefix covers the record
pub explained_by_depths : (lines : List PrefixValue) (rec : RecordValue) (depths : Depths) (node : NodeValue)
    → AreDepths node.grain lines rec depths → All (IsPrefix node.grain) lines → IsNode node.grain node
    → explained_by depths node ≡ one_line_covers (lines_under (prefix_at node rec) lines) rec
explained_by_depths lines rec depths node are prefixes is =
    ap (λ b. b || nat_lt (d + 1) (get_or depths.by_steps s 0)) (are (s + 1) (omega (arith, few)) d)
    ∙ ap (λ b. reaches node.grain lines rec (s + 1) d || b) (are s (omega (arith, few)) (d + 1))
    ∙ sym (explained_by_reached_depth lines node rec is prefixes)
  where
    s : ℕ
    s = node.source_bits / grain_bits node.grain

    d : ℕ
    d = node.dest_bits / grain_bits node.grain

    few : s < grain_lengths node.grain
    few = grain_length-steps node.source_bits is.source
