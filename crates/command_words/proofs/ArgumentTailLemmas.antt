-- The arguments after the first one.
use Rattle.std.proofs.Common.{◌≡◌, ◌+◌, ◌-◌, ◌↔◌, take, drop, Bor, refl, sym, ap, ◌∙◌, subst, List, [], ◌∷◌, length}
use Rattle.std.proofs.Common.{ℕ, Option, Some, arith}
use Rattle.std.specs.List.{Contains}
use Rattle.std.proofs.lemmas.List.{take_rest, drop-drop, nil_from_length}
use Rattle.std.proofs.lemmas.List.Elements.{Contains-append_right}
use Rattle.command_words.specs.Arguments.{ArgumentText, Argument, positional, option, BeginWith}
use Rattle.command_words.specs.Arguments.{SpellAll, names_in}
use Rattle.command_words.specs.Scanning.{scanned_name}
use Rattle.command_words.specs.Arguments.{argument_texts}
use Rattle.command_words.proofs.TextSearchLemmas.{text_search_skips_first}
use Rattle.command_words.proofs.OneReadingLemmas.{one_reading_of_first_argument, one_reading_of_no_words}

-- arguments that begin with this one; the other words spell the rest
pub record HasArgumentTail (argument : Argument) (others : List ArgumentText) (arguments : List Argument) : Type 0 where
  pub rest : List Argument
  pub are : arguments ≡ argument ∷ rest
  pub spelled : SpellAll others rest

-- words that begin with an argument spell only lists that begin with it
pub argument_tail_follows : (words others : List ArgumentText) (argument : Argument) (arguments : List Argument)
    → BeginWith words argument others → SpellAll words arguments → HasArgumentTail argument others arguments
argument_tail_follows words others argument [] begins spelled =
    absurd (one_reading_of_no_words argument others (subst (λ ws. BeginWith ws argument others) spelled begins))
argument_tail_follows words others argument (first ∷ rest) begins spelled =
    let once = one_reading_of_first_argument words others spelled.0 argument first begins spelled.1 in
    record {
      rest = rest;
      are = ap (λ a. a ∷ rest) (sym once.0);
      spelled = subst (λ ws. SpellAll ws rest) (sym once.1) spelled.2;
    }

-- words that begin with no argument spell none
pub argument_tail_is_empty : (words : List ArgumentText) (arguments : List Argument)
    → ((argument : Argument) (others : List ArgumentText) → BeginWith words argument others → ⊥) → SpellAll words arguments
    → arguments ≡ []
argument_tail_is_empty words [] never spelled = refl
argument_tail_is_empty words (first ∷ rest) never spelled = absurd (never first spelled.0 spelled.1)

-- the name of an option at the front is the first name
pub named_argument_before_tail : (argument : Argument) (rest : List Argument) (name : ArgumentText) → scanned_name argument ≡ Some name
    → names_in (argument ∷ rest) ≡ name ∷ names_in rest
named_argument_before_tail (positional text) rest name is = cc
named_argument_before_tail (option other value) rest name is = let same : other ≡ name = cc in ap (λ n. n ∷ names_in rest) same

-- an argument of another name doesn't change whether this name is present
pub argument_keeps_tail_names : (argument : Argument) (rest : List Argument) (name : ArgumentText) → (scanned_name argument ≡ Some name → ⊥)
    → Contains (names_in (argument ∷ rest)) name ↔ Contains (names_in rest) name
argument_keeps_tail_names (positional text) rest name other = (λ h. h, λ h. h)
argument_keeps_tail_names (option first value) rest name other = (
  text_search_skips_first first name (names_in rest) (λ same. other (ap Some same)),
  Contains-append_right (first ∷ []) (names_in rest) name,
)

-- the rest of some arguments, which the words spell; a name is present in it exactly if it is present in all of them
pub record ArgumentTailKeepsName (words : List ArgumentText) (arguments : List Argument) (name : ArgumentText) : Type 0 where
  pub rest : List Argument
  pub spelled : SpellAll words rest
  pub same : Contains (names_in arguments) name ↔ Contains (names_in rest) name

-- at the start, the rest is all of them
pub whole_argument_tail_keeps_name : (words : List ArgumentText) (arguments : List Argument) (name : ArgumentText) → SpellAll words arguments
    → ArgumentTailKeepsName words arguments name
whole_argument_tail_keeps_name words arguments name spelled = record { rest = arguments; spelled = spelled; same = (λ h. h, λ h. h) }

-- after an argument of another name, it is the others
pub next_argument_tail_keeps_name : (words others : List ArgumentText) (argument : Argument) (arguments : List Argument) (name : ArgumentText)
    → BeginWith words argument others → (scanned_name argument ≡ Some name → ⊥)
    → ArgumentTailKeepsName words arguments name → ArgumentTailKeepsName others arguments name
next_argument_tail_keeps_name words others argument arguments name begins other leaves =
    let behind = argument_tail_follows words others argument leaves.rest begins leaves.spelled in
    let same = argument_keeps_tail_names argument behind.rest name other in
    record {
      rest = behind.rest;
      spelled = behind.spelled;
      same = (
        λ h. same.0 (subst (λ rest. Contains (names_in rest) name) behind.are (leaves.same.0 h)),
        λ h. leaves.same.1 (subst (λ rest. Contains (names_in rest) name) (sym behind.are) (same.1 h)),
      );
    }

-- a name is present if the argument at the front has it
pub name_stands_before_argument_tail : (words others : List ArgumentText) (argument : Argument) (arguments : List Argument) (name : ArgumentText)
    → BeginWith words argument others → scanned_name argument ≡ Some name
    → ArgumentTailKeepsName words arguments name → Contains (names_in arguments) name
name_stands_before_argument_tail words others argument arguments name begins is leaves =
    let behind = argument_tail_follows words others argument leaves.rest begins leaves.spelled in
    leaves.same.1 (subst (λ names. Contains names name)
    (sym (ap names_in behind.are ∙ named_argument_before_tail argument behind.rest name is)) (0, omega arith, refl))

-- and missing once no argument remains
pub empty_argument_tail_lacks_name : (words : List ArgumentText) (arguments : List Argument) (name : ArgumentText)
    → ((argument : Argument) (others : List ArgumentText) → BeginWith words argument others → ⊥)
    → ArgumentTailKeepsName words arguments name → Contains (names_in arguments) name → ⊥
empty_argument_tail_lacks_name words arguments name never leaves h =
    let none =
    subst (λ rest. Contains (names_in rest) name) (argument_tail_is_empty words leaves.rest never leaves.spelled)
    (leaves.same.0 h) in
    omega (arith, none.1)

-- an argument at the front of the range `words[from..]` begins the words from that index on
pub argument_begins_tail_range : (words : List (Bor ArgumentText)) (from step : ℕ) (found : Option ArgumentText)
    → (argument : Argument)
    × BeginWith (argument_texts (take (length words - from) (drop from words))) argument
    (argument_texts (drop step (take (length words - from) (drop from words)))) × (found ≡ scanned_name argument)
    → (argument : Argument) × BeginWith (argument_texts (drop from words)) argument (argument_texts (drop (from + step) words))
    × (found ≡ scanned_name argument)
argument_begins_tail_range words from step found (argument, begins, is) = (
  argument,
  subst (λ ws. BeginWith (argument_texts (drop from words)) argument (argument_texts ws)) (drop-drop step from words)
      (subst (λ ws. BeginWith (argument_texts ws) argument (argument_texts (drop step ws))) (take_rest words from) begins),
  is,
)

-- and if no argument is at the front of the range, none begins those words
pub no_argument_begins_tail_range : (words : List (Bor ArgumentText)) (from : ℕ)
    → ((argument : Argument) (others : List ArgumentText)
    → BeginWith (argument_texts (take (length words - from) (drop from words))) argument others → ⊥)
    → (argument : Argument) (others : List ArgumentText) → BeginWith (argument_texts (drop from words)) argument others → ⊥
no_argument_begins_tail_range words from never argument others begins =
    never argument others (subst (λ ws. BeginWith (argument_texts ws) argument others) (sym (take_rest words from)) begins)

-- the argument at the front of all words, with the words after it as the range `words[step..]`
pub argument_leaves_tail_range : (words : List (Bor ArgumentText)) (step : ℕ) (found : Option ArgumentText)
    → (argument : Argument) × BeginWith (argument_texts words) argument (argument_texts (drop step words))
    × (found ≡ scanned_name argument)
    → (argument : Argument) × BeginWith (argument_texts words) argument (argument_texts (take (length words - step) (drop step words)))
    × (found ≡ scanned_name argument)
argument_leaves_tail_range words step found (argument, begins, is) =
    (argument, subst (λ ws. BeginWith (argument_texts words) argument (argument_texts ws)) (sym (take_rest words step)) begins, is)

-- an empty list of words has no texts
pub argument_tail_has_no_texts : (words : List (Bor ArgumentText)) → length words ≡ 0 → argument_texts words ≡ []
argument_tail_has_no_texts words none = ap argument_texts (nil_from_length words none)

-- and a list of words without texts is empty
pub argument_tail_has_no_words : (words : List (Bor ArgumentText)) → argument_texts words ≡ [] → length words ≡ 0
argument_tail_has_no_words [] none = refl
argument_tail_has_no_words (word ∷ words) none = cc
