-- The first word of a command line, and the words after it.
use Rattle.std.proofs.Common.{◌≡◌, ◌≢◌, ◌↔◌, Bool, List, ◌∷◌, Bor, Err, Result, ap, ◌∙◌, subst}
use Rattle.clap.specs.declared.parser.matches.ArgMatches.{ArgMatches}
use Rattle.std.specs.Bool.{IsTrue}
use Rattle.command_words.specs.Arguments.{ArgumentText, Argument, ArgumentForm, AreWellFormed}
use Rattle.command_words.specs.FormNames.{word_of, form_of}
use Rattle.command_words.specs.Matches.{AreMatchesOf, MatchWords}
use Rattle.command_words.specs.Arguments.{argument_texts}
use Rattle.command_words.specs.WordsRefusal.{HasWordsFault}
use Rattle.command_words.specs.declared.command_word.CommandWord.{CommandWord}
use Rattle.command_words.specs.declared.words_kind.WordsKind.{WordsKind}
use Rattle.command_words.specs.declared.words_kind.WordsKind.TheVariants.{UnknownCommand, Refused}
use Rattle.command_words.specs.declared.words_kind.WordsRefusal.{WordsRefusal}
use Rattle.command_words.specs.declared.words_kind.WordsRefusal.TheVariants.{Bad}

-- words that begin with a command's name
first_word_begins_texts : (words : List (Bor ArgumentText)) (first : Bor ArgumentText) (others : List (Bor ArgumentText)) (word : CommandWord)
    → words ≡ first ∷ others → first.now ≡ word_of word
    → argument_texts words ≡ word_of word ∷ argument_texts others
first_word_begins_texts words first others word are first_is = ap argument_texts are ∙ ap (λ text. text ∷ argument_texts others) first_is

-- a first word that is no command's name is a fault
pub unknown_first_word_is_fault : (words : List (Bor ArgumentText)) (first : Bor ArgumentText) (others : List (Bor ArgumentText)) → words ≡ first ∷ others
    → ((word : CommandWord) → first.now ≢ word_of word)
    → HasWordsFault (argument_texts words) UnknownCommand
unknown_first_word_is_fault words first others are no_command = (first.now, argument_texts others, ap argument_texts are, no_command)

-- what a test says of a form, it says of an equal form
pub same_form_by_first_word : (test : Bool) (form other : ArgumentForm) (words : List ArgumentText) → form ≡ other
    → (IsTrue test ↔ ((arguments : List Argument) × AreWellFormed form words arguments))
    → IsTrue test ↔ ((arguments : List Argument) × AreWellFormed other words arguments)
same_form_by_first_word test form other words same says =
    subst (λ f. IsTrue test ↔ ((arguments : List Argument) × AreWellFormed f words arguments)) same says

-- words after a command's name that are not well formed are a fault
pub refused_behind_first_word : (words : List (Bor ArgumentText)) (first : Bor ArgumentText) (others : List (Bor ArgumentText)) (word : CommandWord)
    → words ≡ first ∷ others → first.now ≡ word_of word
    → ((arguments : List Argument) → AreWellFormed (form_of word) (argument_texts others) arguments → ⊥)
    → HasWordsFault (argument_texts words) Refused
refused_behind_first_word words first others word are first_is no_form =
    (word, argument_texts others, first_word_begins_texts words first others word are first_is, no_form)

-- the matches of the words after a command's name are those of the command line
pub matches_behind_first_word : (words : List (Bor ArgumentText)) (first : Bor ArgumentText) (others : List (Bor ArgumentText)) (word : CommandWord)
    (matches : ArgMatches) → words ≡ first ∷ others → first.now ≡ word_of word
    → (arguments : List Argument) × AreWellFormed (form_of word) (argument_texts others) arguments
    → ((arguments : List Argument) → AreWellFormed (form_of word) (argument_texts others) arguments
    → AreMatchesOf (form_of word) arguments matches) → MatchWords (argument_texts words) word matches
matches_behind_first_word words first others word matches are first_is well tells = record {
  arguments = well.0;
  are_words = record {
    behind = argument_texts others;
    begun = first_word_begins_texts words first others word are first_is;
    well_formed = well.1;
  };
  told = tells well.0 well.1;
}

-- the fault that is reported is the one that was found
pub first_word_fault_is_told : {T : Type 0} (words : List ArgumentText) (first kind : WordsKind) → HasWordsFault words first
    → Path (Result T WordsRefusal) (Err (Bad first)) (Err (Bad kind)) → HasWordsFault words kind
first_word_fault_is_told {T} words first kind has same = subst (λ k. HasWordsFault words k) (same_kind first kind same) has
  where
    same_kind : (first kind : WordsKind) → Path (Result T WordsRefusal) (Err (Bad first)) (Err (Bad kind))
        → first ≡ kind
    same_kind first kind same = cc
