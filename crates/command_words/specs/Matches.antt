-- What `clap` found among words, which no public contract cites.
use Rattle.std.specs.Prelude.{ℕ, ◌≡◌, List, codes, Contains, Option, slice_get, Some}
use Rattle.clap.specs.Words.{found_of, first_value}
use Rattle.clap.specs.declared.parser.matches.ArgMatches.{ArgMatches}
use Rattle.command_words.specs.Arguments.{ArgumentText, Argument, ArgumentForm, positionals_in}
use Rattle.command_words.specs.Arguments.{value_of, named}
use Rattle.command_words.specs.FormNames.{form_of, AreWords}
use Rattle.command_words.specs.Options.{name_of}
use Rattle.command_words.specs.Settings.{SettingValues}
use Rattle.command_words.specs.declared.command_word.CommandWord.{CommandWord}

-- the matches hold the arguments: the value of each option by its name, and each positional by its name in the form
pub record AreMatchesOf (form : ArgumentForm) (arguments : List Argument) (matches : ArgMatches) : Type 0 where
  pub options : (name : ArgumentText) → (Contains form.positionals name → ⊥)
      → first_value (found_of matches) name ≡ value_of name arguments
  pub positionals : (place : ℕ) (name : ArgumentText) → slice_get form.positionals place ≡ Some name
      → first_value (found_of matches) name ≡ slice_get (positionals_in arguments) place
  pub by_name : (name : ArgumentText) → first_value (found_of matches) name ≡ value_of name (named form.positionals arguments)

-- the matches hold the arguments that the words of a command line spell
pub record MatchWords (words : List ArgumentText) (command : CommandWord) (matches : ArgMatches) : Type 0 where
  pub arguments : List Argument
  pub are_words : AreWords words command arguments
  pub told : AreMatchesOf (form_of command) arguments matches

-- the value that matches hold for each option or positional
abbrev pub values_in : ArgMatches → SettingValues
values_in matches = λ opt. first_value (found_of matches) (name_of opt)

-- the path that matches hold for a store
abbrev pub store_in : ArgMatches → Option ArgumentText
store_in matches = first_value (found_of matches) (codes "store")
