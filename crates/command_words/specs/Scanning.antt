-- What the scan of words reports, which no public contract cites.
use Rattle.std.specs.Prelude.{ℕ, ◌≡◌, ◌≢◌, List, length, map, All, AllPairs, Contains, Option, Some, None, option_map}
use Rattle.std.specs.Borrow.{Bor}
use Rattle.command_words.specs.declared.form_names.FormNames.{FormNames}
use Rattle.command_words.specs.Arguments.{ArgumentText, Argument, positional, option, SpellAll}
use Rattle.command_words.specs.Arguments.{positionals_in, names_in, ArgumentForm}

-- the name of the option that an argument gives, if the argument is an option
abbrev pub scanned_name : Argument → Option ArgumentText
scanned_name (positional text) = None
scanned_name (option name value) = Some name

-- the form with these names
abbrev pub scanned_form : FormNames → ArgumentForm
scanned_form names = record {
  positionals = map (λ name. name.now) names.positionals.now;
  options = map (λ name. name.now) names.options.now;
  required = map (λ name. name.now) names.required.now;
}

-- the text that a reference points to, if there is a reference
abbrev pub text_at : Option (Bor ArgumentText) → Option ArgumentText
text_at word = option_map (λ text. text.now) word

-- the words spell exactly this many positionals, and options of a form, none of them twice
pub record FitsRest (form : ArgumentForm) (positionals : ℕ) (words : List ArgumentText) (arguments : List Argument) : Type 0 where
  pub spelled : SpellAll words arguments
  pub as_many : length (positionals_in arguments) ≡ positionals
  pub known : All (λ name. Contains form.options name) (names_in arguments)
  pub once : AllPairs (λ name other. name ≢ other) (names_in arguments)
