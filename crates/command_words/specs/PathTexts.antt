-- The paths that arguments name.
use Rattle.std.specs.Prelude.{◌≡◌, List, [], codes, Contains, unwrap_or}
use Rattle.command_words.specs.Arguments.{ArgumentText, Argument, ArgumentForm, value_of}
use Rattle.command_words.specs.FormNames.{form_of, AreWords}
use Rattle.command_words.specs.declared.command_word.CommandWord.{CommandWord}
use Rattle.command_words.specs.declared.path_texts.PathTexts.{PathTexts}

-- the text for an option that names a path: the option's value, or the default if the option is missing; no text if
-- the form has no such option
pub record NamesPath (form : ArgumentForm) (arguments : List Argument) (name default text : ArgumentText) : Type 0 where
  pub given : Contains form.options name → text ≡ unwrap_or (value_of name arguments) default
  pub absent : (Contains form.options name → ⊥) → text ≡ []

-- the paths that the arguments name: the capture is `-` by default, and the others have no default
pub record NamesPaths (words : List ArgumentText) (paths : PathTexts) : Type 0 where
  pub command : CommandWord
  pub arguments : List Argument
  pub are_words : AreWords words command arguments
  pub capture : NamesPath (form_of command) arguments (codes "capture") (codes "-") paths.capture
  pub report : NamesPath (form_of command) arguments (codes "report") [] paths.report
  pub store : NamesPath (form_of command) arguments (codes "store") [] paths.store
