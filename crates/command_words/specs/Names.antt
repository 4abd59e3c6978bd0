-- Options that are followed by names, as the words of a command that takes any number of names.
use Rattle.std.specs.Prelude.{⊤, ℕ, ◌≡◌, ◌⊎◌, ◌++◌, ◌∷◌, ◌≤◌, List, [], length, All, Contains}
use Rattle.command_words.specs.Arguments.{ArgumentText, Argument, ArgumentForm, AreWellFormed, IsValue, SpellAll, positionals_in}
use Rattle.command_words.specs.Options.{name_of}
use Rattle.command_words.specs.Command.{AskForCommand}
use Rattle.command_words.specs.FormNames.{word_of, form_of}
use Rattle.command_words.specs.WordsRefusal.{HasWordsFault}
use Rattle.command_words.specs.declared.command.Command.TheVariants as command
use Rattle.command_words.specs.declared.command_word.CommandWord.TheVariants.{Report}
use Rattle.command_words.specs.declared.opt.Opt.{Opt}
use Rattle.command_words.specs.declared.opt.Opt.TheVariants.{Bits}
use Rattle.command_words.specs.declared.settings.Settings.{Settings}
use Rattle.command_words.specs.declared.words_kind.WordsKind.{WordsKind}
use Rattle.command_words.specs.declared.words_kind.WordsKind.TheVariants.{BadNumber, OutOfLimits, BadChoice, Bound}

-- what is taken where there are options of these names alone, none of them required
abbrev pub options_alone : List ArgumentText → ArgumentForm
options_alone options = record { positionals = []; options = options; required = [] }

-- the words are options of these names, each at most once, and after them one or more names, each of which can be a value
pub record AreOptionsThenNames (options words front names : List ArgumentText) : Type 0 where
  pub parted : words ≡ front ++ names
  pub arguments : List Argument
  pub well_formed : AreWellFormed (options_alone options) front arguments
  pub some_names : 1 ≤ length names
  pub are_names : All IsValue names

-- the words are options of any names, and after them one or more texts that can be values
pub record BeginWithOptions (words front names : List ArgumentText) (arguments : List Argument) : Type 0 where
  pub parted : words ≡ front ++ names
  pub spelled : SpellAll front arguments
  pub no_positionals : positionals_in arguments ≡ []
  pub some_names : 1 ≤ length names
  pub are_names : All IsValue names

-- the names of the options of `report`
abbrev pub report_options : List ArgumentText
report_options = (form_of Report).options

-- these words after `report` ask for a report with these settings
abbrev pub AskForReport : List ArgumentText → Settings → Type 0
AskForReport behind settings = AskForCommand (word_of Report ∷ behind) (command.Report settings)

-- the first fault of these words after `report`
abbrev pub HasReportFault : List ArgumentText → WordsKind → Type 0
HasReportFault behind kind = HasWordsFault (word_of Report ∷ behind) kind

-- the option has one of these names, or it is `bits`, whose limits depend on the capacity too
abbrev pub IsNamedOption : List ArgumentText → Opt → Type 0
IsNamedOption options opt = Contains options (name_of opt) ⊎ (opt ≡ Bits)

-- a fault of the values of options of these names
abbrev pub IsFaultOfOptions : List ArgumentText → WordsKind → Type 0
IsFaultOfOptions options (BadNumber opt) = IsNamedOption options opt
IsFaultOfOptions options (OutOfLimits opt) = IsNamedOption options opt
IsFaultOfOptions options (BadChoice opt) = IsNamedOption options opt
IsFaultOfOptions options Bound = ⊤
IsFaultOfOptions options _ = ⊥
