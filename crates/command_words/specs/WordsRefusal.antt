-- The first fault of the arguments of a command line.
use Rattle.std.specs.Prelude.{◌≡◌, ◌≢◌, List, [], ◌∷◌}
use Rattle.prefix_lattice.specs.{HasPrefixFault}
use Rattle.prefix_lattice.specs.declared.prefix_fault.PrefixFault.{PrefixFault}
use Rattle.command_words.specs.Arguments.{ArgumentText, Argument, AreWellFormed}
use Rattle.command_words.specs.FormNames.{word_of, form_of, AreWords}
use Rattle.command_words.specs.Settings.{settings_in, store_setting, SetsAll, HaveWideShare}
use Rattle.command_words.specs.declared.command_word.CommandWord.{CommandWord}
use Rattle.command_words.specs.declared.settings.Settings.{Settings}
use Rattle.command_words.specs.declared.words_kind.WordsKind.{WordsKind}
use Rattle.command_words.specs.declared.words_kind.WordsKind.TheVariants.{NoCommand, UnknownCommand, Refused, BadPrefix}
use Rattle.command_words.specs.declared.words_kind.WordsKind.TheVariants.{BadNumber, OutOfLimits, BadChoice, Bound}
use Rattle.command_words.specs.Command.{HasSides, prefix_grain, HasGoodPrefix, IsBounded}
use Rattle.command_words.specs.Values.{AreGood, HasValueFault}

-- the two sides of the prefix that the command takes have this fault
pub record HasBadPrefix (words : List ArgumentText) (fault : PrefixFault) : Type 0 where
  pub command : CommandWord
  pub arguments : List Argument
  pub are_words : AreWords words command arguments
  pub source : ArgumentText
  pub dest : ArgumentText
  pub sides : HasSides command arguments source dest
  pub has_fault : HasPrefixFault (prefix_grain command arguments) source dest fault

-- the arguments are well formed, the prefix that the command takes is good, and this is the first fault of their values
pub record HasBadValue (words : List ArgumentText) (kind : WordsKind) : Type 0 where
  pub command : CommandWord
  pub arguments : List Argument
  pub are_words : AreWords words command arguments
  pub good_prefix : HasGoodPrefix command arguments
  pub has_fault : HasValueFault (settings_in command arguments) kind

-- each value is good, the grain fits, and the tables are too small for the share, though the command needs them to be
-- large enough
pub record HasNarrowTables (words : List ArgumentText) : Type 0 where
  pub command : CommandWord
  pub bounded : IsBounded command
  pub arguments : List Argument
  pub are_words : AreWords words command arguments
  pub good : AreGood (settings_in command arguments)
  pub settings : Settings
  pub set : SetsAll (settings_in command arguments) (store_setting arguments) settings
  pub narrow : HaveWideShare settings → ⊥

-- the first fault of the arguments: the command, then their form, then the prefix, then the values in the order
-- of the options, then the bound on phi times the capacity
abbrev pub HasWordsFault : List ArgumentText → WordsKind → Type 0
HasWordsFault words NoCommand = words ≡ []
HasWordsFault words UnknownCommand =
    (first : ArgumentText) × (behind : List ArgumentText) × (words ≡ first ∷ behind)
    × ((command : CommandWord) → first ≢ word_of command)
HasWordsFault words Refused =
    (command : CommandWord) × (behind : List ArgumentText) × (words ≡ word_of command ∷ behind)
    × ((arguments : List Argument) → AreWellFormed (form_of command) behind arguments → ⊥)
HasWordsFault words (BadPrefix fault) = HasBadPrefix words fault
HasWordsFault words (BadNumber opt) = HasBadValue words (BadNumber opt)
HasWordsFault words (OutOfLimits opt) = HasBadValue words (OutOfLimits opt)
HasWordsFault words (BadChoice opt) = HasBadValue words (BadChoice opt)
HasWordsFault words Bound = HasNarrowTables words
