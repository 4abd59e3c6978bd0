-- What some of the values give, and what is wrong with one, which no public contract cites.
use Rattle.std.specs.Prelude.{◌≡◌, Option, Some, None}
use Rattle.prefix_lattice.specs.{HasPrefixFault}
use Rattle.prefix_lattice.specs.declared.grain.Grain.{Grain}
use Rattle.command_words.specs.Arguments.{ArgumentText}
use Rattle.command_words.specs.Options.{kind_of, IsNoNumber}
use Rattle.command_words.specs.Options.{IsOutside, IsNoChoice}
use Rattle.command_words.specs.Settings.{SettingValues, SetsNumber, SetsAll}
use Rattle.command_words.specs.declared.opt.Opt.{Opt}
use Rattle.command_words.specs.declared.opt.Opt.TheVariants.{Seed, Frames, Block, Workers, Callers, Rounds, Limit}
use Rattle.command_words.specs.declared.given.Given.{Given}
use Rattle.command_words.specs.declared.values.Running.{Running}
use Rattle.command_words.specs.declared.words_kind.WordsKind.{WordsKind}
use Rattle.command_words.specs.declared.words_kind.WordsKind.TheVariants.{BadNumber, OutOfLimits, BadChoice, BadPrefix}

-- the fault of a value that should be a number: it is not a number, or it is outside the limits of the option
abbrev pub IsBadNumber : Opt → Option ArgumentText → WordsKind → Type 0
IsBadNumber opt None kind = ⊥
IsBadNumber opt (Some text) (BadNumber at) = (at ≡ opt) × IsNoNumber (kind_of opt) text
IsBadNumber opt (Some text) (OutOfLimits at) = (at ≡ opt) × IsOutside (kind_of opt) text
IsBadNumber opt (Some text) _ = ⊥

-- the fault of a value that should be one of some choices: it is none of the option's choices
abbrev pub IsBadChoice : Opt → Option ArgumentText → WordsKind → Type 0
IsBadChoice opt None kind = ⊥
IsBadChoice opt (Some text) (BadChoice at) = (at ≡ opt) × IsNoChoice (kind_of opt) text
IsBadChoice opt (Some text) _ = ⊥

-- the fault of two texts that spell no prefix of a grain
abbrev pub IsBadPrefix : Grain → ArgumentText → ArgumentText → WordsKind → Type 0
IsBadPrefix grain source dest (BadPrefix fault) = HasPrefixFault grain source dest fault
IsBadPrefix grain source dest _ = ⊥

-- what threads do while records are folded, as the values of options give it, with defaults filled in
pub record SetsRunning (values : SettingValues) (running : Running) : Type 0 where
  pub block : SetsNumber Block (values Block) running.block
  pub workers : SetsNumber Workers (values Workers) running.workers
  pub callers : SetsNumber Callers (values Callers) running.callers
  pub rounds : SetsNumber Rounds (values Rounds) running.rounds

-- what values and the path of a store give, with defaults filled in
pub record SetsGiven (values : SettingValues) (path : Option ArgumentText) (given : Given) : Type 0 where
  pub seed_set : SetsNumber Seed (values Seed) given.seed
  pub frames_set : SetsNumber Frames (values Frames) given.frames
  pub settings_set : SetsAll values path given.settings
  pub limit_set : SetsNumber Limit (values Limit) given.limit
