-- The command that the arguments of a command line ask for.
use Rattle.std.specs.Prelude.{⊤, ℕ, ◌≡◌, ◌^◌, ◌<◌, ◌≤◌, List, [], ◌∷◌, codes, unwrap_or}
use Rattle.prefix_lattice.specs.{IsPrefix, PrefixValue, SpellsPrefix}
use Rattle.prefix_lattice.specs.declared.grain.Grain.{Grain}
use Rattle.prefix_lattice.specs.declared.grain.Grain.TheVariants.{Byte}
use Rattle.watch_rules.specs.declared.rule.Rule.{Rule}
use Rattle.command_words.specs.Arguments.{ArgumentText, Argument, positionals_in, value_of}
use Rattle.command_words.specs.FormNames.{AreWords}
use Rattle.command_words.specs.Settings.{settings_in, store_setting, SetsAll, SetsGrain, grain_told, GivesNumber, GivesTraffic}
use Rattle.command_words.specs.Settings.{HaveWideShare, AreLimited, AreForTraffic}
use Rattle.command_words.specs.declared.command.Command.{Command}
use Rattle.command_words.specs.declared.command_word.CommandWord.{CommandWord}
use Rattle.command_words.specs.declared.command_word.CommandWord.TheVariants.{Weigh, Report, Format, Audit, Make, Demo, Watch}
use Rattle.command_words.specs.declared.opt.Opt.TheVariants.{Bits, Limit}
use Rattle.command_words.specs.declared.settings.Settings.{Settings}
use Rattle.command_words.specs.declared.command.Command.TheVariants as command

-- one side of a prefix that stands for all addresses
abbrev pub whole_side : ArgumentText
whole_side = codes "0.0.0.0/0"

-- one side of the prefix of a rule: the value of the option of this name, or all addresses if the option is missing
abbrev pub side_setting : ArgumentText → List Argument → ArgumentText
side_setting name arguments = unwrap_or (value_of name arguments) whole_side

-- the two sides of the prefix that a command takes: SRC and DST of `weigh`, in this order, or the values of `--src` and
-- `--dst` of `watch`. Other commands take no prefix
abbrev pub HasSides : CommandWord → List Argument → ArgumentText → ArgumentText → Type 0
HasSides Weigh arguments source dest = positionals_in arguments ≡ source ∷ dest ∷ []
HasSides Report arguments source dest = ⊥
HasSides Format arguments source dest = ⊥
HasSides Audit arguments source dest = ⊥
HasSides Make arguments source dest = ⊥
HasSides Demo arguments source dest = ⊥
HasSides Watch arguments source dest =
    (source ≡ side_setting (codes "src") arguments) × (dest ≡ side_setting (codes "dst") arguments)

-- the grain by which the lengths of the prefix are checked, before any value is: for `watch` the grain that the value of
-- `--bits` tells, else whole bytes
abbrev pub prefix_grain : CommandWord → List Argument → Grain
prefix_grain Watch arguments = grain_told (settings_in Watch arguments Bits)
prefix_grain _ arguments = Byte

-- the command line asks for the weight of a prefix
pub record AskToWeigh (words : List ArgumentText) (prefix : PrefixValue) (settings : Settings) : Type 0 where
  pub arguments : List Argument
  pub are_words : AreWords words Weigh arguments
  pub source : ArgumentText
  pub dest : ArgumentText
  pub sides : HasSides Weigh arguments source dest
  pub spelled : SpellsPrefix Byte source dest prefix
  pub set : SetsAll (settings_in Weigh arguments) (store_setting arguments) settings

-- the command line asks for a report
pub record AskToReport (words : List ArgumentText) (settings : Settings) : Type 0 where
  pub arguments : List Argument
  pub are_words : AreWords words Report arguments
  pub set : SetsAll (settings_in Report arguments) (store_setting arguments) settings
  pub wide : HaveWideShare settings

-- the command line asks for an empty store
pub record AskToFormat (words : List ArgumentText) (settings : Settings) : Type 0 where
  pub arguments : List Argument
  pub are_words : AreWords words Format arguments
  pub set : SetsAll (settings_in Format arguments) (store_setting arguments) settings

-- the command line asks for the verdict on each report of a text
pub record AskToAudit (words : List ArgumentText) (settings : Settings) : Type 0 where
  pub arguments : List Argument
  pub are_words : AreWords words Audit arguments
  pub set : SetsAll (settings_in Audit arguments) (store_setting arguments) settings
  pub wide : HaveWideShare settings

-- the command line asks for made traffic
pub record AskToMake (words : List ArgumentText) (seed frames : ℕ) : Type 0 where
  pub arguments : List Argument
  pub are_words : AreWords words Make arguments
  pub made : GivesTraffic (settings_in Make arguments) seed frames

-- the command line asks for a report of made traffic, and the verdict on it
pub record AskToDemo (words : List ArgumentText) (seed frames : ℕ) (settings : Settings) : Type 0 where
  pub arguments : List Argument
  pub are_words : AreWords words Demo arguments
  pub made : GivesTraffic (settings_in Demo arguments) seed frames
  pub set : SetsAll (settings_in Demo arguments) (store_setting arguments) settings
  pub wide : HaveWideShare settings

-- the command line asks for the alarms of a rule over the reports of a text
pub record AskToWatch (words : List ArgumentText) (rule : Rule) (grain : Grain) : Type 0 where
  pub arguments : List Argument
  pub are_words : AreWords words Watch arguments
  pub source : ArgumentText
  pub dest : ArgumentText
  pub sides : HasSides Watch arguments source dest
  pub spelled : SpellsPrefix grain source dest rule.prefix
  pub limit_given : GivesNumber Limit (settings_in Watch arguments Limit) rule.limit
  pub grain_set : SetsGrain (settings_in Watch arguments Bits) grain

-- which command the arguments of a command line ask for
abbrev pub AskForCommand : List ArgumentText → Command → Type 0
AskForCommand words (command.Weigh prefix settings) = AskToWeigh words prefix settings
AskForCommand words (command.Report settings) = AskToReport words settings
AskForCommand words (command.Format settings) = AskToFormat words settings
AskForCommand words (command.Audit settings) = AskToAudit words settings
AskForCommand words (command.Make seed frames) = AskToMake words seed frames
AskForCommand words (command.Demo seed frames settings) = AskToDemo words seed frames settings
AskForCommand words (command.Watch rule grain) = AskToWatch words rule grain

-- the numbers of the command are within their limits, and the tables of a report, an audit or a demo are large enough
-- for their share. A prefix is weighed by whole bytes, and the prefix of a rule is one of the grain
abbrev pub IsLimitedCommand : Command → Type 0
IsLimitedCommand (command.Weigh prefix settings) = AreLimited settings × (settings.grain ≡ Byte) × IsPrefix Byte prefix
IsLimitedCommand (command.Report settings) = AreLimited settings × HaveWideShare settings
IsLimitedCommand (command.Format settings) = AreLimited settings
IsLimitedCommand (command.Audit settings) = AreLimited settings × HaveWideShare settings
IsLimitedCommand (command.Make seed frames) = AreForTraffic seed frames
IsLimitedCommand (command.Demo seed frames settings) = AreForTraffic seed frames × AreLimited settings × HaveWideShare settings
IsLimitedCommand (command.Watch rule grain) = (1 ≤ rule.limit) × (rule.limit < 2 ^ 64) × IsPrefix grain rule.prefix

-- the two sides spell the prefix that the command takes
pub record SpellOwnPrefix (command : CommandWord) (arguments : List Argument) : Type 0 where
  pub source : ArgumentText
  pub dest : ArgumentText
  pub sides : HasSides command arguments source dest
  pub prefix : PrefixValue
  pub spelled : SpellsPrefix (prefix_grain command arguments) source dest prefix

-- the prefix of the command is good, if the command takes one
abbrev pub HasGoodPrefix : CommandWord → List Argument → Type 0
HasGoodPrefix Weigh arguments = SpellOwnPrefix Weigh arguments
HasGoodPrefix Report arguments = ⊤
HasGoodPrefix Format arguments = ⊤
HasGoodPrefix Audit arguments = ⊤
HasGoodPrefix Make arguments = ⊤
HasGoodPrefix Demo arguments = ⊤
HasGoodPrefix Watch arguments = SpellOwnPrefix Watch arguments

-- the tables of the command must be large enough for its share
abbrev pub IsBounded : CommandWord → Type 0
IsBounded Weigh = ⊥
IsBounded Report = ⊤
IsBounded Format = ⊥
IsBounded Audit = ⊤
IsBounded Make = ⊥
IsBounded Demo = ⊤
IsBounded Watch = ⊥
