-- What the words of a command line set is within limits.
use Rattle.std.proofs.Common.{◌≡◌, ◌<◌, ◌≤◌, ◌^◌, ℕ, List, Option, Some, None, false, codes, refl, sym, subst, arith}
use Rattle.std.specs.List.{list_any}
use Rattle.std.specs.Str.{bytes_eq}
use Rattle.prefix_lattice.specs.{IsPrefix, PrefixValue, SpellsPrefix}
use Rattle.prefix_lattice.specs.declared.grain.Grain.{Grain}
use Rattle.prefix_lattice.specs.declared.grain.Grain.TheVariants.{Byte}
use Rattle.command_words.specs.Arguments.{ArgumentText, Argument, AreOfForm}
use Rattle.command_words.specs.FormNames.{form_of}
use Rattle.command_words.specs.Options.{OptionKind, number, kind_of, IsAllowed, frames_limit}
use Rattle.command_words.specs.Options.{IsDefault}
use Rattle.command_words.specs.Settings.{SettingValues, SetsNumber, SetsAll, SetsGrain, GivesNumber, settings_in, store_setting}
use Rattle.command_words.specs.Settings.{GivesTraffic, AreLimited}
use Rattle.command_words.specs.Settings.{AreForTraffic}
use Rattle.command_words.specs.Command.{AskForCommand, IsLimitedCommand}
use Rattle.command_words.specs.declared.command.Command.{Command}
use Rattle.command_words.specs.declared.command.Command.TheVariants.{Weigh, Report, Format, Audit, Make, Demo, Watch}
use Rattle.command_words.specs.declared.opt.Opt.{Opt}
use Rattle.command_words.specs.declared.opt.Opt.TheVariants.{Seed, Frames, Shards, Capacity, Phi, Block, Workers}
use Rattle.command_words.specs.declared.opt.Opt.TheVariants.{Callers, Rounds, Bits, Limit}
use Rattle.command_words.specs.declared.settings.Settings.{Settings}
use Rattle.command_words.specs.declared.command_word.CommandWord.{CommandWord}
use Rattle.command_words.specs.declared.command_word.CommandWord.TheVariants.{Weigh as WeighWord}
use Rattle.command_words.proofs.GivenLemmas.{not_given_outside_form}
use Rattle.command_words.proofs.OneValueFaultLemmas.{one_value_sets_one_grain}

-- a number that an option sets is within its limits, if the default is
set_number_is_in_limits : (opt : Opt) (default least greatest : ℕ) (text : Option ArgumentText) (value : ℕ)
    → kind_of opt ≡ number least greatest default → least ≤ default → default ≤ greatest
    → SetsNumber opt text value → (least ≤ value) × (value ≤ greatest)
set_number_is_in_limits opt default least greatest None value kind low high set =
    let same : value ≡ default = subst (λ (k : OptionKind). IsDefault k value) kind set in
    (subst (λ n. least ≤ n) (sym same) low, subst (λ n. n ≤ greatest) (sym same) high)
set_number_is_in_limits opt default least greatest (Some text) value kind low high set =
    subst (λ (k : OptionKind). IsAllowed k value) kind set.1

-- settings that values set are within their limits
set_settings_are_in_limits : (values : SettingValues) (path : Option ArgumentText) (settings : Settings) → SetsAll values path settings
    → AreLimited settings
set_settings_are_in_limits values path settings set =
    let shards = set_number_is_in_limits Shards 4 1 16 (values Shards) settings.shards refl (omega arith) (omega arith) set.shards in
    let capacity =
    set_number_is_in_limits Capacity 512 2 4096 (values Capacity) settings.capacity refl (omega arith) (omega arith)
    set.capacity in
    let phi = set_number_is_in_limits Phi 10000 1 1000000 (values Phi) settings.phi refl (omega arith) (omega arith) set.phi in
    let block =
    set_number_is_in_limits Block 1024 1 65536 (values Block) settings.block refl (omega arith) (omega arith) set.block in
    let workers =
    set_number_is_in_limits Workers 4 1 16 (values Workers) settings.workers refl (omega arith) (omega arith) set.workers in
    let callers =
    set_number_is_in_limits Callers 0 0 8 (values Callers) settings.callers refl (omega arith) (omega arith) set.callers in
    let rounds =
    set_number_is_in_limits Rounds 0 0 32 (values Rounds) settings.rounds refl (omega arith) (omega arith) set.rounds in
    record {
      some_shards = shards.0;
      few_shards = shards.1;
      least_capacity = capacity.0;
      most_capacity = capacity.1;
      some_phi = phi.0;
      most_phi = phi.1;
      some_block = block.0;
      most_block = block.1;
      some_workers = workers.0;
      few_workers = workers.1;
      few_callers = callers.1;
      few_rounds = rounds.1;
      fits = set.fits;
    }

-- a number that is given is below 2^64, and within its limits
given_number_has_limit : (opt : Opt) (text : Option ArgumentText) (value : ℕ) → GivesNumber opt text value → value < 2 ^ 64
given_number_has_limit opt None value gives = absurd gives
given_number_has_limit opt (Some text) value gives = gives.0.bounded

given_number_is_in_limits : (opt : Opt) (least greatest default : ℕ) (text : Option ArgumentText) (value : ℕ)
    → kind_of opt ≡ number least greatest default → GivesNumber opt text value → (least ≤ value) × (value ≤ greatest)
given_number_is_in_limits opt least greatest default None value kind gives = absurd gives
given_number_is_in_limits opt least greatest default (Some text) value kind gives = subst (λ (k : OptionKind). IsAllowed k value) kind gives.1

-- traffic that values give can be made
given_traffic_is_in_limits : (values : SettingValues) (seed frames : ℕ) → GivesTraffic values seed frames → AreForTraffic seed frames
given_traffic_is_in_limits values seed frames gives =
    let within = given_number_is_in_limits Frames 1 frames_limit 1 (values Frames) frames refl gives.frames_given in
    record {
      is_seed = given_number_has_limit Seed (values Seed) seed gives.seed_given;
      some_frames = within.0;
      few_frames = within.1;
    }

-- a command without the option for the grain goes by whole bytes
settings_without_bits_are_in_limits : (word : CommandWord) (arguments : List Argument) (settings : Settings) → AreOfForm (form_of word) arguments
    → list_any (λ other. bytes_eq other (codes "bits")) (form_of word).positionals ≡ false
    → list_any (λ other. bytes_eq other (codes "bits")) (form_of word).options ≡ false
    → SetsAll (settings_in word arguments) (store_setting arguments) settings → settings.grain ≡ Byte
settings_without_bits_are_in_limits word arguments settings of_form apart lacks set =
    one_value_sets_one_grain None settings.grain Byte
    (subst (λ told. SetsGrain told settings.grain) (not_given_outside_form word arguments Bits of_form apart lacks) set.grain) refl

-- a prefix that two texts spell is of its grain
spelled_prefix_is_in_limits : {grain : Grain} {source dest : ArgumentText} {prefix : PrefixValue} → SpellsPrefix grain source dest prefix
    → IsPrefix grain prefix
spelled_prefix_is_in_limits spelled = record {
  source = spelled.source.leading;
  dest = spelled.dest.leading;
  source_steps = spelled.source.steps;
  dest_steps = spelled.dest.steps;
}

-- so the settings of what is asked for are
pub asked_command_is_in_limits : (words : List ArgumentText) (command : Command) → AskForCommand words command → IsLimitedCommand command
asked_command_is_in_limits words (Weigh prefix settings) asked = (
  set_settings_are_in_limits _ _ settings asked.set,
  settings_without_bits_are_in_limits WeighWord asked.arguments settings asked.are_words.well_formed.of_form refl refl asked.set,
  spelled_prefix_is_in_limits asked.spelled,
)
asked_command_is_in_limits words (Report settings) asked = (set_settings_are_in_limits _ _ settings asked.set, asked.wide)
asked_command_is_in_limits words (Format settings) asked = set_settings_are_in_limits _ _ settings asked.set
asked_command_is_in_limits words (Audit settings) asked = (set_settings_are_in_limits _ _ settings asked.set, asked.wide)
asked_command_is_in_limits words (Make seed frames) asked = given_traffic_is_in_limits _ seed frames asked.made
asked_command_is_in_limits words (Demo seed frames settings) asked =
    (given_traffic_is_in_limits _ seed frames asked.made, set_settings_are_in_limits _ _ settings asked.set, asked.wide)
asked_command_is_in_limits words (Watch rule grain) asked = (
  rule.some,
  given_number_has_limit Limit _ rule.limit asked.limit_given,
  spelled_prefix_is_in_limits asked.spelled,
)
