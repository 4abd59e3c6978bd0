-- The settings that the options of a command line give, and the traffic that its positionals name.
use Rattle.std.specs.Prelude.{ℕ, ◌≡◌, ◌*◌, ◌^◌, ◌<◌, ◌≤◌, Bool, true, false, List, codes, Option, Some, None, if◌then◌else◌}
use Rattle.std.specs.Str.{bytes_eq}
use Rattle.frame_records.specs.declared.weigh.Weigh.{Weigh}
use Rattle.frame_records.specs.declared.weigh.Weigh.TheVariants as weighing
use Rattle.deal_rules.specs.declared.deal_kind.DealKind.{DealKind}
use Rattle.deal_rules.specs.declared.deal_kind.DealKind.TheVariants as dealing
use Rattle.command_words.specs.Arguments.{ArgumentText, Argument, value_of, named}
use Rattle.command_words.specs.FormNames.{form_of}
use Rattle.command_words.specs.Options.{name_of, kind_of, IsNumber, IsAllowed}
use Rattle.command_words.specs.Options.{IsDefault, IsDefaultChoice}
use Rattle.command_words.specs.Options.{capacity_limit, phi_limit}
use Rattle.command_words.specs.Options.{frames_limit}
use Rattle.command_words.specs.Options.{block_limit, workers_limit, callers_limit}
use Rattle.command_words.specs.Options.{rounds_limit}
use Rattle.command_words.specs.declared.command_word.CommandWord.{CommandWord}
use Rattle.command_words.specs.declared.opt.Opt.{Opt}
use Rattle.command_words.specs.declared.opt.Opt.TheVariants.{Seed, Frames, Weigh as ByWeigh, Shards, Capacity, Phi}
use Rattle.command_words.specs.declared.opt.Opt.TheVariants.{Deal}
use Rattle.command_words.specs.declared.opt.Opt.TheVariants.{Block, Workers, Callers, Rounds, Bits, Front}
use Rattle.command_words.specs.declared.settings.Settings.{Settings}
use Rattle.prefix_lattice.specs.{shard_limit, grain_bits}
use Rattle.prefix_lattice.specs.declared.grain.Grain.{Grain}
use Rattle.prefix_lattice.specs.declared.grain.Grain.TheVariants.{Byte, Nibble}
use Rattle.prefix_lattice.specs.{most_grain_capacity}

-- the value of each option or positional that is present
abbrev pub SettingValues : Type 0
SettingValues = Opt → Option ArgumentText

-- the value that the arguments of a command give each option and each positional, by its name
abbrev pub settings_in : CommandWord → List Argument → SettingValues
settings_in command arguments = λ opt. value_of (name_of opt) (named (form_of command).positionals arguments)

-- the path that arguments give for a store
abbrev pub store_setting : List Argument → Option ArgumentText
store_setting arguments = value_of (codes "store") arguments

-- the number that an option sets: the default if the option is missing, else its value, within its limits
abbrev pub SetsNumber : Opt → Option ArgumentText → ℕ → Type 0
SetsNumber opt None value = IsDefault (kind_of opt) value
SetsNumber opt (Some text) value = IsNumber text value × IsAllowed (kind_of opt) value

-- the value of `--weigh` for each way to weigh traffic
abbrev pub weigh_word : Weigh → ArgumentText
weigh_word weighing.Bytes = codes "bytes"
weigh_word weighing.Packets = codes "packets"

-- the value of `--deal` for each kind of dealing
abbrev pub deal_word : DealKind → ArgumentText
deal_word dealing.RoundRobin = codes "round"
deal_word dealing.BySource = codes "source"
deal_word dealing.Free = codes "free"

-- the value of `--front` where a capture is taken up to a cut frame, and where it is not
abbrev pub front_word : Bool → ArgumentText
front_word false = codes "no"
front_word true = codes "yes"

-- how traffic is weighed: by the default if the option is missing
abbrev pub SetsWeigh : Option ArgumentText → Weigh → Type 0
SetsWeigh None weigh = IsDefaultChoice (kind_of ByWeigh) (weigh_word weigh)
SetsWeigh (Some text) weigh = text ≡ weigh_word weigh

-- how records are dealt: by the default if the option is missing
abbrev pub SetsDeal : Option ArgumentText → DealKind → Type 0
SetsDeal None deal = IsDefaultChoice (kind_of Deal) (deal_word deal)
SetsDeal (Some text) deal = text ≡ deal_word deal

-- whether a capture is taken up to a cut frame: by the default if the option is missing
abbrev pub SetsFront : Option ArgumentText → Bool → Type 0
SetsFront None front = IsDefaultChoice (kind_of Front) (front_word front)
SetsFront (Some text) front = text ≡ front_word front

-- whether cuts are saved: exactly if a store is named
abbrev pub SetsStore : Option ArgumentText → Bool → Type 0
SetsStore None store = store ≡ false
SetsStore (Some path) store = store ≡ true

-- how prefixes are kept: by steps of as many bits as the option sets
abbrev pub SetsGrain : Option ArgumentText → Grain → Type 0
SetsGrain told grain = SetsNumber Bits told (grain_bits grain)

-- the grain that an unchecked value of the option tells: half bytes for `4`, and whole bytes for any other or none
abbrev pub grain_told : Option ArgumentText → Grain
grain_told None = Byte
grain_told (Some text) = if bytes_eq text (codes "4") then Nibble else Byte

-- tables of this capacity can be kept by this grain
abbrev pub GrainFits : Grain → ℕ → Type 0
GrainFits grain capacity = capacity ≤ most_grain_capacity grain

-- the settings that the values of options and the path of a store give, with defaults filled in
pub record SetsAll (values : SettingValues) (path : Option ArgumentText) (settings : Settings) : Type 0 where
  pub weigh : SetsWeigh (values ByWeigh) settings.weigh
  pub shards : SetsNumber Shards (values Shards) settings.shards
  pub capacity : SetsNumber Capacity (values Capacity) settings.capacity
  pub phi : SetsNumber Phi (values Phi) settings.phi
  pub deal : SetsDeal (values Deal) settings.deal
  pub block : SetsNumber Block (values Block) settings.block
  pub workers : SetsNumber Workers (values Workers) settings.workers
  pub callers : SetsNumber Callers (values Callers) settings.callers
  pub rounds : SetsNumber Rounds (values Rounds) settings.rounds
  pub grain : SetsGrain (values Bits) settings.grain
  pub front : SetsFront (values Front) settings.front
  pub store : SetsStore path settings.store
  pub fits : GrainFits settings.grain settings.capacity

-- the number that a positional or a required option gives: its value, within its limits
abbrev pub GivesNumber : Opt → Option ArgumentText → ℕ → Type 0
GivesNumber opt None value = ⊥
GivesNumber opt (Some text) value = IsNumber text value × IsAllowed (kind_of opt) value

-- the traffic that values give: the seed that it is made from, and how many frames are made
pub record GivesTraffic (values : SettingValues) (seed frames : ℕ) : Type 0 where
  pub seed_given : GivesNumber Seed (values Seed) seed
  pub frames_given : GivesNumber Frames (values Frames) frames

-- this many frames can be made from this seed
pub record AreForTraffic (seed frames : ℕ) : Type 0 where
  pub is_seed : seed < 2 ^ 64
  pub some_frames : 1 ≤ frames
  pub few_frames : frames ≤ frames_limit

-- tables of this capacity can't hide a prefix of this share, which is at least twice the greatest width of an interval: phi
-- times capacity is at least 2,000,000
abbrev pub HaveWideShare : Settings → Type 0
HaveWideShare settings = 2 * phi_limit ≤ settings.phi * settings.capacity

-- each number of the settings is within its limits, and the grain fits the tables
pub record AreLimited (settings : Settings) : Type 0 where
  pub some_shards : 1 ≤ settings.shards
  pub few_shards : settings.shards ≤ shard_limit
  pub least_capacity : 2 ≤ settings.capacity
  pub most_capacity : settings.capacity ≤ capacity_limit
  pub some_phi : 1 ≤ settings.phi
  pub most_phi : settings.phi ≤ phi_limit
  pub some_block : 1 ≤ settings.block
  pub most_block : settings.block ≤ block_limit
  pub some_workers : 1 ≤ settings.workers
  pub few_workers : settings.workers ≤ workers_limit
  pub few_callers : settings.callers ≤ callers_limit
  pub few_rounds : settings.rounds ≤ rounds_limit
  pub fits : GrainFits settings.grain settings.capacity
