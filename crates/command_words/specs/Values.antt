-- The values of options and positionals, and the first fault among them.
use Rattle.std.specs.Prelude.{ℕ, ◌≡◌, ◌<◌, ◌⊎◌, Some}
use Rattle.prefix_lattice.specs.declared.grain.Grain.{Grain}
use Rattle.command_words.specs.Arguments.{ArgumentText}
use Rattle.command_words.specs.Options.{OptionKind, kind_of, place_of, IsGood, IsNoNumber}
use Rattle.command_words.specs.Options.{IsOutside, IsNoChoice}
use Rattle.command_words.specs.Settings.{SettingValues, SetsNumber, SetsGrain, GrainFits}
use Rattle.command_words.specs.declared.opt.Opt.{Opt}
use Rattle.command_words.specs.declared.opt.Opt.TheVariants.{Capacity, Bits}
use Rattle.command_words.specs.declared.words_kind.WordsKind.{WordsKind}
use Rattle.command_words.specs.declared.words_kind.WordsKind.TheVariants.{BadNumber, OutOfLimits, BadChoice}

-- each option or positional has a good value, or is missing
abbrev pub AreGood : SettingValues → Type 0
AreGood values = (opt : Opt) → IsGood opt (values opt)

-- the grain that values set fits the capacity that they set
abbrev pub HaveFitGrain : SettingValues → Type 0
HaveFitGrain values =
    (grain : Grain) (capacity : ℕ) → SetsGrain (values Bits) grain → SetsNumber Capacity (values Capacity) capacity
    → GrainFits grain capacity

-- each option or positional before an index has a good value, or is missing, and if the option for the grain is among them,
-- the grain fits the capacity
pub record AreGoodBefore (values : SettingValues) (place : ℕ) : Type 0 where
  pub good : (other : Opt) → place_of other < place → IsGood other (values other)
  pub fits : place_of Bits < place → HaveFitGrain values

-- this option or positional has a bad value, and what is before it is good
pub record IsFirstBad (IsBad : OptionKind → ArgumentText → Type 0) (values : SettingValues) (opt : Opt) : Type 0 where
  pub before : AreGoodBefore values (place_of opt)
  pub text : ArgumentText
  pub value : values opt ≡ Some text
  pub is_bad : IsBad (kind_of opt) text

-- what is before the option for the grain is good, and the grain that it sets doesn't fit the capacity
pub record HaveUnfitGrain (values : SettingValues) : Type 0 where
  pub before : AreGoodBefore values (place_of Bits)
  pub grain : Grain
  pub capacity : ℕ
  pub grain_set : SetsGrain (values Bits) grain
  pub capacity_set : SetsNumber Capacity (values Capacity) capacity
  pub unfit : GrainFits grain capacity → ⊥

-- the first fault of values. A grain that doesn't fit the capacity is outside the limits of the option for the grain
abbrev pub HasValueFault : SettingValues → WordsKind → Type 0
HasValueFault values (BadNumber opt) = IsFirstBad IsNoNumber values opt
HasValueFault values (OutOfLimits opt) = IsFirstBad IsOutside values opt ⊎ ((opt ≡ Bits) × HaveUnfitGrain values)
HasValueFault values (BadChoice opt) = IsFirstBad IsNoChoice values opt
HasValueFault values _ = ⊥
