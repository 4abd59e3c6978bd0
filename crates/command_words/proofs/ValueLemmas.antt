-- Values that options may have, and the first one that is bad.
use Rattle.std.proofs.Common.{◌≡◌, ◌<◌, ◌≤◌, ◌⊎◌, inl, inr, ◌==◌, ℕ, suc, Bool, true, false, Option, Some, None, refl, sym, ap}
use Rattle.std.proofs.Common.{◌∙◌, subst, arith}
use Rattle.std.specs.Prelude.{if◌then◌else◌}
use Rattle.std.proofs.lemmas.Bool.{cases_lt}
use Rattle.frame_records.specs.declared.weigh.Weigh.{Weigh}
use Rattle.deal_rules.specs.declared.deal_kind.DealKind.{DealKind}
use Rattle.command_words.specs.Arguments.{ArgumentText}
use Rattle.command_words.specs.Options.{OptionKind, number, few_numbers, choice, kind_of, place_of, IsNumber}
use Rattle.command_words.specs.Options.{IsAllowed, IsGoodText}
use Rattle.command_words.specs.Options.{IsGood, IsNoNumber, IsNoChoice, IsOutside}
use Rattle.command_words.specs.Settings.{SettingValues, SetsNumber, SetsWeigh, SetsDeal, SetsGrain, SetsFront}
use Rattle.prefix_lattice.specs.declared.grain.Grain.{Grain}
use Rattle.prefix_lattice.specs.{grain_bits}
use Rattle.command_words.specs.Values.{HaveFitGrain, AreGoodBefore, IsFirstBad, HasValueFault}
use Rattle.command_words.specs.Given.{IsBadNumber, IsBadChoice}
use Rattle.command_words.specs.declared.opt.Opt.{Opt}
use Rattle.command_words.specs.declared.words_kind.WordsKind.{WordsKind}
use Rattle.command_words.specs.declared.words_kind.WordsKind.TheVariants.{BadNumber, OutOfLimits, BadChoice}
use Rattle.frame_records.specs.declared.weigh.Weigh.TheVariants as weighing
use Rattle.deal_rules.specs.declared.deal_kind.DealKind.TheVariants as dealing
use Rattle.command_words.specs.declared.opt.Opt.TheVariants as opt

-- the option at an index
abbrev value_checked_at : ℕ → Opt
value_checked_at place =
    if place == 0 then opt.Seed else if place == 1 then opt.Frames else if place == 2 then opt.Weigh else
    if place == 3 then opt.Shards else if place == 4 then opt.Capacity else if place == 5 then opt.Phi else
    if place == 6 then opt.Deal else if place == 7 then opt.Block else if place == 8 then opt.Workers else
    if place == 9 then opt.Callers else if place == 10 then opt.Rounds else if place == 11 then opt.Bits else
    if place == 12 then opt.Front else opt.Limit

value_checked_at-own : (opt : Opt) → value_checked_at (place_of opt) ≡ opt
value_checked_at-own opt.Seed = refl
value_checked_at-own opt.Frames = refl
value_checked_at-own opt.Weigh = refl
value_checked_at-own opt.Shards = refl
value_checked_at-own opt.Capacity = refl
value_checked_at-own opt.Phi = refl
value_checked_at-own opt.Deal = refl
value_checked_at-own opt.Block = refl
value_checked_at-own opt.Workers = refl
value_checked_at-own opt.Callers = refl
value_checked_at-own opt.Rounds = refl
value_checked_at-own opt.Bits = refl
value_checked_at-own opt.Front = refl
value_checked_at-own opt.Limit = refl

-- options with equal indexes are equal
pub value_check_tells_option : (opt other : Opt) → place_of opt ≡ place_of other → opt ≡ other
value_check_tells_option opt other same = sym (value_checked_at-own opt) ∙ ap value_checked_at same ∙ value_checked_at-own other

-- there is no option before index 0
pub values_before_first_are_good : (values : SettingValues) → AreGoodBefore values 0
values_before_first_are_good values = record {
  good = λ other before. absurd (omega (arith, before));
  fits = λ behind. absurd (omega (arith, behind));
}

-- if the values before an option and its own value are good, so is each before the next index
values_up_to_next_are_good : (values : SettingValues) (opt : Opt) (told : Option ArgumentText) → values opt ≡ told
    → AreGoodBefore values (place_of opt) → IsGood opt told
    → (other : Opt) → place_of other < suc (place_of opt) → IsGood other (values other)
values_up_to_next_are_good values opt told same before good other below = go (cases_lt (place_of other) (place_of opt))
  where
    go : (place_of other < place_of opt) ⊎ (place_of opt ≤ place_of other) → IsGood other (values other)
    go (inl under) = before.good other under
    go (inr over) =
        subst (λ o. IsGood o (values o)) (value_check_tells_option opt other (omega arith))
        (subst (λ t. IsGood opt t) (sym same) good)

-- so are the values before the next index, if the option for the grain is behind
pub values_before_next_are_good : (values : SettingValues) (at : Opt) → place_of at < place_of opt.Bits
    → (told : Option ArgumentText) → values at ≡ told → AreGoodBefore values (place_of at) → IsGood at told
    → AreGoodBefore values (suc (place_of at))
values_before_next_are_good values at early told same before good = record {
  good = values_up_to_next_are_good values at told same before good;
  fits = λ behind. absurd (omega (arith, early, behind));
}

-- a number that an option may have is good
allowed_value_is_good : (kind : OptionKind) (text : ArgumentText) (value : ℕ) → IsNumber text value → IsAllowed kind value
    → IsGoodText kind text
allowed_value_is_good (number least greatest default) text value is_number allowed = (value, is_number, allowed)
allowed_value_is_good (few_numbers default others) text value is_number allowed = (value, is_number, allowed)
allowed_value_is_good (choice default others) text value is_number allowed = absurd allowed

-- a number that is set is good
pub numeric_value_is_good : (opt : Opt) (told : Option ArgumentText) (value : ℕ) → SetsNumber opt told value
    → IsGood opt told
numeric_value_is_good opt None value sets = tt
numeric_value_is_good opt (Some text) value sets = allowed_value_is_good (kind_of opt) text value sets.0 sets.1

-- a way to weigh that is set is good
pub weigh_value_is_good : (told : Option ArgumentText) (weigh : Weigh) → SetsWeigh told weigh → IsGood opt.Weigh told
weigh_value_is_good None weigh sets = tt
weigh_value_is_good (Some text) weighing.Bytes sets = (0, omega arith, sym sets)
weigh_value_is_good (Some text) weighing.Packets sets = (1, omega arith, sym sets)

-- a way to deal that is set is good
pub deal_value_is_good : (told : Option ArgumentText) (deal : DealKind) → SetsDeal told deal → IsGood opt.Deal told
deal_value_is_good None deal sets = tt
deal_value_is_good (Some text) dealing.RoundRobin sets = (0, omega arith, sym sets)
deal_value_is_good (Some text) dealing.BySource sets = (1, omega arith, sym sets)
deal_value_is_good (Some text) dealing.Free sets = (2, omega arith, sym sets)

-- if a capture is taken up to a cut frame, or not, by a value, that is good
pub front_value_is_good : (told : Option ArgumentText) (front : Bool) → SetsFront told front → IsGood opt.Front told
front_value_is_good None front sets = tt
front_value_is_good (Some text) false sets = (0, omega arith, sym sets)
front_value_is_good (Some text) true sets = (1, omega arith, sym sets)

-- a grain that is set and fits is good, and so are the values before the next option
pub values_before_front_are_good : (values : SettingValues) (grain : Grain) → AreGoodBefore values (place_of opt.Bits)
    → SetsGrain (values opt.Bits) grain → HaveFitGrain values → AreGoodBefore values (place_of opt.Front)
values_before_front_are_good values grain before grain_set fit = record {
  good =
      values_up_to_next_are_good values opt.Bits (values opt.Bits) refl before
      (numeric_value_is_good opt.Bits (values opt.Bits) (grain_bits grain) grain_set);
  fits = λ behind. fit;
}

-- a bad number is the first fault, if all values before it are good
pub bad_numeric_value_is_first : (values : SettingValues) (opt : Opt) (told : Option ArgumentText)
    (kind : WordsKind) → values opt ≡ told → AreGoodBefore values (place_of opt)
    → IsBadNumber opt told kind → HasValueFault values kind
bad_numeric_value_is_first values opt None kind same before bad = absurd bad
bad_numeric_value_is_first values opt (Some text) (BadNumber at) same before bad =
    subst (λ o. IsFirstBad IsNoNumber values o) (sym bad.0) record
    { before = before; text = text; value = same; is_bad = bad.1 }
bad_numeric_value_is_first values opt (Some text) (OutOfLimits at) same before bad =
    inl (subst (λ o. IsFirstBad IsOutside values o) (sym bad.0) record
    { before = before; text = text; value = same; is_bad = bad.1 })
bad_numeric_value_is_first values opt (Some text) _ same before bad = absurd bad

-- a bad choice is the first fault, if all values before it are good
pub bad_choice_value_is_first : (values : SettingValues) (opt : Opt) (told : Option ArgumentText)
    (kind : WordsKind) → values opt ≡ told → AreGoodBefore values (place_of opt)
    → IsBadChoice opt told kind → HasValueFault values kind
bad_choice_value_is_first values opt None kind same before bad = absurd bad
bad_choice_value_is_first values opt (Some text) (BadChoice at) same before bad =
    subst (λ o. IsFirstBad IsNoChoice values o) (sym bad.0) record
    { before = before; text = text; value = same; is_bad = bad.1 }
bad_choice_value_is_first values opt (Some text) _ same before bad = absurd bad
