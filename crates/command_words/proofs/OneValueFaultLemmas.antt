-- Values set at most one thing, or have at most one first fault, and never both.
use Rattle.std.proofs.Common.{◌≡◌, ◌<◌, ◌≤◌, ◌⊎◌, inl, inr, ℕ, Bool, true, false, Option, Some, None, refl, sym, ap, ◌∙◌, subst}
use Rattle.std.proofs.Common.{arith}
use Rattle.std.specs.Prelude.{◌∷◌, Contains}
use Rattle.std.proofs.lemmas.Bool.{cases_lt}
use Rattle.std.proofs.lemmas.Fmt.{decimal_injective}
use Rattle.std.proofs.lemmas.Option.{same_Some}
use Rattle.std.specs.Coded.{le_prop}
use Rattle.std.specs.Fmt.{digits}
use Rattle.prefix_lattice.specs.{grain_bits}
use Rattle.prefix_lattice.specs.declared.grain.Grain.{Grain}
use Rattle.prefix_lattice.specs.declared.grain.Grain.TheVariants.{Byte, Nibble}
use Rattle.frame_records.specs.declared.weigh.Weigh.{Weigh}
use Rattle.deal_rules.specs.declared.deal_kind.DealKind.{DealKind}
use Rattle.command_words.specs.Arguments.{ArgumentText}
use Rattle.command_words.specs.Options.{OptionKind, number, few_numbers, choice, kind_of, place_of, IsNumber}
use Rattle.command_words.specs.Options.{IsDefault, IsGoodText, IsGood}
use Rattle.command_words.specs.Options.{IsNoNumber, IsNoChoice, IsOutside}
use Rattle.command_words.specs.Settings.{SettingValues, SetsNumber, SetsWeigh, SetsDeal}
use Rattle.command_words.specs.Settings.{SetsStore, SetsAll, SetsGrain, SetsFront, GrainFits, grain_told}
use Rattle.command_words.specs.Settings.{weigh_word, deal_word, front_word}
use Rattle.command_words.specs.Values.{AreGood, AreGoodBefore, HaveFitGrain, HaveUnfitGrain, IsFirstBad, HasValueFault}
use Rattle.command_words.specs.Given.{SetsGiven}
use Rattle.command_words.specs.declared.opt.Opt.{Opt}
use Rattle.command_words.specs.declared.settings.Settings.{Settings}
use Rattle.command_words.specs.declared.given.Given.{Given}
use Rattle.command_words.specs.declared.words_kind.WordsKind.{WordsKind}
use Rattle.command_words.specs.declared.words_kind.WordsKind.TheVariants.{BadNumber, OutOfLimits, BadChoice}
use Rattle.command_words.proofs.ValueLemmas.{value_check_tells_option, numeric_value_is_good, weigh_value_is_good}
use Rattle.command_words.proofs.ValueLemmas.{deal_value_is_good, front_value_is_good}
use Rattle.frame_records.specs.declared.weigh.Weigh.TheVariants as weighing
use Rattle.deal_rules.specs.declared.deal_kind.DealKind.TheVariants as dealing
use Rattle.command_words.specs.declared.opt.Opt.TheVariants as opt

-- a text is at most one number
one_value_per_number_text : (text : ArgumentText) (value other : ℕ) → IsNumber text value → IsNumber text other → value ≡ other
one_value_per_number_text text value other one two =
    decimal_injective value other one.bounded two.bounded (sym one.spelled ∙ two.spelled)

-- a value that is bad in this way is never good
abbrev IsValueFault : (OptionKind → ArgumentText → Type 0) → Type 0
IsValueFault IsBad = (kind : OptionKind) (text : ArgumentText) → IsGoodText kind text → IsBad kind text → ⊥

-- a text that is no number is not good
no_number_is_value_fault : IsValueFault IsNoNumber
no_number_is_value_fault (number least greatest default) text good bad = bad good.0 good.1
no_number_is_value_fault (few_numbers default others) text good bad = bad good.0 good.1
no_number_is_value_fault (choice default others) text good bad = bad

-- a number outside the limits is not good
outside_is_value_fault : IsValueFault IsOutside
outside_is_value_fault (number least greatest default) text good bad = go (one_value_per_number_text text good.0 bad.0 good.1 bad.1) bad.2
  where
    go : good.0 ≡ bad.0 → (bad.0 < least) ⊎ (greatest < bad.0) → ⊥
    go same (inl below) = omega (arith, good.2)
    go same (inr above) = omega (arith, good.2)
outside_is_value_fault (few_numbers default others) text good bad =
    bad.2 (subst (Contains (default ∷ others)) (one_value_per_number_text text good.0 bad.0 good.1 bad.1) good.2)
outside_is_value_fault (choice default others) text good bad = bad

-- a text that is none of the choices is not good
no_choice_is_value_fault : IsValueFault IsNoChoice
no_choice_is_value_fault (number least greatest default) text good bad = bad
no_choice_is_value_fault (few_numbers default others) text good bad = bad
no_choice_is_value_fault (choice default others) text good bad = bad good

-- no value is bad in both of these ways
abbrev AreApartValueFaults : (OptionKind → ArgumentText → Type 0) → (OptionKind → ArgumentText → Type 0) → Type 0
AreApartValueFaults IsBad IsWorse = (kind : OptionKind) (text : ArgumentText) → IsBad kind text → IsWorse kind text → ⊥

-- a text that is no number is not a number outside the limits
value_fault_number_or_outside : AreApartValueFaults IsNoNumber IsOutside
value_fault_number_or_outside (number least greatest default) text bad worse = bad worse.0 worse.1
value_fault_number_or_outside (few_numbers default others) text bad worse = bad worse.0 worse.1
value_fault_number_or_outside (choice default others) text bad worse = bad

-- no option takes both numbers and choices
value_fault_number_or_choice : AreApartValueFaults IsNoNumber IsNoChoice
value_fault_number_or_choice (number least greatest default) text bad worse = worse
value_fault_number_or_choice (few_numbers default others) text bad worse = worse
value_fault_number_or_choice (choice default others) text bad worse = bad

value_fault_outside_or_choice : AreApartValueFaults IsOutside IsNoChoice
value_fault_outside_or_choice (number least greatest default) text bad worse = worse
value_fault_outside_or_choice (few_numbers default others) text bad worse = worse
value_fault_outside_or_choice (choice default others) text bad worse = bad

-- an option with a bad value has no good one
value_fault_is_not_good : (IsBad : OptionKind → ArgumentText → Type 0) (values : SettingValues) (opt : Opt) → IsValueFault IsBad
    → IsFirstBad IsBad values opt → IsGood opt (values opt) → ⊥
value_fault_is_not_good IsBad values opt is_no_good bad good =
    is_no_good (kind_of opt) bad.text (subst (λ told. IsGood opt told) bad.value good) bad.is_bad

-- two first bad values are those of the same option
value_faults_at_one_place : (IsBad IsWorse : OptionKind → ArgumentText → Type 0) (values : SettingValues) (opt other : Opt) → IsValueFault IsBad
    → IsValueFault IsWorse
    → IsFirstBad IsBad values opt → IsFirstBad IsWorse values other → opt ≡ other
value_faults_at_one_place IsBad IsWorse values opt other bad_no_good worse_no_good bad worse =
    go (cases_lt (place_of opt) (place_of other)) (cases_lt (place_of other) (place_of opt))
  where
    go : (place_of opt < place_of other) ⊎ (place_of other ≤ place_of opt)
        → (place_of other < place_of opt) ⊎ (place_of opt ≤ place_of other) → opt ≡ other
    go (inl before) behind = absurd (value_fault_is_not_good IsBad values opt bad_no_good bad (worse.before.good opt before))
    go (inr after) (inl before) =
        absurd (value_fault_is_not_good IsWorse values other worse_no_good worse (bad.before.good other before))
    go (inr after) (inr before) = value_check_tells_option opt other (omega arith)

-- an option's value is not bad in two ways that exclude each other
value_fault_of_one_option : (IsBad IsWorse : OptionKind → ArgumentText → Type 0) (values : SettingValues) (opt : Opt) → AreApartValueFaults IsBad IsWorse
    → IsFirstBad IsBad values opt → IsFirstBad IsWorse values opt → ⊥
value_fault_of_one_option IsBad IsWorse values opt apart bad worse =
    apart (kind_of opt) bad.text bad.is_bad
    (subst (λ t. IsWorse (kind_of opt) t) (same_Some worse.text bad.text (sym worse.value ∙ bad.value)) worse.is_bad)

-- values don't have two first faults that exclude each other
value_faults_in_one_way : (IsBad IsWorse : OptionKind → ArgumentText → Type 0) (values : SettingValues) (opt other : Opt) → IsValueFault IsBad
    → IsValueFault IsWorse → AreApartValueFaults IsBad IsWorse
    → IsFirstBad IsBad values opt → IsFirstBad IsWorse values other → ⊥
value_faults_in_one_way IsBad IsWorse values opt other bad_no_good worse_no_good apart bad worse =
    value_fault_of_one_option IsBad IsWorse values opt apart bad
    (subst (λ o. IsFirstBad IsWorse values o)
    (sym (value_faults_at_one_place IsBad IsWorse values opt other bad_no_good worse_no_good bad worse)) worse)

-- where a value is the first bad one, the grain fits or is not looked at
value_fault_or_unfit_grain : (IsBad : OptionKind → ArgumentText → Type 0) (values : SettingValues) (at : Opt) → IsValueFault IsBad
    → IsFirstBad IsBad values at → HaveUnfitGrain values → ⊥
value_fault_or_unfit_grain IsBad values at is_no_good bad wrong =
    go (cases_lt (place_of at) (place_of opt.Bits)) (cases_lt (place_of opt.Bits) (place_of at))
  where
    go : (place_of at < place_of opt.Bits) ⊎ (place_of opt.Bits ≤ place_of at)
        → (place_of opt.Bits < place_of at) ⊎ (place_of at ≤ place_of opt.Bits) → ⊥
    go (inl before) behind = value_fault_is_not_good IsBad values at is_no_good bad (wrong.before.good at before)
    go (inr after) (inl behind) =
        wrong.unfit (bad.before.fits behind wrong.grain wrong.capacity wrong.grain_set wrong.capacity_set)
    go (inr after) (inr before) =
        value_fault_is_not_good IsBad values opt.Bits is_no_good
        (subst (λ o. IsFirstBad IsBad values o) (value_check_tells_option at opt.Bits (omega (arith, after, before))) bad)
        (numeric_value_is_good opt.Bits (values opt.Bits) (grain_bits wrong.grain) wrong.grain_set)

-- values that are all good have no fault but a grain that doesn't fit
good_values_have_no_first_bad : (IsBad : OptionKind → ArgumentText → Type 0) (values : SettingValues) (at : Opt) → IsValueFault IsBad
    → AreGood values → IsFirstBad IsBad values at → ⊥
good_values_have_no_first_bad IsBad values at is_no_good good bad =
    value_fault_is_not_good IsBad values at is_no_good bad (good at)

-- what values say of a number outside the limits, or of a grain that doesn't fit
abbrev IsFaultOutsideLimits : SettingValues → Opt → Type 0
IsFaultOutsideLimits values at = HasValueFault values (OutOfLimits at)

-- such a fault comes beside no text that is no number
value_fault_number_or_limits : (values : SettingValues) (at place : Opt) → IsFirstBad IsNoNumber values at
    → IsFaultOutsideLimits values place → ⊥
value_fault_number_or_limits values at place bad (inl worse) =
    value_faults_in_one_way IsNoNumber IsOutside values at place no_number_is_value_fault outside_is_value_fault
    value_fault_number_or_outside bad worse
value_fault_number_or_limits values at place bad (inr unfit) =
    value_fault_or_unfit_grain IsNoNumber values at no_number_is_value_fault bad unfit.1

-- and beside no text that is no choice
value_fault_choice_or_limits : (values : SettingValues) (at place : Opt) → IsFirstBad IsNoChoice values at
    → IsFaultOutsideLimits values place → ⊥
value_fault_choice_or_limits values at place bad (inl worse) =
    value_faults_in_one_way IsOutside IsNoChoice values place at outside_is_value_fault no_choice_is_value_fault
    value_fault_outside_or_choice worse bad
value_fault_choice_or_limits values at place bad (inr unfit) =
    value_fault_or_unfit_grain IsNoChoice values at no_choice_is_value_fault bad unfit.1

-- two such faults are those of the same option
one_fault_outside_limits : (values : SettingValues) (at place : Opt) → IsFaultOutsideLimits values at
    → IsFaultOutsideLimits values place → at ≡ place
one_fault_outside_limits values at place (inl one) (inl two) =
    value_faults_at_one_place IsOutside IsOutside values at place outside_is_value_fault outside_is_value_fault one two
one_fault_outside_limits values at place (inl one) (inr two) =
    absurd (value_fault_or_unfit_grain IsOutside values at outside_is_value_fault one two.1)
one_fault_outside_limits values at place (inr one) (inl two) =
    absurd (value_fault_or_unfit_grain IsOutside values place outside_is_value_fault two one.1)
one_fault_outside_limits values at place (inr one) (inr two) = one.0 ∙ sym two.0

-- values have at most one first fault
pub one_value_fault : (values : SettingValues) (kind other : WordsKind) → HasValueFault values kind
    → HasValueFault values other → kind ≡ other
one_value_fault values (BadNumber at) (BadNumber place) one two =
    ap BadNumber (value_faults_at_one_place IsNoNumber IsNoNumber values at place no_number_is_value_fault no_number_is_value_fault one two)
one_value_fault values (BadNumber at) (OutOfLimits place) one two = absurd (value_fault_number_or_limits values at place one two)
one_value_fault values (BadNumber at) (BadChoice place) one two =
    absurd (value_faults_in_one_way IsNoNumber IsNoChoice values at place no_number_is_value_fault no_choice_is_value_fault
    value_fault_number_or_choice one two)
one_value_fault values (BadNumber at) _ one two = absurd two
one_value_fault values (OutOfLimits at) (BadNumber place) one two = absurd (value_fault_number_or_limits values place at two one)
one_value_fault values (OutOfLimits at) (OutOfLimits place) one two = ap OutOfLimits (one_fault_outside_limits values at place one two)
one_value_fault values (OutOfLimits at) (BadChoice place) one two = absurd (value_fault_choice_or_limits values place at two one)
one_value_fault values (OutOfLimits at) _ one two = absurd two
one_value_fault values (BadChoice at) (BadNumber place) one two =
    absurd (value_faults_in_one_way IsNoNumber IsNoChoice values place at no_number_is_value_fault no_choice_is_value_fault
    value_fault_number_or_choice two one)
one_value_fault values (BadChoice at) (OutOfLimits place) one two = absurd (value_fault_choice_or_limits values at place one two)
one_value_fault values (BadChoice at) (BadChoice place) one two =
    ap BadChoice (value_faults_at_one_place IsNoChoice IsNoChoice values at place no_choice_is_value_fault no_choice_is_value_fault one two)
one_value_fault values (BadChoice at) _ one two = absurd two
one_value_fault values _ other one two = absurd one

-- a value that is set is good, if the last one is
set_value_is_good : (values : SettingValues) (path : Option ArgumentText) (seed frames : ℕ) (settings : Settings)
    → SetsNumber opt.Seed (values opt.Seed) seed → SetsNumber opt.Frames (values opt.Frames) frames → SetsAll values path settings
    → (at : Opt) → (place_of at ≡ place_of opt.Limit → IsGood opt.Limit (values opt.Limit)) → IsGood at (values at)
set_value_is_good values path seed frames settings seed_set frames_set set = go
  where
    go : (at : Opt) → (place_of at ≡ place_of opt.Limit → IsGood opt.Limit (values opt.Limit)) → IsGood at (values at)
    go opt.Seed last = numeric_value_is_good opt.Seed (values opt.Seed) seed seed_set
    go opt.Frames last = numeric_value_is_good opt.Frames (values opt.Frames) frames frames_set
    go opt.Weigh last = weigh_value_is_good (values opt.Weigh) settings.weigh set.weigh
    go opt.Shards last = numeric_value_is_good opt.Shards (values opt.Shards) settings.shards set.shards
    go opt.Capacity last = numeric_value_is_good opt.Capacity (values opt.Capacity) settings.capacity set.capacity
    go opt.Phi last = numeric_value_is_good opt.Phi (values opt.Phi) settings.phi set.phi
    go opt.Deal last = deal_value_is_good (values opt.Deal) settings.deal set.deal
    go opt.Block last = numeric_value_is_good opt.Block (values opt.Block) settings.block set.block
    go opt.Workers last = numeric_value_is_good opt.Workers (values opt.Workers) settings.workers set.workers
    go opt.Callers last = numeric_value_is_good opt.Callers (values opt.Callers) settings.callers set.callers
    go opt.Rounds last = numeric_value_is_good opt.Rounds (values opt.Rounds) settings.rounds set.rounds
    go opt.Bits last = numeric_value_is_good opt.Bits (values opt.Bits) (grain_bits settings.grain) set.grain
    go opt.Front last = front_value_is_good (values opt.Front) settings.front set.front
    go opt.Limit last = last refl

-- values that give something are all good
pub given_values_have_no_fault : (values : SettingValues) (path : Option ArgumentText) (given : Given) → SetsGiven values path given
    → AreGood values
given_values_have_no_fault values path given gives at =
    set_value_is_good values path given.seed given.frames given.settings gives.seed_set gives.frames_set gives.settings_set at
    (λ last. numeric_value_is_good opt.Limit (values opt.Limit) given.limit gives.limit_set)

-- a missing value sets one number at most
one_value_by_default : (kind : OptionKind) (value other : ℕ) → IsDefault kind value → IsDefault kind other → value ≡ other
one_value_by_default (number least greatest default) value other one two = one ∙ sym two
one_value_by_default (few_numbers default others) value other one two = one ∙ sym two
one_value_by_default (choice default others) value other one two = absurd one

-- a value sets one number at most
one_value_sets_one_number : (at : Opt) (told : Option ArgumentText) (value other : ℕ) → SetsNumber at told value
    → SetsNumber at told other → value ≡ other
one_value_sets_one_number at None value other one two = one_value_by_default (kind_of at) value other one two
one_value_sets_one_number at (Some text) value other one two = one_value_per_number_text text value other one.0 two.0

one_value_per_weigh_word : (weigh other : Weigh) → weigh_word weigh ≡ weigh_word other → weigh ≡ other
one_value_per_weigh_word weighing.Bytes weighing.Bytes same = refl
one_value_per_weigh_word weighing.Bytes weighing.Packets same = cc
one_value_per_weigh_word weighing.Packets weighing.Bytes same = cc
one_value_per_weigh_word weighing.Packets weighing.Packets same = refl

one_value_sets_one_weigh : (told : Option ArgumentText) (weigh other : Weigh) → SetsWeigh told weigh → SetsWeigh told other → weigh ≡ other
one_value_sets_one_weigh None weigh other one two = one_value_per_weigh_word weigh other (one ∙ sym two)
one_value_sets_one_weigh (Some text) weigh other one two = one_value_per_weigh_word weigh other (sym one ∙ two)

one_value_per_deal_word : (deal other : DealKind) → deal_word deal ≡ deal_word other → deal ≡ other
one_value_per_deal_word dealing.RoundRobin dealing.RoundRobin same = refl
one_value_per_deal_word dealing.BySource dealing.BySource same = refl
one_value_per_deal_word dealing.Free dealing.Free same = refl
one_value_per_deal_word _ _ same = cc

one_value_sets_one_deal : (told : Option ArgumentText) (deal other : DealKind) → SetsDeal told deal → SetsDeal told other → deal ≡ other
one_value_sets_one_deal None deal other one two = one_value_per_deal_word deal other (one ∙ sym two)
one_value_sets_one_deal (Some text) deal other one two = one_value_per_deal_word deal other (sym one ∙ two)

one_value_per_front_word : (front other : Bool) → front_word front ≡ front_word other → front ≡ other
one_value_per_front_word false false same = refl
one_value_per_front_word true true same = refl
one_value_per_front_word _ _ same = cc

one_value_sets_one_front : (told : Option ArgumentText) (front other : Bool) → SetsFront told front → SetsFront told other → front ≡ other
one_value_sets_one_front None front other one two = one_value_per_front_word front other (one ∙ sym two)
one_value_sets_one_front (Some text) front other one two = one_value_per_front_word front other (sym one ∙ two)

one_value_sets_one_store : (path : Option ArgumentText) (store other : Bool) → SetsStore path store → SetsStore path other → store ≡ other
one_value_sets_one_store None store other one two = one ∙ sym two
one_value_sets_one_store (Some path) store other one two = one ∙ sym two

one_value_per_grain_bits : (grain other : Grain) → grain_bits grain ≡ grain_bits other → grain ≡ other
one_value_per_grain_bits Byte Byte same = refl
one_value_per_grain_bits Byte Nibble same = absurd (omega (arith, same))
one_value_per_grain_bits Nibble Byte same = absurd (omega (arith, same))
one_value_per_grain_bits Nibble Nibble same = refl

pub one_value_sets_one_grain : (told : Option ArgumentText) (grain other : Grain) → SetsGrain told grain → SetsGrain told other
    → grain ≡ other
one_value_sets_one_grain told grain other one two =
    one_value_per_grain_bits grain other
    (one_value_sets_one_number opt.Bits told (grain_bits grain) (grain_bits other) one two)

-- a grain that is set is the one that is told
pub grain_of_one_value_is_told : (told : Option ArgumentText) (grain : Grain) → SetsGrain told grain → grain_told told ≡ grain
unfolding digits
grain_of_one_value_is_told None Byte set = refl
grain_of_one_value_is_told None Nibble set = absurd (omega (arith, set))
grain_of_one_value_is_told (Some text) Byte set = subst (λ t. grain_told (Some t) ≡ Byte) (sym set.0.spelled) refl
grain_of_one_value_is_told (Some text) Nibble set = subst (λ t. grain_told (Some t) ≡ Nibble) (sym set.0.spelled) refl

-- if one grain and one capacity that values set fit, the grain that they set fits
pub grain_of_one_value_fits : (values : SettingValues) (grain : Grain) (capacity : ℕ) → SetsGrain (values opt.Bits) grain
    → SetsNumber opt.Capacity (values opt.Capacity) capacity → GrainFits grain capacity → HaveFitGrain values
grain_of_one_value_fits values grain capacity grain_set capacity_set fits other more other_set more_set =
    subst (λ g. GrainFits g more) (one_value_sets_one_grain (values opt.Bits) grain other grain_set other_set)
    (subst (λ n. GrainFits grain n)
    (one_value_sets_one_number opt.Capacity (values opt.Capacity) capacity more capacity_set more_set) fits)

-- if what comes before the limit is set, it is good
pub values_before_limit_have_no_fault : (values : SettingValues) (path : Option ArgumentText) (seed frames : ℕ) (settings : Settings)
    → SetsNumber opt.Seed (values opt.Seed) seed → SetsNumber opt.Frames (values opt.Frames) frames → SetsAll values path settings
    → AreGoodBefore values (place_of opt.Limit)
values_before_limit_have_no_fault values path seed frames settings seed_set frames_set set = record {
  good = λ other before.
      set_value_is_good values path seed frames settings seed_set frames_set set other
      (λ last. absurd (omega (arith, before, last)));
  fits = λ behind. grain_of_one_value_fits values settings.grain settings.capacity set.grain set.capacity set.fits;
}

-- values that give something have no fault
pub no_value_fault : (values : SettingValues) (path : Option ArgumentText) (given : Given) (kind : WordsKind) → SetsGiven values path given
    → HasValueFault values kind → ⊥
no_value_fault values path given kind gives has = go kind (given_values_have_no_fault values path given gives) has
  where
    go : (kind : WordsKind) → AreGood values → HasValueFault values kind → ⊥
    go (BadNumber at) good has = good_values_have_no_first_bad IsNoNumber values at no_number_is_value_fault good has
    go (OutOfLimits at) good (inl has) = good_values_have_no_first_bad IsOutside values at outside_is_value_fault good has
    go (OutOfLimits at) good (inr unfit) =
        unfit.1.unfit
        (grain_of_one_value_fits values given.settings.grain given.settings.capacity gives.settings_set.grain
        gives.settings_set.capacity gives.settings_set.fits unfit.1.grain unfit.1.capacity unfit.1.grain_set unfit.1.capacity_set)
    go (BadChoice at) good has = good_values_have_no_first_bad IsNoChoice values at no_choice_is_value_fault good has
    go _ good has = has

-- values set at most one thing
pub values_set_one_settings : (values : SettingValues) (path : Option ArgumentText) (settings other : Settings) → SetsAll values path settings
    → SetsAll values path other → settings ≡ other
values_set_one_settings values path settings other one two =
    λ i. record {
      shards = one_value_sets_one_number opt.Shards (values opt.Shards) settings.shards other.shards one.shards two.shards i;
      capacity =
          one_value_sets_one_number opt.Capacity (values opt.Capacity) settings.capacity other.capacity one.capacity
          two.capacity i;
      phi = one_value_sets_one_number opt.Phi (values opt.Phi) settings.phi other.phi one.phi two.phi i;
      block = one_value_sets_one_number opt.Block (values opt.Block) settings.block other.block one.block two.block i;
      workers =
          one_value_sets_one_number opt.Workers (values opt.Workers) settings.workers other.workers one.workers two.workers i;
      callers =
          one_value_sets_one_number opt.Callers (values opt.Callers) settings.callers other.callers one.callers two.callers i;
      rounds = one_value_sets_one_number opt.Rounds (values opt.Rounds) settings.rounds other.rounds one.rounds two.rounds i;
      weigh = one_value_sets_one_weigh (values opt.Weigh) settings.weigh other.weigh one.weigh two.weigh i;
      deal = one_value_sets_one_deal (values opt.Deal) settings.deal other.deal one.deal two.deal i;
      grain = one_value_sets_one_grain (values opt.Bits) settings.grain other.grain one.grain two.grain i;
      front = one_value_sets_one_front (values opt.Front) settings.front other.front one.front two.front i;
      store = one_value_sets_one_store path settings.store other.store one.store two.store i;
    }

-- values give at most one thing
pub values_give_one_thing : (values : SettingValues) (path : Option ArgumentText) (given other : Given) → SetsGiven values path given
    → SetsGiven values path other → given ≡ other
values_give_one_thing values path given other one two =
    subst (λ (limit : ℕ). (some : 1 ≤ limit) → given ≡ of other.seed other.frames other.settings limit some)
    (one_value_sets_one_number opt.Limit (values opt.Limit) given.limit other.limit one.limit_set two.limit_set)
    same_limit other.some_limit
  where
    of : (seed frames : ℕ) (settings : Settings) (limit : ℕ) → 1 ≤ limit → Given
    of seed frames settings limit some =
        record { seed = seed; frames = frames; settings = settings; limit = limit; some_limit = some }

    same_limit : (some : 1 ≤ given.limit) → given ≡ of other.seed other.frames other.settings given.limit some
    same_limit some = λ i. record {
      seed = one_value_sets_one_number opt.Seed (values opt.Seed) given.seed other.seed one.seed_set two.seed_set i;
      frames =
          one_value_sets_one_number opt.Frames (values opt.Frames) given.frames other.frames one.frames_set two.frames_set i;
      settings = values_set_one_settings values path given.settings other.settings one.settings_set two.settings_set i;
      limit = given.limit;
      some_limit = le_prop given.some_limit some i;
    }
