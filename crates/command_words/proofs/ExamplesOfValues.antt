-- Worked examples of the values of options, and of what they set.
use Rattle.std.proofs.Common.{◌≡◌, ◌⊎◌, ◌<◌, ◌^◌, ℕ, zero, suc, List, [], ◌∷◌, get_or, true, false, Some, None, inl}
use Rattle.std.proofs.Common.{inr, refl, sym, subst, codes}
use Rattle.std.proofs.Common.{false, arith}
use Rattle.std.specs.Fmt.{digits}
use Rattle.std.proofs.lemmas.Fmt.{first_decimal, decimal_injective}
use Rattle.prefix_lattice.specs.declared.grain.Grain.TheVariants.{Byte, Nibble}
use Rattle.frame_records.specs.declared.weigh.Weigh.TheVariants.{Bytes, Packets}
use Rattle.deal_rules.specs.declared.deal_kind.DealKind.TheVariants.{RoundRobin, Free}
use Rattle.command_words.specs.Arguments.{ArgumentText, Argument, positional, option}
use Rattle.command_words.specs.Options.{name_of, place_of, OptionKind, number, few_numbers, choice, kind_of}
use Rattle.command_words.specs.Options.{IsNumber, IsAllowed}
use Rattle.command_words.specs.Options.{IsGoodText, IsGood, IsNoNumber, IsOutside}
use Rattle.command_words.specs.Options.{IsNoChoice}
use Rattle.command_words.specs.Options.{capacity_limit, phi_limit, seed_limit, frames_limit}
use Rattle.command_words.specs.Settings.{SettingValues, settings_in, store_setting, SetsNumber}
use Rattle.command_words.specs.Settings.{SetsWeigh, SetsDeal, SetsStore, SetsGrain, SetsFront, GrainFits}
use Rattle.command_words.specs.Settings.{weigh_word, deal_word, front_word}
use Rattle.command_words.specs.Settings.{SetsAll, HaveWideShare, AreLimited, GivesNumber}
use Rattle.command_words.specs.Settings.{GivesTraffic, AreForTraffic, grain_told}
use Rattle.command_words.specs.Options.{block_limit, workers_limit, callers_limit}
use Rattle.command_words.specs.Options.{rounds_limit}
use Rattle.command_words.specs.Values.{AreGood, AreGoodBefore, HaveFitGrain, HaveUnfitGrain, IsFirstBad}
use Rattle.command_words.specs.Values.{HasValueFault}
use Rattle.command_words.specs.Given.{IsBadNumber, IsBadChoice, SetsGiven}
use Rattle.command_words.specs.declared.command_word.CommandWord.TheVariants as command
use Rattle.command_words.specs.declared.opt.Opt.{Opt}
use Rattle.command_words.specs.declared.opt.Opt.TheVariants.{Seed, Frames, Weigh, Shards, Capacity, Phi, Deal}
use Rattle.command_words.specs.declared.opt.Opt.TheVariants.{Block, Workers, Callers, Rounds, Bits, Front, Limit}
use Rattle.command_words.specs.declared.settings.Settings.{Settings}
use Rattle.command_words.specs.declared.words_kind.WordsKind.TheVariants.{BadNumber, OutOfLimits, BadChoice}
use Rattle.command_words.proofs.TextSearchLemmas.{text_search_finds_contained, text_search_finds_none}
use Rattle.command_words.proofs.Examples.{arguments}

pub name_of_the_share : name_of Phi ≡ codes "phi"
name_of_the_share = refl

pub share_is_looked_at_behind_the_capacity : place_of Capacity < place_of Phi
share_is_looked_at_behind_the_capacity = omega arith

-- a number from 2 to 4096, and 512 by default
abbrev from_2_to_4096 : OptionKind
from_2_to_4096 = number 2 4096 512

pub limits_of_the_capacity : kind_of Capacity ≡ from_2_to_4096
limits_of_the_capacity = refl

pub words_for_weighing : kind_of Weigh ≡ choice (weigh_word Bytes) (weigh_word Packets ∷ [])
words_for_weighing = refl

pub word_for_free_dealing : deal_word Free ≡ codes "free"
word_for_free_dealing = refl

pub number_in_decimal : IsNumber (codes "512") 512
unfolding digits
number_in_decimal = record { spelled = refl; bounded = omega arith }

pub no_number_has_a_leading_zero : (value : ℕ) → IsNumber (codes "01") value → ⊥
unfolding digits
no_number_has_a_leading_zero zero is_number = let same : codes "01" ≡ codes "0" = is_number.spelled in cc
no_number_has_a_leading_zero (suc value) is_number =
    let first : 48 < 48 =
    subst (λ text. 48 < get_or text 0 0) (sym is_number.spelled)
    (first_decimal (suc value) (omega arith) is_number.bounded) in
    omega (arith, first)

-- 16 shards are the most, and one is the least
pub sixteen_shards : IsGoodText (kind_of Shards) (codes "16")
unfolding digits
sixteen_shards = (16, record { spelled = refl; bounded = omega arith }, (omega arith, omega arith))

pub seventeen_shards : IsOutside (kind_of Shards) (codes "17")
unfolding digits
seventeen_shards = (17, record { spelled = refl; bounded = omega arith }, inr (omega arith))

pub one_shard_is_allowed : IsAllowed (kind_of Shards) 1
one_shard_is_allowed = (omega arith, omega arith)

pub no_shard_is_not_allowed : IsAllowed (kind_of Shards) 0 → ⊥
no_shard_is_not_allowed allowed = omega (arith, allowed.0)

pub shards_with_a_leading_zero : IsNoNumber (kind_of Shards) (codes "01")
shards_with_a_leading_zero = no_number_has_a_leading_zero

-- an option has a good value, or is missing
pub free_is_good : IsGood Deal (Some (codes "free"))
free_is_good = (text_search_finds_contained (codes "round" ∷ codes "source" ∷ codes "free" ∷ []) (codes "free")).0 refl

pub nothing_is_good : IsGood Deal None
nothing_is_good = tt

pub no_dealing_by_hash : IsNoChoice (kind_of Deal) (codes "hash")
no_dealing_by_hash = text_search_finds_none (codes "round" ∷ codes "source" ∷ codes "free" ∷ []) (codes "hash") refl

pub shards_that_are_no_number : IsBadNumber Shards (Some (codes "01")) (BadNumber Shards)
shards_that_are_no_number = (refl, no_number_has_a_leading_zero)

pub dealing_that_is_no_choice : IsBadChoice Deal (Some (codes "hash")) (BadChoice Deal)
dealing_that_is_no_choice = (refl, no_dealing_by_hash)

-- in `--deal hash --shards 17` the shards are checked first
abbrev two_bad_values : SettingValues
two_bad_values =
    settings_in command.Report (option (codes "deal") (codes "hash") ∷ option (codes "shards") (codes "17") ∷ [])

good_before_shards : (other : Opt) → place_of other < place_of Shards → IsGood other (two_bad_values other)
good_before_shards Seed before = tt
good_before_shards Frames before = tt
good_before_shards Weigh before = tt
good_before_shards Shards before = absurd (omega (arith, before))
good_before_shards Capacity before = tt
good_before_shards Phi before = tt
good_before_shards Deal before = absurd (omega (arith, before))
good_before_shards Block before = absurd (omega (arith, before))
good_before_shards Workers before = absurd (omega (arith, before))
good_before_shards Callers before = absurd (omega (arith, before))
good_before_shards Rounds before = absurd (omega (arith, before))
good_before_shards Bits before = absurd (omega (arith, before))
good_before_shards Front before = absurd (omega (arith, before))
good_before_shards Limit before = absurd (omega (arith, before))

pub shards_are_the_first_bad : IsFirstBad IsOutside two_bad_values Shards
shards_are_the_first_bad = record {
  before = record { good = good_before_shards; fits = λ behind. absurd (omega (arith, behind)) };
  text = codes "17";
  value = refl;
  is_bad = seventeen_shards;
}

pub shards_are_the_fault : HasValueFault two_bad_values (OutOfLimits Shards)
shards_are_the_fault = inl shards_are_the_first_bad

pub dealing_is_not_the_fault : HasValueFault two_bad_values (BadChoice Deal) → ⊥
unfolding digits
dealing_is_not_the_fault fault =
    let good : IsGoodText (kind_of Shards) (codes "17") = fault.before.good Shards (omega arith) in
    let same : good.0 ≡ 17 = decimal_injective good.0 17 good.1.bounded (omega arith) (sym good.1.spelled) in
    omega (arith, same, good.2.1)

-- a missing option has its default
abbrev pub defaults : Settings
defaults = record {
  shards = 4;
  capacity = 512;
  phi = 10000;
  block = 1024;
  workers = 4;
  callers = 0;
  rounds = 0;
  weigh = Bytes;
  deal = RoundRobin;
  grain = Byte;
  front = false;
  store = false;
}

pub nothing_sets_the_defaults : SetsAll (settings_in command.Report []) (store_setting []) defaults
nothing_sets_the_defaults = record {
  weigh = refl;
  shards = refl;
  capacity = refl;
  phi = refl;
  deal = refl;
  block = refl;
  workers = refl;
  callers = refl;
  rounds = refl;
  grain = refl;
  front = refl;
  store = refl;
  fits = omega arith;
}

pub defaults_are_within_their_limits : AreLimited defaults
defaults_are_within_their_limits = record {
  some_shards = omega arith;
  few_shards = omega arith;
  least_capacity = omega arith;
  most_capacity = omega arith;
  some_phi = omega arith;
  most_phi = omega arith;
  some_block = omega arith;
  most_block = omega arith;
  some_workers = omega arith;
  few_workers = omega arith;
  few_callers = omega arith;
  few_rounds = omega arith;
  fits = omega arith;
}

pub too_many_shards : AreLimited (record defaults { shards = 17 }) → ⊥
too_many_shards limited = omega (arith, limited.few_shards)

-- tables of 512 can't hide a prefix of a hundredth of the total; tables of 17 can hide one of 117,647 parts per million
pub defaults_are_wide : HaveWideShare defaults
defaults_are_wide = omega arith

pub tables_too_small_for_a_share : HaveWideShare (record defaults { phi = 117647; capacity = 17 }) → ⊥
tables_too_small_for_a_share wide = omega (arith, wide)

-- what `--weigh=packets 10.0.0.0/8 --capture a.pcap 20.0.0.0/8` says
pub weighing_that_is_said : settings_in command.Weigh arguments Weigh ≡ Some (codes "packets")
weighing_that_is_said = refl

pub capacity_that_is_not_said : settings_in command.Weigh arguments Capacity ≡ None
capacity_that_is_not_said = refl

pub packets_by_their_word : SetsWeigh (settings_in command.Weigh arguments Weigh) Packets
packets_by_their_word = refl

pub in_turn_by_default : SetsDeal (settings_in command.Weigh arguments Deal) RoundRobin
in_turn_by_default = refl

pub no_store_by_default : SetsStore (store_setting arguments) false
no_store_by_default = refl

pub store_by_its_path : SetsStore (Some (codes "S")) true
store_by_its_path = refl

pub capacity_by_default : SetsNumber Capacity (settings_in command.Weigh arguments Capacity) 512
capacity_by_default = refl

pub sixteen_shards_by_their_number : SetsNumber Shards (Some (codes "16")) 16
unfolding digits
sixteen_shards_by_their_number = (record { spelled = refl; bounded = omega arith }, (omega arith, omega arith))

-- ---- the greatest of each setting

pub greatest_tables : IsAllowed (kind_of Capacity) capacity_limit
greatest_tables = (omega arith, omega arith)

pub greatest_share_is_the_whole : IsAllowed (kind_of Phi) phi_limit
greatest_share_is_the_whole = (omega arith, omega arith)

pub greatest_settings : AreLimited (record defaults {
  block = block_limit;
  workers = workers_limit;
  callers = callers_limit;
  rounds = rounds_limit;
})
greatest_settings = record {
  some_shards = omega arith;
  few_shards = omega arith;
  least_capacity = omega arith;
  most_capacity = omega arith;
  some_phi = omega arith;
  most_phi = omega arith;
  some_block = omega arith;
  most_block = omega arith;
  some_workers = omega arith;
  few_workers = omega arith;
  few_callers = omega arith;
  few_rounds = omega arith;
  fits = omega arith;
}

-- ---- made traffic

-- `SEED` and `FRAMES` of `make 7 3`
abbrev pub traffic_arguments : List Argument
traffic_arguments = positional (codes "7") ∷ positional (codes "3") ∷ []

pub seed_by_its_place : settings_in command.Make traffic_arguments Seed ≡ Some (codes "7")
seed_by_its_place = refl

pub frames_by_their_place : settings_in command.Make traffic_arguments Frames ≡ Some (codes "3")
frames_by_their_place = refl

pub no_shards_among_them : settings_in command.Make traffic_arguments Shards ≡ None
no_shards_among_them = refl

pub seed_is_looked_at_first : (other : Opt) → place_of other < place_of Seed → ⊥
seed_is_looked_at_first other before = omega (arith, before)

pub three_frames : GivesNumber Frames (Some (codes "3")) 3
unfolding digits
three_frames = (record { spelled = refl; bounded = omega arith }, (omega arith, omega arith))

pub three_frames_of_seed_seven : GivesTraffic (settings_in command.Make traffic_arguments) 7 3
unfolding digits
three_frames_of_seed_seven = record {
  seed_given = (record { spelled = refl; bounded = omega arith }, (omega arith, omega arith));
  frames_given = three_frames;
}

pub no_number_is_given_by_nothing : GivesNumber Frames None 1 → ⊥
no_number_is_given_by_nothing gives = gives

pub greatest_seed_of_64_bits : IsAllowed (kind_of Seed) seed_limit
greatest_seed_of_64_bits = (omega arith, omega arith)

pub no_seed_is_outside : IsOutside (kind_of Seed) (codes "7") → ⊥
no_seed_is_outside outside = go outside.2
  where
    bounded : outside.0 < 2 ^ 64
    bounded = outside.1.bounded

    go : (outside.0 < 0) ⊎ (seed_limit < outside.0) → ⊥
    go (inl below) = omega (arith, below)
    go (inr above) = omega (arith, above, bounded)

pub million_frames_can_be_made : AreForTraffic seed_limit frames_limit
million_frames_can_be_made = record { is_seed = omega arith; some_frames = omega arith; few_frames = omega arith }

pub no_frame_can_not_be_made : AreForTraffic 7 0 → ⊥
no_frame_can_not_be_made made = omega (arith, made.some_frames)

pub no_frame_is_outside : IsOutside (kind_of Frames) (codes "0")
unfolding digits
no_frame_is_outside = (0, record { spelled = refl; bounded = omega arith }, inl (omega arith))

pub more_than_a_million_frames_are_outside : IsOutside (kind_of Frames) (codes "1000001")
unfolding digits
more_than_a_million_frames_are_outside =
    (1000001, record { spelled = refl; bounded = omega arith }, inr (omega arith))

-- the positionals are good, and nothing else is given
pub traffic_is_good : AreGood (settings_in command.Make traffic_arguments)
unfolding digits
traffic_is_good Seed = (7, record { spelled = refl; bounded = omega arith }, (omega arith, omega arith))
traffic_is_good Frames = (3, record { spelled = refl; bounded = omega arith }, (omega arith, omega arith))
traffic_is_good Weigh = tt
traffic_is_good Shards = tt
traffic_is_good Capacity = tt
traffic_is_good Phi = tt
traffic_is_good Deal = tt
traffic_is_good Block = tt
traffic_is_good Workers = tt
traffic_is_good Callers = tt
traffic_is_good Rounds = tt
traffic_is_good Bits = tt
traffic_is_good Front = tt
traffic_is_good Limit = tt

pub nothing_gives_the_defaults : SetsGiven (settings_in command.Report []) (store_setting [])
    (record { seed = 0; frames = 1; settings = defaults; limit = 1; some_limit = omega arith })
nothing_gives_the_defaults =
    record { seed_set = refl; frames_set = refl; settings_set = nothing_sets_the_defaults; limit_set = refl }

-- ---- the grain

pub bits_of_the_grains : kind_of Bits ≡ few_numbers 8 (4 ∷ [])
bits_of_the_grains = refl

pub grain_is_looked_at_behind_the_capacity : place_of Capacity < place_of Bits
grain_is_looked_at_behind_the_capacity = omega arith

pub whole_bytes_by_default : SetsGrain None Byte
whole_bytes_by_default = refl

pub half_bytes_by_four_bits : SetsGrain (Some (codes "4")) Nibble
unfolding digits
half_bytes_by_four_bits = (record { spelled = refl; bounded = omega arith }, (1, omega arith, refl))

-- `--bits 5`: there are 8 and 4 bits
pub no_five_bits : IsAllowed (kind_of Bits) 5 → ⊥
no_five_bits (zero, within, same) = omega (arith, same)
no_five_bits (suc zero, within, same) = omega (arith, same)
no_five_bits (suc (suc place), within, same) = omega (arith, within)

pub five_bits_are_outside : IsOutside (kind_of Bits) (codes "5")
unfolding digits
five_bits_are_outside = (5, record { spelled = refl; bounded = omega arith }, no_five_bits)

-- tables by half bytes have at most 1,024 entries
pub tables_of_1024_by_half_bytes : GrainFits Nibble 1024
tables_of_1024_by_half_bytes = omega arith

pub no_tables_of_1025_by_half_bytes : GrainFits Nibble 1025 → ⊥
no_tables_of_1025_by_half_bytes fits = omega (arith, fits)

pub greatest_tables_by_whole_bytes : GrainFits Byte capacity_limit
greatest_tables_by_whole_bytes = omega arith

pub half_bytes_within_their_limits : AreLimited (record defaults { grain = Nibble })
half_bytes_within_their_limits = record {
  some_shards = omega arith;
  few_shards = omega arith;
  least_capacity = omega arith;
  most_capacity = omega arith;
  some_phi = omega arith;
  most_phi = omega arith;
  some_block = omega arith;
  most_block = omega arith;
  some_workers = omega arith;
  few_workers = omega arith;
  few_callers = omega arith;
  few_rounds = omega arith;
  fits = omega arith;
}

-- `--bits 4` and one more option
abbrev pub half_bytes_beside : ArgumentText → ArgumentText → List Argument
half_bytes_beside name value = option (codes "bits") (codes "4") ∷ option name value ∷ []

-- `--bits 4 --store s`: a store may be by half bytes
pub half_bytes_beside_a_store : SetsAll (settings_in command.Report (half_bytes_beside (codes "store") (codes "s")))
    (store_setting (half_bytes_beside (codes "store") (codes "s"))) (record defaults { grain = Nibble; store = true })
half_bytes_beside_a_store = record {
  weigh = refl;
  shards = refl;
  capacity = refl;
  phi = refl;
  deal = refl;
  block = refl;
  workers = refl;
  callers = refl;
  rounds = refl;
  grain = half_bytes_by_four_bits;
  front = refl;
  store = refl;
  fits = omega arith;
}

-- `--bits 4 --capacity 1025 --front maybe`: each value before `--front` is good by itself
abbrev pub large_tables_by_half_bytes : SettingValues
large_tables_by_half_bytes =
    settings_in command.Report
    (option (codes "bits") (codes "4") ∷ option (codes "capacity") (codes "1025") ∷ option (codes "front") (codes "maybe") ∷ [])

capacity_of_1025 : SetsNumber Capacity (large_tables_by_half_bytes Capacity) 1025
unfolding digits
capacity_of_1025 = (record { spelled = refl; bounded = omega arith }, (omega arith, omega arith))

good_before_the_grain : (other : Opt) → place_of other < place_of Bits → IsGood other (large_tables_by_half_bytes other)
good_before_the_grain Seed before = tt
good_before_the_grain Frames before = tt
good_before_the_grain Weigh before = tt
good_before_the_grain Shards before = tt
good_before_the_grain Capacity before = (1025, capacity_of_1025.0, capacity_of_1025.1)
good_before_the_grain Phi before = tt
good_before_the_grain Deal before = tt
good_before_the_grain Block before = tt
good_before_the_grain Workers before = tt
good_before_the_grain Callers before = tt
good_before_the_grain Rounds before = tt
good_before_the_grain Bits before = absurd (omega (arith, before))
good_before_the_grain Front before = absurd (omega (arith, before))
good_before_the_grain Limit before = absurd (omega (arith, before))

pub values_before_the_grain_are_good : AreGoodBefore large_tables_by_half_bytes (place_of Bits)
values_before_the_grain_are_good = record { good = good_before_the_grain; fits = λ behind. absurd (omega (arith, behind)) }

pub tables_of_1025_do_not_fit : HaveUnfitGrain large_tables_by_half_bytes
tables_of_1025_do_not_fit = record {
  before = values_before_the_grain_are_good;
  grain = Nibble;
  capacity = 1025;
  grain_set = half_bytes_by_four_bits;
  capacity_set = capacity_of_1025;
  unfit = no_tables_of_1025_by_half_bytes;
}

pub no_fit_grain_for_tables_of_1025 : HaveFitGrain large_tables_by_half_bytes → ⊥
no_fit_grain_for_tables_of_1025 fit = omega (arith, fit Nibble 1025 half_bytes_by_four_bits capacity_of_1025)

-- so the grain is the fault, and not what is behind it
pub grain_is_the_fault_before_the_front : HasValueFault large_tables_by_half_bytes (OutOfLimits Bits)
grain_is_the_fault_before_the_front = inr (refl, tables_of_1025_do_not_fit)

pub front_is_not_the_fault_behind_the_grain : HasValueFault large_tables_by_half_bytes (BadChoice Front) → ⊥
front_is_not_the_fault_behind_the_grain fault = no_fit_grain_for_tables_of_1025 (fault.before.fits (omega arith))

-- ---- captures that end inside a frame

pub words_for_the_front : kind_of Front ≡ choice (front_word false) (front_word true ∷ [])
words_for_the_front = refl

pub whole_captures_by_default : SetsFront None false
whole_captures_by_default = refl

pub front_by_its_word : SetsFront (Some (codes "yes")) true
front_by_its_word = refl

pub no_front_by_maybe : IsNoChoice (kind_of Front) (codes "maybe")
no_front_by_maybe = text_search_finds_none (codes "no" ∷ codes "yes" ∷ []) (codes "maybe") refl

-- ---- the limit of a watch

pub limit_is_looked_at_last : (other : Opt) → place_of Limit < place_of other → ⊥
limit_is_looked_at_last Seed behind = omega (arith, behind)
limit_is_looked_at_last Frames behind = omega (arith, behind)
limit_is_looked_at_last Weigh behind = omega (arith, behind)
limit_is_looked_at_last Shards behind = omega (arith, behind)
limit_is_looked_at_last Capacity behind = omega (arith, behind)
limit_is_looked_at_last Phi behind = omega (arith, behind)
limit_is_looked_at_last Deal behind = omega (arith, behind)
limit_is_looked_at_last Block behind = omega (arith, behind)
limit_is_looked_at_last Workers behind = omega (arith, behind)
limit_is_looked_at_last Callers behind = omega (arith, behind)
limit_is_looked_at_last Rounds behind = omega (arith, behind)
limit_is_looked_at_last Bits behind = omega (arith, behind)
limit_is_looked_at_last Front behind = omega (arith, behind)
limit_is_looked_at_last Limit behind = omega (arith, behind)

pub greatest_limit_is_good : IsGood Limit (Some (codes "18446744073709551615"))
unfolding digits
greatest_limit_is_good =
    (18446744073709551615, record { spelled = refl; bounded = omega arith }, (omega arith, omega arith))

pub no_limit_of_0 : IsOutside (kind_of Limit) (codes "0")
unfolding digits
no_limit_of_0 = (0, record { spelled = refl; bounded = omega arith }, inl (omega arith))

-- a grain is told by the text of its number alone
pub grain_told_by_4 : grain_told (Some (codes "4")) ≡ Nibble
grain_told_by_4 = refl

pub grain_told_by_04 : grain_told (Some (codes "04")) ≡ Byte
grain_told_by_04 = refl

pub grain_told_by_default : grain_told None ≡ Byte
grain_told_by_default = refl
