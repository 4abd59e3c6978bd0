-- What the arguments of a command give: what they lack is missing, and a good value gives something.
use Rattle.std.proofs.Common.{◌≡◌, ◌≢◌, ℕ, suc, false, Option, Some, None, List, [], ◌∷◌, refl, sym, subst, codes}
use Rattle.std.proofs.Common.{◌≤◌, arith}
use Rattle.std.specs.Prelude.{⊤}
use Rattle.std.specs.List.{All, Contains, list_any}
use Rattle.std.specs.Str.{bytes_eq}
use Rattle.prefix_lattice.specs.{grain_bits}
use Rattle.prefix_lattice.specs.declared.grain.Grain.{Grain}
use Rattle.prefix_lattice.specs.declared.grain.Grain.TheVariants.{Byte, Nibble}
use Rattle.frame_records.specs.declared.weigh.Weigh.TheVariants.{Bytes}
use Rattle.deal_rules.specs.declared.deal_kind.DealKind.TheVariants.{RoundRobin}
use Rattle.command_words.specs.Arguments.{ArgumentText, Argument, positional, option, AreOfForm}
use Rattle.command_words.specs.Arguments.{names_in, value_of, named}
use Rattle.command_words.specs.FormNames.{form_of}
use Rattle.command_words.specs.Given.{SetsGiven}
use Rattle.command_words.specs.Options.{OptionKind, number, name_of, kind_of, IsAllowed}
use Rattle.command_words.specs.Options.{IsDefault, IsGood, IsGoodText}
use Rattle.command_words.specs.Options.{seed_limit, frames_limit, greatest_limit}
use Rattle.command_words.specs.Settings.{SettingValues, SetsNumber, SetsWeigh, SetsDeal}
use Rattle.command_words.specs.Settings.{SetsFront, SetsStore, SetsAll, SetsGrain, GrainFits}
use Rattle.command_words.specs.Settings.{GivesNumber, GivesTraffic, settings_in, store_setting}
use Rattle.command_words.specs.Values.{AreGood}
use Rattle.command_words.specs.declared.command_word.CommandWord.{CommandWord}
use Rattle.command_words.specs.declared.command_word.CommandWord.TheVariants.{Make, Watch}
use Rattle.command_words.specs.declared.opt.Opt.{Opt}
use Rattle.command_words.specs.declared.opt.Opt.TheVariants as opt
use Rattle.command_words.specs.declared.settings.Settings.{Settings}
use Rattle.command_words.specs.declared.given.Given.{Given}
use Rattle.command_words.proofs.TextSearchLemmas.{text_search_finds_none}
use Rattle.command_words.proofs.MatchRowLemmas.{match_row_name_is_other}

-- an argument of another name in front gives nothing
not_given_behind_option : (other value : ArgumentText) (arguments : List Argument) (name : ArgumentText) → other ≢ name
    → value_of name arguments ≡ None → value_of name (option other value ∷ arguments) ≡ None
not_given_behind_option other value arguments name apart behind = rw (match_row_name_is_other other name apart) behind

-- an option that no argument gives has no value
not_given_without_option : (arguments : List Argument) (name : ArgumentText) → (Contains (names_in arguments) name → ⊥)
    → value_of name arguments ≡ None
not_given_without_option [] name lacks = refl
not_given_without_option (positional text ∷ arguments) name lacks = not_given_without_option arguments name lacks
not_given_without_option (option other value ∷ arguments) name lacks =
    not_given_behind_option other value arguments name (λ same. lacks (0, omega arith, same))
    (not_given_without_option arguments name (λ has. lacks (suc has.0, omega (arith, has.1), has.2)))

-- a name that neither a positional nor an option has gives nothing
not_given_without_name : (names : List ArgumentText) (arguments : List Argument) (name : ArgumentText) → (Contains names name → ⊥)
    → (Contains (names_in arguments) name → ⊥) → value_of name (named names arguments) ≡ None
not_given_without_name names [] name apart lacks = refl
not_given_without_name [] (positional text ∷ arguments) name apart lacks = not_given_without_name [] arguments name apart lacks
not_given_without_name (first ∷ names) (positional text ∷ arguments) name apart lacks =
    not_given_behind_option first text (named names arguments) name
    (λ same. apart (0, omega arith, same))
    (not_given_without_name names arguments name (λ has. apart (suc has.0, omega (arith, has.1), has.2)) lacks)
not_given_without_name names (option other value ∷ arguments) name apart lacks =
    not_given_behind_option other value (named names arguments) name
    (λ same. lacks (0, omega arith, same))
    (not_given_without_name names arguments name apart (λ has. lacks (suc has.0, omega (arith, has.1), has.2)))

-- a name that a form lacks is none of its arguments' names
unknown_name_is_not_given : (options names : List ArgumentText) (name : ArgumentText) → All (λ n. Contains options n) names
    → (Contains options name → ⊥) → Contains names name → ⊥
unknown_name_is_not_given options names name known lacks has =
    lacks (subst (λ n. Contains options n) has.2 (known has.0 name has.1))

-- what a command's form lacks is missing
pub not_given_outside_form : (word : CommandWord) (arguments : List Argument) (at : Opt) → AreOfForm (form_of word) arguments
    → list_any (λ other. bytes_eq other (name_of at)) (form_of word).positionals ≡ false
    → list_any (λ other. bytes_eq other (name_of at)) (form_of word).options ≡ false
    → settings_in word arguments at ≡ None
not_given_outside_form word arguments at of_form apart lacks =
    not_given_without_name (form_of word).positionals arguments (name_of at)
    (text_search_finds_none (form_of word).positionals (name_of at) apart)
    (unknown_name_is_not_given (form_of word).options (names_in arguments) (name_of at) of_form.known
    (text_search_finds_none (form_of word).options (name_of at) lacks))

-- what is missing sets the default
not_given_sets_default : (at : Opt) (default : ℕ) (told : Option ArgumentText) → IsDefault (kind_of at) default → told ≡ None
    → SetsNumber at told default
not_given_sets_default at default told is_default none = subst (λ t. SetsNumber at t default) (sym none) is_default

-- a command doesn't take this option
abbrev pub HasNotGiven : CommandWord → Opt → Type 0
HasNotGiven word at =
    (list_any (λ other. bytes_eq other (name_of at)) (form_of word).positionals ≡ false)
    × (list_any (λ other. bytes_eq other (name_of at)) (form_of word).options ≡ false)

-- settings, and nothing else
abbrev pub given_settings_alone : Settings → Given
given_settings_alone settings = record { seed = 0; frames = 1; settings = settings; limit = 1; some_limit = omega arith }

-- settings that are set are what the arguments give of a command without made traffic, and without a limit
pub settings_given : (word : CommandWord) (arguments : List Argument) (settings : Settings) → HasNotGiven word opt.Seed
    → HasNotGiven word opt.Frames → HasNotGiven word opt.Limit → AreOfForm (form_of word) arguments
    → SetsAll (settings_in word arguments) (store_setting arguments) settings
    → SetsGiven (settings_in word arguments) (store_setting arguments) (given_settings_alone settings)
settings_given word arguments settings seed frames limit of_form set = record {
  seed_set = not_given_sets_default opt.Seed 0 _ refl (not_given_outside_form word arguments opt.Seed of_form seed.0 seed.1);
  frames_set = not_given_sets_default opt.Frames 1 _ refl (not_given_outside_form word arguments opt.Frames of_form frames.0 frames.1);
  settings_set = set;
  limit_set = not_given_sets_default opt.Limit 1 _ refl (not_given_outside_form word arguments opt.Limit of_form limit.0 limit.1);
}

-- the settings if nothing but the grain is set
abbrev pub default_given_settings : Grain → Settings
default_given_settings grain = record {
  shards = 4;
  capacity = 512;
  phi = 10000;
  block = 1024;
  workers = 4;
  callers = 0;
  rounds = 0;
  weigh = Bytes;
  deal = RoundRobin;
  grain = grain;
  front = false;
  store = false;
}

-- an option that gives a setting other than the grain
abbrev IsGivenSetting : Opt → Type 0
IsGivenSetting opt.Seed = ⊥
IsGivenSetting opt.Frames = ⊥
IsGivenSetting opt.Bits = ⊥
IsGivenSetting opt.Limit = ⊥
IsGivenSetting _ = ⊤

-- if the grain is set, and no other setting is given, the others are the defaults
default_settings_given : (values : SettingValues) (path : Option ArgumentText) (grain : Grain)
    → ((at : Opt) → IsGivenSetting at → values at ≡ None) → path ≡ None → SetsGrain (values opt.Bits) grain
    → SetsAll values path (default_given_settings grain)
default_settings_given values path grain missing no_store grain_set = record {
  weigh = subst (λ told. SetsWeigh told Bytes) (sym (missing opt.Weigh tt)) refl;
  shards = not_given_sets_default opt.Shards 4 _ refl (missing opt.Shards tt);
  capacity = not_given_sets_default opt.Capacity 512 _ refl (missing opt.Capacity tt);
  phi = not_given_sets_default opt.Phi 10000 _ refl (missing opt.Phi tt);
  deal = subst (λ told. SetsDeal told RoundRobin) (sym (missing opt.Deal tt)) refl;
  block = not_given_sets_default opt.Block 1024 _ refl (missing opt.Block tt);
  workers = not_given_sets_default opt.Workers 4 _ refl (missing opt.Workers tt);
  callers = not_given_sets_default opt.Callers 0 _ refl (missing opt.Callers tt);
  rounds = not_given_sets_default opt.Rounds 0 _ refl (missing opt.Rounds tt);
  grain = grain_set;
  front = subst (λ told. SetsFront told false) (sym (missing opt.Front tt)) refl;
  store = subst (λ path. SetsStore path false) (sym no_store) refl;
  fits = default_capacity_fits grain;
}
  where
    default_capacity_fits : (grain : Grain) → GrainFits grain 512
    default_capacity_fits Byte = omega arith
    default_capacity_fits Nibble = omega arith

-- the arguments of `make` set nothing else
pub make_is_given_no_settings : (arguments : List Argument) → AreOfForm (form_of Make) arguments
    → SetsAll (settings_in Make arguments) (store_setting arguments) (default_given_settings Byte)
make_is_given_no_settings arguments of_form =
    default_settings_given (settings_in Make arguments) (store_setting arguments) Byte no no_store
    (not_given_sets_default opt.Bits (grain_bits Byte) _ refl (lacks opt.Bits refl))
  where
    lacks : (at : Opt) → list_any (λ other. bytes_eq other (name_of at)) (form_of Make).positionals ≡ false
        → settings_in Make arguments at ≡ None
    lacks at apart = not_given_outside_form Make arguments at of_form apart refl

    no : (at : Opt) → IsGivenSetting at → settings_in Make arguments at ≡ None
    no opt.Seed is = absurd is
    no opt.Frames is = absurd is
    no opt.Weigh is = lacks opt.Weigh refl
    no opt.Shards is = lacks opt.Shards refl
    no opt.Capacity is = lacks opt.Capacity refl
    no opt.Phi is = lacks opt.Phi refl
    no opt.Deal is = lacks opt.Deal refl
    no opt.Block is = lacks opt.Block refl
    no opt.Workers is = lacks opt.Workers refl
    no opt.Callers is = lacks opt.Callers refl
    no opt.Rounds is = lacks opt.Rounds refl
    no opt.Bits is = absurd is
    no opt.Front is = lacks opt.Front refl
    no opt.Limit is = absurd is

    no_store : store_setting arguments ≡ None
    no_store =
        not_given_without_option arguments (codes "store")
        (unknown_name_is_not_given [] (names_in arguments) (codes "store") of_form.known (λ has. omega (arith, has.1)))

-- and those of `watch` set the grain alone
pub watch_is_given_grain : (arguments : List Argument) (grain : Grain) → AreOfForm (form_of Watch) arguments
    → SetsGrain (settings_in Watch arguments opt.Bits) grain
    → SetsAll (settings_in Watch arguments) (store_setting arguments) (default_given_settings grain)
watch_is_given_grain arguments grain of_form grain_set =
    default_settings_given (settings_in Watch arguments) (store_setting arguments) grain no no_store grain_set
  where
    lacks : (at : Opt) → list_any (λ other. bytes_eq other (name_of at)) (form_of Watch).options ≡ false
        → settings_in Watch arguments at ≡ None
    lacks at apart = not_given_outside_form Watch arguments at of_form refl apart

    no : (at : Opt) → IsGivenSetting at → settings_in Watch arguments at ≡ None
    no opt.Seed is = absurd is
    no opt.Frames is = absurd is
    no opt.Weigh is = lacks opt.Weigh refl
    no opt.Shards is = lacks opt.Shards refl
    no opt.Capacity is = lacks opt.Capacity refl
    no opt.Phi is = lacks opt.Phi refl
    no opt.Deal is = lacks opt.Deal refl
    no opt.Block is = lacks opt.Block refl
    no opt.Workers is = lacks opt.Workers refl
    no opt.Callers is = lacks opt.Callers refl
    no opt.Rounds is = lacks opt.Rounds refl
    no opt.Bits is = absurd is
    no opt.Front is = lacks opt.Front refl
    no opt.Limit is = absurd is

    no_store : store_setting arguments ≡ None
    no_store =
        not_given_without_option arguments (codes "store")
        (unknown_name_is_not_given (form_of Watch).options (names_in arguments) (codes "store") of_form.known
        (text_search_finds_none (form_of Watch).options (codes "store") refl))

-- a number that is given is set
given_sets : (at : Opt) (told : Option ArgumentText) (value : ℕ) → GivesNumber at told value → SetsNumber at told value
given_sets at None value gives = absurd gives
given_sets at (Some text) value gives = gives

-- what `watch` gives, with the grain that is set
pub watch_given : (arguments : List Argument) (limit : ℕ) (some : 1 ≤ limit) (grain : Grain) → AreOfForm (form_of Watch) arguments
    → GivesNumber opt.Limit (settings_in Watch arguments opt.Limit) limit → SetsGrain (settings_in Watch arguments opt.Bits) grain
    → SetsGiven (settings_in Watch arguments) (store_setting arguments)
    (record { seed = 0; frames = 1; settings = default_given_settings grain; limit = limit; some_limit = some })
watch_given arguments limit some grain of_form limit_given grain_set = record {
  seed_set = not_given_sets_default opt.Seed 0 _ refl (not_given_outside_form Watch arguments opt.Seed of_form refl refl);
  frames_set = not_given_sets_default opt.Frames 1 _ refl (not_given_outside_form Watch arguments opt.Frames of_form refl refl);
  settings_set = watch_is_given_grain arguments grain of_form grain_set;
  limit_set = given_sets opt.Limit _ limit limit_given;
}

-- traffic that is given, with settings that are set, by a command without a limit
pub traffic_given : (word : CommandWord) (arguments : List Argument) (seed frames : ℕ) (settings : Settings)
    → list_any (λ other. bytes_eq other (codes "limit")) (form_of word).positionals ≡ false
    → list_any (λ other. bytes_eq other (codes "limit")) (form_of word).options ≡ false
    → AreOfForm (form_of word) arguments → GivesTraffic (settings_in word arguments) seed frames
    → SetsAll (settings_in word arguments) (store_setting arguments) settings
    → SetsGiven (settings_in word arguments) (store_setting arguments)
    (record { seed = seed; frames = frames; settings = settings; limit = 1; some_limit = omega arith })
traffic_given word arguments seed frames settings no_limit limit_unknown of_form gives set = record {
  seed_set = given_sets opt.Seed _ seed gives.seed_given;
  frames_set = given_sets opt.Frames _ frames gives.frames_given;
  settings_set = set;
  limit_set = not_given_sets_default opt.Limit 1 _ refl (not_given_outside_form word arguments opt.Limit of_form no_limit limit_unknown);
}

-- a good number sets something, which is no less than the least
good_number_is_given : (at : Opt) (least greatest default : ℕ) (told : Option ArgumentText)
    → kind_of at ≡ number least greatest default → least ≤ default → IsGood at told
    → (value : ℕ) × SetsNumber at told value × (least ≤ value)
good_number_is_given at least greatest default None kind low good =
    (default, subst (λ (k : OptionKind). IsDefault k default) (sym kind) refl, low)
good_number_is_given at least greatest default (Some text) kind low good =
    let within = subst (λ (k : OptionKind). IsGoodText k text) kind good in
    (within.0, (within.1, subst (λ (k : OptionKind). IsAllowed k within.0) (sym kind) within.2), within.2.0)

-- values that are good give something, if they set settings
pub record HaveGivenSettings (values : SettingValues) (path : Option ArgumentText) (settings : Settings) : Type 0 where
  pub given : Given
  pub same : given.settings ≡ settings
  pub gives : SetsGiven values path given

pub given_by_good_values : (values : SettingValues) (path : Option ArgumentText) (settings : Settings) → AreGood values
    → SetsAll values path settings → HaveGivenSettings values path settings
given_by_good_values values path settings good set =
    let seed = good_number_is_given opt.Seed 0 seed_limit 0 (values opt.Seed) refl (omega arith) (good opt.Seed) in
    let frames = good_number_is_given opt.Frames 1 frames_limit 1 (values opt.Frames) refl (omega arith) (good opt.Frames) in
    let limit = good_number_is_given opt.Limit 1 greatest_limit 1 (values opt.Limit) refl (omega arith) (good opt.Limit) in
    record {
      given = record { seed = seed.0; frames = frames.0; settings = settings; limit = limit.0; some_limit = limit.2 };
      same = refl;
      gives = record { seed_set = seed.1; frames_set = frames.1; settings_set = set; limit_set = limit.1 };
    }
