-- What `clap` finds in words is what the words say.
use Rattle.std.proofs.Common.{◌≡◌, ◌<◌, ◌≤◌, ℕ, zero, suc, List, [], ◌∷◌, length, Option, Some, None, Bor, refl, sym}
use Rattle.std.proofs.lemmas.Option.{same_Some}
use Rattle.std.proofs.Common.{ap, ap₂, ◌∙◌, subst, arith, codes, slice_index_or, Bool, true, false, true≢false}
use Rattle.std.specs.Str.{bytes_eq}
use Rattle.prefix_lattice.specs.{SpellsPrefix}
use Rattle.watch_rules.specs.declared.rule.Rule.{Rule}
use Rattle.std.proofs.Math.Path.{fun_ext}
use Rattle.std.specs.Prelude.{slice_get, Contains, IsSome, unwrap_or}
use Rattle.clap.specs.Words.{found_of, first_value}
use Rattle.clap.specs.declared.parser.matches.ArgMatches.{ArgMatches}
use Rattle.command_words.specs.Arguments.{ArgumentText, Argument, ArgumentForm, positionals_in}
use Rattle.command_words.specs.Arguments.{positional, option, value_of, named, names_in}
use Rattle.command_words.specs.Scanning.{text_at}
use Rattle.command_words.specs.FormNames.{form_of}
use Rattle.command_words.specs.Options.{name_of}
use Rattle.command_words.specs.Settings.{SettingValues, settings_in, store_setting, SetsNumber, SetsAll, SetsGrain, grain_told}
use Rattle.command_words.specs.Settings.{GivesNumber, GivesTraffic}
use Rattle.command_words.specs.Settings.{HaveWideShare}
use Rattle.command_words.specs.Given.{SetsGiven, IsBadPrefix}
use Rattle.command_words.specs.Matches.{AreMatchesOf, MatchWords, values_in, store_in}
use Rattle.command_words.specs.PathTexts.{NamesPath}
use Rattle.command_words.specs.Values.{AreGood, HasValueFault}
use Rattle.command_words.specs.Command.{HasSides, HasGoodPrefix, prefix_grain, whole_side}
use Rattle.command_words.specs.WordsRefusal.{HasBadValue, HasWordsFault}
use Rattle.command_words.specs.Command.{AskToMake, AskToDemo, AskToWatch, IsBounded}
use Rattle.command_words.specs.declared.command_word.CommandWord.{CommandWord}
use Rattle.command_words.specs.declared.command_word.CommandWord.TheVariants.{Weigh, Report, Format, Audit, Make, Demo, Watch}
use Rattle.command_words.specs.declared.opt.Opt.{Opt}
use Rattle.command_words.specs.declared.settings.Settings.{Settings}
use Rattle.command_words.specs.declared.given.Given.{Given}
use Rattle.command_words.specs.declared.words_kind.WordsKind.{WordsKind}
use Rattle.command_words.specs.declared.words_kind.WordsKind.TheVariants.{BadNumber, OutOfLimits, BadChoice, Bound, BadPrefix}
use Rattle.command_words.specs.declared.opt.Opt.TheVariants.{Bits, Limit}
use Rattle.command_words.specs.declared.opt.Opt.TheVariants as opt
use Rattle.command_words.proofs.MatchRowLemmas.{match_row_name_is_same}
use Rattle.command_words.proofs.OneValueFaultLemmas.{grain_of_one_value_is_told}

-- the first byte of a name; the name of a positional begins with a capital letter, which is at most 90
abbrev pub match_name_first_byte : ArgumentText → ℕ
match_name_first_byte [] = 0
match_name_first_byte (first ∷ rest) = first

-- a name that begins with a lower-case letter is neither of two names that don't
small_match_name_is_neither : (one two name : ArgumentText) → 90 < match_name_first_byte name → Contains (one ∷ two ∷ []) name → match_name_first_byte one ≤ 90
    → match_name_first_byte two ≤ 90 → ⊥
small_match_name_is_neither one two name small has large other = go has.0 has.1 has.2
  where
    go : (place : ℕ) → place < 2 → slice_index_or (one ∷ two ∷ []) place name ≡ name → ⊥
    go zero below same = omega (arith, ap match_name_first_byte same, large, small)
    go (suc zero) below same = omega (arith, ap match_name_first_byte same, other, small)
    go (suc (suc place)) below same = omega arith

-- a name that begins with a lower-case letter is not that of a positional
match_name_is_no_positional : (word : CommandWord) (name : ArgumentText) → 90 < match_name_first_byte name → Contains (form_of word).positionals name → ⊥
match_name_is_no_positional Weigh name small has = small_match_name_is_neither (codes "SRC") (codes "DST") name small has (omega arith) (omega arith)
match_name_is_no_positional Report name small has = omega (arith, has.1)
match_name_is_no_positional Format name small has = omega (arith, has.1)
match_name_is_no_positional Audit name small has = omega (arith, has.1)
match_name_is_no_positional Make name small has = small_match_name_is_neither (codes "SEED") (codes "FRAMES") name small has (omega arith) (omega arith)
match_name_is_no_positional Demo name small has = small_match_name_is_neither (codes "SEED") (codes "FRAMES") name small has (omega arith) (omega arith)
match_name_is_no_positional Watch name small has = omega (arith, has.1)

-- the values that matches hold are those of the arguments
pub matches_tell_values : (word : CommandWord) (arguments : List Argument) (matches : ArgMatches)
    → AreMatchesOf (form_of word) arguments matches → values_in matches ≡ settings_in word arguments
matches_tell_values word arguments matches told = fun_ext (λ at. told.by_name (name_of at))

-- if they are good, so are those of the arguments
pub matches_tell_good_values : (word : CommandWord) (arguments : List Argument) (matches : ArgMatches)
    → AreMatchesOf (form_of word) arguments matches → AreGood (values_in matches)
    → AreGood (settings_in word arguments)
matches_tell_good_values word arguments matches told good =
    subst (λ values. AreGood values) (matches_tell_values word arguments matches told) good

-- the path that matches hold is the one that the arguments give
pub matches_tell_path : (word : CommandWord) (arguments : List Argument) (matches : ArgMatches) (name : ArgumentText)
    → AreMatchesOf (form_of word) arguments matches → 90 < match_name_first_byte name
    → first_value (found_of matches) name ≡ value_of name arguments
matches_tell_path word arguments matches name told small = told.options name (match_name_is_no_positional word name small)

-- the text for a path that is read from matches is the one that the arguments name
pub matches_tell_named_path : (word : CommandWord) (arguments : List Argument) (matches : ArgMatches)
    (name default text : ArgumentText) → AreMatchesOf (form_of word) arguments matches → 90 < match_name_first_byte name
    → (Contains (form_of word).options name → text ≡ unwrap_or (first_value (found_of matches) name) default)
    → ((Contains (form_of word).options name → ⊥) → text ≡ [])
    → NamesPath (form_of word) arguments name default text
matches_tell_named_path word arguments matches name default text told small given absent = record {
  given = λ has. given has ∙ ap (λ value. unwrap_or value default) (matches_tell_path word arguments matches name told small);
  absent = absent;
}

-- settings that are read from matches are those of the arguments
pub matches_tell_settings : (word : CommandWord) (arguments : List Argument) (matches : ArgMatches) (settings : Settings)
    → AreMatchesOf (form_of word) arguments matches
    → SetsAll (values_in matches) (store_in matches) settings
    → SetsAll (settings_in word arguments) (store_setting arguments) settings
matches_tell_settings word arguments matches settings told set =
    subst (λ path. SetsAll (settings_in word arguments) path settings)
    (matches_tell_path word arguments matches (codes "store") told (omega arith))
    (subst (λ values. SetsAll values (store_in matches) settings)
    (matches_tell_values word arguments matches told) set)

-- the first fault of the values that matches hold is the fault of the words, if their positionals are good
pub matches_tell_fault : (words : List ArgumentText) (word : CommandWord) (matches : ArgMatches)
    (tells : MatchWords words word matches) (kind : WordsKind) → HasGoodPrefix word tells.arguments
    → HasValueFault (values_in matches) kind → HasWordsFault words kind
matches_tell_fault words word matches tells kind good has =
    go kind
    (subst (λ values. HasValueFault values kind) (matches_tell_values word tells.arguments matches tells.told) has)
  where
    bad : (kind : WordsKind) → HasValueFault (settings_in word tells.arguments) kind → HasBadValue words kind
    bad kind fault = record {
      command = word;
      arguments = tells.arguments;
      are_words = tells.are_words;
      good_prefix = good;
      has_fault = fault;
    }

    go : (kind : WordsKind) → HasValueFault (settings_in word tells.arguments) kind → HasWordsFault words kind
    go (BadNumber at) fault = bad (BadNumber at) fault
    go (OutOfLimits at) fault = bad (OutOfLimits at) fault
    go (BadChoice at) fault = bad (BadChoice at) fault
    go _ fault = absurd fault

-- a fault of the two sides that the arguments have is the fault of the words
pub matches_tell_bad_prefix : (words : List ArgumentText) (word : CommandWord) (matches : ArgMatches)
    (tells : MatchWords words word matches) (source dest : ArgumentText) (kind : WordsKind) → HasSides word tells.arguments source dest
    → IsBadPrefix (prefix_grain word tells.arguments) source dest kind → HasWordsFault words kind
matches_tell_bad_prefix words word matches tells source dest (BadPrefix fault) sides has = record {
  command = word;
  arguments = tells.arguments;
  are_words = tells.are_words;
  source = source;
  dest = dest;
  sides = sides;
  has_fault = has;
}
matches_tell_bad_prefix words word matches tells source dest _ sides has = absurd has

-- if matches give settings whose tables are too small for their share, that is the fault of the words
pub matches_tell_narrow_settings : (words : List ArgumentText) (word : CommandWord) (matches : ArgMatches)
    (tells : MatchWords words word matches) (settings : Settings) (kind : WordsKind) → IsBounded word
    → AreGood (values_in matches)
    → SetsAll (values_in matches) (store_in matches) settings
    → kind ≡ Bound → (HaveWideShare settings → ⊥) → HasWordsFault words kind
matches_tell_narrow_settings words word matches tells settings kind bounded good set is narrow =
    subst (λ k. HasWordsFault words k) (sym is) record {
      command = word;
      bounded = bounded;
      arguments = tells.arguments;
      are_words = tells.are_words;
      good = matches_tell_good_values word tells.arguments matches tells.told good;
      settings = settings;
      set = matches_tell_settings word tells.arguments matches settings tells.told set;
      narrow = narrow;
    }

-- two positionals, which matches hold by their names
pub record MatchesTellTwo (arguments : List Argument) (matches : ArgMatches) (one two : ArgumentText) : Type 0 where
  pub first : ArgumentText
  pub second : ArgumentText
  pub are : positionals_in arguments ≡ first ∷ second ∷ []
  pub first_told : first_value (found_of matches) one ≡ Some first
  pub second_told : first_value (found_of matches) two ≡ Some second

-- matches hold both positionals of a form that has two
matches_tell_two_positionals : (form : ArgumentForm) (arguments : List Argument) (matches : ArgMatches) (one two : ArgumentText)
    → form.positionals ≡ one ∷ two ∷ [] → length (positionals_in arguments) ≡ 2
    → AreMatchesOf form arguments matches → MatchesTellTwo arguments matches one two
matches_tell_two_positionals form arguments matches one two has many told = go (positionals_in arguments) refl many
  where
    go : (texts : List ArgumentText) → positionals_in arguments ≡ texts → length texts ≡ 2
        → MatchesTellTwo arguments matches one two
    go [] are many = absurd (omega arith)
    go (first ∷ []) are many = absurd (omega arith)
    go (first ∷ second ∷ []) are many = record {
      first = first;
      second = second;
      are = are;
      first_told = told.positionals 0 one (ap (λ names. slice_get names 0) has) ∙ ap (λ texts. slice_get texts 0) are;
      second_told = told.positionals 1 two (ap (λ names. slice_get names 1) has) ∙ ap (λ texts. slice_get texts 1) are;
    }
    go (first ∷ second ∷ other ∷ more) are many = absurd (omega arith)

-- matches hold both sides of `weigh`
pub matches_tell_sides : (arguments : List Argument) (matches : ArgMatches) → length (positionals_in arguments) ≡ 2
    → AreMatchesOf (form_of Weigh) arguments matches → MatchesTellTwo arguments matches (codes "SRC") (codes "DST")
matches_tell_sides arguments matches two told =
    matches_tell_two_positionals (form_of Weigh) arguments matches (codes "SRC") (codes "DST") refl two told

-- a number that is set by a text is given
match_sets_given_number : (at : Opt) (told : Option ArgumentText) (text : ArgumentText) (value : ℕ) → told ≡ Some text
    → SetsNumber at told value → GivesNumber at told value
match_sets_given_number at None text value is set = cc
match_sets_given_number at (Some other) text value is set = set

-- the traffic that is read from matches is what the arguments give
matches_tell_traffic : (word : CommandWord) (arguments : List Argument) (matches : ArgMatches) (given : Given)
    → (form_of word).positionals ≡ codes "SEED" ∷ codes "FRAMES" ∷ [] → length (positionals_in arguments) ≡ 2
    → AreMatchesOf (form_of word) arguments matches
    → SetsGiven (values_in matches) (store_in matches) given
    → GivesTraffic (settings_in word arguments) given.seed given.frames
matches_tell_traffic word arguments matches given has many told sets =
    let two = matches_tell_two_positionals (form_of word) arguments matches (codes "SEED") (codes "FRAMES") has many told in
    subst (λ values. GivesTraffic values given.seed given.frames) (matches_tell_values word arguments matches told) record {
      seed_given = match_sets_given_number opt.Seed _ two.first given.seed two.first_told sets.seed_set;
      frames_given = match_sets_given_number opt.Frames _ two.second given.frames two.second_told sets.frames_set;
    }

-- so the words of `make` ask for it
pub matches_tell_make : (words : List ArgumentText) (matches : ArgMatches) (tells : MatchWords words Make matches)
    (given : Given) → SetsGiven (values_in matches) (store_in matches) given
    → AskToMake words given.seed given.frames
matches_tell_make words matches tells given sets = record {
  arguments = tells.arguments;
  are_words = tells.are_words;
  made =
      matches_tell_traffic Make tells.arguments matches given refl tells.are_words.well_formed.of_form.as_many tells.told sets;
}

-- and those of `demo` ask for a demo of it
pub matches_tell_demo : (words : List ArgumentText) (matches : ArgMatches) (tells : MatchWords words Demo matches)
    (given : Given) → SetsGiven (values_in matches) (store_in matches) given
    → HaveWideShare given.settings → AskToDemo words given.seed given.frames given.settings
matches_tell_demo words matches tells given sets wide = record {
  arguments = tells.arguments;
  are_words = tells.are_words;
  made =
      matches_tell_traffic Demo tells.arguments matches given refl tells.are_words.well_formed.of_form.as_many tells.told sets;
  set = matches_tell_settings Demo tells.arguments matches given.settings tells.told sets.settings_set;
  wide = wide;
}

-- a text that matches hold is found
pub match_told_is_found : (found : Option (Bor ArgumentText)) (told : Option ArgumentText) (text : ArgumentText) → text_at found ≡ told
    → told ≡ Some text → IsSome found
match_told_is_found None told text is told_is = cc
match_told_is_found (Some word) told text is told_is = refl

-- what is found is the text that matches hold
match_found_is_told : (found : Option (Bor ArgumentText)) (told : Option ArgumentText) (text : ArgumentText) (word : Bor ArgumentText)
    → text_at found ≡ told → told ≡ Some text → found ≡ Some word → word.now ≡ text
match_found_is_told found told text word is told_is found_is = same_Some word.now text (sym (ap text_at found_is) ∙ is ∙ told_is)

-- what is found for SRC and DST are the sides of `weigh`
pub matches_found_are_sides : (words : List ArgumentText) (matches : ArgMatches) (tells : MatchWords words Weigh matches)
    (found_source found_dest : Option (Bor ArgumentText)) (source dest : Bor ArgumentText)
    → text_at found_source ≡ first_value (found_of matches) (codes "SRC")
    → text_at found_dest ≡ first_value (found_of matches) (codes "DST")
    → found_source ≡ Some source → found_dest ≡ Some dest → HasSides Weigh tells.arguments source.now dest.now
matches_found_are_sides words matches tells found_source found_dest source dest source_is dest_is source_found dest_found =
    let told = matches_tell_sides tells.arguments matches tells.are_words.well_formed.of_form.as_many tells.told in
    told.are
    ∙ ap₂ (λ s d. s ∷ d ∷ [])
    (sym (match_found_is_told found_source _ told.first source source_is told.first_told source_found))
    (sym (match_found_is_told found_dest _ told.second dest dest_is told.second_told dest_found))

-- the sides of the prefix of a rule that are read from matches are those that the arguments give
pub matches_tell_sides_of_rule : (words : List ArgumentText) (matches : ArgMatches) (tells : MatchWords words Watch matches)
    (source dest : ArgumentText) → source ≡ unwrap_or (first_value (found_of matches) (codes "src")) whole_side
    → dest ≡ unwrap_or (first_value (found_of matches) (codes "dst")) whole_side → HasSides Watch tells.arguments source dest
matches_tell_sides_of_rule words matches tells source dest source_is dest_is = (
  source_is
      ∙ ap (λ value. unwrap_or value whole_side)
      (matches_tell_path Watch tells.arguments matches (codes "src") tells.told (omega arith)),
  dest_is
      ∙ ap (λ value. unwrap_or value whole_side)
      (matches_tell_path Watch tells.arguments matches (codes "dst") tells.told (omega arith)),
)

-- and so is the grain by which they are checked
pub matches_tell_grain : (words : List ArgumentText) (matches : ArgMatches) (tells : MatchWords words Watch matches)
    → grain_told (values_in matches Bits) ≡ prefix_grain Watch tells.arguments
matches_tell_grain words matches tells =
    ap (λ values. grain_told (values Bits)) (matches_tell_values Watch tells.arguments matches tells.told)

-- an option that a form requires has a value
match_of_required_option : (arguments : List Argument) (name : ArgumentText) → Contains (names_in arguments) name
    → (text : ArgumentText) × (value_of name (named [] arguments) ≡ Some text)
match_of_required_option [] name has = absurd (omega (arith, has.1))
match_of_required_option (positional text ∷ arguments) name has = match_of_required_option arguments name has
match_of_required_option (option other value ∷ arguments) name has =
    go (match_of_required_option arguments name) (bytes_eq other name) refl
  where
    behind : bytes_eq other name ≡ false → (place : ℕ) → place < suc (length (names_in arguments))
        → slice_index_or (other ∷ names_in arguments) place name ≡ name → Contains (names_in arguments) name
    behind is zero below same = absurd (true≢false (sym (match_row_name_is_same other) ∙ ap (bytes_eq other) same ∙ is))
    behind is (suc place) below same = (place, omega (arith, below), same)

    go : (Contains (names_in arguments) name → (text : ArgumentText) × (value_of name (named [] arguments) ≡ Some text))
        → (b : Bool) → bytes_eq other name ≡ b
        → (text : ArgumentText) × (value_of name (named [] (option other value ∷ arguments)) ≡ Some text)
    go rest true is = (value, rw is refl)
    go rest false is =
        let found = rest (behind is has.0 has.1 has.2) in (found.0, rw is found.1)

-- the words of `watch` ask for the alarms of a rule
pub matches_tell_watch : (words : List ArgumentText) (matches : ArgMatches) (tells : MatchWords words Watch matches)
    (given : Given) (source dest : ArgumentText) (rule : Rule) → HasSides Watch tells.arguments source dest
    → SpellsPrefix (prefix_grain Watch tells.arguments) source dest rule.prefix → given.limit ≡ rule.limit
    → SetsGiven (values_in matches) (store_in matches) given → AskToWatch words rule given.settings.grain
matches_tell_watch words matches tells given source dest rule sides spelled same sets = record {
  arguments = tells.arguments;
  are_words = tells.are_words;
  source = source;
  dest = dest;
  sides = sides;
  spelled =
      subst (λ grain. SpellsPrefix grain source dest rule.prefix)
      (grain_of_one_value_is_told (values Bits) given.settings.grain grain_set) spelled;
  limit_given =
      subst (GivesNumber Limit (values Limit)) same
      (match_sets_given_number Limit (values Limit) text.0 given.limit text.1
      (subst (λ v. SetsNumber Limit (v Limit) given.limit) same_values sets.limit_set));
  grain_set = grain_set;
}
  where
    values : SettingValues
    values = settings_in Watch tells.arguments

    same_values : values_in matches ≡ values
    same_values = matches_tell_values Watch tells.arguments matches tells.told

    grain_set : SetsGrain (values Bits) given.settings.grain
    grain_set = subst (λ v. SetsGrain (v Bits) given.settings.grain) same_values sets.settings_set.grain

    text : (text : ArgumentText) × (values Limit ≡ Some text)
    text =
        match_of_required_option tells.arguments (codes "limit")
        (tells.are_words.well_formed.of_form.complete 1 [] (omega arith))
