-- Worked examples of options that names follow.
use Rattle.std.proofs.Common.{◌≡◌, ◌≢◌, ◌+◌, ◌<◌, ◌≤◌, ◌++◌, ◌∙◌, suc, List, [], ◌∷◌, length, inl, inr, refl, sym, ap, subst, codes, arith}
use Rattle.std.specs.List.{All, Contains}
use Rattle.std.proofs.lemmas.List.{length-append}
use Rattle.std.proofs.lemmas.List.Elements.{All-cons, All-from_recursion, All-head, All-nil}
use Rattle.std.proofs.lemmas.List.Kept.{AllPairs-cons}
use Rattle.command_words.specs.Arguments.{ArgumentText, option, IsName, IsValue, AreWellFormed}
use Rattle.command_words.specs.Arguments.{long_argument, equals_sign}
use Rattle.command_words.specs.Names.{AreOptionsThenNames, HasReportFault, options_alone, report_options}
use Rattle.command_words.specs.Options.{place_of, IsGood}
use Rattle.command_words.specs.Settings.{settings_in}
use Rattle.command_words.specs.declared.command_word.CommandWord.TheVariants.{Report}
use Rattle.command_words.specs.declared.opt.Opt.{Opt}
use Rattle.command_words.specs.declared.opt.Opt.TheVariants as opt
use Rattle.command_words.specs.declared.words_kind.WordsKind.TheVariants.{BadNumber}
use Rattle.command_words.proofs.TextSearchLemmas.{text_search_finds_contained, text_search_shows_name, text_search_tells_apart}
use Rattle.command_words.proofs.ExamplesOfValues.{shards_with_a_leading_zero}

-- names without an option
names_alone : (options names : List ArgumentText) → 1 ≤ length names → All IsValue names
    → AreOptionsThenNames options names [] names
names_alone options names some are_names = record {
  parted = refl;
  arguments = [];
  well_formed = record {
    spelled = refl;
    of_form = record {
      as_many = refl;
      known = All-nil _;
      once = λ i j d before within. absurd (omega (arith, before, within));
      complete = All-nil _;
    };
  };
  some_names = some;
  are_names = are_names;
}

abbrev pub two_names : List ArgumentText
two_names = codes "S" ∷ codes "T" ∷ []

abbrev pub nine_names : List ArgumentText
nine_names =
    codes "a" ∷ codes "b" ∷ codes "c" ∷ codes "d" ∷ codes "e" ∷ codes "f" ∷ codes "g" ∷ codes "h" ∷ codes "i" ∷ []

pub two_names_alone : (options : List ArgumentText) → AreOptionsThenNames options two_names [] two_names
two_names_alone options =
    names_alone options two_names (omega arith)
    (All-from_recursion IsValue two_names (λ same. omega (arith, same), (λ same. omega (arith, same), tt)))

pub nine_names_alone : (options : List ArgumentText) → AreOptionsThenNames options nine_names [] nine_names
nine_names_alone options =
    names_alone options nine_names (omega arith)
    (All-from_recursion IsValue nine_names (
      λ s. omega (arith, s),
      (
        λ s. omega (arith, s),
        (
          λ s. omega (arith, s),
          (
            λ s. omega (arith, s),
            (
              λ s. omega (arith, s),
              (
                λ s. omega (arith, s),
                (
                  λ s. omega (arith, s),
                  (λ s. omega (arith, s), (λ s. omega (arith, s), tt)),
                ),
              ),
            ),
          ),
        ),
      ),
    ))

-- one option in one word, as `--bits=5`
one_option : (options : List ArgumentText) (name value : ArgumentText) → IsName name → IsValue value → Contains options name
    → AreWellFormed (options_alone options) ((long_argument name ++ equals_sign ∷ value) ∷ []) (option name value ∷ [])
one_option options name value is_name is_value is_option = record {
  spelled = (
    [],
    record {
      front = (long_argument name ++ equals_sign ∷ value) ∷ [];
      parted = refl;
      spelled = (is_name, is_value, inr refl);
    },
    refl,
  );
  of_form = record {
    as_many = refl;
    known = All-cons (Contains options) name [] is_option (All-nil (Contains options));
    once = λ i j d before within. absurd (omega (arith, before, within));
    complete = All-nil _;
  };
}

-- `--bits=5 S`
pub option_before_a_name : (options : List ArgumentText) → Contains options (codes "bits")
    → AreOptionsThenNames options (codes "--bits=5" ∷ codes "S" ∷ []) (codes "--bits=5" ∷ []) (codes "S" ∷ [])
option_before_a_name options is_option = record {
  parted = refl;
  arguments = option (codes "bits") (codes "5") ∷ [];
  well_formed =
      one_option options (codes "bits") (codes "5") (text_search_shows_name (codes "bits") refl)
      (λ same. omega (arith, same)) is_option;
  some_names = omega arith;
  are_names = All-cons IsValue (codes "S") [] (λ same. omega (arith, same)) (All-nil IsValue);
}

-- `--shards=01 S`
pub number_before_a_name : (options : List ArgumentText) → Contains options (codes "shards")
    → AreOptionsThenNames options (codes "--shards=01" ∷ codes "S" ∷ []) (codes "--shards=01" ∷ []) (codes "S" ∷ [])
number_before_a_name options is_option = record {
  parted = refl;
  arguments = option (codes "shards") (codes "01") ∷ [];
  well_formed =
      one_option options (codes "shards") (codes "01") (text_search_shows_name (codes "shards") refl)
      (λ same. omega (arith, same)) is_option;
  some_names = omega arith;
  are_names = All-cons IsValue (codes "S") [] (λ same. omega (arith, same)) (All-nil IsValue);
}

-- `--phi 117647 --capacity 17 S`
pub two_options_before_a_name : (options : List ArgumentText) → Contains options (codes "phi")
    → Contains options (codes "capacity")
    → AreOptionsThenNames options
    (codes "--phi" ∷ codes "117647" ∷ codes "--capacity" ∷ codes "17" ∷ codes "S" ∷ [])
    (codes "--phi" ∷ codes "117647" ∷ codes "--capacity" ∷ codes "17" ∷ []) (codes "S" ∷ [])
two_options_before_a_name options has_phi has_capacity = record {
  parted = refl;
  arguments = option (codes "phi") (codes "117647") ∷ option (codes "capacity") (codes "17") ∷ [];
  well_formed = record {
    spelled = (
      codes "--capacity" ∷ codes "17" ∷ [],
      record {
        front = codes "--phi" ∷ codes "117647" ∷ [];
        parted = refl;
        spelled = (text_search_shows_name (codes "phi") refl, λ same. omega (arith, same), inl refl);
      },
      (
        [],
        record {
          front = codes "--capacity" ∷ codes "17" ∷ [];
          parted = refl;
          spelled = (text_search_shows_name (codes "capacity") refl, λ same. omega (arith, same), inl refl);
        },
        refl,
      ),
    );
    of_form = record {
      as_many = refl;
      known =
          All-cons (Contains options) (codes "phi") (codes "capacity" ∷ []) has_phi
          (All-cons (Contains options) (codes "capacity") [] has_capacity (All-nil (Contains options)));
      once = AllPairs-cons (λ name other. name ≢ other) (codes "phi") (codes "capacity" ∷ [])
          (All-cons (λ other. codes "phi" ≢ other) (codes "capacity") []
          (text_search_tells_apart (codes "phi") (codes "capacity") refl) (All-nil (λ other. codes "phi" ≢ other)))
          (λ i j d before within. absurd (omega (arith, before, within)));
      complete = All-nil _;
    };
  };
  some_names = omega arith;
  are_names = All-cons IsValue (codes "S") [] (λ same. omega (arith, same)) (All-nil IsValue);
}

-- an option with no name behind it: `--shards=1` can't be a name
pub no_name_behind_an_option : (options front names : List ArgumentText)
    → AreOptionsThenNames options (codes "--shards=1" ∷ []) front names → ⊥
no_name_behind_an_option options front [] are = omega (arith, are.some_names)
no_name_behind_an_option options [] (name ∷ names) are =
    let same : codes "--shards=1" ∷ [] ≡ name ∷ names = are.parted in
    let values : All IsValue (codes "--shards=1" ∷ []) =
    subst (All IsValue) (sym same) are.are_names in
    All-head IsValue (codes "--shards=1") [] values refl
no_name_behind_an_option options (first ∷ front) (name ∷ names) are =
    let whole : 1 ≡ suc (length front) + suc (length names) =
    ap length are.parted ∙ length-append (first ∷ front) (name ∷ names) in
    omega (arith, whole)

-- `report --shards=01`
good_before_shards : (other : Opt) → place_of other < place_of opt.Shards
    → IsGood other (settings_in Report (option (codes "shards") (codes "01") ∷ []) other)
good_before_shards opt.Seed before = tt
good_before_shards opt.Frames before = tt
good_before_shards opt.Weigh before = tt
good_before_shards opt.Shards before = absurd (omega (arith, before))
good_before_shards opt.Capacity before = tt
good_before_shards opt.Phi before = tt
good_before_shards opt.Deal before = tt
good_before_shards opt.Block before = tt
good_before_shards opt.Workers before = tt
good_before_shards opt.Callers before = tt
good_before_shards opt.Rounds before = tt
good_before_shards opt.Bits before = tt
good_before_shards opt.Front before = tt
good_before_shards opt.Limit before = tt

pub number_with_a_zero_is_the_fault : HasReportFault (codes "--shards=01" ∷ []) (BadNumber opt.Shards)
number_with_a_zero_is_the_fault = record {
  command = Report;
  arguments = option (codes "shards") (codes "01") ∷ [];
  are_words = record {
    behind = codes "--shards=01" ∷ [];
    begun = refl;
    well_formed =
        one_option report_options (codes "shards") (codes "01") (text_search_shows_name (codes "shards") refl)
        (λ same. omega (arith, same)) ((text_search_finds_contained report_options (codes "shards")).0 refl);
  };
  good_prefix = tt;
  has_fault = record {
    before = record { good = good_before_shards; fits = λ behind. absurd (omega (arith, behind)) };
    text = codes "01";
    value = refl;
    is_bad = shards_with_a_leading_zero;
  };
}
