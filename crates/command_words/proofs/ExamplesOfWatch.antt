-- Worked examples of command lines of `watch`.
use Rattle.std.proofs.Common.{◌≡◌, ◌≢◌, ◌<◌, List, [], ◌∷◌, ◌++◌, inl, inr, refl, subst, codes}
use Rattle.std.proofs.Common.{arith}
use Rattle.std.specs.Fmt.{digits}
use Rattle.std.specs.List.{AllPairs, Contains}
use Rattle.std.proofs.lemmas.List.Elements.{All-cons, All-head, All-nil}
use Rattle.std.proofs.lemmas.List.Kept.{AllPairs-cons}
use Rattle.prefix_lattice.specs.{PrefixValue, SpellsPrefix, HasPrefixFault}
use Rattle.prefix_lattice.specs.declared.grain.Grain.TheVariants.{Byte, Nibble}
use Rattle.prefix_lattice.specs.declared.prefix_fault.Side.TheVariants.{Dest}
use Rattle.prefix_lattice.specs.declared.prefix_fault.PrefixFault.TheVariants.{LooseBits}
use Rattle.prefix_lattice.proofs.Examples.{front, leading_bits_of_an_address}
use Rattle.watch_rules.specs.declared.rule.Rule.{Rule}
use Rattle.command_words.specs.Arguments.{ArgumentText, Argument, option, IsValue}
use Rattle.command_words.specs.Arguments.{long_argument, equals_sign, SpellAll, AreWellFormed}
use Rattle.command_words.specs.FormNames.{form_of, AreWords}
use Rattle.command_words.specs.PathTexts.{NamesPaths}
use Rattle.command_words.specs.Given.{IsBadPrefix}
use Rattle.command_words.specs.Settings.{settings_in}
use Rattle.command_words.specs.Command.{whole_side, side_setting, HasSides, prefix_grain, AskToWatch, AskForCommand}
use Rattle.command_words.specs.Command.{IsLimitedCommand, SpellOwnPrefix, HasGoodPrefix}
use Rattle.command_words.specs.WordsRefusal.{HasWordsFault}
use Rattle.command_words.specs.Options.{place_of, IsGood}
use Rattle.command_words.specs.declared.command.Command.TheVariants as command
use Rattle.command_words.specs.declared.command_word.CommandWord.TheVariants.{Weigh, Watch}
use Rattle.command_words.specs.declared.opt.Opt.{Opt}
use Rattle.command_words.specs.declared.opt.Opt.TheVariants as opt
use Rattle.command_words.specs.declared.words_kind.WordsKind.TheVariants.{Refused, BadPrefix, OutOfLimits}
use Rattle.command_words.proofs.TextSearchLemmas.{text_search_finds_contained, text_search_finds_none}
use Rattle.command_words.proofs.TextSearchLemmas.{text_search_tells_apart, text_search_shows_name}
use Rattle.command_words.proofs.OneReadingLemmas.{one_reading}
use Rattle.command_words.proofs.OneValueFaultLemmas.{grain_of_one_value_fits}
use Rattle.command_words.proofs.ExamplesOfValues.{half_bytes_by_four_bits, no_limit_of_0}

-- `watch --report r --limit=LIMIT --dst DEST --bits=4`
abbrev rule_words : ArgumentText → ArgumentText → List ArgumentText
rule_words limit dest =
    codes "--report" ∷ codes "r" ∷ (long_argument (codes "limit") ++ equals_sign ∷ limit) ∷ codes "--dst" ∷ dest
    ∷ codes "--bits=4" ∷ []

abbrev rule_arguments : ArgumentText → ArgumentText → List Argument
rule_arguments limit dest =
    option (codes "report") (codes "r") ∷ option (codes "limit") limit ∷ option (codes "dst") dest
    ∷ option (codes "bits") (codes "4") ∷ []

abbrev rule_names : List ArgumentText
rule_names = codes "report" ∷ codes "limit" ∷ codes "dst" ∷ codes "bits" ∷ []

rule_words_are_spelled : (limit dest : ArgumentText) → IsValue limit → IsValue dest
    → SpellAll (rule_words limit dest) (rule_arguments limit dest)
rule_words_are_spelled limit dest is_limit is_dest = (
  _,
  record {
    front = codes "--report" ∷ codes "r" ∷ [];
    parted = refl;
    spelled = (text_search_shows_name (codes "report") refl, λ same. omega (arith, same), inl refl);
  },
  (
    _,
    record {
      front = (long_argument (codes "limit") ++ equals_sign ∷ limit) ∷ [];
      parted = refl;
      spelled = (text_search_shows_name (codes "limit") refl, is_limit, inr refl);
    },
    (
      _,
      record {
        front = codes "--dst" ∷ dest ∷ [];
        parted = refl;
        spelled = (text_search_shows_name (codes "dst") refl, is_dest, inl refl);
      },
      (
        [],
        record {
          front = codes "--bits=4" ∷ [];
          parted = refl;
          spelled = (text_search_shows_name (codes "bits") refl, λ same. omega (arith, same), inr refl);
        },
        refl,
      ),
    ),
  ),
)

-- an option of `watch`
abbrev IsOption : ArgumentText → Type 0
IsOption name = Contains (form_of Watch).options name

abbrev IsRuleName : ArgumentText → Type 0
IsRuleName name = Contains rule_names name

rule_names_are_apart : AllPairs (λ name other. name ≢ other) rule_names
rule_names_are_apart =
    AllPairs-cons (λ name other. name ≢ other) (codes "report") (codes "limit" ∷ codes "dst" ∷ codes "bits" ∷ [])
    (All-cons (λ other. codes "report" ≢ other) (codes "limit") (codes "dst" ∷ codes "bits" ∷ [])
    (text_search_tells_apart (codes "report") (codes "limit") refl)
    (All-cons (λ other. codes "report" ≢ other) (codes "dst") (codes "bits" ∷ [])
    (text_search_tells_apart (codes "report") (codes "dst") refl)
    (All-cons (λ other. codes "report" ≢ other) (codes "bits") []
    (text_search_tells_apart (codes "report") (codes "bits") refl)
    (All-nil (λ other. codes "report" ≢ other)))))
    (AllPairs-cons (λ name other. name ≢ other) (codes "limit") (codes "dst" ∷ codes "bits" ∷ [])
    (All-cons (λ other. codes "limit" ≢ other) (codes "dst") (codes "bits" ∷ [])
    (text_search_tells_apart (codes "limit") (codes "dst") refl)
    (All-cons (λ other. codes "limit" ≢ other) (codes "bits") []
    (text_search_tells_apart (codes "limit") (codes "bits") refl)
    (All-nil (λ other. codes "limit" ≢ other))))
    (AllPairs-cons (λ name other. name ≢ other) (codes "dst") (codes "bits" ∷ [])
    (All-cons (λ other. codes "dst" ≢ other) (codes "bits") []
    (text_search_tells_apart (codes "dst") (codes "bits") refl)
    (All-nil (λ other. codes "dst" ≢ other)))
    (AllPairs-cons (λ name other. name ≢ other) (codes "bits") []
    (All-nil (λ other. codes "bits" ≢ other))
    (λ i j d before within. absurd (omega (arith, before, within))))))

are_rule_words : (limit dest : ArgumentText) → IsValue limit → IsValue dest
    → AreWords (codes "watch" ∷ rule_words limit dest) Watch (rule_arguments limit dest)
are_rule_words limit dest is_limit is_dest = record {
  behind = rule_words limit dest;
  begun = refl;
  well_formed = record {
    spelled = rule_words_are_spelled limit dest is_limit is_dest;
    of_form = record {
      as_many = refl;
      known =
          All-cons IsOption (codes "report") (codes "limit" ∷ codes "dst" ∷ codes "bits" ∷ [])
          ((text_search_finds_contained (form_of Watch).options (codes "report")).0 refl)
          (All-cons IsOption (codes "limit") (codes "dst" ∷ codes "bits" ∷ [])
          ((text_search_finds_contained (form_of Watch).options (codes "limit")).0 refl)
          (All-cons IsOption (codes "dst") (codes "bits" ∷ [])
          ((text_search_finds_contained (form_of Watch).options (codes "dst")).0 refl)
          (All-cons IsOption (codes "bits") []
          ((text_search_finds_contained (form_of Watch).options (codes "bits")).0 refl)
          (All-nil IsOption))));
      once = rule_names_are_apart;
      complete =
          All-cons IsRuleName (codes "report") (codes "limit" ∷ [])
          ((text_search_finds_contained rule_names (codes "report")).0 refl)
          (All-cons IsRuleName (codes "limit") []
          ((text_search_finds_contained rule_names (codes "limit")).0 refl)
          (All-nil IsRuleName));
    };
  };
}

-- all sources, and 1.16.0.0/12
abbrev prefix : PrefixValue
prefix = record { source = front 0 0; dest = front 0x01100000 12 }

abbrev rule : Rule
rule = record { prefix = prefix; limit = 5; some = omega arith }

prefix_is_spelled : SpellsPrefix Nibble whole_side (codes "1.16.0.0/12") prefix
unfolding digits
prefix_is_spelled = record {
  source = record { leading = leading_bits_of_an_address 0 0 (omega arith); steps = refl; spelled = refl };
  dest = record { leading = leading_bits_of_an_address 0x01100000 12 (omega arith); steps = refl; spelled = refl };
}

-- `watch --report r --limit=5 --dst 1.16.0.0/12 --bits=4`
abbrev rule_line : List ArgumentText
rule_line = codes "watch" ∷ rule_words (codes "5") (codes "1.16.0.0/12")

words_of_the_rule : AreWords rule_line Watch (rule_arguments (codes "5") (codes "1.16.0.0/12"))
words_of_the_rule =
    are_rule_words (codes "5") (codes "1.16.0.0/12") (λ same. omega (arith, same)) (λ same. omega (arith, same))

pub side_that_is_missing : side_setting (codes "src") (rule_arguments (codes "5") (codes "1.16.0.0/12")) ≡ whole_side
side_that_is_missing = refl

pub sides_of_the_rule : HasSides Watch (rule_arguments (codes "5") (codes "1.16.0.0/12")) whole_side (codes "1.16.0.0/12")
sides_of_the_rule = (refl, refl)

pub asks_to_watch : AskToWatch rule_line rule Nibble
unfolding digits
asks_to_watch = record {
  arguments = rule_arguments (codes "5") (codes "1.16.0.0/12");
  are_words = words_of_the_rule;
  source = whole_side;
  dest = codes "1.16.0.0/12";
  sides = sides_of_the_rule;
  spelled = prefix_is_spelled;
  limit_given = (record { spelled = refl; bounded = omega arith }, (omega arith, omega arith));
  grain_set = half_bytes_by_four_bits;
}

pub asks_for_the_watch_by_its_command : AskForCommand rule_line (command.Watch rule Nibble)
asks_for_the_watch_by_its_command = asks_to_watch

pub rule_is_within_its_limits : IsLimitedCommand (command.Watch rule Nibble)
rule_is_within_its_limits = (
  omega arith,
  omega arith,
  record {
    source = leading_bits_of_an_address 0 0 (omega arith);
    dest = leading_bits_of_an_address 0x01100000 12 (omega arith);
    source_steps = refl;
    dest_steps = refl;
  },
)

-- a prefix of 12 bits is none of whole bytes
pub rule_by_whole_bytes_is_outside : IsLimitedCommand (command.Watch rule Byte) → ⊥
rule_by_whole_bytes_is_outside limited = omega (arith, limited.2.dest_steps)

-- `watch` reads no capture
pub text_that_is_named : NamesPaths rule_line (record { capture = []; report = codes "r"; store = [] })
text_that_is_named = record {
  command = Watch;
  arguments = rule_arguments (codes "5") (codes "1.16.0.0/12");
  are_words = words_of_the_rule;
  capture = record {
    given = λ has. absurd (text_search_finds_none (form_of Watch).options (codes "capture") refl has);
    absent = λ lacks. refl;
  };
  report = record {
    given = λ has. refl;
    absent = λ lacks. absurd (lacks ((text_search_finds_contained (form_of Watch).options (codes "report")).0 refl));
  };
  store = record { given = λ has. refl; absent = λ lacks. refl };
}

-- the lengths of its prefix are those of half bytes, and those of `weigh` of whole bytes
pub half_bytes_of_the_rule : prefix_grain Watch (rule_arguments (codes "5") (codes "1.16.0.0/12")) ≡ Nibble
half_bytes_of_the_rule = refl

pub whole_bytes_of_weigh : prefix_grain Weigh (rule_arguments (codes "5") (codes "1.16.0.0/12")) ≡ Byte
whole_bytes_of_weigh = refl

-- `watch --report r --limit=0 --dst 1.16.0.0/12 --bits=4`: a prefix, and no limit
rule_has_own_prefix : SpellOwnPrefix Watch (rule_arguments (codes "0") (codes "1.16.0.0/12"))
rule_has_own_prefix = record {
  source = whole_side;
  dest = codes "1.16.0.0/12";
  sides = (refl, refl);
  prefix = prefix;
  spelled = prefix_is_spelled;
}

pub good_prefix_of_the_rule : HasGoodPrefix Watch (rule_arguments (codes "0") (codes "1.16.0.0/12"))
good_prefix_of_the_rule = rule_has_own_prefix

good_before_the_limit : (other : Opt) → place_of other < place_of opt.Limit
    → IsGood other (settings_in Watch (rule_arguments (codes "0") (codes "1.16.0.0/12")) other)
good_before_the_limit opt.Seed before = tt
good_before_the_limit opt.Frames before = tt
good_before_the_limit opt.Weigh before = tt
good_before_the_limit opt.Shards before = tt
good_before_the_limit opt.Capacity before = tt
good_before_the_limit opt.Phi before = tt
good_before_the_limit opt.Deal before = tt
good_before_the_limit opt.Block before = tt
good_before_the_limit opt.Workers before = tt
good_before_the_limit opt.Callers before = tt
good_before_the_limit opt.Rounds before = tt
good_before_the_limit opt.Bits before = (4, half_bytes_by_four_bits.0, half_bytes_by_four_bits.1)
good_before_the_limit opt.Front before = tt
good_before_the_limit opt.Limit before = absurd (omega (arith, before))

pub limit_is_the_fault
    : HasWordsFault (codes "watch" ∷ rule_words (codes "0") (codes "1.16.0.0/12")) (OutOfLimits opt.Limit)
limit_is_the_fault = record {
  command = Watch;
  arguments = rule_arguments (codes "0") (codes "1.16.0.0/12");
  are_words =
      are_rule_words (codes "0") (codes "1.16.0.0/12") (λ same. omega (arith, same)) (λ same. omega (arith, same));
  good_prefix = good_prefix_of_the_rule;
  has_fault =
      inl (record {
        before = record {
          good = good_before_the_limit;
          fits = λ behind.
              grain_of_one_value_fits (settings_in Watch (rule_arguments (codes "0") (codes "1.16.0.0/12"))) Nibble 512
              half_bytes_by_four_bits refl (omega arith);
        };
        text = codes "0";
        value = refl;
        is_bad = no_limit_of_0;
      });
}

-- `watch --report r --limit=0 --dst 1.8.0.0/12 --bits=4`: a bit is past the length, and that is looked at before the limit
bit_past_the_length : HasPrefixFault Nibble whole_side (codes "1.8.0.0/12") (LooseBits Dest)
unfolding digits
bit_past_the_length =
    inr (
      (
        front 0 0,
        record { leading = leading_bits_of_an_address 0 0 (omega arith); steps = refl; spelled = refl },
      ),
      (
        refl,
        record {
          address = 0x01080000;
          bits = 12;
          is_address = omega arith;
          is_length = record { few = omega arith; whole = refl };
          spelled = refl;
          loose = λ none. omega (arith, none);
        },
      ),
    )

pub fault_of_two_texts : IsBadPrefix Nibble whole_side (codes "1.8.0.0/12") (BadPrefix (LooseBits Dest))
fault_of_two_texts = bit_past_the_length

pub prefix_of_the_rule_is_the_fault
    : HasWordsFault (codes "watch" ∷ rule_words (codes "0") (codes "1.8.0.0/12")) (BadPrefix (LooseBits Dest))
prefix_of_the_rule_is_the_fault = record {
  command = Watch;
  arguments = rule_arguments (codes "0") (codes "1.8.0.0/12");
  are_words =
      are_rule_words (codes "0") (codes "1.8.0.0/12") (λ same. omega (arith, same)) (λ same. omega (arith, same));
  source = whole_side;
  dest = codes "1.8.0.0/12";
  sides = (refl, refl);
  has_fault = bit_past_the_length;
}

-- `watch --limit=5` lacks a text
lacks_a_text : (arguments : List Argument) → AreWellFormed (form_of Watch) (codes "--limit=5" ∷ []) arguments → ⊥
lacks_a_text arguments well_formed =
    let are : arguments ≡ option (codes "limit") (codes "5") ∷ [] =
    one_reading (codes "--limit=5" ∷ []) arguments (option (codes "limit") (codes "5") ∷ []) well_formed.spelled (
      [],
      record {
        front = codes "--limit=5" ∷ [];
        parted = refl;
        spelled = (text_search_shows_name (codes "limit") refl, λ same. omega (arith, same), inr refl);
      },
      refl,
    ) in
    let same = subst (λ given. AreWellFormed (form_of Watch) (codes "--limit=5" ∷ []) given) are well_formed in
    text_search_finds_none (codes "limit" ∷ []) (codes "report") refl
    (All-head (Contains (codes "limit" ∷ [])) (codes "report") (codes "limit" ∷ []) same.of_form.complete)

pub text_to_watch_is_lacking : HasWordsFault (codes "watch" ∷ codes "--limit=5" ∷ []) Refused
text_to_watch_is_lacking = (Watch, codes "--limit=5" ∷ [], refl, lacks_a_text)
