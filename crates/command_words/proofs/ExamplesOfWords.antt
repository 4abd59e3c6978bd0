-- Worked examples of whole command lines: what they ask for, or what is wrong with them.
use Rattle.std.proofs.Common.{◌≡◌, ◌≢◌, ◌<◌, List, [], ◌∷◌, ◌++◌, length, inl, inr, refl, sym, subst, codes}
use Rattle.std.proofs.Common.{true}
use Rattle.std.proofs.Common.{arith}
use Rattle.std.specs.Fmt.{digits}
use Rattle.std.specs.List.{All, Contains, list_any}
use Rattle.std.specs.Str.{bytes_eq}
use Rattle.std.proofs.lemmas.List.Elements.{All-cons, All-head, All-nil}
use Rattle.std.proofs.lemmas.List.Kept.{AllPairs-cons}
use Rattle.prefix_lattice.specs.{PrefixValue, SpellsPrefix}
use Rattle.prefix_lattice.specs.declared.grain.Grain.TheVariants.{Byte}
use Rattle.prefix_lattice.specs.declared.prefix_fault.Side.TheVariants.{Source}
use Rattle.prefix_lattice.specs.declared.prefix_fault.PrefixFault.TheVariants.{LooseBits}
use Rattle.prefix_lattice.proofs.Examples.{front, leading_bits_of_an_address}
use Rattle.frame_records.specs.declared.weigh.Weigh.TheVariants.{Packets}
use Rattle.command_words.specs.Arguments.{ArgumentText, Argument, positional, option, IsValue, IsName}
use Rattle.command_words.specs.Arguments.{long_argument, equals_sign}
use Rattle.prefix_lattice.specs.declared.grain.Grain.TheVariants.{Nibble}
use Rattle.command_words.specs.Arguments.{SpellAll}
use Rattle.command_words.specs.Arguments.{names_in, AreWellFormed}
use Rattle.command_words.specs.FormNames.{word_of, form_of, AreWords}
use Rattle.command_words.specs.PathTexts.{NamesPaths}
use Rattle.command_words.specs.Settings.{settings_in}
use Rattle.command_words.specs.Command.{HasSides, AskToWeigh, AskToReport, AskToFormat}
use Rattle.command_words.specs.Command.{AskToAudit, AskForCommand, IsLimitedCommand}
use Rattle.command_words.specs.Command.{AskToMake, AskToDemo}
use Rattle.command_words.specs.Values.{AreGood}
use Rattle.command_words.specs.Command.{HasGoodPrefix, IsBounded}
use Rattle.command_words.specs.WordsRefusal.{HasBadPrefix, HasBadValue, HasNarrowTables, HasWordsFault}
use Rattle.command_words.specs.Options.{place_of, IsGood}
use Rattle.command_words.specs.declared.command.Command.TheVariants as command
use Rattle.command_words.specs.declared.command_word.CommandWord.{CommandWord}
use Rattle.command_words.specs.declared.command_word.CommandWord.TheVariants.{Weigh, Report, Format, Audit, Make, Demo, Watch}
use Rattle.command_words.specs.declared.opt.Opt.{Opt}
use Rattle.command_words.specs.declared.opt.Opt.TheVariants as opt
use Rattle.command_words.specs.declared.settings.Settings.{Settings}
use Rattle.command_words.specs.declared.words_kind.WordsKind.TheVariants.{NoCommand, UnknownCommand, Refused}
use Rattle.command_words.specs.declared.words_kind.WordsKind.TheVariants.{BadPrefix, OutOfLimits, BadChoice, Bound}
use Rattle.command_words.proofs.TextSearchLemmas.{text_search_finds_contained, text_search_finds_none}
use Rattle.command_words.proofs.TextSearchLemmas.{text_search_tells_apart, text_search_shows_name}
use Rattle.command_words.proofs.OneReadingLemmas.{one_reading}
use Rattle.command_words.proofs.OneValueFaultLemmas.{grain_of_one_value_fits}
use Rattle.command_words.proofs.Examples.{words, arguments, words_of_weigh}
use Rattle.command_words.proofs.ExamplesOfValues.{defaults, nothing_sets_the_defaults}
use Rattle.command_words.proofs.ExamplesOfValues.{defaults_are_within_their_limits, defaults_are_wide}
use Rattle.command_words.proofs.ExamplesOfValues.{half_bytes_by_four_bits, five_bits_are_outside}
use Rattle.command_words.proofs.ExamplesOfValues.{seventeen_shards, tables_too_small_for_a_share, no_front_by_maybe}
use Rattle.command_words.proofs.ExamplesOfValues.{traffic_arguments, three_frames_of_seed_seven, no_frame_is_outside}

pub word_of_a_command : word_of Report ≡ codes "report"
word_of_a_command = refl

option_of : (command : CommandWord) (name : ArgumentText) → list_any (λ other. bytes_eq other name) (form_of command).options ≡ true
    → Contains (form_of command).options name
option_of command name found = (text_search_finds_contained (form_of command).options name).0 found

-- `weigh --weigh=packets 10.0.0.0/8 --capture a.pcap 20.0.0.0/8`
abbrev pub weigh_line : List ArgumentText
weigh_line = codes "weigh" ∷ words

pub words_of_a_command : AreWords weigh_line Weigh arguments
words_of_a_command = record { behind = words; begun = refl; well_formed = words_of_weigh }

pub sides_of_the_prefix : HasSides Weigh arguments (codes "10.0.0.0/8") (codes "20.0.0.0/8")
sides_of_the_prefix = refl

-- 10.0.0.0/8 20.0.0.0/8
abbrev prefix : PrefixValue
prefix = record { source = front 0x0a000000 8; dest = front 0x14000000 8 }

prefix_is_spelled : SpellsPrefix Byte (codes "10.0.0.0/8") (codes "20.0.0.0/8") prefix
unfolding digits
prefix_is_spelled = record {
  source = record { leading = leading_bits_of_an_address 0x0a000000 8 (omega arith); steps = refl; spelled = refl };
  dest = record { leading = leading_bits_of_an_address 0x14000000 8 (omega arith); steps = refl; spelled = refl };
}

abbrev by_packets : Settings
by_packets = record defaults { weigh = Packets }

pub asks_for_a_weight : AskToWeigh weigh_line prefix by_packets
asks_for_a_weight = record {
  arguments = arguments;
  are_words = words_of_a_command;
  source = codes "10.0.0.0/8";
  dest = codes "20.0.0.0/8";
  sides = sides_of_the_prefix;
  spelled = prefix_is_spelled;
  set = record {
    weigh = refl;
    shards = refl;
    capacity = refl;
    phi = refl;
    deal = refl;
    block = refl;
    workers = refl;
    callers = refl;
    rounds = refl;
    grain = refl;
    front = refl;
    store = refl;
    fits = omega arith;
  };
}

pub asks_for_the_command : AskForCommand weigh_line (command.Weigh prefix by_packets)
asks_for_the_command = asks_for_a_weight

pub good_prefix_of_weigh : HasGoodPrefix Weigh arguments
good_prefix_of_weigh = record {
  source = codes "10.0.0.0/8";
  dest = codes "20.0.0.0/8";
  sides = sides_of_the_prefix;
  prefix = prefix;
  spelled = prefix_is_spelled;
}

pub report_has_no_prefix : HasGoodPrefix Report []
report_has_no_prefix = tt

-- `weigh` has a capture, and no store
pub capture_that_is_named : NamesPaths weigh_line (record { capture = codes "a.pcap"; report = []; store = [] })
capture_that_is_named = record {
  command = Weigh;
  arguments = arguments;
  are_words = words_of_a_command;
  capture = record { given = λ has. refl; absent = λ lacks. absurd (lacks (option_of Weigh (codes "capture") refl)) };
  report = record { given = λ has. refl; absent = λ lacks. refl };
  store = record { given = λ has. refl; absent = λ lacks. refl };
}

-- `report`
abbrev report_line : List ArgumentText
report_line = codes "report" ∷ []

no_words_of_report : AreWords report_line Report []
no_words_of_report = record {
  behind = [];
  begun = refl;
  well_formed = record {
    spelled = refl;
    of_form = record {
      as_many = refl;
      known = All-nil _;
      once = λ i j d before within. absurd (omega (arith, before, within));
      complete = All-nil _;
    };
  };
}

pub asks_for_a_report : AskToReport report_line defaults
asks_for_a_report = record {
  arguments = [];
  are_words = no_words_of_report;
  set = nothing_sets_the_defaults;
  wide = defaults_are_wide;
}

pub settings_of_the_report_are_limited : IsLimitedCommand (command.Report defaults)
settings_of_the_report_are_limited = (defaults_are_within_their_limits, defaults_are_wide)

pub standard_input_is_named_by_default : NamesPaths report_line
    (record { capture = codes "-"; report = []; store = [] })
standard_input_is_named_by_default = record {
  command = Report;
  arguments = [];
  are_words = no_words_of_report;
  capture = record { given = λ has. refl; absent = λ lacks. absurd (lacks (option_of Report (codes "capture") refl)) };
  report = record { given = λ has. refl; absent = λ lacks. refl };
  store = record { given = λ has. refl; absent = λ lacks. refl };
}

-- `format --capacity 2 --store=S`
abbrev store_words : List ArgumentText
store_words = codes "--capacity" ∷ codes "2" ∷ codes "--store=S" ∷ []

abbrev store_arguments : List Argument
store_arguments = option (codes "capacity") (codes "2") ∷ option (codes "store") (codes "S") ∷ []

store_words_are_spelled : SpellAll store_words store_arguments
store_words_are_spelled = (
  codes "--store=S" ∷ [],
  record {
    front = codes "--capacity" ∷ codes "2" ∷ [];
    parted = refl;
    spelled = (text_search_shows_name (codes "capacity") refl, λ same. omega (arith, same), inl refl);
  },
  (
    [],
    record {
      front = codes "--store=S" ∷ [];
      parted = refl;
      spelled = (text_search_shows_name (codes "store") refl, λ same. omega (arith, same), inr refl);
    },
    refl,
  ),
)

words_of_format : AreWords (codes "format" ∷ store_words) Format store_arguments
words_of_format = record {
  behind = store_words;
  begun = refl;
  well_formed = record {
    spelled = store_words_are_spelled;
    of_form = record {
      as_many = refl;
      known =
          All-cons (λ name. Contains (form_of Format).options name) (codes "capacity") (codes "store" ∷ [])
          (option_of Format (codes "capacity") refl)
          (All-cons (λ name. Contains (form_of Format).options name) (codes "store") []
          (option_of Format (codes "store") refl) (All-nil (λ name. Contains (form_of Format).options name)));
      once = AllPairs-cons (λ name other. name ≢ other) (codes "capacity") (codes "store" ∷ [])
          (All-cons (λ other. codes "capacity" ≢ other) (codes "store") []
          (text_search_tells_apart (codes "capacity") (codes "store") refl) (All-nil (λ other. codes "capacity" ≢ other)))
          (λ i j d before within. absurd (omega (arith, before, within)));
      complete =
          All-cons (λ name. Contains (names_in store_arguments) name) (codes "store") []
          ((text_search_finds_contained (names_in store_arguments) (codes "store")).0 refl)
          (All-nil (λ name. Contains (names_in store_arguments) name));
    };
  };
}

abbrev small_store : Settings
small_store = record defaults { capacity = 2; store = true }

-- tables of 2 are too small for the default share, which `format` doesn't check
pub asks_for_a_store : AskToFormat (codes "format" ∷ store_words) small_store
unfolding digits
asks_for_a_store = record {
  arguments = store_arguments;
  are_words = words_of_format;
  set = record {
    weigh = refl;
    shards = refl;
    capacity = (record { spelled = refl; bounded = omega arith }, (omega arith, omega arith));
    phi = refl;
    deal = refl;
    block = refl;
    workers = refl;
    callers = refl;
    rounds = refl;
    grain = refl;
    front = refl;
    store = refl;
    fits = omega arith;
  };
}

pub asks_for_the_store_by_its_command : AskForCommand (codes "format" ∷ store_words) (command.Format small_store)
asks_for_the_store_by_its_command = asks_for_a_store

pub shares_of_reports_alone_are_bounded : IsBounded Format → ⊥
shares_of_reports_alone_are_bounded bounded = bounded

-- `format` has no capture, so it names none, not even the standard input
pub store_that_is_named : NamesPaths (codes "format" ∷ store_words)
    (record { capture = []; report = []; store = codes "S" })
store_that_is_named = record {
  command = Format;
  arguments = store_arguments;
  are_words = words_of_format;
  capture = record {
    given = λ has. absurd (text_search_finds_none (form_of Format).options (codes "capture") refl has);
    absent = λ lacks. refl;
  };
  report = record { given = λ has. refl; absent = λ lacks. refl };
  store = record { given = λ has. refl; absent = λ lacks. absurd (lacks (option_of Format (codes "store") refl)) };
}

-- `format` alone lacks the store that it requires
lacks_a_store : (given : List Argument) → AreWellFormed (form_of Format) [] given → ⊥
lacks_a_store given well_formed =
    let none : given ≡ [] = one_reading [] given [] well_formed.spelled refl in
    let same = subst (λ list. AreWellFormed (form_of Format) [] list) none well_formed in
    let within = All-head (Contains []) (codes "store") [] same.of_form.complete in
    omega (arith, within.1)

pub store_is_lacking : HasWordsFault (codes "format" ∷ []) Refused
store_is_lacking = (Format, [], refl, lacks_a_store)

-- `audit --report R`
abbrev audit_words : List ArgumentText
audit_words = codes "--report" ∷ codes "R" ∷ []

abbrev audit_arguments : List Argument
audit_arguments = option (codes "report") (codes "R") ∷ []

words_of_audit : AreWords (codes "audit" ∷ audit_words) Audit audit_arguments
words_of_audit = record {
  behind = audit_words;
  begun = refl;
  well_formed = record {
    spelled = (
      [],
      record {
        front = audit_words;
        parted = refl;
        spelled = (text_search_shows_name (codes "report") refl, λ same. omega (arith, same), inl refl);
      },
      refl,
    );
    of_form = record {
      as_many = refl;
      known =
          All-cons (λ name. Contains (form_of Audit).options name) (codes "report") []
          (option_of Audit (codes "report") refl) (All-nil (λ name. Contains (form_of Audit).options name));
      once = λ i j d before within. absurd (omega (arith, before, within));
      complete =
          All-cons (λ name. Contains (names_in audit_arguments) name) (codes "report") []
          ((text_search_finds_contained (names_in audit_arguments) (codes "report")).0 refl)
          (All-nil (λ name. Contains (names_in audit_arguments) name));
    };
  };
}

pub asks_for_an_audit : AskToAudit (codes "audit" ∷ audit_words) defaults
asks_for_an_audit = record {
  arguments = audit_arguments;
  are_words = words_of_audit;
  set = record {
    weigh = refl;
    shards = refl;
    capacity = refl;
    phi = refl;
    deal = refl;
    block = refl;
    workers = refl;
    callers = refl;
    rounds = refl;
    grain = refl;
    front = refl;
    store = refl;
    fits = omega arith;
  };
  wide = defaults_are_wide;
}

pub asks_for_the_audit_by_its_command : AskForCommand (codes "audit" ∷ audit_words) (command.Audit defaults)
asks_for_the_audit_by_its_command = asks_for_an_audit

-- `audit` compares a text with a capture, which the standard input is by default, and has no store
pub text_that_is_named : NamesPaths (codes "audit" ∷ audit_words)
    (record { capture = codes "-"; report = codes "R"; store = [] })
text_that_is_named = record {
  command = Audit;
  arguments = audit_arguments;
  are_words = words_of_audit;
  capture = record { given = λ has. refl; absent = λ lacks. absurd (lacks (option_of Audit (codes "capture") refl)) };
  report = record { given = λ has. refl; absent = λ lacks. absurd (lacks (option_of Audit (codes "report") refl)) };
  store = record { given = λ has. refl; absent = λ lacks. refl };
}

-- `audit` alone lacks the text that it requires
lacks_a_text : (given : List Argument) → AreWellFormed (form_of Audit) [] given → ⊥
lacks_a_text given well_formed =
    let none : given ≡ [] = one_reading [] given [] well_formed.spelled refl in
    let same = subst (λ list. AreWellFormed (form_of Audit) [] list) none well_formed in
    let within = All-head (Contains []) (codes "report") [] same.of_form.complete in
    omega (arith, within.1)

pub text_is_lacking : HasWordsFault (codes "audit" ∷ []) Refused
text_is_lacking = (Audit, [], refl, lacks_a_text)

-- an empty command line
pub no_command : HasWordsFault [] NoCommand
no_command = refl

-- no command is called `way`
way_is_no_command : (command : CommandWord) → codes "way" ≢ word_of command
way_is_no_command Weigh = text_search_tells_apart (codes "way") (codes "weigh") refl
way_is_no_command Report = text_search_tells_apart (codes "way") (codes "report") refl
way_is_no_command Format = text_search_tells_apart (codes "way") (codes "format") refl
way_is_no_command Audit = text_search_tells_apart (codes "way") (codes "audit") refl
way_is_no_command Make = text_search_tells_apart (codes "way") (codes "make") refl
way_is_no_command Demo = text_search_tells_apart (codes "way") (codes "demo") refl
way_is_no_command Watch = text_search_tells_apart (codes "way") (codes "watch") refl

pub unknown_command : HasWordsFault (codes "way" ∷ []) UnknownCommand
unknown_command = (codes "way", [], refl, way_is_no_command)

-- `weigh` alone lacks its positionals
lacks_positionals : (arguments : List Argument) → AreWellFormed (form_of Weigh) [] arguments → ⊥
lacks_positionals arguments well_formed =
    let none : arguments ≡ [] = one_reading [] arguments [] well_formed.spelled refl in
    let same = subst (λ given. AreWellFormed (form_of Weigh) [] given) none well_formed in
    omega (arith, same.of_form.as_many)

pub positionals_are_lacking : HasWordsFault (codes "weigh" ∷ []) Refused
positionals_are_lacking = (Weigh, [], refl, lacks_positionals)

-- `weigh 10.1.2.0/16 0.0.0.0/0`: the third byte is past the length
abbrev loose_words : List ArgumentText
loose_words = codes "10.1.2.0/16" ∷ codes "0.0.0.0/0" ∷ []

abbrev loose_arguments : List Argument
loose_arguments = positional (codes "10.1.2.0/16") ∷ positional (codes "0.0.0.0/0") ∷ []

loose_words_are_spelled : SpellAll loose_words loose_arguments
loose_words_are_spelled = (
  codes "0.0.0.0/0" ∷ [],
  record { front = codes "10.1.2.0/16" ∷ []; parted = refl; spelled = (λ same. omega (arith, same), refl) },
  ([], record { front = codes "0.0.0.0/0" ∷ []; parted = refl; spelled = (λ same. omega (arith, same), refl) }, refl),
)

pub bits_past_the_length : HasBadPrefix (codes "weigh" ∷ loose_words) (LooseBits Source)
unfolding digits
bits_past_the_length = record {
  command = Weigh;
  arguments = loose_arguments;
  are_words = record {
    behind = loose_words;
    begun = refl;
    well_formed = record {
      spelled = loose_words_are_spelled;
      of_form = record {
        as_many = refl;
        known = All-nil _;
        once = λ i j d before within. absurd (omega (arith, before, within));
        complete = All-nil _;
      };
    };
  };
  source = codes "10.1.2.0/16";
  dest = codes "0.0.0.0/0";
  sides = refl;
  has_fault =
      inl (
        refl,
        record {
          address = 0x0a010200;
          bits = 16;
          is_address = omega arith;
          is_length = record { few = omega arith; whole = refl };
          spelled = refl;
          loose = λ none. omega (arith, none);
        },
      );
}

pub prefix_is_the_fault : HasWordsFault (codes "weigh" ∷ loose_words) (BadPrefix (LooseBits Source))
prefix_is_the_fault = bits_past_the_length

-- an option of `report`
abbrev IsOption : ArgumentText → Type 0
IsOption name = Contains (form_of Report).options name

-- one option of `report` in one word, as in `report --bits=4`
one_option_of_report : (name value : ArgumentText) → IsName name → IsValue value → IsOption name
    → AreWords (codes "report" ∷ (long_argument name ++ equals_sign ∷ value) ∷ []) Report (option name value ∷ [])
one_option_of_report name value is_name is_value is_option = record {
  behind = (long_argument name ++ equals_sign ∷ value) ∷ [];
  begun = refl;
  well_formed = record {
    spelled = (
      [],
      record {
        front = (long_argument name ++ equals_sign ∷ value) ∷ [];
        parted = refl;
        spelled = (is_name, is_value, inr refl);
      },
      refl,
    );
    of_form = record {
      as_many = refl;
      known = All-cons IsOption name [] is_option (All-nil IsOption);
      once = λ i j d before within. absurd (omega (arith, before, within));
      complete = All-nil _;
    };
  };
}

-- `report --bits=4`
pub asks_for_half_bytes : AskToReport (codes "report" ∷ codes "--bits=4" ∷ []) (record defaults { grain = Nibble })
asks_for_half_bytes = record {
  arguments = option (codes "bits") (codes "4") ∷ [];
  are_words =
      one_option_of_report (codes "bits") (codes "4") (text_search_shows_name (codes "bits") refl)
      (λ same. omega (arith, same)) (option_of Report (codes "bits") refl);
  set = record {
    weigh = refl;
    shards = refl;
    capacity = refl;
    phi = refl;
    deal = refl;
    block = refl;
    workers = refl;
    callers = refl;
    rounds = refl;
    grain = half_bytes_by_four_bits;
    front = refl;
    store = refl;
    fits = omega arith;
  };
  wide = defaults_are_wide;
}

-- `report --bits=5`
good_before_bits : (other : Opt) → place_of other < place_of opt.Bits
    → IsGood other (settings_in Report (option (codes "bits") (codes "5") ∷ []) other)
good_before_bits opt.Seed before = tt
good_before_bits opt.Frames before = tt
good_before_bits opt.Weigh before = tt
good_before_bits opt.Shards before = tt
good_before_bits opt.Capacity before = tt
good_before_bits opt.Phi before = tt
good_before_bits opt.Deal before = tt
good_before_bits opt.Block before = tt
good_before_bits opt.Workers before = tt
good_before_bits opt.Callers before = tt
good_before_bits opt.Rounds before = tt
good_before_bits opt.Bits before = absurd (omega (arith, before))
good_before_bits opt.Front before = absurd (omega (arith, before))
good_before_bits opt.Limit before = absurd (omega (arith, before))

pub five_bits_are_the_fault : HasWordsFault (codes "report" ∷ codes "--bits=5" ∷ []) (OutOfLimits opt.Bits)
five_bits_are_the_fault = record {
  command = Report;
  arguments = option (codes "bits") (codes "5") ∷ [];
  are_words =
      one_option_of_report (codes "bits") (codes "5") (text_search_shows_name (codes "bits") refl)
      (λ same. omega (arith, same)) (option_of Report (codes "bits") refl);
  good_prefix = tt;
  has_fault =
      inl (record {
        before = record { good = good_before_bits; fits = λ behind. absurd (omega (arith, behind)) };
        text = codes "5";
        value = refl;
        is_bad = five_bits_are_outside;
      });
}

-- `report --front=yes`
pub asks_for_the_front : AskToReport (codes "report" ∷ codes "--front=yes" ∷ []) (record defaults { front = true })
asks_for_the_front = record {
  arguments = option (codes "front") (codes "yes") ∷ [];
  are_words =
      one_option_of_report (codes "front") (codes "yes") (text_search_shows_name (codes "front") refl)
      (λ same. omega (arith, same)) (option_of Report (codes "front") refl);
  set = record {
    weigh = refl;
    shards = refl;
    capacity = refl;
    phi = refl;
    deal = refl;
    block = refl;
    workers = refl;
    callers = refl;
    rounds = refl;
    grain = refl;
    front = refl;
    store = refl;
    fits = omega arith;
  };
  wide = defaults_are_wide;
}

-- `report --front=maybe`: nothing else is set
good_before_front : (other : Opt) → place_of other < place_of opt.Front
    → IsGood other (settings_in Report (option (codes "front") (codes "maybe") ∷ []) other)
good_before_front opt.Seed before = tt
good_before_front opt.Frames before = tt
good_before_front opt.Weigh before = tt
good_before_front opt.Shards before = tt
good_before_front opt.Capacity before = tt
good_before_front opt.Phi before = tt
good_before_front opt.Deal before = tt
good_before_front opt.Block before = tt
good_before_front opt.Workers before = tt
good_before_front opt.Callers before = tt
good_before_front opt.Rounds before = tt
good_before_front opt.Bits before = tt
good_before_front opt.Front before = absurd (omega (arith, before))
good_before_front opt.Limit before = absurd (omega (arith, before))

pub maybe_is_the_fault : HasWordsFault (codes "report" ∷ codes "--front=maybe" ∷ []) (BadChoice opt.Front)
maybe_is_the_fault = record {
  command = Report;
  arguments = option (codes "front") (codes "maybe") ∷ [];
  are_words =
      one_option_of_report (codes "front") (codes "maybe") (text_search_shows_name (codes "front") refl)
      (λ same. omega (arith, same)) (option_of Report (codes "front") refl);
  good_prefix = tt;
  has_fault = record {
    before = record {
      good = good_before_front;
      fits = λ behind.
          grain_of_one_value_fits (settings_in Report (option (codes "front") (codes "maybe") ∷ [])) Byte 512 refl refl
          (omega arith);
    };
    text = codes "maybe";
    value = refl;
    is_bad = no_front_by_maybe;
  };
}

-- `format` has a grain, and reads no capture that may be cut
pub store_has_a_grain : Contains (form_of Format).options (codes "bits")
store_has_a_grain = option_of Format (codes "bits") refl

pub no_front_of_a_store : Contains (form_of Format).options (codes "front") → ⊥
no_front_of_a_store = text_search_finds_none (form_of Format).options (codes "front") refl

-- `report --shards=17`
abbrev many_shards : List Argument
many_shards = option (codes "shards") (codes "17") ∷ []

words_for_many_shards : AreWords (codes "report" ∷ codes "--shards=17" ∷ []) Report many_shards
words_for_many_shards =
    one_option_of_report (codes "shards") (codes "17") (text_search_shows_name (codes "shards") refl)
    (λ same. omega (arith, same)) (option_of Report (codes "shards") refl)

good_before_shards : (other : Opt) → place_of other < place_of opt.Shards
    → IsGood other (settings_in Report many_shards other)
good_before_shards opt.Seed before = tt
good_before_shards opt.Frames before = tt
good_before_shards opt.Weigh before = tt
good_before_shards opt.Shards before = absurd (omega (arith, before))
good_before_shards opt.Capacity before = tt
good_before_shards opt.Phi before = tt
good_before_shards opt.Deal before = tt
good_before_shards opt.Block before = tt
good_before_shards opt.Workers before = tt
good_before_shards opt.Callers before = tt
good_before_shards opt.Rounds before = tt
good_before_shards opt.Bits before = tt
good_before_shards opt.Front before = tt
good_before_shards opt.Limit before = tt

pub more_shards_than_there_may_be : HasBadValue (codes "report" ∷ codes "--shards=17" ∷ []) (OutOfLimits opt.Shards)
more_shards_than_there_may_be = record {
  command = Report;
  arguments = many_shards;
  are_words = words_for_many_shards;
  good_prefix = tt;
  has_fault =
      inl (record {
        before = record { good = good_before_shards; fits = λ behind. absurd (omega (arith, behind)) };
        text = codes "17";
        value = refl;
        is_bad = seventeen_shards;
      });
}

-- `report --phi 117647 --capacity 17`
abbrev narrow_words : List ArgumentText
narrow_words = codes "--phi" ∷ codes "117647" ∷ codes "--capacity" ∷ codes "17" ∷ []

abbrev narrow_arguments : List Argument
narrow_arguments = option (codes "phi") (codes "117647") ∷ option (codes "capacity") (codes "17") ∷ []

narrow_words_are_spelled : SpellAll narrow_words narrow_arguments
narrow_words_are_spelled = (
  codes "--capacity" ∷ codes "17" ∷ [],
  record {
    front = codes "--phi" ∷ codes "117647" ∷ [];
    parted = refl;
    spelled = (text_search_shows_name (codes "phi") refl, λ same. omega (arith, same), inl refl);
  },
  (
    [],
    record {
      front = codes "--capacity" ∷ codes "17" ∷ [];
      parted = refl;
      spelled = (text_search_shows_name (codes "capacity") refl, λ same. omega (arith, same), inl refl);
    },
    refl,
  ),
)

narrow_words_are_of_report : AreWellFormed (form_of Report) narrow_words narrow_arguments
narrow_words_are_of_report = record {
  spelled = narrow_words_are_spelled;
  of_form = record {
    as_many = refl;
    known =
        All-cons IsOption (codes "phi") (codes "capacity" ∷ [])
        ((text_search_finds_contained (form_of Report).options (codes "phi")).0 refl)
        (All-cons IsOption (codes "capacity") [] ((text_search_finds_contained (form_of Report).options (codes "capacity")).0 refl)
        (All-nil IsOption));
    once = AllPairs-cons (λ name other. name ≢ other) (codes "phi") (codes "capacity" ∷ [])
        (All-cons (λ other. codes "phi" ≢ other) (codes "capacity") []
        (text_search_tells_apart (codes "phi") (codes "capacity") refl) (All-nil (λ other. codes "phi" ≢ other)))
        (λ i j d before within. absurd (omega (arith, before, within)));
    complete = All-nil _;
  };
}

narrow_values_are_good : AreGood (settings_in Report narrow_arguments)
unfolding digits
narrow_values_are_good opt.Seed = tt
narrow_values_are_good opt.Frames = tt
narrow_values_are_good opt.Weigh = tt
narrow_values_are_good opt.Shards = tt
narrow_values_are_good opt.Capacity = (17, record { spelled = refl; bounded = omega arith }, (omega arith, omega arith))
narrow_values_are_good opt.Phi =
    (117647, record { spelled = refl; bounded = omega arith }, (omega arith, omega arith))
narrow_values_are_good opt.Deal = tt
narrow_values_are_good opt.Block = tt
narrow_values_are_good opt.Workers = tt
narrow_values_are_good opt.Callers = tt
narrow_values_are_good opt.Rounds = tt
narrow_values_are_good opt.Bits = tt
narrow_values_are_good opt.Front = tt
narrow_values_are_good opt.Limit = tt

pub tables_are_too_narrow : HasNarrowTables (codes "report" ∷ narrow_words)
unfolding digits
tables_are_too_narrow = record {
  command = Report;
  bounded = tt;
  arguments = narrow_arguments;
  are_words = record { behind = narrow_words; begun = refl; well_formed = narrow_words_are_of_report };
  good = narrow_values_are_good;
  settings = record defaults { phi = 117647; capacity = 17 };
  set = record {
    weigh = refl;
    shards = refl;
    capacity = (record { spelled = refl; bounded = omega arith }, (omega arith, omega arith));
    phi = (record { spelled = refl; bounded = omega arith }, (omega arith, omega arith));
    deal = refl;
    block = refl;
    workers = refl;
    callers = refl;
    rounds = refl;
    grain = refl;
    front = refl;
    store = refl;
    fits = omega arith;
  };
  narrow = tables_too_small_for_a_share;
}

pub bound_is_the_fault : HasWordsFault (codes "report" ∷ narrow_words) Bound
bound_is_the_fault = tables_are_too_narrow

-- `make 7 3`
abbrev traffic_words : List ArgumentText
traffic_words = codes "7" ∷ codes "3" ∷ []

two_numbers_are_spelled : (frames : ArgumentText) → IsValue frames → SpellAll (codes "7" ∷ frames ∷ [])
    (positional (codes "7") ∷ positional frames ∷ [])
two_numbers_are_spelled frames is_value = (
  frames ∷ [],
  record { front = codes "7" ∷ []; parted = refl; spelled = (λ same. omega (arith, same), refl) },
  ([], record { front = frames ∷ []; parted = refl; spelled = (is_value, refl) }, refl),
)

two_numbers : (command : CommandWord) (frames : ArgumentText) → IsValue frames → length (form_of command).positionals ≡ 2
    → (form_of command).required ≡ []
    → AreWords (word_of command ∷ codes "7" ∷ frames ∷ []) command
    (positional (codes "7") ∷ positional frames ∷ [])
two_numbers command frames is_value two none = record {
  behind = codes "7" ∷ frames ∷ [];
  begun = refl;
  well_formed = record {
    spelled = two_numbers_are_spelled frames is_value;
    of_form = record {
      as_many = sym two;
      known = All-nil _;
      once = λ i j d before within. absurd (omega (arith, before, within));
      complete = subst (λ names. All (λ name. Contains [] name) names) (sym none) (All-nil _);
    };
  };
}

pub asks_for_made_traffic : AskToMake (codes "make" ∷ traffic_words) 7 3
asks_for_made_traffic = record {
  arguments = traffic_arguments;
  are_words = two_numbers Make (codes "3") (λ same. omega (arith, same)) refl refl;
  made = three_frames_of_seed_seven;
}

pub asks_for_made_traffic_by_its_command : AskForCommand (codes "make" ∷ traffic_words) (command.Make 7 3)
asks_for_made_traffic_by_its_command = asks_for_made_traffic

-- `make` has no options, so it names no path
pub no_path_is_named : NamesPaths (codes "make" ∷ traffic_words) (record { capture = []; report = []; store = [] })
no_path_is_named = record {
  command = Make;
  arguments = traffic_arguments;
  are_words = two_numbers Make (codes "3") (λ same. omega (arith, same)) refl refl;
  capture = record { given = λ has. absurd (omega (arith, has.1)); absent = λ lacks. refl };
  report = record { given = λ has. refl; absent = λ lacks. refl };
  store = record { given = λ has. refl; absent = λ lacks. refl };
}

-- `demo 7 3`
pub asks_for_a_demo : AskToDemo (codes "demo" ∷ traffic_words) 7 3 defaults
asks_for_a_demo = record {
  arguments = traffic_arguments;
  are_words = two_numbers Demo (codes "3") (λ same. omega (arith, same)) refl refl;
  made = three_frames_of_seed_seven;
  set = record {
    weigh = refl;
    shards = refl;
    capacity = refl;
    phi = refl;
    deal = refl;
    block = refl;
    workers = refl;
    callers = refl;
    rounds = refl;
    grain = refl;
    front = refl;
    store = refl;
    fits = omega arith;
  };
  wide = defaults_are_wide;
}

pub asks_for_the_demo_by_its_command : AskForCommand (codes "demo" ∷ traffic_words) (command.Demo 7 3 defaults)
asks_for_the_demo_by_its_command = asks_for_a_demo

-- `make 7 0`: the seed is good, and no frame is too few
abbrev no_frame : List Argument
no_frame = positional (codes "7") ∷ positional (codes "0") ∷ []

good_before_frames : (other : Opt) → place_of other < place_of opt.Frames → IsGood other (settings_in Make no_frame other)
unfolding digits
good_before_frames opt.Seed before =
    (7, record { spelled = refl; bounded = omega arith }, (omega arith, omega arith))
good_before_frames opt.Frames before = absurd (omega (arith, before))
good_before_frames opt.Weigh before = tt
good_before_frames opt.Shards before = tt
good_before_frames opt.Capacity before = tt
good_before_frames opt.Phi before = tt
good_before_frames opt.Deal before = tt
good_before_frames opt.Block before = tt
good_before_frames opt.Workers before = tt
good_before_frames opt.Callers before = tt
good_before_frames opt.Rounds before = tt
good_before_frames opt.Bits before = tt
good_before_frames opt.Front before = tt
good_before_frames opt.Limit before = tt

pub no_frame_is_the_fault : HasWordsFault (codes "make" ∷ codes "7" ∷ codes "0" ∷ []) (OutOfLimits opt.Frames)
no_frame_is_the_fault = record {
  command = Make;
  arguments = no_frame;
  are_words = two_numbers Make (codes "0") (λ same. omega (arith, same)) refl refl;
  good_prefix = tt;
  has_fault =
      inl (record {
        before = record { good = good_before_frames; fits = λ behind. absurd (omega (arith, behind)) };
        text = codes "0";
        value = refl;
        is_bad = no_frame_is_outside;
      });
}
