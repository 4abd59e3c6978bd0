-- Worked examples of the words after a command's name.
use Rattle.std.proofs.Common.{◌≡◌, ◌≢◌, ℕ, List, [], ◌∷◌, Some, None, inl, inr, refl, codes, arith, Bor}
use Rattle.std.proofs.lemmas.List.Elements.{All-cons, All-nil}
use Rattle.std.proofs.lemmas.List.Kept.{AllPairs-cons}
use Rattle.std.specs.List.{All, AllPairs, Contains}
use Rattle.command_words.specs.Arguments.{ArgumentText, Argument, positional, option, hyphen}
use Rattle.command_words.specs.Arguments.{equals_sign, IsValue, IsName}
use Rattle.command_words.specs.Arguments.{long_argument, Spells, BeginWith, SpellAll}
use Rattle.command_words.specs.Arguments.{positionals_in, names_in, value_of}
use Rattle.command_words.specs.Arguments.{named}
use Rattle.command_words.specs.Arguments.{ArgumentForm}
use Rattle.command_words.specs.Arguments.{AreOfForm, AreWellFormed}
use Rattle.command_words.specs.Scanning.{scanned_form, scanned_name, text_at, FitsRest}
use Rattle.command_words.specs.FormNames.{form_of}
use Rattle.command_words.specs.Arguments.{argument_texts}
use Rattle.command_words.specs.declared.command_word.CommandWord.TheVariants.{Weigh, Report}
use Rattle.command_words.proofs.TextSearchLemmas.{text_search_finds_contained, text_search_finds_none}
use Rattle.command_words.proofs.TextSearchLemmas.{text_search_tells_apart, text_search_shows_name}

-- the two signs of options, `-` and `=`
pub two_hyphens_before_a_name : long_argument (codes "phi") ≡ codes "--phi"
two_hyphens_before_a_name = refl

pub hyphen_and_equals_sign : hyphen ∷ equals_sign ∷ [] ≡ codes "-="
hyphen_and_equals_sign = refl

-- a path may be a value; `-` and the empty text may not
pub path_is_a_value : IsValue (codes "a.pcap")
path_is_a_value = λ same. omega (arith, same)

pub hyphen_is_no_value : IsValue (codes "-") → ⊥
hyphen_is_no_value value = value refl

pub nothing_is_no_value : IsValue [] → ⊥
nothing_is_no_value value = value

-- `a=b` is no name: `--a=b=c` is the option `a`
pub capture_is_a_name : IsName (codes "capture")
capture_is_a_name = text_search_shows_name (codes "capture") refl

pub equals_sign_in_no_name : IsName (codes "a=b") → ⊥
equals_sign_in_no_name name = name 1 0 (omega arith) refl

-- the single word `--x=a=b` has the value `a=b`, which follows its first `=`
pub option_in_one_word : Spells (codes "--x=a=b" ∷ []) (option (codes "x") (codes "a=b"))
option_in_one_word = (text_search_shows_name (codes "x") refl, λ same. omega (arith, same), inr refl)

-- the two words `--x` and `7`
pub option_in_two_words : Spells (codes "--x" ∷ codes "7" ∷ []) (option (codes "x") (codes "7"))
option_in_two_words = (text_search_shows_name (codes "x") refl, λ same. omega (arith, same), inl refl)

-- the words `--weigh=packets 10.0.0.0/8 --capture a.pcap 20.0.0.0/8`
abbrev pub words : List ArgumentText
words = codes "--weigh=packets" ∷ codes "10.0.0.0/8" ∷ codes "--capture" ∷ codes "a.pcap" ∷ codes "20.0.0.0/8" ∷ []

abbrev pub arguments : List Argument
arguments =
    option (codes "weigh") (codes "packets") ∷ positional (codes "10.0.0.0/8")
    ∷ option (codes "capture") (codes "a.pcap") ∷ positional (codes "20.0.0.0/8") ∷ []

-- the option at the front is one word
pub option_at_the_front : BeginWith words (option (codes "weigh") (codes "packets"))
    (codes "10.0.0.0/8" ∷ codes "--capture" ∷ codes "a.pcap" ∷ codes "20.0.0.0/8" ∷ [])
option_at_the_front = record {
  front = codes "--weigh=packets" ∷ [];
  parted = refl;
  spelled = (text_search_shows_name (codes "weigh") refl, λ same. omega (arith, same), inr refl);
}

-- the last three words are an option and a positional
last_words : SpellAll (codes "--capture" ∷ codes "a.pcap" ∷ codes "20.0.0.0/8" ∷ [])
    (option (codes "capture") (codes "a.pcap") ∷ positional (codes "20.0.0.0/8") ∷ [])
last_words = (
  codes "20.0.0.0/8" ∷ [],
  record {
    front = codes "--capture" ∷ codes "a.pcap" ∷ [];
    parted = refl;
    spelled = (text_search_shows_name (codes "capture") refl, λ same. omega (arith, same), inl refl);
  },
  ([], record { front = codes "20.0.0.0/8" ∷ []; parted = refl; spelled = (λ same. omega (arith, same), refl) }, refl),
)

pub words_spell_the_arguments : SpellAll words arguments
words_spell_the_arguments = (
  codes "10.0.0.0/8" ∷ codes "--capture" ∷ codes "a.pcap" ∷ codes "20.0.0.0/8" ∷ [],
  option_at_the_front,
  (
    codes "--capture" ∷ codes "a.pcap" ∷ codes "20.0.0.0/8" ∷ [],
    record { front = codes "10.0.0.0/8" ∷ []; parted = refl; spelled = (λ same. omega (arith, same), refl) },
    last_words,
  ),
)

-- an empty list of words spells no arguments
pub nothing_spelled : SpellAll [] []
nothing_spelled = refl

pub positionals_of_the_words : positionals_in arguments ≡ codes "10.0.0.0/8" ∷ codes "20.0.0.0/8" ∷ []
positionals_of_the_words = refl

-- among them the positionals are named SRC and DST
pub sides_by_their_names : named (codes "SRC" ∷ codes "DST" ∷ []) arguments
    ≡ option (codes "weigh") (codes "packets") ∷ option (codes "SRC") (codes "10.0.0.0/8")
    ∷ option (codes "capture") (codes "a.pcap") ∷ option (codes "DST") (codes "20.0.0.0/8") ∷ []
sides_by_their_names = refl

pub names_of_the_words : names_in arguments ≡ codes "weigh" ∷ codes "capture" ∷ []
names_of_the_words = refl

pub value_that_stands : value_of (codes "capture") arguments ≡ Some (codes "a.pcap")
value_that_stands = refl

pub value_that_does_not_stand : value_of (codes "shards") arguments ≡ None
value_that_does_not_stand = refl

pub name_of_an_option : scanned_name (option (codes "capture") (codes "a.pcap")) ≡ Some (codes "capture")
name_of_an_option = refl

pub positional_has_no_name : scanned_name (positional (codes "20.0.0.0/8")) ≡ None
positional_has_no_name = refl

pub text_behind_a_reference : (word : Bor ArgumentText) → text_at (Some word) ≡ Some word.now
text_behind_a_reference word = refl

pub form_of_names : (name : Bor ArgumentText) (at : ℕ × ℕ)
    → scanned_form (record {
      positionals = record { ref_ptr = at; now = [] };
      options = record { ref_ptr = at; now = name ∷ [] };
      required = record { ref_ptr = at; now = name ∷ [] };
    }) ≡ record { positionals = []; options = name.now ∷ []; required = name.now ∷ [] }
form_of_names name at = refl

pub texts_of_two_words : (word other : Bor ArgumentText) → argument_texts (word ∷ other ∷ []) ≡ word.now ∷ other.now ∷ []
texts_of_two_words word other = refl

-- each option is present once
names_are_apart : AllPairs (λ name other. name ≢ other) (names_in arguments)
names_are_apart =
    AllPairs-cons (λ name other. name ≢ other) (codes "weigh") (codes "capture" ∷ [])
    (λ k d within.
    All-cons (λ other. codes "weigh" ≢ other) (codes "capture") [] (text_search_tells_apart (codes "weigh") (codes "capture") refl)
    (All-nil (λ other. codes "weigh" ≢ other)) k d within)
    (λ i j d before within. absurd (omega (arith, before, within)))

-- `weigh` has two positionals, and options of these names
abbrev form : ArgumentForm
form = form_of Weigh

capture_known : All (λ name. Contains form.options name) (codes "capture" ∷ [])
capture_known =
    All-cons (λ name. Contains form.options name) (codes "capture") []
    ((text_search_finds_contained form.options (codes "capture")).0 refl) (All-nil (λ name. Contains form.options name))

pub arguments_of_weigh : AreOfForm form arguments
arguments_of_weigh = record {
  as_many = refl;
  known =
      All-cons (λ name. Contains form.options name) (codes "weigh") (codes "capture" ∷ [])
      ((text_search_finds_contained form.options (codes "weigh")).0 refl) capture_known;
  once = names_are_apart;
  complete = All-nil (λ name. Contains (names_in arguments) name);
}

pub words_of_weigh : AreWellFormed form words arguments
words_of_weigh = record { spelled = words_spell_the_arguments; of_form = arguments_of_weigh }

pub not_the_arguments_of_report : AreOfForm (form_of Report) arguments → ⊥
not_the_arguments_of_report of_form = omega (arith, of_form.as_many)

-- `weigh` has no option `shards`
pub option_of_report_alone : AreOfForm form
    (positional (codes "x") ∷ positional (codes "y") ∷ option (codes "shards") (codes "1") ∷ []) → ⊥
option_of_report_alone of_form = text_search_finds_none form.options (codes "shards") refl (of_form.known 0 [] (omega arith))

-- after the first two arguments, one positional and `--capture` remain
pub rest_of_the_words : FitsRest form 1 (codes "--capture" ∷ codes "a.pcap" ∷ codes "20.0.0.0/8" ∷ [])
    (option (codes "capture") (codes "a.pcap") ∷ positional (codes "20.0.0.0/8") ∷ [])
rest_of_the_words = record {
  spelled = last_words;
  as_many = refl;
  known = capture_known;
  once = λ i j d before within. absurd (omega (arith, before, within));
}
