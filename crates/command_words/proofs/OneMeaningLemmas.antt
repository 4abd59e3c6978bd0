-- Words ask for at most one command, or have at most one fault, and never both.
use Rattle.std.proofs.Common.{◌≡◌, ◌≢◌, ◌⊎◌, inl, inr, ◌==◌, cond, Option, List, [], ◌∷◌, Ok, Err}
use Rattle.std.proofs.Common.{Result, refl, sym, ap, ap₂, ◌∙◌, subst, arith}
use Rattle.std.specs.Result.{IfOk, IsOk}
use Rattle.prefix_lattice.specs.{PrefixValue, SpellsPrefix, HasPrefixFault}
use Rattle.prefix_lattice.specs.declared.grain.Grain.{Grain}
use Rattle.prefix_lattice.specs.declared.grain.Grain.TheVariants.{Byte}
use Rattle.prefix_lattice.specs.declared.prefix_fault.PrefixFault.{PrefixFault}
use Rattle.command_words.specs.Arguments.{ArgumentText, Argument, SpellAll, AreWellFormed}
use Rattle.command_words.specs.FormNames.{word_of, form_of, AreWords}
use Rattle.command_words.specs.Given.{SetsGiven}
use Rattle.command_words.specs.Settings.{SettingValues, SetsAll}
use Rattle.command_words.specs.Settings.{settings_in, store_setting, HaveWideShare}
use Rattle.command_words.specs.Command.{AskForCommand, HasSides, prefix_grain, HasGoodPrefix}
use Rattle.command_words.specs.Values.{HasValueFault}
use Rattle.command_words.specs.WordsRefusal.{HasBadPrefix, HasBadValue, HasWordsFault}
use Rattle.command_words.specs.Values.{AreGood}
use Rattle.command_words.specs.Command.{IsBounded}
use Rattle.command_words.specs.declared.command.Command.{Command}
use Rattle.command_words.specs.declared.command_word.CommandWord.{CommandWord}
use Rattle.command_words.specs.declared.opt.Opt.TheVariants.{Bits}
use Rattle.command_words.specs.declared.command_word.CommandWord.TheVariants.{Weigh, Report, Format, Audit, Make, Demo, Watch}
use Rattle.command_words.specs.declared.settings.Settings.{Settings}
use Rattle.command_words.specs.declared.given.Given.{Given}
use Rattle.command_words.specs.declared.words_kind.WordsKind.{WordsKind}
use Rattle.command_words.specs.declared.words_kind.WordsKind.TheVariants.{NoCommand, UnknownCommand, Refused}
use Rattle.command_words.specs.declared.words_kind.WordsKind.TheVariants.{BadPrefix, BadNumber, OutOfLimits}
use Rattle.command_words.specs.declared.words_kind.WordsKind.TheVariants.{BadChoice, Bound}
use Rattle.command_words.specs.declared.words_kind.WordsRefusal.{WordsRefusal}
use Rattle.command_words.specs.declared.words_kind.WordsRefusal.TheVariants.{Bad, OutOfMemory}
use Rattle.command_words.proofs.GivenLemmas.{given_settings_alone, default_given_settings, settings_given}
use Rattle.command_words.proofs.GivenLemmas.{make_is_given_no_settings, traffic_given, watch_given}
use Rattle.command_words.proofs.GivenLemmas.{given_by_good_values}
use Rattle.command_words.proofs.OneReadingLemmas.{one_reading_of_head, one_reading_of_rest, one_reading_of_empty_list}
use Rattle.command_words.proofs.OneReadingLemmas.{one_reading}
use Rattle.command_words.proofs.OneValueFaultLemmas.{one_value_fault, no_value_fault}
use Rattle.command_words.proofs.OneValueFaultLemmas.{values_give_one_thing, grain_of_one_value_is_told}
use Rattle.command_words.specs.declared.command.Command.TheVariants as command

-- the texts of a prefix have at most one meaning: a prefix or a fault
pub record PrefixHasOneMeaning : Type 0 where
  pub one_prefix : (grain : Grain) (source dest : ArgumentText) (prefix other : PrefixValue)
      → SpellsPrefix grain source dest prefix → SpellsPrefix grain source dest other → prefix ≡ other
  pub no_fault : (grain : Grain) (source dest : ArgumentText) (prefix : PrefixValue) (fault : PrefixFault)
      → SpellsPrefix grain source dest prefix → HasPrefixFault grain source dest fault → ⊥
  pub one_fault : (grain : Grain) (source dest : ArgumentText) (fault other : PrefixFault)
      → HasPrefixFault grain source dest fault → HasPrefixFault grain source dest other → fault ≡ other

-- what words mean: a command that they ask for, or a fault
abbrev MeaningOfWords : Type 0
MeaningOfWords = Result Command WordsKind

-- the command whose name begins with the first two bytes of a text, `report` if no other does
abbrev meaning_by_command_word : ArgumentText → CommandWord
meaning_by_command_word [] = Report
meaning_by_command_word (first ∷ []) = Report
meaning_by_command_word (first ∷ second ∷ rest) =
    cond (first == 119) (cond (second == 97) Watch Weigh) (cond (first == 102) Format
    (cond (first == 97) Audit (cond (first == 109) Make (cond (first == 100) Demo Report))))

meaning_by_command_word-own : (word : CommandWord) → meaning_by_command_word (word_of word) ≡ word
meaning_by_command_word-own Weigh = refl
meaning_by_command_word-own Report = refl
meaning_by_command_word-own Format = refl
meaning_by_command_word-own Audit = refl
meaning_by_command_word-own Make = refl
meaning_by_command_word-own Demo = refl
meaning_by_command_word-own Watch = refl

-- commands of the same name are the same command
command_word_has_one_meaning : (word other : CommandWord) → word_of word ≡ word_of other → word ≡ other
command_word_has_one_meaning word other same = sym (meaning_by_command_word-own word) ∙ ap meaning_by_command_word same ∙ meaning_by_command_word-own other

-- words are those of at most one command, and spell at most one list of arguments
pub command_line_has_one_meaning : (words : List ArgumentText) (word other : CommandWord) (arguments more : List Argument)
    → AreWords words word arguments → AreWords words other more
    → (word ≡ other) × (arguments ≡ more)
command_line_has_one_meaning words word other arguments more one two =
    let same = sym one.begun ∙ two.begun in (
      command_word_has_one_meaning word other (one_reading_of_head _ _ _ _ same),
      one_reading one.behind arguments more one.well_formed.spelled
          (subst (λ behind. SpellAll behind more) (sym (one_reading_of_rest _ _ _ _ same)) two.well_formed.spelled),
    )

-- what values and the path of a store mean: what they give, or the first fault of the values
abbrev IsOneMeaningOfValues : SettingValues → Option ArgumentText → Result Given WordsKind → Type 0
IsOneMeaningOfValues values path (Ok given) = SetsGiven values path given
IsOneMeaningOfValues values path (Err kind) = HasValueFault values kind

-- values have one meaning
values_have_one_meaning : (values : SettingValues) (path : Option ArgumentText) (read other : Result Given WordsKind)
    → IsOneMeaningOfValues values path read → IsOneMeaningOfValues values path other → read ≡ other
values_have_one_meaning values path (Ok given) (Ok other) one two = ap Ok (values_give_one_thing values path given other one two)
values_have_one_meaning values path (Ok given) (Err kind) one two =
    absurd (no_value_fault values path given kind one two)
values_have_one_meaning values path (Err kind) (Ok given) one two =
    absurd (no_value_fault values path given kind two one)
values_have_one_meaning values path (Err kind) (Err other) one two = ap Err (one_value_fault values kind other one two)

-- what the values of a command's arguments mean
abbrev IsMeaningOfCommandValues : CommandWord → List Argument → Result Given WordsKind → Type 0
IsMeaningOfCommandValues word arguments read = IsOneMeaningOfValues (settings_in word arguments) (store_setting arguments) read

one_meaning_of_argument_values : (word : CommandWord) (arguments : List Argument) (read other : Result Given WordsKind)
    → IsMeaningOfCommandValues word arguments read → IsMeaningOfCommandValues word arguments other → read ≡ other
one_meaning_of_argument_values word arguments read other one two =
    values_have_one_meaning (settings_in word arguments) (store_setting arguments) read other one two

-- what a command means, once its values are read, if nothing else is checked
abbrev command_meaning_of_values : (Given → Command) → Result Given WordsKind → MeaningOfWords
command_meaning_of_values asked (Ok given) = Ok (asked given)
command_meaning_of_values asked (Err kind) = Err kind

-- what the arguments of a command that takes a prefix mean
data PrefixedHasMeaning (word : CommandWord) (asked : PrefixValue → Given → Command) (arguments : List Argument)
    (outcome : MeaningOfWords) : Type 0 where
  badly : (source dest : ArgumentText) (fault : PrefixFault) → HasSides word arguments source dest
      → HasPrefixFault (prefix_grain word arguments) source dest fault → outcome ≡ Err (BadPrefix fault)
      → PrefixedHasMeaning word asked arguments outcome
  well : (source dest : ArgumentText) (prefix : PrefixValue) (read : Result Given WordsKind)
      → HasSides word arguments source dest → SpellsPrefix (prefix_grain word arguments) source dest prefix
      → IsMeaningOfCommandValues word arguments read → outcome ≡ command_meaning_of_values (asked prefix) read
      → PrefixedHasMeaning word asked arguments outcome

-- the two sides are the same two texts
sides_have_one_meaning : (word : CommandWord) (arguments : List Argument) (source dest other more : ArgumentText)
    → HasSides word arguments source dest → HasSides word arguments other more → (source ≡ other) × (dest ≡ more)
sides_have_one_meaning Weigh arguments source dest other more one two =
    let same = sym one ∙ two in (
      one_reading_of_head _ _ _ _ same,
      one_reading_of_head _ _ _ _ (one_reading_of_rest _ _ _ _ same),
    )
sides_have_one_meaning Watch arguments source dest other more one two = (one.0 ∙ sym two.0, one.1 ∙ sym two.1)
sides_have_one_meaning _ arguments source dest other more one two = absurd one

-- what holds for the two sides holds for the same two texts
meaning_of_same_sides : (P : ArgumentText → ArgumentText → Type 0) (word : CommandWord) (arguments : List Argument)
    (source dest other more : ArgumentText) → HasSides word arguments source dest → HasSides word arguments other more
    → P other more → P source dest
meaning_of_same_sides P word arguments source dest other more one two holds =
    let same = sides_have_one_meaning word arguments source dest other more one two in
    subst (λ s. P s dest) (sym same.0) (subst (λ d. P other d) (sym same.1) holds)

-- the arguments of such a command have one meaning
prefixed_has_one_meaning : PrefixHasOneMeaning → (word : CommandWord) (asked : PrefixValue → Given → Command)
    (arguments : List Argument) (outcome other : MeaningOfWords) → PrefixedHasMeaning word asked arguments outcome
    → PrefixedHasMeaning word asked arguments other → outcome ≡ other
prefixed_has_one_meaning reading word asked arguments outcome other (badly source dest fault sides has is)
    (badly source' dest' fault' sides' has' is') =
    let grain = prefix_grain word arguments in
    let same =
    reading.one_fault grain source dest fault fault' has
    (meaning_of_same_sides (λ s d. HasPrefixFault grain s d fault') word arguments source dest source' dest' sides sides' has') in
    is ∙ ap (λ f. Err (BadPrefix f)) same ∙ sym is'
prefixed_has_one_meaning reading word asked arguments outcome other (badly source dest fault sides has is)
    (well source' dest' prefix' read' sides' spelled' told' is') =
    let grain = prefix_grain word arguments in
    absurd (reading.no_fault grain source dest prefix' fault
    (meaning_of_same_sides (λ s d. SpellsPrefix grain s d prefix') word arguments source dest source' dest' sides sides' spelled') has)
prefixed_has_one_meaning reading word asked arguments outcome other (well source dest prefix read sides spelled told is)
    (badly source' dest' fault' sides' has' is') =
    let grain = prefix_grain word arguments in
    absurd (reading.no_fault grain source dest prefix fault' spelled
    (meaning_of_same_sides (λ s d. HasPrefixFault grain s d fault') word arguments source dest source' dest' sides sides' has'))
prefixed_has_one_meaning reading word asked arguments outcome other (well source dest prefix read sides spelled told is)
    (well source' dest' prefix' read' sides' spelled' told' is') =
    let grain = prefix_grain word arguments in
    let same =
    reading.one_prefix grain source dest prefix prefix' spelled
    (meaning_of_same_sides (λ s d. SpellsPrefix grain s d prefix') word arguments source dest source' dest' sides sides' spelled') in
    is ∙ ap₂ (λ p r. command_meaning_of_values (asked p) r) same (one_meaning_of_argument_values word arguments read read' told told')
    ∙ sym is'

-- what a command whose share is bounded means, once its values are read
abbrev IsBoundedMeaning : (Given → Command) → Result Given WordsKind → MeaningOfWords → Type 0
IsBoundedMeaning asked (Ok given) outcome =
    (HaveWideShare given.settings × (outcome ≡ Ok (asked given)))
    ⊎ ((HaveWideShare given.settings → ⊥) × (outcome ≡ Err Bound))
IsBoundedMeaning asked (Err kind) outcome = outcome ≡ Err kind

bounded_meaning_is_one : (asked : Given → Command) (read : Result Given WordsKind) (outcome other : MeaningOfWords)
    → IsBoundedMeaning asked read outcome → IsBoundedMeaning asked read other → outcome ≡ other
bounded_meaning_is_one asked (Ok given) outcome other (inl one) (inl two) = one.1 ∙ sym two.1
bounded_meaning_is_one asked (Ok given) outcome other (inl one) (inr two) = absurd (two.0 one.0)
bounded_meaning_is_one asked (Ok given) outcome other (inr one) (inl two) = absurd (one.0 two.0)
bounded_meaning_is_one asked (Ok given) outcome other (inr one) (inr two) = one.1 ∙ sym two.1
bounded_meaning_is_one asked (Err kind) outcome other one two = one ∙ sym two

-- what the arguments of a command mean, if its share is bounded
record BoundedHasMeaning (word : CommandWord) (asked : Given → Command) (arguments : List Argument) (outcome : MeaningOfWords)
    : Type 0 where
  read : Result Given WordsKind
  told : IsMeaningOfCommandValues word arguments read
  comes_to : IsBoundedMeaning asked read outcome

bounded_has_one_meaning : (word : CommandWord) (asked : Given → Command) (arguments : List Argument)
    (outcome other : MeaningOfWords) → BoundedHasMeaning word asked arguments outcome
    → BoundedHasMeaning word asked arguments other → outcome ≡ other
bounded_has_one_meaning word asked arguments outcome other one two =
    bounded_meaning_is_one asked one.read outcome other one.comes_to
    (subst (λ read. IsBoundedMeaning asked read other)
    (sym (one_meaning_of_argument_values word arguments one.read two.read one.told two.told)) two.comes_to)

-- what the arguments of a command mean, if only its values are checked
record UnboundedHasMeaning (word : CommandWord) (asked : Given → Command) (arguments : List Argument) (outcome : MeaningOfWords)
    : Type 0 where
  read : Result Given WordsKind
  told : IsMeaningOfCommandValues word arguments read
  comes_to : outcome ≡ command_meaning_of_values asked read

unbounded_has_one_meaning : (word : CommandWord) (asked : Given → Command) (arguments : List Argument)
    (outcome other : MeaningOfWords) → UnboundedHasMeaning word asked arguments outcome
    → UnboundedHasMeaning word asked arguments other → outcome ≡ other
unbounded_has_one_meaning word asked arguments outcome other one two =
    one.comes_to ∙ ap (command_meaning_of_values asked) (one_meaning_of_argument_values word arguments one.read two.read one.told two.told)
    ∙ sym two.comes_to

-- what is checked of a command's arguments, and the command that the given values ask for
data MeaningKind : Type 0 where
  with_prefix : (PrefixValue → Given → Command) → MeaningKind
  with_bound : (Given → Command) → MeaningKind
  without_bound : (Given → Command) → MeaningKind

abbrev meaning_kind : CommandWord → MeaningKind
meaning_kind Weigh = with_prefix (λ prefix given. command.Weigh prefix given.settings)
meaning_kind Report = with_bound (λ given. command.Report given.settings)
meaning_kind Format = without_bound (λ given. command.Format given.settings)
meaning_kind Audit = with_bound (λ given. command.Audit given.settings)
meaning_kind Make = without_bound (λ given. command.Make given.seed given.frames)
meaning_kind Demo = with_bound (λ given. command.Demo given.seed given.frames given.settings)
meaning_kind Watch = with_prefix (λ prefix given.
    command.Watch (record { prefix = prefix; limit = given.limit; some = given.some_limit }) given.settings.grain)

-- what the arguments of a command mean
abbrev HaveMeaningOfKind : MeaningKind → CommandWord → List Argument → MeaningOfWords → Type 0
HaveMeaningOfKind (with_prefix asked) word arguments outcome = PrefixedHasMeaning word asked arguments outcome
HaveMeaningOfKind (with_bound asked) word arguments outcome = BoundedHasMeaning word asked arguments outcome
HaveMeaningOfKind (without_bound asked) word arguments outcome = UnboundedHasMeaning word asked arguments outcome

abbrev ArgumentsHaveMeaning : CommandWord → List Argument → MeaningOfWords → Type 0
ArgumentsHaveMeaning word = HaveMeaningOfKind (meaning_kind word) word

arguments_have_one_meaning : PrefixHasOneMeaning → (kind : MeaningKind) (word : CommandWord) (arguments : List Argument)
    (outcome other : MeaningOfWords) → HaveMeaningOfKind kind word arguments outcome
    → HaveMeaningOfKind kind word arguments other → outcome ≡ other
arguments_have_one_meaning reading (with_prefix asked) word = prefixed_has_one_meaning reading word asked
arguments_have_one_meaning reading (with_bound asked) word = bounded_has_one_meaning word asked
arguments_have_one_meaning reading (without_bound asked) word = unbounded_has_one_meaning word asked

-- what words mean, by the first test that decides it
data WordsHaveMeaning (words : List ArgumentText) (outcome : MeaningOfWords) : Type 0 where
  nothing : words ≡ [] → outcome ≡ Err NoCommand → WordsHaveMeaning words outcome
  unknown : (first : ArgumentText) (behind : List ArgumentText) → words ≡ first ∷ behind
      → ((word : CommandWord) → first ≢ word_of word) → outcome ≡ Err UnknownCommand → WordsHaveMeaning words outcome
  refused : (word : CommandWord) (behind : List ArgumentText) → words ≡ word_of word ∷ behind
      → ((arguments : List Argument) → AreWellFormed (form_of word) behind arguments → ⊥)
      → outcome ≡ Err Refused → WordsHaveMeaning words outcome
  told : (word : CommandWord) (arguments : List Argument) → AreWords words word arguments
      → ArgumentsHaveMeaning word arguments outcome → WordsHaveMeaning words outcome

-- words with a first word are not empty
meaning_of_no_words_differs : (words : List ArgumentText) (first : ArgumentText) (behind : List ArgumentText) → words ≡ [] → words ≡ first ∷ behind → ⊥
meaning_of_no_words_differs words first behind none are = one_reading_of_empty_list _ _ (sym none ∙ are)

-- if the first word is no command's name, words don't begin with a command's name
unknown_word_has_no_meaning : (words : List ArgumentText) (first : ArgumentText) (behind others : List ArgumentText) (word : CommandWord)
    → words ≡ first ∷ behind → ((word : CommandWord) → first ≢ word_of word)
    → words ≡ word_of word ∷ others → ⊥
unknown_word_has_no_meaning words first behind others word are is_no_word begun = is_no_word word (one_reading_of_head _ _ _ _ (sym are ∙ begun))

-- words that are refused are not well-formed words of a command
pub refused_words_lack_meaning : (words behind : List ArgumentText) (word other : CommandWord) (arguments : List Argument)
    → words ≡ word_of word ∷ behind
    → ((arguments : List Argument) → AreWellFormed (form_of word) behind arguments → ⊥)
    → AreWords words other arguments → ⊥
refused_words_lack_meaning words behind word other arguments begun is_refused are_words =
    let same = sym are_words.begun ∙ begun in
    is_refused arguments
    (subst (λ w. AreWellFormed (form_of w) behind arguments) (command_word_has_one_meaning other word (one_reading_of_head _ _ _ _ same))
    (subst (λ b. AreWellFormed (form_of other) b arguments) (one_reading_of_rest _ _ _ _ same) are_words.well_formed))

-- words have one meaning
words_have_one_meaning : PrefixHasOneMeaning → (words : List ArgumentText) (outcome other : MeaningOfWords) → WordsHaveMeaning words outcome
    → WordsHaveMeaning words other
    → outcome ≡ other
words_have_one_meaning reading words outcome other (nothing none is) (nothing none' is') = is ∙ sym is'
words_have_one_meaning reading words outcome other (nothing none is) (unknown first behind are no_command is') =
    absurd (meaning_of_no_words_differs words first behind none are)
words_have_one_meaning reading words outcome other (nothing none is) (refused word behind are no_form is') =
    absurd (meaning_of_no_words_differs words (word_of word) behind none are)
words_have_one_meaning reading words outcome other (nothing none is) (told word arguments are_words tell) =
    absurd (meaning_of_no_words_differs words (word_of word) are_words.behind none are_words.begun)
words_have_one_meaning reading words outcome other (unknown first behind are no_command is) (nothing none is') =
    absurd (meaning_of_no_words_differs words first behind none are)
words_have_one_meaning reading words outcome other (unknown first behind are no_command is)
    (unknown first' behind' are' no_command' is') =
    is ∙ sym is'
words_have_one_meaning reading words outcome other (unknown first behind are no_command is)
    (refused word others begun no_form is') =
    absurd (unknown_word_has_no_meaning words first behind others word are no_command begun)
words_have_one_meaning reading words outcome other (unknown first behind are no_command is) (told word arguments are_words tell) =
    absurd (unknown_word_has_no_meaning words first behind are_words.behind word are no_command are_words.begun)
words_have_one_meaning reading words outcome other (refused word behind are no_form is) (nothing none is') =
    absurd (meaning_of_no_words_differs words (word_of word) behind none are)
words_have_one_meaning reading words outcome other (refused word others begun no_form is)
    (unknown first behind are no_command is') =
    absurd (unknown_word_has_no_meaning words first behind others word are no_command begun)
words_have_one_meaning reading words outcome other (refused word behind are no_form is) (refused word' behind' are' no_form' is')
    =
    is ∙ sym is'
words_have_one_meaning reading words outcome other (refused word behind are no_form is) (told word' arguments are_words tell) =
    absurd (refused_words_lack_meaning words behind word word' arguments are no_form are_words)
words_have_one_meaning reading words outcome other (told word arguments are_words tell) (nothing none is') =
    absurd (meaning_of_no_words_differs words (word_of word) are_words.behind none are_words.begun)
words_have_one_meaning reading words outcome other (told word arguments are_words tell) (unknown first behind are no_command is') =
    absurd (unknown_word_has_no_meaning words first behind are_words.behind word are no_command are_words.begun)
words_have_one_meaning reading words outcome other (told word' arguments are_words tell) (refused word behind are no_form is') =
    absurd (refused_words_lack_meaning words behind word word' arguments are no_form are_words)
words_have_one_meaning reading words outcome other (told word arguments are_words tell) (told word' more are_words' tell') =
    let same = command_line_has_one_meaning words word word' arguments more are_words are_words' in
    arguments_have_one_meaning reading (meaning_kind word) word arguments outcome other tell
    (subst (λ w. ArgumentsHaveMeaning w arguments other) (sym same.0)
    (subst (λ a. ArgumentsHaveMeaning word' a other) (sym same.1) tell'))

-- the command that words ask for is what they mean
asked_command_is_meaning : (words : List ArgumentText) (asked : Command) → AskForCommand words asked → WordsHaveMeaning words (Ok asked)
asked_command_is_meaning words (command.Weigh prefix settings) asks =
    told Weigh asks.arguments asks.are_words
    (well asks.source asks.dest prefix (Ok (given_settings_alone settings)) asks.sides asks.spelled
    (settings_given Weigh asks.arguments settings
    (refl, refl) (refl, refl) (refl, refl) asks.are_words.well_formed.of_form asks.set) refl)
asked_command_is_meaning words (command.Report settings) asks =
    told Report asks.arguments asks.are_words record {
      read = Ok (given_settings_alone settings);
      told = settings_given Report asks.arguments settings (refl, refl) (refl, refl) (refl, refl)
          asks.are_words.well_formed.of_form asks.set;
      comes_to = inl (asks.wide, refl);
    }
asked_command_is_meaning words (command.Format settings) asks =
    told Format asks.arguments asks.are_words record {
      read = Ok (given_settings_alone settings);
      told = settings_given Format asks.arguments settings (refl, refl) (refl, refl) (refl, refl)
          asks.are_words.well_formed.of_form asks.set;
      comes_to = refl;
    }
asked_command_is_meaning words (command.Audit settings) asks =
    told Audit asks.arguments asks.are_words record {
      read = Ok (given_settings_alone settings);
      told = settings_given Audit asks.arguments settings (refl, refl) (refl, refl) (refl, refl)
          asks.are_words.well_formed.of_form asks.set;
      comes_to = inl (asks.wide, refl);
    }
asked_command_is_meaning words (command.Make seed frames) asks =
    told Make asks.arguments asks.are_words record {
      read =
          Ok (record { seed = seed; frames = frames; settings = default_given_settings Byte; limit = 1; some_limit = omega arith });
      told =
          traffic_given Make asks.arguments seed frames (default_given_settings Byte) refl refl
          asks.are_words.well_formed.of_form asks.made
          (make_is_given_no_settings asks.arguments asks.are_words.well_formed.of_form);
      comes_to = refl;
    }
asked_command_is_meaning words (command.Demo seed frames settings) asks =
    told Demo asks.arguments asks.are_words record {
      read = Ok (record { seed = seed; frames = frames; settings = settings; limit = 1; some_limit = omega arith });
      told =
          traffic_given Demo asks.arguments seed frames settings refl refl asks.are_words.well_formed.of_form asks.made
          asks.set;
      comes_to = inl (asks.wide, refl);
    }
asked_command_is_meaning words (command.Watch rule grain) asks =
    told Watch asks.arguments asks.are_words
    (well asks.source asks.dest rule.prefix
    (Ok (record { seed = 0; frames = 1; settings = default_given_settings grain; limit = rule.limit; some_limit = rule.some }))
    asks.sides
    (subst (λ g. SpellsPrefix g asks.source asks.dest rule.prefix)
    (sym (grain_of_one_value_is_told (settings_in Watch asks.arguments Bits) grain asks.grain_set)) asks.spelled)
    (watch_given asks.arguments rule.limit rule.some grain asks.are_words.well_formed.of_form asks.limit_given asks.grain_set)
    refl)

-- the first fault of the values is what arguments mean
bad_value_is_argument_meaning : (word : CommandWord) (arguments : List Argument) (kind : WordsKind)
    → HasGoodPrefix word arguments → HasValueFault (settings_in word arguments) kind
    → ArgumentsHaveMeaning word arguments (Err kind)
bad_value_is_argument_meaning Weigh arguments kind good has =
    well good.source good.dest good.prefix (Err kind) good.sides good.spelled has refl
bad_value_is_argument_meaning Report arguments kind good has = record { read = Err kind; told = has; comes_to = refl }
bad_value_is_argument_meaning Format arguments kind good has = record { read = Err kind; told = has; comes_to = refl }
bad_value_is_argument_meaning Audit arguments kind good has = record { read = Err kind; told = has; comes_to = refl }
bad_value_is_argument_meaning Make arguments kind good has = record { read = Err kind; told = has; comes_to = refl }
bad_value_is_argument_meaning Demo arguments kind good has = record { read = Err kind; told = has; comes_to = refl }
bad_value_is_argument_meaning Watch arguments kind good has =
    well good.source good.dest good.prefix (Err kind) good.sides good.spelled has refl

bad_value_is_meaning : (words : List ArgumentText) (kind : WordsKind) → HasBadValue words kind → WordsHaveMeaning words (Err kind)
bad_value_is_meaning words kind has =
    told has.command has.arguments has.are_words
    (bad_value_is_argument_meaning has.command has.arguments kind has.good_prefix has.has_fault)

-- that its tables are too small for its share is what the arguments of a bounded command mean
narrow_is_bounded_meaning : (word : CommandWord) (asked : Given → Command) (arguments : List Argument) (settings : Settings)
    → AreGood (settings_in word arguments) → SetsAll (settings_in word arguments) (store_setting arguments) settings
    → (HaveWideShare settings → ⊥) → BoundedHasMeaning word asked arguments (Err Bound)
narrow_is_bounded_meaning word asked arguments settings good set narrow =
    let gives = given_by_good_values (settings_in word arguments) (store_setting arguments) settings good set in
    record {
      read = Ok gives.given;
      told = gives.gives;
      comes_to = inr (subst (λ s. HaveWideShare s → ⊥) (sym gives.same) narrow, refl);
    }

narrow_is_argument_meaning : (word : CommandWord) (arguments : List Argument) (settings : Settings) → IsBounded word
    → AreGood (settings_in word arguments) → SetsAll (settings_in word arguments) (store_setting arguments) settings
    → (HaveWideShare settings → ⊥) → ArgumentsHaveMeaning word arguments (Err Bound)
narrow_is_argument_meaning Weigh arguments settings bounded good set narrow = absurd bounded
narrow_is_argument_meaning Report arguments settings bounded good set narrow =
    narrow_is_bounded_meaning Report _ arguments settings good set narrow
narrow_is_argument_meaning Format arguments settings bounded good set narrow = absurd bounded
narrow_is_argument_meaning Audit arguments settings bounded good set narrow =
    narrow_is_bounded_meaning Audit _ arguments settings good set narrow
narrow_is_argument_meaning Make arguments settings bounded good set narrow = absurd bounded
narrow_is_argument_meaning Demo arguments settings bounded good set narrow =
    narrow_is_bounded_meaning Demo _ arguments settings good set narrow
narrow_is_argument_meaning Watch arguments settings bounded good set narrow = absurd bounded

-- a fault of the prefix is what words mean
bad_prefix_is_meaning : (words : List ArgumentText) (fault : PrefixFault) → HasBadPrefix words fault
    → WordsHaveMeaning words (Err (BadPrefix fault))
bad_prefix_is_meaning words fault has = go has.command has.are_words has.sides has.has_fault
  where
    go : (word : CommandWord) → AreWords words word has.arguments → HasSides word has.arguments has.source has.dest
        → HasPrefixFault (prefix_grain word has.arguments) has.source has.dest fault
        → WordsHaveMeaning words (Err (BadPrefix fault))
    go Weigh are_words sides fails = told Weigh has.arguments are_words (badly has.source has.dest fault sides fails refl)
    go Watch are_words sides fails = told Watch has.arguments are_words (badly has.source has.dest fault sides fails refl)
    go _ are_words sides fails = absurd sides

-- the fault of words is what they mean
words_fault_is_meaning : (words : List ArgumentText) (kind : WordsKind) → HasWordsFault words kind → WordsHaveMeaning words (Err kind)
words_fault_is_meaning words NoCommand has = nothing has refl
words_fault_is_meaning words UnknownCommand has = unknown has.0 has.1 has.2 has.3 refl
words_fault_is_meaning words Refused has = refused has.0 has.1 has.2 has.3 refl
words_fault_is_meaning words (BadPrefix fault) has =
    bad_prefix_is_meaning words fault has
words_fault_is_meaning words (BadNumber opt) has = bad_value_is_meaning words (BadNumber opt) has
words_fault_is_meaning words (OutOfLimits opt) has = bad_value_is_meaning words (OutOfLimits opt) has
words_fault_is_meaning words (BadChoice opt) has = bad_value_is_meaning words (BadChoice opt) has
words_fault_is_meaning words Bound has =
    told has.command has.arguments has.are_words
    (narrow_is_argument_meaning has.command has.arguments has.settings has.bounded has.good has.set has.narrow)

-- words ask for at most one command
pub asked_meaning_is_one_command : PrefixHasOneMeaning → (words : List ArgumentText) (asked other : Command) → AskForCommand words asked
    → AskForCommand words other → asked ≡ other
asked_meaning_is_one_command reading words asked other one two =
    same_ok asked other
    (words_have_one_meaning reading words (Ok asked) (Ok other) (asked_command_is_meaning words asked one) (asked_command_is_meaning words other two))
  where
    same_ok : (asked other : Command) → Path MeaningOfWords (Ok asked) (Ok other) → asked ≡ other
    same_ok asked other same = cc

-- words that ask for a command have no fault
pub asked_meaning_is_faultless : PrefixHasOneMeaning → (words : List ArgumentText) (asked : Command) (kind : WordsKind) → AskForCommand words asked
    → HasWordsFault words kind → ⊥
asked_meaning_is_faultless reading words asked kind asks has =
    not_both asked kind
    (words_have_one_meaning reading words (Ok asked) (Err kind) (asked_command_is_meaning words asked asks) (words_fault_is_meaning words kind has))
  where
    not_both : (asked : Command) (kind : WordsKind) → Path MeaningOfWords (Ok asked) (Err kind) → ⊥
    not_both asked kind same = cc

-- words have at most one fault
pub faulty_meaning_is_one_fault : PrefixHasOneMeaning → (words : List ArgumentText) (kind other : WordsKind) → HasWordsFault words kind
    → HasWordsFault words other → kind ≡ other
faulty_meaning_is_one_fault reading words kind other one two =
    same_err kind other
    (words_have_one_meaning reading words (Err kind) (Err other) (words_fault_is_meaning words kind one) (words_fault_is_meaning words other two))
  where
    same_err : (kind other : WordsKind) → Path MeaningOfWords (Err kind) (Err other) → kind ≡ other
    same_err kind other same = cc

-- a sound reader reads all words that ask for a command, unless memory runs out
pub asked_command_meaning_is_read : PrefixHasOneMeaning → (words : List ArgumentText) (read : Result Command WordsRefusal) → IfOk read (AskForCommand words)
    → ((kind : WordsKind) → read ≡ Err (Bad kind) → HasWordsFault words kind) → (asked : Command)
    → AskForCommand words asked → (read ≡ Ok asked) ⊎ (read ≡ Err OutOfMemory)
asked_command_meaning_is_read reading words (Ok other) ok bad asked asks = inl (ap Ok (asked_meaning_is_one_command reading words other asked ok asks))
asked_command_meaning_is_read reading words (Err (Bad kind)) ok bad asked asks =
    absurd (asked_meaning_is_faultless reading words asked kind asks (bad kind refl))
asked_command_meaning_is_read reading words (Err OutOfMemory) ok bad asked asks = inr refl

-- and so does one of the settings of a report
pub asked_report_meaning_is_read : PrefixHasOneMeaning → (words : List ArgumentText) (read : Result Settings WordsRefusal)
    → IfOk read (λ settings. AskForCommand words (command.Report settings))
    → ((kind : WordsKind) → read ≡ Err (Bad kind) → HasWordsFault words kind) → (settings : Settings)
    → AskForCommand words (command.Report settings) → (read ≡ Ok settings) ⊎ (read ≡ Err OutOfMemory)
asked_report_meaning_is_read reading words (Ok other) ok bad settings asks =
    inl (ap Ok (same_settings other settings (asked_meaning_is_one_command reading words (command.Report other) (command.Report settings) ok asks)))
  where
    same_settings : (other settings : Settings) → Path Command (command.Report other) (command.Report settings) → other ≡ settings
    same_settings other settings same = cc
asked_report_meaning_is_read reading words (Err (Bad kind)) ok bad settings asks =
    absurd (asked_meaning_is_faultless reading words (command.Report settings) kind asks (bad kind refl))
asked_report_meaning_is_read reading words (Err OutOfMemory) ok bad settings asks = inr refl

-- a sound reader accepts all words that ask for a command, unless memory runs out
pub asked_command_meaning_is_accepted : {T : Type 0} → PrefixHasOneMeaning → (words : List ArgumentText) (read : Result T WordsRefusal)
    → ((kind : WordsKind) → read ≡ Err (Bad kind) → HasWordsFault words kind)
    → (asked : Command) → AskForCommand words asked → IsOk read ⊎ (read ≡ Err OutOfMemory)
asked_command_meaning_is_accepted reading words (Ok value) bad asked asks = inl refl
asked_command_meaning_is_accepted reading words (Err (Bad kind)) bad asked asks =
    absurd (asked_meaning_is_faultless reading words asked kind asks (bad kind refl))
asked_command_meaning_is_accepted reading words (Err OutOfMemory) bad asked asks = inr refl

-- a sound reader reports each fault of words, unless memory runs out
pub faulty_meaning_is_always_told : {T : Type 0} → PrefixHasOneMeaning → (words : List ArgumentText) (read : Result T WordsRefusal)
    → IfOk read (λ _. (asked : Command) × AskForCommand words asked)
    → ((kind : WordsKind) → read ≡ Err (Bad kind) → HasWordsFault words kind) → (kind : WordsKind)
    → HasWordsFault words kind
    → (read ≡ Err (Bad kind)) ⊎ (read ≡ Err OutOfMemory)
faulty_meaning_is_always_told reading words (Ok value) ok bad kind has = absurd (asked_meaning_is_faultless reading words ok.0 kind ok.1 has)
faulty_meaning_is_always_told reading words (Err (Bad other)) ok bad kind has =
    inl (ap (λ k. Err (Bad k)) (faulty_meaning_is_one_fault reading words other kind (bad other refl) has))
faulty_meaning_is_always_told reading words (Err OutOfMemory) ok bad kind has = inr refl
