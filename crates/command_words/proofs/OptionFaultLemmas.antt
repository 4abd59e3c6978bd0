-- A fault of options behind `report` is one of their values.
use Rattle.std.proofs.Common.{◌≡◌, ◌⊎◌, ◌∙◌, refl, sym, subst, arith, inl, inr, Bool, true, false, Option, List, [], ◌∷◌, None, Some}
use Rattle.std.specs.List.{All, Contains}
use Rattle.std.specs.Str.{bytes_eq}
use Rattle.std.proofs.lemmas.List.Elements.{All-contains, Contains-append_right}
use Rattle.std.proofs.lemmas.Slice.Eq.{bytes_eq-Decides}
use Rattle.command_words.specs.Arguments.{ArgumentText, Argument, positional, option, AreWellFormed, names_in, named, value_of}
use Rattle.command_words.specs.Command.{HasSides}
use Rattle.command_words.specs.FormNames.{word_of, form_of, AreWords}
use Rattle.command_words.specs.Names.{HasReportFault, IsFaultOfOptions, IsNamedOption, options_alone, report_options}
use Rattle.command_words.specs.Options.{OptionKind, name_of, IsNoNumber, IsOutside, IsNoChoice}
use Rattle.command_words.specs.Settings.{settings_in}
use Rattle.command_words.specs.Values.{IsFirstBad, HaveUnfitGrain}
use Rattle.command_words.specs.declared.command_word.CommandWord.{CommandWord}
use Rattle.command_words.specs.declared.command_word.CommandWord.TheVariants.{Report}
use Rattle.command_words.specs.declared.opt.Opt.{Opt}
use Rattle.command_words.specs.declared.opt.Opt.TheVariants.{Bits}
use Rattle.command_words.specs.declared.words_kind.WordsKind.{WordsKind}
use Rattle.command_words.specs.declared.words_kind.WordsKind.TheVariants.{NoCommand, UnknownCommand, Refused}
use Rattle.command_words.specs.declared.words_kind.WordsKind.TheVariants.{BadPrefix, BadNumber, OutOfLimits, BadChoice, Bound}
use Rattle.command_words.proofs.OneMeaningLemmas.{command_line_has_one_meaning, refused_words_lack_meaning}
use Rattle.command_words.proofs.OneReadingLemmas.{one_reading_of_empty_list, one_reading_of_head}

-- an option that has a value is there
option_with_value_is_there : (arguments : List Argument) (name text : ArgumentText) → value_of name (named [] arguments) ≡ Some text
    → Contains (names_in arguments) name
option_with_value_is_there [] name text is = cc
option_with_value_is_there (positional other ∷ arguments) name text is = option_with_value_is_there arguments name text is
option_with_value_is_there (option other value ∷ arguments) name text is =
    go (option_with_value_is_there arguments name text) (bytes_eq other name) refl
  where
    go : (value_of name (named [] arguments) ≡ Some text → Contains (names_in arguments) name) → (same : Bool) → bytes_eq other name ≡ same
        → Contains (other ∷ names_in arguments) name
    go behind true same = (0, omega arith, (bytes_eq-Decides other name).0 same)
    go behind false same = Contains-append_right (other ∷ []) (names_in arguments) name (behind (rw same at is))

module _ (options behind : List ArgumentText) (arguments : List Argument) (few : All (Contains report_options) options)
    (formed : AreWellFormed (options_alone options) behind arguments) where
  -- the words are those of `report`
  options_are_report_words : AreWords (word_of Report ∷ behind) Report arguments
  options_are_report_words = record {
    behind = behind;
    begun = refl;
    well_formed = record {
      spelled = formed.spelled;
      of_form = record {
        as_many = formed.of_form.as_many;
        known = λ place default within.
            All-contains (Contains report_options) options _ few (formed.of_form.known place default within);
        once = formed.of_form.once;
        complete = formed.of_form.complete;
      };
    };
  }

  -- a bad value is that of one of the options
  option_of_bad_value : (IsBad : OptionKind → ArgumentText → Type 0) (command : CommandWord) (others : List Argument) (opt : Opt)
      → AreWords (word_of Report ∷ behind) command others → IsFirstBad IsBad (settings_in command others) opt → IsNamedOption options opt
  option_of_bad_value IsBad command others opt are_words bad =
      let same = command_line_has_one_meaning (word_of Report ∷ behind) command Report others arguments are_words options_are_report_words in
      let value : settings_in Report arguments opt ≡ Some bad.text =
      subst (λ list. settings_in Report list opt ≡ Some bad.text) same.1
      (subst (λ word. settings_in word others opt ≡ Some bad.text) same.0 bad.value) in
      inl (All-contains (Contains options) (names_in arguments) (name_of opt) formed.of_form.known
      (option_with_value_is_there arguments (name_of opt) bad.text value))

  pub fault_is_of_options : (kind : WordsKind) → HasReportFault behind kind → IsFaultOfOptions options kind
  fault_is_of_options NoCommand has = absurd (one_reading_of_empty_list _ _ (sym has))
  fault_is_of_options UnknownCommand has = absurd (has.3 Report (sym (one_reading_of_head _ _ _ _ has.2)))
  fault_is_of_options Refused has =
      absurd (refused_words_lack_meaning (word_of Report ∷ behind) has.1 has.0 Report arguments has.2 has.3 options_are_report_words)
  fault_is_of_options (BadPrefix fault) has =
      let same =
      command_line_has_one_meaning (word_of Report ∷ behind) has.command Report has.arguments arguments has.are_words options_are_report_words in
      absurd (subst (λ word. HasSides word has.arguments has.source has.dest) same.0 has.sides)
  fault_is_of_options (BadNumber opt) has = option_of_bad_value IsNoNumber has.command has.arguments opt has.are_words has.has_fault
  fault_is_of_options (OutOfLimits opt) has = go has.has_fault
    where
      go : IsFirstBad IsOutside (settings_in has.command has.arguments) opt ⊎ ((opt ≡ Bits) × HaveUnfitGrain (settings_in has.command has.arguments))
          → IsNamedOption options opt
      go (inl bad) = option_of_bad_value IsOutside has.command has.arguments opt has.are_words bad
      go (inr unfit) = inr unfit.0
  fault_is_of_options (BadChoice opt) has = option_of_bad_value IsNoChoice has.command has.arguments opt has.are_words has.has_fault
  fault_is_of_options Bound has = tt
