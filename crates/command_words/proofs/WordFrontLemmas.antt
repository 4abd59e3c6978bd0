-- The argument at the front of words, by their first word.
use Rattle.std.proofs.Common.{◌≡◌, ◌≢◌, ◌<◌, inl, inr, refl, sym, ap, ◌∙◌, subst, ◌++◌, List, [], ◌∷◌, length, drop}
use Rattle.std.proofs.Common.{get_or, ℕ, Bor, Bool, true, false, Option, None, arith}
use Rattle.std.specs.Bool.{IsTrue, then_some}
use Rattle.std.specs.Option.{IfSome, IfNone}
use Rattle.std.proofs.lemmas.Bool.{false≢true}
use Rattle.std.proofs.lemmas.List.Elements.{All-from_get_or}
use Rattle.command_words.specs.Arguments.{ArgumentText, Argument, positional, option, hyphen}
use Rattle.command_words.specs.Arguments.{equals_sign, IsValue, IsName}
use Rattle.command_words.specs.Arguments.{long_argument, BeginWith}
use Rattle.command_words.specs.Arguments.{argument_texts}
use Rattle.command_words.proofs.OneReadingLemmas.{one_reading_of_head, one_reading_of_rest, one_reading_of_empty_list}
use Rattle.command_words.proofs.OneReadingLemmas.{one_reading_behind_hyphens}
use Rattle.command_words.proofs.OneReadingLemmas.{one_reading_of_name, one_reading_of_value, one_reading_of_equals_sign}
use Rattle.command_words.proofs.OneReadingLemmas.{HaveOneOptionReading, one_reading_by_option_form}
use Rattle.command_words.proofs.OneReadingLemmas.{one_reading_by_spelling}

-- the word doesn't begin with two hyphens
abbrev pub IsShortFrontWord : ArgumentText → Type 0
IsShortFrontWord word = (rest : ArgumentText) → word ≡ hyphen ∷ hyphen ∷ rest → ⊥

-- if `then_some` gives a value, the test holds
pub word_front_given_if_true : {T : Type 0} (test : Bool) (value : T) (given : Option T) (P : T → Type 0)
    → given ≡ then_some test value → (IsTrue test → P value) → IfSome given P
word_front_given_if_true true value given P is h = subst (λ g. IfSome g P) (sym is) (h refl)
word_front_given_if_true false value given P is h = subst (λ g. IfSome g P) (sym is) tt

-- if it gives none, the test fails
pub no_word_front_unless_true : {T : Type 0} (test : Bool) (value : T) (given : Option T) (P : Type 0)
    → given ≡ then_some test value → ((IsTrue test → ⊥) → P) → IfNone given P
no_word_front_unless_true true value given P is h = subst (λ g. IfNone g P) (sym is) tt
no_word_front_unless_true false value given P is h = subst (λ g. IfNone g P) (sym is) (h (λ e. false≢true e))

-- if no value was given, only the claim for that case is left to prove
pub no_word_front_if_none : {T : Type 0} (given : Option T) (P : Type 0) → given ≡ None → P → IfNone given P
no_word_front_if_none given P is h = subst (λ g. IfNone g P) (sym is) h

-- a name, by the indexes of its bytes
pub name_at_word_front : (name : ArgumentText) → ((i : ℕ) → i < length name → get_or name i 0 ≢ equals_sign) → IsName name
name_at_word_front name lacks = All-from_get_or (λ byte. byte ≢ equals_sign) name 0 lacks

-- a value is a positional
pub positional_at_word_front : (words others : List (Bor ArgumentText)) (word : Bor ArgumentText) → words ≡ word ∷ others
    → IsValue word.now → BeginWith (argument_texts words) (positional word.now) (argument_texts (drop 1 words))
positional_at_word_front words others word are is_value =
    subst (λ ws. BeginWith (argument_texts ws) (positional word.now) (argument_texts (drop 1 ws))) (sym are) record
    { front = word.now ∷ []; parted = refl; spelled = (is_value, refl) }

-- a word with `=` and a value after it is an option
pub joined_option_at_word_front : (words others : List (Bor ArgumentText)) (word : Bor ArgumentText) (name value : ArgumentText) → words ≡ word ∷ others
    → word.now ≡ long_argument name ++ equals_sign ∷ value → IsName name → IsValue value
    → BeginWith (argument_texts words) (option name value) (argument_texts (drop 1 words))
joined_option_at_word_front words others word name value are spelled is_name is_value =
    subst (λ ws. BeginWith (argument_texts ws) (option name value) (argument_texts (drop 1 ws))) (sym are)
    record { front = word.now ∷ []; parted = refl; spelled = (is_name, is_value, inr (ap (λ w. w ∷ []) spelled)) }

-- a word without `=` and a value in the next word are an option
pub apart_option_at_word_front : (words others rest : List (Bor ArgumentText)) (word value : Bor ArgumentText) (name : ArgumentText)
    → words ≡ word ∷ others → others ≡ value ∷ rest → word.now ≡ long_argument name → IsName name → IsValue value.now
    → BeginWith (argument_texts words) (option name value.now) (argument_texts (drop 2 words))
apart_option_at_word_front words others rest word value name are behind spelled is_name is_value =
    subst (λ ws. BeginWith (argument_texts ws) (option name value.now) (argument_texts (drop 2 ws)))
    (sym (are ∙ ap (λ ws. word ∷ ws) behind))
    record {
      front = word.now ∷ value.now ∷ [];
      parted = refl;
      spelled = (is_name, is_value, inl (ap (λ w. w ∷ value.now ∷ []) spelled));
    }

-- the first word of an option begins with two hyphens
option_word_front_is_long : (words others : List ArgumentText) (word name value : ArgumentText) (more : List ArgumentText) → words ≡ word ∷ more
    → IsShortFrontWord word → HaveOneOptionReading words name value others → ⊥
option_word_front_is_long words others word name value more are short (inl one) = short name (one_reading_of_head _ _ _ _ (sym are ∙ one))
option_word_front_is_long words others word name value more are short (inr one) =
    short (name ++ equals_sign ∷ value) (one_reading_of_head _ _ _ _ (sym are ∙ one))

-- a word that is no value and doesn't begin with two hyphens begins no argument
pub no_positional_at_word_front : (words others : List (Bor ArgumentText)) (word : Bor ArgumentText) → words ≡ word ∷ others
    → IsShortFrontWord word.now → (IsValue word.now → ⊥) → (argument : Argument) (more : List ArgumentText)
    → BeginWith (argument_texts words) argument more → ⊥
no_positional_at_word_front words others word are short no_value (positional text) more begins =
    no_value (subst IsValue
    (one_reading_of_head _ _ _ _
    (sym (one_reading_by_spelling (argument_texts words) begins.front more _ begins.parted begins.spelled.1)
    ∙ ap (λ ws. argument_texts ws) are)) begins.spelled.0)
no_positional_at_word_front words others word are short no_value (option name value) more begins =
    option_word_front_is_long (argument_texts words) more word.now name value (argument_texts others) (ap (λ ws. argument_texts ws) are) short
    (one_reading_by_option_form (argument_texts words) begins.front more name value begins.parted begins.spelled.2)

-- a word that begins with two hyphens is no positional
positional_word_front_not_long : (words others more : List ArgumentText) (word text rest : ArgumentText) → words ≡ word ∷ more
    → word ≡ hyphen ∷ hyphen ∷ rest → IsValue text → words ≡ text ∷ others → ⊥
positional_word_front_not_long words others more word text rest are is_long is_value one =
    one_reading_of_value text (hyphen ∷ rest) is_value (one_reading_of_head _ _ _ _ (sym one ∙ are) ∙ is_long)

no_joined_option_word_front : (words others more : List ArgumentText) (word name value other worth : ArgumentText) → words ≡ word ∷ more
    → word ≡ long_argument name ++ equals_sign ∷ value → IsName name → (IsValue value → ⊥)
    → IsName other → IsValue worth → HaveOneOptionReading words other worth others → ⊥
no_joined_option_word_front words others more word name value other worth are spelled is_name no_value is_other is_worth
    (inl one) =
    one_reading_of_name other name value is_other
    (one_reading_behind_hyphens _ _ (sym (one_reading_of_head _ _ _ _ (sym are ∙ one)) ∙ spelled))
no_joined_option_word_front words others more word name value other worth are spelled is_name no_value is_other is_worth
    (inr one) =
    no_value (subst IsValue
    (sym (one_reading_of_equals_sign name other value worth is_name is_other
    (one_reading_behind_hyphens _ _ (sym spelled ∙ one_reading_of_head _ _ _ _ (sym are ∙ one)))).1) is_worth)

-- a word with `=` and no value after it begins no argument
pub no_joined_word_front : (words others : List (Bor ArgumentText)) (word : Bor ArgumentText) (name value : ArgumentText)
    → words ≡ word ∷ others → word.now ≡ long_argument name ++ equals_sign ∷ value → IsName name → (IsValue value → ⊥)
    → (argument : Argument) (more : List ArgumentText) → BeginWith (argument_texts words) argument more → ⊥
no_joined_word_front words others word name value are spelled is_name no_value (positional text) more begins =
    positional_word_front_not_long (argument_texts words) more (argument_texts others) word.now text (name ++ equals_sign ∷ value)
    (ap (λ ws. argument_texts ws) are) spelled begins.spelled.0
    (one_reading_by_spelling (argument_texts words) begins.front more _ begins.parted begins.spelled.1)
no_joined_word_front words others word name value are spelled is_name no_value (option other worth) more begins =
    no_joined_option_word_front (argument_texts words) more (argument_texts others) word.now name value other worth (ap (λ ws. argument_texts ws) are)
    spelled is_name no_value begins.spelled.0 begins.spelled.1
    (one_reading_by_option_form (argument_texts words) begins.front more other worth begins.parted begins.spelled.2)

no_apart_option_word_front : (words others more : List ArgumentText) (word name other worth : ArgumentText) → words ≡ word ∷ more
    → word ≡ long_argument name → IsName name
    → ((value : ArgumentText) (rest : List ArgumentText) → more ≡ value ∷ rest → IsValue value → ⊥) → IsValue worth
    → HaveOneOptionReading words other worth others → ⊥
no_apart_option_word_front words others more word name other worth are spelled is_name no_value is_worth (inl one) =
    no_value worth others (one_reading_of_rest _ _ _ _ (sym are ∙ one)) is_worth
no_apart_option_word_front words others more word name other worth are spelled is_name no_value is_worth (inr one) =
    one_reading_of_name name other worth is_name (one_reading_behind_hyphens _ _ (sym spelled ∙ one_reading_of_head _ _ _ _ (sym are ∙ one)))

-- a word without `=` and no value in the next word begin no argument
pub no_apart_word_front : (words others : List (Bor ArgumentText)) (word : Bor ArgumentText) (name : ArgumentText) → words ≡ word ∷ others
    → word.now ≡ long_argument name → IsName name
    → ((value : ArgumentText) (rest : List ArgumentText) → argument_texts others ≡ value ∷ rest → IsValue value → ⊥)
    → (argument : Argument) (more : List ArgumentText) → BeginWith (argument_texts words) argument more → ⊥
no_apart_word_front words others word name are spelled name_at_word_front no_value (positional text) more begins =
    positional_word_front_not_long (argument_texts words) more (argument_texts others) word.now text name (ap (λ ws. argument_texts ws) are) spelled
    begins.spelled.0
    (one_reading_by_spelling (argument_texts words) begins.front more _ begins.parted begins.spelled.1)
no_apart_word_front words others word name are spelled name_at_word_front no_value (option other worth) more begins =
    no_apart_option_word_front (argument_texts words) more (argument_texts others) word.now name other worth (ap (λ ws. argument_texts ws) are) spelled
    name_at_word_front no_value begins.spelled.1
    (one_reading_by_option_form (argument_texts words) begins.front more other worth begins.parted begins.spelled.2)

-- a word from which `--` is stripped is `--` and the rest
pub stripped_word_front_is_long : (word text : ArgumentText) (cut : ℕ) → word ≡ hyphen ∷ hyphen ∷ drop cut word → text ≡ drop cut word
    → word ≡ long_argument text
stripped_word_front_is_long word text cut is same = is ∙ ap long_argument (sym same)

-- no word follows the first
pub nothing_behind_word_front : (others : List (Bor ArgumentText)) → length others ≡ 0 → (value : ArgumentText) (rest : List ArgumentText)
    → argument_texts others ≡ value ∷ rest → ⊥
nothing_behind_word_front [] none value rest same = one_reading_of_empty_list _ _ same
nothing_behind_word_front (other ∷ others) none value rest same = absurd (omega arith)
