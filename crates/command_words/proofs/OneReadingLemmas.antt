-- Words spell at most one list of arguments.
use Rattle.std.proofs.Common.{◌≡◌, ◌≢◌, ◌⊎◌, inl, inr, refl, sym, ap, ap₂, ◌∙◌, subst, ◌++◌, List, [], ◌∷◌}
use Rattle.std.proofs.lemmas.List.Elements.{All-head, All-tail}
use Rattle.command_words.specs.Arguments.{ArgumentText, Argument, positional, option, hyphen}
use Rattle.command_words.specs.Arguments.{equals_sign, IsValue, IsName}
use Rattle.command_words.specs.Arguments.{long_argument, BeginWith, SpellAll}

-- equal lists have equal heads
pub one_reading_of_head : {A : Type 0} (x y : A) (xs ys : List A) → Path (List A) (x ∷ xs) (y ∷ ys) → x ≡ y
one_reading_of_head x y xs ys same = cc

-- and equal rests
pub one_reading_of_rest : {A : Type 0} (x y : A) (xs ys : List A) → Path (List A) (x ∷ xs) (y ∷ ys) → xs ≡ ys
one_reading_of_rest x y xs ys same = cc

-- no list with an element is empty
pub one_reading_of_empty_list : {A : Type 0} (x : A) (xs : List A) → Path (List A) [] (x ∷ xs) → ⊥
one_reading_of_empty_list x xs same = cc

-- a name has no `=`
pub one_reading_of_name : (name other value : ArgumentText) → IsName name → name ≡ other ++ equals_sign ∷ value → ⊥
one_reading_of_name [] [] value is_name same = one_reading_of_empty_list _ _ same
one_reading_of_name [] (x ∷ other) value is_name same = one_reading_of_empty_list _ _ same
one_reading_of_name (byte ∷ name) [] value is_name same =
    All-head (λ b. b ≢ equals_sign) byte name is_name (one_reading_of_head _ _ _ _ same)
one_reading_of_name (byte ∷ name) (x ∷ other) value is_name same =
    one_reading_of_name name other value (All-tail (λ b. b ≢ equals_sign) byte name is_name) (one_reading_of_rest _ _ _ _ same)

-- the text before the first `=`, and the text after it, are determined
pub one_reading_of_equals_sign : (name other value more : ArgumentText) → IsName name → IsName other
    → name ++ equals_sign ∷ value ≡ other ++ equals_sign ∷ more → (name ≡ other) × (value ≡ more)
one_reading_of_equals_sign [] [] value more is_name is_other same = (refl, one_reading_of_rest _ _ _ _ same)
one_reading_of_equals_sign [] (x ∷ other) value more is_name is_other same =
    absurd (All-head (λ b. b ≢ equals_sign) x other is_other (sym (one_reading_of_head _ _ _ _ same)))
one_reading_of_equals_sign (byte ∷ name) [] value more is_name is_other same =
    absurd (All-head (λ b. b ≢ equals_sign) byte name is_name (one_reading_of_head _ _ _ _ same))
one_reading_of_equals_sign (byte ∷ name) (x ∷ other) value more is_name is_other same =
    let behind =
    one_reading_of_equals_sign name other value more (All-tail (λ b. b ≢ equals_sign) byte name is_name)
    (All-tail (λ b. b ≢ equals_sign) x other is_other) (one_reading_of_rest _ _ _ _ same) in
    (ap₂ (λ b bs. b ∷ bs) (one_reading_of_head _ _ _ _ same) behind.0, behind.1)

-- a value doesn't begin with a hyphen
pub one_reading_of_value : (text rest : ArgumentText) → IsValue text → text ≡ hyphen ∷ rest → ⊥
one_reading_of_value [] rest is_value same = is_value
one_reading_of_value (byte ∷ text) rest is_value same = is_value (one_reading_of_head _ _ _ _ same)

-- words that begin with an argument begin with one of its spellings
pub one_reading_by_spelling : (words front others spelling : List ArgumentText) → words ≡ front ++ others → front ≡ spelling
    → words ≡ spelling ++ others
one_reading_by_spelling words front others spelling parted same = parted ∙ ap (λ f. f ++ others) same

-- two positionals
one_reading_of_positional : (words others more : List ArgumentText) (text other : ArgumentText) → words ≡ text ∷ others
    → words ≡ other ∷ more → (positional text ≡ positional other) × (others ≡ more)
one_reading_of_positional words others more text other one two =
    (ap positional (one_reading_of_head _ _ _ _ (sym one ∙ two)), one_reading_of_rest _ _ _ _ (sym one ∙ two))

-- a positional is no option
one_reading_not_as_option : (words others more : List ArgumentText) (text name value : ArgumentText) → IsValue text → words ≡ text ∷ others
    → (words ≡ long_argument name ∷ value ∷ more) ⊎ (words ≡ (long_argument name ++ equals_sign ∷ value) ∷ more) → ⊥
one_reading_not_as_option words others more text name value is_value one (inl two) =
    one_reading_of_value text (hyphen ∷ name) is_value (one_reading_of_head _ _ _ _ (sym one ∙ two))
one_reading_not_as_option words others more text name value is_value one (inr two) =
    one_reading_of_value text (hyphen ∷ (name ++ equals_sign ∷ value)) is_value (one_reading_of_head _ _ _ _ (sym one ∙ two))

-- the two forms of an option
abbrev pub HaveOneOptionReading : List ArgumentText → ArgumentText → ArgumentText → List ArgumentText → Type 0
HaveOneOptionReading words name value others =
    (words ≡ long_argument name ∷ value ∷ others) ⊎ (words ≡ (long_argument name ++ equals_sign ∷ value) ∷ others)

-- equal words have equal texts after their hyphens
pub one_reading_behind_hyphens : (text other : ArgumentText)
    → Path ArgumentText (hyphen ∷ hyphen ∷ text) (hyphen ∷ hyphen ∷ other)
    → text ≡ other
one_reading_behind_hyphens text other same = cc

one_reading_of_option : (words others more : List ArgumentText) (name value other worth : ArgumentText) → IsName name → IsName other
    → HaveOneOptionReading words name value others → HaveOneOptionReading words other worth more
    → (option name value ≡ option other worth) × (others ≡ more)
one_reading_of_option words others more name value other worth is_name is_other (inl one) (inl two) =
    let same = sym one ∙ two in
    let behind = one_reading_of_rest _ _ _ _ same in
    (ap₂ option (one_reading_behind_hyphens _ _ (one_reading_of_head _ _ _ _ same)) (one_reading_of_head _ _ _ _ behind), one_reading_of_rest _ _ _ _ behind)
one_reading_of_option words others more name value other worth is_name is_other (inl one) (inr two) =
    absurd (one_reading_of_name name other worth is_name (one_reading_behind_hyphens _ _ (one_reading_of_head _ _ _ _ (sym one ∙ two))))
one_reading_of_option words others more name value other worth is_name is_other (inr one) (inl two) =
    absurd (one_reading_of_name other name value is_other (one_reading_behind_hyphens _ _ (one_reading_of_head _ _ _ _ (sym two ∙ one))))
one_reading_of_option words others more name value other worth is_name is_other (inr one) (inr two) =
    let same = sym one ∙ two in
    let apart =
    one_reading_of_equals_sign name other value worth is_name is_other (one_reading_behind_hyphens _ _ (one_reading_of_head _ _ _ _ same)) in
    (ap₂ option apart.0 apart.1, one_reading_of_rest _ _ _ _ same)

-- words that begin with an option begin with one of its two forms
pub one_reading_by_option_form : (words front others : List ArgumentText) (name value : ArgumentText) → words ≡ front ++ others
    → (front ≡ long_argument name ∷ value ∷ []) ⊎ (front ≡ (long_argument name ++ equals_sign ∷ value) ∷ [])
    → HaveOneOptionReading words name value others
one_reading_by_option_form words front others name value parted (inl one) = inl (one_reading_by_spelling words front others _ parted one)
one_reading_by_option_form words front others name value parted (inr one) = inr (one_reading_by_spelling words front others _ parted one)

-- words begin with at most one argument, and the words after it are determined
pub one_reading_of_first_argument : (words others more : List ArgumentText) (argument other : Argument) → BeginWith words argument others
    → BeginWith words other more → (argument ≡ other) × (others ≡ more)
one_reading_of_first_argument words others more (positional text) (positional other) one two =
    one_reading_of_positional words others more text other (one_reading_by_spelling words one.front others _ one.parted one.spelled.1)
    (one_reading_by_spelling words two.front more _ two.parted two.spelled.1)
one_reading_of_first_argument words others more (positional text) (option name value) one two =
    absurd (one_reading_not_as_option words others more text name value one.spelled.0
    (one_reading_by_spelling words one.front others _ one.parted one.spelled.1)
    (one_reading_by_option_form words two.front more name value two.parted two.spelled.2))
one_reading_of_first_argument words others more (option name value) (positional text) one two =
    absurd (one_reading_not_as_option words more others text name value two.spelled.0
    (one_reading_by_spelling words two.front more _ two.parted two.spelled.1)
    (one_reading_by_option_form words one.front others name value one.parted one.spelled.2))
one_reading_of_first_argument words others more (option name value) (option other worth) one two =
    one_reading_of_option words others more name value other worth one.spelled.0 two.spelled.0
    (one_reading_by_option_form words one.front others name value one.parted one.spelled.2)
    (one_reading_by_option_form words two.front more other worth two.parted two.spelled.2)

-- an empty list of words begins with no argument
pub one_reading_of_no_words : (argument : Argument) (others : List ArgumentText) → BeginWith [] argument others → ⊥
one_reading_of_no_words (positional text) others begins =
    one_reading_of_empty_list _ _ (one_reading_by_spelling [] begins.front others _ begins.parted begins.spelled.1)
one_reading_of_no_words (option name value) others begins =
    go (one_reading_by_option_form [] begins.front others name value begins.parted begins.spelled.2)
  where
    go : HaveOneOptionReading [] name value others → ⊥
    go (inl one) = one_reading_of_empty_list _ _ one
    go (inr one) = one_reading_of_empty_list _ _ one

-- words spell at most one list of arguments
pub one_reading : (words : List ArgumentText) (arguments others : List Argument) → SpellAll words arguments
    → SpellAll words others → arguments ≡ others
one_reading words [] [] one two = refl
one_reading words [] (other ∷ others) one two =
    absurd (one_reading_of_no_words other two.0 (subst (λ w. BeginWith w other two.0) one two.1))
one_reading words (argument ∷ arguments) [] one two =
    absurd (one_reading_of_no_words argument one.0 (subst (λ w. BeginWith w argument one.0) two one.1))
one_reading words (argument ∷ arguments) (other ∷ others) one two =
    let same = one_reading_of_first_argument words one.0 two.0 argument other one.1 two.1 in
    ap₂ (λ a rest. a ∷ rest) same.0
    (one_reading two.0 arguments others (subst (λ w. SpellAll w arguments) same.1 one.2) two.2)
