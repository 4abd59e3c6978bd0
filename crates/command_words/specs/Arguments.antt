-- The words after a command's name, read as positionals and options in any order. The grammar is this program's own.
use Rattle.std.specs.Prelude.{ℕ, ◌≡◌, ◌≢◌, ◌⊎◌, ◌++◌, List, [], ◌∷◌, length, All, AllPairs, Contains, Option, Some}
use Rattle.std.specs.Prelude.{None, if◌then◌else◌, map}
use Rattle.std.specs.Str.{bytes_eq}
use Rattle.std.specs.Borrow.{Bor}

-- the bytes of a word, which is one string of the command line, or of a part of a word
abbrev pub ArgumentText : Type 0
ArgumentText = List ℕ

-- an argument after a command's name: a positional, or an option with its value
pub data Argument : Type 0 where
  positional : ArgumentText → Argument
  option : ArgumentText → ArgumentText → Argument

-- the byte `-`
abbrev pub hyphen : ℕ
hyphen = 45

-- the byte `=`
abbrev pub equals_sign : ℕ
equals_sign = 61

-- a text that can be a positional or a value: it is not empty, and its first byte is not a hyphen
abbrev pub IsValue : ArgumentText → Type 0
IsValue [] = ⊥
IsValue (first ∷ rest) = first ≢ hyphen

-- a text that can be the name of an option: it has no `=`, so what follows the first `=` of a word is the value
abbrev pub IsName : ArgumentText → Type 0
IsName name = All (λ byte. byte ≢ equals_sign) name

-- the word `--name`, which names an option
abbrev pub long_argument : ArgumentText → ArgumentText
long_argument name = hyphen ∷ hyphen ∷ name

-- the words spell the argument: a positional is one word; an option is `--name` followed by its value,
-- or the one word `--name=value`
abbrev pub Spells : List ArgumentText → Argument → Type 0
Spells words (positional text) = IsValue text × (words ≡ text ∷ [])
Spells words (option name value) =
    IsName name × IsValue value
    × ((words ≡ long_argument name ∷ value ∷ []) ⊎ (words ≡ (long_argument name ++ equals_sign ∷ value) ∷ []))

-- the first words spell this argument, and the others follow
pub record BeginWith (words : List ArgumentText) (argument : Argument) (others : List ArgumentText) : Type 0 where
  pub front : List ArgumentText
  pub parted : words ≡ front ++ others
  pub spelled : Spells front argument

-- the words spell the arguments, one after another
abbrev pub SpellAll : List ArgumentText → List Argument → Type 0
SpellAll words [] = words ≡ []
SpellAll words (argument ∷ arguments) =
    (others : List ArgumentText) × BeginWith words argument others × SpellAll others arguments

-- the positionals among arguments, in their order
abbrev pub positionals_in : List Argument → List ArgumentText
positionals_in [] = []
positionals_in (positional text ∷ arguments) = text ∷ positionals_in arguments
positionals_in (option name value ∷ arguments) = positionals_in arguments

-- the names of the options among arguments, in their order
abbrev pub names_in : List Argument → List ArgumentText
names_in [] = []
names_in (positional text ∷ arguments) = names_in arguments
names_in (option name value ∷ arguments) = name ∷ names_in arguments

-- the value of the first option of this name
abbrev pub value_of : ArgumentText → List Argument → Option ArgumentText
value_of name [] = None
value_of name (positional text ∷ arguments) = value_of name arguments
value_of name (option other value ∷ arguments) = if bytes_eq other name then Some value else value_of name arguments

-- the arguments with each positional as an option: the first positional has the first of these names, and so on; a
-- positional for which there is no name is dropped
abbrev pub named : List ArgumentText → List Argument → List Argument
named names [] = []
named [] (positional text ∷ arguments) = named [] arguments
named (name ∷ names) (positional text ∷ arguments) = option name text ∷ named names arguments
named names (option name value ∷ arguments) = option name value ∷ named names arguments

-- what a command takes: the names of its positionals, the names of its options, and which options are required
pub record ArgumentForm : Type 0 where
  pub positionals : List ArgumentText
  pub options : List ArgumentText
  pub required : List ArgumentText

-- the arguments are those of a form: each positional once, and options of the form, each at most once and each
-- required one among them
pub record AreOfForm (form : ArgumentForm) (arguments : List Argument) : Type 0 where
  pub as_many : length (positionals_in arguments) ≡ length form.positionals
  pub known : All (λ name. Contains form.options name) (names_in arguments)
  pub once : AllPairs (λ name other. name ≢ other) (names_in arguments)
  pub complete : All (λ name. Contains (names_in arguments) name) form.required

-- the words are well formed: they spell these arguments, which are of the form
pub record AreWellFormed (form : ArgumentForm) (words : List ArgumentText) (arguments : List Argument) : Type 0 where
  pub spelled : SpellAll words arguments
  pub of_form : AreOfForm form arguments

-- the texts of the arguments
abbrev pub argument_texts : List (Bor ArgumentText) → List ArgumentText
argument_texts words = map (λ word. word.now) words
