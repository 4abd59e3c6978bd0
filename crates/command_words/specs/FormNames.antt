-- The commands, and what each takes.
use Rattle.std.specs.Prelude.{◌≡◌, List, [], ◌∷◌, codes}
use Rattle.command_words.specs.Arguments.{ArgumentText, Argument, ArgumentForm, AreWellFormed}
use Rattle.command_words.specs.declared.command_word.CommandWord.{CommandWord}
use Rattle.command_words.specs.declared.command_word.CommandWord.TheVariants.{Weigh, Report, Format, Audit, Make, Demo, Watch}

-- the name of a command, which is the first word of the command line
abbrev pub word_of : CommandWord → ArgumentText
word_of Weigh = codes "weigh"
word_of Report = codes "report"
word_of Format = codes "format"
word_of Audit = codes "audit"
word_of Make = codes "make"
word_of Demo = codes "demo"
word_of Watch = codes "watch"

-- the positionals and options that each command takes
abbrev pub form_of : CommandWord → ArgumentForm
form_of Weigh = record {
  positionals = codes "SRC" ∷ codes "DST" ∷ [];
  options = codes "capture" ∷ codes "weigh" ∷ codes "front" ∷ [];
  required = [];
}
form_of Report = record {
  positionals = [];
  options =
      codes "capture" ∷ codes "weigh" ∷ codes "shards" ∷ codes "capacity" ∷ codes "phi" ∷ codes "deal" ∷ codes "block"
      ∷ codes "workers" ∷ codes "callers" ∷ codes "rounds" ∷ codes "bits" ∷ codes "front" ∷ codes "store" ∷ [];
  required = [];
}
form_of Format = record {
  positionals = [];
  options = codes "weigh" ∷ codes "shards" ∷ codes "capacity" ∷ codes "deal" ∷ codes "bits" ∷ codes "store" ∷ [];
  required = codes "store" ∷ [];
}
form_of Audit = record {
  positionals = [];
  options =
      codes "capture" ∷ codes "weigh" ∷ codes "shards" ∷ codes "capacity" ∷ codes "phi" ∷ codes "deal"
      ∷ codes "bits" ∷ codes "front" ∷ codes "report" ∷ [];
  required = codes "report" ∷ [];
}
form_of Make = record { positionals = codes "SEED" ∷ codes "FRAMES" ∷ []; options = []; required = [] }
form_of Demo = record {
  positionals = codes "SEED" ∷ codes "FRAMES" ∷ [];
  options =
      codes "shards" ∷ codes "capacity" ∷ codes "phi" ∷ codes "deal" ∷ codes "block" ∷ codes "workers"
      ∷ codes "bits" ∷ [];
  required = [];
}
form_of Watch = record {
  positionals = [];
  options = codes "report" ∷ codes "limit" ∷ codes "src" ∷ codes "dst" ∷ codes "bits" ∷ [];
  required = codes "report" ∷ codes "limit" ∷ [];
}

-- the words are a command's name followed by well-formed words that spell these arguments
pub record AreWords (words : List ArgumentText) (command : CommandWord) (arguments : List Argument) : Type 0 where
  pub behind : List ArgumentText
  pub begun : words ≡ word_of command ∷ behind
  pub well_formed : AreWellFormed (form_of command) behind arguments
