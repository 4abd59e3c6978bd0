-- The options and positionals whose values are checked: what each takes, and what is wrong with a value.
use Rattle.std.specs.Prelude.{⊤, ℕ, ◌≡◌, ◌⊎◌, ◌^◌, ◌-◌, ◌<◌, ◌≤◌, List, [], ◌∷◌, codes, decimal, Contains, Option, Some}
use Rattle.std.specs.Prelude.{None}
use Rattle.command_words.specs.Arguments.{ArgumentText}
use Rattle.command_words.specs.declared.opt.Opt.{Opt}
use Rattle.command_words.specs.declared.opt.Opt.TheVariants.{Seed, Frames, Weigh, Shards, Capacity, Phi, Deal}
use Rattle.command_words.specs.declared.opt.Opt.TheVariants.{Block, Workers, Callers, Rounds, Bits, Front, Limit}
use Rattle.prefix_lattice.specs.{shard_limit, grain_bits}
use Rattle.prefix_lattice.specs.declared.grain.Grain.TheVariants.{Byte, Nibble}

-- what the value of an option may be, a number from the least to the greatest, one of a few numbers or one of some
-- choices, and what is meant where the option is missing: the default
pub data OptionKind : Type 0 where
  number : (least greatest default : ℕ) → OptionKind
  few_numbers : (default : ℕ) (others : List ℕ) → OptionKind
  choice : (default : ArgumentText) (others : List ArgumentText) → OptionKind

-- the greatest seed, which may be any number of 64 bits
abbrev pub seed_limit : ℕ
seed_limit = 2 ^ 64 - 1

-- the most frames that are made
abbrev pub frames_limit : ℕ
frames_limit = 1000000

-- the greatest capacity of tables that the command line takes, which is that of the tables themselves
abbrev pub capacity_limit : ℕ
capacity_limit = 4096

-- the greatest share in parts per million, which is the whole
abbrev pub phi_limit : ℕ
phi_limit = 1000000

-- the most records that one fold counts
abbrev pub block_limit : ℕ
block_limit = 65536

-- the most threads that fold records
abbrev pub workers_limit : ℕ
workers_limit = 16

-- the most threads besides the calling one that report
abbrev pub callers_limit : ℕ
callers_limit = 8

-- the most reports that the calling thread and each of these make while records are folded
abbrev pub rounds_limit : ℕ
rounds_limit = 32

-- the greatest limit of a watch, which may be any number of 64 bits but 0
abbrev pub greatest_limit : ℕ
greatest_limit = 2 ^ 64 - 1

-- what the command line says of an option or a positional: its name, its index in the order in which values are checked,
-- and what its value may be, with the default
pub record OptionRow : Type 0 where
  pub name : ArgumentText
  pub place : ℕ
  pub kind : OptionKind

-- the options and positionals, a row each: SEED, FRAMES and the limit are never missing where a command has them
abbrev pub row_of : Opt → OptionRow
row_of Seed = record { name = codes "SEED"; place = 0; kind = number 0 seed_limit 0 }
row_of Frames = record { name = codes "FRAMES"; place = 1; kind = number 1 frames_limit 1 }
row_of Weigh = record { name = codes "weigh"; place = 2; kind = choice (codes "bytes") (codes "packets" ∷ []) }
row_of Shards = record { name = codes "shards"; place = 3; kind = number 1 shard_limit 4 }
row_of Capacity = record { name = codes "capacity"; place = 4; kind = number 2 capacity_limit 512 }
row_of Phi = record { name = codes "phi"; place = 5; kind = number 1 phi_limit 10000 }
row_of Deal = record { name = codes "deal"; place = 6; kind = choice (codes "round") (codes "source" ∷ codes "free" ∷ []) }
row_of Block = record { name = codes "block"; place = 7; kind = number 1 block_limit 1024 }
row_of Workers = record { name = codes "workers"; place = 8; kind = number 1 workers_limit 4 }
row_of Callers = record { name = codes "callers"; place = 9; kind = number 0 callers_limit 0 }
row_of Rounds = record { name = codes "rounds"; place = 10; kind = number 0 rounds_limit 0 }
row_of Bits = record { name = codes "bits"; place = 11; kind = few_numbers (grain_bits Byte) (grain_bits Nibble ∷ []) }
row_of Front = record { name = codes "front"; place = 12; kind = choice (codes "no") (codes "yes" ∷ []) }
row_of Limit = record { name = codes "limit"; place = 13; kind = number 1 greatest_limit 1 }

-- the name of an option or a positional
abbrev pub name_of : Opt → ArgumentText
name_of opt = (row_of opt).name

-- the index of an option or a positional in the order in which values are checked
abbrev pub place_of : Opt → ℕ
place_of opt = (row_of opt).place

-- what the value of an option or a positional may be, with the default
abbrev pub kind_of : Opt → OptionKind
kind_of opt = (row_of opt).kind

-- the text is a number below 2^64 in decimal, without leading zeros
pub record IsNumber (text : ArgumentText) (value : ℕ) : Type 0 where
  pub spelled : text ≡ decimal value
  pub bounded : value < 2 ^ 64

-- the option takes numbers, and this number is within its limits, or one of the few
abbrev pub IsAllowed : OptionKind → ℕ → Type 0
IsAllowed (number least greatest default) value = (least ≤ value) × (value ≤ greatest)
IsAllowed (few_numbers default others) value = Contains (default ∷ others) value
IsAllowed (choice default others) value = ⊥

-- the option takes numbers, and has this one where it is missing
abbrev pub IsDefault : OptionKind → ℕ → Type 0
IsDefault (number least greatest default) value = value ≡ default
IsDefault (few_numbers default others) value = value ≡ default
IsDefault (choice default others) value = ⊥

-- the option takes one of some choices, and has this one where it is missing
abbrev pub IsDefaultChoice : OptionKind → ArgumentText → Type 0
IsDefaultChoice (number least greatest default) word = ⊥
IsDefaultChoice (few_numbers default others) word = ⊥
IsDefaultChoice (choice default others) word = word ≡ default

-- the text is a value that the option may have
abbrev pub IsGoodText : OptionKind → ArgumentText → Type 0
IsGoodText (number least greatest default) text = (value : ℕ) × IsNumber text value × IsAllowed (number least greatest default) value
IsGoodText (few_numbers default others) text = (value : ℕ) × IsNumber text value × IsAllowed (few_numbers default others) value
IsGoodText (choice default others) text = Contains (default ∷ others) text

-- the option has a value that it may have, or is missing
abbrev pub IsGood : Opt → Option ArgumentText → Type 0
IsGood opt None = ⊤
IsGood opt (Some text) = IsGoodText (kind_of opt) text

-- the option takes numbers, and the text is not a number
abbrev pub IsNoNumber : OptionKind → ArgumentText → Type 0
IsNoNumber (number least greatest default) text = (value : ℕ) → IsNumber text value → ⊥
IsNoNumber (few_numbers default others) text = (value : ℕ) → IsNumber text value → ⊥
IsNoNumber (choice default others) text = ⊥

-- the option takes numbers, and the text is a number outside its limits, or none of the few
abbrev pub IsOutside : OptionKind → ArgumentText → Type 0
IsOutside (number least greatest default) text = (value : ℕ) × IsNumber text value × ((value < least) ⊎ (greatest < value))
IsOutside (few_numbers default others) text =
    (value : ℕ) × IsNumber text value × (Contains (default ∷ others) value → ⊥)
IsOutside (choice default others) text = ⊥

-- the option takes one of some choices, and the text is none of them
abbrev pub IsNoChoice : OptionKind → ArgumentText → Type 0
IsNoChoice (number least greatest default) text = ⊥
IsNoChoice (few_numbers default others) text = ⊥
IsNoChoice (choice default others) text = Contains (default ∷ others) text → ⊥
