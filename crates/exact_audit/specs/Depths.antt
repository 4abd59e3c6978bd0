-- How far down the lines that cover a record reach.
use Rattle.std.specs.Prelude.{ℕ, ◌≡◌, ◌+◌, ◌/◌, ◌≤◌, nat_le, nat_lt, ◌&&◌, ◌||◌, Bool, List, length, slice_index}
use Rattle.std.specs.List.{list_any}
use Rattle.prefix_lattice.specs.{RecordValue, NodeValue, PrefixValue, covers, finest_grain, grain_bits, grain_lengths}
use Rattle.prefix_lattice.specs.declared.grain.Grain.{Grain}
use Rattle.exact_audit.specs.declared.depths.Depths.{Depths}

-- how many steps of a grain these bits are
abbrev pub steps_of : Grain → List ℕ → ℕ
steps_of grain front = length front / grain_bits grain

-- a line keeps at least this many steps of its source and of its destination
abbrev pub reaches_down : Grain → ℕ → ℕ → PrefixValue → Bool
reaches_down grain source dest line =
    nat_le source (steps_of grain line.source) && nat_le dest (steps_of grain line.dest)

-- a line that covers the record keeps at least this many steps of its source and of its destination
abbrev pub reaches : Grain → List PrefixValue → RecordValue → ℕ → ℕ → Bool
reaches grain lines rec source dest = list_any (λ line. covers line rec && reaches_down grain source dest line) lines

-- how far down the lines that keep at least this many source steps reach: one more than the most destination steps that
-- one of them keeps, and 0 if there is none
abbrev pub IsDepth : Grain → List PrefixValue → RecordValue → ℕ → ℕ → Type 0
IsDepth grain lines rec source depth = (dest : ℕ) → nat_lt dest depth ≡ reaches grain lines rec source dest

-- one more than the most lengths that a side of a prefix may have
abbrev pub most_depths : ℕ
most_depths = grain_lengths finest_grain + 1

-- the depth for each number of source steps, up to one more than a prefix keeps
abbrev pub AreDepths : Grain → List PrefixValue → RecordValue → Depths → Type 0
AreDepths grain lines rec depths = (source : ℕ) → source ≤ grain_lengths grain
    → IsDepth grain lines rec source (slice_index depths.by_steps source)

-- whether a line that covers the record is strictly under its prefix with this many source and destination steps: it
-- keeps at least one step more
abbrev pub explained_at : Depths → ℕ → ℕ → Bool
explained_at depths source dest =
    nat_lt dest (slice_index depths.by_steps (source + 1)) || nat_lt (dest + 1) (slice_index depths.by_steps source)

-- the same for the record's prefix of a node
abbrev pub explained_by : Depths → NodeValue → Bool
explained_by depths node =
    explained_at depths (node.source_bits / grain_bits node.grain) (node.dest_bits / grain_bits node.grain)
