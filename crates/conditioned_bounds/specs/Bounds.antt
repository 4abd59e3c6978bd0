-- Bounds on conditioned weights, from intervals that hold weights (Mitzenmacher, Steinke, Thaler 2012).
use Rattle.std.specs.Prelude.{ℕ, ◌≡◌, ◌+◌, ◌*◌, ◌^◌, List, ◌∷◌, ◌++◌, All, sum_by, ℤ, pos, ◌-ℤ◌}
use Rattle.prefix_lattice.specs.{RecordValue, PrefixValue, prefix_weight, closest, kept_pairs, total_limit}
use Rattle.prefix_lattice.specs.{HoldsWeight, IsNarrow}

-- the bound of a prefix over some lines: its high and the highs of the meets of its closest lines' kept pairs,
-- less the lows of those lines
abbrev pub bound_of : (PrefixValue → ℕ) → (PrefixValue → ℕ) → PrefixValue → List PrefixValue → ℤ
bound_of low high prefix lines =
    pos (high prefix + sum_by high (kept_pairs (closest prefix lines))) -ℤ pos (sum_by low (closest prefix lines))

-- no sum of lows or of highs reaches this: a list has fewer than 2^64 prefixes
abbrev pub sum_limit : ℕ
sum_limit = 2 ^ 64 * total_limit

-- the prefixes whose intervals make a bound: the prefix itself, its closest lines, and the meets of their kept pairs
abbrev pub prefixes_asked : PrefixValue → List PrefixValue → List PrefixValue
prefixes_asked prefix lines = prefix ∷ (closest prefix lines ++ kept_pairs (closest prefix lines))

-- the weight of each of these prefixes over some records is between its low and its high
abbrev pub HoldWeights : (PrefixValue → ℕ) → (PrefixValue → ℕ) → List RecordValue → List PrefixValue → Type 0
HoldWeights low high records asked =
    All (λ prefix. HoldsWeight (low prefix) (high prefix) (prefix_weight prefix records)) asked

-- for each of these prefixes, the width of its interval times this number is at most this whole
abbrev pub AreNarrow : (PrefixValue → ℕ) → (PrefixValue → ℕ) → ℕ → ℕ → List PrefixValue → Type 0
AreNarrow low high times whole asked = All (λ prefix. IsNarrow (low prefix) (high prefix) times whole) asked

-- the low and the high of each of these prefixes are its weight over some records
abbrev pub AreWeights : (PrefixValue → ℕ) → (PrefixValue → ℕ) → List RecordValue → List PrefixValue → Type 0
AreWeights low high records asked =
    All (λ prefix. (low prefix ≡ prefix_weight prefix records) × (high prefix ≡ prefix_weight prefix records)) asked
