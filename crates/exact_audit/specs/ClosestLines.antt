-- The closest lines of each line, found from below: a line is one of the closest of those right above it.
use Rattle.std.specs.Prelude.{ℕ, ◌≡◌, ◌++◌, ◌&&◌, not, nat_lt, Bool, true, List, [], ◌∷◌, length, filter, map}
use Rattle.std.specs.Prelude.{slice_get, slice_index_or, Some, if◌then◌else◌}
use Rattle.std.specs.List.{list_any}
use Rattle.prefix_lattice.specs.{NodeValue, PrefixValue, node_index, node_of_prefix, strictly_under, closest}
use Rattle.prefix_lattice.specs.declared.grain.Grain.{Grain}

-- a prefix is strictly under one and strictly above another
abbrev pub is_between : (upper lower : PrefixValue) → PrefixValue → Bool
is_between upper lower prefix = strictly_under prefix upper && strictly_under lower prefix

-- a prefix is strictly above another, and no line is between them
abbrev pub is_right_above : List PrefixValue → (upper lower : PrefixValue) → Bool
is_right_above lines upper lower = strictly_under lower upper && not (list_any (is_between upper lower) lines)

-- at this place is a line of this node that is right above a prefix
pub record IsPlaceRightAbove (lines : List PrefixValue) (lower : PrefixValue) (node : NodeValue) (place : ℕ) : Type 0 where
  pub upper : PrefixValue
  pub is : slice_get lines place ≡ Some upper
  pub of_node : node_of_prefix node.grain upper ≡ node
  pub right_above : is_right_above lines upper lower ≡ true

-- for each line, those of these prefixes that it is right above
abbrev pub right_under_each : List PrefixValue → List PrefixValue → List (List PrefixValue)
right_under_each lines prefixes = map (λ upper. filter (is_right_above lines upper) prefixes) lines

-- the closest lines of each line
abbrev pub closest_of_lines : List PrefixValue → List (List PrefixValue)
closest_of_lines lines = map (λ line. closest line lines) lines

-- a prefix alone where the node of a line, among those of a grain, is before an index and the line is right above the
-- prefix, else nothing
abbrev pub noted_before : Grain → ℕ → List PrefixValue → (upper lower : PrefixValue) → List PrefixValue
noted_before grain index lines upper lower =
    if nat_lt (node_index (node_of_prefix grain upper)) index && is_right_above lines upper lower then lower ∷ [] else []

-- a prefix was appended to the list of each line whose node is before an index and which is right above it
pub record IsNotedBefore (grain : Grain) (index : ℕ) (lines : List PrefixValue) (lower : PrefixValue)
    (old new : List (List PrefixValue)) : Type 0 where
  pub as_many : length new ≡ length old
  pub each : (place : ℕ) (upper : PrefixValue) → slice_get lines place ≡ Some upper
      → slice_index_or new place [] ≡ slice_index_or old place [] ++ noted_before grain index lines upper lower
