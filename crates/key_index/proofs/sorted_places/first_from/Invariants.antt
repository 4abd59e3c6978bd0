use Rattle.std.proofs.Common.{ℕ, ◌+◌, ◌<◌, ◌≤◌, length, map, get_or}
use Rattle.key_index.specs.SortedPlaces.{Rises, standing}
use Rattle.key_index.proofs.sorted_places.first_from.Given as goal

-- what is before the window stands before the number, and what is behind it doesn't
abbrev pub invariant-loop-size : goal.invariant-loop-size
invariant-loop-size g l = record {
  within : l.from + l.size ≤ length l.listed;
  before : Rises (map g.T.Keyed.key_of l.slots) l.listed → (index : ℕ) → index < l.from
      → standing (get_or (map g.T.Keyed.key_of l.slots) (get_or l.listed index 0) 0) (get_or l.listed index 0) < standing l.key l.place;
  after : Rises (map g.T.Keyed.key_of l.slots) l.listed → (index : ℕ) → l.from + l.size ≤ index → index < length l.listed
      → standing l.key l.place ≤ standing (get_or (map g.T.Keyed.key_of l.slots) (get_or l.listed index 0) 0) (get_or l.listed index 0);
}

abbrev pub decreases-loop-size : goal.decreases-loop-size
decreases-loop-size g l = l.size
