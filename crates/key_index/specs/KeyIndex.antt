-- Which keys an index holds.
use Rattle.std.specs.Prelude.{ℕ, List, ◌≤◌, length}
use Rattle.key_index.specs.Entries.{KeyEntries, AreEntered, LeadBelow}

-- there is room for these keys, by place, and all their places are entered
pub record HoldsKeys (keys : List ℕ) (index : KeyEntries) : Type 0 where
  pub few : length keys ≤ index.room
  pub leads : LeadBelow (length keys) index.links index.listed
  pub entered : AreEntered (length keys) (length keys) keys index

-- the same, except that one place is entered nowhere
pub record HoldsKeysButOne (but : ℕ) (keys : List ℕ) (index : KeyEntries) : Type 0 where
  pub few : length keys ≤ index.room
  pub leads : LeadBelow (length keys) index.links index.listed
  pub entered : AreEntered (length keys) but keys index
