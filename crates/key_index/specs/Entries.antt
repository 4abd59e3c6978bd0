-- Which places of a list of keys are entered in an index, and where.
use Rattle.std.specs.Prelude.{ℕ, ◌≡◌, ◌≢◌, ◌+◌, ◌*◌, ◌<◌, ◌≤◌, List, All, length, slice_index}
use Rattle.key_index.specs.Homes.{home_at}
use Rattle.key_index.specs.HomeMarks.{IsMarked}
use Rattle.key_index.specs.Chains.{Chains, AreChains, HaveShape, IsLinked}
use Rattle.key_index.specs.SortedPlaces.{Rises, IsListed}

-- the chains of the homes, the marks of those from which a key was turned away, and the list of the places that no home took
pub record KeyEntries : Type 0 where
  pub room : ℕ
  pub links : List ℕ
  pub backs : List ℕ
  pub turned : List ℕ
  pub listed : List ℕ

-- of the eight homes of a key each of the first ones, this many, has turned a key away: all eight if it is more
abbrev pub HaveTurnedAway : ℕ → ℕ → KeyEntries → Type 0
HaveTurnedAway homes key entries = (turn : ℕ) → turn < homes → turn < 8 → IsMarked entries.turned (home_at entries.room turn key)

-- nothing leads to a place from this one on
pub record LeadBelow (count : ℕ) (links listed : List ℕ) : Type 0 where
  pub marks : All (λ mark. mark ≤ count) links
  pub places : All (λ place. place < count) listed

-- The places below `end` are entered, but for one. `turn` says of each in which of its key's eight homes it is, counted
-- from 0, and 8 if it is in the list. Each earlier home has turned a key away.
pub record AreEntered (end but : ℕ) (keys : List ℕ) (entries : KeyEntries) : Type 0 where
  pub rank : ℕ → ℕ
  pub home : ℕ → ℕ
  pub turn : ℕ → ℕ
  pub chains : AreChains entries.room entries.links entries.backs rank home
  pub chained : (place : ℕ) → place < end → place ≢ but → turn place < 8
      → IsLinked entries.backs place × (home place ≡ entries.room + home_at entries.room (turn place) (slice_index keys place))
  pub ended : (place : ℕ) → place < end → place ≢ but → 8 ≤ turn place → IsListed entries.listed place
  pub passed : (place : ℕ) → place < end → place ≢ but → HaveTurnedAway (turn place) (slice_index keys place) entries
  pub linked : (place : ℕ) → IsLinked entries.backs place → (place < end) × (place ≢ but) × (turn place < 8)
  pub listed : (place : ℕ) → IsListed entries.listed place → (place < end) × (place ≢ but) × (8 ≤ turn place)
  pub rises : Rises keys entries.listed

-- each place of the key that is entered is in the home of this turn, or of a later one, or in the list
abbrev pub IsNotBefore : ℕ → ℕ → List ℕ → KeyEntries → Type 0
IsNotBefore turn key keys entries = (end but : ℕ) (entered : AreEntered end but keys entries) (place : ℕ) → place < end → place ≢ but
    → slice_index keys place ≡ key → turn ≤ entered.turn place

-- shape and memory
pub record AreEntries (room reserved : ℕ) (chains : Chains) (turned : List ℕ) : Type 0 where
  pub some : 1 ≤ room
  pub few : room ≤ 8192
  pub roomy : chains.room ≡ room
  pub shape : HaveShape chains.room chains.links chains.backs
  pub homes : 4 * room ≤ 64 * length turned
  pub memory : room ≤ reserved
