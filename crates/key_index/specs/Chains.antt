-- Chains of places, one for each home, which no public contract cites.
--
-- A cell leads to the next place of its chain: it holds 0 at the end of the chain, and else a place plus 1. Cell p, below
-- the room, belongs to place p; the cells from the room on are the heads of the homes' chains.
use Rattle.std.specs.Prelude.{ℕ, ◌≡◌, ◌≢◌, ◌+◌, ◌*◌, ◌<◌, ◌≤◌, List, All, length, slice_index}

-- for how many places there is room, what each cell leads to, and what leads to each place: 0 for a place in no chain,
-- else the cell that leads to it, plus 1. The first number of `backs` belongs to no place, so place p has number p + 1
pub record Chains : Type 0 where
  pub room : ℕ
  pub links : List ℕ
  pub backs : List ℕ

-- the place is in a chain
abbrev pub IsLinked : List ℕ → ℕ → Type 0
IsLinked backs place = slice_index backs (place + 1) ≢ 0

-- a home's head, or the cell of a place in a chain
abbrev pub IsLive : ℕ → List ℕ → ℕ → Type 0
IsLive room backs cell = cell < room → IsLinked backs cell

-- a cell for each place and for each of four homes a place, and a way back from each place. The number of a cell fits into
-- 16 bits
pub record HaveShape (room : ℕ) (links backs : List ℕ) : Type 0 where
  pub some : 1 ≤ room
  pub few : room ≤ 8192
  pub cells : length links ≡ 5 * room
  pub places : length backs ≡ room + 1
  pub marks : All (λ mark. mark ≤ room) links
  pub ways : All (λ way. way ≤ 5 * room) backs

-- Each place in a chain is in the chain of one home, and the links lead from the home's head through all its places to the
-- end, at most four. `home` says of each cell to which home it belongs, a cell too, and `rank` how many places are behind it
pub record AreChains (room : ℕ) (links backs : List ℕ) (rank home : ℕ → ℕ) : Type 0 where
  pub heads : (cell : ℕ) → room ≤ cell → home cell ≡ cell
  pub within : (place : ℕ) → IsLinked backs place → place < room
  pub homes : (place : ℕ) → IsLinked backs place → room ≤ home place
  pub apart : (one other : ℕ) → IsLinked backs one → IsLinked backs other → home one ≡ home other → rank one ≡ rank other → one ≡ other
  pub top : (place : ℕ) → IsLinked backs place → rank place < rank (home place)
  pub bound : (cell : ℕ) → room ≤ cell → rank cell ≤ 4
  pub ends : (cell : ℕ) → IsLive room backs cell → slice_index links cell ≡ 0 → rank cell ≡ 0
  pub leads : (cell place : ℕ) → IsLive room backs cell → slice_index links cell ≡ place + 1
      → IsLinked backs place × (home place ≡ home cell) × (rank place + 1 ≡ rank cell)
  pub back : (place : ℕ) → IsLinked backs place
      → (cell : ℕ) × IsLive room backs cell × (slice_index backs (place + 1) ≡ cell + 1) × (slice_index links cell ≡ place + 1)

-- A search for a key is at this cell after so many steps from the head of a home. The places of the chain up to the cell have
-- other keys, and behind it are no more places than there are steps to come
pub record HasPassed (room : ℕ) (backs keys : List ℕ) (rank home : ℕ → ℕ) (key head cell step : ℕ) : Type 0 where
  pub live : IsLive room backs cell
  pub here : home cell ≡ head
  pub left : rank cell + step ≤ 4
  pub others : (place : ℕ) → IsLinked backs place → home place ≡ head → rank cell ≤ rank place → slice_index keys place ≢ key
