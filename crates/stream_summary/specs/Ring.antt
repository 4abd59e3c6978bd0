-- Lists of distinct numbers, each below a room, which no public contract cites.
use Rattle.std.specs.Prelude.{ℕ, ◌≡◌, ◌≢◌, ◌+◌, ◌<◌, ◌≤◌, ⊤, List, [], ◌∷◌, ◌++◌, All, length}
use Rattle.stream_summary.specs.Links.{AreLinked}

-- the numbers below the room may be in the order, and these are
pub record RingValue : Type 0 where
  pub room : ℕ
  pub order : List ℕ

-- no number is in the list twice
abbrev pub AreDistinct : List ℕ → Type 0
AreDistinct [] = ⊤
AreDistinct (number ∷ rest) = All (λ other. other ≢ number) rest × AreDistinct rest

-- the number is in the list, between these parts
pub record IsIn (number : ℕ) (numbers : List ℕ) : Type 0 where
  pub front : List ℕ
  pub back : List ℕ
  pub is : numbers ≡ front ++ number ∷ back

-- the list begins with the number
abbrev pub IsFirstOf : ℕ → List ℕ → Type 0
IsFirstOf number numbers = (rest : List ℕ) × (numbers ≡ number ∷ rest)

-- the list ends with the number
abbrev pub IsLastOf : ℕ → List ℕ → Type 0
IsLastOf number numbers = (front : List ℕ) × (numbers ≡ front ++ number ∷ [])

-- the numbers are below the room, and none is there twice: so they are at most as many as the room
pub record IsRing (room : ℕ) (order : List ℕ) : Type 0 where
  pub below : All (λ number. number < room) order
  pub distinct : AreDistinct order
  pub fits : length order ≤ room

-- a cell for each number, and one behind them, which leads to the first and comes after the last
pub record AreRingLinks (room len : ℕ) (nexts befores order : List ℕ) : Type 0 where
  pub few : room ≤ 8192
  pub cells_on : length nexts ≡ room + 1
  pub cells_back : length befores ≡ room + 1
  pub long : length order ≡ len
  pub ring : IsRing room order
  pub linked : AreLinked nexts befores room order room
