-- Positions: how many records of each shard are counted.
use Rattle.std.specs.Prelude.{ℕ, ◌≤◌, List, [], ◌∷◌, ◌++◌, take}
use Rattle.std.specs.List.{AllZip}
use Rattle.prefix_lattice.specs.{RecordValue}

-- positions that aren't past others, shard by shard
abbrev pub AreNotPast : List ℕ → List ℕ → Type 0
AreNotPast earlier later = AllZip (λ one other. one ≤ other) earlier later

-- the records before positions: the first n records of each list, n being its position, one list after another
abbrev pub records_before : List (List RecordValue) → List ℕ → List RecordValue
records_before [] positions = []
records_before (list ∷ lists) [] = []
records_before (list ∷ lists) (position ∷ positions) = take position list ++ records_before lists positions
