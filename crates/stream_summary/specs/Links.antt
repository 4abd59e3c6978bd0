-- Cells that lead to each other, which no public contract cites.
use Rattle.std.specs.Prelude.{ℕ, ◌≡◌, List, [], ◌∷◌, map, slice_index, zero, suc}
use Rattle.stream_summary.specs.declared.links.Link.{Link}

-- the cell that follows each cell
abbrev pub nexts : List Link → List ℕ
nexts links = map (λ link. link.next) links

-- the cell before each cell
abbrev pub befores : List Link → List ℕ
befores links = map (λ link. link.before) links

-- the cells that this many steps from a cell lead to
abbrev pub walked : ℕ → List ℕ → ℕ → List ℕ
walked zero nexts cell = []
walked (suc steps) nexts cell = slice_index nexts cell ∷ walked steps nexts (slice_index nexts cell)

-- the cells lead from one through these to another, and back the same way
abbrev pub AreLinked : List ℕ → List ℕ → ℕ → List ℕ → ℕ → Type 0
AreLinked nexts befores from [] to = (slice_index nexts from ≡ to) × (slice_index befores to ≡ from)
AreLinked nexts befores from (cell ∷ rest) to =
    (slice_index nexts from ≡ cell) × (slice_index befores cell ≡ from) × AreLinked nexts befores cell rest to
