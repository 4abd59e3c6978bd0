-- The widths that a line may be short of the threshold by.
use Rattle.std.specs.Prelude.{ℕ, ◌+◌, List, length}
use Rattle.prefix_lattice.specs.{PrefixValue, closest, kept_pairs}

-- how many intervals a line is judged by: its own, those of its closest lines and of the meets of their kept pairs
abbrev pub widths_of : PrefixValue → List PrefixValue → ℕ
widths_of prefix lines = 1 + length (closest prefix lines) + length (kept_pairs (closest prefix lines))
