-- What was read of a source.
use Rattle.std.specs.Prelude.{ℕ, List, Option}
use Rattle.std.specs.Io.KnownBytes.{Consumes}

-- a front of the known bytes of a source was read, which may be empty or all of them, and the others remain
abbrev pub ReadsFront : Option (List ℕ) → Option (List ℕ) → Type 0
ReadsFront old new = (front : List ℕ) × Consumes old new front
