-- What reading the first bytes of a source returns, which no public contract cites.
use Rattle.std.specs.Prelude.{ℕ, ◌<◌, List, length, Option}
use Rattle.std.specs.Io.KnownBytes.{Consumes}

-- fewer bytes than this many were read, and the others remain
pub record ReadsFewer (many : ℕ) (left now : Option (List ℕ)) : Type 0 where
  pub read : List ℕ
  pub consumed : Consumes left now read
  pub few : length read < many
