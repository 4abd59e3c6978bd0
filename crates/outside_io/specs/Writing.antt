-- Fronts of lists, and the front of a text that was appended to a stream.
use Rattle.std.specs.Prelude.{ℕ, ◌≡◌, ◌<◌, List, ◌++◌, length, Option}
use Rattle.std.specs.Io.KnownBytes.{Appends}

-- the front begins the whole list: it is empty, a part of the list, or all of it
abbrev pub IsBeginning : {X : Type 0} → List X → List X → Type 0
IsBeginning {X} front whole = (rest : List X) × (whole ≡ front ++ rest)

-- the known bytes grew by a beginning of the text: by nothing, a part or all of it
pub record AppendsFront (old new : Option (List ℕ)) (text : List ℕ) : Type 0 where
  pub front : List ℕ
  pub is_beginning : IsBeginning front text
  pub appended : Appends old new front

-- the known bytes grew by a strict prefix of the text
pub record AppendsPart (old new : Option (List ℕ)) (text : List ℕ) : Type 0 where
  pub front : List ℕ
  pub is_beginning : IsBeginning front text
  pub cut : length front < length text
  pub appended : Appends old new front
