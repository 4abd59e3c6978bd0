-- What the program leaves on standard error of how a command ended.
use Rattle.std.specs.Prelude.{ℕ, ◌≡◌, List, [], Option}
use Rattle.outside_io.specs.{AppendsFront}

-- of this line a beginning was appended to a stream, and nothing where the exit status is 0
pub record TellsEnding (old new : Option (List ℕ)) (number : ℕ) (line : List ℕ) : Type 0 where
  pub told : AppendsFront old new line
  pub silent : number ≡ 0 → told.front ≡ []
