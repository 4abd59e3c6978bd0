-- Options that are present.
use Rattle.std.proofs.Common.{◌≡◌, Option, Some, None, true, refl}
use Rattle.std.specs.Prelude.{is_some}

pub option_is_some : {X : Type 0} (found : Option X) → is_some found ≡ true → (x : X) × (found ≡ Some x)
option_is_some {X} None is = absurd (cc is)
option_is_some {X} (Some x) is = (x, refl)
