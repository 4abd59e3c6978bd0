-- When a command line is one of `sites`.
use Rattle.std.specs.Prelude.{◌≡◌, ℕ, List, ◌∷◌, codes}

-- the first word is the name of the command
abbrev pub AreForSites : List (List ℕ) → Type 0
AreForSites words = (behind : List (List ℕ)) × (words ≡ codes "sites" ∷ behind)
