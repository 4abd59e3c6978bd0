-- The threshold of a report.
use Rattle.std.specs.Prelude.{ℕ, ◌*◌, ◌≤◌}

-- the parts of the whole: `phi` is a share in parts per million
abbrev pub million : ℕ
million = 1000000

-- a weight that is heavy: at least 1, and at least `phi` parts per million of the total
pub record IsHeavy (phi total weight : ℕ) : Type 0 where
  pub some : 1 ≤ weight
  pub share : phi * total ≤ weight * million

-- the least weight that is heavy
pub record IsThreshold (phi total threshold : ℕ) : Type 0 where
  pub heavy : IsHeavy phi total threshold
  pub least : (weight : ℕ) → IsHeavy phi total weight → threshold ≤ weight
