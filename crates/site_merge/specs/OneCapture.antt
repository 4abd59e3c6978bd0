-- Which sites counted one capture.
use Rattle.std.specs.Prelude.{ℕ, ◌≡◌, ◌-◌, ◌<◌, ◌≤◌, List, slice_get, Option, Some}
use Rattle.shard_state.specs.{total_of_cut}
use Rattle.checkpoint.specs.{SavedValue}

-- the store of the site with this number, from 1, reads as this, which counted some weight
pub record HasCounted (sites : List (Option SavedValue)) (site : ℕ) (saved : SavedValue) : Type 0 where
  pub numbered : 1 ≤ site
  pub read : slice_get sites (site - 1) ≡ Some (Some saved)
  pub weighs : 1 ≤ total_of_cut saved.cut

-- the stores of two sites counted the records of one capture, as their digests say
pub record AreOfOneCapture (sites : List (Option SavedValue)) (first second : ℕ) : Type 0 where
  pub one : SavedValue
  pub other : SavedValue
  pub rising : first < second
  pub first_counted : HasCounted sites first one
  pub second_counted : HasCounted sites second other
  pub same : one.digest ≡ other.digest

-- these two are the first of all such pairs, by their first number and then by their second one
pub record AreFirstOfOneCapture (sites : List (Option SavedValue)) (first second : ℕ) : Type 0 where
  pub pair : AreOfOneCapture sites first second
  pub least_first : (one other : ℕ) → AreOfOneCapture sites one other → first ≤ one
  pub least_second : (other : ℕ) → AreOfOneCapture sites first other → second ≤ other

-- no two sites counted one capture
abbrev pub AreOfOtherCaptures : List (Option SavedValue) → Type 0
AreOfOtherCaptures sites = (first second : ℕ) → AreOfOneCapture sites first second → ⊥
