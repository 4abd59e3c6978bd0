-- What a view has seen after its steps.
use Rattle.std.proofs.Common.{◌≡◌, ℕ, zero, suc, ◌*◌, ◌/◌, ◌≤◌, List, [], ◌∷◌, map, length, refl, ap, arith}
use Rattle.std.specs.Prelude.{slice_index}
use Rattle.std.proofs.Math.Nat.{max-le}
use Rattle.shard_state.specs.{ShardValue, changed_in}
use Rattle.position_words.specs.declared.view.Trail.{Trail}
use Rattle.position_words.specs.View.{trail_from, joined_trails}

pub length_of_changed_trails : {X : Type 0} (change : X → X) (place : ℕ) (xs : List X)
    → length (changed_in change place xs) ≡ length xs
length_of_changed_trails change place [] = refl
length_of_changed_trails change zero (x ∷ xs) = refl
length_of_changed_trails change (suc place) (x ∷ xs) = ap suc (length_of_changed_trails change place xs)

pub length_of_joined_trails : (trails others : List Trail) → length (joined_trails trails others) ≡ length trails
length_of_joined_trails [] others = refl
length_of_joined_trails (trail ∷ rest) [] = refl
length_of_joined_trails (trail ∷ rest) (other ∷ others) = ap suc (length_of_joined_trails rest others)

-- the positions that trails have seen
abbrev pub trail_positions : List Trail → List ℕ
trail_positions trails = map (λ trail. trail.seen) trails

-- after a step that sees a position within its bound, all positions that were seen are still within their bounds
pub changed_trails_stay_below : (change : Trail → Trail) (position place : ℕ) (trails : List Trail) (bound : ℕ → ℕ)
    → ((trail : Trail) → (change trail).seen ≡ position)
    → position ≤ bound place → ((shard : ℕ) → slice_index (trail_positions trails) shard ≤ bound shard)
    → (shard : ℕ) → slice_index (trail_positions (changed_in change place trails)) shard ≤ bound shard
changed_trails_stay_below change position place [] bound sees within before shard = before shard
changed_trails_stay_below change position zero (trail ∷ rest) bound sees within before zero = omega (arith, sees trail, within)
changed_trails_stay_below change position zero (trail ∷ rest) bound sees within before (suc shard) = before (suc shard)
changed_trails_stay_below change position (suc place) (trail ∷ rest) bound sees within before zero = before zero
changed_trails_stay_below change position (suc place) (trail ∷ rest) bound sees within before (suc shard) =
    changed_trails_stay_below change position place rest (λ k. bound (suc k)) sees within (λ k. before (suc k)) shard

-- a new seat has seen the same
pub trail_positions-newcomer : (trails : List Trail) → trail_positions (map (λ trail. trail_from trail.seen) trails) ≡ trail_positions trails
trail_positions-newcomer [] = refl
trail_positions-newcomer (trail ∷ rest) = ap (λ seen. trail.seen ∷ seen) (trail_positions-newcomer rest)

-- what both have seen is within the bounds if what each has seen is
pub joined_trails_stay_below : (trails others : List Trail) (bound : ℕ → ℕ)
    → ((shard : ℕ) → slice_index (trail_positions trails) shard ≤ bound shard)
    → ((shard : ℕ) → slice_index (trail_positions others) shard ≤ bound shard) → (shard : ℕ)
    → slice_index (trail_positions (joined_trails trails others)) shard ≤ bound shard
joined_trails_stay_below [] others bound mine theirs shard = mine shard
joined_trails_stay_below (trail ∷ rest) [] bound mine theirs shard = mine shard
joined_trails_stay_below (trail ∷ rest) (other ∷ others) bound mine theirs zero = max-le (mine zero) (theirs zero)
joined_trails_stay_below (trail ∷ rest) (other ∷ others) bound mine theirs (suc shard) =
    joined_trails_stay_below rest others (λ k. bound (suc k)) (λ k. mine (suc k)) (λ k. theirs (suc k)) shard

-- the first seat has seen the positions of the first words
pub first_trails_have_positions : (shards : List ShardValue) (shard : ℕ)
    → slice_index (trail_positions (map (λ s. trail_from s.position) shards)) shard
    ≤ slice_index (map (λ (s : ShardValue). 2 * s.position) shards) shard / 2
first_trails_have_positions [] shard = omega arith
first_trails_have_positions (s ∷ rest) zero = omega arith
first_trails_have_positions (s ∷ rest) (suc shard) = first_trails_have_positions rest shard
