-- Worked examples of the filter of keys, by computing.
use Rattle.std.proofs.Common.{◌≡◌, true, false, [], ◌∷◌, refl}
use Rattle.std.proofs.lemmas.Bool.{false≢true}
use Rattle.cut_merge.specs.SeenHomes.{SeesKey, is_seen, seen_home}

-- key 1 has its home at the golden ratio, 0.618, of all homes
pub home_of_key_1_among_1000 : seen_home 1000 1 ≡ 618
home_of_key_1_among_1000 = refl

pub home_of_key_0_is_the_first : seen_home 1000 0 ≡ 0
home_of_key_0_is_the_first = refl

-- the second of two homes is that of key 1, and the first that of keys 0 and 2
pub key_1_is_seen : is_seen (false ∷ true ∷ []) 1 ≡ true
key_1_is_seen = refl

pub key_0_is_not_seen : is_seen (false ∷ true ∷ []) 0 ≡ false
key_0_is_not_seen = refl

pub keys_of_one_home_are_seen_together : is_seen (true ∷ false ∷ []) 2 ≡ true
keys_of_one_home_are_seen_together = refl

-- a key that was seen may not be forgotten
pub a_key_is_not_forgotten : ¬ SeesKey (true ∷ false ∷ []) (false ∷ true ∷ []) 1
a_key_is_not_forgotten sees = false≢true (sees.kept 0 refl)
