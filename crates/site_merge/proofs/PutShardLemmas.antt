-- Shards that are put in the place of others.
use Rattle.std.proofs.Common.{◌≡◌, ◌∙◌, ℕ, suc, ◌+◌, ◌-◌, ◌<◌, List, [], ◌∷◌, ◌++◌, length, take, drop, get_or, sym, ap, arith}
use Rattle.std.proofs.Common.{append_assoc, length-append}
use Rattle.std.proofs.Math.ListN.{set}
use Rattle.std.proofs.Math.Seq.{drop-cons, set-append_seam}
use Rattle.std.proofs.lemmas.List.{length-take-le, set-append_right}

-- where the first of a list from some place on are others, the next one is put by setting its place
pub put_shard_more : {X : Type 0} (old put : List X) (first : ℕ) (x : X) → first + length put < length old
    → set (take first old ++ (put ++ drop (first + length put) old)) (first + length put) x
    ≡ take first old ++ ((put ++ x ∷ []) ++ drop (first + length (put ++ x ∷ [])) old)
put_shard_more {X = X} old put first x within =
    let place = first + length put in
    let front = take first old in
    let rest = drop place old in
    let later = drop (suc place) old in
    let split : rest ≡ get_or old place x ∷ later = drop-cons old place x within in
    let long : length front ≡ first = length-take-le first old (omega (arith, within)) in
    let moved : set (front ++ (put ++ rest)) place x ≡ front ++ set (put ++ rest) (place - first) x =
    set-append_right front (put ++ rest) first place x long (omega arith) in
    let at : place - first ≡ length put = omega arith in
    let seam : set (put ++ rest) (length put) x ≡ put ++ x ∷ later =
    ap (λ (d : List X). set (put ++ d) (length put) x) split ∙ set-append_seam put (get_or old place x) later x in
    let count : suc place ≡ first + length (put ++ x ∷ []) = omega (arith, length-append put (x ∷ [])) in
    moved ∙ ap (λ (n : ℕ). front ++ set (put ++ rest) n x) at ∙ ap (λ (l : List X). front ++ l) seam
    ∙ ap (λ (l : List X). front ++ l) (sym (append_assoc put (x ∷ []) later))
    ∙ ap (λ (n : ℕ). front ++ ((put ++ x ∷ []) ++ drop n old)) count
