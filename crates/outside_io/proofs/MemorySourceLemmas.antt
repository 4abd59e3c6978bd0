-- What a call gives of the remaining bytes of a source in memory.
use Rattle.std.proofs.Common.{◌≡◌, ℕ, ◌<◌, ◌≤◌, List, [], ◌++◌, length, take, drop, min, sym, ap, ◌∙◌, arith}
use Rattle.std.proofs.Common.{length-take-le, take-append-drop}
use Rattle.std.proofs.lemmas.List.{take_at}
use Rattle.std.proofs.Math.ListN.{drop_of_length-le}

-- the remaining bytes before a call are those that it put in the caller's buffer, then those that remain after it
pub memory_source_given_and_left : (left room filled after : List ℕ) (count : ℕ) → count ≤ length left
    → filled ≡ take count left ++ drop count room → after ≡ drop count left → left ≡ take count filled ++ after
memory_source_given_and_left left room filled after count fits is_filled is_after =
    let front : take count (take count left ++ drop count room) ≡ take count left =
    take_at (take count left) (drop count room) count (length-take-le count left fits) in
    sym (ap (λ l. take count l ++ after) is_filled ∙ ap (λ l. l ++ after) front
    ∙ ap (λ l. take count left ++ l) is_after ∙ take-append-drop count left)

-- after a call with room that gives no byte, no byte remains
pub memory_source_none_at_end : (left after : List ℕ) (step room count : ℕ) → 1 ≤ step → 0 < room
    → count ≡ min (min step room) (length left) → count ≡ 0 → after ≡ drop count left → after ≡ []
memory_source_none_at_end left after step room count has_step has_room is_count none is_after =
    is_after ∙ drop_of_length-le left (omega arith)
