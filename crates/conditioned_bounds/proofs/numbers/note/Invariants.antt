use Rattle.std.proofs.Common.{◌≡◌, ℕ, ◌<◌, ◌≤◌, eqb, [], ◌∷◌, ◌++◌, take, get_or, length, if◌then◌else◌}
use Rattle.std.specs.List.{list_any}
use Rattle.conditioned_bounds.specs.Numbers.{line_numbers_at, HasRoomFor}
use Rattle.conditioned_bounds.proofs.numbers.note.Given as goal

-- the number is noted under the codes so far, and there is room under the others
abbrev pub invariant-loop-code : goal.invariant-loop-code
invariant-loop-code l = record {
  noted : (code : ℕ) → line_numbers_at l.kept code
      ≡ (if list_any (λ other. eqb other code) (take l.code-index l.codes)
      then line_numbers_at l.initial.kept code ++ l.number ∷ [] else line_numbers_at l.initial.kept code);
  room : (k d : ℕ) → l.code-index ≤ k → k < length l.codes → HasRoomFor l.kept (get_or l.codes k d);
}
