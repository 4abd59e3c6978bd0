use Rattle.std.proofs.Common.{◌≡◌, ℕ, All, take}
use Rattle.conditioned_bounds.specs.Numbers.{line_numbers_at, HasRoomFor}
use Rattle.conditioned_bounds.proofs.numbers.make_room.Given as goal

-- the numbers stay, and there is room under the codes so far
abbrev pub invariant-loop-code : goal.invariant-loop-code
invariant-loop-code l = record {
  same : (code : ℕ) → line_numbers_at l.kept code ≡ line_numbers_at l.initial.kept code;
  room : All (HasRoomFor l.kept) (take l.code-index l.codes);
}
