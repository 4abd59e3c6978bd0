use Rattle.std.proofs.Common.{◌≡◌, ◌*◌, map, take}
use Rattle.position_words.proofs.words.starting_words.Given as goal

-- the words so far are those of the states so far
abbrev pub invariant-loop-state : goal.invariant-loop-state
invariant-loop-state l = l.words.items ≡ map (λ state. 2 * state.position) (take l.state-index l.states)
