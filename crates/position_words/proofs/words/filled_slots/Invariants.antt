use Rattle.std.proofs.Common.{◌≡◌, map, Some, ◌++◌}
use Rattle.position_words.proofs.words.filled_slots.Given as goal

-- the slots so far have the states so far, and the rest follows
abbrev pub invariant-loop-state : goal.invariant-loop-state
invariant-loop-state l = l.slots.items ++ map Some l.state-iterator.rest.items ≡ map Some l.fn.states.items
