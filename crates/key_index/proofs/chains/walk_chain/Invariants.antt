use Rattle.std.proofs.Common.{ℕ, ◌<◌, List, length, map}
use Rattle.key_index.specs.Chains.{AreChains, HasPassed}
use Rattle.key_index.proofs.chains.walk_chain.Given as goal

abbrev pub invariant-loop-step : goal.invariant-loop-step
invariant-loop-step g l = record {
  within : l.cell < length l.links;
  walk : (room head : ℕ) (backs : List ℕ) (rank home : ℕ → ℕ) → AreChains room l.links backs rank home
      → HasPassed room backs (map g.T.Keyed.key_of l.slots) rank home l.key head l.second 2
      → HasPassed room backs (map g.T.Keyed.key_of l.slots) rank home l.key head l.cell l._step;
}
