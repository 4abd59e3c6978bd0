use Rattle.std.proofs.Common.{ℕ, ◌<◌, ◌≤◌, List, length}
use Rattle.key_index.specs.Chains.{AreChains}
use Rattle.key_index.proofs.WalkLemmas.{WalkCounts}
use Rattle.key_index.proofs.chains.is_full_walk.Given as goal

abbrev pub invariant-loop-step : goal.invariant-loop-step
invariant-loop-step l = record {
  within : l.cell < length l.links;
  walk : (room : ℕ) (backs : List ℕ) (rank home : ℕ → ℕ) → AreChains room l.links backs rank home → room ≤ l.head
      → WalkCounts room backs rank l.head l.cell l._step;
}
