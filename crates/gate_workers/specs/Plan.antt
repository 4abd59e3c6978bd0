-- What a plan of threads may ask for.
use Rattle.std.specs.Prelude.{◌≡◌, ◌≤◌, List}
use Rattle.shard_state.specs.{ShardValue, TableShape, core_shape, least_capacity, most_capacity, most_grain_capacity}
use Rattle.hhh_report.specs.{million}
use Rattle.hhh_output.specs.{IsWideShare}
use Rattle.gate_workers.specs.declared.plan.ThreadPlan.{ThreadPlan}

-- the shape of the tables of a plan
abbrev pub plan_shape : ThreadPlan → TableShape
plan_shape plan = record { grain = plan.grain; capacity = plan.capacity }

-- a plan for a board: it has a worker, and the grain and the capacity of the board's tables. The capacity is 2 to 4096, no
-- more than the grain allows, and can't hide a prefix of the plan's share
pub record IsPlanFor (opening : List ShardValue) (plan : ThreadPlan) : Type 0 where
  pub some_workers : 1 ≤ plan.workers
  pub some_block : 1 ≤ plan.block
  pub some_share : 1 ≤ plan.phi
  pub at_most_whole : plan.phi ≤ million
  pub wide : IsWideShare plan.phi plan.capacity
  pub some_entries : least_capacity ≤ plan.capacity
  pub few_entries : plan.capacity ≤ most_capacity
  pub of_grain : plan.capacity ≤ most_grain_capacity plan.grain
  pub alike : plan_shape plan ≡ core_shape opening
