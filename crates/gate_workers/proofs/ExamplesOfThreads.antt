-- Worked examples of plans, of rounds, and of what threads bring back.
use Rattle.std.proofs.Common.{◌≡◌, ◌≤◌, [], ◌∷◌, ℕ, zero, suc, length}
use Rattle.std.proofs.Common.{refl, sym, ap, ◌∙◌, arith}
use Rattle.prefix_lattice.specs.{RecordValue}
use Rattle.prefix_lattice.specs.{grain_bits}
use Rattle.prefix_lattice.specs.declared.grain.Grain.TheVariants.{Byte, Nibble}
use Rattle.shard_state.specs.{TableShape, empty_snapshot}
use Rattle.position_words.specs.declared.view.Trail.{Trail}
use Rattle.position_words.specs.declared.view.View.{View}
use Rattle.pass_tokens.specs.{WordsValue, first_view, newcomer_view, after_join}
use Rattle.hhh_report.specs.declared.report.Report.{Report}
use Rattle.gate_workers.specs.Calling.{IsCoreReport}
use Rattle.gate_workers.specs.Feeding.{HasSeenEnds}
use Rattle.gate_workers.specs.Running.{AreSoundReports, MakesRounds, HasFed}
use Rattle.gate_workers.specs.Running.{EachByNumber, after_splits}
use Rattle.gate_workers.specs.Plan.{IsPlanFor}
use Rattle.gate_workers.specs.LaterView.{IsLaterTrail, IsLaterView, StaysReady}
use Rattle.gate_workers.specs.declared.plan.ThreadPlan.{ThreadPlan}
use Rattle.gate_workers.proofs.Examples.{four, shards, first, trail}

-- two workers and a caller with one round, at half of the total and capacity 4
abbrev plan : ThreadPlan
plan = record { grain = Byte; workers = 2; callers = 1; rounds = 1; block = 1; phi = 500000; capacity = 4 }

pub plan_for_the_shards : IsPlanFor shards plan
plan_for_the_shards = record {
  some_workers = omega arith;
  some_block = omega arith;
  some_share = omega arith;
  at_most_whole = omega arith;
  wide = omega arith;
  some_entries = omega arith;
  few_entries = omega arith;
  of_grain = omega arith;
  alike = refl;
}

-- nobody would feed
pub plan_without_a_worker : IsPlanFor shards (record plan { workers = 0 }) → ⊥
plan_without_a_worker is = let some : 1 ≤ 0 = is.some_workers in omega (arith, some)

pub plan_of_another_capacity : IsPlanFor shards (record plan { capacity = 8 }) → ⊥
plan_of_another_capacity is =
    let capacities : 8 ≡ 4 = ap (λ (s : TableShape). s.capacity) is.alike in omega (arith, capacities)

pub plan_of_another_grain : IsPlanFor shards (record plan { grain = Nibble }) → ⊥
plan_of_another_grain is =
    let bits : 4 ≡ 8 = ap (λ (s : TableShape). grain_bits s.grain) is.alike in omega (arith, bits)

-- a trail that has seen more is later
pub a_position_further_on : IsLaterTrail (trail 1) (trail 2)
a_position_further_on = record { same = refl; later = omega arith }

-- but a read is a step, and an earlier position isn't later
pub a_read_is_a_step : IsLaterTrail (trail 1) (record (trail 1) { reads = 1 ∷ [] }) → ⊥
a_read_is_a_step later = cc (ap (λ (t : Trail). t.reads) later.same)

pub nothing_falls : IsLaterTrail (trail 1) (trail 0) → ⊥
nothing_falls is = let later : 1 ≤ 0 = is.later in omega (arith, later)

-- a view of no shard after a split
abbrev none : View
none = first_view []

pub a_split_is_later : IsLaterView none (after_splits 1 none)
a_split_is_later = record {
  same = refl;
  splits = omega arith;
  as_many = refl;
  trails = λ shard before now is. cc is;
}

pub a_join_is_no_later_view : IsLaterView none (after_join none none) → ⊥
a_join_is_no_later_view later = cc (ap (λ (v : View). v.joins) later.same)

-- a condition on the board alone still holds in later views
pub nothing_stays_ready : StaysReady (λ (board : WordsValue) (view : View). length board.opening ≡ 2)
nothing_stays_ready board before now later ready = ready

-- a condition that no pass was split off need not
pub no_split_does_not_stay : (board : WordsValue) → StaysReady (λ board (view : View). view.splits ≡ 0) → ⊥
no_split_does_not_stay board stays = cc (stays board none (after_splits 1 none) a_split_is_later refl)

pub three_passes_were_split_off : (after_splits 3 first).splits ≡ 3
three_passes_were_split_off = refl

-- the view of the pass that was split off after two others tells which it is
pub third_pass_is_told : (newcomer_view (after_splits 2 first)).lineage ≡ 2 ∷ []
third_pass_is_told = refl

-- two threads with their numbers, and the same two exchanged
abbrev HasItsNumber : ℕ → ℕ → Type 0
HasItsNumber number thread = thread ≡ number

pub threads_in_order : EachByNumber HasItsNumber (0 ∷ 1 ∷ [])
threads_in_order zero default below = refl
threads_in_order (suc zero) default below = refl
threads_in_order (suc (suc number)) default below = absurd (omega (arith, below))

pub exchanged_threads : EachByNumber HasItsNumber (1 ∷ 0 ∷ []) → ⊥
exchanged_threads each = let one : 1 ≡ 0 = each 0 7 (omega arith) in omega (arith, one)

-- a worker of no shard has nothing to feed
pub worker_of_no_shard : HasFed [] 1 none (newcomer_view none) → HasSeenEnds [] (newcomer_view none)
worker_of_no_shard fed = fed.ends

-- a view in which the end of a list wasn't seen is not that of a worker at its end
pub worker_that_stops_early : HasFed shards 1 first first → ⊥
worker_that_stops_early fed =
    let end : 2 ≤ 0 = fed.ends 0 (record {
      list = x ∷ x ∷ [];
      base = empty_snapshot four;
      position = 0;
    }) refl in
    omega (arith, end)
  where
    x : RecordValue
    x = record { src = 0x01000001; dst = 0x65000001; weight = 1 }

-- rounds that change nothing, made once after three splits
pub idle_rounds : MakesRounds (λ before now. before ≡ now) 3 first
idle_rounds = record { now = after_splits 3 first; does = refl }

-- they were not made before the splits
pub rounds_begin_after_the_splits : MakesRounds (λ before now. before.splits ≡ 0) 3 first → ⊥
rounds_begin_after_the_splits goes = cc goes.does

pub no_report_is_sound : AreSoundReports shards 500000 []
no_report_is_sound place default below = absurd (omega (arith, below))

-- a report with a position for one of two shards
pub report_with_a_position_missing : (report : Report) → length report.positions ≡ 1
    → IsCoreReport shards 500000 report → ⊥
report_with_a_position_missing report one at = cc (sym one ∙ at.as_many)
