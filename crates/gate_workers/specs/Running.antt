-- What the threads of a plan do, and what comes back.
use Rattle.std.specs.Prelude.{ℕ, ◌≡◌, ◌+◌, ◌<◌, List, length, fold, Ok, All, IfOk, slice_index_or}
use Rattle.shard_state.specs.{BasesRepresent, HasCoreShape, ShardValue, core_shape, core_lists}
use Rattle.position_words.specs.declared.view.View.{View}
use Rattle.pass_tokens.specs.{IsPassOf, SeatValue, WordsValue, after_join, newcomer_view, view}
use Rattle.hhh_report.specs.{IsSound}
use Rattle.hhh_report.specs.declared.reports.Reported.{Reported}
use Rattle.gate_workers.specs.Feeding.{Feeds, HasSeenEnds}
use Rattle.gate_workers.specs.Calling.{Calls}
use Rattle.gate_workers.specs.declared.callers.Caller.{Caller}
use Rattle.gate_workers.specs.declared.plan.ThreadPlan.{ThreadPlan}
use Rattle.gate_workers.specs.declared.gathered.Called.{Called}
use Rattle.gate_workers.specs.declared.gathered.Gathered.{Gathered}

-- a view after passes were split off
abbrev pub after_splits : ℕ → View → View
after_splits count view = record view { splits = view.splits + count }

-- each element of a list has P for its number, from 0
abbrev pub EachByNumber : {X : Type 0} → (ℕ → X → Type 0) → List X → Type 0
EachByNumber {X} P threads = (number : ℕ) (default : X) → number < length threads → P number (slice_index_or threads number default)

-- a worker at its end: its pass was split off from this view, only fed, and has seen the end of each list
pub record HasFed (opening : List ShardValue) (block : ℕ) (before worker : View) : Type 0 where
  pub feeds : Feeds opening block (newcomer_view before) worker
  pub ends : HasSeenEnds opening worker

-- a caller at its end: its pass was split off from this view, and read what its reports say
abbrev pub HasCalled : List ShardValue → ThreadPlan → View → Called → Type 0
HasCalled opening plan before called =
    Calls opening plan.phi plan.rounds (newcomer_view before) (view called.pass) called.reports

-- each report of a caller is sound
abbrev pub AreSoundReports : List ShardValue → ℕ → List Reported → Type 0
AreSoundReports opening phi reports =
    All (λ reported. IsSound (core_shape opening).grain reported.report (core_lists opening) (core_shape opening).capacity phi) reports

-- the calling thread made its rounds once, after all passes were split off from this view
pub record MakesRounds (relates : View → View → Type 0) (passes : ℕ) (before : View) : Type 0 where
  pub now : View
  pub does : relates (after_splits passes before) now

-- what comes back: the calling thread made its rounds once; each worker fed to the ends by the plan's blocks, and its pass
-- is joined to that of the calling thread; each caller brings back its pass and its reports. All are in the order of splits
pub record BringBack (opening : List ShardValue) (plan : ThreadPlan) (relates : View → View → Type 0) (before : View)
    (gathered : Gathered) : Type 0 where
  pub rounds : MakesRounds relates (plan.workers + plan.callers) before
  pub workers : List View
  pub as_many_workers : length workers ≡ plan.workers
  pub fed : EachByNumber (λ number. HasFed opening plan.block (after_splits number before)) workers
  pub pass : view gathered.pass ≡ fold after_join rounds.now workers
  pub as_many_callers : length gathered.called.items ≡ plan.callers
  pub called : EachByNumber
      (λ number. HasCalled opening plan (after_splits (plan.workers + number) before)) gathered.called.items

-- within the crate: a pass that was split off from this view
pub record IsSplitOff (board : WordsValue) (before : View) (pass : SeatValue) : Type 0 where
  pub of_board : IsPassOf board pass
  pub seen : view pass ≡ newcomer_view before

-- within the crate: a worker's pass before its thread and after it
pub record FeedsToEnds (board : WordsValue) (block : ℕ) (before now : SeatValue) : Type 0 where
  pub pass : IsPassOf board now
  pub feeds : Feeds board.opening block (view before) (view now)
  pub ends : HasSeenEnds board.opening (view now)

-- within the crate: a caller that can make its rounds
pub record CanCall (board : WordsValue) (caller : Caller) : Type 0 where
  pub pass : IsPassOf board caller.pass
  pub shape : HasCoreShape (length board.opening) (core_shape board.opening) caller.cut

-- within the crate: a caller before its thread and after it
pub record Runs (board : WordsValue) (plan : ThreadPlan) (before now : Caller) : Type 0 where
  pub pass : IsPassOf board now.pass
  pub calls : IfOk now.reports (Calls board.opening plan.phi plan.rounds (view before.pass) (view now.pass))
  pub sound : IfOk now.reports (λ reports. BasesRepresent board.opening → AreSoundReports board.opening plan.phi reports)

-- within the crate: a caller whose pass was split off from this view, after its thread
pub record HasEnded (board : WordsValue) (plan : ThreadPlan) (before : View) (caller : Caller) : Type 0 where
  pub pass : IsPassOf board caller.pass
  pub calls : IfOk caller.reports (Calls board.opening plan.phi plan.rounds (newcomer_view before) (view caller.pass))
  pub sound : IfOk caller.reports (λ reports. BasesRepresent board.opening → AreSoundReports board.opening plan.phi reports)

-- within the crate: what a caller that met no error brings back
pub record BringsBack (caller : Caller) (called : Called) : Type 0 where
  pub pass : called.pass ≡ caller.pass
  pub reports : caller.reports ≡ Ok called.reports

-- within the crate: each element of a list before is related to the one after at the same index
abbrev pub EachRelates : {X : Type 0} → (X → X → Type 0) → List X → List X → Type 0
EachRelates {X} relates before now = (place : ℕ) (default : X) → place < length before
    → relates (slice_index_or before place default) (slice_index_or now place default)
