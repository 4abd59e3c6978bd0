-- Worked examples of events, and of what reads leave.
use Rattle.std.proofs.Common.{◌≡◌, zero, suc, ◌+◌, List, [], ◌∷◌, None, Some, refl, arith, ◌*◌}
use Rattle.std.proofs.lemmas.List.Elements.{All-from_recursion}
use Rattle.shard_state.specs.Snapshot.{empty_snapshot, SnapshotRepresents}
use Rattle.shard_state.specs.Cut.{empty_cut, most_snapshots}
use Rattle.shard_state.specs.ShardState.{ShardValue, IsShard, folded_shard, snapshot_of}
use Rattle.shard_state.specs.ShardCore.{CoreValue, changed_in, with_shard, core_after, core_after_run}
use Rattle.shard_state.specs.ShardCore.{core_shape, AreCoreShards, IsCore}
use Rattle.shard_state.specs.ShardCore.{HasCoreShape, IsCoreEvent, position_in_core, position_met}
use Rattle.shard_state.specs.ShardCore.{reads_of, last_core_read, NeverFall}
use Rattle.shard_state.specs.ShardCore.{latest_snapshot, shard_in_cut, snapshot_in, core_lists}
use Rattle.shard_state.specs.ShardCore.{BasesRepresent, ReadsEachShard}
use Rattle.shard_state.specs.declared.event.Event.{Event}
use Rattle.shard_state.specs.declared.event.Event.TheVariants.{Fold, Read}
use Rattle.shard_state.proofs.RepresentationLemmas.{representation_when_empty}
use Rattle.shard_state.proofs.Examples.{first, shard, begun_shard, four}
use Rattle.prefix_lattice.specs.{shard_limit}

pub second_changed : changed_in (λ n. n + 10) 1 (1 ∷ 2 ∷ 3 ∷ []) ≡ 1 ∷ 12 ∷ 3 ∷ []
second_changed = refl

pub nothing_changed_past_the_end : changed_in (λ n. n + 10) 3 (1 ∷ 2 ∷ 3 ∷ []) ≡ 1 ∷ 2 ∷ 3 ∷ []
nothing_changed_past_the_end = refl

-- one shard of six packets, and the cuts of two callers
abbrev core : CoreValue
core = record { shards = shard ∷ []; cuts = empty_cut 1 four ∷ empty_cut 1 four ∷ [] }

pub read_puts_its_snapshot : with_shard 0 (Some (folded_shard 4 shard)) (empty_cut 1 four) ≡ record {
  shape = four;
  shards = snapshot_of (folded_shard 4 shard)
      ∷ [];
}
read_puts_its_snapshot = refl

pub read_of_no_shard : with_shard 1 None (empty_cut 1 four) ≡ empty_cut 1 four
read_of_no_shard = refl

-- a fold moves its shard, and changes no cut
pub fold_moves : core_after core (Fold 0 4) ≡ record core { shards = folded_shard 4 shard ∷ [] }
fold_moves = refl

-- a read changes only its caller's cut
pub read_leaves : core_after (record core { shards = folded_shard 4 shard ∷ [] }) (Read 1 0)
    ≡ record { shards = folded_shard 4 shard ∷ []; cuts = empty_cut 1 four ∷ record { shape = four; shards = snapshot_of (folded_shard 4 shard) ∷ [] } ∷ [] }
read_leaves = refl

-- the first caller reads between two folds and after them, the other only after them
abbrev events : List Event
events = Fold 0 4 ∷ Read 0 0 ∷ Fold 0 4 ∷ Read 1 0 ∷ Read 0 0 ∷ []

pub run_leaves : core_after_run core events ≡ record {
  shards = folded_shard 4 (folded_shard 4 shard) ∷ [];
  cuts = record { shape = four; shards = snapshot_of (folded_shard 9 shard) ∷ [] } ∷ record {
    shape = four;
    shards = snapshot_of (folded_shard 9 shard) ∷
        [];
  } ∷ [];
}
run_leaves = refl

pub shape_of_the_core : core_shape core.shards ≡ four
shape_of_the_core = refl

pub one_shard_is_some : AreCoreShards core.shards
one_shard_is_some = record {
  some = omega arith;
  few = omega arith;
  alike = All-from_recursion (λ (s : ShardValue). s.base.shape ≡ four) core.shards (refl, tt);
}

pub core_of_one_shard : IsCore core.shards
core_of_one_shard = record { are_shards = one_shard_is_some; kept = All-from_recursion IsShard core.shards (begun_shard, tt) }

pub core_of_no_shard : IsCore [] → ⊥
core_of_no_shard kept = omega (arith, kept.are_shards.some)

pub cut_for_the_core : HasCoreShape 1 four (empty_cut 1 four)
cut_for_the_core = record { as_many = refl; alike = refl }

pub cut_of_two_shards : HasCoreShape 1 four (empty_cut 2 four) → ⊥
cut_of_two_shards has = omega (arith, has.as_many)

pub fold_for_the_core : IsCoreEvent 1 2 (Fold 0 4)
fold_for_the_core = (omega arith, omega arith)

-- a block has at least one record
pub fold_of_no_record : IsCoreEvent 1 2 (Fold 0 0) → ⊥
fold_of_no_record event = omega (arith, event.1)

pub read_by_a_third_caller : IsCoreEvent 1 2 (Read 2 0) → ⊥
read_by_a_third_caller event = omega (arith, event.0)

pub position_of_a_shard : position_in_core (Some (folded_shard 4 shard)) ≡ 4 ∷ []
position_of_a_shard = refl

pub position_of_no_shard : position_in_core None ≡ []
position_of_no_shard = refl

pub read_meets_its_shard : position_met 0 0 core.shards (Read 0 0) ≡ 0 ∷ []
read_meets_its_shard = refl

pub read_by_another_meets_nothing : position_met 0 0 core.shards (Read 1 0) ≡ []
read_by_another_meets_nothing = refl

pub fold_meets_nothing : position_met 0 0 core.shards (Fold 0 4) ≡ []
fold_meets_nothing = refl

pub reads_meet : reads_of 0 0 core events ≡ 4 ∷ 6 ∷ []
reads_meet = refl

pub another_caller_reads : reads_of 1 0 core events ≡ 6 ∷ []
another_caller_reads = refl

pub last_of_two_reads : last_core_read (reads_of 0 0 core events) ≡ Some 6
last_of_two_reads = refl

pub last_of_no_read : last_core_read [] ≡ None
last_of_no_read = refl

pub reads_never_fall : NeverFall 0 (reads_of 0 0 core events)
reads_never_fall = (omega arith, (omega arith, tt))

pub reads_that_fall : NeverFall 0 (6 ∷ 4 ∷ []) → ⊥
reads_that_fall never = omega (arith, never.1.0)

-- the snapshot at the last read, or the earlier one
pub latest_of_two_reads : latest_snapshot shard (empty_snapshot four) (4 ∷ 6 ∷ []) ≡ snapshot_of (folded_shard 9 shard)
latest_of_two_reads = refl

pub latest_of_no_read : latest_snapshot shard (empty_snapshot four) [] ≡ empty_snapshot four
latest_of_no_read = refl

pub snapshot_of_a_shard : shard_in_cut 0 (Some (empty_cut 1 four)) ≡ Some (empty_snapshot four)
snapshot_of_a_shard = refl

pub snapshot_in_no_cut : shard_in_cut 0 None ≡ None
snapshot_in_no_cut = refl

pub snapshot_of_the_other_caller : snapshot_in 1 0 (core_after_run core events).cuts ≡ Some (snapshot_of (folded_shard 9 shard))
snapshot_of_the_other_caller = refl

pub snapshot_of_a_third_caller : snapshot_in 2 0 core.cuts ≡ None
snapshot_of_a_third_caller = refl

pub one_list : core_lists core.shards ≡ first ∷ []
one_list = refl

-- no record is counted at the start
pub base_stands : BasesRepresent core.shards
base_stands = All-from_recursion (λ (s : ShardValue). SnapshotRepresents s.base s.list) core.shards (representation_when_empty four first, tt)

pub both_callers_read_each : ReadsEachShard 1 core events
both_callers_read_each zero below = omega arith
both_callers_read_each (suc place) below = absurd (omega (arith, below))

pub third_caller_reads_none : ReadsEachShard 2 core events → ⊥
third_caller_reads_none each = let one = each 0 (omega arith) in omega (arith, one)

pub snapshots_of_eight_times_the_shards : most_snapshots ≡ 8 * shard_limit
snapshots_of_eight_times_the_shards = refl
