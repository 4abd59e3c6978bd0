-- The pure core: what folds and reads of shards change, and the reads in a run of events.
use Rattle.std.specs.Prelude.{ℕ, ◌≡◌, ◌<◌, ◌≤◌, zero, suc, List, [], ◌∷◌, length, fold, slice_get, slice_set}
use Rattle.std.specs.Prelude.{Option, None, Some, All, ◌==◌, ◌&&◌, if◌then◌else◌, ⊤, ◌++◌, map}
use Rattle.shard_state.specs.Cut.{CutValue}
use Rattle.shard_state.specs.ShardState.{ShardValue, IsShard, folded_shard, snapshot_of, shard_state_at}
use Rattle.shard_state.specs.declared.event.Event.{Event}
use Rattle.shard_state.specs.declared.event.Event.TheVariants.{Fold, Read}
use Rattle.prefix_lattice.specs.{RecordValue, shard_limit, finest_grain}
use Rattle.shard_state.specs.Snapshot.{SnapshotValue, SnapshotRepresents, TableShape}

-- what events act on: the states of the shards, and one cut for each caller
pub record CoreValue : Type 0 where
  pub shards : List ShardValue
  pub cuts : List CutValue

-- a list with the element at one index changed
abbrev pub changed_in : {X : Type 0} → (X → X) → ℕ → List X → List X
changed_in change place [] = []
changed_in change zero (x ∷ xs) = change x ∷ xs
changed_in change (suc place) (x ∷ xs) = x ∷ changed_in change place xs

-- a cut with its snapshot of this shard replaced by that of the state, if there is such a state
abbrev pub with_shard : ℕ → Option ShardValue → CutValue → CutValue
with_shard shard None cut = cut
with_shard shard (Some state) cut = record cut { shards = slice_set cut.shards shard (snapshot_of state) }

-- the core after one event: a fold moves its shard's position, a read puts its shard's snapshot into its caller's cut
abbrev pub core_after : CoreValue → Event → CoreValue
core_after core (Fold shard block) = record core { shards = changed_in (folded_shard block) shard core.shards }
core_after core (Read caller shard) = record core { cuts = changed_in (with_shard shard (slice_get core.shards shard)) caller core.cuts }

-- the core after a run of events
abbrev pub core_after_run : CoreValue → List Event → CoreValue
core_after_run core events = fold core_after core events

-- the shape of the first shard, which is that of all
abbrev pub core_shape : List ShardValue → TableShape
core_shape [] = record { grain = finest_grain; capacity = 0 }
core_shape (first ∷ rest) = first.base.shape

-- 1 to 16 shards of one shape
pub record AreCoreShards (shards : List ShardValue) : Type 0 where
  pub some : 1 ≤ length shards
  pub few : length shards ≤ shard_limit
  pub alike : All (λ shard. shard.base.shape ≡ core_shape shards) shards

-- what always holds of the core: 1 to 16 shards of one shape, each within its limits
pub record IsCore (shards : List ShardValue) : Type 0 where
  pub are_shards : AreCoreShards shards
  pub kept : All IsShard shards

-- a cut of this many shards and of this shape
pub record HasCoreShape (shards : ℕ) (shape : TableShape) (cut : CutValue) : Type 0 where
  pub as_many : length cut.shards ≡ shards
  pub alike : cut.shape ≡ shape

-- an event for this many shards and this many callers
abbrev pub IsCoreEvent : ℕ → ℕ → Event → Type 0
IsCoreEvent shards callers (Fold shard block) = (shard < shards) × (1 ≤ block)
IsCoreEvent shards callers (Read caller shard) = (caller < callers) × (shard < shards)

-- a shard of a list has the list and base of this state, at a position from the state's own to the end of its list
pub record ShardMovedOn (shards : List ShardValue) (shard : ℕ) (state : ShardValue) : Type 0 where
  pub position : ℕ
  pub is : slice_get shards shard ≡ Some (shard_state_at position state)
  pub later : state.position ≤ position
  pub within : position ≤ length state.list

-- the position of a shard, if there is that shard
abbrev pub position_in_core : Option ShardValue → List ℕ
position_in_core None = []
position_in_core (Some state) = state.position ∷ []

-- the position that an event meets, if it is a read of this shard by this caller
abbrev pub position_met : ℕ → ℕ → List ShardValue → Event → List ℕ
position_met caller shard shards (Fold at block) = []
position_met caller shard shards (Read by at) = if by == caller && at == shard then position_in_core (slice_get shards shard) else []

-- the positions that a caller's reads of a shard meet in a run of events, in order
abbrev pub reads_of : ℕ → ℕ → CoreValue → List Event → List ℕ
reads_of caller shard core [] = []
reads_of caller shard core (event ∷ rest) = position_met caller shard core.shards event ++ reads_of caller shard (core_after core event) rest

-- the last of some positions
abbrev pub last_core_read : List ℕ → Option ℕ
last_core_read [] = None
last_core_read (position ∷ []) = Some position
last_core_read (position ∷ next ∷ later) = last_core_read (next ∷ later)

-- the positions are at least this one and never fall
abbrev pub NeverFall : ℕ → List ℕ → Type 0
NeverFall least [] = ⊤
NeverFall least (position ∷ later) = (least ≤ position) × NeverFall position later

-- the snapshot of a shard in a cut after reads that met these positions: that at the last of them, or the earlier one
-- if there were no reads
abbrev pub latest_snapshot : ShardValue → SnapshotValue → List ℕ → SnapshotValue
latest_snapshot state before [] = before
latest_snapshot state before (position ∷ later) = latest_snapshot state (snapshot_of (shard_state_at position state)) later

-- the snapshot of a shard in a cut, if there is that cut and that shard
abbrev pub shard_in_cut : ℕ → Option CutValue → Option SnapshotValue
shard_in_cut shard None = None
shard_in_cut shard (Some cut) = slice_get cut.shards shard

-- the snapshot of a shard in a caller's cut
abbrev pub snapshot_in : ℕ → ℕ → List CutValue → Option SnapshotValue
snapshot_in caller shard cuts = shard_in_cut shard (slice_get cuts caller)

-- the lists of shards
abbrev pub core_lists : List ShardValue → List (List RecordValue)
core_lists shards = map (λ shard. shard.list) shards

-- the base of each shard represents its list
abbrev pub BasesRepresent : List ShardValue → Type 0
BasesRepresent shards = All (λ shard. SnapshotRepresents shard.base shard.list) shards

-- in a run of events a caller reads each of these shards at least once
abbrev pub ReadsEachShard : ℕ → CoreValue → List Event → Type 0
ReadsEachShard caller core events = (shard : ℕ) → shard < length core.shards → 1 ≤ length (reads_of caller shard core events)
