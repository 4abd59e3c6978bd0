-- What a run of events leaves in the callers' cuts.
use Rattle.std.proofs.Common.{◌≡◌, ℕ, ◌<◌, ◌≤◌, suc, true, false, cond, ◌&&◌, eqb, List, [], ◌∷◌, ◌++◌, length}
use Rattle.std.proofs.Common.{slice_get, get_or, Some, option_map, All, refl, sym, ap, ◌∙◌, arith, subst}
use Rattle.std.specs.List.{AllZip}
use Rattle.std.proofs.lemmas.List.{length-map}
use Rattle.std.proofs.lemmas.List.Elements.{All-nil, All-cons, All-head, All-tail, All-get_or}
use Rattle.std.proofs.lemmas.Option.{slice_get-map, slice_get-get_or, slice_get_within, same_Some}
use Rattle.std.proofs.lemmas.Option.{get_or_from_slice_get}
use Rattle.prefix_lattice.specs.{RecordValue, finest_grain}
use Rattle.shard_state.specs.Snapshot.{SnapshotValue, SnapshotRepresents, TableShape}
use Rattle.shard_state.specs.Cut.{CutValue, cut_positions, CutRepresents}
use Rattle.shard_state.specs.ShardState.{ShardValue, IsShard, snapshot_of}
use Rattle.shard_state.specs.ShardCore.{CoreValue, ShardMovedOn, core_after, core_after_run, core_shape}
use Rattle.shard_state.specs.ShardCore.{HasCoreShape, IsCore, position_met, position_in_core}
use Rattle.shard_state.specs.ShardCore.{reads_of, last_core_read, NeverFall, latest_snapshot}
use Rattle.shard_state.specs.ShardCore.{shard_in_cut, snapshot_in, core_lists}
use Rattle.shard_state.specs.ShardCore.{BasesRepresent, ReadsEachShard}
use Rattle.shard_state.specs.declared.event.Event.{Event}
use Rattle.shard_state.specs.declared.event.Event.TheVariants.{Fold, Read}
use Rattle.shard_state.proofs.RepresentationLemmas.{representation_of_shard}
use Rattle.shard_state.proofs.EventLemmas.{event_moves_shard_on, shard_snapshot_after_event, shapes_after_event}
use Rattle.shard_state.proofs.EventLemmas.{shards_as_many_after_event, callers_after_event, shape_after_event}

-- reads may come in parts
latest_snapshot-parts_of_event_run : (state : ShardValue) (before : SnapshotValue) (earlier later : List ℕ)
    → latest_snapshot state before (earlier ++ later) ≡ latest_snapshot state (latest_snapshot state before earlier) later
latest_snapshot-parts_of_event_run state before [] later = refl
latest_snapshot-parts_of_event_run state before (position ∷ earlier) later = latest_snapshot-parts_of_event_run state
    (snapshot_of (record state { position = position }))
    earlier later

-- the position of the shard doesn't matter
latest_snapshot-moved_in_event_run : (state : ShardValue) (position : ℕ) (before : SnapshotValue) (reads : List ℕ)
    → latest_snapshot (record state { position = position }) before reads ≡ latest_snapshot state before reads
latest_snapshot-moved_in_event_run state position before [] = refl
latest_snapshot-moved_in_event_run state position before (met ∷ later) = latest_snapshot-moved_in_event_run state position
    (snapshot_of (record state { position = met })) later

-- a run leaves in each cut what its reads met last
pub latest_snapshot-after_event_run : (events : List Event) (core : CoreValue) (caller shard : ℕ) (state : ShardValue)
    (before : SnapshotValue) → slice_get core.shards shard ≡ Some state
    → state.position ≤ length state.list → snapshot_in caller shard core.cuts ≡ Some before
    → snapshot_in caller shard (core_after_run core events).cuts ≡ Some (latest_snapshot state before (reads_of caller shard core events))
latest_snapshot-after_event_run [] core caller shard state before is within holds = holds
latest_snapshot-after_event_run (event ∷ rest) core caller shard state before is within holds =
    let moved : ShardMovedOn (core_after core event).shards shard state = event_moves_shard_on core event shard state is within in
    let read = position_met caller shard core.shards event in
    let later = reads_of caller shard (core_after core event) rest in
    latest_snapshot-after_event_run rest (core_after core event) caller shard (record state { position = moved.position })
    (latest_snapshot state before read)
    moved.is
    moved.within
    (shard_snapshot_after_event core event caller shard state before is holds)
    ∙ ap Some (latest_snapshot-moved_in_event_run state moved.position (latest_snapshot state before read) later
    ∙ sym (latest_snapshot-parts_of_event_run state before read later))

-- an event meets nothing or the position of the shard
event_in_run_meets_shard : (P : List ℕ → Type 0) (caller shard : ℕ) (shards : List ShardValue) (event : Event) (state : ShardValue)
    → slice_get shards shard ≡ Some state
    → P [] → P (state.position ∷ []) → P (position_met caller shard shards event)
event_in_run_meets_shard P caller shard shards (Fold at block) state is none one = none
event_in_run_meets_shard P caller shard shards (Read by at) state is none one =
    elim (eqb by caller && eqb at shard) as (λ b. P (cond b (position_in_core (slice_get shards shard)) [])) [
      | true ↦ subst P (sym (ap position_in_core is)) one
      | false ↦ none
    ]

event_run_may_begin_lower : (least position : ℕ) (positions : List ℕ) → least ≤ position → NeverFall position positions
    → NeverFall least positions
event_run_may_begin_lower least position [] below rise = rise
event_run_may_begin_lower least position (next ∷ later) below rise = (omega (arith, rise.0), rise.1)

-- the positions that reads of a shard meet never fall
pub event_run_reads_never_fall : (events : List Event) (core : CoreValue) (caller shard : ℕ) (state : ShardValue) → slice_get core.shards shard ≡ Some state
    → state.position ≤ length state.list → NeverFall state.position (reads_of caller shard core events)
event_run_reads_never_fall [] core caller shard state is within = tt
event_run_reads_never_fall (event ∷ rest) core caller shard state is within =
    let moved : ShardMovedOn (core_after core event).shards shard state = event_moves_shard_on core event shard state is within in
    let later = reads_of caller shard (core_after core event) rest in
    let rise : NeverFall state.position later =
    event_run_may_begin_lower state.position moved.position later moved.later
    (event_run_reads_never_fall rest (core_after core event) caller shard (record state { position = moved.position }) moved.is
    moved.within) in
    event_in_run_meets_shard (λ ps. NeverFall state.position (ps ++ later)) caller shard core.shards event state is rise (omega arith, rise)

-- and are within its list
pub event_run_reads_within : (events : List Event) (core : CoreValue) (caller shard : ℕ) (state : ShardValue) → slice_get core.shards shard ≡ Some state
    → state.position ≤ length state.list → All (λ p. p ≤ length state.list) (reads_of caller shard core events)
event_run_reads_within [] core caller shard state is within = All-nil (λ p. p ≤ length state.list)
event_run_reads_within (event ∷ rest) core caller shard state is within =
    let moved : ShardMovedOn (core_after core event).shards shard state = event_moves_shard_on core event shard state is within in
    let later = reads_of caller shard (core_after core event) rest in
    let all : All (λ p. p ≤ length state.list) later =
    event_run_reads_within rest (core_after core event) caller shard (record state { position = moved.position }) moved.is
    moved.within in
    event_in_run_meets_shard (λ ps. All (λ p. p ≤ length state.list) (ps ++ later)) caller shard core.shards event state is all
    (All-cons (λ p. p ≤ length state.list) state.position later within all)

-- the snapshot of the last read
pub latest_snapshot-last_of_event_run : (state : ShardValue) (before : SnapshotValue) (reads : List ℕ) (position : ℕ)
    → last_core_read reads ≡ Some position
    → latest_snapshot state before reads ≡ snapshot_of (record state { position = position })
latest_snapshot-last_of_event_run state before [] position last = cc last
latest_snapshot-last_of_event_run state before (only ∷ []) position last = let same : only ≡ position = cc last in ap
    (λ p. snapshot_of (record state { position = p })) same
latest_snapshot-last_of_event_run state before (first ∷ next ∷ later) position last =
    latest_snapshot-last_of_event_run state (snapshot_of (record state { position = first })) (next ∷ later) position last

-- a snapshot that was read represents the shard's list
latest_snapshot-stands_in_event_run : (state : ShardValue) (before : SnapshotValue) (reads : List ℕ) (least : ℕ)
    → SnapshotRepresents state.base state.list → state.base.position ≤ least → NeverFall least reads
    → All (λ p. p ≤ length state.list) reads → SnapshotRepresents before state.list → SnapshotRepresents (latest_snapshot state before reads) state.list
latest_snapshot-stands_in_event_run state before [] least base begun rise within stands = stands
latest_snapshot-stands_in_event_run state before (position ∷ later) least base begun rise within stands =
    let here : position ≤ length state.list = All-head (λ p. p ≤ length state.list) position later within in
    let from : state.base.position ≤ position = omega (arith, rise.0) in
    latest_snapshot-stands_in_event_run state (snapshot_of (record state { position = position })) later position base from rise.1
    (All-tail (λ p. p ≤ length state.list) position later within) (representation_of_shard (record state { position = position }) base from here)

pub event_run_read_stands : (state : ShardValue) (before : SnapshotValue) (reads : List ℕ) (least : ℕ)
    → SnapshotRepresents state.base state.list → state.base.position ≤ least → NeverFall least reads
    → All (λ p. p ≤ length state.list) reads → 1 ≤ length reads → SnapshotRepresents (latest_snapshot state before reads) state.list
event_run_read_stands state before [] least base begun rise within some = absurd (omega arith)
event_run_read_stands state before (position ∷ later) least base begun rise within some =
    let here : position ≤ length state.list = All-head (λ p. p ≤ length state.list) position later within in
    let from : state.base.position ≤ position = omega (arith, rise.0) in
    latest_snapshot-stands_in_event_run state (snapshot_of (record state { position = position })) later position base from rise.1
    (All-tail (λ p. p ≤ length state.list) position later within) (representation_of_shard (record state { position = position }) base from here)

-- after a read a cut has tables of the shard's shape
latest_snapshot-alike_in_event_run : (state : ShardValue) (before : SnapshotValue) (reads : List ℕ)
    → before.shape ≡ state.base.shape → (latest_snapshot state before reads).shape ≡ state.base.shape
latest_snapshot-alike_in_event_run state before [] alike = alike
latest_snapshot-alike_in_event_run state before (position ∷ later) alike = latest_snapshot-alike_in_event_run state
    (snapshot_of (record state { position = position }))
    later
    refl

event_run_read_is_alike : (state : ShardValue) (before : SnapshotValue) (reads : List ℕ) → 1 ≤ length reads
    → (latest_snapshot state before reads).shape ≡ state.base.shape
event_run_read_is_alike state before [] some = absurd (omega arith)
event_run_read_is_alike state before (position ∷ later) some = latest_snapshot-alike_in_event_run state
    (snapshot_of (record state { position = position }))
    later refl

-- what a run keeps of shapes
pub event_run_keeps_shapes : (events : List Event) (core : CoreValue) (shards : ℕ) (shape : TableShape)
    → All (HasCoreShape shards shape) core.cuts → All (HasCoreShape shards shape) (core_after_run core events).cuts
event_run_keeps_shapes [] core shards shape shapes = shapes
event_run_keeps_shapes (event ∷ rest) core shards shape shapes = event_run_keeps_shapes rest (core_after core event) shards shape
    (shapes_after_event core event shards shape shapes)

pub event_run_keeps_shards : (events : List Event) (core : CoreValue) → length (core_after_run core events).shards ≡ length core.shards
event_run_keeps_shards [] core = refl
event_run_keeps_shards (event ∷ rest) core = event_run_keeps_shards rest (core_after core event) ∙ shards_as_many_after_event core event

pub event_run_keeps_callers : (events : List Event) (core : CoreValue) → length (core_after_run core events).cuts ≡ length core.cuts
event_run_keeps_callers [] core = refl
event_run_keeps_callers (event ∷ rest) core = event_run_keeps_callers rest (core_after core event) ∙ callers_after_event core event

pub event_run_keeps_shape : (events : List Event) (core : CoreValue) → core_shape (core_after_run core events).shards ≡ core_shape core.shards
event_run_keeps_shape [] core = refl
event_run_keeps_shape (event ∷ rest) core = event_run_keeps_shape rest (core_after core event) ∙ shape_after_event core event

-- two lists that agree at each index
event_run_agrees_by_place : {A B : Type 0} → (R : A → B → Type 0) (xs : List A) (ys : List B) → length xs ≡ length ys
    → ((k : ℕ) (x : A) (y : B) → slice_get xs k ≡ Some x → slice_get ys k ≡ Some y → R x y) → AllZip R xs ys
event_run_agrees_by_place R [] [] many each = tt
event_run_agrees_by_place R [] (y ∷ ys) many each = absurd (omega arith)
event_run_agrees_by_place R (x ∷ xs) [] many each = absurd (omega arith)
event_run_agrees_by_place R (x ∷ xs) (y ∷ ys) many each = (
  each 0 x y refl refl,
  event_run_agrees_by_place R xs ys (omega arith)
      (λ k u v is_u is_v. each (suc k) u v is_u is_v),
)

-- what a cut has of a shard
record HeldBeforeEventRun (caller shard : ℕ) (cuts : List CutValue) : Type 0 where
  pub before : SnapshotValue
  pub holds : snapshot_in caller shard cuts ≡ Some before

no_shape_in_event_run : TableShape
no_shape_in_event_run = record { grain = finest_grain; capacity = 0 }

no_snapshot_in_event_run : SnapshotValue
no_snapshot_in_event_run = record { shape = no_shape_in_event_run; position = 0; tables = [] }

no_cut_in_event_run : CutValue
no_cut_in_event_run = record { shape = no_shape_in_event_run; shards = [] }

no_shard_in_event_run : ShardValue
no_shard_in_event_run = record { list = []; base = record { shape = no_shape_in_event_run; position = 0; tables = [] }; position = 0 }

held_before_event_run : (caller shard shards : ℕ) (shape : TableShape) (cuts : List CutValue) → All (HasCoreShape shards shape) cuts
    → caller < length cuts → shard < shards → HeldBeforeEventRun caller shard cuts
held_before_event_run caller shard shards shape cuts shapes in_cuts in_shards =
    let cut = get_or cuts caller no_cut_in_event_run in
    let has : HasCoreShape shards shape cut = All-get_or (HasCoreShape shards shape) cuts caller no_cut_in_event_run in_cuts shapes in
    let in_cut : shard < length cut.shards = omega (arith, has.as_many) in
    record {
      before = get_or cut.shards shard no_snapshot_in_event_run;
      holds = ap (shard_in_cut shard) (slice_get-get_or cuts caller no_cut_in_event_run in_cuts)
          ∙ slice_get-get_or cut.shards shard no_snapshot_in_event_run in_cut;
    }

-- what a run leaves of a shard in a cut that it leaves
pub record LeftByEventRun (events : List Event) (core : CoreValue) (caller shard : ℕ) (cut : CutValue) : Type 0 where
  pub state : ShardValue
  pub before : SnapshotValue
  pub is : slice_get core.shards shard ≡ Some state
  pub is_shard : IsShard state
  pub holds : slice_get cut.shards shard ≡ Some (latest_snapshot state before (reads_of caller shard core events))

pub left_by_event_run : (events : List Event) (core : CoreValue) (caller shard : ℕ) (cut : CutValue) → All IsShard core.shards
    → All (HasCoreShape (length core.shards) (core_shape core.shards)) core.cuts → slice_get (core_after_run core events).cuts caller ≡ Some cut
    → shard < length core.shards
    → LeftByEventRun events core caller shard cut
left_by_event_run events core caller shard cut kept shapes is_cut in_shards =
    let in_run : caller < length (core_after_run core events).cuts = slice_get_within (core_after_run core events).cuts caller cut is_cut in
    let in_cuts : caller < length core.cuts = omega (arith, event_run_keeps_callers events core) in
    let had : HeldBeforeEventRun caller shard core.cuts = held_before_event_run caller shard (length core.shards) (core_shape core.shards) core.cuts
    shapes in_cuts in_shards in
    let state = get_or core.shards shard no_shard_in_event_run in
    let is : slice_get core.shards shard ≡ Some state = slice_get-get_or core.shards shard no_shard_in_event_run in_shards in
    let is_shard : IsShard state = All-get_or IsShard core.shards shard no_shard_in_event_run in_shards kept in
    record {
      state = state;
      before = had.before;
      is = is;
      is_shard = is_shard;
      holds = sym (ap (shard_in_cut shard) is_cut) ∙ latest_snapshot-after_event_run events core caller shard state had.before is is_shard.within
          had.holds;
    }

-- a cut in which each shard was read represents the shards' lists, if their bases do
pub event_run_cut_stands : (events : List Event) (core : CoreValue) (caller : ℕ) (cut : CutValue) → IsCore core.shards
    → All (HasCoreShape (length core.shards) (core_shape core.shards)) core.cuts → BasesRepresent core.shards
    → slice_get (core_after_run core events).cuts caller ≡ Some cut
    → ReadsEachShard caller core events → CutRepresents cut (core_lists core.shards)
event_run_cut_stands events core caller cut is_core shapes bases is_cut reads =
    let kept : All IsShard core.shards = is_core.kept in
    let in_run : caller < length (core_after_run core events).cuts = slice_get_within (core_after_run core events).cuts caller cut is_cut in
    let shape : HasCoreShape (length core.shards) (core_shape core.shards) (get_or (core_after_run core events).cuts caller cut) =
    All-get_or (HasCoreShape (length core.shards) (core_shape core.shards)) (core_after_run core events).cuts caller cut in_run
    (event_run_keeps_shapes events core (length core.shards) (core_shape core.shards) shapes) in
    let many : length cut.shards ≡ length core.shards =
    ap (λ (c : CutValue). length c.shards) (sym (get_or_from_slice_get (core_after_run core events).cuts caller cut cut is_cut)) ∙ shape.as_many in
    let list_of : ShardValue → List RecordValue = λ s. s.list in
    let same_shape : cut.shape ≡ core_shape core.shards =
    ap (λ (c : CutValue). c.shape) (sym (get_or_from_slice_get (core_after_run core events).cuts caller cut cut is_cut)) ∙ shape.alike in
    record {
      alike = λ k default in_cut.
          let in_shards : k < length core.shards = omega (arith, many, in_cut) in
          let here : LeftByEventRun events core caller k cut = left_by_event_run events core caller k cut kept shapes is_cut in_shards in
          let met_here = reads_of caller k core events in
          let of_core : here.state.base.shape ≡ core_shape core.shards =
          subst (λ (s : ShardValue). s.base.shape ≡ core_shape core.shards) (get_or_from_slice_get core.shards k here.state no_shard_in_event_run here.is)
          (All-get_or (λ (s : ShardValue). s.base.shape ≡ core_shape core.shards) core.shards k no_shard_in_event_run in_shards
          is_core.are_shards.alike) in
          ap (λ (s : SnapshotValue). s.shape) (get_or_from_slice_get cut.shards k (latest_snapshot here.state here.before met_here) default here.holds)
          ∙ event_run_read_is_alike here.state here.before met_here (reads k in_shards)
          ∙ of_core
          ∙ sym same_shape;
      shards = event_run_agrees_by_place SnapshotRepresents cut.shards (core_lists core.shards) (many ∙ sym (length-map core.shards list_of))
          (λ k snapshot list is_snapshot is_list.
          let in_cut : k < length cut.shards = slice_get_within cut.shards k snapshot is_snapshot in
          let in_shards : k < length core.shards = omega arith in
          let here : LeftByEventRun events core caller k cut = left_by_event_run events core caller k cut kept shapes is_cut in_shards in
          let state = here.state in
          let met_here = reads_of caller k core events in
          let base : SnapshotRepresents state.base state.list =
          subst (λ (s : ShardValue). SnapshotRepresents s.base s.list) (get_or_from_slice_get core.shards k state no_shard_in_event_run here.is)
          (All-get_or (λ (s : ShardValue). SnapshotRepresents s.base s.list) core.shards k no_shard_in_event_run in_shards bases) in
          let stands : SnapshotRepresents (latest_snapshot state here.before met_here) state.list =
          event_run_read_stands state here.before met_here state.position base here.is_shard.begun (event_run_reads_never_fall events core caller k state
          here.is here.is_shard.within)
          (event_run_reads_within events core caller k state here.is here.is_shard.within) (reads k in_shards) in
          let same_snapshot : latest_snapshot state here.before met_here ≡ snapshot =
          same_Some (latest_snapshot state here.before met_here) snapshot (sym here.holds ∙ is_snapshot) in
          let same_list : state.list ≡ list =
          same_Some state.list list
          (sym (slice_get-map list_of core.shards k ∙ ap (option_map list_of) here.is) ∙ is_list) in
          subst (λ s. SnapshotRepresents s list) same_snapshot (subst (SnapshotRepresents (latest_snapshot state here.before met_here)) same_list stands));
    }

-- the position of a shard in the cut is that of the last read
pub event_run_tells_last_read : (events : List Event) (core : CoreValue) (caller shard position : ℕ) (cut : CutValue) → All IsShard core.shards
    → All (HasCoreShape (length core.shards) (core_shape core.shards)) core.cuts → shard < length core.shards
    → slice_get (core_after_run core events).cuts caller ≡ Some cut
    → last_core_read (reads_of caller shard core events) ≡ Some position → slice_get (cut_positions cut) shard ≡ Some position
event_run_tells_last_read events core caller shard position cut kept shapes in_shards is_cut last =
    let here : LeftByEventRun events core caller shard cut = left_by_event_run events core caller shard cut kept shapes is_cut in_shards in
    let place : SnapshotValue → ℕ = λ s. s.position in
    slice_get-map place cut.shards shard
    ∙ ap (option_map place) here.holds
    ∙ ap (λ s. Some (place s)) (latest_snapshot-last_of_event_run here.state here.before (reads_of caller shard core events) position last)

-- the position of a shard of a core is within its list
pub event_run_shard_within : (core : CoreValue) (shard : ℕ) (state : ShardValue) → All IsShard core.shards
    → slice_get core.shards shard ≡ Some state → state.position ≤ length state.list
event_run_shard_within core shard state kept is =
    let in_shards : shard < length core.shards = slice_get_within core.shards shard state is in
    let is_shard : IsShard state =
    subst IsShard (get_or_from_slice_get core.shards shard state no_shard_in_event_run is)
    (All-get_or IsShard core.shards shard no_shard_in_event_run in_shards kept) in
    is_shard.within
