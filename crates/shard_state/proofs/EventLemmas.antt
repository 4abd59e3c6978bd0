-- What one event leaves of each shard and of each cut.
use Rattle.std.proofs.Common.{◌≡◌, ℕ, ◌+◌, ◌≤◌, inl, inr, zero, suc, eqb, true, false, cond, ◌&&◌, min, List, []}
use Rattle.std.proofs.Common.{◌∷◌, length, slice_get, slice_set, Option, Some, None, All, refl, sym, ap, ◌∙◌, arith}
use Rattle.std.proofs.Common.{subst, length-set}
use Rattle.std.proofs.Math.Nat.{min-le_left}
use Rattle.std.proofs.lemmas.Bool.{cases_eq, eq-eqb, ne_eqb}
use Rattle.shard_state.specs.Snapshot.{SnapshotValue, TableShape}
use Rattle.shard_state.specs.Cut.{CutValue}
use Rattle.shard_state.specs.ShardState.{ShardValue, folded_shard, snapshot_of}
use Rattle.shard_state.specs.ShardCore.{CoreValue, ShardMovedOn, core_after, changed_in, with_shard}
use Rattle.shard_state.specs.ShardCore.{core_shape, HasCoreShape, position_met, position_in_core}
use Rattle.shard_state.specs.ShardCore.{latest_snapshot, shard_in_cut, snapshot_in}
use Rattle.shard_state.specs.declared.event.Event.{Event}
use Rattle.shard_state.specs.declared.event.Event.TheVariants.{Fold, Read}
use Rattle.shard_state.proofs.ChangedElementLemmas.{changed_in-element_keeps_length}
use Rattle.shard_state.proofs.ChangedElementLemmas.{changed_in-element_holds_change}
use Rattle.shard_state.proofs.ChangedElementLemmas.{changed_in-other_elements_stay, All-changed_element}
use Rattle.shard_state.proofs.ChangedElementLemmas.{set_element_is_changed, changed_element_keeps_others}

event_leaves_shard_still : (shards : List ShardValue) (shard : ℕ) (state : ShardValue) → slice_get shards shard ≡ Some state
    → state.position ≤ length state.list → ShardMovedOn shards shard state
event_leaves_shard_still shards shard state is within = record { position = state.position; is = is; later = omega arith; within = within }

-- after an event each shard is at such a position
pub event_moves_shard_on : (core : CoreValue) (event : Event) (shard : ℕ) (state : ShardValue)
    → slice_get core.shards shard ≡ Some state → state.position ≤ length state.list
    → ShardMovedOn (core_after core event).shards shard state
event_moves_shard_on core (Read by at) shard state is within = event_leaves_shard_still core.shards shard state is within
event_moves_shard_on core (Fold at block) shard state is within =
    elim (cases_eq at shard) [
      | inl same ↦ record {
        position = min (length state.list) (state.position + block);
        is =
            subst (λ k. slice_get (changed_in (folded_shard block) k core.shards) shard ≡ Some (folded_shard block state))
            (sym same) (changed_in-element_holds_change (folded_shard block) shard core.shards state is);
        later = omega arith;
        within = min-le_left (length state.list) (state.position + block);
      }
      | inr apart ↦ event_leaves_shard_still (changed_in (folded_shard block) at core.shards) shard state
          (changed_in-other_elements_stay (folded_shard block) at
          shard core.shards apart ∙ is) within
    ]

-- a read of another cut, or of another shard, meets nothing of this one
other_event_meets_nothing : (by caller at shard : ℕ) (shards : List ShardValue) → (eqb by caller && eqb at shard) ≡ false
    → position_met caller shard shards (Read by at) ≡ []
other_event_meets_nothing by caller at shard shards apart = ap (λ b. cond b (position_in_core (slice_get shards shard)) []) apart

-- the cut of a caller, if it has that shard
pub record CutBeforeEvent (caller shard : ℕ) (cuts : List CutValue) (before : SnapshotValue) : Type 0 where
  pub cut : CutValue
  pub is : slice_get cuts caller ≡ Some cut
  pub holds : slice_get cut.shards shard ≡ Some before

pub cut_before_event : (caller shard : ℕ) (cuts : List CutValue) (before : SnapshotValue) → snapshot_in caller shard cuts ≡ Some before
    → CutBeforeEvent caller shard cuts before
cut_before_event caller shard cuts before holds = found (slice_get cuts caller) refl holds
  where
    found : (o : Option CutValue) → slice_get cuts caller ≡ o → shard_in_cut shard o ≡ Some before → CutBeforeEvent caller shard cuts before
    found None is holds = cc holds
    found (Some cut) is holds = record { cut = cut; is = is; holds = holds }

-- a read of another shard leaves this one
event_leaves_other_shards : (at shard : ℕ) (o : Option ShardValue) (cut : CutValue) → (at ≡ shard → ⊥)
    → slice_get (with_shard at o cut).shards shard ≡ slice_get cut.shards shard
event_leaves_other_shards at shard None cut apart = refl
event_leaves_other_shards at shard (Some state) cut apart = changed_element_keeps_others at shard cut.shards (snapshot_of state) apart

-- what a read leaves in a cut: the snapshot that it met, or the earlier one
shard_after_read_event : (core : CoreValue) (by at caller shard : ℕ) (state : ShardValue) (before : SnapshotValue) → slice_get core.shards shard ≡ Some state
    → snapshot_in caller shard core.cuts ≡ Some before
    → snapshot_in caller shard (core_after core (Read by at)).cuts
    ≡ Some (latest_snapshot state before (position_met caller shard core.shards (Read by at)))
shard_after_read_event core by at caller shard state before is holds =
    let change = with_shard at (slice_get core.shards at) in
    let cut_before : CutBeforeEvent caller shard core.cuts before = cut_before_event caller shard core.cuts before holds in
    let cut = cut_before.cut in
    elim (cases_eq by caller) [
      | inr apart ↦
          let none : position_met caller shard core.shards (Read by at) ≡ [] =
          other_event_meets_nothing by caller at shard core.shards (ap (λ b. b && eqb at shard) (ne_eqb by caller apart)) in
          ap (shard_in_cut shard) (changed_in-other_elements_stay change by caller core.cuts apart) ∙ holds
          ∙ ap (λ ps. Some (latest_snapshot state before ps)) (sym none)
      | inl same ↦
          let here : slice_get (changed_in change by core.cuts) caller ≡ Some (change cut) =
          subst (λ k. slice_get (changed_in change k core.cuts) caller ≡ Some (change cut)) (sym same)
          (changed_in-element_holds_change change caller core.cuts
          cut cut_before.is) in
          let by_is : eqb by caller ≡ true = eq-eqb by caller same in
          elim (cases_eq at shard) [
            | inr other ↦
                let none : position_met caller shard core.shards (Read by at) ≡ [] =
                other_event_meets_nothing by caller at shard core.shards
                (ap (λ b. b && eqb at shard) by_is ∙ ne_eqb at shard other) in
                ap (shard_in_cut shard) here ∙ event_leaves_other_shards at shard (slice_get core.shards at) cut other
                ∙ cut_before.holds ∙ ap (λ ps. Some (latest_snapshot state before ps)) (sym none)
            | inl here_too ↦
                let at_is : eqb at shard ≡ true = eq-eqb at shard here_too in
                let both : (eqb by caller && eqb at shard) ≡ true = ap (λ b. b && eqb at shard) by_is ∙ at_is in
                let one : position_met caller shard core.shards (Read by at) ≡ state.position ∷ [] =
                ap (λ b. cond b (position_in_core (slice_get core.shards shard)) []) both ∙ ap position_in_core is in
                let read : slice_get core.shards at ≡ Some state = ap (slice_get core.shards) here_too ∙ is in
                let written : slice_get (slice_set cut.shards at (snapshot_of state)) shard ≡ Some (snapshot_of state) =
                subst (λ k. slice_get (slice_set cut.shards k (snapshot_of state)) shard ≡ Some (snapshot_of state)) (sym here_too)
                (set_element_is_changed shard cut.shards (snapshot_of state) before cut_before.holds) in
                ap (shard_in_cut shard) here ∙ ap (λ o. slice_get (with_shard at o cut).shards shard) read ∙ written
                ∙ ap (λ ps. Some (latest_snapshot state before ps)) (sym one)
          ]
    ]

-- what an event leaves in a cut
pub shard_snapshot_after_event : (core : CoreValue) (event : Event) (caller shard : ℕ) (state : ShardValue)
    (before : SnapshotValue) → slice_get core.shards shard ≡ Some state
    → snapshot_in caller shard core.cuts ≡ Some before
    → snapshot_in caller shard (core_after core event).cuts
    ≡ Some (latest_snapshot state before (position_met caller shard core.shards event))
shard_snapshot_after_event core (Fold at block) caller shard state before is holds = holds
shard_snapshot_after_event core (Read by at) caller shard state before is holds = shard_after_read_event core by at caller shard state before is holds

-- the shape of cuts and shards stays
HasCoreShape-after_event : (shards : ℕ) (shape : TableShape) (at : ℕ) (o : Option ShardValue) (cut : CutValue) → HasCoreShape shards shape cut
    → HasCoreShape shards shape (with_shard at o cut)
HasCoreShape-after_event shards shape at None cut has = has
HasCoreShape-after_event shards shape at (Some state) cut has = record {
  as_many = length-set cut.shards at (snapshot_of state) ∙ has.as_many;
  alike = has.alike;
}

pub shapes_after_event : (core : CoreValue) (event : Event) (shards : ℕ) (shape : TableShape)
    → All (HasCoreShape shards shape) core.cuts → All (HasCoreShape shards shape) (core_after core event).cuts
shapes_after_event core (Fold at block) shards shape shapes = shapes
shapes_after_event core (Read by at) shards shape shapes =
    All-changed_element (HasCoreShape shards shape) (with_shard at (slice_get core.shards at)) by core.cuts
    (HasCoreShape-after_event shards shape at (slice_get core.shards at)) shapes

pub shards_as_many_after_event : (core : CoreValue) (event : Event) → length (core_after core event).shards ≡ length core.shards
shards_as_many_after_event core (Fold at block) = changed_in-element_keeps_length (folded_shard block) at core.shards
shards_as_many_after_event core (Read by at) = refl

pub callers_after_event : (core : CoreValue) (event : Event) → length (core_after core event).cuts ≡ length core.cuts
callers_after_event core (Fold at block) = refl
callers_after_event core (Read by at) = changed_in-element_keeps_length (with_shard at (slice_get core.shards at)) by core.cuts

pub shape_after_fold_event : (block at : ℕ) (shards : List ShardValue) → core_shape (changed_in (folded_shard block) at shards) ≡ core_shape
    shards
shape_after_fold_event block at [] = refl
shape_after_fold_event block zero (first ∷ rest) = refl
shape_after_fold_event block (suc at) (first ∷ rest) = refl

pub shape_after_event : (core : CoreValue) (event : Event) → core_shape (core_after core event).shards ≡ core_shape core.shards
shape_after_event core (Fold at block) = shape_after_fold_event block at core.shards
shape_after_event core (Read by at) = refl
