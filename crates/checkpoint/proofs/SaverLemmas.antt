-- A saver, and the store that it knows.
use Rattle.std.proofs.Common.{◌≡◌, ℕ, zero, suc, ◌+◌, ◌<◌, List, Some, refl, sym, ap, subst, ◌∙◌}
use Rattle.std.proofs.Common.{inl, arith, length}
use Rattle.shard_state.specs.{CutValue, HasCoreShape}
use Rattle.slot_disk.specs.{IsPut, IsReadyForPut, IsStoreOfKnown, CrashLeaves}
use Rattle.slot_disk.specs.{CrashLeaves-weaker, PutMayLeave, KnownSlotsState}
use Rattle.slot_disk.specs.{other_slot_of, after_opening}
use Rattle.checkpoint.specs.Lengths.{span_of}
use Rattle.checkpoint.specs.Saved.{SavedValue}
use Rattle.checkpoint.specs.Body.{IsBody}
use Rattle.checkpoint.specs.Store.{OpensOldOrNew, StoreOpensTo, newest_in, store_positions, store_sequence}
use Rattle.checkpoint.specs.Saver.{SaverState, IsSafeSaver, saver_after, next_saved}
use Rattle.checkpoint.proofs.StoreLemmas.{stores_open_old_or_new, stores_open_the_new, store_holds_new_body}
use Rattle.checkpoint.proofs.StoreLemmas.{stores_are_ready}
use Rattle.checkpoint.specs.Header.{settings_shape}
use Rattle.shard_state.specs.{TableShape}

-- the other slot is one of two
pub saver_slot_is_small : (slot : ℕ) → other_slot_of slot < 2
saver_slot_is_small zero = omega arith
saver_slot_is_small (suc slot) = omega arith

-- the body that was made for the next save
pub saver_makes_next_body : (saver : SaverState) (cut : CutValue) (sequence : ℕ) (digest bytes body : List ℕ)
    → sequence ≡ saver.sequence → digest ≡ saver.digest → HasCoreShape saver.header.settings.shards (settings_shape saver.header.settings) cut
    → bytes ≡ body
    → IsBody (length cut.shards) cut.shape (record { sequence = sequence + 1; digest = digest; cut = cut }) body
    → IsBody saver.header.settings.shards (settings_shape saver.header.settings) (next_saved saver cut) bytes
saver_makes_next_body saver cut sequence digest bytes body same_sequence same_digest shape same is =
    let counted = subst (λ (n : ℕ). IsBody (length cut.shards) cut.shape (record { sequence = n + 1; digest = digest; cut = cut }) body)
    same_sequence is in
    let digested = subst (λ (d : List ℕ). IsBody (length cut.shards) cut.shape (record { sequence = saver.sequence + 1; digest = d; cut = cut }) body)
    same_digest counted in
    let shaped = subst (λ (n : ℕ). IsBody n cut.shape (next_saved saver cut) body) shape.as_many digested in
    let alike = subst (λ (s : TableShape). IsBody saver.header.settings.shards s (next_saved saver cut) body) shape.alike shaped in
    subst (IsBody saver.header.settings.shards (settings_shape saver.header.settings) (next_saved saver cut)) (sym same) alike

pub saver_stands : (saver : SaverState) (possible : List ℕ → Type 0) (old : List ℕ) → IsSafeSaver saver possible old
    → IsStoreOfKnown old possible saver.slots
saver_stands saver possible old stands =
    record { long = stands.is_known.holds.long; slots_are = stands.is_known.slots_are; only = stands.only }

module _ (saver : SaverState) (possible : List ℕ → Type 0) (old : List ℕ) (stands : IsSafeSaver saver possible old) (span slot : ℕ)
    (is_span : span ≡ span_of saver.header.settings) (is_slot : slot ≡ other_slot_of saver.newest_slot) where
  pub saver_is_ready : IsReadyForPut span slot old
  saver_is_ready =
      let known = stands.is_known in
      let ready = stores_are_ready saver.header (other_slot_of saver.newest_slot) old known.first known.second
      (saver_slot_is_small saver.newest_slot) known.holds (inl (ap other_slot_of known.slot_is)) in
      let spanned = subst (λ (n : ℕ). IsReadyForPut n (other_slot_of saver.newest_slot) old) (sym is_span) ready in
      subst (λ (n : ℕ). IsReadyForPut span n old) (sym is_slot) spanned

  module _ (cut : CutValue) (body : List ℕ)
      (is : IsBody saver.header.settings.shards (settings_shape saver.header.settings) (next_saved saver cut) body) where
    pub saver_may_leave : (image : List ℕ) → PutMayLeave span slot body old image → OpensOldOrNew saver.header old (next_saved saver cut) image
    saver_may_leave image may =
        let known = stands.is_known in
        let spanned = subst (λ (n : ℕ). PutMayLeave n slot body old image) is_span may in
        stores_open_old_or_new saver.header (other_slot_of saver.newest_slot) (next_saved saver cut) body old image known.first known.second
        (saver_slot_is_small saver.newest_slot) known.holds (inl (ap other_slot_of known.slot_is)) is (omega (arith, known.sequence_is))
        (subst (λ (n : ℕ). PutMayLeave (span_of saver.header.settings) n body old image) is_slot spanned)

    pub saver_leaves : {D : Type 0} (moment : D → ℕ) (image_since : D → ℕ → List ℕ → Type 0) (before after : D)
        → CrashLeaves moment image_since before after (PutMayLeave span slot body old)
        → CrashLeaves moment image_since before after (OpensOldOrNew saver.header old (next_saved saver cut))
    saver_leaves moment image_since before after leaves =
        CrashLeaves-weaker moment image_since before after (PutMayLeave span slot body old)
        (OpensOldOrNew saver.header old (next_saved saver cut))
        leaves saver_may_leave

    pub saver_stands_after : (possible_after : List ℕ → Type 0) (new : List ℕ) (slots : KnownSlotsState) → IsPut span slot body old new
        → IsStoreOfKnown new possible_after slots → slots ≡ after_opening saver.slots slot
        → IsSafeSaver (saver_after saver cut) possible_after new
    saver_stands_after possible_after new slots put store is_open =
        let known = stands.is_known in
        let spanned = subst (λ (n : ℕ). IsPut n slot body old new) is_span put in
        let put_there = subst (λ (n : ℕ). IsPut (span_of saver.header.settings) n body old new) is_slot spanned in
        let holds = store_holds_new_body saver.header (other_slot_of saver.newest_slot) (next_saved saver cut) body old new known.first known.second
        (saver_slot_is_small saver.newest_slot) known.holds (inl (ap other_slot_of known.slot_is)) is (omega (arith, known.sequence_is)) put_there in
        record {
          is_known = record {
            slots_are = sym (is_open ∙ ap (λ (n : ℕ). after_opening saver.slots n) is_slot) ∙ store.slots_are;
            first = holds.first;
            second = holds.second;
            holds = holds.holds;
            slot_is = sym holds.slot_is;
            sequence_is = ap store_sequence (sym holds.newest_is);
            positions_are = ap (store_positions saver.header.settings) (sym holds.newest_is);
          };
          only = store.only;
        }

    pub saver_opens_after : (possible_after : List ℕ → Type 0) (new : List ℕ) (slots : KnownSlotsState) → IsPut span slot body old new
        → IsStoreOfKnown new possible_after slots → (image : List ℕ) → possible_after image
        → StoreOpensTo saver.header image (Some (next_saved saver cut))
    saver_opens_after possible_after new slots put store image may =
        let known = stands.is_known in
        let spanned = subst (λ (n : ℕ). IsPut n slot body old new) is_span put in
        let put_there = subst (λ (n : ℕ). IsPut (span_of saver.header.settings) n body old new) is_slot spanned in
        subst (λ (bytes : List ℕ). StoreOpensTo saver.header bytes (Some (next_saved saver cut))) (sym (store.only image may))
        (stores_open_the_new saver.header (other_slot_of saver.newest_slot) (next_saved saver cut) body old new known.first known.second
        (saver_slot_is_small saver.newest_slot) known.holds (inl (ap other_slot_of known.slot_is)) is (omega (arith, known.sequence_is)) put_there)

-- a crash before the first call of the disk
pub saver_leaves_none : (saver : SaverState) (possible : List ℕ → Type 0) (old : List ℕ) (saved : SavedValue) → IsSafeSaver saver possible old
    → (image : List ℕ) → possible image → OpensOldOrNew saver.header old saved image
saver_leaves_none saver possible old saved stands image may =
    let known = stands.is_known in
    let opens : StoreOpensTo saver.header old (newest_in known.first known.second) = (known.first, known.second, known.holds, refl) in
    inl (
      newest_in known.first known.second,
      opens,
      subst (λ (bytes : List ℕ). StoreOpensTo saver.header bytes (newest_in known.first known.second)) (sym (stands.only image may)) opens,
    )
