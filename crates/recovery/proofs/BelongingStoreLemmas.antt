-- Stores that belong to dealt lists.
use Rattle.std.proofs.Common.{◌≡◌, ◌≤◌, ℕ, Bool, true, false, nat_lt, if◌then◌else◌, List, [], ◌∷◌, Option, None, Some}
use Rattle.std.proofs.Common.{All, take, refl, subst, arith}
use Rattle.std.specs.List.{AllZip}
use Rattle.std.proofs.lemmas.List.Elements.{All-head, All-tail}
use Rattle.prefix_lattice.specs.{RecordValue, total_weight}
use Rattle.shard_state.specs.{IsSnapshot, SnapshotRepresents, SnapshotValue, snapshot_total}
use Rattle.checkpoint.specs.declared.header.StoreHeader.{StoreHeader}
use Rattle.checkpoint.specs.{IsSaved, SavedValue, StoreHolds, newest_in, stored_header}
use Rattle.recovery.specs.Reopening.{ContinuesList}
use Rattle.recovery.specs.Reopening.{BelongingOpen}
use Rattle.checkpoint.specs.{settings_shape}

-- a snapshot that represents a list has the weight of the records before its position
abbrev BelongingStoreHasWeights : Type 0
BelongingStoreHasWeights = (snapshot : SnapshotValue) (list : List RecordValue) → SnapshotRepresents snapshot list → 1 ≤ snapshot.shape.capacity
    → snapshot_total snapshot ≡ total_weight (take snapshot.position list)

-- so it may be continued from
belonging_store_continues : BelongingStoreHasWeights → (shards : List SnapshotValue) (lists : List (List RecordValue)) → All IsSnapshot shards
    → AllZip SnapshotRepresents shards lists → AllZip ContinuesList shards lists
belonging_store_continues total [] [] kept represent = tt
belonging_store_continues total [] (list ∷ lists) kept represent = absurd represent
belonging_store_continues total (shard ∷ shards) [] kept represent = absurd represent
belonging_store_continues total (shard ∷ shards) (list ∷ lists) kept represent =
    let here : IsSnapshot shard = All-head IsSnapshot shard shards kept in (
      record { within = represent.0.within; counted = total shard list represent.0 (omega (arith, here.least)) },
      belonging_store_continues total shards lists (All-tail IsSnapshot shard shards kept) represent.1,
    )

-- what is the newest may be saved
belonging_store_has_newest_save : (header : StoreHeader) (image : List ℕ) (first second : Option SavedValue) (saved : SavedValue)
    → StoreHolds header image first second → newest_in first second ≡ Some saved
    → IsSaved header.settings.shards (settings_shape header.settings) saved
belonging_store_has_newest_save header image None None saved holds is = absurd (cc is)
belonging_store_has_newest_save header image None (Some one) saved holds is =
    let same : one ≡ saved = cc is in
    subst (IsSaved header.settings.shards (settings_shape header.settings)) same holds.second_slot.2.is_saved
belonging_store_has_newest_save header image (Some one) None saved holds is =
    let same : one ≡ saved = cc is in
    subst (IsSaved header.settings.shards (settings_shape header.settings)) same holds.first_slot.2.is_saved
belonging_store_has_newest_save header image (Some one) (Some two) saved holds is = by_test (nat_lt one.sequence two.sequence) is
  where
    by_test : (b : Bool) → (if b then Some two else Some one) ≡ Some saved → IsSaved header.settings.shards (settings_shape header.settings) saved
    by_test true is =
        let same : two ≡ saved = cc is in
        subst (IsSaved header.settings.shards (settings_shape header.settings)) same holds.second_slot.2.is_saved
    by_test false is =
        let same : one ≡ saved = cc is in
        subst (IsSaved header.settings.shards (settings_shape header.settings)) same holds.first_slot.2.is_saved

pub belonging_stores_are_opened : BelongingStoreHasWeights → BelongingOpen
belonging_stores_are_opened total settings lists image None opens of early = (None, opens, tt, refl)
belonging_stores_are_opened total settings lists image (Some saved) opens of early =
    let is_saved = belonging_store_has_newest_save (stored_header settings image) image opens.0 opens.1 saved opens.2 opens.3 in (
      Some saved,
      opens,
      record {
        digest = of.0;
        continues = record {
          early = early;
          continues = belonging_store_continues total saved.cut.shards lists is_saved.cut.kept of.1.shards;
        };
      },
      refl,
    )
