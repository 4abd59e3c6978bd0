-- Worked examples of stores and savers, most by computing.
use Rattle.std.proofs.Common.{◌≡◌, ℕ, List, [], ◌∷◌, Some, None, refl, ap, subst, ◌∙◌, inl, inr, arith}
use Rattle.std.specs.Prelude.{slice_index}
use Rattle.prefix_lattice.specs.{RecordValue}
use Rattle.prefix_lattice.specs.declared.grain.Grain.TheVariants.{Byte}
use Rattle.frame_records.specs.declared.weigh.Weigh.TheVariants.{Bytes}
use Rattle.deal_rules.specs.declared.deal_kind.DealKind.TheVariants.{RoundRobin}
use Rattle.shard_state.specs.{CutValue, TableShape, empty_snapshot, no_entries}
use Rattle.slot_disk.specs.{known_slots_of}
use Rattle.checkpoint.specs.declared.header.StoreHeader.{StoreHeader}
use Rattle.checkpoint.specs.declared.settings.StoreSettings.{StoreSettings}
use Rattle.checkpoint.specs.declared.version.Version.TheVariants.{First}
use Rattle.checkpoint.specs.Header.{header_bytes, settings_shape, written_header}
use Rattle.checkpoint.specs.Saved.{SavedValue}
use Rattle.checkpoint.specs.Store.{SlotHolds, StoreHolds, IsSoundStore, newest_in, newest_slot_in}
use Rattle.checkpoint.specs.Store.{IsNotNewest, StoreOpensTo}
use Rattle.checkpoint.specs.Store.{store_positions, store_sequence, IsStoreOf, StoreBelongs, OpenToSame}
use Rattle.checkpoint.specs.Store.{OpensOldOrNew}
use Rattle.checkpoint.specs.Saver.{SaverState, IsNewestSave, saver_of, IsKnownSaver, DiskMatches}
use Rattle.checkpoint.specs.Saver.{saver_after, next_saved}

-- this many shards with tables of two entries, by whole bytes
abbrev settings : ℕ → StoreSettings
settings shards = record { shards = shards; capacity = 2; weigh = Bytes; deal = RoundRobin; grain = Byte }

abbrev header : ℕ → StoreHeader
header shards = written_header (settings shards)

-- the header that a store of one shard has in the first version
abbrev old_header : StoreHeader
old_header = record { version = First; settings = settings 1 }

-- a store of one shard with these gates and no body
abbrev store : ℕ → ℕ → List ℕ
store first second = first ∷ second ∷ header_bytes (header 1)

-- the shape of its tables
abbrev shape : TableShape
shape = settings_shape (settings 1)

-- a cut of no record, and one of no record at position 9, which no test here looks into
abbrev cut : CutValue
cut = record { shape = shape; shards = empty_snapshot shape ∷ [] }

abbrev later_cut : CutValue
later_cut = record { shape = shape; shards = record { shape = shape; position = 9; tables = no_entries shape.grain } ∷ [] }

abbrev saved : ℕ → SavedValue
saved sequence = record { sequence = sequence; digest = []; cut = cut }

pub closed_slot_holds_nothing : SlotHolds (settings 1) 1 (store 0 0) None
closed_slot_holds_nothing = refl

pub formatted_store_holds_nothing : StoreHolds (header 1) (store 0 0) None None
formatted_store_holds_nothing = record { long = omega arith; header = refl; taken = tt; first_slot = refl; second_slot = refl }

pub formatted_store_is_sound : IsSoundStore (header 1) (store 0 0)
formatted_store_is_sound = (None, None, formatted_store_holds_nothing)

-- a store of the first version is sound under its own header
pub old_store_is_sound : IsSoundStore old_header (0 ∷ 0 ∷ header_bytes old_header)
old_store_is_sound =
    (None, None, record { long = omega arith; header = refl; taken = refl; first_slot = refl; second_slot = refl })

pub old_store_is_none_of_the_new : IsSoundStore (header 1) (0 ∷ 0 ∷ header_bytes old_header) → ⊥
old_store_is_none_of_the_new sound =
    let version : 1 ≡ 2 = ap (λ (l : List ℕ). slice_index l 4) sound.2.header in omega (arith, version)

-- its header has other settings
pub store_of_one_shard_is_none_of_two : IsSoundStore (header 2) (store 0 0) → ⊥
store_of_one_shard_is_none_of_two sound =
    let shards : 1 ≡ 2 = ap (λ (l : List ℕ). slice_index l 5) sound.2.header in omega (arith, shards)

pub greater_sequence_is_newest : newest_in (Some (saved 1)) (Some (saved 2)) ≡ Some (saved 2)
greater_sequence_is_newest = refl

pub first_is_newest_of_equals : newest_in (Some (saved 2)) (Some (saved 2)) ≡ Some (saved 2)
first_is_newest_of_equals = refl

pub first_slot_is_newest_of_equals : newest_slot_in (Some (saved 2)) (Some (saved 2)) ≡ 0
first_slot_is_newest_of_equals = refl

pub second_slot_is_newest : newest_slot_in (Some (saved 1)) (Some (saved 2)) ≡ 1
second_slot_is_newest = refl

-- so the first save goes to slot 0, and the second to slot 1
pub first_save_may_go_to_slot_0 : IsNotNewest 0 None None
first_save_may_go_to_slot_0 = inl refl

pub second_save_may_go_to_slot_1 : IsNotNewest 1 (Some (saved 1)) None
second_save_may_go_to_slot_1 = inl refl

pub newest_may_not_be_written : IsNotNewest 0 (Some (saved 1)) None → ⊥
newest_may_not_be_written (inl same) = cc same
newest_may_not_be_written (inr none) = cc none

pub formatted_store_opens_to_nothing : StoreOpensTo (header 1) (store 0 0) None
formatted_store_opens_to_nothing = (None, None, formatted_store_holds_nothing, refl)

pub nothing_opens_at_0 : store_positions (settings 2) None ≡ 0 ∷ 0 ∷ []
nothing_opens_at_0 = refl

pub cut_opens_at_its_positions : store_positions (settings 1) (Some (record { sequence = 1; digest = []; cut = later_cut })) ≡ 9 ∷ []
cut_opens_at_its_positions = refl

pub no_sequence_is_0 : store_sequence None ≡ 0
no_sequence_is_0 = refl

pub nothing_is_of_any_lists : (lists : List (List RecordValue)) → IsStoreOf (header 1) lists None
nothing_is_of_any_lists lists = tt

pub formatted_store_belongs : (lists : List (List RecordValue)) → StoreBelongs (header 1) lists (store 0 0)
formatted_store_belongs lists = (None, formatted_store_opens_to_nothing, tt)

-- a gate that a crash left as 255 is closed
pub torn_gate_opens_alike : OpenToSame (header 1) (store 0 0) (store 255 0)
torn_gate_opens_alike = (
  None,
  formatted_store_opens_to_nothing,
  (None, None, record { long = omega arith; header = refl; taken = tt; first_slot = refl; second_slot = refl }, refl),
)

pub torn_gate_leaves_the_old : OpensOldOrNew (header 1) (store 0 0) (saved 1) (store 255 0)
torn_gate_leaves_the_old = inl torn_gate_opens_alike

-- the saver of that store, before its first save and after it
pub no_gate_is_open : IsNewestSave (settings 1) (known_slots_of (store 0 0)) None
no_gate_is_open = (refl, refl)

abbrev saver : SaverState
saver = saver_of (known_slots_of (store 0 0)) (header 1) [] None

pub saver_begins_at_0 : saver.positions ≡ 0 ∷ []
saver_begins_at_0 = refl

pub saver_knows_the_store : IsKnownSaver saver (store 0 0)
saver_knows_the_store = record {
  slots_are = refl;
  first = None;
  second = None;
  holds = formatted_store_holds_nothing;
  slot_is = refl;
  sequence_is = refl;
  positions_are = refl;
}

pub disk_stands_for_the_saver : DiskMatches (Some (store 0 0)) (λ image. image ≡ store 0 0) saver
disk_stands_for_the_saver bytes is =
    let same : store 0 0 ≡ bytes = cc is in
    record { is_known = subst (IsKnownSaver saver) same saver_knows_the_store; only = λ image was. was ∙ same }

pub first_save_has_sequence_1 : (next_saved saver cut).sequence ≡ 1
first_save_has_sequence_1 = refl

pub first_save_opens_gate_0 : (saver_after saver later_cut).slots ≡ known_slots_of (store 1 0)
first_save_opens_gate_0 = refl

pub saver_goes_on_at_the_cut : (saver_after saver later_cut).positions ≡ 9 ∷ []
saver_goes_on_at_the_cut = refl
