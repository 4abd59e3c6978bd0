-- Worked examples of readings, openings and refusals, most by computing.
use Rattle.std.proofs.Common.{◌≡◌, ℕ, ◌+◌, true, false, List, [], ◌∷◌, None, Some, refl, ap, inl, ⊎_elim, arith}
use Rattle.std.specs.Prelude.{Ok, Err, slice_index}
use Rattle.prefix_lattice.specs.{RecordValue}
use Rattle.prefix_lattice.specs.declared.grain.Grain.TheVariants.{Byte, Nibble}
use Rattle.shard_state.specs.{CutValue, SnapshotValue, empty_snapshot, no_entries}
use Rattle.slot_disk.specs.{known_slots_of}
use Rattle.slot_disk.specs.declared.fault.BeginFault.TheVariants.{TooShort}
use Rattle.slot_disk.specs.declared.fault.BodyFault.TheVariants as body
use Rattle.checkpoint.specs.declared.fault.DecodeFault.TheVariants as decode
use Rattle.checkpoint.specs.declared.header.StoreHeader.{StoreHeader}
use Rattle.checkpoint.specs.declared.settings.StoreSettings.{StoreSettings}
use Rattle.checkpoint.specs.declared.version.Version.TheVariants.{First}
use Rattle.checkpoint.specs.{AreSettings, HasNewest, SavedValue, StoreHolds, VersionTakes}
use Rattle.checkpoint.specs.{header_bytes, lists_digest, stored_header, written_header}
use Rattle.checkpoint.specs.{greatest_sequence, saver_of}
use Rattle.recovery.specs.declared.fault.OpenFault.TheVariants as opening
use Rattle.recovery.specs.declared.store_fault.StoreFault.TheVariants.{DiskFault, NotFormatted, OtherSettings, Damaged}
use Rattle.recovery.specs.declared.store_fault.StoreFault.TheVariants.{OutOfMemory}
use Rattle.recovery.specs.declared.opened.Opened.{Opened}
use Rattle.recovery.specs.OpenFault.{IsShownByBytes, open_fault}
use Rattle.recovery.specs.StoreFault.{begin_fault, body_fault, decode_fault}
use Rattle.recovery.specs.Reading.{HasHeader, IsDamaged, IsFirstDamaged, MustRead, MustRefuse, ReadsAs, RefusesReading, WasStopped}
use Rattle.recovery.specs.Reading.{has_open_gate}
use Rattle.recovery.specs.Reopening.{ContinuesFrom, ContinuesList, ContinuesLists, RefusesNewest, RefusesOpening}
use Rattle.recovery.specs.Reopening.{MatchesLists, OpensToBase, IsBaseFor, CanGoOn}
use Rattle.recovery.specs.Reopening.{base_positions, greatest_opened}
use Rattle.recovery.specs.Found.{IsFrontFault, IsBodyFault}
use Rattle.recovery.specs.Found.{IsListFault, MatchesDigest, HoldsFound, ShowsHeader}
use Rattle.recovery.specs.Found.{base_in_parts}
use Rattle.recovery.proofs.OpenSlotLemmas.{store_open_slot_is_sound}
use Rattle.shard_state.specs.{TableShape}
use Rattle.checkpoint.specs.{settings_shape}

-- however records are weighed and dealt
module _ (any : StoreSettings) where
  -- this many shards with tables of two entries, by whole bytes
  abbrev settings : ℕ → StoreSettings
  settings shards = record any { shards = shards; capacity = 2; grain = Byte }

  abbrev header : StoreHeader
  header = written_header (settings 1)

  -- a store of one shard with these gates and no body
  abbrev store : ℕ → ℕ → List ℕ
  store first second = first ∷ second ∷ header_bytes header

  -- the header that such a store has in the first version, and a store with it
  abbrev old_header : StoreHeader
  old_header = record { version = First; settings = settings 1 }

  abbrev old_store : List ℕ
  old_store = 0 ∷ 0 ∷ header_bytes old_header

  -- a list of one packet of 100 bytes, and snapshots of none of its records and, as they say, of two
  abbrev list : List RecordValue
  list = record { src = 0x0a010203; dst = 0x14010203; weight = 100 } ∷ []

  abbrev shape : TableShape
  shape = settings_shape (settings 1)

  abbrev none_counted : SnapshotValue
  none_counted = empty_snapshot shape

  abbrev two_counted : SnapshotValue
  two_counted = record { shape = shape; position = 2; tables = no_entries shape.grain }

  abbrev cut : CutValue
  cut = record { shape = shape; shards = none_counted ∷ [] }

  abbrev saved : ℕ → SavedValue
  saved sequence = record { sequence = sequence; digest = []; cut = cut }

  pub are_settings : AreSettings (settings 1)
  are_settings = record { some = omega arith; few = omega arith; least = omega arith; most = omega arith }

  pub header_of_one_shard : HasHeader header (store 0 0)
  header_of_one_shard = record { long = omega arith; is_header = record { settings = are_settings; taken = tt }; spelled = refl }

  pub not_a_header_of_two : HasHeader (written_header (settings 2)) (store 0 0) → ⊥
  not_a_header_of_two has =
      let shards : 1 ≡ 2 = ap (λ (l : List ℕ). slice_index l 5) has.spelled in omega (arith, shards)

  pub header_of_an_old_store : HasHeader old_header old_store
  header_of_an_old_store =
      record { long = omega arith; is_header = record { settings = are_settings; taken = refl }; spelled = refl }

  -- no bytes are a header of the first version by half bytes
  pub old_header_is_not_by_half_bytes : (image : List ℕ)
      → HasHeader (record { version = First; settings = record any { grain = Nibble } }) image → ⊥
  old_header_is_not_by_half_bytes image has =
      let taken : VersionTakes First Nibble = has.is_header.taken in cc taken

  pub short_bytes_have_no_header : (any_header : StoreHeader) → HasHeader any_header (0 ∷ []) → ⊥
  short_bytes_have_no_header any_header has = omega (arith, has.long)

  -- a gate is open over no body: the bytes end before it
  pub open_gate_is_damaged : IsDamaged (settings 1) 0 (store 1 0)
  open_gate_is_damaged = record { gate = refl; no_body = λ saved holds. cc holds.1 }

  pub first_gate_is_first_damaged : IsFirstDamaged (settings 1) 0 (store 1 1)
  first_gate_is_first_damaged = record {
    within = omega arith;
    damaged = record { gate = refl; no_body = λ saved holds. cc holds.1 };
    first = λ earlier lt damaged. omega (arith, lt);
  }

  pub closed_gate_is_not_damaged : IsDamaged (settings 1) 0 (store 0 0) → ⊥
  closed_gate_is_not_damaged damaged = cc damaged.gate

  pub late_sequences_are_left_out : greatest_opened + 64 ≡ greatest_sequence
  late_sequences_are_left_out = refl

  pub empty_snapshot_continues : ContinuesList none_counted list
  unfolding no_entries
  empty_snapshot_continues = record { within = omega arith; counted = refl }

  pub snapshot_past_the_end_does_not : ContinuesList two_counted list → ⊥
  snapshot_past_the_end_does_not continues = omega (arith, continues.within)

  pub empty_cut_continues : ContinuesLists cut (list ∷ [])
  empty_cut_continues = (empty_snapshot_continues, tt)

  pub first_save_continues : ContinuesFrom (saved 1) (list ∷ [])
  first_save_continues = record { early = omega arith; continues = empty_cut_continues }

  pub last_save_does_not : ContinuesFrom (saved greatest_sequence) (list ∷ []) → ⊥
  last_save_does_not continues = omega (arith, continues.early)

  pub short_bytes_are_refused : RefusesReading (settings 1) (0 ∷ []) NotFormatted
  short_bytes_are_refused = short_bytes_have_no_header

  pub other_settings_are_refused : RefusesReading (settings 2) (store 0 0) (OtherSettings (settings 1) (settings 2))
  other_settings_are_refused = (
    header_of_one_shard,
    refl,
    λ same. let shards : 1 ≡ 2 = ap (λ (s : StoreSettings). s.shards) same in omega (arith, shards),
  )

  pub broken_slot_is_refused : RefusesReading (settings 1) (store 1 1) (Damaged 0)
  broken_slot_is_refused = (
    record { long = omega arith; is_header = record { settings = are_settings; taken = tt }; spelled = refl },
    first_gate_is_first_damaged,
  )

  -- what can't be read isn't opened, over any lists
  pub short_bytes_are_not_opened : RefusesOpening (settings 1) (list ∷ []) (0 ∷ []) opening.NotFormatted
  short_bytes_are_not_opened = inl (NotFormatted, refl, short_bytes_are_refused)

  pub broken_slot_is_not_opened : RefusesOpening (settings 1) (list ∷ []) (store 1 1) (opening.Damaged 0)
  broken_slot_is_not_opened = inl (Damaged 0, refl, broken_slot_is_refused)

  pub fault_of_settings_is_one_of_opening : open_fault (OtherSettings (settings 1) (settings 2)) ≡ opening.OtherSettings (settings 1) (settings 2)
  fault_of_settings_is_one_of_opening = refl

  -- a store with no gate open opens to no base, at position 0
  pub formatted_store_holds_nothing : StoreHolds header (store 0 0) None None
  formatted_store_holds_nothing = record { long = omega arith; header = refl; taken = tt; first_slot = refl; second_slot = refl }

  -- it reads as nothing, and its gates show so
  pub formatted_store_reads_as_nothing : ReadsAs (settings 1) (store 0 0) None
  formatted_store_reads_as_nothing = (None, None, formatted_store_holds_nothing, refl)

  pub formatted_store_has_no_open_gate : has_open_gate (store 0 0) ≡ false
  formatted_store_has_no_open_gate = refl

  pub second_gate_may_be_open : has_open_gate (store 0 1) ≡ true
  second_gate_may_be_open = refl

  pub damage_is_shown : IsShownByBytes (open_fault (Damaged 0))
  damage_is_shown = record { not_of_disk = λ same. cc same; not_of_memory = λ same. cc same }

  -- so it isn't refused for a fault that bytes show
  pub formatted_store_must_be_read : MustRead (settings 1) (store 0 0) (Err NotFormatted) → ⊥
  formatted_store_must_be_read must =
      ⊎_elim (λ stopped. ⊎_elim (λ is. cc is) (λ is. cc is) stopped) (λ is. is) (must None formatted_store_reads_as_nothing)

  pub broken_slot_must_be_refused : MustRefuse (settings 1) (store 1 1) (Ok None) → ⊥
  broken_slot_must_be_refused must =
      ⊎_elim (λ stopped. ⊎_elim (λ is. cc is) (λ is. cc is) stopped) (λ is. cc is) (must (Damaged 0) damage_is_shown broken_slot_is_refused)

  pub disk_fault_stops_a_reading : WasStopped (Err DiskFault)
  disk_fault_stops_a_reading = inl refl

  -- a newest slot with another digest than that of the lists
  pub other_digest_is_refused : (other : List ℕ) (image : List ℕ)
      → HasNewest (stored_header (settings 1) image) 0 (record { sequence = 1; digest = other; cut = cut }) image
      → (other ≡ lists_digest (stored_header (settings 1) image) (list ∷ []) → ⊥)
      → RefusesNewest (settings 1) (list ∷ []) image
      (opening.OtherCapture other (lists_digest (stored_header (settings 1) image) (list ∷ [])))
  other_digest_is_refused other image has differ = (0, _, has, refl, refl, differ)

  pub formatted_store_opens_to_no_base : OpensToBase (settings 1) (list ∷ []) (store 0 0) None
  formatted_store_opens_to_no_base = (None, (None, None, formatted_store_holds_nothing, refl), tt, refl)

  -- so does one of the first version, which has its own header
  pub old_store_opens_to_no_base : OpensToBase (settings 1) (list ∷ []) old_store None
  old_store_opens_to_no_base = (
    None,
    (None, None, record { long = omega arith; header = refl; taken = refl; first_slot = refl; second_slot = refl }, refl),
    tt,
    refl,
  )

  pub formatted_store_is_not_damaged : IsDamaged (settings 1) 1 (store 0 0) → ⊥
  formatted_store_is_not_damaged =
      store_open_slot_is_sound header 1 (store 0 0) None None (omega arith) formatted_store_holds_nothing

  pub no_base_is_at_0 : base_positions (settings 2) None ≡ 0 ∷ 0 ∷ []
  no_base_is_at_0 = refl

  pub base_is_at_its_positions : base_positions (settings 1) (Some cut) ≡ 0 ∷ []
  base_is_at_its_positions = refl

  pub empty_cut_is_a_base : IsBaseFor (settings 1) (list ∷ []) cut
  empty_cut_is_a_base = record { shape = record { as_many = refl; alike = refl }; continues = empty_cut_continues }

  pub save_with_another_digest_is_not_of_the_lists : ([] ≡ lists_digest header (list ∷ []) → ⊥)
      → MatchesLists header (list ∷ []) (saved 1) → ⊥
  save_with_another_digest_is_not_of_the_lists other of = other of.digest

  -- what the opening of that store gives
  abbrev opened : Opened
  opened = record {
    base = None;
    positions = 0 ∷ [];
    saver = saver_of (known_slots_of (store 0 0)) header (lists_digest header (list ∷ [])) None;
  }

  pub opened_store_can_go_on : CanGoOn (settings 1) (list ∷ []) opened
  opened_store_can_go_on = record {
    base = tt;
    positions_are = refl;
    saver_positions = refl;
    saver_settings = refl;
    saver_digest = refl;
    early = omega arith;
  }

  pub disk_fault_is_not_shown : IsShownByBytes (open_fault DiskFault) → ⊥
  disk_fault_is_not_shown shown = shown.not_of_disk refl

  -- faults of the parts
  pub short_disk_is_not_formatted : begin_fault TooShort ≡ NotFormatted
  short_disk_is_not_formatted = refl

  pub unread_body_is_damaged : body_fault body.Damaged 1 ≡ Damaged 1
  unread_body_is_damaged = refl

  pub undecoded_body_is_damaged : decode_fault decode.Damaged 1 ≡ Damaged 1
  undecoded_body_is_damaged = refl

  pub front_shows_no_damage : IsFrontFault (settings 1) (store 1 0) (Damaged 0) → ⊥
  front_shows_no_damage is = is

  pub slot_0_is_refused : IsBodyFault (settings 1) 0 (store 1 0) (Damaged 0)
  slot_0_is_refused = (refl, open_gate_is_damaged)

  pub memory_may_run_out : RefusesReading (settings 1) (store 0 0) OutOfMemory
  memory_may_run_out = tt

  pub nothing_is_no_fault_of_lists : (slot : ℕ) → IsListFault (list ∷ []) [] None (opening.Damaged slot) → ⊥
  nothing_is_no_fault_of_lists slot is = cc is.1

  pub first_save_is_of_its_digest : MatchesDigest (list ∷ []) [] (saved 1)
  first_save_is_of_its_digest = record { digest_is = refl; continues = first_save_continues }

  pub old_store_shows_its_header : ShowsHeader (settings 1) old_header old_store
  old_store_shows_its_header = (header_of_an_old_store, refl)

  pub nothing_was_found : HoldsFound header None (store 0 0)
  nothing_was_found = (None, None, formatted_store_holds_nothing, refl, tt)

  pub nothing_has_no_base : base_in_parts None ≡ None
  nothing_has_no_base = refl
