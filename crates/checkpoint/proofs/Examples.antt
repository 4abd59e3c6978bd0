-- Worked examples of settings, headers, digests and bodies, most by computing.
use Rattle.std.proofs.Common.{◌≡◌, ℕ, ◌+◌, List, [], ◌∷◌, ◌++◌, length, take, drop, refl, ap, arith}
use Rattle.std.proofs.lemmas.List.{length-append}
use Rattle.prefix_lattice.specs.{RecordValue}
use Rattle.prefix_lattice.specs.declared.grain.Grain.{Grain}
use Rattle.prefix_lattice.specs.declared.grain.Grain.TheVariants.{Byte, Nibble}
use Rattle.frame_records.specs.declared.weigh.Weigh.TheVariants.{Bytes, Packets}
use Rattle.deal_rules.specs.declared.deal_kind.DealKind.TheVariants.{RoundRobin, Free}
use Rattle.space_saving.specs.declared.entry.Entry.{Entry}
use Rattle.shard_state.specs.{TableShape, empty_snapshot, no_entries}
use Rattle.checkpoint.specs.declared.settings.StoreSettings.{StoreSettings}
use Rattle.checkpoint.specs.declared.version.Version.TheVariants.{First, Second}
use Rattle.checkpoint.specs.Numbers.{number_bytes}
use Rattle.checkpoint.specs.Version.{VersionTakes, grain_byte, version_number, version_of_number}
use Rattle.checkpoint.specs.Header.{AreSettings, IsHeader, header_bytes, settings_shape, stored_header, written_header}
use Rattle.checkpoint.specs.Lengths.{span_of, table_span}
use Rattle.checkpoint.specs.Saved.{SavedValue}
use Rattle.checkpoint.specs.Body.{IsSaved, IsBody, KeysFit, HasShortKeys, entry_bytes}
use Rattle.checkpoint.specs.Body.{table_bytes}
use Rattle.checkpoint.specs.Body.{body_bytes, greatest_sequence}
use Rattle.checkpoint.specs.Digest.{list_bytes, digested}
use Rattle.checkpoint.specs.Decoding.{BeginsWith, BeginsWithNone, ListFits, EntryFits}
use Rattle.checkpoint.specs.Decoding.{TableFits, SnapshotFits}
use Rattle.checkpoint.proofs.PartLengthLemmas.{part_length_of_entry}

-- one shard with tables of 512 entries, by bytes, dealt in turn
abbrev one_shard : StoreSettings
one_shard = record { shards = 1; capacity = 512; weigh = Bytes; deal = RoundRobin; grain = Byte }

abbrev settings_by : Grain → ℕ → ℕ → StoreSettings
settings_by grain shards capacity = record { shards = shards; capacity = capacity; weigh = Packets; deal = Free; grain = grain }

abbrev settings : ℕ → ℕ → StoreSettings
settings shards capacity = settings_by Byte shards capacity

pub high_byte_comes_first : number_bytes 4 258 ≡ 0 ∷ 0 ∷ 1 ∷ 2 ∷ []
unfolding number_bytes
high_byte_comes_first = refl

pub written_version_is_2 : version_number (written_header (settings 1 2)).version ≡ 2
written_version_is_2 = refl

pub number_1_is_the_first_version : version_of_number 1 ≡ First
number_1_is_the_first_version = refl

pub first_version_has_no_grain : grain_byte First Byte ≡ 0
first_version_has_no_grain = refl

pub half_bytes_have_4_bits : grain_byte Second Nibble ≡ 4
half_bytes_have_4_bits = refl

pub first_version_takes_no_half_bytes : VersionTakes First Nibble → ⊥
first_version_takes_no_half_bytes taken = cc taken

pub first_version_spells_no_half_bytes : IsHeader (record { version = First; settings = settings_by Nibble 1 512 }) → ⊥
first_version_spells_no_half_bytes is = cc is.taken

pub letters_are_HHHS : take 4 (header_bytes (written_header (settings 16 4096))) ≡ 0x48 ∷ 0x48 ∷ 0x48 ∷ 0x53 ∷ []
letters_are_HHHS = refl

-- the version, the shards, the capacity, the weighing, the dealing and the grain
pub header_names_the_settings : take 7 (drop 4 (header_bytes (written_header (settings 16 4096)))) ≡ 2 ∷ 16 ∷ 0x10 ∷ 0 ∷ 1 ∷ 2 ∷ 8 ∷ []
header_names_the_settings = refl

-- in the first version a zero follows the dealing
pub first_header_names_the_settings : take 7 (drop 4 (header_bytes (record { version = First; settings = settings 16 4096 })))
    ≡ 1 ∷ 16 ∷ 0x10 ∷ 0 ∷ 1 ∷ 2 ∷ 0 ∷ []
first_header_names_the_settings = refl

pub header_has_62_bytes : length (header_bytes (written_header (settings 16 4096))) ≡ 62
header_has_62_bytes = refl

-- a store of the first version, and one whose byte 6 is 2
pub byte_6_shows_the_first_version : (stored_header one_shard (0 ∷ 0 ∷ 0x48 ∷ 0x48 ∷ 0x48 ∷ 0x53 ∷ 1 ∷ [])).version ≡ First
byte_6_shows_the_first_version = refl

pub byte_6_shows_the_second_version : stored_header one_shard (0 ∷ 0 ∷ 0x48 ∷ 0x48 ∷ 0x48 ∷ 0x53 ∷ 2 ∷ []) ≡ written_header one_shard
byte_6_shows_the_second_version = refl

pub settings_have_at_most_16_shards : AreSettings (settings 17 512) → ⊥
settings_have_at_most_16_shards are = omega (arith, are.few)

pub half_bytes_have_at_most_1024_entries : AreSettings (settings_by Nibble 1 1025) → ⊥
half_bytes_have_at_most_1024_entries are = omega (arith, are.most)

pub span_of_the_smallest_store : span_of (settings 1 2) ≡ 1556
span_of_the_smallest_store = refl

pub span_of_the_greatest_store : span_of (settings 16 4096) ≡ 39326576
span_of_the_greatest_store = refl

pub span_by_half_bytes : span_of (settings_by Nibble 1 512) ≡ 996356
span_by_half_bytes = refl

-- an entry of key 5, count 7 and error 3
abbrev entry : Entry
entry = record { key = 5; count = 7; error = 3 }

pub entry_has_24_bytes : entry_bytes entry
    ≡ 0 ∷ 0 ∷ 0 ∷ 0 ∷ 0 ∷ 0 ∷ 0 ∷ 5 ∷ 0 ∷ 0 ∷ 0 ∷ 0 ∷ 0 ∷ 0 ∷ 0 ∷ 7 ∷ 0 ∷ 0 ∷ 0 ∷ 0 ∷ 0 ∷ 0 ∷ 0 ∷ 3 ∷ []
unfolding number_bytes
entry_has_24_bytes = refl

-- the total and the number of entries
pub table_begins_with_its_total : take 12 (table_bytes (entry ∷ [])) ≡ 0 ∷ 0 ∷ 0 ∷ 0 ∷ 0 ∷ 0 ∷ 0 ∷ 7 ∷ 0 ∷ 0 ∷ 0 ∷ 1 ∷ []
unfolding number_bytes
table_begins_with_its_total = refl

-- tables by whole bytes, of this many entries
abbrev shape : ℕ → TableShape
shape capacity = settings_shape (settings 1 capacity)

-- the first save of one shard with no record, under some digest
abbrev nothing_yet : ℕ → List ℕ → SavedValue
nothing_yet sequence digest = record {
  sequence = sequence;
  digest = digest;
  cut = record { shape = shape 2; shards = empty_snapshot (shape 2) ∷ [] };
}

-- 48 bytes, 8 for the position, and 12 for each of 25 tables: 356
pub length_counts_its_own_bytes : take 8 (body_bytes (nothing_yet 1 (number_bytes 32 0))) ≡ 0 ∷ 0 ∷ 0 ∷ 0 ∷ 0 ∷ 0 ∷ 1 ∷ 100 ∷ []
unfolding number_bytes no_entries
length_counts_its_own_bytes = refl

pub body_has_as_many_bytes : length (body_bytes (nothing_yet 1 (number_bytes 32 0))) ≡ 356
unfolding number_bytes no_entries
body_has_as_many_bytes = refl

pub sequence_0_is_not_saved : (digest : List ℕ) → IsSaved 1 (shape 2) (nothing_yet 0 digest) → ⊥
sequence_0_is_not_saved digest is = omega (arith, is.sequenced)

pub sequence_above_the_last_is_not_saved : (digest : List ℕ) → IsSaved 1 (shape 2) (nothing_yet (greatest_sequence + 1) digest) → ⊥
sequence_above_the_last_is_not_saved digest is = omega (arith, is.early)

pub digest_of_31_bytes_is_not_saved : IsSaved 1 (shape 2) (nothing_yet 1 (number_bytes 31 0)) → ⊥
unfolding number_bytes
digest_of_31_bytes_is_not_saved is = omega (arith, is.digest)

pub cut_of_another_capacity_is_not_saved : (digest : List ℕ) → IsSaved 1 (shape 4) (nothing_yet 1 digest) → ⊥
cut_of_another_capacity_is_not_saved digest is = omega (arith, ap (λ (s : TableShape). s.capacity) is.alike)

pub cut_of_one_shard_is_no_body_of_two : (digest bytes : List ℕ) → IsBody 2 (shape 2) (nothing_yet 1 digest) bytes → ⊥
cut_of_one_shard_is_no_body_of_two digest bytes is = omega (arith, is.is_saved.as_many)

-- a packet from 10.1.2.3 to 20.1.2.3 of 100 bytes
abbrev packet : RecordValue
packet = record { src = 0x0a010203; dst = 0x14010203; weight = 100 }

pub list_begins_with_its_length : list_bytes (packet ∷ [])
    ≡ 0 ∷ 0 ∷ 0 ∷ 1 ∷ 10 ∷ 1 ∷ 2 ∷ 3 ∷ 20 ∷ 1 ∷ 2 ∷ 3 ∷ 0 ∷ 0 ∷ 0 ∷ 100 ∷ []
unfolding number_bytes
list_begins_with_its_length = refl

pub digest_is_of_the_header_and_the_lists : drop 62 (digested (header_bytes (written_header one_shard)) ((packet ∷ []) ∷ [])) ≡ list_bytes (packet ∷ [])
unfolding number_bytes
digest_is_of_the_header_and_the_lists = refl

-- lists of other shards are another text
pub lists_are_not_joined : take 4 (drop 62 (digested (header_bytes (written_header (settings 2 4))) ([] ∷ (packet ∷ []) ∷ [])))
    ≡ 0 ∷ 0 ∷ 0 ∷ 0 ∷ []
unfolding number_bytes
lists_are_not_joined = refl

-- a key of 2^64 has no 8 bytes
pub keys_fit_8_bytes : HasShortKeys (record { key = 18446744073709551616; count = 7; error = 3 } ∷ []) → ⊥
keys_fit_8_bytes fit = let short = fit 0 entry (omega arith) in omega (arith, short)

pub keys_of_no_table_fit : KeysFit (record { shape = shape 2; position = 0; tables = [] })
keys_of_no_table_fit k d within = absurd (omega (arith, within))

pub table_of_512_entries_has_12300_bytes : table_span 512 ≡ 12300
table_of_512_entries_has_12300_bytes = refl

pub entry_fits : EntryFits entry
entry_fits = record { key = omega arith; count = omega arith; error = omega arith }

-- the bytes of an entry, and a byte 9 after them
pub bytes_begin_with_an_entry : BeginsWith entry_bytes EntryFits (entry_bytes entry ++ 9 ∷ []) entry (9 ∷ [])
bytes_begin_with_an_entry = record { fits = entry_fits; spelled = refl }

pub two_bytes_begin_with_no_entry : BeginsWithNone entry_bytes EntryFits (0 ∷ 5 ∷ [])
two_bytes_begin_with_no_entry value rest begins =
    omega (arith, ap length begins.spelled, length-append (entry_bytes value) rest, part_length_of_entry value)

pub no_entry_is_none : ListFits EntryFits 0 []
no_entry_is_none = record { as_many = refl; each = λ k d within. absurd (omega (arith, within)) }

pub empty_table_fits : TableFits 2 []
empty_table_fits = record {
  are_entries = record {
    is_table = record { fits = omega arith; ascending = tt; distinct = tt; small_errors = λ k d within. absurd (omega (arith, within)) };
    bounded = omega arith;
  };
  keys = λ k d within. absurd (omega (arith, within));
}

pub snapshot_of_another_capacity_does_not_fit : SnapshotFits (shape 4) (empty_snapshot (shape 2)) → ⊥
snapshot_of_another_capacity_does_not_fit fits = omega (arith, ap (λ (s : TableShape). s.capacity) fits.shape_is)
