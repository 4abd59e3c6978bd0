-- A table that bytes begin with.
use Rattle.std.proofs.Common.{◌≡◌, ℕ, ◌+◌, ◌*◌, ◌^◌, ◌<◌, ◌≤◌, List, ◌++◌, length, sym, ap, ◌∙◌}
use Rattle.std.proofs.Common.{arith}
use Rattle.std.specs.List.{flat_map}
use Rattle.std.proofs.lemmas.List.{length-append}
use Rattle.space_saving.specs.declared.entry.Entry.{Entry}
use Rattle.space_saving.specs.{table_total, AreTableEntries}
use Rattle.checkpoint.specs.Numbers.{number_bytes}
use Rattle.checkpoint.specs.Body.{entry_bytes, table_bytes}
use Rattle.checkpoint.specs.Decoding.{BeginsWith, ListFits, EntryFits, TableFits}
use Rattle.checkpoint.proofs.SpellingLemmas.{spellings_in_bytes_are_apart}
use Rattle.checkpoint.proofs.PartLengthLemmas.{part_length_of_entries, part_length_of_table}
use Rattle.checkpoint.proofs.PrefixFreeLemmas.{prefix_free_parts_regroup, prefix_free_entries_fit}

-- a table's bytes are at least 12
pub saved_table_is_long : (capacity : ℕ) (bytes : List ℕ) (entries : List Entry) (rest : List ℕ)
    → BeginsWith table_bytes (TableFits capacity) bytes entries rest → 12 ≤ length bytes
saved_table_is_long capacity bytes entries rest begins =
    omega (arith, ap length begins.spelled, length-append (table_bytes entries) rest, part_length_of_table entries)

-- what was read in front of a table's entries
pub record SavedTableFront (total count : ℕ) (entries : List Entry) (middle rest : List ℕ) : Type 0 where
  pub total_is : total ≡ table_total entries
  pub count_is : count ≡ length entries
  pub entries_begin : BeginsWith (flat_map entry_bytes) (ListFits EntryFits count) middle entries rest

pub saved_table_has_front : (capacity : ℕ) → capacity ≤ 4096 → (bytes after middle rest : List ℕ) (total count : ℕ) (entries : List Entry)
    → total < 2 ^ 64 → count < 2 ^ 32 → bytes ≡ number_bytes 8 total ++ after → after ≡ number_bytes 4 count ++ middle
    → BeginsWith table_bytes (TableFits capacity) bytes entries rest → SavedTableFront total count entries middle rest
saved_table_has_front capacity most bytes after middle rest total count entries small few is_total is_count begins =
    let grouped = sym is_total ∙ begins.spelled
    ∙ prefix_free_parts_regroup (number_bytes 8 (table_total entries)) (number_bytes 4 (length entries)) (flat_map entry_bytes entries) rest in
    let first = spellings_in_bytes_are_apart 8 total (table_total entries) _ _ small (omega (arith, begins.fits.are_entries.bounded)) grouped in
    let second = spellings_in_bytes_are_apart 4 count (length entries) _ _ few (omega (arith, begins.fits.are_entries.is_table.fits))
    (sym is_count ∙ first.1) in
    record {
      total_is = first.0;
      count_is = second.0;
      entries_begin = record {
        fits = record { as_many = sym second.0; each = prefix_free_entries_fit capacity entries begins.fits };
        spelled = second.1;
      };
    }

-- a table that was read
pub saved_table_was_decoded : (capacity : ℕ) (bytes after middle rest : List ℕ) (total count : ℕ) (entries : List Entry)
    → AreTableEntries capacity entries → total ≡ table_total entries → bytes ≡ number_bytes 8 total ++ after
    → after ≡ number_bytes 4 count ++ middle → BeginsWith (flat_map entry_bytes) (ListFits EntryFits count) middle entries rest
    → BeginsWith table_bytes (TableFits capacity) bytes entries rest
saved_table_was_decoded capacity bytes after middle rest total count entries are total_is is_total is_count begins = record {
  fits = record { are_entries = are; keys = λ k d within. (begins.fits.each k d within).key };
  spelled =
      is_total ∙ ap (λ (l : List ℕ). number_bytes 8 total ++ l) (is_count ∙ ap (λ (l : List ℕ). number_bytes 4 count ++ l) begins.spelled)
      ∙ ap (λ (n : ℕ). number_bytes 8 total ++ (number_bytes 4 n ++ (flat_map entry_bytes entries ++ rest))) (sym begins.fits.as_many)
      ∙ ap (λ (n : ℕ). number_bytes 8 n ++ (number_bytes 4 (length entries) ++ (flat_map entry_bytes entries ++ rest))) total_is
      ∙ sym (prefix_free_parts_regroup (number_bytes 8 (table_total entries)) (number_bytes 4 (length entries)) (flat_map entry_bytes entries) rest);
}

-- entries have 24 bytes each
pub saved_table_bytes_are_counted : (count : ℕ) (bytes : List ℕ) (entries : List Entry) (rest : List ℕ)
    → BeginsWith (flat_map entry_bytes) (ListFits EntryFits count) bytes entries rest → length bytes ≡ 24 * count + length rest
saved_table_bytes_are_counted count bytes entries rest begins =
    omega (arith, ap length begins.spelled, length-append (flat_map entry_bytes entries) rest, part_length_of_entries entries, begins.fits.as_many)
