-- How many bytes the parts of a body have.
use Rattle.std.proofs.Common.{◌≡◌, ℕ, ◌+◌, ◌*◌, ◌≤◌, List, [], ◌∷◌, ◌++◌, length, All, refl, ap, ◌∙◌, arith}
use Rattle.std.specs.List.{flat_map}
use Rattle.std.proofs.lemmas.List.{length-append}
use Rattle.std.proofs.lemmas.List.Concat.{flat_map-cons, length-flat_map}
use Rattle.std.proofs.lemmas.List.Sums.{sum_by-le}
use Rattle.space_saving.specs.declared.entry.Entry.{Entry}
use Rattle.space_saving.specs.{table_total}
use Rattle.checkpoint.specs.Numbers.{number_bytes}
use Rattle.checkpoint.specs.Body.{entry_bytes, table_bytes}
use Rattle.checkpoint.proofs.NumberBytesLemmas.{length-number_bytes}

pub part_length_of_entry : (entry : Entry) → length (entry_bytes entry) ≡ 24
part_length_of_entry entry =
    let key = number_bytes 8 entry.key in
    let count = number_bytes 8 entry.count in
    let error = number_bytes 8 entry.error in
    omega (
      arith,
      length-append key (count ++ error),
      length-append count error,
      length-number_bytes 8 entry.key,
      length-number_bytes 8 entry.count,
      length-number_bytes 8 entry.error,
    )

pub part_length_of_entries : (entries : List Entry) → length (flat_map entry_bytes entries) ≡ 24 * length entries
part_length_of_entries [] = refl
part_length_of_entries (first ∷ rest) =
    ap length (flat_map-cons entry_bytes first rest) ∙ length-append (entry_bytes first) (flat_map entry_bytes rest)
    ∙ omega (arith, part_length_of_entry first, part_length_of_entries rest)

pub part_length_of_table : (entries : List Entry) → length (table_bytes entries) ≡ 12 + 24 * length entries
part_length_of_table entries =
    let total = number_bytes 8 (table_total entries) in
    let count = number_bytes 4 (length entries) in
    let all = flat_map entry_bytes entries in
    omega (
      arith,
      length-append total (count ++ all),
      length-append count all,
      length-number_bytes 8 (table_total entries),
      length-number_bytes 4 (length entries),
      part_length_of_entries entries,
    )

-- values of at most this many bytes each
pub part_length_is_at_most : {A : Type 0} (spell : A → List ℕ) (most : ℕ) (xs : List A) → All (λ x. length (spell x) ≤ most) xs
    → length (flat_map spell xs) ≤ length xs * most
part_length_is_at_most spell most xs each =
    omega (arith, length-flat_map spell xs, sum_by-le (λ x. length (spell x)) most xs each)
