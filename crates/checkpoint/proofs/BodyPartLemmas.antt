-- A body, and the parts that it is read in.
use Rattle.std.proofs.Common.{◌≡◌, ℕ, ◌+◌, ◌*◌, ◌^◌, ◌<◌, ◌≤◌, List, [], ◌++◌, length, All, refl, sym, ap}
use Rattle.std.proofs.Common.{◌∙◌, append_assoc, arith}
use Rattle.std.specs.List.{flat_map}
use Rattle.std.proofs.lemmas.List.{length-append, append-nil}
use Rattle.prefix_lattice.specs.{node_count}
use Rattle.shard_state.specs.{SnapshotValue, CutValue, IsCut, TableShape}
use Rattle.checkpoint.specs.Numbers.{number_bytes}
use Rattle.checkpoint.specs.Saved.{SavedValue}
use Rattle.checkpoint.specs.Body.{KeysFit, IsSaved, IsBody, content_bytes, snapshot_bytes}
use Rattle.checkpoint.specs.Body.{table_bytes}
use Rattle.checkpoint.specs.Lengths.{body_span, snapshot_span, table_span}
use Rattle.space_saving.specs.declared.entry.Entry.{Entry}
use Rattle.checkpoint.specs.Decoding.{BeginsWith, ListFits, SnapshotFits, TableFits}
use Rattle.checkpoint.proofs.PartLengthLemmas.{part_length_is_at_most, part_length_of_table}
use Rattle.checkpoint.proofs.PrefixFreeLemmas.{prefix_free_tables_fit}
use Rattle.checkpoint.proofs.NumberBytesLemmas.{length-number_bytes}
use Rattle.checkpoint.proofs.SpellingLemmas.{spellings_in_bytes_are_apart, spelling_front_is_same}

-- the snapshots of a cut that may be saved
pub body_parts_fit_shards : (shards : ℕ) (shape : TableShape) (saved : SavedValue) → IsSaved shards shape saved
    → ListFits (SnapshotFits shape) shards saved.cut.shards
body_parts_fit_shards shards shape saved is = record {
  as_many = is.as_many;
  each = λ k d within. record {
    is_snapshot = is.cut.kept k d within;
    shape_is = is.cut.alike k d within ∙ is.alike;
    keys = is.keys k d within;
  };
}

-- the spellings of those snapshots, with nothing after them
pub body_part_spells_shards : (shards : ℕ) (shape : TableShape) (saved : SavedValue) → IsSaved shards shape saved
    → BeginsWith (flat_map snapshot_bytes) (ListFits (SnapshotFits shape) shards)
    (flat_map snapshot_bytes saved.cut.shards) saved.cut.shards []
body_part_spells_shards shards shape saved is = record {
  fits = body_parts_fit_shards shards shape saved is;
  spelled = sym (append-nil (flat_map snapshot_bytes saved.cut.shards));
}

-- a body's bytes are at least 48
pub body_parts_are_long : (shards : ℕ) (shape : TableShape) (saved : SavedValue) (bytes : List ℕ) → IsBody shards shape saved bytes
    → (48 ≤ length bytes) × (length bytes ≡ 8 + length (content_bytes saved))
body_parts_are_long shards shape saved bytes is =
    let all = flat_map snapshot_bytes saved.cut.shards in
    let sequence = number_bytes 8 saved.sequence in
    let whole : length bytes ≡ 8 + length (content_bytes saved) =
    omega (
      arith,
      ap length is.spelled,
      length-append (number_bytes 8 (8 + length (content_bytes saved))) (content_bytes saved),
      length-number_bytes 8 (8 + length (content_bytes saved)),
    ) in (
      omega (
        arith,
        whole,
        length-append sequence (saved.digest ++ all),
        length-append saved.digest all,
        length-number_bytes 8 saved.sequence,
        is.is_saved.digest,
      ),
      whole,
    )

-- the length in front of a body
pub record BodyFrontPart (saved : SavedValue) (count : ℕ) (bytes after : List ℕ) : Type 0 where
  pub count_is : count ≡ length bytes
  pub after_is : after ≡ content_bytes saved

pub body_has_front_part : (shards : ℕ) (shape : TableShape) (saved : SavedValue) (bytes after : List ℕ) (count : ℕ) → length bytes < 2 ^ 64
    → count < 2 ^ 64 → bytes ≡ number_bytes 8 count ++ after → IsBody shards shape saved bytes
    → BodyFrontPart saved count bytes after
body_has_front_part shards shape saved bytes after count small few is_count is =
    let long = body_parts_are_long shards shape saved bytes is in
    let first = spellings_in_bytes_are_apart 8 count (8 + length (content_bytes saved)) _ _ few (omega (arith, long.1, small))
    (sym is_count ∙ is.spelled) in
    record { count_is = first.0 ∙ sym long.1; after_is = first.1 }

-- the sequence and the digest after it
pub record BodyHeadParts (shards : ℕ) (shape : TableShape) (saved : SavedValue) (sequence : ℕ) (digest rest : List ℕ) : Type 0 where
  pub sequence_is : sequence ≡ saved.sequence
  pub digest_is : digest ≡ saved.digest
  pub shards_begin : BeginsWith (flat_map snapshot_bytes) (ListFits (SnapshotFits shape) shards) rest saved.cut.shards []

pub body_has_sequence_part : (shards : ℕ) (shape : TableShape) (saved : SavedValue) (after middle : List ℕ) (sequence : ℕ) → sequence < 2 ^ 64
    → IsSaved shards shape saved → after ≡ content_bytes saved → after ≡ number_bytes 8 sequence ++ middle
    → (sequence ≡ saved.sequence) × (middle ≡ saved.digest ++ flat_map snapshot_bytes saved.cut.shards)
body_has_sequence_part shards shape saved after middle sequence small is is_content is_sequence =
    spellings_in_bytes_are_apart 8 sequence saved.sequence _ _ small (omega (arith, is.early)) (sym is_sequence ∙ is_content)

pub body_has_head_parts : (shards : ℕ) (shape : TableShape) (saved : SavedValue) (after middle rest digest : List ℕ) (sequence : ℕ) → sequence < 2 ^ 64
    → IsSaved shards shape saved → after ≡ content_bytes saved → after ≡ number_bytes 8 sequence ++ middle
    → length digest ≡ 32 → middle ≡ digest ++ rest → BodyHeadParts shards shape saved sequence digest rest
body_has_head_parts shards shape saved after middle rest digest sequence small is is_content is_sequence long is_digest =
    let first = body_has_sequence_part shards shape saved after middle sequence small is is_content is_sequence in
    let second = spelling_front_is_same digest saved.digest rest (flat_map snapshot_bytes saved.cut.shards) (long ∙ sym is.digest)
    (sym is_digest ∙ first.1) in
    record {
      sequence_is = first.0;
      digest_is = second.0;
      shards_begin = record {
        fits = body_parts_fit_shards shards shape saved is;
        spelled = second.1 ∙ sym (append-nil (flat_map snapshot_bytes saved.cut.shards));
      };
    }

-- a body that was read
pub body_is_read_from_parts : (shards : ℕ) (shape : TableShape) (bytes after middle rest digest : List ℕ) (count sequence : ℕ) (cut : CutValue)
    → bytes ≡ number_bytes 8 count ++ after → after ≡ number_bytes 8 sequence ++ middle → middle ≡ digest ++ rest
    → count ≡ length bytes → length digest ≡ 32 → 1 ≤ sequence → sequence ≤ 2 ^ 62 → IsCut cut → cut.shape ≡ shape
    → BeginsWith (flat_map snapshot_bytes) (ListFits (SnapshotFits shape) shards) rest cut.shards []
    → IsBody shards shape (record { sequence = sequence; digest = digest; cut = cut }) bytes
body_is_read_from_parts shards shape bytes after middle rest digest count sequence cut is_count is_sequence is_digest whole long first last is_cut alike
    begins =
    let saved : SavedValue = record { sequence = sequence; digest = digest; cut = cut } in
    let is_rest : rest ≡ flat_map snapshot_bytes cut.shards = begins.spelled ∙ append-nil (flat_map snapshot_bytes cut.shards) in
    let content : after ≡ content_bytes saved =
    is_sequence ∙ ap (λ (l : List ℕ). number_bytes 8 sequence ++ l) (is_digest ∙ ap (λ (l : List ℕ). digest ++ l) is_rest) in
    let counted : count ≡ 8 + length (content_bytes saved) =
    whole ∙ omega (arith, ap length is_count, length-append (number_bytes 8 count) after, length-number_bytes 8 count, ap length content) in
    record {
      is_saved = record {
        sequenced = first;
        early = last;
        digest = long;
        as_many = begins.fits.as_many;
        alike = alike;
        cut = is_cut;
        keys = λ k d within. (begins.fits.each k d within).keys;
      };
      spelled = is_count ∙ ap (λ (l : List ℕ). number_bytes 8 count ++ l) content
          ∙ ap (λ (n : ℕ). number_bytes 8 n ++ content_bytes saved) counted;
    }

-- a body that was written
pub body_is_made_from_parts : (sequence : ℕ) (digest : List ℕ) (cut : CutValue) (count : ℕ) (first second third last : List ℕ)
    → 1 ≤ sequence → sequence ≤ 2 ^ 62 → length digest ≡ 32 → IsCut cut → count ≡ 48 + length (flat_map snapshot_bytes cut.shards)
    → first ≡ number_bytes 8 count → second ≡ first ++ number_bytes 8 sequence → third ≡ second ++ digest
    → last ≡ third ++ flat_map snapshot_bytes cut.shards → All KeysFit cut.shards
    → IsBody (length cut.shards) cut.shape (record { sequence = sequence; digest = digest; cut = cut }) last
body_is_made_from_parts sequence digest cut count first second third last least most long is_cut counted is_first is_second is_third is_last keys =
    let saved : SavedValue = record { sequence = sequence; digest = digest; cut = cut } in
    let all = flat_map snapshot_bytes cut.shards in
    let lengths : count ≡ 8 + length (content_bytes saved) =
    omega (
      arith,
      counted,
      length-append (number_bytes 8 sequence) (digest ++ all),
      length-append digest all,
      length-number_bytes 8 sequence,
      long,
    ) in
    let grouped : ((number_bytes 8 count ++ number_bytes 8 sequence) ++ digest) ++ all ≡ number_bytes 8 count ++ content_bytes saved =
    append_assoc (number_bytes 8 count ++ number_bytes 8 sequence) digest all
    ∙ append_assoc (number_bytes 8 count) (number_bytes 8 sequence) (digest ++ all) in
    record {
      is_saved = record {
        sequenced = least;
        early = most;
        digest = long;
        as_many = refl;
        alike = refl;
        cut = is_cut;
        keys = keys;
      };
      spelled = is_last ∙ ap (λ (l : List ℕ). l ++ all) is_third ∙ ap (λ (l : List ℕ). (l ++ digest) ++ all) is_second
          ∙ ap (λ (l : List ℕ). ((l ++ number_bytes 8 sequence) ++ digest) ++ all) is_first ∙ grouped
          ∙ ap (λ (n : ℕ). number_bytes 8 n ++ content_bytes saved) lengths;
    }

-- a table of a capacity has at most as many bytes as its span
body_part_of_table_fits : (capacity : ℕ) (entries : List Entry) → TableFits capacity entries
    → length (table_bytes entries) ≤ table_span capacity
body_part_of_table_fits capacity entries fits = omega (arith, part_length_of_table entries, fits.are_entries.is_table.fits)

-- a snapshot of a shape has at most this many bytes
body_part_of_shard_fits : (shape : TableShape) (snapshot : SnapshotValue) → SnapshotFits shape snapshot
    → length (snapshot_bytes snapshot) ≤ snapshot_span shape
body_part_of_shard_fits shape snapshot fits =
    let each = prefix_free_tables_fit shape snapshot fits in
    omega (
      arith,
      length-append (number_bytes 8 snapshot.position) (flat_map table_bytes snapshot.tables),
      length-number_bytes 8 snapshot.position,
      ap (λ (n : ℕ). n * table_span shape.capacity) (fits.is_snapshot.as_many ∙ ap (λ (s : TableShape). node_count s.grain) fits.shape_is),
      part_length_is_at_most table_bytes (table_span shape.capacity) snapshot.tables
          (λ k d within. body_part_of_table_fits shape.capacity _ (each k d within)),
    )

-- a body has at most as many bytes as the span
pub body_parts_fit_span : (shards : ℕ) (shape : TableShape) (saved : SavedValue) (bytes : List ℕ) → IsBody shards shape saved bytes
    → length bytes ≤ body_span shards shape
body_parts_fit_span shards shape saved bytes is =
    let fits = body_parts_fit_shards shards shape saved is.is_saved in
    let all = flat_map snapshot_bytes saved.cut.shards in
    let sequence = number_bytes 8 saved.sequence in
    let long = body_parts_are_long shards shape saved bytes is in
    let content : length (content_bytes saved) ≡ 40 + length all =
    omega (
      arith,
      length-append sequence (saved.digest ++ all),
      length-append saved.digest all,
      length-number_bytes 8 saved.sequence,
      is.is_saved.digest,
    ) in
    let few : length all ≤ length saved.cut.shards * (snapshot_span shape) =
    part_length_is_at_most snapshot_bytes (snapshot_span shape) saved.cut.shards
    (λ k d within. body_part_of_shard_fits shape _ (fits.each k d within)) in
    let counted : length saved.cut.shards * (snapshot_span shape) ≡ shards * (snapshot_span shape) =
    ap (λ (n : ℕ). n * (snapshot_span shape)) fits.as_many in
    omega (arith, long.1, content, few, counted)
