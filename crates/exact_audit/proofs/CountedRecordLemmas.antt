-- The records before positions, shard by shard, and each counted record with its depths.
use Rattle.std.proofs.Common.{◌≡◌, ℕ, ◌+◌, ◌<◌, ◌≤◌, zero, suc, List, [], ◌∷◌, ◌++◌, length, take, get_or, refl, sym}
use Rattle.std.proofs.Common.{ap, ◌∙◌}
use Rattle.std.proofs.Common.{arith, append_assoc, append-nil, add-one}
use Rattle.std.proofs.lemmas.List.{map-append, length-take}
use Rattle.std.proofs.lemmas.List.Elements.{All-push}
use Rattle.prefix_lattice.specs.{RecordValue, PrefixValue}
use Rattle.prefix_lattice.specs.declared.grain.Grain.{Grain}
use Rattle.hhh_report.specs.{records_before, AreWithinLists}
use Rattle.exact_audit.specs.declared.counted.Counted.{Counted}
use Rattle.exact_audit.specs.Counted.{part_at}
use Rattle.exact_audit.specs.Depths.{AreDepths}
use Rattle.exact_audit.specs.NodeSums.{AreCountedIn}

-- positions are within lists where there are as many, and each is within its list
pub counted_record_positions_fit : (positions : List ℕ) (lists : List (List RecordValue))
    → length positions ≡ length lists
    → ((place : ℕ) → place < length lists → get_or positions place 0 ≤ length (get_or lists place []))
    → AreWithinLists positions lists
counted_record_positions_fit [] [] same each = tt
counted_record_positions_fit [] (list ∷ lists) same each = absurd (omega arith)
counted_record_positions_fit (position ∷ positions) [] same each = absurd (omega arith)
counted_record_positions_fit (position ∷ positions) (list ∷ lists) same each = (
  each 0 (omega arith),
  counted_record_positions_fit positions lists (omega arith) (λ place within. each (suc place) (omega arith)),
)

-- and positions within lists are as many, each within its list
pub counted_record_positions_as_many : (positions : List ℕ) (lists : List (List RecordValue))
    → AreWithinLists positions lists
    → length positions ≡ length lists
counted_record_positions_as_many [] [] within = refl
counted_record_positions_as_many [] (list ∷ lists) within = absurd within
counted_record_positions_as_many (position ∷ positions) [] within = absurd within
counted_record_positions_as_many (position ∷ positions) (list ∷ lists) within =
    let rest = counted_record_positions_as_many positions lists within.1 in omega arith

pub each_counted_record_position_fits : (positions : List ℕ) (lists : List (List RecordValue)) (place : ℕ)
    → AreWithinLists positions lists
    → place < length lists → get_or positions place 0 ≤ length (get_or lists place [])
each_counted_record_position_fits [] [] place within less = absurd (omega arith)
each_counted_record_position_fits [] (list ∷ lists) place within less = absurd within
each_counted_record_position_fits (position ∷ positions) [] place within less = absurd within
each_counted_record_position_fits (position ∷ positions) (list ∷ lists) zero within less = within.0
each_counted_record_position_fits (position ∷ positions) (list ∷ lists) (suc place) within less =
    each_counted_record_position_fits positions lists place within.1 (omega arith)

-- a part is no longer than its list
pub counted_record_part_fits_list : (lists : List (List RecordValue)) (positions : List ℕ) (shard : ℕ)
    → length (part_at lists positions shard) ≤ length (get_or lists shard [])
counted_record_part_fits_list lists positions shard =
    omega (arith, length-take (get_or positions shard 0) (get_or lists shard []))

-- one more shard
counted_records_gain_shard : (lists : List (List RecordValue)) (positions : List ℕ) (shard : ℕ)
    → length positions ≡ length lists → shard < length lists
    → records_before (take (suc shard) lists) (take (suc shard) positions)
    ≡ records_before (take shard lists) (take shard positions) ++ part_at lists positions shard
counted_records_gain_shard [] positions shard same within = absurd (omega arith)
counted_records_gain_shard (list ∷ lists) [] shard same within = absurd (omega arith)
counted_records_gain_shard (list ∷ lists) (position ∷ positions) zero same within = append-nil (take position list)
counted_records_gain_shard (list ∷ lists) (position ∷ positions) (suc shard) same within =
    ap (λ records. take position list ++ records)
    (counted_records_gain_shard lists positions shard (omega arith) (omega arith))
    ∙ sym (append_assoc (take position list) (records_before (take shard lists) (take shard positions))
    (part_at lists positions shard))

pub counted_records_gain_part : (lists : List (List RecordValue)) (positions : List ℕ) (shard : ℕ)
    → length positions ≡ length lists → shard < length lists
    → records_before (take (shard + 1) lists) (take (shard + 1) positions)
    ≡ records_before (take shard lists) (take shard positions) ++ part_at lists positions shard
counted_records_gain_part lists positions shard same within =
    rw add-one (counted_records_gain_shard lists positions shard same within)

-- one more counted record
pub AreCountedIn-push : {grain : Grain} (lines : List PrefixValue) (records : List RecordValue) (counted : List Counted) (one : Counted)
    → AreDepths grain lines one.rec one.depths → AreCountedIn grain lines records counted
    → AreCountedIn grain lines (records ++ one.rec ∷ []) (counted ++ one ∷ [])
AreCountedIn-push {grain} lines records counted one depths before = record {
  prefixes = before.prefixes;
  same = map-append (λ (c : Counted). c.rec) counted (one ∷ []) ∙ ap (λ rs. rs ++ one.rec ∷ []) before.same;
  depths = All-push (λ (c : Counted). AreDepths grain lines c.rec c.depths) counted one before.depths depths;
}
