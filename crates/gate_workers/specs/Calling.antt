-- What a caller that reports round after round knows and answers.
use Rattle.std.specs.Prelude.{ℕ, ◌≡◌, ◌<◌, ◌≤◌, List, [], ◌∷◌, map, fold, length, All, None, slice_index}
use Rattle.std.specs.List.Sorted.{IsNonDecreasing}
use Rattle.shard_state.specs.{CutValue, IsShard, ShardValue, core_shape, snapshot_of, shard_state_at}
use Rattle.hhh_output.specs.{IsReportOf}
use Rattle.hhh_report.specs.declared.report.Report.{Report}
use Rattle.hhh_report.specs.declared.reports.Reported.{Reported}
use Rattle.position_words.specs.declared.view.Trail.{Trail}
use Rattle.position_words.specs.declared.view.View.{View}
use Rattle.pass_tokens.specs.{IsOddWord, ShardRead, after_reads, seen_in}

-- shards of the pure core at these positions
abbrev pub states_at : List ShardValue → List ℕ → List ShardValue
states_at [] positions = []
states_at (shard ∷ rest) [] = []
states_at (shard ∷ rest) (position ∷ positions) = shard_state_at position shard ∷ states_at rest positions

-- the cut of the pure core at these positions
abbrev pub cut_at : List ShardValue → List ℕ → CutValue
cut_at opening positions = record {
  shape = core_shape opening;
  shards = map snapshot_of (states_at opening positions);
}

-- a cut is that of the pure core at these positions
pub record IsCoreCut (opening : List ShardValue) (positions : List ℕ) (cut : CutValue) : Type 0 where
  pub as_many : length positions ≡ length opening
  pub kept : All IsShard (states_at opening positions)
  pub is : cut ≡ cut_at opening positions

-- a report at its own positions: that of the cut that the pure core has there
pub record IsCoreReport (opening : List ShardValue) (phi : ℕ) (report : Report) : Type 0 where
  pub as_many : length report.positions ≡ length opening
  pub kept : All IsShard (states_at opening report.positions)
  pub is : IsReportOf (cut_at opening report.positions) phi report

-- the positions that one read of each shard met
abbrev pub positions_read : List ShardRead → List ℕ
positions_read reads = map (λ read. read.position) reads

-- what trails have after rounds of reads
abbrev pub after_calls : List Trail → List (List ShardRead) → List Trail
after_calls trails rounds = fold after_reads trails rounds

-- the positions of a shard, round after round
abbrev pub shard_positions : ℕ → List (List ShardRead) → List ℕ
shard_positions shard rounds = map (λ reads. slice_index (positions_read reads) shard) rounds

-- a caller's rounds: in each it read each shard once, and reported on what it read. The positions of its reports are
-- those of its reads, in order and no others; they never fall, and are at least what it had seen
pub record Calls (opening : List ShardValue) (phi rounds : ℕ) (before now : View) (reports : List Reported)
    : Type 0 where
  pub reads : List (List ShardRead)
  pub as_many : length reads ≡ rounds
  pub odd : All (λ round. All (λ read. All IsOddWord read.losses) round) reads
  pub view : now ≡ record before { trails = after_calls before.trails reads }
  pub positions : map (λ reported. reported.report.positions) reports ≡ map positions_read reads
  pub never_fall : (shard : ℕ) → shard < length opening
      → IsNonDecreasing (seen_in shard before ∷ shard_positions shard reads)
  pub each : All (λ reported. IsCoreReport opening phi reported.report) reports
  pub unsaved : All (λ reported. reported.saved ≡ None) reports

-- one read of each shard, and no other step
pub record ReadsOnce (opening : List ShardValue) (before now : View) : Type 0 where
  pub reads : List ShardRead
  pub as_many : length reads ≡ length opening
  pub odd : All (λ read. All IsOddWord read.losses) reads
  pub view : now ≡ record before { trails = after_reads before.trails reads }

-- rounds of reads, at most this many, and no other step: each round read each shard once
pub record ReadsInRounds (opening : List ShardValue) (rounds : ℕ) (before now : View) : Type 0 where
  pub reads : List (List ShardRead)
  pub few : length reads ≤ rounds
  pub whole : All (λ round. length round ≡ length opening) reads
  pub odd : All (λ round. All (λ read. All IsOddWord read.losses) round) reads
  pub view : now ≡ record before { trails = after_calls before.trails reads }
