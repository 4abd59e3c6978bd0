-- The state of a source in memory, as tests see it.
use Rattle.std.specs.Prelude.{ℕ, List, Bool, ◌==◌, min, length, drop}
use Rattle.std.specs.List.{list_any}
use Rattle.outside_io.specs.Failed.{next_count}

-- the remaining bytes, the numbers of the calls that fail, the most bytes of a call, the counts of calls and of faults
pub record SourceState : Type 0 where
  pub left : List ℕ
  pub fails : List ℕ
  pub step : ℕ
  pub calls : ℕ
  pub faults : ℕ

-- whether the next call is one of those that fail
abbrev pub call_fails : SourceState → Bool
call_fails s = list_any (λ number. number == s.calls) s.fails

-- how many bytes a call with this much room gives, if it doesn't fail
abbrev pub given : SourceState → ℕ → ℕ
given s room = min (min s.step room) (length s.left)

-- the source after a call that failed
abbrev pub after_fault : SourceState → SourceState
after_fault s = record s { calls = next_count s.calls; faults = next_count s.faults }

-- the source after a call that gave this many bytes
abbrev pub source_after : SourceState → ℕ → SourceState
source_after s count = record s { left = drop count s.left; calls = next_count s.calls }
