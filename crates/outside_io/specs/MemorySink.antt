-- The state of a sink in memory, as tests see it.
use Rattle.std.specs.Prelude.{ℕ, List, ◌-◌, Bool, ◌==◌, ◌||◌, ◌&&◌, nat_lt, min, ◌++◌, length, take}
use Rattle.std.specs.List.{list_any}
use Rattle.outside_io.specs.Failed.{next_count}

-- the bytes taken, the most bytes taken in all, the numbers of the calls that fail, the counts of calls and of faults
pub record SinkState : Type 0 where
  pub taken : List ℕ
  pub room : ℕ
  pub fails : List ℕ
  pub calls : ℕ
  pub faults : ℕ

-- how many bytes the sink can still take
abbrev pub room_left : SinkState → ℕ
room_left s = s.room - length s.taken

-- whether the next call fails for a piece of this length
abbrev pub write_fails : SinkState → ℕ → Bool
write_fails s count = list_any (λ number. number == s.calls) s.fails || (room_left s == 0 && nat_lt 0 count)

-- how many bytes of a piece of this length a call takes, if it doesn't fail
abbrev pub accepted : SinkState → ℕ → ℕ
accepted s count = min (room_left s) count

-- the sink after a call that failed
abbrev pub sink_after_fault : SinkState → SinkState
sink_after_fault s = record s { calls = next_count s.calls; faults = next_count s.faults }

-- the sink after a call that took this many of the bytes
abbrev pub sink_after : SinkState → List ℕ → ℕ → SinkState
sink_after s bytes count = record s { taken = s.taken ++ take count bytes; calls = next_count s.calls }
