-- The state of a disk in memory, as tests see it.
use Rattle.std.specs.Prelude.{ℕ, ◌+◌, Bool, ◌==◌, ◌||◌, ◌&&◌, not, nat_le, nat_lt, if◌then◌else◌, List, ◌∷◌, length}
use Rattle.std.specs.Prelude.{Option, Some, None, false}
use Rattle.std.specs.List.{list_any}
use Rattle.outside_io.specs.{next_count}
use Rattle.slot_disk.specs.Recorded.{RecordedStep, Began, reading_of, recorded_bytes, IsImage}
use Rattle.slot_disk.specs.Recorded.{WasImage}

-- the most bytes of the disk, the most bytes that its record of writes takes, the first bytes, the record with its
-- newest step first, the call at which the fuse blows, the numbers of the calls that fail, the counts of calls and faults
pub record DiskState : Type 0 where
  pub room : ℕ
  pub log : ℕ
  pub first : List ℕ
  pub steps : List RecordedStep
  pub fuse : Option ℕ
  pub fails : List ℕ
  pub calls : ℕ
  pub faults : ℕ

-- how many writes and syncs a record takes
abbrev pub most_steps : ℕ
most_steps = 1024

-- the fuse blows at this call
abbrev pub fuse_blows_at : Option ℕ → ℕ → Bool
fuse_blows_at None call = false
fuse_blows_at (Some fuse) call = fuse == call

-- the fuse has blown at this call, or before it
abbrev pub fuse_has_blown : Option ℕ → ℕ → Bool
fuse_has_blown None call = false
fuse_has_blown (Some fuse) call = nat_le fuse call

-- whether the next call fails whatever it is
abbrev pub call_fails : DiskState → Bool
call_fails s = list_any (λ number. number == s.calls) s.fails || fuse_has_blown s.fuse s.calls

-- whether a write of this many bytes at this offset fits the disk and its record
abbrev pub write_fits : DiskState → ℕ → ℕ → Bool
write_fits s place count =
    nat_le (place + count) s.room && (nat_lt (length s.steps) most_steps && nat_le (recorded_bytes s.steps + count) s.log)

-- whether the next call fails where it is a sync
abbrev pub sync_fails : DiskState → Bool
sync_fails s = call_fails s || not (nat_lt (length s.steps) most_steps)

-- whether the next call fails where it is such a write
abbrev pub write_fails : DiskState → ℕ → ℕ → Bool
write_fails s place count = call_fails s || not (write_fits s place count)

-- the disk after a call that only counts
abbrev pub after_call : DiskState → DiskState
after_call s = record s { calls = next_count s.calls }

-- the disk after a call that failed and did nothing
abbrev pub after_fault : DiskState → DiskState
after_fault s = record s { calls = next_count s.calls; faults = next_count s.faults }

-- the disk with one more step in its record
abbrev pub with_step : DiskState → RecordedStep → DiskState
with_step s step = record s { steps = step ∷ s.steps }

-- the disk after a write that failed: at the fuse, where it fits, it was begun, and else nothing was written
abbrev pub after_failed : DiskState → ℕ → List ℕ → DiskState
after_failed s place piece =
    if fuse_blows_at s.fuse s.calls && write_fits s place (length piece) then with_step (after_fault s)
    (Began place piece) else after_fault s

-- what a read gives
abbrev pub disk_reads : DiskState → Option (List ℕ)
disk_reads s = Some (reading_of s.first s.steps)

-- a crash now may leave this image
abbrev pub disk_now : DiskState → List ℕ → Type 0
disk_now s = IsImage s.first s.steps

-- how many steps there were
abbrev pub disk_moment : DiskState → ℕ
disk_moment s = length s.steps

-- a crash since that many steps may have left this image
abbrev pub disk_since : DiskState → ℕ → List ℕ → Type 0
disk_since s = WasImage s.first s.steps
