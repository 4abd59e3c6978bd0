-- How a disk in memory keeps its record, which no public contract cites.
use Rattle.std.specs.Prelude.{ℕ, ◌≡◌, ◌≤◌, List, [], ◌∷◌, length, reverse, take, drop}
use Rattle.slot_disk.specs.MemoryDisk.{most_steps}
use Rattle.slot_disk.specs.Recorded.{RecordedStep, Wrote, Began, Synced, reading_of, recorded_bytes}
use Rattle.slot_disk.specs.declared.step_entry.StepKind.{StepKind}
use Rattle.slot_disk.specs.declared.step_entry.StepKind.TheVariants as kind
use Rattle.slot_disk.specs.declared.step_entry.StepEntry.{StepEntry}

-- the step of a kind at an offset, with these bytes
abbrev pub entry_step : StepKind → ℕ → List ℕ → RecordedStep
entry_step kind.Wrote place piece = Wrote place piece
entry_step kind.Began place piece = Began place piece
entry_step kind.Synced place piece = Synced

-- the steps of entries, newest first, whose bytes are in one list: those of an entry begin at its start, and end
-- where those of the next newer one begin
abbrev pub entry_steps : List StepEntry → List ℕ → List RecordedStep
entry_steps [] log = []
entry_steps (entry ∷ earlier) log = entry_step entry.kind entry.place (drop entry.start log) ∷ entry_steps earlier (take entry.start log)

-- the steps of entries in a list with the newest last
abbrev pub newest_last : List StepEntry → List ℕ → List RecordedStep
newest_last entries log = entry_steps (reverse entries) log

-- what a disk keeps besides its record: the bytes that a read gives, and lists that stay within their room
pub record HasEntries (room log : ℕ) (first bytes : List ℕ) (entries : List StepEntry) (written : List ℕ) : Type 0 where
  pub contents : bytes ≡ reading_of first (newest_last entries written)
  pub counted : recorded_bytes (newest_last entries written) ≡ length written
  pub fits : length bytes ≤ room
  pub as_many : length (newest_last entries written) ≡ length entries
  pub few : length entries ≤ most_steps
  pub logged : length written ≤ log
