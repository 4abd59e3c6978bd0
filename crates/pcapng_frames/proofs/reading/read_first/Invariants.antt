use Rattle.std.proofs.Common.{length, ◌-◌, ◌≡◌, ◌≤◌, take}
use Rattle.std.specs.Io.KnownBytes.{Consumes}
use Rattle.pcapng_frames.proofs.reading.read_first.Given as goal

-- so many bytes were read, and no call of the source failed
abbrev pub invariant-loop-came : goal.invariant-loop-came
invariant-loop-came g l = record {
  room : length l.first ≡ length l.fn.first;
  fits : l.came ≤ length l.first;
  read : Consumes (g.S.Source.left l.fn.source) (g.S.Source.left l.source) (take l.came l.first);
  kept : g.S.Source.faults l.source ≡ g.S.Source.faults l.fn.source;
}

abbrev pub decreases-loop-came : goal.decreases-loop-came
decreases-loop-came g l = length l.initial.first - l.came
