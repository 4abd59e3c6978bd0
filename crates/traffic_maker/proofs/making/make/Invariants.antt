use Rattle.std.proofs.Common.{◌≡◌, ◌-◌, ◌≤◌, ◌*◌}
use Rattle.std.specs.Io.KnownBytes.{Appends}
use Rattle.traffic_maker.specs.Making.{made_capture}
use Rattle.traffic_maker.specs.Draws.{state_after}
use Rattle.traffic_maker.proofs.making.make.Given as goal

-- the capture of the frames so far is written, their numbers are drawn, and no call failed
abbrev pub invariant-loop-made : goal.invariant-loop-made
invariant-loop-made g l = record {
  within : l.made ≤ l.frames;
  written : Appends (g.K.Sink.taken l.fn.sink) (g.K.Sink.taken l.sink) (made_capture l.seed l.made);
  kept : g.K.Sink.faults l.sink ≡ g.K.Sink.faults l.fn.sink;
  drawn : l.draws.state ≡ state_after l.seed (2 * l.made);
}

abbrev pub decreases-loop-made : goal.decreases-loop-made
decreases-loop-made g l = l.frames - l.made
