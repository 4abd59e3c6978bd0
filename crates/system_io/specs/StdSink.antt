-- What is seen of a stream of the system as a sink.
use Rattle.std.specs.Prelude.{ℕ, List, Option}
use Rattle.system_io.specs.declared.std_sink.StdSink.{StdSink}

-- the contents of the stream, where they are known
abbrev pub sink_contents : {W : Type 0} → (W → Option (List ℕ)) → StdSink W → Option (List ℕ)
sink_contents contents sink = contents sink.writer

-- how many calls of the sink have failed
abbrev pub sink_faults : {W : Type 0} → StdSink W → ℕ
sink_faults sink = sink.faults
