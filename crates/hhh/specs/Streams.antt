-- What a run is handed, by the names of its promise.
use Rattle.hhh_engine.specs.{Streams}
use Rattle.hhh.specs.declared.runs.Streams.{Streams as ProgramStreams}

-- the capture, the text, the sink and the disk among the program's streams
abbrev pub streams_of : {S T K D : Type 0} → ProgramStreams S T K D → Streams S T K D
streams_of all = record { capture = all.capture; text = all.text; sink = all.output; disk = all.store }
