-- What a run of `report` writes, however it ended.
use Rattle.std.specs.Prelude.{ℕ, List}
use Rattle.std.specs.Io.KnownBytes.{Appends}
use Rattle.outside_io.specs.declared.source.Source.{Ghosts as SourceOf}
use Rattle.outside_io.specs.declared.sink.Sink.{Ghosts as SinkOf}
use Rattle.slot_disk.specs.declared.disk.Disk.{Ghosts as DiskOf}
use Rattle.command_words.specs.declared.settings.Settings.{Settings}
use Rattle.dealt_capture.specs.{DealingRules}
use Rattle.report_session.specs.{BeginsWholeSession}
use Rattle.hhh_engine.specs.TopCall.{Streams}

-- some bytes were written, with which a whole session over the capture begins; nothing is said of the disk
pub record BeginsItsSession {S T K D : Type 0} (s : SourceOf S) (k : SinkOf K) (d : DiskOf D)
    (old new : Streams S T K D) (settings : Settings) (rules : DealingRules) : Type 0 where
  pub written : List ℕ
  pub appended : Appends (k.taken old.sink) (k.taken new.sink) written
  pub begins : BeginsWholeSession settings rules (d.reads old.disk) (s.left old.capture) written
