-- Within the crate: how a command ended, in the words of its run.
use Rattle.std.specs.Prelude.{◌≡◌}
use Rattle.outside_io.specs.{FaultRose, ReadsFront}
use Rattle.outside_io.specs.declared.source.Source.{Ghosts as SourceOf}
use Rattle.outside_io.specs.declared.sink.Sink.{Ghosts as SinkOf}
use Rattle.slot_disk.specs.declared.disk.Disk.{Ghosts as DiskOf}
use Rattle.pcap_frames.specs.declared.fault.CaptureFault.{CaptureFault}
use Rattle.command_words.specs.declared.command.Command.{Command}
use Rattle.command_words.specs.declared.command.Command.TheVariants.{Format}
use Rattle.command_words.specs.declared.settings.Settings.{Settings}
use Rattle.hhh_engine.specs.Answer.{IsAnswer, IsAnswerInPart}
use Rattle.hhh_engine.specs.Ending.{Task, course, SessionFinds, Ends, EndsAsBefore, EndsInOrder, FormatEnds}
use Rattle.hhh_engine.specs.Ending.{DiskHappened, Refuses}
use Rattle.hhh_engine.specs.Inputs.{WereAccepted, WereRead, UsesCapture, UsesSession, ReadsSession, takes_front}
use Rattle.hhh_engine.specs.Inputs.{UsesStore}
use Rattle.hhh_engine.specs.TopCall.{Streams, faults_after, faults_before, run_inputs, run_keeping}
use Rattle.hhh_engine.specs.TopCall.{sources_after, sources_before}
use Rattle.report_session.specs.{IsAsBefore, settings_of_store}
use Rattle.hhh_engine.specs.Rules.{RunRules}
use Rattle.run_status.specs.declared.status.Status.{Status}
use Rattle.run_status.specs.declared.status.Status.TheVariants.{BadCapture, DiskFault}

-- a run, as in `RunEnds`
module _ {S T K D : Type 0} (s : SourceOf S) (t : SourceOf T) (k : SinkOf K) (d : DiskOf D) (old new : Streams S T K D)
    (rules : RunRules) where
  -- what the command owes
  abbrev pub run_task : Command → Task
  run_task command = record {
    front = takes_front command;
    is_text = IsAnswer rules (run_keeping s t k d old new) command (run_inputs s t k d old new);
    is_part = IsAnswerInPart rules (run_keeping s t k d old new) command (run_inputs s t k d old new);
    read = WereRead command (run_inputs s t k d old new);
    accepted = WereAccepted command (run_inputs s t k d old new);
    disk_failed = DiskHappened command (FaultRose (d.faults old.disk) (d.faults new.disk));
    disk_same = new.disk ≡ old.disk;
    store_same = EndsAsBefore command (IsAsBefore d old.disk new.disk);
    refuses = Refuses command rules.dealing (run_inputs s t k d old new) (IsAsBefore d old.disk new.disk);
    finds = SessionFinds command rules.dealing (run_inputs s t k d old new) (k.taken old.sink) (k.taken new.sink);
  }

  -- the command ended with this status
  abbrev pub CommandEnds : Command → Status → Type 0
  CommandEnds command =
      Ends (run_task command)
      (course k (s.left old.capture) (faults_before s t k d old new) (faults_after s t k d old new) old.sink new.sink)

  -- a source that failed did so in the order in which the command reads them
  abbrev pub CommandInOrder : Command → Status → Type 0
  CommandInOrder command status =
      EndsInOrder (UsesCapture command) (ReadsSession (run_inputs s t k d old new) command) (run_inputs s t k d old new)
      (sources_before s t k d old new) (sources_after s t k d old new) status

  -- the command was answered with this status
  pub record AnswersCommand (command : Command) (status : Status) : Type 0 where
    pub ends : CommandEnds command status
    pub order : CommandInOrder command status
    -- a fault of the disk is never ignored
    pub told : (status ≡ DiskFault → ⊥) → d.faults new.disk ≡ d.faults old.disk
    -- what the command doesn't use is untouched
    pub unused : (UsesStore command → ⊥) → new.disk ≡ old.disk
    pub reads : (fault : CaptureFault) → status ≡ BadCapture fault → UsesCapture command
    pub unread : (UsesCapture command → ⊥) → new.capture ≡ old.capture
    pub text_unread : (UsesSession command → ⊥) → new.text ≡ old.text
    pub fronts : ReadsFront (s.left old.capture) (s.left new.capture) × ReadsFront (t.left old.text) (t.left new.text)
    pub formats : (settings : Settings) → command ≡ Format settings
        → FormatEnds d (settings_of_store settings) old.sink new.sink old.disk new.disk status
