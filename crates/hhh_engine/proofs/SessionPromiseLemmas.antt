-- What a run of `report` says of the session that it wrote.
use Rattle.std.proofs.Common.{◌≡◌, ◌⊎◌, inl, inr, ⊎_elim, ℕ, List, [], Option, append-nil, sym}
use Rattle.outside_io.specs.declared.source.Source.{Ghosts as SourceOf}
use Rattle.outside_io.specs.declared.sink.Sink.{Ghosts as SinkOf}
use Rattle.slot_disk.specs.declared.disk.Disk.{Ghosts as DiskOf}
use Rattle.command_words.specs.{AskForCommand}
use Rattle.command_words.specs.declared.command.Command.TheVariants.{Report}
use Rattle.command_words.specs.declared.settings.Settings.{Settings}
use Rattle.dealt_capture.specs.{DealingRules}
use Rattle.hhh_engine.specs.Rules.{RunRules}
use Rattle.report_session.specs.{AreKeptOnDisk, BeginsWholeSession, IsSession, IsSessionInPart, SessionKeeping}
use Rattle.hhh_engine.specs.SessionPromise.{BeginsItsSession}
use Rattle.hhh_engine.specs.TopCall.{RunEnds, Streams}
use Rattle.run_status.specs.declared.status.Status.{Status}
use Rattle.hhh_engine.proofs.ReportEndLemmas.{OneReportCommand, report_end_by_status}

-- a whole session begins with its text
session_promise_of_whole : (settings : Settings) (rules : DealingRules) (keeping : SessionKeeping)
    (store file : Option (List ℕ)) (text : List ℕ) → IsSession settings rules keeping store file text
    → BeginsWholeSession settings rules store file text
session_promise_of_whole settings rules keeping store file text is = (
  text,
  ([], sym (append-nil text)),
  record {
    records = is.records;
    lists = is.lists;
    dealt = is.dealt;
    as_many = is.as_many;
    base = is.base;
    begins = is.begins;
    represents = is.represents;
    spelled = record {
      reports = is.spelled.reports;
      are_reports = is.spelled.are_reports;
      spelled = is.spelled.spelled;
      kept = λ used. tt;
    };
  },
)

-- a run of `report`, where what is written of a session in part begins a whole one
module _ {S T K D : Type 0} (s : SourceOf S) (t : SourceOf T) (k : SinkOf K) (d : DiskOf D) (old new : Streams S T K D)
    (words : List (List ℕ)) (rules : RunRules) (one : OneReportCommand)
    (only_now : (disk : D) (image : List ℕ) → d.image_since disk (d.moment disk) image → d.image_now disk image)
    (settings : Settings) (asked : AskForCommand words (Report settings))
    (begins_whole : (front : List ℕ)
    → IsSessionInPart settings rules.dealing (AreKeptOnDisk d old.disk new.disk) (d.reads old.disk) (s.left old.capture) front
    → BeginsWholeSession settings rules.dealing (d.reads old.disk) (s.left old.capture) front) where
  -- nothing was written, or bytes with which a whole session begins
  pub session_promise_of_run : (status : Status) → RunEnds s t k d old new words rules status
      → (new.sink ≡ old.sink) ⊎ BeginsItsSession s k d old new settings rules.dealing
  session_promise_of_run status ends =
      ⊎_elim
      (λ done. inr (record {
        written = done.1.text;
        appended = done.1.written;
        begins = session_promise_of_whole settings rules.dealing (AreKeptOnDisk d old.disk new.disk) (d.reads old.disk)
            (s.left old.capture) done.1.text done.1.is_text;
      }))
      (λ failed. ⊎_elim (λ nothing. inl nothing.0)
      (λ part. inr (record {
        written = part.text;
        appended = part.written;
        begins = begins_whole part.text part.is_text;
      }))
      failed.1)
      (report_end_by_status s t k d old new rules settings words one asked only_now status ends)
