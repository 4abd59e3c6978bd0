-- What a run of `report` keeps of its store, by what it wrote.
use Rattle.std.proofs.Common.{◌≡◌, inl, inr, ⊎_elim, ℕ, Bool, true, false, List, [], Option, None, Some, sym, subst}
use Rattle.std.specs.Io.KnownBytes.{Appends}
use Rattle.std.proofs.KnownBytes.{Appends-nil}
use Rattle.outside_io.specs.declared.source.Source.{Ghosts as SourceOf}
use Rattle.outside_io.specs.declared.sink.Sink.{Ghosts as SinkOf}
use Rattle.prefix_lattice.specs.{RecordValue}
use Rattle.slot_disk.specs.declared.disk.Disk.{Ghosts as DiskOf}
use Rattle.command_words.specs.{AskForCommand, AreLimited}
use Rattle.command_words.specs.declared.command.Command.TheVariants.{Report}
use Rattle.command_words.specs.declared.settings.Settings.{Settings}
use Rattle.checkpoint.specs.{stored_header}
use Rattle.checkpoint.specs.declared.header.StoreHeader.{StoreHeader}
use Rattle.checkpoint.specs.declared.settings.StoreSettings.{StoreSettings}
use Rattle.dealt_capture.specs.{DealingRules}
use Rattle.hhh_engine.specs.Rules.{RunRules}
use Rattle.report_session.specs.{AreKeptOnDisk, BelongThroughout, BelongsToLists, IsAsBefore, IsSession, IsSessionInPart}
use Rattle.report_session.specs.{SessionsBelong, StoreIsKept, settings_of_store}
use Rattle.hhh_engine.specs.StorePromise.{KeepsBelonging, KeepsItsStore, is_done}
use Rattle.hhh_engine.specs.TopCall.{RunEnds, Streams, WritesNothing}
use Rattle.run_status.specs.declared.status.Status.{Status}
use Rattle.hhh_engine.proofs.ReportEndLemmas.{OneReportCommand, WritesSession, WritesSessionPart, report_end_by_status}

-- what sessions by these rules say of their store
pub record StorePromises {D : Type 0} (d : DiskOf D) (rules : DealingRules) : Type 0 where
  pub whole : (old new : D) (settings : Settings) (store : List ℕ) (file : Option (List ℕ)) (text : List ℕ) → AreLimited settings
      → settings.store ≡ true → d.reads old ≡ Some store
      → IsSession settings rules (AreKeptOnDisk d old new) (d.reads old) file text
      → StoreIsKept d (stored_header (settings_of_store settings) store) old new store text true
  pub in_part : (old new : D) (settings : Settings) (store : List ℕ) (file : Option (List ℕ)) (front : List ℕ) → AreLimited settings
      → settings.store ≡ true → d.reads old ≡ Some store
      → IsSessionInPart settings rules (AreKeptOnDisk d old new) (d.reads old) file front
      → StoreIsKept d (stored_header (settings_of_store settings) store) old new store front false
  pub as_before : (old new : D) (header : StoreHeader) (store : List ℕ) → IsAsBefore d old new
      → StoreIsKept d header old new store [] false

-- a run of `report` with a store whose bytes were known
module _ {S T K D : Type 0} (s : SourceOf S) (t : SourceOf T) (k : SinkOf K) (d : DiskOf D) (old new : Streams S T K D)
    (words : List (List ℕ)) (rules : RunRules) (one : OneReportCommand)
    (only_now : (disk : D) (image : List ℕ) → d.image_since disk (d.moment disk) image → d.image_now disk image)
    (settings : Settings) (store : List ℕ) (asked : AskForCommand words (Report settings)) (limited : AreLimited settings)
    (used : settings.store ≡ true) (known : d.reads old.disk ≡ Some store) (status : Status)
    (ends : RunEnds s t k d old new words rules status) where
  -- what is said of the store where this was written, to its end or not
  abbrev StoreBehind : List ℕ → Bool → Type 0
  StoreBehind written whole = StoreIsKept d (stored_header (settings_of_store settings) store) old.disk new.disk store written whole

  abbrev StorePromised : Type 0
  StorePromised = KeepsItsStore k d old new settings store status

  store_promise_of_nothing : StorePromises d rules.dealing → is_done status ≡ false → WritesNothing s t k d old new → StorePromised
  store_promise_of_nothing promises failed nothing = record {
    written = [];
    appended = subst (λ sink. Appends (k.taken old.sink) (k.taken sink) []) (sym nothing.0) (Appends-nil (k.taken old.sink));
    kept = subst (StoreBehind []) (sym failed)
        (promises.as_before old.disk new.disk (stored_header (settings_of_store settings) store) store nothing.1);
  }

  store_promise_of_part : StorePromises d rules.dealing → is_done status ≡ false
      → WritesSessionPart s t k d old new rules settings → StorePromised
  store_promise_of_part promises failed answer = record {
    written = answer.text;
    appended = answer.written;
    kept = subst (StoreBehind answer.text) (sym failed)
        (promises.in_part old.disk new.disk settings store (s.left old.capture) answer.text limited used known answer.is_text);
  }

  store_promise_of_session : StorePromises d rules.dealing → is_done status ≡ true
      → WritesSession s t k d old new rules settings → StorePromised
  store_promise_of_session promises done answer = record {
    written = answer.text;
    appended = answer.written;
    kept = subst (StoreBehind answer.text) (sym done)
        (promises.whole old.disk new.disk settings store (s.left old.capture) answer.text limited used known answer.is_text);
  }

  -- by the bytes that it wrote
  pub store_promise_of_run : StorePromises d rules.dealing → StorePromised
  store_promise_of_run promises =
      ⊎_elim (λ done. store_promise_of_session promises done.0 done.1)
      (λ failed. ⊎_elim (λ nothing. store_promise_of_nothing promises failed.0 nothing)
      (λ part. store_promise_of_part promises failed.0 part) failed.1)
      (report_end_by_status s t k d old new rules settings words one asked only_now status ends)

  -- by the lists to which its store belongs
  pub store_promise_of_lists : SessionsBelong d rules.dealing
      → ((old new : D) (settings : StoreSettings) (lists : List (List RecordValue)) → IsAsBefore d old new
      → ((image : List ℕ) → d.image_now old image → BelongsToLists settings lists image)
      → BelongThroughout d settings lists None old new)
      → KeepsBelonging s d old new settings rules.dealing
  store_promise_of_lists sessions as_before =
      ⊎_elim
      (λ done. let is = done.1.is_text in inr (record {
        records = is.records;
        lists = is.lists;
        dealt = is.dealt;
        base = is.base;
        begins = is.begins;
        belongs = λ held. sessions.whole old.disk new.disk settings store (s.left old.capture) done.1.text is limited used known held;
      }))
      (λ failed. ⊎_elim
      (λ nothing. inl (nothing.0, λ lists held. as_before old.disk new.disk (settings_of_store settings) lists nothing.1 held))
      (λ part. let is = part.is_text in inr (record {
        records = is.records;
        lists = is.lists;
        dealt = is.dealt;
        base = is.base;
        begins = is.begins;
        belongs = λ held. sessions.in_part old.disk new.disk settings store (s.left old.capture) part.text is limited used known held;
      }))
      failed.1)
      (report_end_by_status s t k d old new rules settings words one asked only_now status ends)
