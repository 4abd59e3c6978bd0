-- In what order a command reads its inputs: the capture, and then the text of a session.
use Rattle.std.proofs.Common.{◌≡◌, ℕ, List, Option, IfSome, inl, inr, refl, sym, subst, arith, ⊎_elim}
use Rattle.std.specs.Prelude.{⊤}
use Rattle.std.specs.Io.KnownBytes.{IsAtEnd}
use Rattle.outside_io.specs.{FaultRose}
use Rattle.prefix_lattice.specs.{RecordValue}
use Rattle.pcap_frames.specs.declared.fault.CaptureFault.{CaptureFault}
use Rattle.report_text.specs.declared.session_fault.SessionFault.{SessionFault}
use Rattle.report_text.specs.declared.session_fault.SessionFault.TheVariants as session
use Rattle.hhh_report.specs.declared.reports.Reported.{Reported}
use Rattle.command_words.specs.{AskForCommand}
use Rattle.command_words.specs.declared.command.Command.{Command}
use Rattle.command_words.specs.declared.command.Command.TheVariants.{Weigh, Report, Format, Audit, Watch, Make, Demo}
use Rattle.command_words.specs.declared.settings.Settings.{Settings}
use Rattle.session_audit.specs.{HasNoBytes, Says}
use Rattle.hhh_engine.specs.Ending.{Task, course, Ends, DiskHappened, FailsAtSource, Sources, EndsInOrder}
use Rattle.hhh_engine.specs.Ending.{EndsAsBefore, faults_of_source}
use Rattle.hhh_engine.specs.Inputs.{CommandUses, InputBytes, MayUseStore, UsesCapture}
use Rattle.hhh_engine.specs.Inputs.{ReadsSession}
use Rattle.hhh_engine.specs.Rules.{RunRules}
use Rattle.run_status.specs.{status_of_session}
use Rattle.run_status.specs.declared.status.Status.{Status}
use Rattle.run_status.specs.declared.status.Status.TheVariants.{Done, BadWords, BadCapture, ReadFault, WriteFault}
use Rattle.run_status.specs.declared.status.Status.TheVariants.{DiskFault, NotFormatted, Damaged, OtherSettings}
use Rattle.run_status.specs.declared.status.Status.TheVariants.{OtherCapture, AuditNo, BadReport, OutOfMemory}
use Rattle.outside_io.specs.declared.source.Source.{Ghosts as SourceOf}
use Rattle.outside_io.specs.declared.sink.Sink.{Ghosts as SinkOf}
use Rattle.slot_disk.specs.declared.disk.Disk.{Ghosts as DiskOf}
use Rattle.hhh_engine.specs.Commands.{CommandEnds, CommandInOrder}
use Rattle.hhh_engine.specs.TopCall.{FailsToRead, FailsToStore, RefusesCapture, Streams, run_inputs}
use Rattle.hhh_engine.specs.TopCall.{sources_after, sources_before}
use Rattle.report_session.specs.{IsAsBefore}

-- ---- the steps of an audit

-- its text was not read
pub read_order_without_text : {T : Type 0} (Accepted : Type 0) (read : InputBytes) (before now : Sources T) (status : Status)
    → IsAtEnd read.capture_left → Accepted → now.faults.capture ≡ before.faults.capture
    → HasNoBytes before.faults.text now.faults.text status → EndsInOrder ⊤ Accepted read before now status
read_order_without_text Accepted read before now Done at_end is_capture same none = absurd none
read_order_without_text Accepted read before now (BadWords kind) at_end is_capture same none = absurd none
read_order_without_text Accepted read before now (BadCapture fault) at_end is_capture same none = absurd none
read_order_without_text Accepted read before now ReadFault at_end is_capture same none =
    inr (record { reads = is_capture; rose = none; capture_kept = same; read_to_end = λ reads. at_end })
read_order_without_text Accepted read before now WriteFault at_end is_capture same none = absurd none
read_order_without_text Accepted read before now DiskFault at_end is_capture same none = absurd none
read_order_without_text Accepted read before now NotFormatted at_end is_capture same none = absurd none
read_order_without_text Accepted read before now (Damaged slot) at_end is_capture same none = absurd none
read_order_without_text Accepted read before now (OtherSettings stored asked) at_end is_capture same none = absurd none
read_order_without_text Accepted read before now (OtherCapture stored asked) at_end is_capture same none = absurd none
read_order_without_text Accepted read before now (AuditNo report verdict) at_end is_capture same none = absurd none
read_order_without_text Accepted read before now (BadReport fault) at_end is_capture same none = absurd none
read_order_without_text Accepted read before now OutOfMemory at_end is_capture same none = tt

-- its text is not that of a session
pub read_order_at_bad_text : {T : Type 0} (Accepted : Type 0) (read : InputBytes) (before now : Sources T) (fault : SessionFault)
    → EndsInOrder ⊤ Accepted read before now (status_of_session fault)
read_order_at_bad_text Accepted read before now (session.Text fault) = tt
read_order_at_bad_text Accepted read before now session.OutOfMemory = tt

-- the audit was made
pub read_order_of_made_audit : {T : Type 0} (Accepted : Type 0) (read : InputBytes) (before now : Sources T)
    (settings : Settings) (lists : List (List RecordValue)) (reports : List Reported) (written : List ℕ) (status : Status)
    → Says settings lists reports written status → EndsInOrder ⊤ Accepted read before now status
read_order_of_made_audit Accepted read before now settings lists reports written Done says = tt
read_order_of_made_audit Accepted read before now settings lists reports written (BadWords kind) says = absurd says
read_order_of_made_audit Accepted read before now settings lists reports written (BadCapture fault) says = absurd says
read_order_of_made_audit Accepted read before now settings lists reports written ReadFault says = absurd says
read_order_of_made_audit Accepted read before now settings lists reports written WriteFault says = absurd says
read_order_of_made_audit Accepted read before now settings lists reports written DiskFault says = absurd says
read_order_of_made_audit Accepted read before now settings lists reports written NotFormatted says = absurd says
read_order_of_made_audit Accepted read before now settings lists reports written (Damaged slot) says = absurd says
read_order_of_made_audit Accepted read before now settings lists reports written (OtherSettings stored asked) says =
    absurd says
read_order_of_made_audit Accepted read before now settings lists reports written (OtherCapture stored asked) says =
    absurd says
read_order_of_made_audit Accepted read before now settings lists reports written (AuditNo report verdict) says = tt
read_order_of_made_audit Accepted read before now settings lists reports written (BadReport fault) says = absurd says
read_order_of_made_audit Accepted read before now settings lists reports written OutOfMemory says = absurd says

-- ---- the commands

-- what a command reads may be said in other words
read_order_in_other_terms : {T : Type 0} (Reads ReadsText Other OtherText : Type 0) (read : InputBytes) (before now : Sources T)
    → (Reads → Other) → (Other → Reads) → (ReadsText → OtherText) → FailsAtSource Reads ReadsText read before now
    → FailsAtSource Other OtherText read before now
read_order_in_other_terms Reads ReadsText Other OtherText read before now reads reads_back reads_text failed =
    ⊎_elim
    (λ is. inl (record { reads = reads is.reads; rose = is.rose; text_unread = is.text_unread }))
    (λ is. inr (record {
      reads = reads_text is.reads;
      rose = is.rose;
      capture_kept = is.capture_kept;
      read_to_end = λ other. is.read_to_end (reads_back other);
    })) failed

-- how a command that reads a capture and no text ended: whatever the faults of a text's source are, its own rose
pub read_order_of_capture_alone : {K T : Type 0} (task : Task) (k : SinkOf K) (capture : Option (List ℕ)) (before now other : ℕ)
    (sink written : K) (status : Status) (Reads ReadsText : Type 0) (read : InputBytes) (text : T) → Reads
    → Ends task (course k capture (faults_of_source before 0) (faults_of_source now 0) sink written) status
    → EndsInOrder Reads ReadsText read (record { faults = faults_of_source before other; text = text })
    (record { faults = faults_of_source now other; text = text }) status
read_order_of_capture_alone task k capture before now other sink written Done Reads ReadsText read text reads ends = tt
read_order_of_capture_alone task k capture before now other sink written (BadWords kind) Reads ReadsText read text reads ends = tt
read_order_of_capture_alone task k capture before now other sink written (BadCapture fault) Reads ReadsText read text reads ends = (reads, refl)
read_order_of_capture_alone task k capture before now other sink written ReadFault Reads ReadsText read text reads ends =
    ⊎_elim
    (λ (rose : FaultRose before now). inl (record { reads = reads; rose = rose; text_unread = refl }))
    (λ (rose : FaultRose 0 0). absurd (omega (arith, rose))) ends.0
read_order_of_capture_alone task k capture before now other sink written WriteFault Reads ReadsText read text reads ends = tt
read_order_of_capture_alone task k capture before now other sink written DiskFault Reads ReadsText read text reads ends = tt
read_order_of_capture_alone task k capture before now other sink written NotFormatted Reads ReadsText read text reads ends = tt
read_order_of_capture_alone task k capture before now other sink written (Damaged slot) Reads ReadsText read text reads ends = tt
read_order_of_capture_alone task k capture before now other sink written (OtherSettings stored asked) Reads ReadsText read text reads ends = tt
read_order_of_capture_alone task k capture before now other sink written (OtherCapture stored asked) Reads ReadsText read text reads ends = tt
read_order_of_capture_alone task k capture before now other sink written (AuditNo report verdict) Reads ReadsText read text reads ends = tt
read_order_of_capture_alone task k capture before now other sink written (BadReport fault) Reads ReadsText read text reads ends = tt
read_order_of_capture_alone task k capture before now other sink written OutOfMemory Reads ReadsText read text reads ends = tt

-- and one that reads the text of a session alone
module _ {K T : Type 0} (task : Task) (k : SinkOf K) (capture : Option (List ℕ)) (other before now : ℕ) (sink written : K)
    (Reads ReadsText : Type 0) (read : InputBytes) (text text_read : T) (none : Reads → ⊥) (reads : ReadsText) where
  pub read_order_of_text_alone : (status : Status) → ((fault : CaptureFault) → status ≡ BadCapture fault → ⊥)
      → Ends task (course k capture (faults_of_source 0 before) (faults_of_source 0 now) sink written) status
      → EndsInOrder Reads ReadsText read (record { faults = faults_of_source other before; text = text })
      (record { faults = faults_of_source other now; text = text_read }) status
  read_order_of_text_alone Done no_capture ends = tt
  read_order_of_text_alone (BadWords kind) no_capture ends = tt
  read_order_of_text_alone (BadCapture fault) no_capture ends = absurd (no_capture fault refl)
  read_order_of_text_alone ReadFault no_capture ends =
      ⊎_elim
      (λ (rose : FaultRose 0 0). absurd (omega (arith, rose)))
      (λ (rose : FaultRose before now).
      inr (record { reads = reads; rose = rose; capture_kept = refl; read_to_end = λ uses. absurd (none uses) })) ends.0
  read_order_of_text_alone WriteFault no_capture ends = tt
  read_order_of_text_alone DiskFault no_capture ends = tt
  read_order_of_text_alone NotFormatted no_capture ends = tt
  read_order_of_text_alone (Damaged slot) no_capture ends = tt
  read_order_of_text_alone (OtherSettings stored asked) no_capture ends = tt
  read_order_of_text_alone (OtherCapture stored asked) no_capture ends = tt
  read_order_of_text_alone (AuditNo report verdict) no_capture ends = tt
  read_order_of_text_alone (BadReport fault) no_capture ends = tt
  read_order_of_text_alone OutOfMemory no_capture ends = tt

-- and one that reads neither: it ends at no fault of them
pub read_order_of_neither : {T : Type 0} (Reads ReadsText : Type 0) (read : InputBytes) (before now : Sources T)
    (status : Status) → ((fault : CaptureFault) → status ≡ BadCapture fault → ⊥) → (status ≡ ReadFault → ⊥)
    → EndsInOrder Reads ReadsText read before now status
read_order_of_neither Reads ReadsText read before now Done no_capture no_read = tt
read_order_of_neither Reads ReadsText read before now (BadWords kind) no_capture no_read = tt
read_order_of_neither Reads ReadsText read before now (BadCapture fault) no_capture no_read = absurd (no_capture fault refl)
read_order_of_neither Reads ReadsText read before now ReadFault no_capture no_read = absurd (no_read refl)
read_order_of_neither Reads ReadsText read before now WriteFault no_capture no_read = tt
read_order_of_neither Reads ReadsText read before now DiskFault no_capture no_read = tt
read_order_of_neither Reads ReadsText read before now NotFormatted no_capture no_read = tt
read_order_of_neither Reads ReadsText read before now (Damaged slot) no_capture no_read = tt
read_order_of_neither Reads ReadsText read before now (OtherSettings stored asked) no_capture no_read = tt
read_order_of_neither Reads ReadsText read before now (OtherCapture stored asked) no_capture no_read = tt
read_order_of_neither Reads ReadsText read before now (AuditNo report verdict) no_capture no_read = tt
read_order_of_neither Reads ReadsText read before now (BadReport fault) no_capture no_read = tt
read_order_of_neither Reads ReadsText read before now OutOfMemory no_capture no_read = tt

-- the command that a variant is reads what the variant reads
pub read_order_of_variant : {T : Type 0} (command other : Command) (read : InputBytes) (before now : Sources T)
    (status : Status) → command ≡ other
    → EndsInOrder (UsesCapture other) (ReadsSession read other) read before now status
    → EndsInOrder (UsesCapture command) (ReadsSession read command) read before now status
read_order_of_variant command other read before now status is stops =
    subst (λ c. EndsInOrder (UsesCapture c) (ReadsSession read c) read before now status) (sym is) stops

-- ---- the top call

-- the arguments ask for what their command uses
abbrev read_order_as_asked : (Uses : Command → Type 0) (words : List (List ℕ)) (command : Command) → AskForCommand words command
    → Uses command → CommandUses Uses words
read_order_as_asked Uses words command asked uses = record { command = command; asked = asked; uses = uses }

-- only a command that may use a store has a disk that fails
read_order_lets_use_store : (command : Command) (Happened : Type 0) → DiskHappened command Happened → MayUseStore command × Happened
read_order_lets_use_store (Weigh prefix settings) Happened happened = absurd happened
read_order_lets_use_store (Report settings) Happened happened = (tt, happened)
read_order_lets_use_store (Format settings) Happened happened = (tt, happened)
read_order_lets_use_store (Audit settings) Happened happened = absurd happened
read_order_lets_use_store (Watch rule grain) Happened happened = absurd happened
read_order_lets_use_store (Make seed frames) Happened happened = absurd happened
read_order_lets_use_store (Demo seed frames settings) Happened happened = absurd happened

-- a run, whose command ended so
module _ {S T K D : Type 0} (s : SourceOf S) (t : SourceOf T) (k : SinkOf K) (d : DiskOf D) (old new : Streams S T K D)
    (rules : RunRules) where
  -- its inputs, and how a command of it ends
  abbrev given : InputBytes
  given = run_inputs s t k d old new

  abbrev Ended : Command → Status → Type 0
  Ended = CommandEnds s t k d old new rules

  abbrev EndedInOrder : Command → Status → Type 0
  EndedInOrder = CommandInOrder s t k d old new rules

  -- the capture was refused
  pub read_order_at_refused_capture : (words : List (List ℕ)) (command : Command) (status : Status) (fault : CaptureFault)
      → AskForCommand words command → status ≡ BadCapture fault → EndedInOrder command status → Ended command status
      → RefusesCapture s t k d old new words fault
  read_order_at_refused_capture words command status fault asked is stops ends =
      let order = subst (EndedInOrder command) is stops in
      let ended = subst (Ended command) is ends in
      record {
        asked = read_order_as_asked UsesCapture words command asked order.0;
        first_fault = ended.0;
        text_unread = order.1;
        nothing = record { unwritten = ended.1; untouched = ended.2 };
      }

  -- a source failed
  pub read_order_at_read_failure : (words : List (List ℕ)) (command : Command) (status : Status) → AskForCommand words command
      → ((other : Command) → AskForCommand words other → command ≡ other) → status ≡ ReadFault → EndedInOrder command status
      → Ended command status → FailsToRead s t k d old new words
  read_order_at_read_failure words command status asked same is stops ends =
      let order = subst (EndedInOrder command) is stops in
      let ended = subst (Ended command) is ends in
      record {
        failed = read_order_in_other_terms (UsesCapture command) (ReadsSession given command) (CommandUses UsesCapture words)
            (CommandUses (ReadsSession given) words) given (sources_before s t k d old new) (sources_after s t k d old new)
            (read_order_as_asked UsesCapture words command asked)
            (λ uses. subst UsesCapture (sym (same uses.command uses.asked)) uses.uses)
            (read_order_as_asked (ReadsSession given) words command asked) order;
        nothing = record { unwritten = ended.1; untouched = ended.2 };
      }

  -- the disk failed
  pub read_order_at_failed_disk : (words : List (List ℕ)) (command : Command) (status : Status) → AskForCommand words command
      → status ≡ DiskFault → Ended command status → FailsToStore s t k d old new words rules
  read_order_at_failed_disk words command status asked is ends =
      let ended = subst (Ended command) is ends in
      let used = read_order_lets_use_store command (FaultRose (d.faults old.disk) (d.faults new.disk)) ended.3 in
      record {
        command = command;
        asked = asked;
        may_use = used.0;
        rose = used.1;
        in_part = ⊎_elim
            (λ (nothing : (new.sink ≡ old.sink) × EndsAsBefore command (IsAsBefore d old.disk new.disk)). inl nothing)
            (λ part. inr (record { command = command; asked = asked; read_to_end = ended.0; answer = part })) ended.2;
      }
