-- How an audit of a session ended, step by step.
use Rattle.std.proofs.Common.{◌≡◌, ◌≤◌, ◌<◌, ◌+◌, ◌++◌, ◌∙◌, ℕ, List, length, Option, None, Some, IfSome}
use Rattle.std.proofs.Common.{inl, inr, ⊎_elim, refl, sym, ap, subst, arith, append-nil}
use Rattle.std.specs.Io.KnownBytes.{Appends, Consumes, IsAtEnd}
use Rattle.std.proofs.lemmas.Bool.{cases_lt}
use Rattle.std.proofs.lemmas.List.{length-append}
use Rattle.outside_io.specs.{AppendsPart, FaultRose}
use Rattle.outside_io.specs.declared.source.Source.{Ghosts as SourceOf}
use Rattle.outside_io.specs.declared.sink.Sink.{Ghosts as SinkOf}
use Rattle.slot_disk.specs.declared.disk.Disk.{Ghosts as DiskOf}
use Rattle.prefix_lattice.specs.{RecordValue}
use Rattle.report_text.specs.{HasReadFault, longest_session}
use Rattle.report_text.specs.declared.session.Session.{Session}
use Rattle.report_text.specs.declared.session_fault.SessionFault.{SessionFault}
use Rattle.report_text.specs.declared.session_fault.SessionFault.TheVariants as session
use Rattle.report_text.specs.declared.session_fault.TextFault.{TextFault}
use Rattle.report_text.specs.declared.session_fault.TextFault.TheVariants.{BadLine, MissingEnd, TooLong}
use Rattle.command_words.specs.declared.command.Command.{Command}
use Rattle.command_words.specs.declared.command.Command.TheVariants.{Audit}
use Rattle.command_words.specs.declared.settings.Settings.{Settings}
use Rattle.hhh_engine.specs.Answer.{IsUnfinished}
use Rattle.session_audit.specs.{AreAudited, HasNoBytes, IsAuditText, IsSoundAudit, IsUnsoundAudit, IsAuditingAnswer, Says}
use Rattle.hhh_engine.specs.Reading.{AreAuditing, HasNoAudit, HasNoWatch}
use Rattle.hhh_engine.specs.Tasks.{audit_task}
use Rattle.hhh_engine.specs.Ending.{course, Ends, SourceFaults, TextRefused}
use Rattle.hhh_engine.specs.Inputs.{InputBytes, HoldsOfAudit, inputs}
use Rattle.dealt_capture.specs.{IsCaptureFile, DealingRules}
use Rattle.run_status.specs.{status_of_session}
use Rattle.session_audit.specs.declared.audit.Answer.{Answer}
use Rattle.session_audit.specs.declared.audit.Audited.{Audited}
use Rattle.run_status.specs.declared.status.Status.{Status}
use Rattle.run_status.specs.declared.status.Status.TheVariants.{Done, BadWords, BadCapture, ReadFault, WriteFault}
use Rattle.run_status.specs.declared.status.Status.TheVariants.{DiskFault, NotFormatted, Damaged, OtherSettings}
use Rattle.run_status.specs.declared.status.Status.TheVariants.{OtherCapture, AuditNo, BadReport, OutOfMemory}
use Rattle.hhh_engine.proofs.CaptureReportLemmas.{capture_report_if_known}
use Rattle.hhh_engine.specs.Rules.{RunRules}
use Rattle.hhh_engine.specs.Commands.{CommandEnds}
use Rattle.hhh_engine.specs.TopCall.{Streams, faults_after, faults_before, run_inputs}
use Rattle.report_session.specs.{IsAsBefore}
use Rattle.hhh_engine.proofs.StatusLemmas.{status_as_named_command, status_beside_disk}
use Rattle.prefix_lattice.specs.declared.grain.Grain.{Grain}

-- what follows of the inputs of an audit that may be known
pub audit_end_inputs_imply_more : (settings : Settings) (read : InputBytes) (P Q : List ℕ → List ℕ → Type 0)
    → ((file text : List ℕ) → P file text → Q file text) → HoldsOfAudit settings read P → HoldsOfAudit settings read Q
audit_end_inputs_imply_more settings read P Q follows has =
    capture_report_if_known read.capture (λ file. IsCaptureFile settings.front file × IfSome read.text (P file))
    (λ file. IsCaptureFile settings.front file × IfSome read.text (Q file))
    (λ file holds. (holds.0, capture_report_if_known read.text (P file) (Q file) (follows file) holds.1)) has

-- the fault of the bytes that were read is one of the text itself
text_end_is_faulty : (grain : Grain) (text left : Option (List ℕ)) (bytes : List ℕ) (fault : SessionFault) → Consumes text left bytes
    → (length bytes ≤ longest_session → IsAtEnd left) → HasReadFault grain bytes fault
    → (longest_session < length bytes → fault ≡ session.Text TooLong)
    → IfSome text (λ whole. HasReadFault grain whole fault)
text_end_is_faulty grain None left bytes fault consumed at_end has too_long = tt
text_end_is_faulty grain (Some whole) None bytes fault consumed at_end has too_long = absurd consumed
text_end_is_faulty grain (Some whole) (Some rest) bytes fault consumed at_end has too_long =
    ⊎_elim
    (λ (long : longest_session < length bytes).
    subst (HasReadFault grain whole) (sym (too_long long))
    (omega (arith, long, ap length consumed, length-append bytes rest)))
    (λ (short : length bytes ≤ longest_session).
    subst (λ t. HasReadFault grain t fault)
    (sym (consumed ∙ ap (λ r. bytes ++ r) (at_end short) ∙ append-nil bytes)) has)
    (cases_lt longest_session (length bytes))

-- what holds of the bytes that were read to their end holds of the text, where it is known
pub text_end_is_known : (left left_now : Option (List ℕ)) (bytes : List ℕ) (P : List ℕ → Type 0) → Consumes left left_now bytes
    → IsAtEnd left_now → P bytes → IfSome left P
text_end_is_known None left_now bytes P consumed at_end has = tt
text_end_is_known (Some whole) None bytes P consumed at_end has = absurd consumed
text_end_is_known (Some whole) (Some rest) bytes P consumed at_end has =
    subst P (sym (consumed ∙ ap (λ r. bytes ++ r) at_end ∙ append-nil bytes)) has

-- the text of a session was refused
text_is_refused_at_end : (grain : Grain) (read : InputBytes) (bytes : List ℕ) (fault : TextFault)
    → Consumes read.text read.text_left bytes → length bytes ≤ longest_session + 1
    → (length bytes ≤ longest_session → IsAtEnd read.text_left) → HasReadFault grain bytes (session.Text fault)
    → (longest_session < length bytes → session.Text fault ≡ session.Text TooLong) → TextRefused grain read fault
text_is_refused_at_end grain read bytes TooLong consumed limit at_end has too_long = record {
  first_fault = text_end_is_faulty grain read.text read.text_left bytes (session.Text TooLong) consumed at_end has too_long;
  read_to_limit = record { front = bytes; consumed = consumed; limit = omega (arith, limit, has) };
}
text_is_refused_at_end grain read bytes (BadLine line) consumed limit at_end has too_long = record {
  first_fault = text_end_is_faulty grain read.text read.text_left bytes (session.Text (BadLine line)) consumed at_end has too_long;
  read_to_limit = at_end has.0;
}
text_is_refused_at_end grain read bytes (MissingEnd line) consumed limit at_end has too_long = record {
  first_fault = text_end_is_faulty grain read.text read.text_left bytes (session.Text (MissingEnd line)) consumed at_end has too_long;
  read_to_limit = at_end has.0;
}

-- why the inputs of an audit were not accepted: the text of a session was refused
pub audit_ends_at_refused_text : (settings : Settings) (read : InputBytes) (before now : SourceFaults) (bytes : List ℕ)
    (fault : SessionFault) → IsAtEnd read.capture_left → IfSome read.capture (IsCaptureFile settings.front)
    → Consumes read.text read.text_left bytes → length bytes ≤ longest_session + 1
    → (length bytes ≤ longest_session → IsAtEnd read.text_left) → HasReadFault settings.grain bytes fault
    → (longest_session < length bytes → fault ≡ session.Text TooLong)
    → HasNoAudit settings read before now (status_of_session fault)
audit_ends_at_refused_text settings read before now bytes (session.Text fault) at_capture_end is_capture consumed limit at_end has too_long = record {
  read_to_end = at_capture_end;
  accepted = is_capture;
  refused = text_is_refused_at_end settings.grain read bytes fault consumed limit at_end has too_long;
}
audit_ends_at_refused_text settings read before now bytes session.OutOfMemory at_capture_end is_capture consumed limit at_end has too_long = tt

-- and the same of a watch
pub watch_ends_at_refused_text : (grain : Grain) (read : InputBytes) (before now : ℕ) (bytes : List ℕ) (fault : SessionFault)
    → Consumes read.text read.text_left bytes → length bytes ≤ longest_session + 1
    → (length bytes ≤ longest_session → IsAtEnd read.text_left) → HasReadFault grain bytes fault
    → (longest_session < length bytes → fault ≡ session.Text TooLong)
    → HasNoWatch grain read before now (status_of_session fault)
watch_ends_at_refused_text grain read before now bytes (session.Text fault) consumed limit at_end has too_long =
    text_is_refused_at_end grain read bytes fault consumed limit at_end has too_long
watch_ends_at_refused_text grain read before now bytes session.OutOfMemory consumed limit at_end has too_long = tt

-- the bytes of the text were not read
pub audit_ends_without_bytes : (settings : Settings) (read : InputBytes) (before now : SourceFaults) (status : Status)
    → HasNoBytes before.text now.text status → HasNoAudit settings read before now status
audit_ends_without_bytes settings read before now Done none = absurd none
audit_ends_without_bytes settings read before now (BadWords kind) none = absurd none
audit_ends_without_bytes settings read before now (BadCapture fault) none = absurd none
audit_ends_without_bytes settings read before now ReadFault none = inr none
audit_ends_without_bytes settings read before now WriteFault none = absurd none
audit_ends_without_bytes settings read before now DiskFault none = absurd none
audit_ends_without_bytes settings read before now NotFormatted none = absurd none
audit_ends_without_bytes settings read before now (Damaged slot) none = absurd none
audit_ends_without_bytes settings read before now (OtherSettings stored asked) none = absurd none
audit_ends_without_bytes settings read before now (OtherCapture stored asked) none = absurd none
audit_ends_without_bytes settings read before now (AuditNo report verdict) none = absurd none
audit_ends_without_bytes settings read before now (BadReport fault) none = absurd none
audit_ends_without_bytes settings read before now OutOfMemory none = tt

-- how an audit ended
abbrev pub EndsAudit : {K : Type 0} → Settings → DealingRules → InputBytes → (read_before read_now : SourceFaults)
    → (sink written : K) → (old new : Option (List ℕ)) → (write_before write_now : ℕ) → Status → Type 0
EndsAudit settings rules given read_before read_now sink written old new write_before write_now =
    Ends (audit_task settings rules given old new) (record {
      capture = given.capture;
      read_before = read_before;
      read_now = read_now;
      sink = sink;
      written = written;
      old = old;
      new = new;
      write_before = write_before;
      write_now = write_now;
    })

-- an audit whose inputs were not accepted
pub audit_ends_without_inputs : {K : Type 0} (settings : Settings) (rules : DealingRules) (given : InputBytes)
    (read_before read_now : SourceFaults) (sink : K) (old : Option (List ℕ)) (faults : ℕ) (status : Status)
    → HasNoAudit settings given read_before read_now status → ((status ≡ ReadFault → ⊥) → read_now ≡ read_before)
    → EndsAudit settings rules given read_before read_now sink sink old old faults faults status
audit_ends_without_inputs settings rules given read_before read_now sink old faults Done none told =
    absurd none
audit_ends_without_inputs settings rules given read_before read_now sink old faults (BadWords kind) none told =
    absurd none
audit_ends_without_inputs settings rules given read_before read_now sink old faults (BadCapture fault) none told =
    (none, refl, tt, told (λ is. cc is), refl)
audit_ends_without_inputs settings rules given read_before read_now sink old faults ReadFault none told =
    (none, refl, tt, refl)
audit_ends_without_inputs settings rules given read_before read_now sink old faults WriteFault none told =
    absurd none
audit_ends_without_inputs settings rules given read_before read_now sink old faults DiskFault none told =
    absurd none
audit_ends_without_inputs settings rules given read_before read_now sink old faults NotFormatted none told =
    absurd none
audit_ends_without_inputs settings rules given read_before read_now sink old faults (Damaged slot) none told =
    absurd none
audit_ends_without_inputs settings rules given read_before read_now sink old faults (OtherSettings stored asked) none told =
    absurd none
audit_ends_without_inputs settings rules given read_before read_now sink old faults (OtherCapture stored asked) none told =
    absurd none
audit_ends_without_inputs settings rules given read_before read_now sink old faults (AuditNo report verdict) none told =
    absurd none
audit_ends_without_inputs settings rules given read_before read_now sink old faults (BadReport fault) none told =
    (none, refl, tt, told (λ is. cc is), refl)
audit_ends_without_inputs settings rules given read_before read_now sink old faults OutOfMemory none told =
    (inl (refl, tt), told (λ is. cc is), refl)

-- what an audit says is its text, whether all reports are sound or not
audit_end_says_its_text : (settings : Settings) (rules : DealingRules) (file bytes : List ℕ) (lists : List (List RecordValue))
    (said : Session) (text : List ℕ) (status : Status) → AreAudited settings rules file bytes lists said
    → Says settings lists said.reports text status → IsAuditText settings rules file bytes text
audit_end_says_its_text settings rules file bytes lists said text Done audited says =
    inl (record { lists = lists; session = said; audited = audited; sound = says.0; spelled = says.1 })
audit_end_says_its_text settings rules file bytes lists said text (BadWords kind) audited says =
    absurd says
audit_end_says_its_text settings rules file bytes lists said text (BadCapture fault) audited says =
    absurd says
audit_end_says_its_text settings rules file bytes lists said text ReadFault audited says =
    absurd says
audit_end_says_its_text settings rules file bytes lists said text WriteFault audited says =
    absurd says
audit_end_says_its_text settings rules file bytes lists said text DiskFault audited says =
    absurd says
audit_end_says_its_text settings rules file bytes lists said text NotFormatted audited says =
    absurd says
audit_end_says_its_text settings rules file bytes lists said text (Damaged slot) audited says =
    absurd says
audit_end_says_its_text settings rules file bytes lists said text (OtherSettings stored asked) audited says =
    absurd says
audit_end_says_its_text settings rules file bytes lists said text (OtherCapture stored asked) audited says =
    absurd says
audit_end_says_its_text settings rules file bytes lists said text (AuditNo report verdict) audited says =
    inr (report, verdict, record { lists = lists; session = said; audited = audited; first = says.0 }, says.1)
audit_end_says_its_text settings rules file bytes lists said text (BadReport fault) audited says =
    absurd says
audit_end_says_its_text settings rules file bytes lists said text OutOfMemory audited says =
    absurd says

-- an audit whose answer was not written whole
pub audit_ends_broken_off : {K : Type 0} (settings : Settings) (rules : DealingRules) (given : InputBytes)
    (read_before read_now : SourceFaults) (sink written : K) (old new : Option (List ℕ)) (write_before write_now : ℕ)
    (audited : Audited) (answer : Answer) → AreAuditing settings rules given audited
    → IsAuditingAnswer settings audited.dealt audited.session.reports answer → IsAtEnd given.capture_left
    → IsAtEnd given.text_left → read_now ≡ read_before → AppendsPart old new answer.text.items
    → FaultRose write_before write_now
    → EndsAudit settings rules given read_before read_now sink written old new write_before write_now WriteFault
audit_ends_broken_off settings rules given read_before read_now sink written old new write_before write_now audited answer are
    says capture_read text_read same begun rose = (
      (capture_read, text_read),
      record {
        text = begun.front;
        is_text = audit_end_inputs_imply_more settings given (λ file bytes. AreAudited settings rules file bytes audited.dealt audited.session)
            (λ file bytes. IsUnfinished (IsAuditText settings rules file bytes) begun.front)
            (λ file bytes is. record {
              text = answer.text.items;
              is_text = audit_end_says_its_text settings rules file bytes audited.dealt audited.session answer.text.items answer.status
                  is says;
              begins = begun.is_beginning;
              cut = begun.cut;
            }) are;
        written = begun.appended;
      },
      rose,
      same,
    )

-- an audit whose answer was written
audit_ends_in_written_text : {K : Type 0} (settings : Settings) (rules : DealingRules) (given : InputBytes)
    (read_before read_now : SourceFaults) (sink written : K) (old new : Option (List ℕ)) (write_before write_now : ℕ)
    (lists : List (List RecordValue)) (said : Session) (text : List ℕ) (status : Status)
    → HoldsOfAudit settings given (λ file bytes. AreAudited settings rules file bytes lists said)
    → Says settings lists said.reports text status → IsAtEnd given.capture_left → IsAtEnd given.text_left
    → read_now ≡ read_before → Appends old new text → write_now ≡ write_before
    → EndsAudit settings rules given read_before read_now sink written old new write_before write_now status
audit_ends_in_written_text settings rules given read_before read_now sink written old new write_before write_now lists said text
    Done are says capture_read text_read same appended same_sink = (
      (capture_read, text_read),
      record {
        text = text;
        is_text = audit_end_inputs_imply_more settings given (λ file bytes. AreAudited settings rules file bytes lists said)
            (λ file bytes. IsSoundAudit settings rules file bytes text)
            (λ file bytes is. record {
              lists = lists;
              session = said;
              audited = is;
              sound = says.0;
              spelled = says.1;
            }) are;
        written = appended;
      },
      same,
      same_sink,
    )
audit_ends_in_written_text settings rules given read_before read_now sink written old new write_before write_now lists said text
    (BadWords kind) are says capture_read text_read same appended same_sink =
    absurd says
audit_ends_in_written_text settings rules given read_before read_now sink written old new write_before write_now lists said text
    (BadCapture fault) are says capture_read text_read same appended same_sink =
    absurd says
audit_ends_in_written_text settings rules given read_before read_now sink written old new write_before write_now lists said text
    ReadFault are says capture_read text_read same appended same_sink =
    absurd says
audit_ends_in_written_text settings rules given read_before read_now sink written old new write_before write_now lists said text
    WriteFault are says capture_read text_read same appended same_sink =
    absurd says
audit_ends_in_written_text settings rules given read_before read_now sink written old new write_before write_now lists said text
    DiskFault are says capture_read text_read same appended same_sink =
    absurd says
audit_ends_in_written_text settings rules given read_before read_now sink written old new write_before write_now lists said text
    NotFormatted are says capture_read text_read same appended same_sink =
    absurd says
audit_ends_in_written_text settings rules given read_before read_now sink written old new write_before write_now lists said text
    (Damaged slot) are says capture_read text_read same appended same_sink =
    absurd says
audit_ends_in_written_text settings rules given read_before read_now sink written old new write_before write_now lists said text
    (OtherSettings stored asked) are says capture_read text_read same appended same_sink =
    absurd says
audit_ends_in_written_text settings rules given read_before read_now sink written old new write_before write_now lists said text
    (OtherCapture stored asked) are says capture_read text_read same appended same_sink =
    absurd says
audit_ends_in_written_text settings rules given read_before read_now sink written old new write_before write_now lists said text
    (AuditNo report verdict) are says capture_read text_read same appended same_sink = (
      (capture_read, text_read),
      (
        audit_end_inputs_imply_more settings given (λ file bytes. AreAudited settings rules file bytes lists said)
            (λ file bytes. IsUnsoundAudit settings rules file bytes report verdict)
            (λ file bytes is. record { lists = lists; session = said; audited = is; first = says.0 }) are,
        subst (Appends old new) says.1 appended,
      ),
      same,
      same_sink,
    )
audit_ends_in_written_text settings rules given read_before read_now sink written old new write_before write_now lists said text
    (BadReport fault) are says capture_read text_read same appended same_sink =
    absurd says
audit_ends_in_written_text settings rules given read_before read_now sink written old new write_before write_now lists said text
    OutOfMemory are says capture_read text_read same appended same_sink =
    absurd says

pub audit_ends_as_written : {K : Type 0} (settings : Settings) (rules : DealingRules) (given : InputBytes)
    (read_before read_now : SourceFaults) (sink written : K) (old new : Option (List ℕ)) (write_before write_now : ℕ)
    (audited : Audited) (answer : Answer) → AreAuditing settings rules given audited
    → IsAuditingAnswer settings audited.dealt audited.session.reports answer → IsAtEnd given.capture_left
    → IsAtEnd given.text_left → read_now ≡ read_before → Appends old new answer.text.items → write_now ≡ write_before
    → EndsAudit settings rules given read_before read_now sink written old new write_before write_now answer.status
audit_ends_as_written settings rules given read_before read_now sink written old new write_before write_now audited answer are
    says capture_read text_read same appended same_sink =
    audit_ends_in_written_text settings rules given read_before read_now sink written old new write_before write_now audited.dealt
    audited.session answer.text.items answer.status are says capture_read text_read same appended same_sink

-- how a command that is an audit ended, with a disk that is untouched
pub audit_ends_as : {S T K D : Type 0} (s : SourceOf S) (t : SourceOf T) (k : SinkOf K) (d : DiskOf D) (old new : Streams S T K D)
    (rules : RunRules) (command : Command) (settings : Settings) (status : Status) → command ≡ Audit settings → new.disk ≡ old.disk
    → IsAsBefore d old.disk new.disk
    → EndsAudit settings rules.dealing (run_inputs s t k d old new) (faults_before s t k d old new) (faults_after s t k d old new)
    old.sink new.sink (k.taken old.sink) (k.taken new.sink) (k.faults old.sink) (k.faults new.sink) status
    → CommandEnds s t k d old new rules command status
audit_ends_as s t k d old new rules command settings status is same before ends =
    status_as_named_command s t k d old new rules command (Audit settings) status is
    (status_beside_disk (audit_task settings rules.dealing (run_inputs s t k d old new) (k.taken old.sink) (k.taken new.sink))
    (course k (s.left old.capture) (faults_before s t k d old new) (faults_after s t k d old new) old.sink new.sink)
    (new.disk ≡ old.disk) (IsAsBefore d old.disk new.disk) status (λ failed. failed) same before ends)
