-- How a command can end.
use Rattle.std.proofs.Common.{◌≡◌, ◌⊎◌, ◌≤◌, ℕ, Bool, true, List, [], length, Option, Some, IfSome, inl, inr, ⊎_elim, refl}
use Rattle.std.proofs.Common.{sym, ap, subst}
use Rattle.outside_io.specs.{FaultRose}
use Rattle.outside_io.specs.declared.source.Source.{Ghosts as SourceOf}
use Rattle.outside_io.specs.declared.sink.Sink.{Ghosts as SinkOf}
use Rattle.slot_disk.specs.declared.disk.Disk.{Ghosts as DiskOf}
use Rattle.prefix_lattice.specs.{RecordValue}
use Rattle.frame_records.specs.{IsRefusedFile}
use Rattle.frame_records.specs.declared.records.Records.{Records}
use Rattle.pcap_frames.specs.declared.fault.CaptureFault.{CaptureFault}
use Rattle.recovery.specs.{BelongingOpen, RefusesOpening, IsShownByBytes, AreDecided}
use Rattle.recovery.specs.declared.fault.OpenFault.{OpenFault}
use Rattle.recovery.specs.declared.fault.OpenFault.TheVariants as opening
use Rattle.shard_state.specs.{CutValue}
use Rattle.command_words.specs.{AreLimited, AskForCommand, IsLimitedCommand}
use Rattle.command_words.specs.declared.command.Command.{Command}
use Rattle.command_words.specs.declared.command.Command.TheVariants.{Weigh, Report, Format, Audit, Watch, Make, Demo}
use Rattle.command_words.specs.declared.settings.Settings.{Settings}
use Rattle.report_text.specs.{HasSessionFault, IsSessionText, longest_session}
use Rattle.report_text.specs.declared.session.Session.{Session}
use Rattle.report_text.specs.declared.session_fault.TextFault.{TextFault}
use Rattle.exact_audit.specs.declared.verdict.Verdict.{Verdict}
use Rattle.session_audit.specs.{IsAuditText, IsSoundAudit, IsUnsoundAudit}
use Rattle.hhh_engine.specs.Answer.{IsAnswer, IsAnswerInPart, IsUnfinished, IsWeighInPart}
use Rattle.hhh_engine.specs.Ending.{Course, Task, Ends, SessionFinds, IsRefusedStore, DiskHappened}
use Rattle.hhh_engine.specs.Ending.{SourceFaultsRose, Refuses, EndsRefusing}
use Rattle.hhh_engine.specs.Ending.{EndsAnswered}
use Rattle.hhh_engine.specs.Inputs.{CanBeAnswered, HasCapture, HasStore, UsesCapture}
use Rattle.hhh_engine.specs.Inputs.{InputBytes, WereAccepted, WereRead, takes_front}
use Rattle.dealt_capture.specs.{IsCaptureFile, AreDealtRecords, DealingRules}
use Rattle.hhh_engine.specs.Rules.{RunRules}
use Rattle.hhh_engine.specs.Commands.{CommandEnds}
use Rattle.hhh_engine.specs.TopCall.{RefusesStore, Streams, faults_after, faults_before, run_inputs, run_keeping}
use Rattle.report_session.specs.{IsAsBefore, settings_of_store, GoesOnFrom}
use Rattle.report_session.specs.{SessionKeeping, settings_of_store-allowed}
use Rattle.command_words.specs.declared.words_kind.WordsRefusal.{WordsRefusal}
use Rattle.command_words.specs.declared.words_kind.WordsRefusal.TheVariants as words
use Rattle.run_status.specs.{status_of_opening, status_of_words}
use Rattle.hhh_engine.specs.Weigh.{IsWeightText}
use Rattle.run_status.specs.declared.status.Status.{Status}
use Rattle.run_status.specs.declared.status.Status.TheVariants.{Done, BadWords, BadCapture, ReadFault, WriteFault}
use Rattle.run_status.specs.declared.status.Status.TheVariants.{DiskFault, NotFormatted, Damaged, OtherSettings}
use Rattle.run_status.specs.declared.status.Status.TheVariants.{OtherCapture, AuditNo, BadReport, OutOfMemory}
use Rattle.prefix_lattice.specs.declared.grain.Grain.{Grain}

-- no file is both a capture and a file with a fault
abbrev pub CaptureStatusIsFaultless : Type 0
CaptureStatusIsFaultless =
    (front : Bool) (file : List ℕ) → IsCaptureFile front file → (fault : CaptureFault) → IsRefusedFile front file fault → ⊥

-- a file has one fault at most
abbrev pub FaultStatusIsUnique : Type 0
FaultStatusIsUnique =
    (front : Bool) (file : List ℕ) (fault other : CaptureFault) → IsRefusedFile front file fault → IsRefusedFile front file other
    → other ≡ fault

-- what is known of a source with this file
pub status_of_known_file : (left : Option (List ℕ)) (file : List ℕ) (P : List ℕ → Type 0) → left ≡ Some file → IfSome left P → P file
status_of_known_file left file P known holds = subst (λ o. IfSome o P) known holds

-- a command that reads a capture has a text over captures alone
status_tells_capture : (rules : RunRules) (keeping : SessionKeeping) (command : Command) (given : InputBytes)
    (file text : List ℕ) → UsesCapture command → given.capture ≡ Some file
    → IsAnswer rules keeping command given text → IsCaptureFile (takes_front command) file
status_tells_capture rules keeping (Weigh prefix settings) given file text reads known answer =
    let is = status_of_known_file given.capture file (λ f. IsWeightText prefix settings f text) known answer in
    (is.frames, is.cut, is.capture)
status_tells_capture rules keeping (Report settings) given file text reads known answer =
    let is = status_of_known_file given.capture file (λ f. AreDealtRecords settings rules.dealing f answer.records answer.lists) known answer.dealt in
    (is.frames, answer.records.cut, is.capture)
status_tells_capture rules keeping (Format settings) given file text reads known answer = absurd reads
status_tells_capture rules keeping (Audit settings) given file text reads known answer =
    (status_of_known_file given.capture file
    (λ f. IsCaptureFile settings.front f × IfSome given.text (λ session. IsSoundAudit settings rules.dealing f session text))
    known answer).0
status_tells_capture rules keeping (Watch rule grain) given file text reads known answer = absurd reads
status_tells_capture rules keeping (Make seed frames) given file text reads known answer = absurd reads
status_tells_capture rules keeping (Demo seed frames settings) given file text reads known answer = absurd reads

-- and a part of a text
status_tells_capture_in_part : (rules : RunRules) (keeping : SessionKeeping) (command : Command) (given : InputBytes) (file front : List ℕ)
    → UsesCapture command → given.capture ≡ Some file → IsAnswerInPart rules keeping command given front
    → IsCaptureFile (takes_front command) file
status_tells_capture_in_part rules keeping (Weigh prefix settings) given file front reads known answer =
    let is = status_of_known_file given.capture file (λ f. IsWeighInPart prefix settings f front) known answer in
    (is.is_text.frames, is.is_text.cut, is.is_text.capture)
status_tells_capture_in_part rules keeping (Report settings) given file front reads known answer =
    let is = status_of_known_file given.capture file (λ f. AreDealtRecords settings rules.dealing f answer.records answer.lists) known answer.dealt in
    (is.frames, answer.records.cut, is.capture)
status_tells_capture_in_part rules keeping (Format settings) given file front reads known answer = absurd reads
status_tells_capture_in_part rules keeping (Audit settings) given file front reads known answer =
    (status_of_known_file given.capture file
    (λ f. IsCaptureFile settings.front f × IfSome given.text (λ session. IsUnfinished (IsAuditText settings rules.dealing f session) front))
    known answer).0
status_tells_capture_in_part rules keeping (Watch rule grain) given file front reads known answer = absurd reads
status_tells_capture_in_part rules keeping (Make seed frames) given file front reads known answer = absurd reads
status_tells_capture_in_part rules keeping (Demo seed frames settings) given file front reads known answer = absurd reads

-- and a store is refused over captures alone
status_tells_capture_if_refused : (rules : DealingRules) (command : Command) (given : InputBytes) (AsBefore : Type 0) (file : List ℕ)
    (fault : OpenFault) → given.capture ≡ Some file → Refuses command rules given AsBefore fault
    → IsCaptureFile (takes_front command) file
status_tells_capture_if_refused rules (Weigh prefix settings) given AsBefore file fault known refuses = absurd refuses
status_tells_capture_if_refused rules (Report settings) given AsBefore file fault known refuses =
    let is = status_of_known_file given.capture file (λ f. IsRefusedStore settings rules given.store f fault) known refuses.2 in
    (is.dealt.frames, is.records.cut, is.dealt.capture)
status_tells_capture_if_refused rules (Format settings) given AsBefore file fault known refuses = absurd refuses
status_tells_capture_if_refused rules (Audit settings) given AsBefore file fault known refuses = absurd refuses
status_tells_capture_if_refused rules (Watch rule grain) given AsBefore file fault known refuses = absurd refuses
status_tells_capture_if_refused rules (Make seed frames) given AsBefore file fault known refuses = absurd refuses
status_tells_capture_if_refused rules (Demo seed frames settings) given AsBefore file fault known refuses = absurd refuses

-- and an audit that ends by what it found read a capture
status_tells_capture_if_audited : (rules : DealingRules) (command : Command) (given : InputBytes) (old new : Option (List ℕ)) (file : List ℕ)
    (report : ℕ) (verdict : Verdict) → given.capture ≡ Some file
    → SessionFinds command rules given old new (AuditNo report verdict) → IsCaptureFile (takes_front command) file
status_tells_capture_if_audited rules (Weigh prefix settings) given old new file report verdict known finds = absurd finds
status_tells_capture_if_audited rules (Report settings) given old new file report verdict known finds = absurd finds
status_tells_capture_if_audited rules (Format settings) given old new file report verdict known finds = absurd finds
status_tells_capture_if_audited rules (Watch rule grain) given old new file report verdict known finds = absurd finds
status_tells_capture_if_audited rules (Make seed frames) given old new file report verdict known finds = absurd finds
status_tells_capture_if_audited rules (Demo seed frames settings) given old new file report verdict known finds = absurd finds
status_tells_capture_if_audited rules (Audit settings) given old new file report verdict known finds =
    (status_of_known_file given.capture file
    (λ f. IsCaptureFile settings.front f × IfSome given.text (λ text. IsUnsoundAudit settings rules f text report verdict))
    known finds.0).0

status_tells_capture_if_faulty : (rules : DealingRules) (command : Command) (given : InputBytes) (old new : Option (List ℕ)) (file : List ℕ)
    (fault : TextFault) → UsesCapture command → given.capture ≡ Some file → SessionFinds command rules given old new (BadReport fault)
    → IsCaptureFile (takes_front command) file
status_tells_capture_if_faulty rules (Weigh prefix settings) given old new file fault reads known finds = absurd finds
status_tells_capture_if_faulty rules (Report settings) given old new file fault reads known finds = absurd finds
status_tells_capture_if_faulty rules (Format settings) given old new file fault reads known finds = absurd finds
status_tells_capture_if_faulty rules (Watch rule grain) given old new file fault reads known finds = absurd reads
status_tells_capture_if_faulty rules (Make seed frames) given old new file fault reads known finds = absurd finds
status_tells_capture_if_faulty rules (Demo seed frames settings) given old new file fault reads known finds = absurd finds
status_tells_capture_if_faulty rules (Audit settings) given old new file fault reads known finds =
    status_of_known_file given.capture file (IsCaptureFile settings.front) known finds.accepted

-- an accepted capture is one
status_tells_accepted_capture : (command : Command) (given : InputBytes) (file : List ℕ) → UsesCapture command
    → given.capture ≡ Some file → WereAccepted command given → IsCaptureFile (takes_front command) file
status_tells_accepted_capture (Weigh prefix settings) given file reads known was =
    status_of_known_file given.capture file (IsCaptureFile settings.front) known was
status_tells_accepted_capture (Report settings) given file reads known was =
    status_of_known_file given.capture file (IsCaptureFile settings.front) known was
status_tells_accepted_capture (Format settings) given file reads known was = absurd reads
status_tells_accepted_capture (Audit settings) given file reads known was =
    status_of_known_file given.capture file (IsCaptureFile settings.front) known was
status_tells_accepted_capture (Watch rule grain) given file reads known was = absurd reads
status_tells_accepted_capture (Make seed frames) given file reads known was = absurd reads
status_tells_accepted_capture (Demo seed frames settings) given file reads known was = absurd reads

-- what each command that reads a capture needs of it
status_of_known_capture : (rules : DealingRules) (command : Command) (given : InputBytes) (file : List ℕ)
    (fault : CaptureFault) → CaptureStatusIsFaultless → UsesCapture command → CanBeAnswered rules command given
    → IfSome given.capture (λ f. IsRefusedFile (takes_front command) f fault) → ⊥
status_of_known_capture rules (Weigh prefix settings) given file fault never_both reads can has =
    never_both settings.front can.file can.capture fault
    (status_of_known_file given.capture can.file (λ f. IsRefusedFile settings.front f fault) can.told has)
status_of_known_capture rules (Report settings) given file fault never_both reads can has =
    let capture = can.0 in
    never_both settings.front capture.file capture.capture fault
    (status_of_known_file given.capture capture.file (λ f. IsRefusedFile settings.front f fault) capture.told has)
status_of_known_capture rules (Format settings) given file fault never_both reads can has = absurd reads
status_of_known_capture rules (Audit settings) given file fault never_both reads can has =
    let capture = can.0 in
    never_both settings.front capture.file capture.capture fault
    (status_of_known_file given.capture capture.file (λ f. IsRefusedFile settings.front f fault) capture.told has)
status_of_known_capture rules (Watch rule grain) given file fault never_both reads can has = absurd reads
status_of_known_capture rules (Make seed frames) given file fault never_both reads can has = absurd reads
status_of_known_capture rules (Demo seed frames settings) given file fault never_both reads can has = absurd reads

-- a store of the records isn't refused
status_is_never_refusal : AreDecided → BelongingOpen → (rules : DealingRules) (settings : Settings)
    (given : InputBytes) (AsBefore : Type 0) (fault : OpenFault) → AreLimited settings
    → HasCapture settings.front given.capture → (settings.store ≡ true → HasStore settings rules given)
    → IsShownByBytes fault → EndsRefusing settings rules given.capture given.store AsBefore fault → ⊥
status_is_never_refusal decided opened rules settings given AsBefore fault limited capture can shown refuses =
    let is_store = can refuses.0 in
    let is = status_of_known_file given.capture capture.file (λ f. IsRefusedStore settings rules given.store f fault) capture.told refuses.2 in
    let belongs = is_store.belongs capture.file is.records is.lists capture.told is.dealt in
    (decided (settings_of_store settings) is.lists is_store.image (settings_of_store-allowed settings limited)).not_both _ fault
    (opened (settings_of_store settings) is.lists is_store.image belongs.0 belongs.1 belongs.2 belongs.3) shown
    (is.refused is_store.image is_store.told)

command_status_is_never_refusal : AreDecided → BelongingOpen → (rules : DealingRules) (command : Command)
    (given : InputBytes) (AsBefore : Type 0) (fault : OpenFault) → IsLimitedCommand command
    → CanBeAnswered rules command given → IsShownByBytes fault
    → Refuses command rules given AsBefore fault → ⊥
command_status_is_never_refusal decided opened rules (Weigh prefix settings) given AsBefore fault limited can shown refuses =
    refuses
command_status_is_never_refusal decided opened rules (Report settings) given AsBefore fault limited can shown refuses =
    status_is_never_refusal decided opened rules settings given AsBefore fault limited.0 can.0 can.1 shown refuses
command_status_is_never_refusal decided opened rules (Format settings) given AsBefore fault limited can shown refuses =
    refuses
command_status_is_never_refusal decided opened rules (Audit settings) given AsBefore fault limited can shown refuses =
    refuses
command_status_is_never_refusal decided opened rules (Watch rule grain) given AsBefore fault limited can shown refuses =
    refuses
command_status_is_never_refusal decided opened rules (Make seed frames) given AsBefore fault limited can shown refuses =
    refuses
command_status_is_never_refusal decided opened rules (Demo seed frames settings) given AsBefore fault limited can shown refuses =
    refuses

-- no text of a session that is not too long has a fault
abbrev pub SessionStatusIsFaultless : Type 0
SessionStatusIsFaultless =
    (grain : Grain) (text : List ℕ) (session : Session) (fault : TextFault) → IsSessionText grain text session → length text ≤ longest_session
    → ¬ HasSessionFault grain text fault

-- the text of a session is not refused
status_is_never_bad_report : SessionStatusIsFaultless → (rules : DealingRules) (command : Command) (given : InputBytes) (old new : Option (List ℕ))
    (fault : TextFault) → CanBeAnswered rules command given → SessionFinds command rules given old new (BadReport fault) → ⊥
status_is_never_bad_report no_fault rules (Weigh prefix settings) given old new fault can finds = finds
status_is_never_bad_report no_fault rules (Report settings) given old new fault can finds = finds
status_is_never_bad_report no_fault rules (Format settings) given old new fault can finds = finds
status_is_never_bad_report no_fault rules (Make seed frames) given old new fault can finds = finds
status_is_never_bad_report no_fault rules (Demo seed frames settings) given old new fault can finds = finds
status_is_never_bad_report no_fault rules (Audit settings) given old new fault can finds =
    let known = can.1 in
    no_fault settings.grain known.text known.session fault known.is_session known.not_long
    (status_of_known_file given.text known.text (λ t. HasSessionFault settings.grain t fault) known.told finds.refused.first_fault)
status_is_never_bad_report no_fault rules (Watch rule grain) given old new fault can finds =
    no_fault grain can.text can.session fault can.is_session can.not_long
    (status_of_known_file given.text can.text (λ t. HasSessionFault grain t fault) can.told finds.first_fault)

-- a command whose text was written was answered
status_done_answers : (command : Command) → EndsAnswered command Done
status_done_answers (Weigh prefix settings) = refl
status_done_answers (Report settings) = refl
status_done_answers (Format settings) = refl
status_done_answers (Watch rule grain) = refl
status_done_answers (Make seed frames) = refl
status_done_answers (Demo seed frames settings) = refl
status_done_answers (Audit settings) = inl refl

-- and so was one that found a report that is not sound
status_found_answers : (rules : DealingRules) (command : Command) (given : InputBytes) (old new : Option (List ℕ)) (report : ℕ)
    (verdict : Verdict) → SessionFinds command rules given old new (AuditNo report verdict)
    → EndsAnswered command (AuditNo report verdict)
status_found_answers rules (Weigh prefix settings) given old new report verdict finds = absurd finds
status_found_answers rules (Report settings) given old new report verdict finds = absurd finds
status_found_answers rules (Format settings) given old new report verdict finds = absurd finds
status_found_answers rules (Watch rule grain) given old new report verdict finds = absurd finds
status_found_answers rules (Make seed frames) given old new report verdict finds = absurd finds
status_found_answers rules (Demo seed frames settings) given old new report verdict finds = absurd finds
status_found_answers rules (Audit settings) given old new report verdict finds = inr (report, verdict, refl)

-- the session over a capture whose store is refused however its records are dealt
status_never_of_begun_session : AreDecided → (rules : DealingRules) (settings : Settings) (store : Option (List ℕ))
    (file image : List ℕ) (fault : OpenFault) (records : Records) (lists : List (List RecordValue))
    (base : Option CutValue) → AreLimited settings → settings.store ≡ true → store ≡ Some image → IsShownByBytes fault
    → ((records : Records) (lists : List (List RecordValue)) → AreDealtRecords settings rules file records lists
    → RefusesOpening (settings_of_store settings) lists image fault)
    → AreDealtRecords settings rules file records lists → GoesOnFrom settings lists store base → ⊥
status_never_of_begun_session decided rules settings store file image fault records lists base limited used known shown refused dealt
    begins =
    (decided (settings_of_store settings) lists image (settings_of_store-allowed settings limited)).not_both base fault
    (begins.opens used image known) shown (refused records lists dealt)

-- the fault for which such a store is refused
status_names_same_refusal : AreDecided → (rules : DealingRules) (settings : Settings) (given : InputBytes) (AsBefore : Type 0)
    (file image : List ℕ) (fault other : OpenFault) → AreLimited settings → given.capture ≡ Some file → given.store ≡ Some image
    → IsShownByBytes fault → IsShownByBytes other
    → ((records : Records) (lists : List (List RecordValue)) → AreDealtRecords settings rules file records lists
    → RefusesOpening (settings_of_store settings) lists image fault)
    → EndsRefusing settings rules given.capture given.store AsBefore other → other ≡ fault
status_names_same_refusal decided rules settings given AsBefore file image fault other limited known is_store shown is_shown
    refused refuses =
    let is = status_of_known_file given.capture file (λ f. IsRefusedStore settings rules given.store f other) known refuses.2 in
    (decided (settings_of_store settings) is.lists image (settings_of_store-allowed settings limited)).one_fault other fault is_shown
    shown (is.refused image is_store) (refused is.records is.lists is.dealt)

-- arguments that are refused name no fault of a store
pub argument_status_is_no_refusal : {A : Type 0} (refusal : WordsRefusal) (status : Status) (fault : OpenFault) → IsShownByBytes fault
    → status ≡ status_of_words refusal → status ≡ status_of_opening fault → A
argument_status_is_no_refusal (words.Bad kind) status opening.NotFormatted shown is was = cc (is, was)
argument_status_is_no_refusal words.OutOfMemory status opening.NotFormatted shown is was = cc (is, was)
argument_status_is_no_refusal (words.Bad kind) status (opening.Damaged slot) shown is was = cc (is, was)
argument_status_is_no_refusal words.OutOfMemory status (opening.Damaged slot) shown is was = cc (is, was)
argument_status_is_no_refusal (words.Bad kind) status (opening.OtherSettings stored asked) shown is was = cc (is, was)
argument_status_is_no_refusal words.OutOfMemory status (opening.OtherSettings stored asked) shown is was = cc (is, was)
argument_status_is_no_refusal (words.Bad kind) status (opening.OtherCapture stored asked) shown is was = cc (is, was)
argument_status_is_no_refusal words.OutOfMemory status (opening.OtherCapture stored asked) shown is was = cc (is, was)
argument_status_is_no_refusal (words.Bad kind) status opening.DiskFault shown is was = absurd (shown.not_of_disk refl)
argument_status_is_no_refusal (words.Bad kind) status opening.OutOfMemory shown is was = absurd (shown.not_of_memory refl)
argument_status_is_no_refusal words.OutOfMemory status opening.DiskFault shown is was = absurd (shown.not_of_disk refl)
argument_status_is_no_refusal words.OutOfMemory status opening.OutOfMemory shown is was = absurd (shown.not_of_memory refl)

-- how a command that uses no disk ended, with a disk that is untouched
pub status_beside_disk : {K : Type 0} (task : Task) (c : Course K) (DiskSame StoreSame : Type 0) (status : Status)
    → (task.disk_failed → ⊥) → DiskSame → StoreSame → Ends task c status
    → Ends (record task { disk_same = DiskSame; store_same = StoreSame }) c status
status_beside_disk task c DiskSame StoreSame Done unused same before ends = ends
status_beside_disk task c DiskSame StoreSame (BadWords kind) unused same before ends = ends
status_beside_disk task c DiskSame StoreSame (BadCapture fault) unused same before ends = (ends.0, ends.1, same, ends.3, ends.4)
status_beside_disk task c DiskSame StoreSame ReadFault unused same before ends = (ends.0, ends.1, same, ends.3)
status_beside_disk task c DiskSame StoreSame WriteFault unused same before ends = ends
status_beside_disk task c DiskSame StoreSame DiskFault unused same before ends = absurd (unused ends.3)
status_beside_disk task c DiskSame StoreSame NotFormatted unused same before ends = ends
status_beside_disk task c DiskSame StoreSame (Damaged slot) unused same before ends = ends
status_beside_disk task c DiskSame StoreSame (OtherSettings stored asked) unused same before ends = ends
status_beside_disk task c DiskSame StoreSame (OtherCapture stored asked) unused same before ends = ends
status_beside_disk task c DiskSame StoreSame (AuditNo report verdict) unused same before ends = ends
status_beside_disk task c DiskSame StoreSame (BadReport fault) unused same before ends = (ends.0, ends.1, same, ends.3, ends.4)
status_beside_disk task c DiskSame StoreSame OutOfMemory unused same before ends =
    (⊎_elim (λ unwritten. inl (unwritten.0, before)) (λ part. inr part) ends.0, ends.1, ends.2)

-- what happened to the disk of a command happened
pub status_tells_disk_happening : (command : Command) (Happened : Type 0) → DiskHappened command Happened → Happened
status_tells_disk_happening (Weigh prefix settings) Happened none = absurd none
status_tells_disk_happening (Report settings) Happened happened = happened
status_tells_disk_happening (Format settings) Happened happened = happened
status_tells_disk_happening (Audit settings) Happened none = absurd none
status_tells_disk_happening (Watch rule grain) Happened none = absurd none
status_tells_disk_happening (Make seed frames) Happened none = absurd none
status_tells_disk_happening (Demo seed frames settings) Happened none = absurd none

-- a run, whose command ended so
module _ {S T K D : Type 0} (s : SourceOf S) (t : SourceOf T) (k : SinkOf K) (d : DiskOf D) (old new : Streams S T K D)
    (rules : RunRules) where
  -- its inputs, what it kept, and how a command of it ends
  abbrev given : InputBytes
  given = run_inputs s t k d old new

  abbrev keeping : SessionKeeping
  keeping = run_keeping s t k d old new

  abbrev AsBefore : Type 0
  AsBefore = IsAsBefore d old.disk new.disk

  abbrev Ended : Command → Status → Type 0
  Ended = CommandEnds s t k d old new rules

  -- a command that reads a capture over a file with a fault is refused for it, unless the source fails or memory runs out
  pub status_of_refused_capture : CaptureStatusIsFaultless → FaultStatusIsUnique
      → (command : Command) (status : Status) (file : List ℕ)
      (fault : CaptureFault) → UsesCapture command → given.capture ≡ Some file
      → IsRefusedFile (takes_front command) file fault
      → Ended command status
      → (status ≡ BadCapture fault) ⊎ ((status ≡ ReadFault) ⊎ (status ≡ OutOfMemory))
  status_of_refused_capture never_both one_fault command Done file fault reads known has ends =
      let capture = status_tells_capture rules keeping command given file ends.1.text reads known ends.1.is_text in
      absurd (never_both (takes_front command) file capture fault has)
  status_of_refused_capture never_both one_fault command (BadWords kind) file fault reads known has ends =
      absurd ends
  status_of_refused_capture never_both one_fault command (BadCapture other) file fault reads known has ends =
      inl (ap BadCapture (one_fault (takes_front command) file fault other has
      (status_of_known_file given.capture file (λ f. IsRefusedFile (takes_front command) f other) known ends.0)))
  status_of_refused_capture never_both one_fault command ReadFault file fault reads known has ends =
      inr (inl refl)
  status_of_refused_capture never_both one_fault command WriteFault file fault reads known has ends =
      let capture = status_tells_capture_in_part rules keeping command given file ends.1.text reads known ends.1.is_text in
      absurd (never_both (takes_front command) file capture fault has)
  status_of_refused_capture never_both one_fault command DiskFault file fault reads known has ends =
      let capture = status_tells_accepted_capture command given file reads known ends.1 in
      absurd (never_both (takes_front command) file capture fault has)
  status_of_refused_capture never_both one_fault command NotFormatted file fault reads known has ends =
      let capture = status_tells_capture_if_refused rules.dealing command given AsBefore file opening.NotFormatted known ends.0 in
      absurd (never_both (takes_front command) file capture fault has)
  status_of_refused_capture never_both one_fault command (Damaged slot) file fault reads known has ends =
      let capture = status_tells_capture_if_refused rules.dealing command given AsBefore file (opening.Damaged slot) known ends.0 in
      absurd (never_both (takes_front command) file capture fault has)
  status_of_refused_capture never_both one_fault command (OtherSettings stored asked) file fault reads known has ends =
      let capture = status_tells_capture_if_refused rules.dealing command given AsBefore file (opening.OtherSettings stored asked) known ends.0 in
      absurd (never_both (takes_front command) file capture fault has)
  status_of_refused_capture never_both one_fault command (OtherCapture stored asked) file fault reads known has ends =
      let capture = status_tells_capture_if_refused rules.dealing command given AsBefore file (opening.OtherCapture stored asked) known ends.0 in
      absurd (never_both (takes_front command) file capture fault has)
  status_of_refused_capture never_both one_fault command (AuditNo report verdict) file fault reads known has ends =
      let capture = status_tells_capture_if_audited rules.dealing command given (k.taken old.sink) (k.taken new.sink) file report verdict known ends.1 in
      absurd (never_both (takes_front command) file capture fault has)
  status_of_refused_capture never_both one_fault command (BadReport wrong) file fault reads known has ends =
      let capture = status_tells_capture_if_faulty rules.dealing command given (k.taken old.sink) (k.taken new.sink) file wrong reads known ends.0 in
      absurd (never_both (takes_front command) file capture fault has)
  status_of_refused_capture never_both one_fault command OutOfMemory file fault reads known has ends =
      inr (inr refl)

  -- over known inputs in their formats and with no fault of source, sink or disk, a command is answered unless memory runs
  -- out. BadCapture comes of commands alone that read a capture
  status_of_answered_command : CaptureStatusIsFaultless → AreDecided → BelongingOpen → SessionStatusIsFaultless
      → (command : Command) (status : Status) → IsLimitedCommand command → CanBeAnswered rules.dealing command given
      → (SourceFaultsRose (faults_before s t k d old new) (faults_after s t k d old new) → ⊥)
      → (FaultRose (k.faults old.sink) (k.faults new.sink) → ⊥) → (FaultRose (d.faults old.disk) (d.faults new.disk) → ⊥)
      → ((fault : CaptureFault) → status ≡ BadCapture fault → UsesCapture command)
      → Ended command status
      → EndsAnswered command status ⊎ (status ≡ OutOfMemory)
  status_of_answered_command never_both decided opened no_fault command Done limited can no_read no_write no_disk reads ends =
      inl (status_done_answers command)
  status_of_answered_command never_both decided opened no_fault command (BadWords kind) limited can no_read no_write no_disk reads ends =
      absurd ends
  status_of_answered_command never_both decided opened no_fault command (BadCapture fault) limited can no_read no_write no_disk reads ends =
      absurd (status_of_known_capture rules.dealing command given [] fault never_both (reads fault refl) can ends.0)
  status_of_answered_command never_both decided opened no_fault command ReadFault limited can no_read no_write no_disk reads ends =
      absurd (no_read ends.0)
  status_of_answered_command never_both decided opened no_fault command WriteFault limited can no_read no_write no_disk reads ends =
      absurd (no_write ends.2)
  status_of_answered_command never_both decided opened no_fault command DiskFault limited can no_read no_write no_disk reads ends =
      absurd (no_disk (status_tells_disk_happening command _ ends.3))
  status_of_answered_command never_both decided opened no_fault command NotFormatted limited can no_read no_write no_disk reads ends =
      absurd (command_status_is_never_refusal decided opened rules.dealing command given AsBefore opening.NotFormatted limited can
      (record { not_of_disk = λ is. cc is; not_of_memory = λ is. cc is }) ends.0)
  status_of_answered_command never_both decided opened no_fault command (Damaged slot) limited can no_read no_write no_disk reads ends =
      absurd (command_status_is_never_refusal decided opened rules.dealing command given AsBefore (opening.Damaged slot) limited can
      (record { not_of_disk = λ is. cc is; not_of_memory = λ is. cc is }) ends.0)
  status_of_answered_command never_both decided opened no_fault command (OtherSettings stored asked) limited can no_read no_write no_disk reads ends =
      absurd (command_status_is_never_refusal decided opened rules.dealing command given AsBefore (opening.OtherSettings stored asked) limited can
      (record { not_of_disk = λ is. cc is; not_of_memory = λ is. cc is }) ends.0)
  status_of_answered_command never_both decided opened no_fault command (OtherCapture stored asked) limited can no_read no_write no_disk reads ends =
      absurd (command_status_is_never_refusal decided opened rules.dealing command given AsBefore (opening.OtherCapture stored asked) limited can
      (record { not_of_disk = λ is. cc is; not_of_memory = λ is. cc is }) ends.0)
  status_of_answered_command never_both decided opened no_fault command (AuditNo report verdict) limited can no_read no_write no_disk reads ends =
      inl (status_found_answers rules.dealing command given (k.taken old.sink) (k.taken new.sink) report verdict ends.1)
  status_of_answered_command never_both decided opened no_fault command (BadReport fault) limited can no_read no_write no_disk reads ends =
      absurd (status_is_never_bad_report no_fault rules.dealing command given (k.taken old.sink) (k.taken new.sink) fault can ends.0)
  status_of_answered_command never_both decided opened no_fault command OutOfMemory limited can no_read no_write no_disk reads ends =
      inr refl

  -- a report whose store is refused
  status_of_refused_opening : (words : List (List ℕ)) (command : Command) (fault : OpenFault) → AskForCommand words command
      → WereRead command given → Refuses command rules.dealing given AsBefore fault → new.sink ≡ old.sink
      → RefusesStore s t k d old new words rules fault
  status_of_refused_opening words (Weigh prefix settings) fault asked read refuses same = absurd refuses
  status_of_refused_opening words (Report settings) fault asked read refuses same = record {
    settings = settings;
    asked = asked;
    used = refuses.0;
    read_to_end = read;
    refused = refuses.2;
    nothing = (same, refuses.1);
  }
  status_of_refused_opening words (Format settings) fault asked read refuses same = absurd refuses
  status_of_refused_opening words (Audit settings) fault asked read refuses same = absurd refuses
  status_of_refused_opening words (Watch rule grain) fault asked read refuses same = absurd refuses
  status_of_refused_opening words (Make seed frames) fault asked read refuses same = absurd refuses
  status_of_refused_opening words (Demo seed frames settings) fault asked read refuses same = absurd refuses

  -- what a status that names a fault of a store says
  pub status_names_refusal : (words : List (List ℕ)) (command : Command) (status : Status) (fault : OpenFault)
      → AskForCommand words command → IsShownByBytes fault → status ≡ status_of_opening fault → Ended command status
      → RefusesStore s t k d old new words rules fault
  status_names_refusal words command status opening.NotFormatted asked shown is ends =
      let now = subst (Ended command) is ends in
      status_of_refused_opening words command opening.NotFormatted asked now.1 now.0 now.2
  status_names_refusal words command status (opening.Damaged slot) asked shown is ends =
      let now = subst (Ended command) is ends in
      status_of_refused_opening words command (opening.Damaged slot) asked now.1 now.0 now.2
  status_names_refusal words command status (opening.OtherSettings stored asked_for) asked shown is ends =
      let now = subst (Ended command) is ends in
      status_of_refused_opening words command (opening.OtherSettings stored asked_for) asked now.1 now.0 now.2
  status_names_refusal words command status (opening.OtherCapture stored asked_for) asked shown is ends =
      let now = subst (Ended command) is ends in
      status_of_refused_opening words command (opening.OtherCapture stored asked_for) asked now.1 now.0 now.2
  status_names_refusal words command status opening.DiskFault asked shown is ends = absurd (shown.not_of_disk refl)
  status_names_refusal words command status opening.OutOfMemory asked shown is ends = absurd (shown.not_of_memory refl)

  -- a report whose store is refused, however the records are dealt, ends so, unless source or disk fail or memory runs out
  pub status_is_store_refusal : CaptureStatusIsFaultless → AreDecided
      → (settings : Settings) (status : Status)
      (file image : List ℕ) (fault : OpenFault) → AreLimited settings → settings.store ≡ true
      → given.capture ≡ Some file → IsCaptureFile settings.front file → given.store ≡ Some image → IsShownByBytes fault
      → ((records : Records) (lists : List (List RecordValue)) → AreDealtRecords settings rules.dealing file records lists
      → RefusesOpening (settings_of_store settings) lists image fault)
      → Ended (Report settings) status
      → (status ≡ status_of_opening fault)
      ⊎ ((status ≡ ReadFault) ⊎ ((status ≡ DiskFault) ⊎ (status ≡ OutOfMemory)))
  status_is_store_refusal never_both decided settings Done file image fault limited used known
      capture is_store shown refused ends =
      let is = ends.1.is_text in
      absurd (status_never_of_begun_session decided rules.dealing settings given.store file image fault is.records is.lists is.base limited used is_store
      shown refused (status_of_known_file given.capture file (λ f. AreDealtRecords settings rules.dealing f is.records is.lists) known is.dealt) is.begins)
  status_is_store_refusal never_both decided settings (BadWords kind) file image fault limited used known
      capture is_store shown refused ends =
      absurd ends
  status_is_store_refusal never_both decided settings (BadCapture other) file image fault limited used known
      capture is_store shown refused ends =
      absurd (never_both settings.front file capture other
      (status_of_known_file given.capture file (λ f. IsRefusedFile settings.front f other) known ends.0))
  status_is_store_refusal never_both decided settings ReadFault file image fault limited used known
      capture is_store shown refused ends =
      inr (inl refl)
  status_is_store_refusal never_both decided settings WriteFault file image fault limited used known
      capture is_store shown refused ends =
      let is = ends.1.is_text in
      absurd (status_never_of_begun_session decided rules.dealing settings given.store file image fault is.records is.lists is.base limited used is_store
      shown refused (status_of_known_file given.capture file (λ f. AreDealtRecords settings rules.dealing f is.records is.lists) known is.dealt) is.begins)
  status_is_store_refusal never_both decided settings DiskFault file image fault limited used known
      capture is_store shown refused ends =
      inr (inr (inl refl))
  status_is_store_refusal never_both decided settings (AuditNo report verdict) file image fault limited used known
      capture is_store shown refused ends =
      absurd ends.1
  status_is_store_refusal never_both decided settings (BadReport wrong) file image fault limited used known
      capture is_store shown refused ends =
      absurd ends.0
  status_is_store_refusal never_both decided settings OutOfMemory file image fault limited used known
      capture is_store shown refused ends =
      inr (inr (inr refl))
  status_is_store_refusal never_both decided settings NotFormatted file image fault limited used known
      capture is_store shown refused ends =
      inl (ap status_of_opening (status_names_same_refusal decided rules.dealing settings given AsBefore file image fault
      opening.NotFormatted limited known is_store shown
      (record { not_of_disk = λ is. cc is; not_of_memory = λ is. cc is }) refused ends.0))
  status_is_store_refusal never_both decided settings (Damaged slot) file image fault limited used known
      capture is_store shown refused ends =
      inl (ap status_of_opening (status_names_same_refusal decided rules.dealing settings given AsBefore file image fault
      (opening.Damaged slot) limited known is_store shown
      (record { not_of_disk = λ is. cc is; not_of_memory = λ is. cc is }) refused ends.0))
  status_is_store_refusal never_both decided settings (OtherSettings stored asked) file image fault limited used known
      capture is_store shown refused ends =
      inl (ap status_of_opening (status_names_same_refusal decided rules.dealing settings given AsBefore file image fault
      (opening.OtherSettings stored asked) limited known is_store shown
      (record { not_of_disk = λ is. cc is; not_of_memory = λ is. cc is }) refused ends.0))
  status_is_store_refusal never_both decided settings (OtherCapture stored asked) file image fault limited used known
      capture is_store shown refused ends =
      inl (ap status_of_opening (status_names_same_refusal decided rules.dealing settings given AsBefore file image fault
      (opening.OtherCapture stored asked) limited known is_store shown
      (record { not_of_disk = λ is. cc is; not_of_memory = λ is. cc is }) refused ends.0))

  -- the same of the command that was asked for
  pub status_of_asked_command : CaptureStatusIsFaultless → AreDecided → BelongingOpen → SessionStatusIsFaultless
      → (command read : Command) (status : Status) → read ≡ command → IsLimitedCommand read
      → CanBeAnswered rules.dealing command given
      → (SourceFaultsRose (faults_before s t k d old new) (faults_after s t k d old new) → ⊥)
      → (FaultRose (k.faults old.sink) (k.faults new.sink) → ⊥) → (FaultRose (d.faults old.disk) (d.faults new.disk) → ⊥)
      → ((fault : CaptureFault) → status ≡ BadCapture fault → UsesCapture read)
      → Ended read status
      → EndsAnswered command status ⊎ (status ≡ OutOfMemory)
  status_of_asked_command never_both decided opened no_fault command read status same limited can no_read no_write no_disk reads
      ends =
      subst (λ c. EndsAnswered c status ⊎ (status ≡ OutOfMemory)) same
      (status_of_answered_command never_both decided opened no_fault read status limited
      (subst (λ c. CanBeAnswered rules.dealing c given) (sym same) can) no_read no_write no_disk reads ends)

  -- how a command ended, by how the command that it is equal to ended
  pub status_as_named_command : (command named : Command) (status : Status) → command ≡ named → Ended named status
      → Ended command status
  status_as_named_command command named status is ends = subst (λ c. Ended c status) (sym is) ends
