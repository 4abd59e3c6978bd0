-- Answers under rules of dealing that allow more.
use Rattle.std.proofs.Common.{⊎_elim, inl, inr, ℕ, List, Option}
use Rattle.report_text.specs.declared.session.Session.{Session}
use Rattle.exact_audit.specs.declared.verdict.Verdict.{Verdict}
use Rattle.prefix_lattice.specs.{RecordValue}
use Rattle.deal_rules.specs.declared.deal_kind.DealKind.{DealKind}
use Rattle.deal_rules.specs.{IsDealing}
use Rattle.command_words.specs.declared.command.Command.{Command}
use Rattle.command_words.specs.declared.command.Command.TheVariants.{Weigh, Report, Format, Audit, Watch, Make, Demo}
use Rattle.hhh_engine.specs.Answer.{IsAnswer, IsAnswerInPart, IsUnfinished, Answers, AnswersInPart}
use Rattle.frame_records.specs.declared.records.Records.{Records}
use Rattle.dealt_capture.specs.{AreDealtRecords, DealingRules}
use Rattle.report_session.specs.{IsSession, IsSessionInPart, SessionKeeping}
use Rattle.session_audit.specs.{AreAudited, IsAuditText, IsSoundAudit, IsUnsoundAudit}
use Rattle.traffic_maker.specs.{made_capture}
use Rattle.hhh_engine.specs.Demo.{IsDemoText}
use Rattle.hhh_engine.specs.Rules.{RunRules}
use Rattle.session_watch.specs.{IsWatchOf}
use Rattle.watch_rules.specs.declared.rule.Rule.{Rule}
use Rattle.prefix_lattice.specs.declared.grain.Grain.{Grain}
use Rattle.outside_io.specs.declared.source.Source.{Ghosts as SourceOf}
use Rattle.outside_io.specs.declared.sink.Sink.{Ghosts as SinkOf}
use Rattle.slot_disk.specs.declared.disk.Disk.{Ghosts as DiskOf}
use Rattle.hhh_engine.specs.Ending.{IsRefusedStore}
use Rattle.hhh_engine.specs.TopCall.{FindsUnsound, RefusesStore, RunEnds, Streams, WritesPart, run_inputs}
use Rattle.hhh_engine.specs.TopCall.{run_keeping}
use Rattle.run_status.specs.declared.status.Status.{Status}
use Rattle.hhh_engine.specs.Inputs.{CanBeAnswered, HasStore, InputBytes}
use Rattle.hhh_engine.proofs.AuditEndLemmas.{audit_end_inputs_imply_more}
use Rattle.hhh_engine.proofs.CaptureReportLemmas.{capture_report_if_known}
use Rattle.command_words.specs.declared.settings.Settings.{Settings}
use Rattle.recovery.specs.declared.fault.OpenFault.{OpenFault}

-- rules of a kind of dealing
abbrev WiderRuleKind : Type 1
WiderRuleKind = ℕ → RecordValue → ℕ → ℕ → Type 0

wider_rules_allow_dealing : (narrow wide : WiderRuleKind) (kind : DealKind) (shards : ℕ) (records : List RecordValue)
    (lists : List (List RecordValue))
    → ((place : ℕ) (rec : RecordValue) (shards number : ℕ) → narrow place rec shards number
    → wide place rec shards number)
    → IsDealing kind narrow shards records lists → IsDealing kind wide shards records lists
wider_rules_allow_dealing narrow wide kind shards records lists widen dealing = record {
  numbers = dealing.numbers;
  dealt = dealing.dealt;
  ruled = λ place number rec at numbered.
      let dealt = dealing.ruled place number rec at numbered in
      record { below = dealt.below; of_kind = dealt.of_kind; answered = widen place rec shards number dealt.answered };
}

wider_rules_allow_records : (narrow wide : DealingRules) (settings : Settings) (file : List ℕ) (records : Records)
    (lists : List (List RecordValue))
    → ((kind : DealKind) (place : ℕ) (rec : RecordValue) (shards number : ℕ) → narrow kind place rec shards number
    → wide kind place rec shards number)
    → AreDealtRecords settings narrow file records lists → AreDealtRecords settings wide file records lists
wider_rules_allow_records narrow wide settings file records lists widen dealt = record {
  frames = dealt.frames;
  capture = dealt.capture;
  are_records = dealt.are_records;
  dealt =
      wider_rules_allow_dealing (narrow settings.deal) (wide settings.deal) settings.deal settings.shards records.list lists
      (widen settings.deal) dealt.dealt;
}

wider_rules_allow_session : (narrow wide : DealingRules) (keeping : SessionKeeping) (settings : Settings)
    (store file : Option (List ℕ)) (text : List ℕ)
    → ((kind : DealKind) (place : ℕ) (rec : RecordValue) (shards number : ℕ) → narrow kind place rec shards number
    → wide kind place rec shards number)
    → IsSession settings narrow keeping store file text → IsSession settings wide keeping store file text
wider_rules_allow_session narrow wide keeping settings store file text widen session = record {
  records = session.records;
  lists = session.lists;
  dealt = capture_report_if_known file (λ bytes. AreDealtRecords settings narrow bytes session.records session.lists)
      (λ bytes. AreDealtRecords settings wide bytes session.records session.lists)
      (λ bytes. wider_rules_allow_records narrow wide settings bytes session.records session.lists widen) session.dealt;
  as_many = session.as_many;
  base = session.base;
  begins = session.begins;
  represents = session.represents;
  spelled = session.spelled;
}

wider_rules_allow_partial_session : (narrow wide : DealingRules) (keeping : SessionKeeping) (settings : Settings)
    (store file : Option (List ℕ)) (front : List ℕ)
    → ((kind : DealKind) (place : ℕ) (rec : RecordValue) (shards number : ℕ) → narrow kind place rec shards number
    → wide kind place rec shards number)
    → IsSessionInPart settings narrow keeping store file front → IsSessionInPart settings wide keeping store file front
wider_rules_allow_partial_session narrow wide keeping settings store file front widen session = record {
  records = session.records;
  lists = session.lists;
  dealt = capture_report_if_known file (λ bytes. AreDealtRecords settings narrow bytes session.records session.lists)
      (λ bytes. AreDealtRecords settings wide bytes session.records session.lists)
      (λ bytes. wider_rules_allow_records narrow wide settings bytes session.records session.lists widen) session.dealt;
  as_many = session.as_many;
  base = session.base;
  begins = session.begins;
  represents = session.represents;
  shards = session.shards;
  begun = session.begun;
}

wider_rules_allow_audit : (narrow wide : DealingRules) (settings : Settings) (file text : List ℕ) (lists : List (List RecordValue))
    (session : Session)
    → ((kind : DealKind) (place : ℕ) (rec : RecordValue) (shards number : ℕ) → narrow kind place rec shards number
    → wide kind place rec shards number)
    → AreAudited settings narrow file text lists session → AreAudited settings wide file text lists session
wider_rules_allow_audit narrow wide settings file text lists session widen audited = record {
  records = audited.records;
  dealt = wider_rules_allow_records narrow wide settings file audited.records lists widen audited.dealt;
  is_session = audited.is_session;
  not_long = audited.not_long;
}

wider_rules_allow_sound_session : (narrow wide : DealingRules) (settings : Settings) (file text answer : List ℕ)
    → ((kind : DealKind) (place : ℕ) (rec : RecordValue) (shards number : ℕ) → narrow kind place rec shards number
    → wide kind place rec shards number)
    → IsSoundAudit settings narrow file text answer → IsSoundAudit settings wide file text answer
wider_rules_allow_sound_session narrow wide settings file text answer widen is = record {
  lists = is.lists;
  session = is.session;
  audited = wider_rules_allow_audit narrow wide settings file text is.lists is.session widen is.audited;
  sound = is.sound;
  spelled = is.spelled;
}

wider_rules_allow_unsound_session : (narrow wide : DealingRules) (settings : Settings) (file text : List ℕ) (report : ℕ) (verdict : Verdict)
    → ((kind : DealKind) (place : ℕ) (rec : RecordValue) (shards number : ℕ) → narrow kind place rec shards number
    → wide kind place rec shards number)
    → IsUnsoundAudit settings narrow file text report verdict
    → IsUnsoundAudit settings wide file text report verdict
wider_rules_allow_unsound_session narrow wide settings file text report verdict widen is = record {
  lists = is.lists;
  session = is.session;
  audited = wider_rules_allow_audit narrow wide settings file text is.lists is.session widen is.audited;
  first = is.first;
}

wider_rules_allow_audit_part : (narrow wide : DealingRules) (settings : Settings) (file text front : List ℕ)
    → ((kind : DealKind) (place : ℕ) (rec : RecordValue) (shards number : ℕ) → narrow kind place rec shards number
    → wide kind place rec shards number)
    → IsUnfinished (IsAuditText settings narrow file text) front → IsUnfinished (IsAuditText settings wide file text) front
wider_rules_allow_audit_part narrow wide settings file text front widen short = record {
  text = short.text;
  is_text = ⊎_elim
      (λ is. inl (wider_rules_allow_sound_session narrow wide settings file text short.text widen is))
      (λ is. inr (is.0, is.1, wider_rules_allow_unsound_session narrow wide settings file text is.0 is.1 widen is.2, is.3)) short.is_text;
  begins = short.begins;
  cut = short.cut;
}

wider_rules_allow_demo : (narrow wide : DealingRules) (settings : Settings) (seed frames : ℕ) (text : List ℕ)
    → ((kind : DealKind) (place : ℕ) (rec : RecordValue) (shards number : ℕ) → narrow kind place rec shards number
    → wide kind place rec shards number)
    → IsDemoText settings narrow seed frames text → IsDemoText settings wide seed frames text
wider_rules_allow_demo narrow wide settings seed frames text widen is = record {
  records = is.records;
  lists = is.lists;
  dealt = wider_rules_allow_records narrow wide settings (made_capture seed frames) is.records is.lists widen is.dealt;
  report = is.report;
  is_report = is.is_report;
  spelled = is.spelled;
}

-- rules that allow all that other rules allow
pub record IsWider (narrow wide : RunRules) : Type 0 where
  pub dealing : (kind : DealKind) (place : ℕ) (rec : RecordValue) (shards number : ℕ) → narrow.dealing kind place rec shards number
      → wide.dealing kind place rec shards number
  pub judging : (rule : Rule) (grain : Grain) (session answer : List ℕ) → IsWatchOf narrow.judging rule grain session answer
      → IsWatchOf wide.judging rule grain session answer

wider_rules_allow_answer_text : (narrow wide : RunRules) (keeping : SessionKeeping) (command : Command) (read : InputBytes) (text : List ℕ)
    → IsWider narrow wide
    → IsAnswer narrow keeping command read text → IsAnswer wide keeping command read text
wider_rules_allow_answer_text narrow wide keeping (Weigh prefix settings) read text widen answer = answer
wider_rules_allow_answer_text narrow wide keeping (Report settings) read text widen answer =
    wider_rules_allow_session narrow.dealing wide.dealing keeping settings read.store read.capture text widen.dealing answer
wider_rules_allow_answer_text narrow wide keeping (Format settings) read text widen answer = answer
wider_rules_allow_answer_text narrow wide keeping (Audit settings) read text widen answer =
    audit_end_inputs_imply_more settings read (λ file session. IsSoundAudit settings narrow.dealing file session text)
    (λ file session. IsSoundAudit settings wide.dealing file session text)
    (λ file session is. wider_rules_allow_sound_session narrow.dealing wide.dealing settings file session text widen.dealing is) answer
wider_rules_allow_answer_text narrow wide keeping (Watch rule grain) read text widen answer =
    capture_report_if_known read.text (λ session. IsWatchOf narrow.judging rule grain session text)
    (λ session. IsWatchOf wide.judging rule grain session text)
    (λ session is. widen.judging rule grain session text is) answer
wider_rules_allow_answer_text narrow wide keeping (Make seed frames) read text widen answer = answer
wider_rules_allow_answer_text narrow wide keeping (Demo seed frames settings) read text widen answer =
    wider_rules_allow_demo narrow.dealing wide.dealing settings seed frames text widen.dealing answer

wider_rules_allow_answer_part : (narrow wide : RunRules) (keeping : SessionKeeping) (command : Command) (read : InputBytes) (front : List ℕ)
    → IsWider narrow wide
    → IsAnswerInPart narrow keeping command read front → IsAnswerInPart wide keeping command read front
wider_rules_allow_answer_part narrow wide keeping (Weigh prefix settings) read front widen answer = answer
wider_rules_allow_answer_part narrow wide keeping (Report settings) read front widen answer =
    wider_rules_allow_partial_session narrow.dealing wide.dealing keeping settings read.store read.capture front widen.dealing answer
wider_rules_allow_answer_part narrow wide keeping (Format settings) read front widen answer = answer
wider_rules_allow_answer_part narrow wide keeping (Audit settings) read front widen answer =
    audit_end_inputs_imply_more settings read (λ file session. IsUnfinished (IsAuditText settings narrow.dealing file session) front)
    (λ file session. IsUnfinished (IsAuditText settings wide.dealing file session) front)
    (λ file session is. wider_rules_allow_audit_part narrow.dealing wide.dealing settings file session front widen.dealing is) answer
wider_rules_allow_answer_part narrow wide keeping (Watch rule grain) read front widen answer =
    capture_report_if_known read.text (λ session. IsUnfinished (IsWatchOf narrow.judging rule grain session) front)
    (λ session. IsUnfinished (IsWatchOf wide.judging rule grain session) front)
    (λ session is. record {
      text = is.text;
      is_text = widen.judging rule grain session is.text is.is_text;
      begins = is.begins;
      cut = is.cut;
    }) answer
wider_rules_allow_answer_part narrow wide keeping (Make seed frames) read front widen answer = answer
wider_rules_allow_answer_part narrow wide keeping (Demo seed frames settings) read front widen answer = record {
  text = answer.text;
  is_text = wider_rules_allow_demo narrow.dealing wide.dealing settings seed frames answer.text widen.dealing answer.is_text;
  begins = answer.begins;
  cut = answer.cut;
}

wider_rules_allow_answers : (narrow wide : RunRules) (keeping : SessionKeeping) (words : List (List ℕ)) (read : InputBytes)
    (old new : Option (List ℕ))
    → IsWider narrow wide
    → Answers narrow keeping words read old new → Answers wide keeping words read old new
wider_rules_allow_answers narrow wide keeping words read old new widen answers = record {
  command = answers.command;
  asked = answers.asked;
  read_to_end = answers.read_to_end;
  answer = record {
    text = answers.answer.text;
    is_text = wider_rules_allow_answer_text narrow wide keeping answers.command read answers.answer.text widen answers.answer.is_text;
    written = answers.answer.written;
  };
}

wider_rules_allow_partial_answers : (narrow wide : RunRules) (keeping : SessionKeeping) (words : List (List ℕ)) (read : InputBytes)
    (old new : Option (List ℕ))
    → IsWider narrow wide
    → AnswersInPart narrow keeping words read old new → AnswersInPart wide keeping words read old new
wider_rules_allow_partial_answers narrow wide keeping words read old new widen answers = record {
  command = answers.command;
  asked = answers.asked;
  read_to_end = answers.read_to_end;
  answer = record {
    text = answers.answer.text;
    is_text = wider_rules_allow_answer_part narrow wide keeping answers.command read answers.answer.text widen answers.answer.is_text;
    written = answers.answer.written;
  };
}

wider_rules_allow_refusal : (narrow wide : DealingRules) (settings : Settings) (store : Option (List ℕ)) (file : List ℕ) (fault : OpenFault)
    → ((kind : DealKind) (place : ℕ) (rec : RecordValue) (shards number : ℕ) → narrow kind place rec shards number
    → wide kind place rec shards number)
    → IsRefusedStore settings narrow store file fault → IsRefusedStore settings wide store file fault
wider_rules_allow_refusal narrow wide settings store file fault widen is = record {
  records = is.records;
  lists = is.lists;
  dealt = wider_rules_allow_records narrow wide settings file is.records is.lists widen is.dealt;
  refused = is.refused;
}

wider_rules_imply_known_store : (narrow wide : DealingRules) (settings : Settings) (read : InputBytes)
    → ((kind : DealKind) (place : ℕ) (rec : RecordValue) (shards number : ℕ) → narrow kind place rec shards number
    → wide kind place rec shards number)
    → HasStore settings wide read → HasStore settings narrow read
wider_rules_imply_known_store narrow wide settings read widen store = record {
  image = store.image;
  told = store.told;
  belongs = λ file records lists is_file dealt.
      store.belongs file records lists is_file (wider_rules_allow_records narrow wide settings file records lists widen dealt);
}

-- inputs in their formats stay so under rules that allow less, which deal the records in fewer ways
wider_rules_imply_answerable : (narrow wide : DealingRules) (command : Command) (read : InputBytes)
    → ((kind : DealKind) (place : ℕ) (rec : RecordValue) (shards number : ℕ) → narrow kind place rec shards number
    → wide kind place rec shards number)
    → CanBeAnswered wide command read → CanBeAnswered narrow command read
wider_rules_imply_answerable narrow wide (Weigh prefix settings) read widen can = can
wider_rules_imply_answerable narrow wide (Report settings) read widen can =
    (can.0, λ used. wider_rules_imply_known_store narrow wide settings read widen (can.1 used))
wider_rules_imply_answerable narrow wide (Format settings) read widen can = can
wider_rules_imply_answerable narrow wide (Audit settings) read widen can = can
wider_rules_imply_answerable narrow wide (Watch rule grain) read widen can = can
wider_rules_imply_answerable narrow wide (Make seed frames) read widen can = can
wider_rules_imply_answerable narrow wide (Demo seed frames settings) read widen can = can

-- ---- a run

module _ {S T K D : Type 0} (s : SourceOf S) (t : SourceOf T) (k : SinkOf K) (d : DiskOf D) (old new : Streams S T K D)
    (words : List (List ℕ)) (narrow wide : RunRules) (widen : IsWider narrow wide) where
  wider_rules_allow_finding : (report : ℕ) (verdict : Verdict) → FindsUnsound s t k d old new words narrow report verdict
      → FindsUnsound s t k d old new words wide report verdict
  wider_rules_allow_finding report verdict found = record {
    settings = found.settings;
    asked = found.asked;
    read_to_end = found.read_to_end;
    found = audit_end_inputs_imply_more found.settings (run_inputs s t k d old new)
        (λ file text. IsUnsoundAudit found.settings narrow.dealing file text report verdict)
        (λ file text. IsUnsoundAudit found.settings wide.dealing file text report verdict)
        (λ file text is. wider_rules_allow_unsound_session narrow.dealing wide.dealing found.settings file text report verdict widen.dealing is) found.found;
    written = found.written;
  }

  wider_rules_allow_refused_store : (fault : OpenFault) → RefusesStore s t k d old new words narrow fault
      → RefusesStore s t k d old new words wide fault
  wider_rules_allow_refused_store fault refused = record {
    settings = refused.settings;
    asked = refused.asked;
    used = refused.used;
    read_to_end = refused.read_to_end;
    refused = capture_report_if_known (s.left old.capture)
        (λ file. IsRefusedStore refused.settings narrow.dealing (d.reads old.disk) file fault)
        (λ file. IsRefusedStore refused.settings wide.dealing (d.reads old.disk) file fault)
        (λ file is. wider_rules_allow_refusal narrow.dealing wide.dealing refused.settings (d.reads old.disk) file fault widen.dealing is) refused.refused;
    nothing = refused.nothing;
  }

  wider_rules_allow_part : WritesPart s t k d old new words narrow → WritesPart s t k d old new words wide
  wider_rules_allow_part part =
      wider_rules_allow_partial_answers narrow wide (run_keeping s t k d old new) words (run_inputs s t k d old new) (k.taken old.sink)
      (k.taken new.sink) widen part

  pub wider_rules_allow_run : (status : Status) → RunEnds s t k d old new words narrow status
      → RunEnds s t k d old new words wide status
  wider_rules_allow_run status ends = record {
    done = λ is.
        wider_rules_allow_answers narrow wide (run_keeping s t k d old new) words (run_inputs s t k d old new) (k.taken old.sink)
        (k.taken new.sink) widen (ends.done is);
    bad_words = ends.bad_words;
    refuses_words = ends.refuses_words;
    bad_capture = ends.bad_capture;
    refuses_capture = ends.refuses_capture;
    bad_store = λ fault shown is. wider_rules_allow_refused_store fault (ends.bad_store fault shown is);
    refuses_store = λ settings file image fault asks used known capture is_store shown refused.
        ends.refuses_store settings file image fault asks used known capture is_store shown
        (λ records lists dealt. refused records lists (wider_rules_allow_records narrow.dealing wide.dealing settings file records lists widen.dealing dealt));
    bad_text = ends.bad_text;
    refuses_text = ends.refuses_text;
    refuses_watched = ends.refuses_watched;
    audit_no = λ report verdict is. wider_rules_allow_finding report verdict (ends.audit_no report verdict is);
    finds_unsound = λ settings file bytes known report verdict asks is_file capture is_text is_session not_long first.
        ends.finds_unsound settings file bytes known report verdict asks is_file capture is_text is_session not_long
        (λ lists session audited. first lists session
        (wider_rules_allow_audit narrow.dealing wide.dealing settings file bytes lists session widen.dealing audited));
    finds_sound = λ settings file bytes known asks is_file capture is_text is_session not_long sound.
        ends.finds_sound settings file bytes known asks is_file capture is_text is_session not_long
        (λ lists session audited. sound lists session
        (wider_rules_allow_audit narrow.dealing wide.dealing settings file bytes lists session widen.dealing audited));
    read_fault = ends.read_fault;
    read_fault_reported = ends.read_fault_reported;
    write_fault = λ is.
        let fault = ends.write_fault is in
        record { rose = fault.rose; in_part = wider_rules_allow_part fault.in_part };
    write_fault_reported = ends.write_fault_reported;
    disk_fault = λ is.
        let fault = ends.disk_fault is in
        record {
          command = fault.command;
          asked = fault.asked;
          may_use = fault.may_use;
          rose = fault.rose;
          in_part = ⊎_elim (λ nothing. inl nothing) (λ part. inr (wider_rules_allow_part part)) fault.in_part;
        };
    disk_fault_reported = ends.disk_fault_reported;
    formats = ends.formats;
    unused_capture = ends.unused_capture;
    unused_text = ends.unused_text;
    unused_disk = ends.unused_disk;
    capture_front = ends.capture_front;
    text_front = ends.text_front;
    out_of_memory = λ is.
        ⊎_elim (λ nothing. inl nothing) (λ part. inr (wider_rules_allow_part part)) (ends.out_of_memory is);
    complete = λ command asked can.
        ends.complete command asked
        (wider_rules_imply_answerable narrow.dealing wide.dealing command (run_inputs s t k d old new) widen.dealing can);
  }
