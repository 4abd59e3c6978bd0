use Rattle.std.proofs.Common.{◌≤◌, ℕ, List, length, subst}
use Rattle.std.proofs.lemmas.Result.{err_from_is_err_and}
use Rattle.frame_records.specs.{FileGives}
use Rattle.report_text.specs.{HasReadFault, IsSessionText, longest_session}
use Rattle.session_audit.specs.{AreAudited}
use Rattle.dealt_capture.specs.{IsCaptureFile}
use Rattle.hhh_engine.specs.Inputs.{inputs}
use Rattle.hhh_engine.proofs.AuditEndLemmas.{audit_ends_at_refused_text, audit_ends_without_bytes, text_end_is_known}
use Rattle.hhh_engine.proofs.CaptureReportLemmas.{capture_report_if_known}
use Rattle.hhh_engine.proofs.ReadOrderLemmas.{read_order_at_bad_text, read_order_without_text}
use Rattle.hhh_engine.proofs.commands.audit.read_audited.Goals as goal

pub returns-in_err-session-clause-refused : goal.returns-in_err-session-clause-refused
returns-in_err-session-clause-refused g c = λ store.
    let left = g.S.Source.left c.args.capture.now in
    let records = c.in_ok-records.ensures.records in
    let bytes = c.in_ok-bytes.bytes.items in
    let same = c.deref.ensures.value in
    let fault = c.in_err-session.field-0.0 in
    let p = err_from_is_err_and c.from_residual-in_err-session.result c.from_residual-in_err-session.ensures.1 in
    rw (p.1, p.2)
    (audit_ends_at_refused_text c.args.settings.now
    (inputs left (g.S.Source.left c.read_records.new.source) (g.T.Source.left c.args.text.now) (g.T.Source.left c.read_text.new.source) store)
    _ _ bytes fault c.in_ok-records.ensures.at_end
    (capture_report_if_known left (λ file. FileGives c.args.settings.now.front file records.frames c.in_ok-records.records.cut)
    (IsCaptureFile c.args.settings.now.front) (λ file gives. (records.frames, c.in_ok-records.records.cut, gives)) records.told)
    c.in_ok-bytes.ensures.consumed c.in_ok-bytes.ensures.limit c.in_ok-bytes.ensures.at_end
    (subst (λ b. HasReadFault c.args.settings.now.grain b fault) same c.in_err-session.ensures.fault)
    (λ long. cc (c.in_err-session.ensures.too_long (rw same long))))

pub returns-in_err-bytes-clause-order : goal.returns-in_err-bytes-clause-order
returns-in_err-bytes-clause-order g c = λ store.
    let left = g.S.Source.left c.args.capture.now in
    let records = c.in_ok-records.ensures.records in
    let p = err_from_is_err_and c.from_residual-in_err-bytes.result c.from_residual-in_err-bytes.ensures.1 in
    rw (p.1, p.2)
    (read_order_without_text _ _ _ _ c.in_err-bytes.field-0.0 c.in_ok-records.ensures.at_end (
      tt,
      capture_report_if_known left (λ file. FileGives c.args.settings.now.front file records.frames c.in_ok-records.records.cut)
          (IsCaptureFile c.args.settings.now.front) (λ file gives. (records.frames, c.in_ok-records.records.cut, gives)) records.told,
    )
    (c.in_ok-records.ensures.told (λ no. cc no)) c.in_err-bytes.ensures.refused)

pub returns-in_err-bytes-clause-refused : goal.returns-in_err-bytes-clause-refused
returns-in_err-bytes-clause-refused g c = λ store.
    let p = err_from_is_err_and c.from_residual-in_err-bytes.result c.from_residual-in_err-bytes.ensures.1 in
    rw (p.1, p.2) (audit_ends_without_bytes _ _ _ _ c.in_err-bytes.field-0.0 c.in_err-bytes.ensures.refused)

pub returns-in_err-session-clause-order : goal.returns-in_err-session-clause-order
returns-in_err-session-clause-order g c = λ store.
    let p = err_from_is_err_and c.from_residual-in_err-session.result c.from_residual-in_err-session.ensures.1 in
    rw (p.1, p.2) (read_order_at_bad_text _ _ _ _ c.in_err-session.field-0.0)

pub returns-in_err-session-clause-told : goal.returns-in_err-session-clause-told
returns-in_err-session-clause-told g c = λ other.
    cc (c.in_ok-records.ensures.told (λ no. cc no), c.in_ok-bytes.ensures.told (λ no. cc no))

pub returns-in_err-dealt-clause-told : goal.returns-in_err-dealt-clause-told
returns-in_err-dealt-clause-told g c = λ other.
    cc (c.in_ok-records.ensures.told (λ no. cc no), c.in_ok-bytes.ensures.told (λ no. cc no))

pub returns-clause-told : goal.returns-clause-told
returns-clause-told g c = λ other.
    cc (c.in_ok-records.ensures.told (λ no. cc no), c.in_ok-bytes.ensures.told (λ no. cc no))

pub returns-clause-audited : goal.returns-clause-audited
returns-clause-audited g c = λ store.
    let records = c.in_ok-records.ensures.records in
    let session = c.in_ok-session.session in
    let cut = c.in_ok-records.records.cut in
    let front = c.args.settings.now.front in
    let same = c.deref.ensures.value in
    let not_long = subst (λ (b : List ℕ). length b ≤ longest_session) same c.in_ok-session.ensures.limit in
    capture_report_if_known _ (λ file. FileGives front file records.frames cut) _
    (λ file gives. (
      (records.frames, cut, gives),
      text_end_is_known _ _ c.in_ok-bytes.bytes.items (λ text. AreAudited c.args.settings.now _ file text c.in_ok-dealt.dealt session)
          c.in_ok-bytes.ensures.consumed (c.in_ok-bytes.ensures.at_end not_long)
          (record {
            records = c.in_ok-records.records;
            dealt = record {
              frames = records.frames;
              capture = gives;
              are_records = records.are;
              dealt = c.in_ok-dealt.ensures.dealt;
            };
            is_session = subst (λ b. IsSessionText c.args.settings.now.grain b session) same c.in_ok-session.ensures.read;
            not_long = not_long;
          }),
    )) records.told

pub returns-clause-text_at_end : goal.returns-clause-text_at_end
returns-clause-text_at_end g c =
    c.in_ok-bytes.ensures.at_end
    (subst (λ (b : List ℕ). length b ≤ longest_session) c.deref.ensures.value c.in_ok-session.ensures.limit)
