use Rattle.std.proofs.Common.{◌≤◌, ℕ, List, length, subst, arith}
use Rattle.std.proofs.lemmas.Result.{err_from_is_err_and}
use Rattle.report_text.specs.{HasReadFault, IsSessionText, longest_session}
use Rattle.session_watch.specs.{IsWatchOf}
use Rattle.hhh_engine.specs.Inputs.{inputs}
use Rattle.hhh_engine.proofs.AuditEndLemmas.{text_end_is_known, watch_ends_at_refused_text}
use Rattle.hhh_engine.proofs.WatchEndLemmas.{watch_ends_without_bytes}
use Rattle.hhh_engine.proofs.commands.watch.watch_text.Goals as goal

pub returns-in_err-bytes-clause-refused : goal.returns-in_err-bytes-clause-refused
returns-in_err-bytes-clause-refused g c = λ capture capture_left store.
    let p = err_from_is_err_and c.from_residual.result c.from_residual.ensures.1 in
    rw (p.1, p.2) (watch_ends_without_bytes _ _ _ _ c.in_err-bytes.field-0.0 c.in_err-bytes.ensures.refused)

pub returns-in_err-bytes-clause-told : goal.returns-in_err-bytes-clause-told
returns-in_err-bytes-clause-told g c = λ other.
    let p = err_from_is_err_and c.from_residual.result c.from_residual.ensures.1 in
    c.in_err-bytes.ensures.told (λ is. other (rw (p.1, p.2) is))

pub returns-in_err-session-clause-refused : goal.returns-in_err-session-clause-refused
returns-in_err-session-clause-refused g c = λ capture capture_left store.
    let same = c.deref.ensures.value in
    let fault = c.in_err-session.field-0.0 in
    let p = err_from_is_err_and c.from_residual-in_err-session.result c.from_residual-in_err-session.ensures.1 in
    rw (p.1, p.2)
    (watch_ends_at_refused_text c.args.grain
    (inputs capture capture_left (g.T.Source.left c.args.text.now) (g.T.Source.left c.read_text.new.source) store) _ _
    c.in_ok-bytes.bytes.items fault c.in_ok-bytes.ensures.consumed c.in_ok-bytes.ensures.limit c.in_ok-bytes.ensures.at_end
    (subst (λ b. HasReadFault c.args.grain b fault) same c.in_err-session.ensures.fault)
    (λ long. cc (c.in_err-session.ensures.too_long (rw same long))))

pub returns-in_err-session-clause-told : goal.returns-in_err-session-clause-told
returns-in_err-session-clause-told g c = λ other. c.in_ok-bytes.ensures.told (λ no. cc no)

pub watch_session-requires : goal.watch_session-requires
watch_session-requires g c =
    omega (
      arith,
      c.in_ok-session.ensures.limit,
      c.session_texts_hold_their_reports.ensures c.args.grain c.deref.result.now c.in_ok-session.session c.in_ok-session.ensures.read,
    )

pub returns-in_err-watch_session-clause-told : goal.returns-in_err-watch_session-clause-told
returns-in_err-watch_session-clause-told g c = λ other. c.in_ok-bytes.ensures.told (λ no. cc no)

pub returns-clause-text : goal.returns-clause-text
returns-clause-text g c =
    let text = c.in_ok-bytes.bytes.items in
    let session = c.in_ok-session.session in
    let same = c.deref.ensures.value in
    let not_long = subst (λ (b : List ℕ). length b ≤ longest_session) same c.in_ok-session.ensures.limit in
    text_end_is_known _ _ text (λ whole. IsWatchOf _ c.args.rule c.args.grain whole c.in_ok-watch_session.field-0.items)
    c.in_ok-bytes.ensures.consumed (c.in_ok-bytes.ensures.at_end not_long)
    (record {
      session = session;
      is_session = subst (λ b. IsSessionText c.args.grain b session) same c.in_ok-session.ensures.read;
      not_long = not_long;
      watched = c.in_ok-watch_session.ensures;
    })

pub returns-clause-at_end : goal.returns-clause-at_end
returns-clause-at_end g c =
    c.in_ok-bytes.ensures.at_end
    (subst (λ (b : List ℕ). length b ≤ longest_session) c.deref.ensures.value c.in_ok-session.ensures.limit)

pub returns-clause-told : goal.returns-clause-told
returns-clause-told g c = λ other. c.in_ok-bytes.ensures.told (λ no. cc no)
