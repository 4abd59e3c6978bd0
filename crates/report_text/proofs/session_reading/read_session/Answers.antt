use Rattle.std.proofs.Common.{◌≡◌, [], refl, ap, ◌∙◌, subst}
use Rattle.std.proofs.lemmas.Result.{err_from_is_err_and}
use Rattle.report_text.specs.Session.{session_lines, HasReadFault}
use Rattle.report_text.specs.Stages.{nothing, ended}
use Rattle.report_text.proofs.ReadSessionLemmas.{read_session_from_start, read_session_is_session}
use Rattle.report_text.proofs.ReadSessionLemmas.{read_session_has_its_text, read_session_is_of_grain}
use Rattle.report_text.proofs.session_reading.read_session.Goals as goal

pub read_all-requires : goal.read_all-requires
read_all-requires c = record { read = []; has_read = c.new-lines.ensures.start c.args.grain; leads = refl }

pub returns-in_err-finish-clause-fault : goal.returns-in_err-finish-clause-fault
returns-in_err-finish-clause-fault c =
    let session = c.in_ok-session.session in
    let old = c.new-lines.result in
    let new = c.read_all.new.lines in
    let reads = c.in_ok-session.ensures.read in
    let same : new.text.now ≡ c.args.bytes.now = ap (λ t. t.now) (reads.same ∙ c.new-lines.ensures.text) in
    let p = err_from_is_err_and c.from_residual-in_err-finish.result c.from_residual-in_err-finish.ensures.1 in
    rw (p.1, p.2)
    (subst (λ text. HasReadFault c.args.grain text c.in_err-finish.field-0.0) same
    (c.in_err-finish.ensures.err c.args.grain session
    (read_session_from_start c.args.grain old new (session_lines session) nothing ended (c.new-lines.ensures.start c.args.grain) reads)
    (read_session_is_session c.args.grain c.report_order_is_total.ensures.total old new session reads)))

pub returns-clause-of_grain : goal.returns-clause-of_grain
returns-clause-of_grain c =
    read_session_is_of_grain c.args.grain c.in_ok-session.session
    (read_session_is_session c.args.grain c.report_order_is_total.ensures.total c.new-lines.result c.read_all.new.lines
    c.in_ok-session.session c.in_ok-session.ensures.read)

pub returns-clause-read : goal.returns-clause-read
returns-clause-read c =
    let session = c.in_ok-session.session in
    let old = c.new-lines.result in
    let new = c.read_all.new.lines in
    let reads = c.in_ok-session.ensures.read in
    let same : new.text.now ≡ c.args.bytes.now = ap (λ t. t.now) (reads.same ∙ c.new-lines.ensures.text) in
    read_session_has_its_text c.args.grain c.args.bytes.now new session
    (read_session_is_session c.args.grain c.report_order_is_total.ensures.total old new session reads)
    (read_session_from_start c.args.grain old new (session_lines session) nothing ended (c.new-lines.ensures.start c.args.grain) reads) same
    c.in_ok-finish.ensures.ok
