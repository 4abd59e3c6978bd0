use Rattle.std.proofs.Common.{◌∙◌, ap, sym}
use Rattle.pass_tokens.specs.{view}
use Rattle.gate_workers.specs.Calling.{cut_at}
use Rattle.gate_workers.proofs.CallLemmas.{call_cut_at_its_positions, one_call}
use Rattle.gate_workers.proofs.calling.report_once.Goals as goal

pub report_at-requires-clause-cut : goal.report_at-requires-clause-cut
report_at-requires-clause-cut g c =
    call_cut_at_its_positions c.args.board.now.opening (view c.args.pass.now) (view c.read_cut.new.pass) c.args.cut.now
    c.read_cut.new.cut c.read_cut.ensures.read c.requires.shape

pub returns-clause-calls : goal.returns-clause-calls
returns-clause-calls g c =
    one_call c.args.board.now.opening c.args.phi (view c.args.pass.now) (view c.read_cut.new.pass) c.args.cut.now
    c.read_cut.new.cut c.in_ok-report.report c.read_cut.ensures.read c.requires.shape
    c.in_ok-report.ensures.positions c.in_ok-report.ensures.report

pub returns-clause-cut : goal.returns-clause-cut
returns-clause-cut g c =
    (call_cut_at_its_positions c.args.board.now.opening (view c.args.pass.now) (view c.read_cut.new.pass) c.args.cut.now
    c.read_cut.new.cut c.read_cut.ensures.read c.requires.shape).is
    ∙ ap (cut_at c.args.board.now.opening) (sym c.in_ok-report.ensures.positions)

pub returns-clause-read : goal.returns-clause-read
returns-clause-read g c =
    call_cut_at_its_positions c.args.board.now.opening (view c.args.pass.now) (view c.read_cut.new.pass) c.args.cut.now
    c.read_cut.new.cut c.read_cut.ensures.read c.requires.shape

pub returns-in_err-report-clause-read : goal.returns-in_err-report-clause-read
returns-in_err-report-clause-read g c =
    call_cut_at_its_positions c.args.board.now.opening (view c.args.pass.now) (view c.read_cut.new.pass) c.args.cut.now
    c.read_cut.new.cut c.read_cut.ensures.read c.requires.shape
