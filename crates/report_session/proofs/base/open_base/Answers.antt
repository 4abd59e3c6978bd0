use Rattle.report_session.proofs.BaseLemmas.{new_base, no_base}
use Rattle.std.proofs.lemmas.Result.{IfErr-weaker, IfOk-weaker}
use Rattle.report_session.proofs.base.open_base.Goals as goal

pub returns-else-settings-clause-base : goal.returns-else-settings-clause-base
returns-else-settings-clause-base g c =
    IfOk-weaker c.new_base.result _ _
    (λ base is. new_base c.args.settings.now c.args.dealt.now (g.D.Disk.reads c.args.disk.now) base c.if-settings.false is)
    c.new_base.ensures.base

pub returns-else-settings-clause-refused : goal.returns-else-settings-clause-refused
returns-else-settings-clause-refused g c =
    IfErr-weaker c.new_base.result _ _
    (λ status is. no_base c.args.settings.now c.args.dealt.now (g.D.Disk.reads c.args.disk.now)
    (g.D.Disk.faults c.args.disk.now) status is) c.new_base.ensures.memory
