use Rattle.std.proofs.Common.{subst}
use Rattle.slot_disk.specs.{IfImageKnown}
use Rattle.recovery.specs.{CanGoOn, OpensToBase}
use Rattle.report_session.proofs.BaseLemmas.{opened_base}
use Rattle.report_session.proofs.base.open_store.Goals as goal

pub returns-in-Ok-clause-base : goal.returns-in-Ok-clause-base
returns-in-Ok-clause-base g c =
    let are = c.store_settings.ensures.settings in
    opened_base c.args.settings.now c.args.dealt.now (g.D.Disk.reads c.args.disk.now) c.in-Ok.opened c.base_from.result
    c.requires.used c.requires.shards
    (subst (λ s. CanGoOn s c.args.dealt.now c.in-Ok.opened) are c.in-Ok.ensures.goes_on)
    (subst (λ s. IfImageKnown (g.D.Disk.reads c.args.disk.now) (λ image. OpensToBase s c.args.dealt.now image c.in-Ok.opened.base))
    are c.in-Ok.ensures.opens) c.base_from.ensures.cut c.base_from.ensures.positions c.base_from.ensures.saver
