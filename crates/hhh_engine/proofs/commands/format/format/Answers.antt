use Rattle.std.proofs.Common.{refl}
use Rattle.hhh_engine.proofs.FormattedStoreLemmas.{formatted_store_is_empty}
use Rattle.hhh_engine.proofs.commands.format.format.Goals as goal

pub returns-in-Ok-clause-store : goal.returns-in-Ok-clause-store
returns-in-Ok-clause-store g c = λ bytes known image now.
    formatted_store_is_empty c.formatted_stores_are_empty.ensures _ _ _ bytes image (g.D.Disk.image_now c.format.new.disk)
    c.store_settings.ensures.settings c.header_of-header.ensures (c.in_default.ensures.stands bytes known) now

pub returns-in-Err-write_all-clause-store : goal.returns-in-Err-write_all-clause-store
returns-in-Err-write_all-clause-store g c = λ bytes known image now.
    formatted_store_is_empty c.formatted_stores_are_empty.ensures _ _ _ bytes image (g.D.Disk.image_now c.format.new.disk)
    c.store_settings.ensures.settings c.header_of-header.ensures (c.in_default.ensures.stands bytes known) now

pub returns-in-Err-clause-store : goal.returns-in-Err-clause-store
returns-in-Err-clause-store g c =
    (refl, record { reading = c.in-Err.ensures.torn; any_moment = c.in-Err.ensures.any_moment })
