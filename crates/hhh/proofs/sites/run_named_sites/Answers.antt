use Rattle.std.proofs.Common.{◌∙◌, ap, length}
use Rattle.std.proofs.lemmas.Slice.Zip.{AllZip-long}
use Rattle.system_io.specs.{IsUnusedDisk}
use Rattle.hhh.proofs.sites.run_named_sites.Goals as goal

pub sites_to_end-requires : goal.sites_to_end-requires
sites_to_end-requires g c settings phi names asked =
    ap length c.deref_mut.ensures.value ∙ AllZip-long IsUnusedDisk c.in_ok-stores.stores.items c.in_ok-disks.disks.items c.in_ok-disks.ensures
    ∙ ap length (c.in_ok-stores.ensures.named settings phi names asked)
