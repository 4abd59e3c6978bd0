use Rattle.std.proofs.Common.{◌≡◌, ◌∙◌, ℕ, ◌+◌, ◌-◌, ◌++◌, ◌∷◌, [], length, get_or, map, take, option_map, Err, refl, ap, sym, subst, length-append, arith}
use Rattle.std.proofs.lemmas.List.{length-map, length-take}
use Rattle.std.proofs.lemmas.Slice.Zip.{AllZip-long}
use Rattle.std.proofs.lemmas.Result.{err_from_is_err_and}
use Rattle.checkpoint.specs.{saved_value}
use Rattle.site_merge.specs.Sites.{SiteReadsAs}
use Rattle.site_merge.specs.Taking.{HasTaken}
use Rattle.site_merge.specs.declared.fault.SiteFault.{SiteFault}
use Rattle.site_merge.specs.declared.fault.SiteFault.TheVariants.{DiskFault}
use Rattle.site_merge.proofs.LeftDiskLemmas.{left_disk_is_old, left_disks_counts, left_disks_other_counts, left_disks_rest}
use Rattle.site_merge.proofs.LeftDiskLemmas.{left_disks_rose, left_disks_set, left_disks_stay}
use Rattle.site_merge.proofs.ReadSiteLemmas.{read_site_more, read_site_refused, read_sites_are_all}
use Rattle.site_merge.proofs.taking.take_sites.Goals as goal

pub returns-in_err-taken-clause-left : goal.returns-in_err-taken-clause-left
returns-in_err-taken-clause-left g c = left_disks_stay g.D.Disk g.met.D.Disk.only_now c.args.disks.now

pub loop-place-init : goal.loop-place-init
loop-place-init g c = record {
  taken = (
    [],
    refl,
    tt,
    λ left many.
        let all : length c.args.disks.now ≡ left = omega (arith, many) in
        subst (λ (n : ℕ). HasTaken c.args.settings.now [] n c.in_ok-taken.taken) all c.in_ok-taken.ensures,
  );
  left = left_disks_stay g.D.Disk g.met.D.Disk.only_now c.args.disks.now;
  rest = refl;
  faults = refl;
}

pub returns-in_err-read-clause-refused : goal.returns-in_err-read-clause-refused
returns-in_err-read-clause-refused g c =
    let p = err_from_is_err_and c.from_residual-in_err-read.result c.from_residual-in_err-read.ensures.1 in
    let refused = c.in_err-read.ensures.refused in
    let inv = c.loop-place.invariant in
    let d = c.index-disks-place.result in
    rw (p.1, p.2, refused.1)
    (read_site_refused g.D.Disk.reads c.args.settings.now c.args.disks.now c.loop-place.place (get_or c.loop-place.disks c.loop-place.place d) d
    inv.taken.0 refused.0 c.loop-place-test.true (left_disk_is_old c.args.disks.now c.loop-place.disks c.loop-place.place d inv.rest)
    inv.taken.2 refused.2)

pub returns-in_err-read-clause-left : goal.returns-in_err-read-clause-left
returns-in_err-read-clause-left g c =
    left_disks_set g.D.Disk c.args.disks.now c.loop-place.disks c.loop-place.place c.index-disks-place.result c.read_site.new.disk
    c.loop-place.invariant.left c.loop-place.invariant.rest c.in_err-read.ensures.left

pub returns-in_err-read-clause-fault : goal.returns-in_err-read-clause-fault
returns-in_err-read-clause-fault g c = λ site is.
    let p = err_from_is_err_and c.from_residual-in_err-read.result c.from_residual-in_err-read.ensures.1 in
    let both = sym p.1 ∙ is in
    let fault : p.0 ≡ DiskFault site = cc both in
    let same = c.in_err-read.ensures.fault site (ap (λ (f : SiteFault). Err f) (sym p.2 ∙ fault)) in
    left_disks_rose g.D.Disk.faults c.args.disks.now c.loop-place.disks c.loop-place.place c.index-disks-place.result
    c.read_site.new.disk site c.loop-place-test.true c.loop-place.invariant.faults same.0 same.1

pub returns-in_err-read-clause-no_fault : goal.returns-in_err-read-clause-no_fault
returns-in_err-read-clause-no_fault g c = λ other apart.
    let p = err_from_is_err_and c.from_residual-in_err-read.result c.from_residual-in_err-read.ensures.1 in
    left_disks_other_counts g.D.Disk.faults c.args.disks.now c.loop-place.disks c.loop-place.place c.index-disks-place.result
    c.read_site.new.disk other c.loop-place.invariant.faults
    (λ here. c.in_err-read.ensures.no_fault (λ is.
    let fault : c.in_err-read.field-0.0 ≡ DiskFault (c.loop-place.place + 1) = cc is in
    apart (p.1 ∙ ap (λ (f : SiteFault). Err f) (p.2 ∙ fault ∙ ap (λ (n : ℕ). DiskFault (n + 1)) (sym here)))))

pub add_site-requires-clause-taken : goal.add_site-requires-clause-taken
add_site-requires-clause-taken g c =
    let inv = c.loop-place.invariant in
    let left = length c.args.disks.now - (c.loop-place.place + 1) in
    (inv.taken.0, left, inv.taken.1, inv.taken.3 (left + 1) (omega (arith, c.loop-place-test.true)))

pub returns-in_err-add_site-clause-left : goal.returns-in_err-add_site-clause-left
returns-in_err-add_site-clause-left g c =
    left_disks_set g.D.Disk c.args.disks.now c.loop-place.disks c.loop-place.place c.index-disks-place.result c.read_site.new.disk
    c.loop-place.invariant.left c.loop-place.invariant.rest c.in_ok-read.ensures.left

pub returns-in_err-add_site-clause-no_fault : goal.returns-in_err-add_site-clause-no_fault
returns-in_err-add_site-clause-no_fault g c = λ other apart.
    left_disks_other_counts g.D.Disk.faults c.args.disks.now c.loop-place.disks c.loop-place.place c.index-disks-place.result
    c.read_site.new.disk other c.loop-place.invariant.faults
    (λ here. c.in_ok-read.ensures.no_fault (λ is. absurd (cc is)))

pub loop-place-preserved : goal.loop-place-preserved
loop-place-preserved g c =
    let inv = c.loop-place.invariant in
    let site = option_map saved_value c.in_ok-read.read in
    let d = c.index-disks-place.result in
    let stays = c.in_ok-read.ensures.no_fault (λ is. absurd (cc is)) in
    record {
      taken = (
        inv.taken.0 ++ site ∷ [],
        length-append inv.taken.0 (site ∷ []) ∙ ap (λ (n : ℕ). n + 1) inv.taken.1,
        read_site_more g.D.Disk.reads c.args.settings.now c.args.disks.now c.loop-place.place
            (get_or c.loop-place.disks c.loop-place.place d) d inv.taken.0 site c.loop-place-test.true
            (left_disk_is_old c.args.disks.now c.loop-place.disks c.loop-place.place d inv.rest) inv.taken.2 c.in_ok-read.ensures.read,
        λ left many. c.in_ok-add_site.ensures inv.taken.0 left inv.taken.1 (inv.taken.3 (left + 1) (omega (arith, many))),
      );
      left = left_disks_set g.D.Disk c.args.disks.now c.loop-place.disks c.loop-place.place d c.read_site.new.disk inv.left inv.rest
          c.in_ok-read.ensures.left;
      rest = left_disks_rest c.args.disks.now c.loop-place.disks c.loop-place.place c.read_site.new.disk inv.rest;
      faults = left_disks_counts g.D.Disk.faults c.args.disks.now c.loop-place.disks c.loop-place.place d c.read_site.new.disk inv.faults stays;
    }

pub returns-clause-taken : goal.returns-clause-taken
returns-clause-taken g c =
    let inv = c.loop-place.invariant in
    let reads = g.D.Disk.reads in
    let end = c.loop-place-test.false in
    let long = AllZip-long (SiteReadsAs c.args.settings.now) (take c.loop-place.place (map reads c.args.disks.now)) inv.taken.0 inv.taken.2 in
    let many : c.loop-place.place ≡ length c.args.disks.now =
    omega (arith, end, long, inv.taken.1, length-take c.loop-place.place (map reads c.args.disks.now), length-map c.args.disks.now reads) in (
      inv.taken.0,
      read_sites_are_all c.args.settings.now (map reads c.args.disks.now) c.loop-place.place inv.taken.0 inv.taken.2 inv.taken.1
          (omega (arith, end, length-map c.args.disks.now reads)),
      inv.taken.3 0 (omega (arith, many)),
    )
