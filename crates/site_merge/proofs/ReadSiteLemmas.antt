-- Sites that are read, one after another.
use Rattle.std.proofs.Common.{◌≡◌, ◌∙◌, ℕ, suc, ◌+◌, ◌<◌, ◌≤◌, List, [], ◌∷◌, ◌++◌, length, map, take, get_or, refl, sym, ap, subst, arith}
use Rattle.std.proofs.Common.{Option, Some}
use Rattle.std.specs.List.{AllZip}
use Rattle.std.proofs.Math.Seq.{take-length, take-suc}
use Rattle.std.proofs.lemmas.List.{get_or-map, length-map, length-take}
use Rattle.std.proofs.lemmas.Option.{slice_get-get_or}
use Rattle.std.proofs.lemmas.Slice.Zip.{AllZip-long}
use Rattle.slot_disk.specs.{IfImageKnown}
use Rattle.checkpoint.specs.declared.settings.StoreSettings.{StoreSettings}
use Rattle.checkpoint.specs.{SavedValue}
use Rattle.recovery.specs.declared.store_fault.StoreFault.{StoreFault}
use Rattle.recovery.specs.declared.store_fault.StoreFault.TheVariants as store
use Rattle.recovery.specs.{RefusesReading}
use Rattle.site_merge.specs.Sites.{SiteReadsAs, SitesReadAs, IsFirstRefusedSite, RefusesSites, fault_at}

-- pairs, and one more at the end
read_site_pairs_more : {A B : Type 0} (R : A → B → Type 0) (xs : List A) (ys : List B) (x : A) (y : B) → AllZip R xs ys → R x y
    → AllZip R (xs ++ x ∷ []) (ys ++ y ∷ [])
read_site_pairs_more R [] [] x y all here = (here, tt)
read_site_pairs_more R [] (v ∷ vs) x y all here = absurd all
read_site_pairs_more R (u ∷ us) [] x y all here = absurd all
read_site_pairs_more R (u ∷ us) (v ∷ vs) x y all here = (all.0, read_site_pairs_more R us vs x y all.1 here)

-- one more site is read
pub read_site_more : {D : Type 0} (reads : D → Option (List ℕ)) (settings : StoreSettings) (disks : List D) (place : ℕ) (disk other : D)
    (sites : List (Option SavedValue)) (site : Option SavedValue) → place < length disks → disk ≡ get_or disks place other
    → SitesReadAs settings (take place (map reads disks)) sites → SiteReadsAs settings (reads disk) site
    → SitesReadAs settings (take (place + 1) (map reads disks)) (sites ++ site ∷ [])
read_site_more {D = D} reads settings disks place disk other sites site within is before here =
    let all = map reads disks in
    let read = reads disk in
    let long : place < length all = omega (arith, length-map disks reads, within) in
    let at : get_or all place read ≡ read = get_or-map reads disks place other read within ∙ ap reads (sym is) in
    let split : take (suc place) all ≡ take place all ++ read ∷ [] =
    take-suc all place read long ∙ ap (λ (r : Option (List ℕ)). take place all ++ r ∷ []) at in
    let next : place + 1 ≡ suc place = omega arith in
    subst (λ (l : List (Option (List ℕ))). SitesReadAs settings l (sites ++ site ∷ [])) (sym split ∙ ap (λ (n : ℕ). take n all) (sym next))
    (read_site_pairs_more (SiteReadsAs settings) (take place all) sites read site before here)

-- why all sites are refused where the first that isn't read is refused
refused_site_is_fault : (settings : StoreSettings) (reads : List (Option (List ℕ))) (site : ℕ) (fault : StoreFault)
    → IsFirstRefusedSite settings reads site fault → RefusesSites settings reads (fault_at site fault)
refused_site_is_fault settings reads site store.DiskFault is = is
refused_site_is_fault settings reads site store.NotFormatted is = is
refused_site_is_fault settings reads site (store.OtherSettings stored asked) is = is
refused_site_is_fault settings reads site (store.Damaged slot) is = is
refused_site_is_fault settings reads site store.OutOfMemory is = tt

-- the next site is refused
pub read_site_refused : {D : Type 0} (reads : D → Option (List ℕ)) (settings : StoreSettings) (disks : List D) (place : ℕ) (disk other : D)
    (sites : List (Option SavedValue)) (fault : StoreFault) → place < length disks → disk ≡ get_or disks place other
    → SitesReadAs settings (take place (map reads disks)) sites
    → IfImageKnown (reads disk) (λ image. RefusesReading settings image fault)
    → RefusesSites settings (map reads disks) (fault_at (place + 1) fault)
read_site_refused reads settings disks place disk other sites fault within is before refused =
    let all = map reads disks in
    let read = reads disk in
    let long : place < length all = omega (arith, length-map disks reads, within) in
    let at : get_or all place read ≡ read = get_or-map reads disks place other read within ∙ ap reads (sym is) in
    refused_site_is_fault settings all (place + 1) fault (
      place,
      refl,
      record {
        earlier = sites;
        are_read = before;
        read = read;
        read_is = slice_get-get_or all place read long ∙ ap (λ (r : Option (List ℕ)). Some r) at;
        refused = refused;
      },
    )

-- as many sites were read as there are
pub read_sites_are_all : (settings : StoreSettings) (reads : List (Option (List ℕ))) (place : ℕ) (sites : List (Option SavedValue))
    → SitesReadAs settings (take place reads) sites → length sites ≡ place → length reads ≤ place → SitesReadAs settings reads sites
read_sites_are_all settings reads place sites before many all =
    let long = AllZip-long (SiteReadsAs settings) (take place reads) sites before in
    let at : place ≡ length reads = omega (arith, long, length-take place reads, many, all) in
    subst (λ (l : List (Option (List ℕ))). SitesReadAs settings l sites) (ap (λ (n : ℕ). take n reads) at ∙ take-length reads) before
