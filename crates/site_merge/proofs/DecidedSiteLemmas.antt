-- The bytes of sites are read, or refused for one fault.
use Rattle.std.proofs.Common.{◌≡◌, ◌∙◌, ℕ, zero, suc, ◌+◌, ◌<◌, ◌≤◌, ◌⊎◌, List, [], ◌∷◌, map, take, slice_get, option_map}
use Rattle.std.proofs.Common.{Option, Some, None, Result, Ok, Err, IfOk, IfErr, refl, sym, ap, subst, inl, inr, ⊎_elim, arith}
use Rattle.std.specs.List.{AllZip}
use Rattle.std.proofs.lemmas.Bool.{cases_lt}
use Rattle.std.proofs.lemmas.Option.{slice_get-map}
use Rattle.checkpoint.specs.declared.settings.StoreSettings.{StoreSettings}
use Rattle.checkpoint.specs.{AreSettings, SavedValue}
use Rattle.recovery.specs.declared.store_fault.StoreFault.{StoreFault}
use Rattle.recovery.specs.declared.store_fault.StoreFault.TheVariants as store
use Rattle.recovery.specs.{HaveOneReading, IsShownByBytes, open_fault}
use Rattle.site_merge.specs.SiteCut.{site_weight, weight_limit}
use Rattle.site_merge.specs.OneCapture.{AreFirstOfOneCapture, AreOfOtherCaptures}
use Rattle.site_merge.specs.Sites.{IsFirstRefused, IsShownBySites, RefusesSites, SiteReadsAs, SitesReadAs, fault_at}
use Rattle.site_merge.specs.Reporting.{CanMerge, HaveOneAnswer, IsSiteReport, MustRefuseSites, MustReport}
use Rattle.site_merge.specs.declared.reporting.SiteReport.{SiteReport}
use Rattle.site_merge.specs.declared.fault.SiteFault.{SiteFault}
use Rattle.site_merge.specs.declared.fault.SiteFault.TheVariants.{DiskFault, NotFormatted, OtherSettings, Damaged}
use Rattle.site_merge.specs.declared.fault.SiteFault.TheVariants.{SameCapture, TooHeavy, OutOfMemory}

-- a pair at a place of which the first list has something
decided_site_pair : {A B : Type 0} (R : A → B → Type 0) (xs : List A) (ys : List B) (place : ℕ) (x : A) → AllZip R xs ys
    → slice_get xs place ≡ Some x → (y : B) × R x y
decided_site_pair R [] [] place x all is = absurd (cc is)
decided_site_pair R [] (v ∷ vs) place x all is = absurd all
decided_site_pair R (u ∷ us) [] place x all is = absurd all
decided_site_pair {A = A} {B = B} R (u ∷ us) (v ∷ vs) zero x all is =
    let same : u ≡ x = cc is in
    (v, subst (λ (a : A). R a v) same all.0)
decided_site_pair R (u ∷ us) (v ∷ vs) (suc place) x all is = decided_site_pair R us vs place x all.1 is

-- the same where only the first so many are in pairs
decided_site_pair_before : {A B : Type 0} (R : A → B → Type 0) (xs : List A) (ys : List B) (count place : ℕ) (x : A)
    → AllZip R (take count xs) ys → place < count → slice_get xs place ≡ Some x → (y : B) × R x y
decided_site_pair_before R [] ys count place x all lt is = absurd (cc is)
decided_site_pair_before R (u ∷ us) ys zero place x all lt is = absurd (omega (arith, lt))
decided_site_pair_before R (u ∷ us) [] (suc count) place x all lt is = absurd all
decided_site_pair_before {A = A} {B = B} R (u ∷ us) (v ∷ vs) (suc count) zero x all lt is =
    let same : u ≡ x = cc is in
    (v, subst (λ (a : A). R a v) same all.0)
decided_site_pair_before R (u ∷ us) (v ∷ vs) (suc count) (suc place) x all lt is =
    decided_site_pair_before R us vs count place x all.1 (omega (arith, lt)) is

-- what is known of a site is its image
decided_site_image : (found : Option (List ℕ)) (read : Option (List ℕ)) → option_map (λ image. Some image) found ≡ Some read
    → (image : List ℕ) × (read ≡ Some image)
decided_site_image None read is = absurd (cc is)
decided_site_image (Some image) read is =
    let same : Some image ≡ read = cc is in
    (image, sym same)

-- a site that bytes show to be refused shows its store's fault
decided_site_shows : (site : ℕ) (cause : StoreFault) → IsShownBySites (fault_at site cause) → IsShownByBytes (open_fault cause)
decided_site_shows site store.DiskFault shown = absurd (shown.not_of_disk site refl)
decided_site_shows site store.NotFormatted shown = record { not_of_disk = λ e. absurd (cc e); not_of_memory = λ e. absurd (cc e) }
decided_site_shows site (store.OtherSettings stored asked) shown =
    record { not_of_disk = λ e. absurd (cc e); not_of_memory = λ e. absurd (cc e) }
decided_site_shows site (store.Damaged slot) shown = record { not_of_disk = λ e. absurd (cc e); not_of_memory = λ e. absurd (cc e) }
decided_site_shows site store.OutOfMemory shown = absurd (shown.not_of_memory refl)

-- a site is refused, and it is the first
record FirstSiteRefused (settings : StoreSettings) (reads : List (Option (List ℕ))) (fault : SiteFault) : Type 0 where
  place : ℕ
  cause : StoreFault
  fault_is : fault ≡ fault_at (place + 1) cause
  first : IsFirstRefused settings reads place cause

-- all sites are read, and two counted one capture
record TwoSitesRefused (settings : StoreSettings) (reads : List (Option (List ℕ))) (fault : SiteFault) : Type 0 where
  first : ℕ
  second : ℕ
  fault_is : fault ≡ SameCapture first second
  sites : List (Option SavedValue)
  are_read : SitesReadAs settings reads sites
  pair : AreFirstOfOneCapture sites first second

-- all sites are read, and they are too heavy
record HeavySitesRefused (settings : StoreSettings) (reads : List (Option (List ℕ))) (fault : SiteFault) : Type 0 where
  total : ℕ
  fault_is : fault ≡ TooHeavy total
  sites : List (Option SavedValue)
  are_read : SitesReadAs settings reads sites
  apart : AreOfOtherCaptures sites
  total_is : total ≡ site_weight sites
  heavy : weight_limit ≤ total

decided_sites_kind : (settings : StoreSettings) (reads : List (Option (List ℕ))) (fault : SiteFault) → IsShownBySites fault
    → RefusesSites settings reads fault
    → FirstSiteRefused settings reads fault ⊎ (TwoSitesRefused settings reads fault ⊎ HeavySitesRefused settings reads fault)
decided_sites_kind settings reads (DiskFault site) shown refuses = absurd (shown.not_of_disk site refl)
decided_sites_kind settings reads (NotFormatted site) shown refuses = inl (record {
  place = refuses.0;
  cause = store.NotFormatted;
  fault_is = ap NotFormatted refuses.1;
  first = refuses.2;
})
decided_sites_kind settings reads (OtherSettings site stored asked) shown refuses = inl (record {
  place = refuses.0;
  cause = store.OtherSettings stored asked;
  fault_is = ap (λ (n : ℕ). OtherSettings n stored asked) refuses.1;
  first = refuses.2;
})
decided_sites_kind settings reads (Damaged site slot) shown refuses = inl (record {
  place = refuses.0;
  cause = store.Damaged slot;
  fault_is = ap (λ (n : ℕ). Damaged n slot) refuses.1;
  first = refuses.2;
})
decided_sites_kind settings reads (SameCapture first second) shown refuses = inr (inl (record {
  first = first;
  second = second;
  fault_is = refl;
  sites = refuses.0;
  are_read = refuses.1;
  pair = refuses.2;
}))
decided_sites_kind settings reads (TooHeavy total) shown refuses = inr (inr (record {
  total = total;
  fault_is = refl;
  sites = refuses.0;
  are_read = refuses.1;
  apart = refuses.2;
  total_is = refuses.3;
  heavy = refuses.4;
}))
decided_sites_kind settings reads OutOfMemory shown refuses = absurd (shown.not_of_memory refl)

module _ (one : HaveOneReading) (settings : StoreSettings) (are : AreSettings settings) where
  -- the sites read as one list
  decided_sites_read : (images : List (List ℕ)) (sites others : List (Option SavedValue)) → SitesReadAs settings (map Some images) sites
      → SitesReadAs settings (map Some images) others → sites ≡ others
  decided_sites_read [] [] [] all again = refl
  decided_sites_read [] [] (other ∷ others) all again = absurd again
  decided_sites_read [] (site ∷ sites) others all again = absurd all
  decided_sites_read (image ∷ images) [] others all again = absurd all
  decided_sites_read (image ∷ images) (site ∷ sites) [] all again = absurd again
  decided_sites_read (image ∷ images) (site ∷ sites) (other ∷ others) all again =
      let here : site ≡ other = (one settings image are).one_reading site other (all.0.bytes image refl) (again.0.bytes image refl) in
      let there = decided_sites_read images sites others all.1 again.1 in
      λ i. here i ∷ there i

  module _ (images : List (List ℕ)) where
    abbrev known : List (Option (List ℕ))
    known = map Some images

    -- a site that is read isn't refused
    decided_site_is_not_both : (place : ℕ) (cause : StoreFault) (fault : SiteFault) → IsShownBySites fault → fault ≡ fault_at (place + 1) cause
        → (refused : IsFirstRefused settings known place cause) → ((site : Option SavedValue) × SiteReadsAs settings refused.read site) → ⊥
    decided_site_is_not_both place cause fault shown is refused read =
        let image = decided_site_image (slice_get images place) refused.read (sym (slice_get-map Some images place) ∙ refused.read_is) in
        (one settings image.0 are).never_both read.0 cause (read.1.bytes image.0 image.1)
        (decided_site_shows (place + 1) cause (subst IsShownBySites is shown)) (refused.refused image.0 image.1)

    -- where all are read none is refused by itself
    decided_sites_are_not_both : (sites : List (Option SavedValue)) (fault : SiteFault) → IsShownBySites fault → SitesReadAs settings known sites
        → FirstSiteRefused settings known fault → ⊥
    decided_sites_are_not_both sites fault shown read refused =
        decided_site_is_not_both refused.place refused.cause fault shown refused.fault_is refused.first
        (decided_site_pair (SiteReadsAs settings) known sites refused.place refused.first.read read refused.first.read_is)

    -- a site before the first that is refused isn't refused
    decided_site_is_not_before : (fault other : SiteFault) → IsShownBySites fault → (refused : FirstSiteRefused settings known fault)
        → (later : FirstSiteRefused settings known other) → refused.place < later.place → ⊥
    decided_site_is_not_before fault other shown refused later lt =
        decided_site_is_not_both refused.place refused.cause fault shown refused.fault_is refused.first
        (decided_site_pair_before (SiteReadsAs settings) known later.first.earlier later.place refused.place refused.first.read
        later.first.are_read lt refused.first.read_is)

    -- one site is the first that is refused, for one cause
    decided_first_site_is_one : (fault other : SiteFault) → IsShownBySites fault → IsShownBySites other
        → FirstSiteRefused settings known fault → FirstSiteRefused settings known other → fault ≡ other
    decided_first_site_is_one fault other shown again refused later =
        elim (cases_lt refused.place later.place) [
          | inl lt ↦ absurd (decided_site_is_not_before fault other shown refused later lt)
          | inr le ↦ elim (cases_lt later.place refused.place) [
            | inl lt ↦ absurd (decided_site_is_not_before other fault again later refused lt)
            | inr other_le ↦
                let at : refused.place ≡ later.place = omega (arith, le, other_le) in
                let image = decided_site_image (slice_get images refused.place) refused.first.read
                (sym (slice_get-map Some images refused.place) ∙ refused.first.read_is) in
                let reads : Some later.first.read ≡ Some refused.first.read =
                sym later.first.read_is ∙ ap (slice_get known) (sym at) ∙ refused.first.read_is in
                let same_read : later.first.read ≡ refused.first.read = cc reads in
                let cause : refused.cause ≡ later.cause =
                (one settings image.0 are).one_refusal refused.cause later.cause
                (decided_site_shows (refused.place + 1) refused.cause (subst IsShownBySites refused.fault_is shown))
                (decided_site_shows (later.place + 1) later.cause (subst IsShownBySites later.fault_is again))
                (refused.first.refused image.0 image.1) (later.first.refused image.0 (same_read ∙ image.1)) in
                refused.fault_is ∙ ap (λ (n : ℕ). fault_at (n + 1) refused.cause) at
                ∙ ap (λ (s : StoreFault). fault_at (later.place + 1) s) cause ∙ sym later.fault_is
          ]
        ]

    -- one pair of sites is the first of one capture
    decided_pair_of_sites_is_one : (fault other : SiteFault) → TwoSitesRefused settings known fault → TwoSitesRefused settings known other
        → fault ≡ other
    decided_pair_of_sites_is_one fault other refused again =
        let same : again.sites ≡ refused.sites = decided_sites_read images again.sites refused.sites again.are_read refused.are_read in
        let pair : AreFirstOfOneCapture refused.sites again.first again.second =
        subst (λ (s : List (Option SavedValue)). AreFirstOfOneCapture s again.first again.second) same again.pair in
        let first : refused.first ≡ again.first =
        omega (arith, refused.pair.least_first again.first again.second pair.pair, pair.least_first refused.first refused.second refused.pair.pair) in
        let moved : AreFirstOfOneCapture refused.sites refused.first again.second =
        subst (λ (n : ℕ). AreFirstOfOneCapture refused.sites n again.second) (sym first) pair in
        let second : refused.second ≡ again.second =
        omega (arith, refused.pair.least_second again.second moved.pair, moved.least_second refused.second refused.pair.pair) in
        refused.fault_is ∙ ap (λ (n : ℕ). SameCapture n refused.second) first ∙ ap (λ (n : ℕ). SameCapture again.first n) second
        ∙ sym again.fault_is

    -- sites of one capture aren't refused for their weight
    decided_sites_are_of_one_kind : (fault other : SiteFault) → TwoSitesRefused settings known fault
        → HeavySitesRefused settings known other → ⊥
    decided_sites_are_of_one_kind fault other refused heavy =
        let same : heavy.sites ≡ refused.sites = decided_sites_read images heavy.sites refused.sites heavy.are_read refused.are_read in
        subst (λ (s : List (Option SavedValue)). AreOfOtherCaptures s) same heavy.apart refused.first refused.second refused.pair.pair

    -- the weight of sites is one
    decided_weight_of_sites_is_one : (fault other : SiteFault) → HeavySitesRefused settings known fault
        → HeavySitesRefused settings known other → fault ≡ other
    decided_weight_of_sites_is_one fault other refused again =
        let same : refused.sites ≡ again.sites = decided_sites_read images refused.sites again.sites refused.are_read again.are_read in
        let total : refused.total ≡ again.total = refused.total_is ∙ ap site_weight same ∙ sym again.total_is in
        refused.fault_is ∙ ap TooHeavy total ∙ sym again.fault_is

    -- sites show one fault
    decided_sites_show_one : (fault other : SiteFault) → IsShownBySites fault → IsShownBySites other
        → RefusesSites settings known fault → RefusesSites settings known other → fault ≡ other
    decided_sites_show_one fault other shown again refuses refuses_too =
        elim (decided_sites_kind settings known fault shown refuses) [
          | inl first ↦ elim (decided_sites_kind settings known other again refuses_too) [
            | inl later ↦ decided_first_site_is_one fault other shown again first later
            | inr read ↦ absurd (⊎_elim (λ two. decided_sites_are_not_both two.sites fault shown two.are_read first)
                (λ heavy. decided_sites_are_not_both heavy.sites fault shown heavy.are_read first) read)
          ]
          | inr read ↦ elim (decided_sites_kind settings known other again refuses_too) [
            | inl later ↦ absurd (⊎_elim (λ two. decided_sites_are_not_both two.sites other again two.are_read later)
                (λ heavy. decided_sites_are_not_both heavy.sites other again heavy.are_read later) read)
            | inr read_too ↦ ⊎_elim
                (λ two. ⊎_elim (λ two_too. decided_pair_of_sites_is_one fault other two two_too)
                (λ heavy. absurd (decided_sites_are_of_one_kind fault other two heavy)) read_too)
                (λ heavy. ⊎_elim (λ two. absurd (decided_sites_are_of_one_kind other fault two heavy))
                (λ heavy_too. decided_weight_of_sites_is_one fault other heavy heavy_too) read_too)
                read
          ]
        ]

    -- sites that can be merged show none
    decided_sites_are_never_both : (sites : List (Option SavedValue)) (fault : SiteFault) → SitesReadAs settings known sites
        → CanMerge sites → IsShownBySites fault → RefusesSites settings known fault → ⊥
    decided_sites_are_never_both sites fault read merge shown refuses =
        ⊎_elim (λ first. decided_sites_are_not_both sites fault shown read first)
        (λ rest. ⊎_elim
        (λ two.
        let same : sites ≡ two.sites = decided_sites_read images sites two.sites read two.are_read in
        subst (λ (s : List (Option SavedValue)). AreOfOtherCaptures s) same merge.apart two.first two.second two.pair.pair)
        (λ heavy.
        let same : sites ≡ heavy.sites = decided_sites_read images sites heavy.sites read heavy.are_read in
        let total : heavy.total ≡ site_weight sites = heavy.total_is ∙ ap site_weight (sym same) in
        omega (arith, merge.light, heavy.heavy, total))
        rest)
        (decided_sites_kind settings known fault shown refuses)

    pub decided_sites : HaveOneAnswer settings images
    decided_sites = record {
      one_reading = decided_sites_read images;
      one_refusal = decided_sites_show_one;
      never_both = decided_sites_are_never_both;
    }

-- a fault is of a disk, or that memory ran out, or shown by bytes
decided_sites_stop : (fault : SiteFault) → ((site : ℕ) × (fault ≡ DiskFault site)) ⊎ ((fault ≡ OutOfMemory) ⊎ IsShownBySites fault)
decided_sites_stop (DiskFault site) = inl (site, refl)
decided_sites_stop (NotFormatted site) = inr (inr (record { not_of_disk = λ n e. absurd (cc e); not_of_memory = λ e. absurd (cc e) }))
decided_sites_stop (OtherSettings site stored asked) =
    inr (inr (record { not_of_disk = λ n e. absurd (cc e); not_of_memory = λ e. absurd (cc e) }))
decided_sites_stop (Damaged site slot) = inr (inr (record { not_of_disk = λ n e. absurd (cc e); not_of_memory = λ e. absurd (cc e) }))
decided_sites_stop (SameCapture first second) =
    inr (inr (record { not_of_disk = λ n e. absurd (cc e); not_of_memory = λ e. absurd (cc e) }))
decided_sites_stop (TooHeavy total) = inr (inr (record { not_of_disk = λ n e. absurd (cc e); not_of_memory = λ e. absurd (cc e) }))
decided_sites_stop OutOfMemory = inr (inl refl)

-- an answer that is right must be the report of sites that can be merged
pub decided_sites_must_report : (settings : StoreSettings) (images : List (List ℕ)) (phi : ℕ) (answer : Result SiteReport SiteFault)
    → HaveOneAnswer settings images
    → IfOk answer (λ made. (sites : List (Option SavedValue)) × SitesReadAs settings (map Some images) sites × IsSiteReport settings sites phi made)
    → IfErr answer (RefusesSites settings (map Some images)) → MustReport settings images phi answer
decided_sites_must_report settings images phi (Ok made) one is refused = λ sites read merge.
    inr (subst (λ (s : List (Option SavedValue)). IsSiteReport settings s phi made) (one.one_reading is.0 sites is.1 read) is.2)
decided_sites_must_report settings images phi (Err fault) one is refused = λ sites read merge.
    elim (decided_sites_stop fault) [
      | inl disk ↦ inl (inl (disk.0, ap (λ (f : SiteFault). Err f) disk.1))
      | inr rest ↦ ⊎_elim (λ memory. inl (inr (ap (λ (f : SiteFault). Err f) memory)))
          (λ shown. absurd (one.never_both sites fault read merge shown refused)) rest
    ]

-- and the fault that the bytes show
pub decided_sites_must_refuse : (settings : StoreSettings) (images : List (List ℕ)) (phi : ℕ) (answer : Result SiteReport SiteFault)
    → HaveOneAnswer settings images
    → IfOk answer (λ made. (sites : List (Option SavedValue)) × SitesReadAs settings (map Some images) sites × IsSiteReport settings sites phi made)
    → IfErr answer (RefusesSites settings (map Some images)) → MustRefuseSites settings images answer
decided_sites_must_refuse settings images phi (Ok made) one is refused = λ fault shown refuses.
    absurd (one.never_both is.0 fault is.1 is.2.can_merge shown refuses)
decided_sites_must_refuse settings images phi (Err other) one is refused = λ fault shown refuses.
    elim (decided_sites_stop other) [
      | inl disk ↦ inl (inl (disk.0, ap (λ (f : SiteFault). Err f) disk.1))
      | inr rest ↦ ⊎_elim (λ memory. inl (inr (ap (λ (f : SiteFault). Err f) memory)))
          (λ shown_too. inr (ap (λ (f : SiteFault). Err f) (one.one_refusal other fault shown_too shown refused refuses))) rest
    ]
