-- The site cut: what it weighs, and which lists it represents.
use Rattle.std.proofs.Common.{◌≡◌, ◌∙◌, ℕ, zero, suc, ◌*◌, ◌≤◌, List, [], ◌∷◌, ◌++◌, length, take, replicate, sum_by, All}
use Rattle.std.proofs.Common.{Option, Some, None, refl, sym, ap, subst, arith}
use Rattle.std.specs.List.{AllZip, flat_map}
use Rattle.std.proofs.lemmas.List.{append-nil, length-map}
use Rattle.std.proofs.lemmas.Slice.Zip.{AllZip-long}
use Rattle.std.proofs.lemmas.List.Elements.{All-append, All-nil, All-replicate}
use Rattle.std.proofs.lemmas.List.Folds.{sum_by-replicate}
use Rattle.std.proofs.lemmas.List.Sums.{sum_by-append, sum_by-cons}
use Rattle.prefix_lattice.specs.{RecordValue, total_weight}
use Rattle.shard_state.specs.{CutRepresents, CutValue, SnapshotRepresents, SnapshotValue, TableShape, empty_snapshot, snapshot_total, total_of_cut}
use Rattle.hhh_report.specs.declared.report.Report.{Report}
use Rattle.hhh_report.specs.{IsSound}
use Rattle.checkpoint.specs.declared.header.StoreHeader.{StoreHeader}
use Rattle.checkpoint.specs.declared.settings.StoreSettings.{StoreSettings}
use Rattle.checkpoint.specs.{AreSettings, IsStoreOf, OpenToOne, SavedValue, settings_shape, stored_header}
use Rattle.site_merge.specs.SiteCut.{IsReadStore, site_cut, site_lists, site_weight, store_shards, store_weight}
use Rattle.site_merge.specs.Sites.{SiteReadsAs, SitesBelong, SitesReadAs}
use Rattle.site_merge.specs.Taking.{HasTaken, site_mark}
use Rattle.site_merge.specs.declared.taking.SiteMark.{SiteMark}
use Rattle.site_merge.specs.declared.taking.Taken.{Taken}

-- empty tables represent each list
abbrev pub EmptySiteCutStands : Type 0
EmptySiteCutStands = (shape : TableShape) (list : List RecordValue) → SnapshotRepresents (empty_snapshot shape) list

-- the tables of a snapshot counted the records before its position
abbrev pub SiteCutIsCounted : Type 0
SiteCutIsCounted = (snapshot : SnapshotValue) (list : List RecordValue) → SnapshotRepresents snapshot list
    → 1 ≤ snapshot.shape.capacity → snapshot_total snapshot ≡ total_weight (take snapshot.position list)

-- what was taken of all sites is the site cut
pub site_cut_is_taken : (settings : StoreSettings) (sites : List (Option SavedValue)) (taken : Taken) → HasTaken settings sites 0 taken
    → taken.cut ≡ site_cut settings sites
site_cut_is_taken settings sites taken has =
    let none : 0 * settings.shards ≡ 0 = omega arith in
    let shards : taken.cut.shards ≡ flat_map (store_shards settings) sites =
    has.shards ∙ ap (λ (n : ℕ). flat_map (store_shards settings) sites ++ replicate n (empty_snapshot (settings_shape settings))) none
    ∙ append-nil (flat_map (store_shards settings) sites) in
    λ i. record { shape = has.shape i; shards = shards i }

site_cut_empty_weight : EmptySiteCutStands → SiteCutIsCounted → (settings : StoreSettings) → AreSettings settings
    → snapshot_total (empty_snapshot (settings_shape settings)) ≡ 0
site_cut_empty_weight stands counted settings are =
    counted (empty_snapshot (settings_shape settings)) [] (stands (settings_shape settings) []) (omega (arith, are.least))

site_cut_store_weight : EmptySiteCutStands → SiteCutIsCounted → (settings : StoreSettings) → AreSettings settings → (site : Option SavedValue)
    → sum_by snapshot_total (store_shards settings site) ≡ store_weight site
site_cut_store_weight stands counted settings are None =
    let e = empty_snapshot (settings_shape settings) in
    let nothing : settings.shards * 0 ≡ 0 = omega arith in
    sum_by-replicate snapshot_total settings.shards e
    ∙ ap (λ (n : ℕ). settings.shards * n) (site_cut_empty_weight stands counted settings are) ∙ nothing
site_cut_store_weight stands counted settings are (Some saved) = refl

-- the site cut counted what all sites counted
pub site_cut_weight : EmptySiteCutStands → SiteCutIsCounted → (settings : StoreSettings) → AreSettings settings
    → (sites : List (Option SavedValue)) → sum_by snapshot_total (flat_map (store_shards settings) sites) ≡ site_weight sites
site_cut_weight stands counted settings are [] = refl
site_cut_weight stands counted settings are (site ∷ sites) = omega (
  arith,
  sum_by-append snapshot_total (store_shards settings site) (flat_map (store_shards settings) sites),
  sum_by-cons store_weight site sites,
  site_cut_store_weight stands counted settings are site,
  site_cut_weight stands counted settings are sites,
)

-- what a store reads as is of these lists, one for each shard
pub record SiteCutIsOf (settings : StoreSettings) (site : Option SavedValue) (lists : List (List RecordValue)) : Type 0 where
  pub alike : All (λ snapshot. snapshot.shape ≡ settings_shape settings) (store_shards settings site)
  pub shards : AllZip SnapshotRepresents (store_shards settings site) lists

site_cut_pairs_append : {A B : Type 0} (R : A → B → Type 0) (xs us : List A) (ys vs : List B) → AllZip R xs ys → AllZip R us vs
    → AllZip R (xs ++ us) (ys ++ vs)
site_cut_pairs_append R [] us [] vs first second = second
site_cut_pairs_append R [] us (y ∷ ys) vs first second = absurd first
site_cut_pairs_append R (x ∷ xs) us [] vs first second = absurd first
site_cut_pairs_append R (x ∷ xs) us (y ∷ ys) vs first second = (first.0, site_cut_pairs_append R xs us ys vs first.1 second)

-- the site cut represents the site lists
pub site_cut_represents : (settings : StoreSettings) (sites : List (Option SavedValue)) (dealt : List (List (List RecordValue)))
    → AllZip (SiteCutIsOf settings) sites dealt → CutRepresents (site_cut settings sites) (site_lists dealt)
site_cut_represents settings [] [] all = record { alike = All-nil (λ snapshot. snapshot.shape ≡ settings_shape settings); shards = tt }
site_cut_represents settings [] (lists ∷ dealt) all = absurd all
site_cut_represents settings (site ∷ sites) [] all = absurd all
site_cut_represents settings (site ∷ sites) (lists ∷ dealt) all =
    let rest = site_cut_represents settings sites dealt all.1 in
    record {
      alike = All-append (λ snapshot. snapshot.shape ≡ settings_shape settings) (store_shards settings site)
          (flat_map (store_shards settings) sites) all.0.alike rest.alike;
      shards = site_cut_pairs_append SnapshotRepresents (store_shards settings site) (flat_map (store_shards settings) sites) lists
          (site_lists dealt) all.0.shards rest.shards;
    }

site_cut_empty_shards : (shape : TableShape) → ((list : List RecordValue) → SnapshotRepresents (empty_snapshot shape) list)
    → (shards : ℕ) (lists : List (List RecordValue)) → length lists ≡ shards
    → AllZip SnapshotRepresents (replicate shards (empty_snapshot shape)) lists
site_cut_empty_shards shape stands zero [] many = tt
site_cut_empty_shards shape stands zero (list ∷ lists) many = absurd (omega (arith, many))
site_cut_empty_shards shape stands (suc shards) [] many = absurd (omega (arith, many))
site_cut_empty_shards shape stands (suc shards) (list ∷ lists) many =
    (stands list, site_cut_empty_shards shape stands shards lists (omega (arith, many)))

site_cut_of_store : EmptySiteCutStands → (settings : StoreSettings) (header : StoreHeader) (site : Option SavedValue)
    (lists : List (List RecordValue)) → IsReadStore settings site → length lists ≡ settings.shards → IsStoreOf header lists site
    → SiteCutIsOf settings site lists
site_cut_of_store stands settings header None lists is_read many of_lists = record {
  alike = All-replicate (λ snapshot. snapshot.shape ≡ settings_shape settings) settings.shards (empty_snapshot (settings_shape settings)) refl;
  shards = site_cut_empty_shards (settings_shape settings) (stands (settings_shape settings)) settings.shards lists many;
}
site_cut_of_store stands settings header (Some saved) lists is_read many of_lists = record {
  alike = subst (λ (shape : TableShape). All (λ snapshot. snapshot.shape ≡ shape) saved.cut.shards) is_read.alike is_read.cut.alike;
  shards = of_lists.1.shards;
}

-- what each site reads as is of its lists, where its store belongs to them
pub site_cut_of_stores : EmptySiteCutStands → OpenToOne → (settings : StoreSettings) → AreSettings settings
    → (reads : List (Option (List ℕ))) (sites : List (Option SavedValue)) (dealt : List (List (List RecordValue)))
    → SitesReadAs settings reads sites → SitesBelong settings reads dealt → AllZip (SiteCutIsOf settings) sites dealt
site_cut_of_stores stands one settings are [] [] [] as_read belong = tt
site_cut_of_stores stands one settings are [] [] (lists ∷ dealt) as_read belong = absurd belong
site_cut_of_stores stands one settings are [] (site ∷ sites) dealt as_read belong = absurd as_read
site_cut_of_stores stands one settings are (read ∷ reads) [] dealt as_read belong = absurd as_read
site_cut_of_stores stands one settings are (read ∷ reads) (site ∷ sites) [] as_read belong = absurd belong
site_cut_of_stores stands one settings are (read ∷ reads) (site ∷ sites) (lists ∷ dealt) as_read belong =
    let here = belong.0 in
    let header = stored_header settings here.image in
    let opened = here.belongs.0 in
    let same : opened ≡ site =
    one header here.image opened site are here.belongs.1 (as_read.0.bytes here.image here.is_read) in
    let of_lists : IsStoreOf header lists site = subst (λ (o : Option SavedValue). IsStoreOf header lists o) same here.belongs.2 in (
      site_cut_of_store stands settings header site lists as_read.0.is_read here.as_many of_lists,
      site_cut_of_stores stands one settings are reads sites dealt as_read.1 belong.1,
    )

-- the records of all sites weigh something
pub site_cut_lists_weigh : (settings : StoreSettings) (reads : List (Option (List ℕ))) (dealt : List (List (List RecordValue)))
    → SitesBelong settings reads dealt → All (λ list. All (λ rec. 1 ≤ rec.weight) list) (site_lists dealt)
site_cut_lists_weigh settings [] [] belong = All-nil (λ list. All (λ rec. 1 ≤ rec.weight) list)
site_cut_lists_weigh settings [] (lists ∷ dealt) belong = absurd belong
site_cut_lists_weigh settings (read ∷ reads) [] belong = absurd belong
site_cut_lists_weigh settings (read ∷ reads) (lists ∷ dealt) belong =
    All-append (λ list. All (λ rec. 1 ≤ rec.weight) list) lists (site_lists dealt) belong.0.weighed
    (site_cut_lists_weigh settings reads dealt belong.1)

-- there are as many marks as sites
pub site_cut_marks : (settings : StoreSettings) (reads : List (Option (List ℕ))) (sites : List (Option SavedValue)) (taken : Taken)
    → SitesReadAs settings reads sites → HasTaken settings sites 0 taken → length taken.marks.items ≡ length reads
site_cut_marks settings reads sites taken read has =
    ap (λ (l : List SiteMark). length l) has.marks ∙ length-map sites site_mark ∙ AllZip-long (SiteReadsAs settings) reads sites read

-- what was taken counted what the sites counted
pub site_cut_total : EmptySiteCutStands → SiteCutIsCounted → (settings : StoreSettings) → AreSettings settings
    → (sites : List (Option SavedValue)) (taken : Taken) → HasTaken settings sites 0 taken → total_of_cut taken.cut ≡ site_weight sites
site_cut_total stands counted settings are sites taken has =
    ap (λ (cut : CutValue). total_of_cut cut) (site_cut_is_taken settings sites taken has) ∙ site_cut_weight stands counted settings are sites

-- a report that is sound over each list that the cut represents is sound over the site lists
pub site_cut_sound : EmptySiteCutStands → OpenToOne → (settings : StoreSettings) → AreSettings settings
    → (reads : List (Option (List ℕ))) (sites : List (Option SavedValue)) (dealt : List (List (List RecordValue))) (taken : Taken)
    (report : Report) (phi : ℕ) → SitesReadAs settings reads sites → HasTaken settings sites 0 taken
    → ((lists : List (List RecordValue)) → CutRepresents taken.cut lists → All (λ list. All (λ rec. 1 ≤ rec.weight) list) lists
    → IsSound taken.cut.shape.grain report lists taken.cut.shape.capacity phi)
    → SitesBelong settings reads dealt → IsSound settings.grain report (site_lists dealt) settings.capacity phi
site_cut_sound stands one settings are reads sites dealt taken report phi read has sound belong =
    let cut = site_cut_is_taken settings sites taken has in
    let represents : CutRepresents taken.cut (site_lists dealt) =
    subst (λ (c : CutValue). CutRepresents c (site_lists dealt)) (sym cut)
    (site_cut_represents settings sites dealt (site_cut_of_stores stands one settings are reads sites dealt read belong)) in
    subst (λ (c : CutValue). IsSound c.shape.grain report (site_lists dealt) c.shape.capacity phi) cut
    (sound (site_lists dealt) represents (site_cut_lists_weigh settings reads dealt belong))
