-- The stores of sites, taken one after another.
use Rattle.std.proofs.Common.{◌≡◌, ◌∙◌, ℕ, ◌+◌, ◌*◌, ◌<◌, ◌≤◌, List, [], ◌∷◌, ◌++◌, length, take, drop, replicate, All}
use Rattle.std.proofs.Common.{Option, Some, None, IfSome, option_map, refl, sym, ap, subst, arith, append_assoc, length-append}
use Rattle.std.proofs.Math.Nat.{suc-mul}
use Rattle.std.proofs.Math.Seq.{take-append_seam, drop-append-add, drop-append_seam}
use Rattle.prefix_lattice.specs.{shard_limit, total_limit}
use Rattle.std.proofs.lemmas.List.{length-replicate, replicate-append-replicate, map-append, append-nil}
use Rattle.std.proofs.lemmas.List.Elements.{All-append, All-cons, All-head, All-nil, All-tail}
use Rattle.std.proofs.lemmas.Grind.{flat_map-append}
use Rattle.std.specs.List.{flat_map}
use Rattle.shard_state.specs.{CutValue, SnapshotValue, empty_snapshot}
use Rattle.checkpoint.specs.declared.settings.StoreSettings.{StoreSettings}
use Rattle.checkpoint.specs.declared.saved.Saved.{Saved}
use Rattle.checkpoint.specs.{SavedValue, saved_value, settings_shape}
use Rattle.site_merge.specs.SiteCut.{IsReadStore, store_shards}
use Rattle.site_merge.specs.Taking.{CanPut, HasTaken, cut_with_site, site_mark}
use Rattle.site_merge.specs.declared.taking.Taken.{Taken}
use Rattle.site_merge.specs.declared.taking.SiteMark.{SiteMark}

-- each site has as many shards as the settings say
pub taken_site_shards : (settings : StoreSettings) (site : Option SavedValue) → IsReadStore settings site
    → length (store_shards settings site) ≡ settings.shards
taken_site_shards settings None opened = length-replicate settings.shards (empty_snapshot (settings_shape settings))
taken_site_shards settings (Some saved) opened = opened.as_many

pub taken_shards : (settings : StoreSettings) (sites : List (Option SavedValue)) → All (IsReadStore settings) sites
    → length (flat_map (store_shards settings) sites) ≡ length sites * settings.shards
taken_shards settings [] all = omega arith
taken_shards settings (site ∷ sites) all =
    let here = taken_site_shards settings site (All-head (IsReadStore settings) site sites all) in
    let there = taken_shards settings sites (All-tail (IsReadStore settings) site sites all) in
    length-append (store_shards settings site) (flat_map (store_shards settings) sites)
    ∙ ap (λ (n : ℕ). n + length (flat_map (store_shards settings) sites)) here
    ∙ ap (λ (n : ℕ). settings.shards + n) there ∙ omega (arith, suc-mul (length sites) settings.shards)

-- one more list at the end
pub taken_shards_more : {X : Type 0} (f : Option SavedValue → List X) (sites : List (Option SavedValue)) (site : Option SavedValue)
    → flat_map f (sites ++ site ∷ []) ≡ flat_map f sites ++ f site
taken_shards_more f sites site =
    flat_map-append f sites (site ∷ []) ∙ ap (λ l. flat_map f sites ++ l) (append-nil (f site))

-- there is room for the shards of the next site
pub taken_site_fits : (settings : StoreSettings) (sites : List (Option SavedValue)) (left : ℕ) (saved : SavedValue) (taken : Taken)
    → settings.shards ≤ shard_limit → IsReadStore settings (Some saved) → HasTaken settings sites (left + 1) taken
    → CanPut (length sites * settings.shards) saved.cut taken.cut
taken_site_fits settings sites left saved taken few is_read has =
    let e = empty_snapshot (settings_shape settings) in
    let front = flat_map (store_shards settings) sites in
    let count : length taken.cut.shards ≡ length sites * settings.shards + (left + 1) * settings.shards =
    ap (λ (l : List SnapshotValue). length l) has.shards ∙ length-append front (replicate ((left + 1) * settings.shards) e)
    ∙ ap (λ (n : ℕ). n + length (replicate ((left + 1) * settings.shards) e)) (taken_shards settings sites has.are_read)
    ∙ ap (λ (n : ℕ). length sites * settings.shards + n) (length-replicate ((left + 1) * settings.shards) e) in
    record {
      few = omega (arith, is_read.as_many, few);
      within = omega (arith, is_read.as_many, count, suc-mul left settings.shards);
      same_shape = is_read.alike ∙ sym has.shape;
    }

-- empty shards for one site and for those after it
taken_room_splits : (settings : StoreSettings) (left : ℕ)
    → replicate ((left + 1) * settings.shards) (empty_snapshot (settings_shape settings))
    ≡ replicate settings.shards (empty_snapshot (settings_shape settings)) ++ replicate (left * settings.shards) (empty_snapshot (settings_shape settings))
taken_room_splits settings left =
    let e = empty_snapshot (settings_shape settings) in
    let count : (left + 1) * settings.shards ≡ settings.shards + left * settings.shards = omega (arith, suc-mul left settings.shards) in
    ap (λ (n : ℕ). replicate n e) count ∙ sym (replicate-append-replicate settings.shards (left * settings.shards) e)

-- the shards, once the next site's are in their place
taken_shards_put : (settings : StoreSettings) (sites : List (Option SavedValue)) (left : ℕ) (site : Option SavedValue) (cut : CutValue)
    → All (IsReadStore settings) sites → IsReadStore settings site
    → cut.shards ≡ flat_map (store_shards settings) sites ++ replicate ((left + 1) * settings.shards) (empty_snapshot (settings_shape settings))
    → (cut_with_site (length sites * settings.shards) site cut).shards
    ≡ flat_map (store_shards settings) (sites ++ site ∷ []) ++ replicate (left * settings.shards) (empty_snapshot (settings_shape settings))
taken_shards_put settings sites left None cut are_read is_read shards =
    let e = empty_snapshot (settings_shape settings) in
    let front = flat_map (store_shards settings) sites in
    let rest = replicate (left * settings.shards) e in
    shards ∙ ap (λ (l : List SnapshotValue). front ++ l) (taken_room_splits settings left)
    ∙ sym (append_assoc front (replicate settings.shards e) rest)
    ∙ ap (λ (l : List SnapshotValue). l ++ rest) (sym (taken_shards_more (store_shards settings) sites None))
taken_shards_put settings sites left (Some saved) cut are_read is_read shards =
    let e = empty_snapshot (settings_shape settings) in
    let n = settings.shards in
    let front = flat_map (store_shards settings) sites in
    let empties = replicate n e in
    let rest = replicate (left * n) e in
    let long : length front ≡ length sites * n = taken_shards settings sites are_read in
    let whole : cut.shards ≡ front ++ (empties ++ rest) = shards ∙ ap (λ (l : List SnapshotValue). front ++ l) (taken_room_splits settings left) in
    let before : take (length sites * n) cut.shards ≡ front =
    ap (λ (k : ℕ). take k cut.shards) (sym long) ∙ ap (λ (l : List SnapshotValue). take (length front) l) whole
    ∙ take-append_seam front (empties ++ rest) in
    let place : length sites * n + length saved.cut.shards ≡ length front + length empties =
    omega (arith, long, is_read.as_many, length-replicate n e) in
    let after : drop (length sites * n + length saved.cut.shards) cut.shards ≡ rest =
    ap (λ (k : ℕ). drop k cut.shards) place ∙ ap (λ (l : List SnapshotValue). drop (length front + length empties) l) whole
    ∙ drop-append-add front (empties ++ rest) (length empties) ∙ drop-append_seam empties rest in
    ap (λ (l : List SnapshotValue). l ++ (saved.cut.shards ++ drop (length sites * n + length saved.cut.shards) cut.shards)) before
    ∙ ap (λ (l : List SnapshotValue). front ++ (saved.cut.shards ++ l)) after
    ∙ sym (append_assoc front saved.cut.shards rest)
    ∙ ap (λ (l : List SnapshotValue). l ++ rest) (sym (taken_shards_more (store_shards settings) sites (Some saved)))

taken_shape_stays : (first : ℕ) (site : Option SavedValue) (cut : CutValue) → (cut_with_site first site cut).shape ≡ cut.shape
taken_shape_stays first None cut = refl
taken_shape_stays first (Some saved) cut = refl

-- one more site was taken
pub taken_site_more : (settings : StoreSettings) (sites : List (Option SavedValue)) (left : ℕ) (site : Option SavedValue) (old new : Taken)
    → HasTaken settings sites (left + 1) old → IsReadStore settings site → (site_mark site).weight < total_limit
    → new.cut ≡ cut_with_site (length sites * settings.shards) site old.cut → new.marks.items ≡ old.marks.items ++ site_mark site ∷ []
    → HasTaken settings (sites ++ site ∷ []) left new
taken_site_more settings sites left site old new has is_read light cut marks = record {
  shape = ap (λ (c : CutValue). c.shape) cut ∙ taken_shape_stays (length sites * settings.shards) site old.cut ∙ has.shape;
  shards = ap (λ (c : CutValue). c.shards) cut ∙ taken_shards_put settings sites left site old.cut has.are_read is_read has.shards;
  marks = marks ∙ ap (λ (l : List SiteMark). l ++ site_mark site ∷ []) has.marks ∙ sym (map-append site_mark sites (site ∷ []));
  are_read = All-append (IsReadStore settings) sites (site ∷ []) has.are_read
      (All-cons (IsReadStore settings) site [] is_read (All-nil (IsReadStore settings)));
  bounded = subst (λ (l : List SiteMark). All (λ mark. mark.weight < total_limit) l) (sym marks)
      (All-append (λ mark. mark.weight < total_limit) old.marks.items (site_mark site ∷ []) has.bounded
      (All-cons (λ mark. mark.weight < total_limit) (site_mark site) [] light (All-nil (λ mark. mark.weight < total_limit))));
}

-- there is room for the shards of the next site, whether or not it has any
pub taken_site_has_room : (settings : StoreSettings) (sites : List (Option SavedValue)) (left place : ℕ) (read : Option Saved) (taken : Taken)
    → settings.shards ≤ shard_limit → length sites ≡ place → IsReadStore settings (option_map saved_value read)
    → HasTaken settings sites (left + 1) taken → IfSome read (λ saved. CanPut (place * settings.shards) saved.cut taken.cut)
taken_site_has_room settings sites left place None taken few many is_read has = tt
taken_site_has_room settings sites left place (Some saved) taken few many is_read has =
    subst (λ (n : ℕ). CanPut (n * settings.shards) saved.cut taken.cut) many
    (taken_site_fits settings sites left (saved_value saved) taken few is_read has)
