-- The positions of sites, and the records before them.
use Rattle.std.proofs.Common.{◌≡◌, ◌∙◌, ℕ, zero, suc, List, [], ◌∷◌, ◌++◌, length, map, replicate, take, Option, Some, None, refl, sym, ap, append_assoc, arith}
use Rattle.std.specs.List.{AllZip, flat_map}
use Rattle.std.proofs.lemmas.List.{map-append}
use Rattle.prefix_lattice.specs.{RecordValue}
use Rattle.hhh_report.specs.{records_before}
use Rattle.shard_state.specs.{SnapshotValue, cut_positions, empty_snapshot}
use Rattle.checkpoint.specs.declared.settings.StoreSettings.{StoreSettings}
use Rattle.checkpoint.specs.{SavedValue, settings_shape, store_positions}
use Rattle.site_merge.specs.SiteCut.{site_cut, site_lists, site_records_before, store_shards}

site_position_of_empty : (shards : ℕ) (snapshot : SnapshotValue)
    → map (λ (s : SnapshotValue). s.position) (replicate shards snapshot) ≡ replicate shards snapshot.position
site_position_of_empty zero snapshot = refl
site_position_of_empty (suc shards) snapshot = ap (λ (l : List ℕ). snapshot.position ∷ l) (site_position_of_empty shards snapshot)

site_position_of_store : (settings : StoreSettings) (site : Option SavedValue)
    → map (λ snapshot. snapshot.position) (store_shards settings site) ≡ store_positions settings site
site_position_of_store settings None =
    site_position_of_empty settings.shards (empty_snapshot (settings_shape settings))
site_position_of_store settings (Some saved) = refl

-- the positions of the site cut are those of each site
pub site_positions_are_of_stores : (settings : StoreSettings) (sites : List (Option SavedValue))
    → cut_positions (site_cut settings sites) ≡ flat_map (λ positions. positions) (map (store_positions settings) sites)
site_positions_are_of_stores settings [] = refl
site_positions_are_of_stores settings (site ∷ sites) =
    let rest = flat_map (store_shards settings) sites in
    map-append (λ (snapshot : SnapshotValue). snapshot.position) (store_shards settings site) rest
    ∙ ap (λ (l : List ℕ). l ++ map (λ snapshot. snapshot.position) rest) (site_position_of_store settings site)
    ∙ ap (λ (l : List ℕ). store_positions settings site ++ l) (site_positions_are_of_stores settings sites)

site_position_records : (lists others : List (List RecordValue)) (places later : List ℕ) → length places ≡ length lists
    → records_before (lists ++ others) (places ++ later) ≡ records_before lists places ++ records_before others later
site_position_records [] others [] later many = refl
site_position_records [] others (place ∷ places) later many = absurd (omega (arith, many))
site_position_records (list ∷ lists) others [] later many = absurd (omega (arith, many))
site_position_records (list ∷ lists) others (place ∷ places) later many =
    ap (λ (l : List RecordValue). take place list ++ l) (site_position_records lists others places later (omega (arith, many)))
    ∙ sym (append_assoc (take place list) (records_before lists places) (records_before others later))

-- the records before the positions of all sites are those of each site
pub site_positions_have_records : (dealt : List (List (List RecordValue))) (positions : List (List ℕ))
    → AllZip (λ lists places. length places ≡ length lists) dealt positions
    → records_before (site_lists dealt) (flat_map (λ places. places) positions) ≡ site_records_before dealt positions
site_positions_have_records [] [] fit = refl
site_positions_have_records [] (places ∷ positions) fit = absurd fit
site_positions_have_records (lists ∷ dealt) [] fit = absurd fit
site_positions_have_records (lists ∷ dealt) (places ∷ positions) fit =
    site_position_records lists (site_lists dealt) places (flat_map (λ later. later) positions) fit.0
    ∙ ap (λ (l : List RecordValue). records_before lists places ++ l) (site_positions_have_records dealt positions fit.1)
