-- The cut of several sites, one shard after another, and the lists that it is of.
use Rattle.std.specs.Prelude.{ℕ, ◌^◌, List, [], ◌∷◌, ◌++◌, replicate, sum_by, Option, None, Some}
use Rattle.std.specs.Prelude.{IfSome}
use Rattle.std.specs.List.{flat_map}
use Rattle.prefix_lattice.specs.{RecordValue}
use Rattle.shard_state.specs.{CutValue, SnapshotValue, empty_snapshot, total_of_cut}
use Rattle.hhh_report.specs.{records_before}
use Rattle.checkpoint.specs.declared.settings.StoreSettings.{StoreSettings}
use Rattle.checkpoint.specs.{IsSaved, SavedValue, settings_shape}

-- the most sites of a report
abbrev pub site_limit : ℕ
site_limit = 8

-- the weight of all sites together is below this
abbrev pub weight_limit : ℕ
weight_limit = 2 ^ 56

-- what a store of these settings may read as: nothing, or what may be saved in it
abbrev pub IsReadStore : StoreSettings → Option SavedValue → Type 0
IsReadStore settings store = IfSome store (IsSaved settings.shards (settings_shape settings))

-- the shards of what a store reads as: those of its cut, or empty tables at position 0 where no gate is open
abbrev pub store_shards : StoreSettings → Option SavedValue → List SnapshotValue
store_shards settings None = replicate settings.shards (empty_snapshot (settings_shape settings))
store_shards settings (Some saved) = saved.cut.shards

-- the weight that the cut of a store counted, 0 where no gate is open
abbrev pub store_weight : Option SavedValue → ℕ
store_weight None = 0
store_weight (Some saved) = total_of_cut saved.cut

-- the site cut of what stores read as: the shards of the first, then those of the second, and so on
abbrev pub site_cut : StoreSettings → List (Option SavedValue) → CutValue
site_cut settings sites = record { shape = settings_shape settings; shards = flat_map (store_shards settings) sites }

-- the weight that all sites counted together
abbrev pub site_weight : List (Option SavedValue) → ℕ
site_weight sites = sum_by store_weight sites

-- the site lists of the dealt lists of each site: those of the first, then those of the second, and so on
abbrev pub site_lists : List (List (List RecordValue)) → List (List RecordValue)
site_lists dealt = flat_map (λ lists. lists) dealt

-- the records before the positions of each site, one site after another
abbrev pub site_records_before : List (List (List RecordValue)) → List (List ℕ) → List RecordValue
site_records_before [] positions = []
site_records_before (lists ∷ dealt) [] = []
site_records_before (lists ∷ dealt) (positions ∷ later) = records_before lists positions ++ site_records_before dealt later
