-- What is taken of each site, which no public contract cites.
use Rattle.std.specs.Prelude.{ℕ, ◌≡◌, ◌+◌, ◌*◌, ◌<◌, ◌≤◌, List, ◌++◌, map, length, replicate, sum_by, take, drop, slice_get, All}
use Rattle.std.specs.Prelude.{Option, None, Some}
use Rattle.std.specs.List.{flat_map}
use Rattle.prefix_lattice.specs.{shard_limit, total_limit}
use Rattle.shard_state.specs.{CutValue, empty_snapshot, total_of_cut}
use Rattle.checkpoint.specs.declared.settings.StoreSettings.{StoreSettings}
use Rattle.checkpoint.specs.{SavedValue, settings_shape}
use Rattle.site_merge.specs.SiteCut.{IsReadStore, store_shards}
use Rattle.site_merge.specs.declared.taking.SiteMark.{SiteMark}
use Rattle.site_merge.specs.declared.taking.Taken.{Taken}

-- what is kept of a store beside its shards: the digest and the weight of its cut
abbrev pub site_mark : Option SavedValue → SiteMark
site_mark None = record { digest = replicate 32 0; weight = 0 }
site_mark (Some saved) = record { digest = saved.digest; weight = total_of_cut saved.cut }

-- the stores of these sites were taken, one after another, and there is room for this many more
pub record HasTaken (settings : StoreSettings) (sites : List (Option SavedValue)) (left : ℕ) (taken : Taken) : Type 0 where
  pub shape : taken.cut.shape ≡ settings_shape settings
  pub shards : taken.cut.shards
      ≡ flat_map (store_shards settings) sites ++ replicate (left * settings.shards) (empty_snapshot (settings_shape settings))
  pub marks : taken.marks.items ≡ map site_mark sites
  pub are_read : All (IsReadStore settings) sites
  pub bounded : All (λ mark. mark.weight < total_limit) taken.marks.items

-- the weights of marks together
abbrev pub weight_of_marks : List SiteMark → ℕ
weight_of_marks marks = sum_by (λ mark. mark.weight) marks

-- a cut once what a store reads as was put in, from the shard with this number on: where no gate is open it stays
abbrev pub cut_with_site : ℕ → Option SavedValue → CutValue → CutValue
cut_with_site first None cut = cut
cut_with_site first (Some saved) cut = record cut {
  shards = take first cut.shards ++ (saved.cut.shards ++ drop (first + length saved.cut.shards) cut.shards);
}

-- two marks of one capture: both have some weight, and their digests are the same
pub record AreAlike (mark other : SiteMark) : Type 0 where
  pub weighs : 1 ≤ mark.weight
  pub other_weighs : 1 ≤ other.weight
  pub same : mark.digest ≡ other.digest

-- the marks at these places, of which the second is later, are of one capture
pub record AreAlikeAt (marks : List SiteMark) (first second : ℕ) : Type 0 where
  pub one : SiteMark
  pub other : SiteMark
  pub rising : first < second
  pub one_is : slice_get marks first ≡ Some one
  pub other_is : slice_get marks second ≡ Some other
  pub alike : AreAlike one other

-- they are the first such marks
pub record AreFirstAlike (marks : List SiteMark) (first second : ℕ) : Type 0 where
  pub pair : AreAlikeAt marks first second
  pub least_first : (one other : ℕ) → AreAlikeAt marks one other → first ≤ one
  pub least_second : (other : ℕ) → AreAlikeAt marks first other → second ≤ other

-- the shards of a store's cut fit into a cut of the same shape, from the shard with this number on
pub record CanPut (first : ℕ) (saved cut : CutValue) : Type 0 where
  pub few : length saved.shards ≤ shard_limit
  pub within : first + length saved.shards ≤ length cut.shards
  pub same_shape : saved.shape ≡ cut.shape
