-- The merged tables of one node: the run of each table, and the keys that some table monitors.
use Rattle.std.specs.Prelude.{ℕ, Bool, List}
use Rattle.std.specs.List.{list_any}
use Rattle.cut_merge.specs.Run.{RunValue, is_monitored}

-- the run of each shard's table, and the keys that they monitor, in the order in which they were first seen
pub record NodeMergeValue : Type 0 where
  pub runs : List RunValue
  pub keys : List ℕ

-- whether one of the runs has the key
abbrev pub has_key : ℕ → List RunValue → Bool
has_key key runs = list_any (λ run. is_monitored key run) runs
