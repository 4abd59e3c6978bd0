use Rattle.std.proofs.Common.{ℕ, List, ◌++◌, take}
use Rattle.std.specs.List.{flat_map}
use Rattle.sha2.specs.Hashers.{Holds256}
use Rattle.checkpoint.specs.Digest.{list_bytes}
use Rattle.checkpoint.proofs.digest.hash_lists.Given as goal

abbrev pub invariant-loop-shard : goal.invariant-loop-shard
invariant-loop-shard l =
    (text : List ℕ) → Holds256 l.fn.hasher text → Holds256 l.hasher (text ++ flat_map list_bytes (take l.shard l.dealt))
