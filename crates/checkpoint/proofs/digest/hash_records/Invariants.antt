use Rattle.std.proofs.Common.{ℕ, List, ◌++◌, take}
use Rattle.std.specs.List.{flat_map}
use Rattle.sha2.specs.Hashers.{Holds256}
use Rattle.checkpoint.specs.Digest.{record_bytes}
use Rattle.checkpoint.proofs.digest.hash_records.Given as goal

abbrev pub invariant-loop-place : goal.invariant-loop-place
invariant-loop-place l =
    (text : List ℕ) → Holds256 l.fn.hasher text → Holds256 l.hasher (text ++ flat_map record_bytes (take l.place l.list))
