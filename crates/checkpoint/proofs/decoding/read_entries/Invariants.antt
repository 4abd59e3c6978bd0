use Rattle.std.proofs.Common.{◌≤◌}
use Rattle.std.specs.Prelude.{vec_capacity}
use Rattle.std.specs.List.{flat_map}
use Rattle.checkpoint.specs.Body.{entry_bytes}
use Rattle.checkpoint.specs.Decoding.{ListFits, BeginsWith, EntryFits}
use Rattle.checkpoint.proofs.decoding.read_entries.Given as goal

abbrev pub invariant-loop-place : goal.invariant-loop-place
invariant-loop-place l =
    (l.capacity ≤ vec_capacity l.entries)
    × BeginsWith (flat_map entry_bytes) (ListFits EntryFits l._place) l.bytes l.entries.items l.rest
