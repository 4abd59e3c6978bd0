use Rattle.std.proofs.Common.{◌≡◌, length, take}
use Rattle.stream_summary.specs.Arena.{AreParts, arena_entries}
use Rattle.stream_summary.proofs.stream_table.load.Given as goal

-- the entries so far
abbrev pub invariant-loop-place : goal.invariant-loop-place
invariant-loop-place l = record {
  together : AreParts l.index l.arena;
  buckets : length l.arena.buckets.items ≡ length l.fn.arena.buckets.items;
  slots : length l.arena.slots.items ≡ l.place;
  entries : arena_entries l.arena ≡ take l.place l.flat.entries;
}
