use Rattle.std.proofs.Common.{◌≡◌, take}
use Rattle.rank_table.specs.Marks.{numbered}
use Rattle.rank_table.specs.RankTable.{AreParts}
use Rattle.rank_table.proofs.rank_table.load.Given as goal

-- the entries so far
abbrev pub invariant-loop-place : goal.invariant-loop-place
invariant-loop-place l = record {
  together : AreParts l.flat.capacity l.index l.ranked;
  ranked : l.ranked ≡ record l.fn.ranked { slots = numbered 0 (take l.place l.flat.entries) };
}
