use Rattle.std.proofs.Common.{◌≡◌, ◌+◌, ◌-◌, ◌<◌, ◌++◌, length, take, drop}
use Rattle.space_saving.specs.Summary.{put_into}
use Rattle.space_saving.proofs.places.settle.Given as goal

-- the new entry is still to be inserted at this index or later
abbrev pub invariant-loop-place : goal.invariant-loop-place
invariant-loop-place l = record {
  within : l.place < length l.entries;
  still : take l.place l.entries ++ put_into l.new (drop (l.place + 1) l.entries)
      ≡ take l.fn.from l.fn.entries ++ put_into l.new (drop (l.fn.from + 1) l.fn.entries);
}

abbrev pub decreases-loop-place : goal.decreases-loop-place
decreases-loop-place l = length l.initial.entries - l.place
