use Rattle.std.proofs.Common.{◌≡◌, ◌++◌, take, drop}
use Rattle.space_saving.specs.Summary.{put_into}
use Rattle.space_saving.proofs.places.place_for.Given as goal

-- the entry is inserted at this index or later
abbrev pub invariant-loop-place : goal.invariant-loop-place
invariant-loop-place l = take l.place l.entries ++ put_into l.new (drop l.place l.entries) ≡ put_into l.new l.entries
