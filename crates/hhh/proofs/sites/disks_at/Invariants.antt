use Rattle.std.proofs.Common.{◌≡◌, ◌++◌}
use Rattle.std.specs.List.{AllZip}
use Rattle.std.specs.Vec.Iter.{into_iter_items}
use Rattle.system_io.specs.{IsUnusedDisk}
use Rattle.hhh.proofs.sites.disks_at.Given as goal

-- each path so far has its file
abbrev pub invariant-loop-path : goal.invariant-loop-path
invariant-loop-path l =
    (l.fn.stores.items ≡ l.yielded ++ into_iter_items l.path-iterator)
    × AllZip IsUnusedDisk l.yielded l.disks.items
