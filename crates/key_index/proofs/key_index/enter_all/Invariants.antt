use Rattle.std.proofs.Common.{◌≡◌, ◌≤◌, length, map}
use Rattle.key_index.specs.Entries.{AreEntered, LeadBelow}
use Rattle.key_index.proofs.key_index.enter_all.Given as goal

-- the places so far are entered
abbrev pub invariant-loop-next : goal.invariant-loop-next
invariant-loop-next g l = record {
  roomy : l.index.room ≡ l.fn.index.room;
  leads : LeadBelow (length l.slots) l.index.links l.index.listed;
  few : length l.index.listed ≤ l.next;
  entered : AreEntered l.next l.next (map g.T.Keyed.key_of l.slots) l.index;
}
