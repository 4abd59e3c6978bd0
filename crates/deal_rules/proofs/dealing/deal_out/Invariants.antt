use Rattle.std.proofs.Common.{◌≡◌, ◌≤◌, length, take, drop}
use Rattle.deal_rules.specs.Dealing.{IsDealing}
use Rattle.deal_rules.proofs.dealing.deal_out.Given as goal

-- the records so far are dealt, and the others are left
abbrev pub invariant-loop-rec : goal.invariant-loop-rec
invariant-loop-rec g l = record {
  within : l.place ≤ length l.fn.list;
  left : l.left ≡ drop l.place l.fn.list;
  dealt : IsDealing l.dealer.kind
      (λ place rec shards number.
      (goal.Fn-dyn g).post (l.dealer.rule.vtable, l.dealer.rule.value) (place, (rec, (shards, tt))) number)
      l.shards (take l.place l.fn.list) l.lists.items;
}

abbrev pub decreases-loop-rec : goal.decreases-loop-rec
decreases-loop-rec g l = length l.left
