use Rattle.std.proofs.Common.{◌≡◌, take}
use Rattle.deal_rules.proofs.dealt.Dealt.copy.Given as goal

-- the lists so far are equal
abbrev pub invariant-loop-list : goal.invariant-loop-list
invariant-loop-list l = l.lists.items ≡ take l.list-index l.list-items
