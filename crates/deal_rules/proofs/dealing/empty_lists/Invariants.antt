use Rattle.std.proofs.Common.{◌≡◌, []}
use Rattle.deal_rules.specs.Dealing.{dealt_lists}
use Rattle.deal_rules.proofs.dealing.empty_lists.Given as goal

-- each shard so far has its empty list
abbrev pub invariant-loop : goal.invariant-loop
invariant-loop l = l.lists.items ≡ dealt_lists l.counter [] []
