use Rattle.std.proofs.Common.{◌≡◌, map}
use Rattle.key_index.specs.Entries.{HaveTurnedAway, IsNotBefore}
use Rattle.key_index.specs.Homes.{mixed_after}
use Rattle.key_index.proofs.EntryLemmas.{entry_parts}
use Rattle.key_index.proofs.key_index.KeyIndex.find_further.Given as goal

-- each home so far has turned a key away, and a place of the key is in a home of a later turn, or in the list
abbrev pub invariant-loop-turn : goal.invariant-loop-turn
invariant-loop-turn g l =
    let i = l.self-inside in
    record {
      number : l.number ≡ mixed_after l.turn l.key;
      seen : HaveTurnedAway l.turn l.key (entry_parts i.room i.chains.links i.chains.backs i.turned i.listed.items);
      further : IsNotBefore l.turn l.key (map g.T.Keyed.key_of l.slots) (entry_parts i.room i.chains.links i.chains.backs i.turned i.listed.items);
    }
