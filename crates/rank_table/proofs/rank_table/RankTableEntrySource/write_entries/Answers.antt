use Rattle.std.proofs.Common.{sym, ◌∙◌}
use Rattle.rank_table.proofs.RankTableLemmas.{rank_table_length_as_seen}
use Rattle.rank_table.proofs.rank_table.RankTableEntrySource.write_entries.Goals as goal

pub write_in_order-requires-clause-as_many : goal.write_in_order-requires-clause-as_many
write_in_order-requires-clause-as_many c = c.requires
    ∙ sym (rank_table_length_as_seen c.self.inside.capacity c.slots.result.now c.self.inside.ranked.slots c.args.self.now c.slots.ensures.slots c.self.view_is)
