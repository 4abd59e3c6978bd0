use Rattle.rank_table.proofs.RankTableLemmas.{rank_table_length_as_seen}
use Rattle.rank_table.proofs.rank_table.RankTableEntrySource.entry_count.Goals as goal

pub returns : goal.returns
returns c = rank_table_length_as_seen c.self.inside.capacity c.slots.result.now c.self.inside.ranked.slots c.args.self.now c.slots.ensures.slots c.self.view_is
