use Rattle.rank_table.proofs.RankTableLemmas.{rank_table_length_as_seen}
use Rattle.rank_table.proofs.rank_table.RankTableSummary.len.Goals as goal

pub returns-clause-length : goal.returns-clause-length
returns-clause-length c = rank_table_length_as_seen c.self.inside.capacity c.slots.result.now c.self.inside.ranked.slots c.args.self.now c.slots.ensures.slots
    c.self.view_is
