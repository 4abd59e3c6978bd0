use Rattle.recovery.proofs.BelongingStoreLemmas.{belonging_stores_are_opened}
use Rattle.recovery.proofs.laws.belonging_stores_are_opened.Goals as goal

pub returns : goal.returns
returns c = belonging_stores_are_opened c.snapshots_hold_weights.ensures.total
