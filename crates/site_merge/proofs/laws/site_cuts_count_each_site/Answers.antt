use Rattle.site_merge.proofs.SiteCutLemmas.{site_cut_weight}
use Rattle.site_merge.proofs.SitePositionLemmas.{site_positions_are_of_stores, site_positions_have_records}
use Rattle.site_merge.proofs.laws.site_cuts_count_each_site.Goals as goal

pub returns-clause-positions : goal.returns-clause-positions
returns-clause-positions c = site_positions_are_of_stores

pub returns-clause-weight : goal.returns-clause-weight
returns-clause-weight c = λ settings sites are.
    site_cut_weight c.shards_stand.ensures.begins c.snapshots_hold_weights.ensures.total settings are sites

pub returns-clause-records : goal.returns-clause-records
returns-clause-records c = site_positions_have_records
