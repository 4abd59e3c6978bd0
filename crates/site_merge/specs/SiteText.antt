-- The text of a report of several sites.
use Rattle.std.specs.Prelude.{ℕ, ◌≡◌, ◌+◌, ◌*◌, ◌≤◌, List, [], ◌∷◌, ◌++◌, length, take, drop, codes, decimal}
use Rattle.std.specs.List.{flat_map, range_with_len}
use Rattle.prefix_lattice.specs.{shard_limit}
use Rattle.report_text.specs.{lines_text, number_text, positions_text, text_line}
use Rattle.site_merge.specs.SiteCut.{site_limit}
use Rattle.site_merge.specs.declared.reporting.SiteReport.{SiteReport}

-- the positions of the shards of the site at this place, from 0
abbrev pub positions_of_site : SiteReport → ℕ → List ℕ
positions_of_site made place = take made.shards (drop (place * made.shards) made.report.positions)

-- the line of a site: `site`, its number, and the positions of its shards
abbrev pub site_text_line : SiteReport → ℕ → List ℕ
site_text_line made place = positions_text (codes "site " ++ decimal (place + 1)) (positions_of_site made place)

-- the lines of the sites, in their order
abbrev pub site_lines : SiteReport → List ℕ
site_lines made = flat_map (site_text_line made) (range_with_len 0 made.sites)

-- the text of the report
abbrev pub sites_text : SiteReport → List ℕ
sites_text made =
    number_text (codes "sites") made.sites
    ++ site_lines made
    ++ number_text (codes "total") made.report.total
    ++ number_text (codes "threshold") made.report.threshold
    ++ lines_text made.report.lines
    ++ text_line (codes "end" ∷ [])

-- there are at most 8 sites, each with a position for each of at most 16 shards
pub record IsShowable (made : SiteReport) : Type 0 where
  pub few_sites : made.sites ≤ site_limit
  pub few_shards : made.shards ≤ shard_limit
  pub as_many : length made.report.positions ≡ made.sites * made.shards
