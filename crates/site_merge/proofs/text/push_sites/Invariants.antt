use Rattle.std.proofs.Common.{◌≡◌, ◌++◌}
use Rattle.std.specs.List.{flat_map, range_with_len}
use Rattle.site_merge.specs.SiteText.{site_text_line}
use Rattle.site_merge.proofs.text.push_sites.Given as goal

-- the lines of the sites before this place
abbrev pub invariant-loop-place : goal.invariant-loop-place
invariant-loop-place l = l.text.items ≡ l.fn.text.items ++ flat_map (site_text_line l.made) (range_with_len 0 l.place)
