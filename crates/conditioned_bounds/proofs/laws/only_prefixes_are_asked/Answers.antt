use Rattle.std.proofs.Common.{not, ◌++◌}
use Rattle.std.specs.List.{list_any}
use Rattle.std.proofs.lemmas.List.Elements.{All-cons, All-append, All-filter}
use Rattle.prefix_lattice.specs.{IsPrefix, strictly_under, lines_under, closest, kept_pairs}
use Rattle.conditioned_bounds.proofs.laws.only_prefixes_are_asked.Goals as goal

pub returns : goal.returns
returns c = λ grain prefix lines is all.
    let under = All-filter (λ line. strictly_under line prefix) (IsPrefix grain) lines all in
    let near =
    All-filter (λ line. not (list_any (λ other. strictly_under line other) (lines_under prefix lines)))
    (IsPrefix grain) (lines_under prefix lines) under in
    All-cons (IsPrefix grain) prefix (closest prefix lines ++ kept_pairs (closest prefix lines)) is
    (All-append (IsPrefix grain) (closest prefix lines) (kept_pairs (closest prefix lines)) near
    (c.kept_meets_stay_under.ensures.prefixes grain (closest prefix lines) near))
