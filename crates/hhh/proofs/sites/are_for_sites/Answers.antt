use Rattle.std.proofs.Common.{◌∙◌, ◌∷◌, ap, sym, codes}
use Rattle.std.proofs.lemmas.Slice.Eq.{bytes_eq-Decides}
use Rattle.hhh_engine.specs.{argument_texts}
use Rattle.hhh.proofs.sites.are_for_sites.Goals as goal

pub returns-clause-yes : goal.returns-clause-yes
returns-clause-yes c same =
    let behind = argument_texts c.in-Some._behind.now in
    let is_name = (bytes_eq-Decides c.in-Some.first.now.now (codes "sites")).0 (sym c.eq.ensures ∙ same) in
    (behind, ap argument_texts c.in-Some.ensures.cases.0 ∙ ap (λ first. first ∷ behind) is_name)
