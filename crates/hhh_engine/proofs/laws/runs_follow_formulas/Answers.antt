use Rattle.dealt_capture.specs.{rules_by}
use Rattle.watch_rules.specs.{judged_by}
use Rattle.hhh_engine.specs.Rules.{run_rules}
use Rattle.hhh_engine.proofs.WiderRulesLemmas.{wider_rules_allow_run}
use Rattle.hhh_engine.proofs.laws.runs_follow_formulas.Goals as goal

pub returns : goal.returns
returns g c = λ formula severity old new words status deals goes ends.
    wider_rules_allow_run g.S.Source g.T.Source g.K.Sink g.D.Disk old new words _ (run_rules (rules_by formula) (judged_by severity))
    (record {
      dealing = deals;
      judging = λ rule grain session answer. c.watches_have_one_text.ensures.by_formula severity rule grain session answer goes;
    }) status ends
