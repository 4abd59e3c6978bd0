use Rattle.hhh_engine.specs.{streams}
use Rattle.hhh.specs.Rules.{rule_shard, severity}
use Rattle.hhh.proofs.runs.run_judged.Goals as goal

pub returns : goal.returns
returns g c =
    c.runs_follow_formulas.ensures rule_shard severity
    (streams c.args.streams.now.capture c.args.streams.now.text c.args.streams.now.output c.args.streams.now.store)
    (streams c.run.new.capture c.run.new.text c.run.new.sink c.run.new.disk) _ c.run.result c.requires.by_formulas c.requires.by_severity c.run.ensures
