use Rattle.std.proofs.Common.{arith}
use Rattle.std.proofs.lemmas.Result.{IfOk-weaker}
use Rattle.shard_state.specs.{HoldsNarrowlyOver}
use Rattle.hhh_engine.specs.Weigh.{text_shape}
use Rattle.hhh_engine.proofs.commands.weigh.weigh_text.Goals as goal

pub returns-clause-holds : goal.returns-clause-holds
returns-clause-holds c =
    let holds : HoldsNarrowlyOver text_shape c.args.prefix.now c.args.records.now =
    c.tables_hold_weights.ensures.weight text_shape c.args.prefix.now c.args.records.now (omega arith) c.requires.of_bytes
    c.requires.weighed in
    IfOk-weaker c.three_lines.result _ (λ text. HoldsNarrowlyOver text_shape c.args.prefix.now c.args.records.now)
    (λ text spelled. holds) c.three_lines.ensures
