use Rattle.std.proofs.Common.{[], Bor, Some, ap, slice_index_or, ◌∙◌}
use Rattle.clap.specs.Words.{Rule, app_of, rule_of}
use Rattle.clap.specs.declared.builder.arg.Arg.{Arg}
use Rattle.command_words.specs.Arguments.{ArgumentText}
use Rattle.command_words.specs.Parsing.{rule_for}
use Rattle.command_words.proofs.ParserRuleLemmas.{parser_gets_one_more_rule}
use Rattle.command_words.proofs.parsing.take_options.Goals as goal

pub loop-name-preserved : goal.loop-name-preserved
loop-name-preserved c =
    let none : Bor ArgumentText = record { ref_ptr = (0, 0); now = [] } in
    let name = (slice_index_or c.args.names.now c.loop-name.name-index none).now in
    parser_gets_one_more_rule rule_for (app_of c.args.parser) (app_of c.loop-name.parser) (app_of c.in_ok-parser.parser)
    (rule_of c.long.result) c.args.names.now c.loop-name.name-index none
    c.loop-name-test.true
    c.loop-name.invariant
    (ap rule_of c.long.ensures ∙ ap (λ (rule : Rule). record rule { long = Some name }) c.new.ensures.rule)
    (c.in_ok-parser.ensures.shape (ap (λ (arg : Arg). arg.global) c.long.ensures ∙ c.new.ensures.optional.1))
