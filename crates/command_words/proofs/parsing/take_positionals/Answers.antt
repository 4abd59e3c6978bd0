use Rattle.std.proofs.Common.{[]}
use Rattle.clap.specs.Words.{app_of, new_rule, rule_of}
use Rattle.command_words.proofs.ParserRuleLemmas.{parser_gets_one_more_rule}
use Rattle.command_words.proofs.parsing.take_positionals.Goals as goal

pub loop-name-preserved : goal.loop-name-preserved
loop-name-preserved c =
    parser_gets_one_more_rule new_rule (app_of c.args.parser) (app_of c.loop-name.parser) (app_of c.in_ok-parser.parser)
    (rule_of c.new.result) c.args.names.now c.loop-name.name-index (record { ref_ptr = (0, 0); now = [] })
    c.loop-name-test.true
    c.loop-name.invariant c.new.ensures.rule (c.in_ok-parser.ensures.shape c.new.ensures.optional.1)
