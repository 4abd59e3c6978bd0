use Rattle.std.proofs.Common.{◌≡◌, ◌∙◌, true≢false, ap, sym}
use Rattle.clap.specs.Words.{App, is_simple, matches_of, takes}
use Rattle.clap.specs.declared.error.kind.ErrorKind.TheVariants.{OutOfMemory}
use Rattle.command_words.specs.Arguments.{argument_texts}
use Rattle.command_words.proofs.ParserLemmas.{parser_found_tells_arguments, simple_parser, parser_finds_well_formed}
use Rattle.command_words.proofs.ParserLemmas.{parser_takes_well_formed}
use Rattle.command_words.proofs.parsing.parse.Goals as goal

-- the parser accepts well-formed words, so it fails only when out of memory
pub unreachable-requires : goal.unreachable-requires
unreachable-requires c =
    let words = argument_texts c.args.behind.now in
    let taken =
    ap (λ (app : App). takes app words) c.in_ok-parser_of.ensures
    ∙ parser_takes_well_formed c.args.command words c.requires.0 c.requires.1 in
    let kind : c.kind.result ≡ OutOfMemory = c.kind.ensures ∙ c.in-Err.ensures.passes taken in
    true≢false (sym (rw kind at c.eq.ensures) ∙ c.if-eq.false)

-- it finds the rows of the arguments
pub returns-in-Ok : goal.returns-in-Ok
returns-in-Ok c arguments well_formed =
    let words = argument_texts c.args.behind.now in
    let simple = ap is_simple c.in_ok-parser_of.ensures ∙ simple_parser c.args.command in
    let found =
    ap (λ (app : App). matches_of app words) c.in_ok-parser_of.ensures
    ∙ parser_finds_well_formed c.args.command words arguments well_formed in
    parser_found_tells_arguments c.args.command arguments c.in-Ok.matches well_formed.of_form ((c.in-Ok.ensures.matches simple).0 ∙ found)
