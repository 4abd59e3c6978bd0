use Rattle.command_words.specs.Matches.{store_in, values_in}
use Rattle.command_words.proofs.OneValueFaultLemmas.{given_values_have_no_fault}
use Rattle.command_words.proofs.values.settings_of.Goals as goal

pub returns-clause-good : goal.returns-clause-good
returns-clause-good c =
    let matches = c.args.matches.now in
    given_values_have_no_fault (values_in matches) (store_in matches) _ c.in_ok-given_of.ensures.ok
