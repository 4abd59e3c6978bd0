use Rattle.prefix_lattice.proofs.PrefixKeyLemmas.{prefix_is_some_for_key, exactly_prefix_with_key}
use Rattle.prefix_lattice.proofs.prefix.Prefix.from_key.Goals as goal

pub returns-clause-accepted : goal.returns-clause-accepted
returns-clause-accepted c =
    prefix_is_some_for_key c.args.node c.args.key c.prefix_of_key.result c.prefix_of_key.ensures.some
    c.prefix_of_key.ensures.none

pub returns-clause-prefix : goal.returns-clause-prefix
returns-clause-prefix c =
    exactly_prefix_with_key c.args.node c.args.key c.prefix_of_key.result c.prefix_of_key.ensures.some
    c.prefix_of_key.ensures.none
