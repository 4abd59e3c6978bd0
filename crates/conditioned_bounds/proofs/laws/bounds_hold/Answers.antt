use Rattle.conditioned_bounds.proofs.BoundLemmas.{bound_of-least, bound_of-most, bound_of-exact}
use Rattle.conditioned_bounds.specs.Bounds.{bound_of}
use Rattle.conditioned_bounds.proofs.IntervalSumLemmas.{interval_sum-reached}
use Rattle.conditioned_bounds.proofs.laws.bounds_hold.Goals as goal

pub returns-clause-at_least : goal.returns-clause-at_least
returns-clause-at_least c = λ low high prefix lines records distinct holds.
    bound_of-least low high prefix lines records (c.weights_balance.ensures prefix lines records distinct) holds

pub returns-clause-at_most : goal.returns-clause-at_most
returns-clause-at_most c = λ low high prefix lines records times whole distinct holds narrow.
    bound_of-most low high prefix lines records times whole
    (c.weights_balance.ensures prefix lines records distinct) holds narrow

pub returns-clause-exact : goal.returns-clause-exact
returns-clause-exact c = λ low high prefix lines records distinct exact.
    bound_of-exact low high prefix lines records (c.weights_balance.ensures prefix lines records distinct) exact

pub returns-clause-reached : goal.returns-clause-reached
returns-clause-reached c = λ low high prefix lines records times whole least distinct holds narrow reached.
    interval_sum-reached times _ least (bound_of low high prefix lines) reached
    (bound_of-most low high prefix lines records times whole
    (c.weights_balance.ensures prefix lines records distinct) holds narrow)
