-- Each value that was read is good, so the first one that isn't is the first fault.
use Rattle.std.proofs.Common.{subst, sym, arith, rules}
use Rattle.std.proofs.lemmas.Result.{err_from_is_err_and}
use Rattle.command_words.specs.Matches.{values_in}
use Rattle.command_words.specs.declared.opt.Opt.TheVariants.{Weigh, Shards, Capacity, Phi, Deal, Bits, Front}
use Rattle.command_words.proofs.ValueLemmas.{values_before_next_are_good, weigh_value_is_good, numeric_value_is_good}
use Rattle.command_words.specs.Settings.{SetsDeal, SetsFront, SetsGrain, SetsNumber, SetsWeigh}
use Rattle.command_words.proofs.ValueLemmas.{deal_value_is_good, values_before_front_are_good}
use Rattle.command_words.proofs.ValueLemmas.{bad_numeric_value_is_first, bad_choice_value_is_first}
use Rattle.command_words.proofs.OneValueFaultLemmas.{grain_of_one_value_fits}
use Rattle.command_words.proofs.values.options_of.Goals as goal

pub returns-in_err-weigh-clause-err : goal.returns-in_err-weigh-clause-err
returns-in_err-weigh-clause-err c =
    let values = values_in c.args.matches.now in
    let p = err_from_is_err_and c.from_residual.result c.from_residual.ensures.1 in
    rw (p.1, p.2)
    (bad_choice_value_is_first values Weigh _ _ (sym c.text_of.ensures) c.requires
    c.in_err-weigh.ensures.err)

pub returns-in_err-shards-clause-err : goal.returns-in_err-shards-clause-err
returns-in_err-shards-clause-err c =
    let values = values_in c.args.matches.now in
    let before_shards =
    values_before_next_are_good values Weigh (omega arith) _ (sym c.text_of.ensures) c.requires
    (weigh_value_is_good _ _ c.in_ok-weigh.ensures.ok) in
    let p = err_from_is_err_and c.from_residual-in_err-shards.result c.from_residual-in_err-shards.ensures.1 in
    rw (p.1, p.2)
    (bad_numeric_value_is_first values Shards _ _ (sym c.text_of-2.ensures) before_shards c.in_err-shards.ensures.err)

pub returns-in_err-capacity-clause-err : goal.returns-in_err-capacity-clause-err
returns-in_err-capacity-clause-err c =
    let values = values_in c.args.matches.now in
    let before_shards =
    values_before_next_are_good values Weigh (omega arith) _ (sym c.text_of.ensures) c.requires
    (weigh_value_is_good _ _ c.in_ok-weigh.ensures.ok) in
    let before_capacity =
    values_before_next_are_good values Shards (omega arith) _ (sym c.text_of-2.ensures) before_shards
    (numeric_value_is_good Shards _ _ c.in_ok-shards.ensures.ok) in
    let p = err_from_is_err_and c.from_residual-in_err-capacity.result c.from_residual-in_err-capacity.ensures.1 in
    rw (p.1, p.2)
    (bad_numeric_value_is_first values Capacity _ _ (sym c.text_of-3.ensures) before_capacity c.in_err-capacity.ensures.err)

pub returns-in_err-phi-clause-err : goal.returns-in_err-phi-clause-err
returns-in_err-phi-clause-err c =
    let values = values_in c.args.matches.now in
    let before_shards =
    values_before_next_are_good values Weigh (omega arith) _ (sym c.text_of.ensures) c.requires
    (weigh_value_is_good _ _ c.in_ok-weigh.ensures.ok) in
    let before_capacity =
    values_before_next_are_good values Shards (omega arith) _ (sym c.text_of-2.ensures) before_shards
    (numeric_value_is_good Shards _ _ c.in_ok-shards.ensures.ok) in
    let before_phi =
    values_before_next_are_good values Capacity (omega arith) _ (sym c.text_of-3.ensures) before_capacity
    (numeric_value_is_good Capacity _ _ c.in_ok-capacity.ensures.ok) in
    let p = err_from_is_err_and c.from_residual-in_err-phi.result c.from_residual-in_err-phi.ensures.1 in
    rw (p.1, p.2) (bad_numeric_value_is_first values Phi _ _ (sym c.text_of-4.ensures) before_phi c.in_err-phi.ensures.err)

pub returns-in_err-deal-clause-err : goal.returns-in_err-deal-clause-err
returns-in_err-deal-clause-err c =
    let values = values_in c.args.matches.now in
    let before_shards =
    values_before_next_are_good values Weigh (omega arith) _ (sym c.text_of.ensures) c.requires
    (weigh_value_is_good _ _ c.in_ok-weigh.ensures.ok) in
    let before_capacity =
    values_before_next_are_good values Shards (omega arith) _ (sym c.text_of-2.ensures) before_shards
    (numeric_value_is_good Shards _ _ c.in_ok-shards.ensures.ok) in
    let before_phi =
    values_before_next_are_good values Capacity (omega arith) _ (sym c.text_of-3.ensures) before_capacity
    (numeric_value_is_good Capacity _ _ c.in_ok-capacity.ensures.ok) in
    let before_deal =
    values_before_next_are_good values Phi (omega arith) _ (sym c.text_of-4.ensures) before_phi
    (numeric_value_is_good Phi _ _ c.in_ok-phi.ensures.ok) in
    let p = err_from_is_err_and c.from_residual-in_err-deal.result c.from_residual-in_err-deal.ensures.1 in
    rw (p.1, p.2) (bad_choice_value_is_first values Deal _ _ (sym c.text_of-5.ensures) before_deal c.in_err-deal.ensures.err)

pub running_of-requires : goal.running_of-requires
running_of-requires c =
    let values = values_in c.args.matches.now in
    let before_shards =
    values_before_next_are_good values Weigh (omega arith) _ (sym c.text_of.ensures) c.requires
    (weigh_value_is_good _ _ c.in_ok-weigh.ensures.ok) in
    let before_capacity =
    values_before_next_are_good values Shards (omega arith) _ (sym c.text_of-2.ensures) before_shards
    (numeric_value_is_good Shards _ _ c.in_ok-shards.ensures.ok) in
    let before_phi =
    values_before_next_are_good values Capacity (omega arith) _ (sym c.text_of-3.ensures) before_capacity
    (numeric_value_is_good Capacity _ _ c.in_ok-capacity.ensures.ok) in
    let before_deal =
    values_before_next_are_good values Phi (omega arith) _ (sym c.text_of-4.ensures) before_phi
    (numeric_value_is_good Phi _ _ c.in_ok-phi.ensures.ok) in
    values_before_next_are_good values Deal (omega arith) _ (sym c.text_of-5.ensures) before_deal (deal_value_is_good _ _ c.in_ok-deal.ensures.ok)

pub returns-in_err-grain-clause-err : goal.returns-in_err-grain-clause-err
returns-in_err-grain-clause-err c =
    let p = err_from_is_err_and c.from_residual-in_err-grain.result c.from_residual-in_err-grain.ensures.1 in
    rw (p.1, p.2)
    (bad_numeric_value_is_first (values_in c.args.matches.now) Bits _ _ (sym c.text_of-6.ensures) c.in_ok-running.ensures.good
    c.in_err-grain.ensures.err)

pub returns-in_err-front-clause-err : goal.returns-in_err-front-clause-err
returns-in_err-front-clause-err c =
    let values = values_in c.args.matches.now in
    let grain_set = subst (λ told. SetsGrain told c.in_ok-grain.grain) c.text_of-6.ensures c.in_ok-grain.ensures.ok in
    let capacity_set =
    subst (λ told. SetsNumber Capacity told c.in_ok-capacity.capacity) c.text_of-3.ensures c.in_ok-capacity.ensures.ok in
    let before_front =
    values_before_front_are_good values c.in_ok-grain.grain c.in_ok-running.ensures.good grain_set
    (grain_of_one_value_fits values c.in_ok-grain.grain c.in_ok-capacity.capacity grain_set capacity_set c.in_ok-check_grain.ensures.ok) in
    let p = err_from_is_err_and c.from_residual-in_err-front.result c.from_residual-in_err-front.ensures.1 in
    rw (p.1, p.2) (bad_choice_value_is_first values Front _ _ (sym c.text_of-7.ensures) before_front c.in_err-front.ensures.err)

-- `store` and `fits` name no step: a wrong value there leaves the goal open
pub returns-clause-ok : goal.returns-clause-ok
returns-clause-ok c =
    let running = c.in_ok-running.ensures.ok in
    record {
      weigh = subst (λ told. SetsWeigh told c.in_ok-weigh.weigh) c.text_of.ensures c.in_ok-weigh.ensures.ok;
      shards = subst (λ told. SetsNumber Shards told c.in_ok-shards.shards) c.text_of-2.ensures c.in_ok-shards.ensures.ok;
      capacity =
          subst (λ told. SetsNumber Capacity told c.in_ok-capacity.capacity) c.text_of-3.ensures c.in_ok-capacity.ensures.ok;
      phi = subst (λ told. SetsNumber Phi told c.in_ok-phi.phi) c.text_of-4.ensures c.in_ok-phi.ensures.ok;
      deal = subst (λ told. SetsDeal told c.in_ok-deal.deal) c.text_of-5.ensures c.in_ok-deal.ensures.ok;
      block = running.block;
      workers = running.workers;
      callers = running.callers;
      rounds = running.rounds;
      grain = subst (λ told. SetsGrain told c.in_ok-grain.grain) c.text_of-6.ensures c.in_ok-grain.ensures.ok;
      front = subst (λ told. SetsFront told c.in_ok-front.front) c.text_of-7.ensures c.in_ok-front.ensures.ok;
      store = search rules;
      fits = search rules;
    }
