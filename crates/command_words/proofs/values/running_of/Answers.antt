-- Each value that was read is good, so the first one that isn't is the first fault.
use Rattle.std.proofs.Common.{sym, arith}
use Rattle.std.proofs.lemmas.Result.{err_from_is_err_and}
use Rattle.command_words.specs.Matches.{values_in}
use Rattle.command_words.specs.declared.opt.Opt.TheVariants.{Block, Workers, Callers, Rounds}
use Rattle.command_words.proofs.ValueLemmas.{values_before_next_are_good, numeric_value_is_good}
use Rattle.command_words.proofs.ValueLemmas.{bad_numeric_value_is_first}
use Rattle.command_words.proofs.values.running_of.Goals as goal

pub returns-in_err-block-clause-err : goal.returns-in_err-block-clause-err
returns-in_err-block-clause-err c =
    let values = values_in c.args.matches.now in
    let p = err_from_is_err_and c.from_residual.result c.from_residual.ensures.1 in
    rw (p.1, p.2)
    (bad_numeric_value_is_first values Block _ _ (sym c.text_of.ensures) c.requires c.in_err-block.ensures.err)

pub returns-in_err-workers-clause-err : goal.returns-in_err-workers-clause-err
returns-in_err-workers-clause-err c =
    let values = values_in c.args.matches.now in
    let before_workers =
    values_before_next_are_good values Block (omega arith) _ (sym c.text_of.ensures) c.requires
    (numeric_value_is_good Block _ _ c.in_ok-block.ensures.ok) in
    let p = err_from_is_err_and c.from_residual-in_err-workers.result c.from_residual-in_err-workers.ensures.1 in
    rw (p.1, p.2)
    (bad_numeric_value_is_first values Workers _ _ (sym c.text_of-2.ensures) before_workers c.in_err-workers.ensures.err)

pub returns-in_err-callers-clause-err : goal.returns-in_err-callers-clause-err
returns-in_err-callers-clause-err c =
    let values = values_in c.args.matches.now in
    let before_workers =
    values_before_next_are_good values Block (omega arith) _ (sym c.text_of.ensures) c.requires
    (numeric_value_is_good Block _ _ c.in_ok-block.ensures.ok) in
    let before_callers =
    values_before_next_are_good values Workers (omega arith) _ (sym c.text_of-2.ensures) before_workers
    (numeric_value_is_good Workers _ _ c.in_ok-workers.ensures.ok) in
    let p = err_from_is_err_and c.from_residual-in_err-callers.result c.from_residual-in_err-callers.ensures.1 in
    rw (p.1, p.2)
    (bad_numeric_value_is_first values Callers _ _ (sym c.text_of-3.ensures) before_callers c.in_err-callers.ensures.err)

pub returns-in_err-rounds-clause-err : goal.returns-in_err-rounds-clause-err
returns-in_err-rounds-clause-err c =
    let values = values_in c.args.matches.now in
    let before_workers =
    values_before_next_are_good values Block (omega arith) _ (sym c.text_of.ensures) c.requires
    (numeric_value_is_good Block _ _ c.in_ok-block.ensures.ok) in
    let before_callers =
    values_before_next_are_good values Workers (omega arith) _ (sym c.text_of-2.ensures) before_workers
    (numeric_value_is_good Workers _ _ c.in_ok-workers.ensures.ok) in
    let before_rounds =
    values_before_next_are_good values Callers (omega arith) _ (sym c.text_of-3.ensures) before_callers
    (numeric_value_is_good Callers _ _ c.in_ok-callers.ensures.ok) in
    let p = err_from_is_err_and c.from_residual-in_err-rounds.result c.from_residual-in_err-rounds.ensures.1 in
    rw (p.1, p.2)
    (bad_numeric_value_is_first values Rounds _ _ (sym c.text_of-4.ensures) before_rounds c.in_err-rounds.ensures.err)

pub returns-clause-good : goal.returns-clause-good
returns-clause-good c =
    let values = values_in c.args.matches.now in
    let before_workers =
    values_before_next_are_good values Block (omega arith) _ (sym c.text_of.ensures) c.requires
    (numeric_value_is_good Block _ _ c.in_ok-block.ensures.ok) in
    let before_callers =
    values_before_next_are_good values Workers (omega arith) _ (sym c.text_of-2.ensures) before_workers
    (numeric_value_is_good Workers _ _ c.in_ok-workers.ensures.ok) in
    let before_rounds =
    values_before_next_are_good values Callers (omega arith) _ (sym c.text_of-3.ensures) before_callers
    (numeric_value_is_good Callers _ _ c.in_ok-callers.ensures.ok) in
    values_before_next_are_good values Rounds (omega arith) _ (sym c.text_of-4.ensures) before_rounds
    (numeric_value_is_good Rounds _ _ c.in_ok-rounds.ensures.ok)
