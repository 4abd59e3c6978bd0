-- Each value that was read is good, so the first one that isn't is the first fault.
use Rattle.std.proofs.Common.{subst, sym, arith}
use Rattle.std.proofs.lemmas.Result.{err_from_is_err_and}
use Rattle.command_words.specs.Matches.{store_in, values_in}
use Rattle.command_words.specs.Settings.{SetsNumber}
use Rattle.command_words.specs.declared.opt.Opt.TheVariants.{Seed, Frames, Limit}
use Rattle.command_words.proofs.ValueLemmas.{values_before_first_are_good, values_before_next_are_good}
use Rattle.command_words.proofs.ValueLemmas.{numeric_value_is_good, bad_numeric_value_is_first}
use Rattle.command_words.proofs.OneValueFaultLemmas.{values_before_limit_have_no_fault}
use Rattle.command_words.proofs.values.given_of.Goals as goal

pub returns-in_err-seed-clause-err : goal.returns-in_err-seed-clause-err
returns-in_err-seed-clause-err c =
    let values = values_in c.args.matches.now in
    let p = err_from_is_err_and c.from_residual.result c.from_residual.ensures.1 in
    rw (p.1, p.2)
    (bad_numeric_value_is_first values Seed _ _ (sym c.text_of.ensures)
    (values_before_first_are_good values) c.in_err-seed.ensures.err)

pub returns-in_err-frames-clause-err : goal.returns-in_err-frames-clause-err
returns-in_err-frames-clause-err c =
    let values = values_in c.args.matches.now in
    let before_frames =
    values_before_next_are_good values Seed (omega arith) _ (sym c.text_of.ensures) (values_before_first_are_good values)
    (numeric_value_is_good Seed _ _ c.in_ok-seed.ensures.ok) in
    let p = err_from_is_err_and c.from_residual-in_err-frames.result c.from_residual-in_err-frames.ensures.1 in
    rw (p.1, p.2)
    (bad_numeric_value_is_first values Frames _ _ (sym c.text_of-2.ensures) before_frames c.in_err-frames.ensures.err)

pub options_of-requires : goal.options_of-requires
options_of-requires c =
    let values = values_in c.args.matches.now in
    let before_frames =
    values_before_next_are_good values Seed (omega arith) _ (sym c.text_of.ensures) (values_before_first_are_good values)
    (numeric_value_is_good Seed _ _ c.in_ok-seed.ensures.ok) in
    values_before_next_are_good values Frames (omega arith) _ (sym c.text_of-2.ensures) before_frames
    (numeric_value_is_good Frames _ _ c.in_ok-frames.ensures.ok)

pub returns-in_err-limit-clause-err : goal.returns-in_err-limit-clause-err
returns-in_err-limit-clause-err c =
    let values = values_in c.args.matches.now in
    let before_limit =
    values_before_limit_have_no_fault values (store_in c.args.matches.now) c.in_ok-seed.seed c.in_ok-frames.frames c.in_ok-settings.settings
    (subst (λ told. SetsNumber Seed told c.in_ok-seed.seed) c.text_of.ensures c.in_ok-seed.ensures.ok)
    (subst (λ told. SetsNumber Frames told c.in_ok-frames.frames) c.text_of-2.ensures c.in_ok-frames.ensures.ok)
    c.in_ok-settings.ensures.ok in
    let p = err_from_is_err_and c.from_residual-in_err-limit.result c.from_residual-in_err-limit.ensures.1 in
    rw (p.1, p.2)
    (bad_numeric_value_is_first values Limit _ _ (sym c.text_of-3.ensures) before_limit c.in_err-limit.ensures.err)
