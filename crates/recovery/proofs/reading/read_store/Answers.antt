use Rattle.std.proofs.Common.{sym, subst, option_map}
use Rattle.std.proofs.lemmas.Result.{err_from_is_err_and}
use Rattle.checkpoint.specs.{saved_value}
use Rattle.recovery.specs.Reading.{ReadsAs}
use Rattle.recovery.proofs.FoundStoreLemmas.{found_store_reads}
use Rattle.recovery.proofs.ReadingLemmas.{reading_must_be_answered, reading_must_be_refused}
use Rattle.recovery.proofs.reading.read_store.Goals as goal

pub returns-in_err-found-clause-must_read : goal.returns-in_err-found-clause-must_read
returns-in_err-found-clause-must_read g c =
    let p = err_from_is_err_and c.from_residual.result c.from_residual.ensures.1 in
    rw (p.1, p.2) (λ image is.
    reading_must_be_answered c.args.settings.now image _ (c.readings_are_decided.ensures c.args.settings.now image c.requires.settings) tt
    (c.in_err-found.ensures.refused image is))

pub returns-in_err-found-clause-must_refuse : goal.returns-in_err-found-clause-must_refuse
returns-in_err-found-clause-must_refuse g c =
    let p = err_from_is_err_and c.from_residual.result c.from_residual.ensures.1 in
    rw (p.1, p.2) (λ image is.
    reading_must_be_refused c.args.settings.now image _ (c.readings_are_decided.ensures c.args.settings.now image c.requires.settings) tt
    (c.in_err-found.ensures.refused image is))

pub returns-clause-opens : goal.returns-clause-opens
returns-clause-opens g c = λ image is.
    let found = c.in_ok-found.found in
    subst (λ r. ReadsAs c.args.settings.now image (option_map saved_value r)) (sym c.into_saved.ensures)
    (found_store_reads c.args.settings.now found.front.header image found.newest (c.in_ok-found.ensures.shows image is)
    (c.in_ok-found.ensures.holds image is))

pub returns-clause-must_read : goal.returns-clause-must_read
returns-clause-must_read g c = λ image is.
    reading_must_be_answered c.args.settings.now image _ (c.readings_are_decided.ensures c.args.settings.now image c.requires.settings)
    (returns-clause-opens g c image is) tt

pub returns-clause-must_refuse : goal.returns-clause-must_refuse
returns-clause-must_refuse g c = λ image is.
    reading_must_be_refused c.args.settings.now image _ (c.readings_are_decided.ensures c.args.settings.now image c.requires.settings)
    (returns-clause-opens g c image is) tt
