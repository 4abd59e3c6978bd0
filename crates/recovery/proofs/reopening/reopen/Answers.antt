use Rattle.std.proofs.Common.{◌≡◌, ◌∙◌, ℕ, List, Option, inl, inr, refl, ap, sym, subst, rules}
use Rattle.std.proofs.lemmas.Result.{err_from_is_err_and}
use Rattle.shard_state.specs.{CutValue}
use Rattle.checkpoint.specs.declared.header.StoreHeader.{StoreHeader}
use Rattle.checkpoint.specs.declared.settings.StoreSettings.{StoreSettings}
use Rattle.checkpoint.specs.{IsSafeSaver, SaverState, header_bytes, header_digest}
use Rattle.recovery.specs.Reopening.{base_positions}
use Rattle.recovery.specs.Found.{HoldsFound, base_in_parts}
use Rattle.recovery.proofs.FoundStoreLemmas.{found_store_saver_stands, list_fault_of_found_store}
use Rattle.recovery.proofs.FoundStoreLemmas.{found_store_has_digest, found_store_opens_to_base, found_store_saver_has, FoundStoreSaverHas}
use Rattle.recovery.proofs.FaultCountLemmas.{fault_of_lists_is_not_of_disk, fault_of_opening_is_of_disk, fault_of_reading_is_of_disk}
use Rattle.recovery.specs.declared.store_fault.StoreFault.TheVariants.{OutOfMemory}
use Rattle.recovery.proofs.reopening.reopen.Goals as goal

pub returns-in_err-found-clause-refused : goal.returns-in_err-found-clause-refused
returns-in_err-found-clause-refused g c =
    let p = err_from_is_err_and c.from_residual.result c.from_residual.ensures.1 in
    rw (p.1, p.2) (λ image is. inl (c.in_err-found.field-0.0, refl, c.in_err-found.ensures.refused image is))

pub returns-in_err-found-clause-reads : goal.returns-in_err-found-clause-reads
returns-in_err-found-clause-reads g c = c.in_err-found.ensures.reads

pub returns-in_err-found-clause-any_moment : goal.returns-in_err-found-clause-any_moment
returns-in_err-found-clause-any_moment g c = c.in_err-found.ensures.any_moment

pub returns-in_err-found-clause-later : goal.returns-in_err-found-clause-later
returns-in_err-found-clause-later g c = c.in_err-found.ensures.later

pub returns-in_err-found-clause-fault : goal.returns-in_err-found-clause-fault
returns-in_err-found-clause-fault g c =
    let p = err_from_is_err_and c.from_residual.result c.from_residual.ensures.1 in
    rw (p.1, p.2) (λ is. c.in_err-found.ensures.fault (fault_of_reading_is_of_disk c.in_err-found.field-0.0 is))

pub returns-in_err-found-clause-no_fault : goal.returns-in_err-found-clause-no_fault
returns-in_err-found-clause-no_fault g c =
    let p = err_from_is_err_and c.from_residual.result c.from_residual.ensures.1 in
    rw (p.1, p.2) (λ none. c.in_err-found.ensures.no_fault (λ is. none (fault_of_opening_is_of_disk c.in_err-found.field-0.0 is)))

pub returns-in_err-check_newest-clause-refused : goal.returns-in_err-check_newest-clause-refused
returns-in_err-check_newest-clause-refused g c =
    let p = err_from_is_err_and c.from_residual-in_err-check_newest.result c.from_residual-in_err-check_newest.ensures.1 in
    rw (p.1, p.2) (λ image is.
    let shows = c.in_ok-found.ensures.shows image is in
    inr (list_fault_of_found_store c.args.settings.now c.args.dealt.now image c.digest_of-digest.result c.in_ok-found.found.newest
    c.in_err-check_newest.field-0.0
    (subst (λ (h : StoreHeader). HoldsFound h c.in_ok-found.found.newest image) (sym shows.1) (c.in_ok-found.ensures.holds image is))
    (found_store_has_digest c.args.settings.now c.in_ok-found.found.front.header c.args.dealt.now image c.header.result.now
    c.digest_of-digest.result shows (c.header.ensures ∙ c.in_ok-found.ensures.spelled) c.digest_of-digest.ensures)
    c.in_err-check_newest.ensures.refused))

pub returns-in_err-check_newest-clause-reads : goal.returns-in_err-check_newest-clause-reads
returns-in_err-check_newest-clause-reads g c = c.in_ok-found.ensures.reads

pub returns-in_err-check_newest-clause-any_moment : goal.returns-in_err-check_newest-clause-any_moment
returns-in_err-check_newest-clause-any_moment g c = c.in_ok-found.ensures.any_moment

pub returns-in_err-check_newest-clause-later : goal.returns-in_err-check_newest-clause-later
returns-in_err-check_newest-clause-later g c = c.in_ok-found.ensures.later

pub returns-in_err-check_newest-clause-fault : goal.returns-in_err-check_newest-clause-fault
returns-in_err-check_newest-clause-fault g c =
    let p = err_from_is_err_and c.from_residual-in_err-check_newest.result c.from_residual-in_err-check_newest.ensures.1 in
    rw (p.1, p.2) (λ is.
    absurd (fault_of_lists_is_not_of_disk c.args.dealt.now _ c.in_ok-found.found.newest c.in_err-check_newest.field-0.0
    c.in_err-check_newest.ensures.refused is))

pub returns-in_err-check_newest-clause-no_fault : goal.returns-in_err-check_newest-clause-no_fault
returns-in_err-check_newest-clause-no_fault g c = λ none. c.in_ok-found.ensures.no_fault (λ is. cc is)

pub returns-in_err-saver-clause-refused : goal.returns-in_err-saver-clause-refused
returns-in_err-saver-clause-refused g c =
    let p = err_from_is_err_and c.from_residual-in_err-saver.result c.from_residual-in_err-saver.ensures.1 in
    rw (p.1, p.2) (λ image is. inl (OutOfMemory, refl, tt))

pub returns-in_err-saver-clause-reads : goal.returns-in_err-saver-clause-reads
returns-in_err-saver-clause-reads g c = c.in_ok-found.ensures.reads

pub returns-in_err-saver-clause-any_moment : goal.returns-in_err-saver-clause-any_moment
returns-in_err-saver-clause-any_moment g c = c.in_ok-found.ensures.any_moment

pub returns-in_err-saver-clause-later : goal.returns-in_err-saver-clause-later
returns-in_err-saver-clause-later g c = c.in_ok-found.ensures.later

pub returns-in_err-saver-clause-fault : goal.returns-in_err-saver-clause-fault
returns-in_err-saver-clause-fault g c =
    let p = err_from_is_err_and c.from_residual-in_err-saver.result c.from_residual-in_err-saver.ensures.1 in
    rw (p.1, p.2) (λ is. absurd (cc is))

pub returns-in_err-saver-clause-no_fault : goal.returns-in_err-saver-clause-no_fault
returns-in_err-saver-clause-no_fault g c = λ none. c.in_ok-found.ensures.no_fault (λ is. cc is)

pub returns-in_err-positions-clause-refused : goal.returns-in_err-positions-clause-refused
returns-in_err-positions-clause-refused g c =
    let p = err_from_is_err_and c.from_residual-in_err-positions.result c.from_residual-in_err-positions.ensures.1 in
    rw (p.1, p.2) (λ image is. inl (OutOfMemory, refl, tt))

pub returns-in_err-positions-clause-reads : goal.returns-in_err-positions-clause-reads
returns-in_err-positions-clause-reads g c = c.in_ok-found.ensures.reads

pub returns-in_err-positions-clause-any_moment : goal.returns-in_err-positions-clause-any_moment
returns-in_err-positions-clause-any_moment g c = c.in_ok-found.ensures.any_moment

pub returns-in_err-positions-clause-later : goal.returns-in_err-positions-clause-later
returns-in_err-positions-clause-later g c = c.in_ok-found.ensures.later

pub returns-in_err-positions-clause-fault : goal.returns-in_err-positions-clause-fault
returns-in_err-positions-clause-fault g c =
    let p = err_from_is_err_and c.from_residual-in_err-positions.result c.from_residual-in_err-positions.ensures.1 in
    rw (p.1, p.2) (λ is. absurd (cc is))

pub returns-in_err-positions-clause-no_fault : goal.returns-in_err-positions-clause-no_fault
returns-in_err-positions-clause-no_fault g c = λ none. c.in_ok-found.ensures.no_fault (λ is. cc is)

pub returns-clause-opens : goal.returns-clause-opens
returns-clause-opens g c = λ image is.
    let shows = c.in_ok-found.ensures.shows image is in
    found_store_opens_to_base c.args.settings.now c.args.dealt.now image c.digest_of-digest.result c.in_ok-found.found.newest c.into_base.result
    (subst (λ (h : StoreHeader). HoldsFound h c.in_ok-found.found.newest image) (sym shows.1) (c.in_ok-found.ensures.holds image is))
    (found_store_has_digest c.args.settings.now c.in_ok-found.found.front.header c.args.dealt.now image c.header.result.now
    c.digest_of-digest.result shows (c.header.ensures ∙ c.in_ok-found.ensures.spelled) c.digest_of-digest.ensures)
    c.in_ok-check_newest.ensures.accepted c.into_base.ensures

pub returns-clause-stands : goal.returns-clause-stands
returns-clause-stands g c = λ image is.
    subst (λ (s : SaverState). IsSafeSaver s (g.D.Disk.image_now c.find_newest.new.disk) image) (sym c.in_ok-saver.ensures)
    (found_store_saver_stands c.in_ok-found.found.front.header c.in_ok-found.found.front.slots c.digest_of-digest.result c.in_ok-found.found.newest
    (g.D.Disk.image_now c.find_newest.new.disk) image
    (c.in_ok-found.ensures.holds image (sym c.in_ok-found.ensures.reads ∙ is)) (c.in_ok-found.ensures.stands image is))

pub returns-clause-goes_on : goal.returns-clause-goes_on
returns-clause-goes_on g c =
    let front = c.in_ok-found.found.front in
    let saver = c.in_ok-saver.saver in
    let found = c.in_ok-found.found.newest in
    let has = subst (FoundStoreSaverHas front.header c.digest_of-digest.result found) (sym c.in_ok-saver.ensures)
    (found_store_saver_has front.header front.slots c.digest_of-digest.result found) in
    let copied : c.in_ok-positions.positions ≡ saver.positions = search rules in
    record {
      base = search rules;
      positions_are = copied ∙ has.positions_are
          ∙ ap (λ (s : StoreSettings). base_positions s (base_in_parts found)) c.in_ok-found.ensures.settings
          ∙ ap (λ (b : Option CutValue). base_positions c.args.settings.now b) (sym c.into_base.ensures);
      saver_positions = sym copied;
      saver_settings = ap (λ (h : StoreHeader). h.settings) has.header_is ∙ c.in_ok-found.ensures.settings;
      saver_digest = has.digest_is ∙ c.digest_of-digest.ensures
          ∙ ap (λ (l : List ℕ). header_digest l c.args.dealt.now)
          (c.header.ensures ∙ c.in_ok-found.ensures.spelled ∙ ap header_bytes (sym has.header_is));
      early = search rules;
    }

pub returns-clause-reads : goal.returns-clause-reads
returns-clause-reads g c = c.in_ok-found.ensures.reads

pub returns-clause-any_moment : goal.returns-clause-any_moment
returns-clause-any_moment g c = c.in_ok-found.ensures.any_moment

pub returns-clause-later : goal.returns-clause-later
returns-clause-later g c = c.in_ok-found.ensures.later

pub returns-clause-fault : goal.returns-clause-fault
returns-clause-fault g c = λ is. absurd (cc is)

pub returns-clause-no_fault : goal.returns-clause-no_fault
returns-clause-no_fault g c = λ none. c.in_ok-found.ensures.no_fault (λ is. cc is)
