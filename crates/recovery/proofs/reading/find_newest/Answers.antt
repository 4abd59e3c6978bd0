use Rattle.std.proofs.Common.{◌∙◌}
use Rattle.std.proofs.lemmas.Result.{err_from_is_err_and}
use Rattle.slot_disk.specs.{MatchesKnown-unchanged}
use Rattle.recovery.proofs.FaultCountLemmas.{fault_count_rises, fault_count_rose, fault_is_same, fault_of_front_is_refused}
use Rattle.recovery.proofs.FoundStoreLemmas.{found_store_after_reads, found_store_fault_at_zero, found_store_fault_at_one}
use Rattle.recovery.proofs.FoundStoreLemmas.{found_store_has_header, found_store_holds_both, found_store_is_newest_save}
use Rattle.recovery.proofs.reading.find_newest.Goals as goal

pub returns-in_err-front-clause-refused : goal.returns-in_err-front-clause-refused
returns-in_err-front-clause-refused g c =
    let p = err_from_is_err_and c.from_residual.result c.from_residual.ensures.1 in
    rw (p.1, p.2) (λ image is. fault_of_front_is_refused c.args.settings.now image c.in_err-front.field-0.0 (c.in_err-front.ensures.refused image is))

pub returns-in_err-front-clause-reads : goal.returns-in_err-front-clause-reads
returns-in_err-front-clause-reads g c = c.in_err-front.ensures.reads

pub returns-in_err-front-clause-any_moment : goal.returns-in_err-front-clause-any_moment
returns-in_err-front-clause-any_moment g c = c.in_err-front.ensures.any_moment

pub returns-in_err-front-clause-later : goal.returns-in_err-front-clause-later
returns-in_err-front-clause-later g c = c.in_err-front.ensures.later

pub returns-in_err-front-clause-fault : goal.returns-in_err-front-clause-fault
returns-in_err-front-clause-fault g c =
    let p = err_from_is_err_and c.from_residual.result c.from_residual.ensures.1 in
    rw (p.1, p.2) (λ is. c.in_err-front.ensures.fault (fault_is_same _ _ is))

pub returns-in_err-front-clause-no_fault : goal.returns-in_err-front-clause-no_fault
returns-in_err-front-clause-no_fault g c =
    let p = err_from_is_err_and c.from_residual.result c.from_residual.ensures.1 in
    rw (p.1, p.2) (λ none. c.in_err-front.ensures.no_fault (λ is. none (fault_is_same _ _ is)))

pub returns-in_err-first-clause-refused : goal.returns-in_err-first-clause-refused
returns-in_err-first-clause-refused g c =
    let p = err_from_is_err_and c.from_residual-in_err-first.result c.from_residual-in_err-first.ensures.1 in
    rw (p.1, p.2) (λ image is.
    let store = c.in_ok-front.ensures.stands image (c.in_ok-front.ensures.reads ∙ is) in
    found_store_fault_at_zero c.args.settings.now image c.in_err-first.field-0.0
    (found_store_has_header c.args.settings.now c.in_ok-front.front.header image (c.in_ok-front.ensures.shows image is))
    (c.in_err-first.ensures.refused image (c.in_ok-front.ensures.reads ∙ is) store.slots_are))

pub returns-in_err-first-clause-reads : goal.returns-in_err-first-clause-reads
returns-in_err-first-clause-reads g c = c.in_err-first.ensures.unchanged.same_reads ∙ c.in_ok-front.ensures.reads

pub returns-in_err-first-clause-any_moment : goal.returns-in_err-first-clause-any_moment
returns-in_err-first-clause-any_moment g c =
    found_store_after_reads g.D.Disk.moment g.D.Disk.image_since g.D.Disk.image_now g.met.D.Disk.now_is_since _ _ _
    c.in_ok-front.ensures.any_moment c.in_err-first.ensures.any_moment

pub returns-in_err-first-clause-later : goal.returns-in_err-first-clause-later
returns-in_err-first-clause-later g c =
    fault_count_rises _ _ _ c.in_ok-front.ensures.later c.in_err-first.ensures.later

pub returns-in_err-first-clause-fault : goal.returns-in_err-first-clause-fault
returns-in_err-first-clause-fault g c =
    let p = err_from_is_err_and c.from_residual-in_err-first.result c.from_residual-in_err-first.ensures.1 in
    rw (p.1, p.2) (λ is.
    fault_count_rose _ _ _ (c.in_ok-front.ensures.no_fault (λ is. cc is)) (c.in_err-first.ensures.fault (fault_is_same _ _ is)))

pub returns-in_err-first-clause-no_fault : goal.returns-in_err-first-clause-no_fault
returns-in_err-first-clause-no_fault g c =
    let p = err_from_is_err_and c.from_residual-in_err-first.result c.from_residual-in_err-first.ensures.1 in
    rw (p.1, p.2) (λ none.
    c.in_err-first.ensures.no_fault (λ is. none (fault_is_same _ _ is)) ∙ c.in_ok-front.ensures.no_fault (λ is. cc is))

pub returns-in_err-second-clause-refused : goal.returns-in_err-second-clause-refused
returns-in_err-second-clause-refused g c =
    let p = err_from_is_err_and c.from_residual-in_err-second.result c.from_residual-in_err-second.ensures.1 in
    rw (p.1, p.2) (λ image is.
    let store = c.in_ok-front.ensures.stands image (c.in_ok-front.ensures.reads ∙ is) in
    found_store_fault_at_one c.args.settings.now image c.in_err-second.field-0.0
    (found_store_has_header c.args.settings.now c.in_ok-front.front.header image (c.in_ok-front.ensures.shows image is)) _
    (c.in_ok-first.ensures.holds image (c.in_ok-front.ensures.reads ∙ is) store.slots_are)
    (c.in_err-second.ensures.refused image (c.in_ok-first.ensures.unchanged.same_reads ∙ c.in_ok-front.ensures.reads ∙ is) store.slots_are))

pub returns-in_err-second-clause-reads : goal.returns-in_err-second-clause-reads
returns-in_err-second-clause-reads g c = c.in_err-second.ensures.unchanged.same_reads ∙ c.in_ok-first.ensures.unchanged.same_reads ∙ c.in_ok-front.ensures.reads

pub returns-in_err-second-clause-any_moment : goal.returns-in_err-second-clause-any_moment
returns-in_err-second-clause-any_moment g c =
    found_store_after_reads g.D.Disk.moment g.D.Disk.image_since g.D.Disk.image_now g.met.D.Disk.now_is_since _ _ _
    (found_store_after_reads g.D.Disk.moment g.D.Disk.image_since g.D.Disk.image_now g.met.D.Disk.now_is_since _ _ _
    c.in_ok-front.ensures.any_moment c.in_ok-first.ensures.any_moment) c.in_err-second.ensures.any_moment

pub returns-in_err-second-clause-later : goal.returns-in_err-second-clause-later
returns-in_err-second-clause-later g c =
    fault_count_rises _ _ _ c.in_ok-front.ensures.later
    (fault_count_rises _ _ _ c.in_ok-first.ensures.later c.in_err-second.ensures.later)

pub returns-in_err-second-clause-fault : goal.returns-in_err-second-clause-fault
returns-in_err-second-clause-fault g c =
    let p = err_from_is_err_and c.from_residual-in_err-second.result c.from_residual-in_err-second.ensures.1 in
    rw (p.1, p.2) (λ is.
    fault_count_rose _ _ _ (c.in_ok-first.ensures.no_fault (λ is. cc is) ∙ c.in_ok-front.ensures.no_fault (λ is. cc is))
    (c.in_err-second.ensures.fault (fault_is_same _ _ is)))

pub returns-in_err-second-clause-no_fault : goal.returns-in_err-second-clause-no_fault
returns-in_err-second-clause-no_fault g c =
    let p = err_from_is_err_and c.from_residual-in_err-second.result c.from_residual-in_err-second.ensures.1 in
    rw (p.1, p.2) (λ none.
    c.in_err-second.ensures.no_fault (λ is. none (fault_is_same _ _ is)) ∙ c.in_ok-first.ensures.no_fault (λ is. cc is)
    ∙ c.in_ok-front.ensures.no_fault (λ is. cc is))

pub returns-clause-stands : goal.returns-clause-stands
returns-clause-stands g c =
    MatchesKnown-unchanged g.D.Disk.reads g.D.Disk.image_now c.read_slot.new.disk c.read_slot-2.new.disk c.in_ok-front.front.slots
    c.in_ok-second.ensures.unchanged
    (MatchesKnown-unchanged g.D.Disk.reads g.D.Disk.image_now c.open_front.new.disk c.read_slot.new.disk c.in_ok-front.front.slots
    c.in_ok-first.ensures.unchanged c.in_ok-front.ensures.stands)

pub returns-clause-is_header : goal.returns-clause-is_header
returns-clause-is_header g c = c.in_ok-front.ensures.is_header

pub returns-clause-settings : goal.returns-clause-settings
returns-clause-settings g c = c.in_ok-front.ensures.settings

pub returns-clause-spelled : goal.returns-clause-spelled
returns-clause-spelled g c = c.in_ok-front.ensures.spelled

pub returns-clause-shows : goal.returns-clause-shows
returns-clause-shows g c = c.in_ok-front.ensures.shows

pub returns-clause-newest : goal.returns-clause-newest
returns-clause-newest g c =
    found_store_is_newest_save c.args.settings.now c.in_ok-front.front.slots c.in_ok-first.first c.in_ok-second.second c.newest_of.result
    c.in_ok-first.ensures.gate c.in_ok-second.ensures.gate c.in_ok-first.ensures.saved c.in_ok-second.ensures.saved
    c.newest_of.ensures.newest c.newest_of.ensures.slot

pub returns-clause-holds : goal.returns-clause-holds
returns-clause-holds g c = λ image is.
    let store = c.in_ok-front.ensures.stands image (c.in_ok-front.ensures.reads ∙ is) in
    found_store_holds_both c.args.settings.now c.in_ok-front.front.header image _ _ c.newest_of.result (c.in_ok-front.ensures.shows image is)
    c.in_ok-front.ensures.settings (c.in_ok-first.ensures.holds image (c.in_ok-front.ensures.reads ∙ is) store.slots_are)
    (c.in_ok-second.ensures.holds image (c.in_ok-first.ensures.unchanged.same_reads ∙ c.in_ok-front.ensures.reads ∙ is) store.slots_are)
    c.newest_of.ensures.newest c.newest_of.ensures.slot

pub returns-clause-reads : goal.returns-clause-reads
returns-clause-reads g c = c.in_ok-second.ensures.unchanged.same_reads ∙ c.in_ok-first.ensures.unchanged.same_reads ∙ c.in_ok-front.ensures.reads

pub returns-clause-any_moment : goal.returns-clause-any_moment
returns-clause-any_moment g c =
    found_store_after_reads g.D.Disk.moment g.D.Disk.image_since g.D.Disk.image_now g.met.D.Disk.now_is_since _ _ _
    (found_store_after_reads g.D.Disk.moment g.D.Disk.image_since g.D.Disk.image_now g.met.D.Disk.now_is_since _ _ _
    c.in_ok-front.ensures.any_moment c.in_ok-first.ensures.any_moment) c.in_ok-second.ensures.any_moment

pub returns-clause-later : goal.returns-clause-later
returns-clause-later g c =
    fault_count_rises _ _ _ c.in_ok-front.ensures.later
    (fault_count_rises _ _ _ c.in_ok-first.ensures.later c.in_ok-second.ensures.later)

pub returns-clause-fault : goal.returns-clause-fault
returns-clause-fault g c = λ is. absurd (cc is)

pub returns-clause-no_fault : goal.returns-clause-no_fault
returns-clause-no_fault g c = λ none.
    c.in_ok-second.ensures.no_fault (λ is. cc is) ∙ c.in_ok-first.ensures.no_fault (λ is. cc is)
    ∙ c.in_ok-front.ensures.no_fault (λ is. cc is)
