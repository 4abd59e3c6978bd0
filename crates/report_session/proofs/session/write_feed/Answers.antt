use Rattle.std.proofs.Common.{◌++◌, [], ◌∷◌, refl, ap}
use Rattle.std.proofs.lemmas.Option.{IfSome_then}
use Rattle.report_session.specs.Saving.{Saves, SavesInPart}
use Rattle.report_session.specs.Session.{session_parts, saved_cuts}
use Rattle.report_session.proofs.FeedFaultLemmas.{feed_fault_after_good_steps, feed_fault_of_sink}
use Rattle.report_session.proofs.LastSaveLemmas.{last_save_after_fewer_saves, last_save_is_possible}
use Rattle.report_session.proofs.LastSaveLemmas.{last_save_broken_off, last_save_completes_session}
use Rattle.report_session.proofs.SaveLemmas.{no_save_into_untouched_disk, part_of_saves, saves_follow}
use Rattle.report_session.proofs.SessionThreadLemmas.{session_thread_on_err}
use Rattle.report_session.proofs.SessionTextLemmas.{session_text_of_fed_rounds, session_text_breaks_in_line}
use Rattle.report_session.proofs.SessionTextLemmas.{session_text_breaks_in_rounds, session_text_breaks_in_rest}
use Rattle.report_session.proofs.SessionTextLemmas.{session_text_is_written, session_text_is_spelled}
use Rattle.report_session.proofs.session.write_feed.Goals as goal

pub feed-requires-clause-can_save : goal.feed-requires-clause-can_save
feed-requires-clause-can_save g c = λ lifetimes outlive.
    last_save_after_fewer_saves _ _ c.args.opened.board.opening _ _ c.args.setup.now.settings.now.rounds c.args.saver c.requires.opened.view
    c.requires.can_save

pub returns-in-Err-clause-part : goal.returns-in-Err-clause-part
returns-in-Err-clause-part g c =
    session_text_breaks_in_line c.args.opened.board.opening c.args.setup.now.settings.now _ c.args.tail.now c.args.line.now _ _ c.requires.line
    c.in-Err.ensures.beginning (no_save_into_untouched_disk g.D.Disk c.args.saver c.args.disk.now
    c.args.disk.now g.met.D.Disk.only_now
    (IfSome_then c.args.saver c.requires.can_save (λ saver can. can.stands)) refl)

pub returns-in-Err-clause-fault : goal.returns-in-Err-clause-fault
returns-in-Err-clause-fault g c = feed_fault_of_sink _ _ _ _ _ c.in-Err.status c.in-Err.ensures.fault refl refl

pub returns-in-Err-feed-clause-part : goal.returns-in-Err-feed-clause-part
returns-in-Err-feed-clause-part g c =
    session_text_breaks_in_rounds c.args.opened.board.opening c.args.setup.now.settings.now _ c.args.tail.now c.args.line.now _ _ _
    c.requires.line c.in_default.ensures.whole c.in-Err-feed.ensures.part

pub returns-in-Err-feed-clause-fault : goal.returns-in-Err-feed-clause-fault
returns-in-Err-feed-clause-fault g c =
    feed_fault_after_good_steps _ _ _ c.in-Err-feed.status
    (ap (λ n. record { sink = n; disk = g.D.Disk.faults c.args.disk.now }) c.in_default.ensures.faults)
    c.in-Err-feed.ensures.fault

pub returns-in_err-rest-clause-part : goal.returns-in_err-rest-clause-part
returns-in_err-rest-clause-part g c =
    session_thread_on_err c.from_residual.result _
    (session_text_breaks_in_rounds c.args.opened.board.opening c.args.setup.now.settings.now _ c.args.tail.now c.args.line.now _ _ _
    c.requires.line c.in_default.ensures.whole
    (session_text_of_fed_rounds c.args.opened.board c.args.setup.now.settings.now _
    (SavesInPart g.D.Disk c.args.saver c.args.disk.now c.feed.new.disk) _ _ c.in-Ok.fed
    (λ cuts saves. part_of_saves g.D.Disk _ _ _ cuts saves.saves) c.in-Ok.ensures.fed))

pub write_rest-requires : goal.write_rest-requires
write_rest-requires g c =
    last_save_is_possible g.D.Disk c.args.opened.board
    c.args.setup.now.settings.now c.in-Ok.fed.gathered.called.items c.args.tail.now c.in_ok-rest.rest
    c.in-Ok.ensures.fed.gathered.rounds c.args.saver c.feed.new.saver c.args.disk.now c.feed.new.disk c.requires.can_save
    c.requires.used c.requires.starts c.in-Ok.ensures.fed.gathered.are_rounds c.in-Ok.ensures.fed.gathered.kept
    c.in_ok-rest.ensures.rest c.in_ok-rest.ensures.shape

pub returns-in-Ok-write_rest-clause-whole : goal.returns-in-Ok-write_rest-clause-whole
returns-in-Ok-write_rest-clause-whole g c =
    let board = c.args.opened.board in
    let settings = c.args.setup.now.settings.now in
    let gathered = c.in-Ok.ensures.fed.gathered in
    let rest = c.in_ok-rest.rest in
    let end = c.in_ok-rest.ensures.rest in
    let kept = last_save_completes_session g.D.Disk board.opening
    settings.store gathered.rounds end.last rest.cut c.args.saver c.write_rest.new.saver c.args.disk.now
    c.write_rest.new.disk c.requires.used end.cut_is (saves_follow c.stores_open_to_one.ensures g.D.Disk
    g.met.D.Disk.reading_is_image c.args.saver c.feed.new.saver c.write_rest.new.saver
    (saved_cuts settings.store board.opening gathered.rounds) (rest.cut ∷ []) c.args.disk.now c.feed.new.disk
    c.write_rest.new.disk (IfSome_then c.args.saver c.requires.can_save (λ saver can. can.fits.settings))
    gathered.kept c.in-Ok-write_rest.ensures.saved) in
    session_text_is_written board.opening settings (λ cuts. Saves g.D.Disk c.args.saver cuts
    c.args.disk.now c.write_rest.new.disk) c.args.tail.now c.args.line.now
    (session_parts settings.store gathered.rounds) (rest.front.items ++ rest.back.items) _ _ _ _
    (session_text_is_spelled board settings _ _ c.args.tail.now c.args.line.now _ _ c.in-Ok.fed rest c.requires.starts
    c.requires.line c.in-Ok.ensures.fed end kept)
    c.in_default.ensures.whole gathered.written c.in-Ok-write_rest.ensures.whole

pub returns-clause-part : goal.returns-clause-part
returns-clause-part g c =
    let board = c.args.opened.board in
    let settings = c.args.setup.now.settings.now in
    let gathered = c.in-Ok.ensures.fed.gathered in
    let rest = c.in_ok-rest.rest in
    let end = c.in_ok-rest.ensures.rest in
    session_text_breaks_in_rest board settings _ (SavesInPart g.D.Disk c.feed.new.saver c.feed.new.disk
    c.write_rest.new.disk) _ c.args.tail.now c.args.line.now _ _ _ _ c.in-Ok.fed rest c.requires.starts c.requires.line
    c.in-Ok.ensures.fed end c.in_default.ensures.whole (last_save_broken_off c.stores_open_to_one.ensures g.D.Disk
    board.opening settings.store gathered.rounds end.last rest.cut c.args.saver c.feed.new.saver c.args.disk.now
    c.feed.new.disk c.write_rest.new.disk c.requires.used end.cut_is
    (IfSome_then c.args.saver c.requires.can_save (λ saver can. can.fits.settings)) g.met.D.Disk.reading_is_image gathered.kept)
    c.in-Err-write_rest.ensures.part
