use Rattle.std.proofs.Common.{◌∙◌, inr, length, sym, ap, subst}
use Rattle.shard_state.specs.{core_shape}
use Rattle.report_text.specs.{ShowsPositions, mark_text}
use Rattle.report_text.specs.declared.mark.Mark.TheVariants.{Opened}
use Rattle.report_session.specs.Session.{WritesAnswer, BeginsSession, IsOverShards, session_start}
use Rattle.report_session.specs.DealtFeed.{IsFeedOpening, StartsBefore}
use Rattle.report_session.specs.Saving.{Saves, SavesInPart}
use Rattle.report_session.proofs.BaseLemmas.{base_goes_on, base_saver_is_ready}
use Rattle.std.proofs.lemmas.Result.{IfErr-weaker, on_ok_weaker}
use Rattle.report_session.proofs.session.write_session.Goals as goal

pub openings_stand-requires : goal.openings_stand-requires
openings_stand-requires g c =
    base_goes_on c.args.setup.now.settings.now c.args.dealt _ c.args.base.cut c.requires.limited c.requires.base.begins

pub opened_line-requires : goal.opened_line-requires
opened_line-requires g c =
    subst ShowsPositions (sym c.requires.base.positions_are) c.openings_stand.ensures.positions

pub open-requires-clause-fits : goal.open-requires-clause-fits
open-requires-clause-fits g c =
    base_goes_on c.args.setup.now.settings.now c.args.dealt _ c.args.base.cut c.requires.limited c.requires.base.begins

pub write_feed-requires-clause-opened : goal.write_feed-requires-clause-opened
write_feed-requires-clause-opened g c = λ lifetimes outlive.
    subst (λ shards. IsFeedOpening shards c.in_ok-opened.opened) (sym c.in_ok-opened.ensures.opening) c.in_ok-opened.ensures

pub write_feed-requires-clause-alike : goal.write_feed-requires-clause-alike
write_feed-requires-clause-alike g c = λ lifetimes outlive.
    ap core_shape c.in_ok-opened.ensures.opening ∙ c.openings_stand.ensures.alike

pub write_feed-requires-clause-starts : goal.write_feed-requires-clause-starts
write_feed-requires-clause-starts g c = λ lifetimes outlive.
    subst StartsBefore (sym c.in_ok-opened.ensures.opening) c.openings_stand.ensures.starts

pub write_feed-requires-clause-line : goal.write_feed-requires-clause-line
write_feed-requires-clause-line g c = λ lifetimes outlive.
    c.deref.ensures.value ∙ c.in_ok-line.ensures ∙ ap (mark_text Opened) c.requires.base.positions_are
    ∙ ap (λ shards. mark_text Opened (session_start shards)) (sym c.in_ok-opened.ensures.opening)

pub write_feed-requires-clause-can_save : goal.write_feed-requires-clause-can_save
write_feed-requires-clause-can_save g c = λ lifetimes outlive.
    let opening = c.in_ok-opened.ensures.opening in
    base_saver_is_ready c.args.setup.now.settings.now c.args.dealt _ _ c.in_ok-opened.opened.board.opening c.args.base.positions
    c.args.base.saver c.requires.limited c.requires.base.used (ap length opening ∙ c.openings_stand.ensures.many ∙ c.requires.shards)
    (ap core_shape opening ∙ c.openings_stand.ensures.alike) (c.requires.base.positions_are ∙ ap session_start (sym opening))
    c.requires.base.saver c.requires.stands

pub returns-clause-whole : goal.returns-clause-whole
returns-clause-whole g c =
    on_ok_weaker c.write_feed.result
    (subst (λ shards. WritesAnswer (IsOverShards shards c.args.setup.now.settings.now
    (λ cuts. Saves g.D.Disk c.args.base.saver cuts
    c.args.disk.now c.write_feed.new.disk) c.args.tail.now) (g.K.Sink.taken c.args.sink.now)
    (g.K.Sink.taken c.write_feed.new.sink)) c.in_ok-opened.ensures.opening) c.write_feed.ensures.whole

pub returns-clause-part : goal.returns-clause-part
returns-clause-part g c =
    IfErr-weaker c.write_feed.result _ _ (λ status part. inr (
      record {
        core = record { are_shards = c.openings_stand.ensures.shards; kept = c.in_ok-opened.ensures.kept };
        alike = c.openings_stand.ensures.alike;
      },
      subst (λ shards. WritesAnswer (BeginsSession shards c.args.setup.now.settings.now
          (SavesInPart g.D.Disk c.args.base.saver c.args.disk.now c.write_feed.new.disk) c.args.tail.now)
          (g.K.Sink.taken c.args.sink.now) (g.K.Sink.taken c.write_feed.new.sink)) c.in_ok-opened.ensures.opening part,
    )) c.write_feed.ensures.part
