use Rattle.report_session.proofs.KeptStoreLemmas.{KeptStoreTexts, kept_store_after_part, kept_store_after_session}
use Rattle.report_session.proofs.KeptStoreLemmas.{kept_store_as_before}
use Rattle.report_session.proofs.laws.sessions_keep_their_store.Goals as goal

pub returns : goal.returns
returns g c =
    let law = c.texts_show_saves.ensures in
    let texts : KeptStoreTexts = record {
      report = law.report;
      opened = law.opened;
      saved = law.saved;
      line = law.line;
      tail = law.tail;
      front = law.front;
      unfinished = law.unfinished;
    } in
    record {
      whole = λ old new settings. kept_store_after_session c.stores_open_to_one.ensures texts g.D.Disk _ settings old new;
      in_part = λ old new settings.
          kept_store_after_part c.stores_open_to_one.ensures texts g.D.Disk g.met.D.Disk.reading_is_image _ settings old new;
      as_before = λ old new settings. kept_store_as_before g.D.Disk g.met.D.Disk.now_is_since settings old new;
    }
