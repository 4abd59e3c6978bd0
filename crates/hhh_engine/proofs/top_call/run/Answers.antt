use Rattle.hhh_engine.proofs.RunEndLemmas.{run_ends_by_command, run_ends_by_refusal}
use Rattle.hhh_engine.proofs.top_call.run.Goals as goal

pub returns : goal.returns
returns g c =
    run_ends_by_command g.S.Source g.T.Source g.K.Sink g.D.Disk _ _ _
    (record {
      never_both = λ front file gives fault. c.files_are_read_or_refused.ensures.never_both front file gives.0 gives.1 fault gives.2;
      one_fault = λ front file fault other. c.files_are_read_or_refused.ensures.one_fault front front file fault other;
      decided = c.openings_are_decided.ensures;
      opened = c.belonging_stores_are_opened.ensures;
      one_text_fault = c.session_texts_have_one_reading.ensures.one_fault;
      no_text_fault = c.session_texts_have_one_reading.ensures.no_fault;
      one_verdict = record {
        one_first = c.audits_find_one_report.ensures.one_first;
        never_both = c.audits_find_one_report.ensures.never_both;
      };
    }) g.met.D.Disk.only_now _ c.read_words.result c.in-Ok.command c.answer.result c.in-Ok.is c.in-Ok.ensures.ok
    c.read_words.ensures.complete c.read_words.ensures.exact c.in-Ok.ensures.limited
    (record {
      ends = c.answer.ensures.ends;
      order = c.answer.ensures.order;
      told = c.answer.ensures.told;
      unused = c.answer.ensures.unused;
      reads = c.answer.ensures.reads;
      unread = c.answer.ensures.unread;
      text_unread = c.answer.ensures.text_unread;
      fronts = c.answer.ensures.fronts;
      formats = c.answer.ensures.formats;
    })

pub returns-in-Err : goal.returns-in-Err
returns-in-Err g c =
    run_ends_by_refusal g.S.Source g.T.Source g.K.Sink g.D.Disk _ _ _ g.met.D.Disk.only_now c.read_words.result c.in-Err.refusal
    c.from.result c.in-Err.is c.from.ensures c.read_words.ensures.bad c.read_words.ensures.complete c.read_words.ensures.exact
