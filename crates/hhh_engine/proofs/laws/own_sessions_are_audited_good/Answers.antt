use Rattle.std.proofs.Common.{ap, sym}
use Rattle.session_audit.specs.{sound_audit}
use Rattle.dealt_capture.specs.{rules_by}
use Rattle.hhh_engine.proofs.OwnSessionLemmas.{own_session_is_dealt_alike, own_session_is_sound_alike}
use Rattle.report_text.specs.{IsSessionText}
use Rattle.std.proofs.Common.{subst}
use Rattle.hhh_engine.proofs.laws.own_sessions_are_audited_good.Goals as goal

pub returns-clause-is_text : goal.returns-clause-is_text
returns-clause-is_text g c = λ formula before now settings store file text is limited represents.
    let known = c.sessions_read_back.ensures formula before now settings store file text is limited represents in (known.0, known.1)

pub returns-clause-good : goal.returns-clause-good
returns-clause-good g c = λ formula before now settings other store file text is limited grain shards capacity phi deal weigh
    front short represents.
    let known = c.sessions_read_back.ensures formula before now settings store file text is limited represents in
    record {
      lists = is.lists;
      session = known.0;
      audited = record {
        records = is.records;
        dealt = own_session_is_dealt_alike settings other (rules_by formula) file is.records is.lists shards deal weigh
            front is.dealt;
        is_session = subst (λ g. IsSessionText g text known.0) grain known.1;
        not_long = short;
      };
      sound = own_session_is_sound_alike settings other is.lists known.0.reports grain capacity phi known.2;
      spelled = ap sound_audit (sym known.3);
    }
