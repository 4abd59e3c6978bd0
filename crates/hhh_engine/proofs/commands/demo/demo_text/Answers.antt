use Rattle.std.proofs.Common.{◌∙◌, ap, subst, sym}
use Rattle.frame_records.specs.{FileGives}
use Rattle.traffic_maker.specs.{made_capture}
use Rattle.hhh_engine.specs.Demo.{demo_text}
use Rattle.hhh_engine.proofs.DemoTextLemmas.{demo_text_if_ok_implies}
use Rattle.hhh_engine.proofs.commands.demo.demo_text.Goals as goal

pub report_all-requires-clause-shards : goal.report_all-requires-clause-shards
report_all-requires-clause-shards g c = λ κs outlives.
    c.in_ok-dealt.ensures.shards

pub returns : goal.returns
returns g c =
    let made = c.in_ok-records.ensures.records in
    demo_text_if_ok_implies c.summary.result _ _
    (λ text spelled. record {
      records = c.in_ok-records.records;
      lists = c.in_ok-dealt.dealt;
      dealt = record {
        frames = made.0;
        capture = subst (FileGives c.args.settings.now.front (made_capture c.args.seed c.args.frames) made.0) (sym made.3) made.1;
        are_records = made.2;
        dealt = c.in_ok-dealt.ensures.dealt;
      };
      report = c.in_ok-report.report;
      is_report = c.in_ok-report.ensures;
      spelled =
          spelled ∙ ap (λ count. demo_text c.args.seed c.args.frames count c.in_ok-report.report) c.len-count.ensures;
    }) c.summary.ensures
