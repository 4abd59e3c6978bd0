use Rattle.std.proofs.Common.{rules}
use Rattle.frame_records.specs.{FileGives}
use Rattle.dealt_capture.specs.{AreDealtRecords}
use Rattle.hhh_engine.proofs.CaptureReportLemmas.{capture_report_if_known}
use Rattle.hhh_engine.proofs.commands.report.read_dealt.Goals as goal

pub returns-clause-dealt : goal.returns-clause-dealt
returns-clause-dealt g c =
    let records = c.in_ok-records.records in
    let read = c.in_ok-records.ensures.records in
    let settings = c.args.settings.now in
    record {
      records = records;
      dealt = capture_report_if_known _ (λ file. FileGives settings.front file read.frames records.cut)
          (λ file. AreDealtRecords settings _ file records c.in_ok-dealt.dealt)
          (λ file gives. record {
            frames = read.frames;
            capture = gives;
            are_records = read.are;
            dealt = c.in_ok-dealt.ensures.dealt;
          }) read.told;
      as_many = c.in_ok-dealt.ensures.shards;
      is_tail = search rules;
    }

pub returns-clause-shards : goal.returns-clause-shards
returns-clause-shards g c =
    c.in_ok-dealt.ensures.shards

pub returns-clause-told : goal.returns-clause-told
returns-clause-told g c = λ other. c.in_ok-records.ensures.told (λ no. cc no)
