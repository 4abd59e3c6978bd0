use Rattle.std.proofs.Common.{arith}
use Rattle.system_io.proofs.WrittenLineLemmas.{more_is_written, beginning_is_written, written_on_error}
use Rattle.system_io.proofs.std_sink.StdSink.write_line.Goals as goal

pub loop-rest-preserved : goal.loop-rest-preserved
loop-rest-preserved g c = record {
  written = more_is_written _ _ _ _ _ _ c.loop-rest.invariant.written c.in_ok-count.ensures.of_stream _ c.split_at.ensures.back;
  kept = omega (arith, c.loop-rest.invariant.kept, c.in_ok-count.ensures.cause.kept);
}

pub returns-in_err-count-clause-beginning : goal.returns-in_err-count-clause-beginning
returns-in_err-count-clause-beginning g c = written_on_error c.from_residual.result
    (beginning_is_written _ _ _ _ _ c.loop-rest.invariant.written c.in_err-count.ensures.of_failed_stream)
