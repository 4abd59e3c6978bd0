use Rattle.std.proofs.Common.{arith}
use Rattle.outside_io.proofs.SentTextLemmas.{more_of_text_is_sent}
use Rattle.outside_io.proofs.writing.write_all.Goals as goal

pub loop-rest-preserved : goal.loop-rest-preserved
loop-rest-preserved g c = record {
  sent = more_of_text_is_sent _ _ _ _ _ _ c.loop-rest.invariant.sent c.in_ok-count.ensures.appended _ c.split_at.ensures.back;
  kept = omega (arith, c.loop-rest.invariant.kept, c.in_ok-count.ensures.cause.kept);
}
