use Rattle.hhh_engine.proofs.MadeCaptureLemmas.{made_capture_has_values, made_capture_values}
use Rattle.hhh_engine.proofs.MadeCaptureLemmas.{made_capture_value_count}
use Rattle.hhh_engine.proofs.laws.made_captures_are_captures.Goals as goal

pub returns : goal.returns
returns c = λ seed count few.
    (made_capture_values seed 0 count, made_capture_has_values seed count few, made_capture_value_count seed count)
