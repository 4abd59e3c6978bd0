use Rattle.std.proofs.Common.{arith}
use Rattle.std.proofs.lemmas.Result.{err_from_is_err_and}
use Rattle.checkpoint.proofs.BodyPartLemmas.{body_parts_are_long, body_has_head_parts, body_has_front_part}
use Rattle.checkpoint.proofs.BodyPartLemmas.{body_has_sequence_part}
use Rattle.checkpoint.proofs.DecodeFaultLemmas.{decode_fault_is_same}
use Rattle.checkpoint.specs.Header.{settings_shape}
use Rattle.checkpoint.proofs.decoding.decode.Goals as goal

pub returns-then-bytes-lt48-clause-damaged : goal.returns-then-bytes-lt48-clause-damaged
returns-then-bytes-lt48-clause-damaged c = λ is saved body.
    absurd (omega (arith, (body_parts_are_long c.args.settings.now.shards (settings_shape c.args.settings.now) saved c.args.bytes.now body).0))

pub returns-then-length-bytes-clause-damaged : goal.returns-then-length-bytes-clause-damaged
returns-then-length-bytes-clause-damaged c = λ is saved body.
    let front = body_has_front_part c.args.settings.now.shards (settings_shape c.args.settings.now) saved c.args.bytes.now c.first_number-length.result.1.now
    c.first_number-length.result.0 (omega arith) (omega arith) c.first_number-length.ensures.spelled body in
    c.if-length-bytes.true front.count_is

pub returns-then-sequence-lt1-clause-damaged : goal.returns-then-sequence-lt1-clause-damaged
returns-then-sequence-lt1-clause-damaged c = λ is saved body.
    let front = body_has_front_part c.args.settings.now.shards (settings_shape c.args.settings.now) saved c.args.bytes.now c.first_number-length.result.1.now
    c.first_number-length.result.0 (omega arith) (omega arith) c.first_number-length.ensures.spelled body in
    let sequence = body_has_sequence_part c.args.settings.now.shards (settings_shape c.args.settings.now) saved c.first_number-length.result.1.now
    c.first_number-sequence.result.1.now c.first_number-sequence.result.0 (omega arith) body.is_saved front.after_is
    c.first_number-sequence.ensures.spelled in
    absurd (omega (arith, sequence.0, body.is_saved.sequenced))

pub returns-then-sequence-gt-LAST_SEQUENCE-clause-damaged : goal.returns-then-sequence-gt-LAST_SEQUENCE-clause-damaged
returns-then-sequence-gt-LAST_SEQUENCE-clause-damaged c = λ is saved body.
    let front = body_has_front_part c.args.settings.now.shards (settings_shape c.args.settings.now) saved c.args.bytes.now c.first_number-length.result.1.now
    c.first_number-length.result.0 (omega arith) (omega arith) c.first_number-length.ensures.spelled body in
    let sequence = body_has_sequence_part c.args.settings.now.shards (settings_shape c.args.settings.now) saved c.first_number-length.result.1.now
    c.first_number-sequence.result.1.now c.first_number-sequence.result.0 (omega arith) body.is_saved front.after_is
    c.first_number-sequence.ensures.spelled in
    absurd (omega (arith, sequence.0, body.is_saved.early))

pub returns-in_err-cut-clause-damaged : goal.returns-in_err-cut-clause-damaged
returns-in_err-cut-clause-damaged c =
    let p = err_from_is_err_and c.from_residual.result c.from_residual.ensures.1 in
    rw (p.1, p.2) (λ is saved body.
    let front = body_has_front_part c.args.settings.now.shards (settings_shape c.args.settings.now) saved c.args.bytes.now c.first_number-length.result.1.now
    c.first_number-length.result.0 (omega arith) (omega arith) c.first_number-length.ensures.spelled body in
    let head = body_has_head_parts c.args.settings.now.shards (settings_shape c.args.settings.now) saved c.first_number-length.result.1.now
    c.first_number-sequence.result.1.now c.first_digest.result.1.now c.first_digest.result.0 c.first_number-sequence.result.0 (omega arith)
    body.is_saved front.after_is c.first_number-sequence.ensures.spelled (omega arith) c.first_digest.ensures.spelled in
    c.in_err-cut.ensures.damaged (decode_fault_is_same _ _ is) saved.cut.shards head.shards_begin)
