use Rattle.std.proofs.Common.{◌≡◌, ◌∙◌, length, inl, inr, arith}
use Rattle.slot_disk.specs.Moments.{CrashLeaves-call}
use Rattle.slot_disk.proofs.MomentLemmas.{moment_of_call_and_span, moment_unchanged_by_calls}
use Rattle.slot_disk.proofs.StoredBodyLemmas.{stored_body_is_broken, stored_body_is_whole, stored_body_number_is_read}
use Rattle.slot_disk.proofs.slots.read_length.Goals as goal

pub returns-in_err-end-clause-any_moment : goal.returns-in_err-end-clause-any_moment
returns-in_err-end-clause-any_moment g c =
    CrashLeaves-call g.D.Disk.moment g.D.Disk.image_since _ _ _ c.in_err-end.ensures.time c.in_err-end.ensures.images

pub returns-in_err-length-clause-unchanged : goal.returns-in_err-length-clause-unchanged
returns-in_err-length-clause-unchanged g c =
    moment_unchanged_by_calls g.D.Disk.reads g.D.Disk.image_now _ _ _ c.in_ok-end.ensures.unchanged c.in_err-length.ensures.unchanged

pub returns-in_err-length-clause-any_moment : goal.returns-in_err-length-clause-any_moment
returns-in_err-length-clause-any_moment g c =
    moment_of_call_and_span g.D.Disk.moment g.D.Disk.image_since g.D.Disk.image_now g.met.D.Disk.now_is_since _ _ _ _
    c.in_ok-end.ensures.time c.in_ok-end.ensures.images c.in_err-length.ensures.any_moment

pub returns-in_default-clause-unchanged : goal.returns-in_default-clause-unchanged
returns-in_default-clause-unchanged g c =
    moment_unchanged_by_calls g.D.Disk.reads g.D.Disk.image_now _ _ _ c.in_ok-end.ensures.unchanged c.in_ok-length.ensures.unchanged

pub returns-in_default-clause-any_moment : goal.returns-in_default-clause-any_moment
returns-in_default-clause-any_moment g c =
    moment_of_call_and_span g.D.Disk.moment g.D.Disk.image_since g.D.Disk.image_now g.met.D.Disk.now_is_since _ _ _ _
    c.in_ok-end.ensures.time c.in_ok-end.ensures.images c.in_ok-length.ensures.any_moment

pub returns-then-length-lt8-clause-damaged : goal.returns-then-length-lt8-clause-damaged
returns-then-length-lt8-clause-damaged g c = λ fault bytes is.
    let number =
    stored_body_number_is_read c.args.place c.in-Some.length _ bytes c.in-Some.is
    (c.in_ok-length.ensures.number bytes (c.in_ok-end.ensures.unchanged.same_reads ∙ is)) in
    stored_body_is_broken c.args.span c.args.place c.in-Some.length bytes number.1 (inl (omega arith))

pub returns-then-length-lt8-clause-unchanged : goal.returns-then-length-lt8-clause-unchanged
returns-then-length-lt8-clause-unchanged g c =
    moment_unchanged_by_calls g.D.Disk.reads g.D.Disk.image_now _ _ _ c.in_ok-end.ensures.unchanged c.in_ok-length.ensures.unchanged

pub returns-then-length-lt8-clause-any_moment : goal.returns-then-length-lt8-clause-any_moment
returns-then-length-lt8-clause-any_moment g c =
    moment_of_call_and_span g.D.Disk.moment g.D.Disk.image_since g.D.Disk.image_now g.met.D.Disk.now_is_since _ _ _ _
    c.in_ok-end.ensures.time c.in_ok-end.ensures.images c.in_ok-length.ensures.any_moment

pub returns-then-length-span-clause-damaged : goal.returns-then-length-span-clause-damaged
returns-then-length-span-clause-damaged g c = λ fault bytes is.
    let number =
    stored_body_number_is_read c.args.place c.in-Some.length _ bytes c.in-Some.is
    (c.in_ok-length.ensures.number bytes (c.in_ok-end.ensures.unchanged.same_reads ∙ is)) in
    stored_body_is_broken c.args.span c.args.place c.in-Some.length bytes number.1 (inr (inl (omega arith)))

pub returns-then-length-span-clause-unchanged : goal.returns-then-length-span-clause-unchanged
returns-then-length-span-clause-unchanged g c =
    moment_unchanged_by_calls g.D.Disk.reads g.D.Disk.image_now _ _ _ c.in_ok-end.ensures.unchanged c.in_ok-length.ensures.unchanged

pub returns-then-length-span-clause-any_moment : goal.returns-then-length-span-clause-any_moment
returns-then-length-span-clause-any_moment g c =
    moment_of_call_and_span g.D.Disk.moment g.D.Disk.image_since g.D.Disk.image_now g.met.D.Disk.now_is_since _ _ _ _
    c.in_ok-end.ensures.time c.in_ok-end.ensures.images c.in_ok-length.ensures.any_moment

pub returns-then-place-length-clause-damaged : goal.returns-then-place-length-clause-damaged
returns-then-place-length-clause-damaged g c = λ fault bytes is.
    let number =
    stored_body_number_is_read c.args.place c.in-Some.length _ bytes c.in-Some.is
    (c.in_ok-length.ensures.number bytes (c.in_ok-end.ensures.unchanged.same_reads ∙ is)) in
    stored_body_is_broken c.args.span c.args.place c.in-Some.length bytes number.1 (inr (inr (omega (arith, c.in_ok-end.ensures.length bytes is))))

pub returns-then-place-length-clause-unchanged : goal.returns-then-place-length-clause-unchanged
returns-then-place-length-clause-unchanged g c =
    moment_unchanged_by_calls g.D.Disk.reads g.D.Disk.image_now _ _ _ c.in_ok-end.ensures.unchanged c.in_ok-length.ensures.unchanged

pub returns-then-place-length-clause-any_moment : goal.returns-then-place-length-clause-any_moment
returns-then-place-length-clause-any_moment g c =
    moment_of_call_and_span g.D.Disk.moment g.D.Disk.image_since g.D.Disk.image_now g.met.D.Disk.now_is_since _ _ _ _
    c.in_ok-end.ensures.time c.in_ok-end.ensures.images c.in_ok-length.ensures.any_moment

pub returns-clause-whole : goal.returns-clause-whole
returns-clause-whole g c = λ bytes is.
    let number =
    stored_body_number_is_read c.args.place c.in-Some.length _ bytes c.in-Some.is
    (c.in_ok-length.ensures.number bytes (c.in_ok-end.ensures.unchanged.same_reads ∙ is)) in
    let end_is : c.in_ok-end.end ≡ length bytes = c.in_ok-end.ensures.length bytes is in (
      stored_body_is_whole c.args.span c.args.place c.in-Some.length bytes number.0 (omega arith) (omega arith) (omega arith) number.1,
      number.1,
    )

pub returns-clause-unchanged : goal.returns-clause-unchanged
returns-clause-unchanged g c =
    moment_unchanged_by_calls g.D.Disk.reads g.D.Disk.image_now _ _ _ c.in_ok-end.ensures.unchanged c.in_ok-length.ensures.unchanged

pub returns-clause-any_moment : goal.returns-clause-any_moment
returns-clause-any_moment g c =
    moment_of_call_and_span g.D.Disk.moment g.D.Disk.image_since g.D.Disk.image_now g.met.D.Disk.now_is_since _ _ _ _
    c.in_ok-end.ensures.time c.in_ok-end.ensures.images c.in_ok-length.ensures.any_moment
