-- A call, or a span of calls, after another: where it leaves no images but those that it found, both leave what the first one
-- leaves.
use Rattle.std.proofs.Common.{ℕ, List, Option, ◌≤◌, ◌∙◌}
use Rattle.slot_disk.specs.Moments.{MomentsGoOn, IsUnchangedAt}
use Rattle.slot_disk.specs.Moments.{CrashLeaves, CrashLeaves-call, CrashLeaves-trans, CrashLeaves-weaker}

module _ {D : Type 0} (moment : D → ℕ) (image_since : D → ℕ → List ℕ → Type 0) (image_now : D → List ℕ → Type 0)
    (now_is_since : (disk : D) (t : ℕ) (image : List ℕ) → t ≤ moment disk → image_now disk image → image_since disk t image)
    (old mid new : D) (P : List ℕ → Type 0) where
  moment_of_spans : CrashLeaves moment image_since old mid P → CrashLeaves moment image_since mid new (image_now mid)
      → CrashLeaves moment image_since old new P
  moment_of_spans first second =
      CrashLeaves-trans moment image_since old mid new P first
      (CrashLeaves-weaker moment image_since mid new (image_now mid) P second
      (λ image was. first.each image (now_is_since mid (moment old) image first.later was)))

  pub moment_of_span_and_call : CrashLeaves moment image_since old mid P → MomentsGoOn moment image_since mid new
      → ((image : List ℕ) → image_since new (moment mid) image → image_now mid image) → CrashLeaves moment image_since old new P
  moment_of_span_and_call first time images =
      moment_of_spans first (CrashLeaves-call moment image_since mid new (image_now mid) time images)

  pub moment_of_call_and_span : MomentsGoOn moment image_since old mid
      → ((image : List ℕ) → image_since mid (moment old) image → P image)
      → CrashLeaves moment image_since mid new (image_now mid) → CrashLeaves moment image_since old new P
  moment_of_call_and_span time images second =
      moment_of_spans (CrashLeaves-call moment image_since old mid P time images) second

  pub moment_of_calls : MomentsGoOn moment image_since old mid
      → ((image : List ℕ) → image_since mid (moment old) image → P image) → MomentsGoOn moment image_since mid new
      → ((image : List ℕ) → image_since new (moment mid) image → image_now mid image) → CrashLeaves moment image_since old new P
  moment_of_calls first_time first_images time images =
      moment_of_span_and_call (CrashLeaves-call moment image_since old mid P first_time first_images) time images

-- two calls, neither of which changed anything
pub moment_unchanged_by_calls : {D : Type 0} (reads : D → Option (List ℕ)) (image_now : D → List ℕ → Type 0) (old mid new : D)
    → IsUnchangedAt reads image_now old mid → IsUnchangedAt reads image_now mid new → IsUnchangedAt reads image_now old new
moment_unchanged_by_calls reads image_now old mid new first second = record {
  same_reads = second.same_reads ∙ first.same_reads;
  same_images = λ image. (
    λ now. (first.same_images image).0 ((second.same_images image).0 now),
    λ was. (second.same_images image).1 ((first.same_images image).1 was),
  );
}
