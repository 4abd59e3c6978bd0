-- What a crash at some moment of a call may leave.
use Rattle.std.specs.Prelude.{ℕ, ◌≡◌, ◌≤◌, ◌⊎◌, ◌↔◌, Option, List}
use Rattle.std.proofs.Common.{inl, inr, ⊎_elim, arith}

-- Time goes on: an image since an earlier moment was one since that moment as the call began, or is one since its start.
pub record MomentsGoOn {D : Type 0} (moment : D → ℕ) (image_since : D → ℕ → List ℕ → Type 0) (old new : D) : Type 0 where
  pub later : moment old ≤ moment new
  pub earlier : (t : ℕ) (image : List ℕ) → t ≤ moment old → image_since new t image
      → image_since old t image ⊎ image_since new (moment old) image

-- A crash at any moment of a call leaves an image with P. For a span that begins earlier, the call adds only images with P.
pub record CrashLeaves {D : Type 0} (moment : D → ℕ) (image_since : D → ℕ → List ℕ → Type 0) (old new : D)
    (P : List ℕ → Type 0) : Type 0 where
  pub later : moment old ≤ moment new
  pub each : (image : List ℕ) → image_since new (moment old) image → P image
  pub earlier : (t : ℕ) (image : List ℕ) → t ≤ moment old → image_since new t image → image_since old t image ⊎ P image

-- a call changed neither what a read gives nor the images
pub record IsUnchangedAt {D : Type 0} (reads : D → Option (List ℕ)) (image_now : D → List ℕ → Type 0) (old new : D) : Type 0
  where
    pub same_reads : reads new ≡ reads old
    pub same_images : (image : List ℕ) → image_now new image ↔ image_now old image

-- before the first call
pub CrashLeaves-none : {D : Type 0} (moment : D → ℕ) (image_since : D → ℕ → List ℕ → Type 0) (disk : D) (P : List ℕ → Type 0)
    → ((image : List ℕ) → image_since disk (moment disk) image → P image) → CrashLeaves moment image_since disk disk P
CrashLeaves-none moment image_since disk P here = record { later = omega arith; each = here; earlier = λ t image le was. inl was }

-- one call of a disk
pub CrashLeaves-call : {D : Type 0} (moment : D → ℕ) (image_since : D → ℕ → List ℕ → Type 0) (old new : D) (P : List ℕ → Type 0)
    → MomentsGoOn moment image_since old new → ((image : List ℕ) → image_since new (moment old) image → P image)
    → CrashLeaves moment image_since old new P
CrashLeaves-call moment image_since old new P time each = record {
  later = time.later;
  each = each;
  earlier = λ t image le was. ⊎_elim (λ before. inl before) (λ now. inr (each image now)) (time.earlier t image le was);
}

-- two spans, one after the other
pub CrashLeaves-trans : {D : Type 0} (moment : D → ℕ) (image_since : D → ℕ → List ℕ → Type 0) (old mid new : D)
    (P : List ℕ → Type 0) → CrashLeaves moment image_since old mid P → CrashLeaves moment image_since mid new P
    → CrashLeaves moment image_since old new P
CrashLeaves-trans moment image_since old mid new P first second = record {
  later = omega (arith, first.later, second.later);
  each = λ image was. ⊎_elim (first.each image) (λ p. p) (second.earlier (moment old) image first.later was);
  earlier = λ t image le was.
      ⊎_elim (first.earlier t image le) (λ p. inr p) (second.earlier t image (omega (arith, le, first.later)) was);
}

-- the same with a weaker property
pub CrashLeaves-weaker : {D : Type 0} (moment : D → ℕ) (image_since : D → ℕ → List ℕ → Type 0) (old new : D)
    (P Q : List ℕ → Type 0) → CrashLeaves moment image_since old new P → ((image : List ℕ) → P image → Q image)
    → CrashLeaves moment image_since old new Q
CrashLeaves-weaker moment image_since old new P Q leaves weaker = record {
  later = leaves.later;
  each = λ image was. weaker image (leaves.each image was);
  earlier = λ t image le was. ⊎_elim (λ before. inl before) (λ p. inr (weaker image p)) (leaves.earlier t image le was);
}
