-- The frames that the front of a file completes.
use Rattle.std.proofs.Common.{ℕ, ◌≡◌, List, inl, inr}
use Rattle.pcap_frames.specs.Frame.{FrameValue}
use Rattle.pcap_frames.specs.CaptureFormat.{Format, Completes}
use Rattle.pcap_frames.specs.Decided.{IsDecided}

-- there are some
pub completed_front : (format : Format) → IsDecided format → (front : List ℕ) → (frames : List FrameValue) × Completes format front frames
completed_front format decided front = elim (decided.either front) [
  | inl capture ↦ (capture.0, inl capture.1)
  | inr fault ↦ (fault.1.0, inr (fault.0, fault.1.1))
]

-- and no others
pub completed_front_is_one : (format : Format) → IsDecided format → (front : List ℕ) (frames others : List FrameValue)
    → Completes format front frames → Completes format front others → others ≡ frames
completed_front_is_one format decided front frames others (inl here) (inl there) = decided.one_list front frames others here there
completed_front_is_one format decided front frames others (inl here) (inr there) =
    absurd (decided.never_both front frames there.0 here (others, there.1))
completed_front_is_one format decided front frames others (inr here) (inl there) =
    absurd (decided.never_both front others here.0 there (frames, here.1))
completed_front_is_one format decided front frames others (inr here) (inr there) =
    decided.one_before front frames others here.0 there.0 here.1 there.1
