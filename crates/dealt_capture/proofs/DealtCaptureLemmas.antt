-- The records of a capture, and the lists to which a formula deals them, are one.
use Rattle.std.proofs.Common.{◌≡◌, ◌∙◌, ℕ, Bool, List, Option, ap₂, subst, sym}
use Rattle.prefix_lattice.specs.{RecordValue}
use Rattle.deal_rules.specs.{IsDealing}
use Rattle.deal_rules.specs.declared.deal_kind.DealKind.{DealKind}
use Rattle.pcap_frames.specs.{FrameValue}
use Rattle.frame_records.specs.{AreRecordsOf, FileGives, records_of}
use Rattle.frame_records.specs.declared.records.Records.{Records}
use Rattle.frame_records.specs.declared.weigh.Weigh.{Weigh}
use Rattle.dealt_capture.specs.Dealing.{rules_by}

-- a file gives one list of frames
abbrev pub DealtCaptureHasOneListOfFrames : Type 0
DealtCaptureHasOneListOfFrames =
    (front other : Bool) (file : List ℕ) (frames others : List FrameValue) (cut other_cut : Option ℕ)
    → FileGives front file frames cut → FileGives other file others other_cut → others ≡ frames

-- a rule that is a formula deals records in one way
abbrev pub DealtCaptureHasOneDealing : Type 0
DealtCaptureHasOneDealing =
    (kind : DealKind) (formula : ℕ → RecordValue → ℕ → ℕ) (shards : ℕ) (records : List RecordValue)
    (lists others : List (List RecordValue))
    → IsDealing kind (λ place rec shards number. number ≡ formula place rec shards) shards records lists
    → IsDealing kind (λ place rec shards number. number ≡ formula place rec shards) shards records others → lists ≡ others

-- the records of a file, in their order
pub dealt_capture_records_agree : DealtCaptureHasOneListOfFrames → (front other_front : Bool) (file : List ℕ) (weigh other : Weigh)
    (frames other_frames : List FrameValue) (records others : Records) → weigh ≡ other
    → FileGives front file frames records.cut → FileGives other_front file other_frames others.cut
    → AreRecordsOf weigh frames records → AreRecordsOf other other_frames others → records.list ≡ others.list
dealt_capture_records_agree one front other_front file weigh other frames other_frames records others same has has_other are are_other =
    are.list ∙ ap₂ records_of same (one other_front front file other_frames frames others.cut records.cut has_other has) ∙ sym are_other.list

-- the lists to which they are dealt
pub dealt_capture_lists_agree : DealtCaptureHasOneDealing → (formula : DealKind → ℕ → RecordValue → ℕ → ℕ) (kind other : DealKind) (shards other_shards : ℕ)
    (records others : List RecordValue) (lists other_lists : List (List RecordValue))
    → kind ≡ other → shards ≡ other_shards → records ≡ others
    → IsDealing kind (rules_by formula kind) shards records lists
    → IsDealing other (rules_by formula other) other_shards others other_lists → lists ≡ other_lists
dealt_capture_lists_agree one formula kind other shards other_shards records others lists other_lists same_kind same_shards same_records
    dealing dealing_other =
    one kind (formula kind) shards records lists other_lists dealing
    (subst (λ k. IsDealing k (rules_by formula k) shards records other_lists) (sym same_kind)
    (subst (λ n. IsDealing other (rules_by formula other) n records other_lists) (sym same_shards)
    (subst (λ rs. IsDealing other (rules_by formula other) other_shards rs other_lists) (sym same_records)
    dealing_other)))
