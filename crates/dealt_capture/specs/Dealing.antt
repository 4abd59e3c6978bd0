-- The records of a capture, dealt to shards.
use Rattle.std.specs.Prelude.{ℕ, ◌≡◌, Bool, List, Option}
use Rattle.prefix_lattice.specs.{RecordValue}
use Rattle.deal_rules.specs.{IsDealing}
use Rattle.deal_rules.specs.declared.deal_kind.DealKind.{DealKind}
use Rattle.pcap_frames.specs.{FrameValue}
use Rattle.frame_records.specs.{FileGives, AreRecordsOf}
use Rattle.frame_records.specs.declared.records.Records.{Records}
use Rattle.command_words.specs.declared.settings.Settings.{Settings}

-- the file gives some frames: it is a whole capture, or a cut one of which the front is asked for
abbrev pub IsCaptureFile : Bool → List ℕ → Type 0
IsCaptureFile front file = (frames : List FrameValue) × (cut : Option ℕ) × FileGives front file frames cut

-- what the dealer of each kind may answer when asked about the index of a record, the record, and the number of shards
abbrev pub DealingRules : Type 1
DealingRules = DealKind → ℕ → RecordValue → ℕ → ℕ → Type 0

-- the rules that follow a formula for each kind of dealing, which gives each record one shard number
abbrev pub rules_by : (DealKind → ℕ → RecordValue → ℕ → ℕ) → DealingRules
rules_by formula kind place rec shards number = number ≡ formula kind place rec shards

-- the records of a capture, up to its cut if it has one, weighed and dealt to the shards as the settings ask
pub record AreDealtRecords (settings : Settings) (rules : DealingRules) (file : List ℕ) (records : Records)
    (lists : List (List RecordValue)) : Type 0 where
  pub frames : List FrameValue
  pub capture : FileGives settings.front file frames records.cut
  pub are_records : AreRecordsOf settings.weigh frames records
  pub dealt : IsDealing settings.deal (rules settings.deal) settings.shards records.list lists
