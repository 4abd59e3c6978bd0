-- The session that `report` writes: reports made while records are counted, and a last one over all records of a capture.
use Rattle.std.specs.Prelude.{ℕ, ◌≡◌, ◌+◌, ◌<◌, ◌≤◌, ◌⊎◌, Bool, true, false, List, [], ◌∷◌, ◌++◌, length, map, All}
use Rattle.std.specs.Prelude.{Option, None, Some, IfSome, if◌then◌else◌, slice_index, ⊤}
use Rattle.std.specs.List.{flat_map}
use Rattle.std.specs.List.Sorted.{IsNonDecreasing}
use Rattle.outside_io.specs.{IsBeginning}
use Rattle.prefix_lattice.specs.{RecordValue}
use Rattle.shard_state.specs.{BasesRepresent, CutRepresents, CutValue, ShardValue, SnapshotValue, TableShape, empty_snapshot}
use Rattle.shard_state.specs.{IsCore, core_shape, core_lists}
use Rattle.hhh_report.specs.{AreOfGrain, IsSound}
use Rattle.hhh_report.specs.declared.report.Report.{Report}
use Rattle.hhh_report.specs.declared.reports.Reported.{Reported}
use Rattle.gate_workers.specs.{IsCoreReport, cut_at}
use Rattle.frame_records.specs.declared.records.Records.{Records}
use Rattle.slot_disk.specs.{IfImageKnown}
use Rattle.checkpoint.specs.declared.settings.StoreSettings.{StoreSettings}
use Rattle.checkpoint.specs.declared.header.StoreHeader.{StoreHeader}
use Rattle.checkpoint.specs.{SavedValue, lists_digest, store_sequence}
use Rattle.recovery.specs.{IsBaseFor, OpensToBase}
use Rattle.command_words.specs.declared.settings.Settings.{Settings}
use Rattle.report_text.specs.{mark_text, report_text, tail_text}
use Rattle.report_text.specs.declared.mark.Mark.TheVariants.{Opened, Saved}
use Rattle.report_session.specs.Saving.{saves_after, settings_of_store}
use Rattle.std.specs.Io.KnownBytes.{Appends}
use Rattle.dealt_capture.specs.{DealingRules, AreDealtRecords}

-- the shape of the tables that settings ask for
abbrev pub asked_shape : Settings → TableShape
asked_shape settings = record { grain = settings.grain; capacity = settings.capacity }

-- new shards of dealt lists, none of whose records has been counted yet: their tables, of this shape, are empty
abbrev pub new_shards : TableShape → List (List RecordValue) → List ShardValue
new_shards shape lists = map (λ list. record { list = list; base = empty_snapshot shape; position = 0 }) lists

-- the shards of dealt lists that go on from saved snapshots, one for each
abbrev pub resumed_shards : List (List RecordValue) → List SnapshotValue → List ShardValue
resumed_shards [] bases = []
resumed_shards (list ∷ lists) [] = []
resumed_shards (list ∷ lists) (base ∷ bases) =
    record { list = list; base = base; position = base.position } ∷ resumed_shards lists bases

-- the shards of dealt lists as a run begins: they go on from a saved cut, or are new
abbrev pub session_opening : TableShape → List (List RecordValue) → Option CutValue → List ShardValue
session_opening shape lists None = new_shards shape lists
session_opening shape lists (Some cut) = resumed_shards lists cut.shards

-- the positions at which shards start
abbrev pub session_start : List ShardValue → List ℕ
session_start opening = map (λ shard. shard.position) opening

-- the positions at the ends of the shards' lists
abbrev pub session_ends : List ShardValue → List ℕ
session_ends opening = map (λ shard. length shard.list) opening

-- the saved cut that a run goes on from: what its store opens to over the dealt lists, where the bytes of the disk are
-- known; none where no gate of the store is open, or without a store
pub record GoesOnFrom (settings : Settings) (lists : List (List RecordValue)) (store : Option (List ℕ))
    (base : Option CutValue) : Type 0 where
  pub unused : settings.store ≡ false → base ≡ None
  pub fits : IfSome base (IsBaseFor (settings_of_store settings) lists)
  pub opens : settings.store ≡ true → IfImageKnown store (λ image. OpensToBase (settings_of_store settings) lists image base)

-- what always holds of the shards with which a session begins: there are 1 to 16 of them, of the shape asked for, each
-- within its limits
pub record AreSessionShards (shape : TableShape) (opening : List ShardValue) : Type 0 where
  pub core : IsCore opening
  pub alike : core_shape opening ≡ shape

-- a report that a session shows: it is the report of the tables at its own positions; and it is sound over the records
-- themselves, if the shards began with the tables of their records
pub record IsShownInSession (opening : List ShardValue) (settings : Settings) (reported : Reported) : Type 0 where
  pub is_report : IsCoreReport opening settings.phi reported.report
  pub is_sound : BasesRepresent opening → IsSound settings.grain reported.report (core_lists opening) settings.capacity settings.phi

-- from these positions on, the positions of one caller's reports never fall. They may stay the same
abbrev pub ReportsNeverFall : List ℕ → List Reported → Type 0
ReportsNeverFall opened reports = (shard : ℕ) → shard < length opened
    → IsNonDecreasing
    (slice_index opened shard ∷ map (λ reported. slice_index reported.report.positions shard) reports)

-- this many reports of one caller: each is one that the session shows, and their positions never fall
pub record AreOfCaller (opening : List ShardValue) (settings : Settings) (count : ℕ) (reports : List Reported)
    : Type 0 where
  pub as_many : length reports ≡ count
  pub shown : All (IsShownInSession opening settings) reports
  pub never_fall : ReportsNeverFall (session_start opening) reports

-- the reports of a session: those of the calling thread's rounds, those of each other caller, and the last one
pub record SessionReports : Type 0 where
  pub rounds : List Reported
  pub callers : List (List Reported)
  pub last : Reported

-- those of the calling thread: its rounds, and the last one
abbrev pub calling_reports : SessionReports → List Reported
calling_reports reports = reports.rounds ++ reports.last ∷ []

-- all reports of a session: those of the calling thread, and those of the other callers
abbrev pub reports_in : SessionReports → List Reported
reports_in reports = calling_reports reports ++ flat_map (λ made. made) reports.callers

-- the reports that the settings ask for: the calling thread makes its rounds and the last report, which counts all
-- records, and each other caller makes the same number of rounds. At which positions a round reports isn't said, only that
-- the positions of one caller never fall
pub record AreReports (opening : List ShardValue) (settings : Settings) (reports : SessionReports)
    : Type 0 where
  pub calling : AreOfCaller opening settings (settings.rounds + 1) (calling_reports reports)
  pub at_ends : reports.last.report.positions ≡ session_ends opening
  pub as_many : length reports.callers ≡ settings.callers
  pub callers : All (AreOfCaller opening settings settings.rounds) reports.callers

-- the cuts that are saved after these reports: with a store, the cut at the positions of each
abbrev pub saved_cuts : Bool → List ShardValue → List Reported → List CutValue
saved_cuts store opening reports =
    if store then map (λ reported. cut_at opening reported.report.positions) reports else []

-- what the cuts of these reports are saved as, in a store with this header that opened to this before
abbrev pub saves_of : StoreHeader → List ShardValue → Option SavedValue → List Reported → List SavedValue
saves_of header opening opened reports =
    saves_after (store_sequence opened) (lists_digest header (core_lists opening))
    (saved_cuts true opening reports)

-- the positions of the last of these reports, or those at the start where there is none
abbrev pub last_positions : List ℕ → List Reported → List ℕ
last_positions start [] = start
last_positions start (reported ∷ later) = last_positions reported.report.positions later

-- the line that follows a report of the calling thread: with a store, the positions of the cut that was saved
abbrev pub save_line : Bool → List ℕ → List ℕ
save_line store positions = if store then mark_text Saved positions else []

-- a report, and that line
abbrev pub session_part : Bool → Reported → List ℕ
session_part store reported = report_text reported.report ++ save_line store reported.report.positions

-- one report after another
abbrev pub session_parts : Bool → List Reported → List ℕ
session_parts store reports = flat_map (session_part store) reports

-- the reports of the other callers, one caller after another: none of their cuts is saved
abbrev pub other_parts : List (List Reported) → List ℕ
other_parts callers = flat_map (session_parts false) callers

-- the text of a session after its first line and its rounds: the reports of the other callers, the last report, and the
-- last lines
abbrev pub session_rest : Bool → List (List Reported) → Reported → List ℕ → List ℕ
session_rest store callers last tail = other_parts callers ++ (session_part store last ++ tail)

-- the text of a session: the positions at the start, the reports of the calling thread's rounds, and the rest
abbrev pub text_of_reports : Bool → List ℕ → SessionReports → List ℕ → List ℕ
text_of_reports store opened reports tail =
    mark_text Opened opened
    ++ (session_parts store reports.rounds ++ session_rest store reports.callers reports.last tail)

-- the session over shards, which ends with the lines `tail`. `Kept` says what became of the cuts that were saved
pub record IsOverShards (opening : List ShardValue) (settings : Settings) (Kept : List CutValue → Type 0)
    (tail text : List ℕ) : Type 0 where
  pub reports : SessionReports
  pub are_reports : AreReports opening settings reports
  pub spelled : text ≡ text_of_reports settings.store (session_start opening) reports tail
  pub kept : Kept (saved_cuts settings.store opening (calling_reports reports))

-- a strict prefix of a text
abbrev pub IsStrictBeginning : List ℕ → List ℕ → Type 0
IsStrictBeginning front text = IsBeginning front text × (length front < length text)

-- what became of the cuts that a session saves: those that were saved, and one whose save is unfinished, if any
abbrev pub SessionSaving : Type 1
SessionSaving = (saved unfinished : List CutValue) → Type 0

-- bytes of a text, a save and a second text, in this order, that broke off: in the first text or after it, when nothing was
-- saved; in the save, which is unfinished; or in the second text, after the save. Of a round the first text is its report, and
-- the second one its line `saved`: where that line has begun, the cut is saved
abbrev pub BreaksOffAround : (before after : List ℕ) → (cut : List CutValue) → SessionSaving → (front : List ℕ) → Type 0
BreaksOffAround before after cut Kept front =
    (IsBeginning front before × Kept [] [])
    ⊎ (((front ≡ before) × Kept [] cut)
    ⊎ ((more : List ℕ) × IsStrictBeginning more after × (front ≡ before ++ more) × Kept cut []))

-- what became of a session's cuts, the first of which are those of these reports and were saved
abbrev pub rest_after_saves : Bool → List ShardValue → List Reported → SessionSaving → SessionSaving
rest_after_saves store opening reports Kept saved unfinished = Kept (saved_cuts store opening reports ++ saved) unfinished

-- bytes of rounds of the calling thread that broke off before the first round, between two of them, or after the last one
pub record BreaksOffBetween (opening : List ShardValue) (settings : Settings) (Kept : SessionSaving) (front : List ℕ)
    : Type 0 where
  pub rounds : List Reported
  pub few : length rounds ≤ settings.rounds
  pub are_reports : AreOfCaller opening settings (length rounds) rounds
  pub written : front ≡ session_parts settings.store rounds
  pub kept : Kept (saved_cuts settings.store opening rounds) []

-- bytes of rounds that broke off within one: those before it were whole
pub record BreaksOffWithin (opening : List ShardValue) (settings : Settings) (Kept : SessionSaving) (front : List ℕ)
    : Type 0 where
  pub rounds : List Reported
  pub next : Reported
  pub few : length rounds < settings.rounds
  pub are_reports : AreOfCaller opening settings (length rounds + 1) (rounds ++ next ∷ [])
  pub more : List ℕ
  pub breaks_off : BreaksOffAround (report_text next.report) (save_line settings.store next.report.positions)
      (saved_cuts settings.store opening (next ∷ [])) (rest_after_saves settings.store opening rounds Kept) more
  pub written : front ≡ session_parts settings.store rounds ++ more

-- bytes of rounds that broke off
abbrev pub BreaksOffInRounds : List ShardValue → Settings → SessionSaving → List ℕ → Type 0
BreaksOffInRounds opening settings Kept front =
    BreaksOffBetween opening settings Kept front ⊎ BreaksOffWithin opening settings Kept front

-- bytes with which a session begins that broke off after its rounds: some of a session that exists, but not all
pub record BreaksOffLater (opening : List ShardValue) (settings : Settings) (Kept : SessionSaving) (tail front : List ℕ)
    : Type 0 where
  pub reports : SessionReports
  pub are_reports : AreReports opening settings reports
  pub more : List ℕ
  pub breaks_off : BreaksOffAround (other_parts reports.callers ++ report_text reports.last.report)
      (save_line settings.store reports.last.report.positions ++ tail)
      (saved_cuts settings.store opening (reports.last ∷ []))
      (rest_after_saves settings.store opening reports.rounds Kept) more
  pub written : front ≡ mark_text Opened (session_start opening) ++ (session_parts settings.store reports.rounds ++ more)

-- bytes with which a session begins that broke off: in its first line, when nothing was saved yet; in its rounds; or later.
-- Kept says what became of the cuts that it saves
abbrev pub BeginsSession : List ShardValue → Settings → SessionSaving → (tail front : List ℕ) → Type 0
BeginsSession opening settings Kept tail front =
    (IsStrictBeginning front (mark_text Opened (session_start opening)) × Kept [] [])
    ⊎ (((more : List ℕ) × BreaksOffInRounds opening settings Kept more
    × (front ≡ mark_text Opened (session_start opening) ++ more))
    ⊎ BreaksOffLater opening settings Kept tail front)

-- what a run leaves on the disk of its store, given the store's settings, the dealt lists, the cuts that were saved, and
-- the one whose save is unfinished, if any
abbrev pub SessionKeeping : Type 1
SessionKeeping = StoreSettings → List (List RecordValue) → SessionSaving

-- if there is no cut that a run goes on from, or it represents the lists, then the base of each shard represents its list,
-- so each report is sound. Whether the cut represents them isn't said: it does if the store belongs to them
abbrev pub GoesOnSoundly : List (List RecordValue) → Option CutValue → List ShardValue → Type 0
GoesOnSoundly lists base opening = IfSome base (λ cut. CutRepresents cut lists) → BasesRepresent opening

-- the session over a capture: the records of the capture, which are those of its bytes where these are known, are dealt to
-- the shards, counted from the base on, and reported. With a store, the cut of each report of the calling thread is saved
pub record IsSession (settings : Settings) (rules : DealingRules) (keeping : SessionKeeping) (store file : Option (List ℕ))
    (text : List ℕ) : Type 0 where
  pub records : Records
  pub lists : List (List RecordValue)
  pub dealt : IfSome file (λ bytes. AreDealtRecords settings rules bytes records lists)
  pub as_many : length lists ≡ settings.shards
  pub base : Option CutValue
  pub begins : GoesOnFrom settings lists store base
  pub represents : GoesOnSoundly lists base (session_opening (asked_shape settings) lists base)
  pub spelled : IsOverShards (session_opening (asked_shape settings) lists base) settings
      (λ cuts. settings.store ≡ true → keeping (settings_of_store settings) lists cuts []) (tail_text records) text

-- the bytes that were written of a session over a capture that broke off. With a store, they say which cuts were saved, and
-- which save is unfinished
pub record IsSessionInPart (settings : Settings) (rules : DealingRules) (keeping : SessionKeeping) (store file : Option (List ℕ))
    (front : List ℕ) : Type 0 where
  pub records : Records
  pub lists : List (List RecordValue)
  pub dealt : IfSome file (λ bytes. AreDealtRecords settings rules bytes records lists)
  pub as_many : length lists ≡ settings.shards
  pub base : Option CutValue
  pub begins : GoesOnFrom settings lists store base
  pub represents : GoesOnSoundly lists base (session_opening (asked_shape settings) lists base)
  pub shards : AreSessionShards (asked_shape settings) (session_opening (asked_shape settings) lists base)
  pub begun : BeginsSession (session_opening (asked_shape settings) lists base) settings
      (λ saved unfinished. settings.store ≡ true → keeping (settings_of_store settings) lists saved unfinished) (tail_text records) front

-- these bytes begin a whole session; nothing is said of the disk
abbrev pub BeginsWholeSession : Settings → DealingRules → (store file : Option (List ℕ)) → List ℕ → Type 0
BeginsWholeSession settings rules store file front =
    (text : List ℕ) × IsBeginning front text × IsSession settings rules (λ of lists saved unfinished. ⊤) store file text

-- the report over all records of dealt lists, which new tables counted; it is sound
pub record IsWholeReport (settings : Settings) (lists : List (List RecordValue)) (report : Report) : Type 0 where
  pub is_report : IsCoreReport (new_shards (asked_shape settings) lists) settings.phi report
  pub at_ends : report.positions ≡ session_ends (new_shards (asked_shape settings) lists)
  pub of_grain : AreOfGrain settings.grain report.lines
  pub is_sound : IsSound settings.grain report lists settings.capacity settings.phi

-- a text of this kind was appended to what the sink had taken; where that isn't known, only that there is such a text
pub record WritesAnswer (IsText : List ℕ → Type 0) (old new : Option (List ℕ)) : Type 0 where
  pub text : List ℕ
  pub is_text : IsText text
  pub written : Appends old new text
