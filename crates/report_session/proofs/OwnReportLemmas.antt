-- The reports of a session, by the dealt records.
use Rattle.std.proofs.Common.{◌≡◌, ℕ, List, [], ◌∷◌, All, Option, None, Some, IfSome, get_or, refl, ap, subst}
use Rattle.std.specs.List.{AllZip, flat_map}
use Rattle.std.proofs.lemmas.List.Elements.{All-append, All-head, All-nil, All-tail}
use Rattle.prefix_lattice.specs.{RecordValue}
use Rattle.shard_state.specs.{BasesRepresent, CutRepresents, CutValue, ShardValue, SnapshotValue, core_lists}
use Rattle.hhh_report.specs.{IsSound}
use Rattle.hhh_report.specs.declared.reports.Reported.{Reported}
use Rattle.recovery.specs.{ContinuesList}
use Rattle.command_words.specs.declared.settings.Settings.{Settings}
use Rattle.report_session.specs.Session.{AreOfCaller, GoesOnFrom, IsSession, IsShownInSession, SessionKeeping}
use Rattle.report_session.specs.Session.{calling_reports, session_opening, reports_in, resumed_shards, asked_shape}
use Rattle.dealt_capture.specs.{DealingRules}
use Rattle.report_session.proofs.OpeningShardLemmas.{new_opening_shards_as_dealt}

-- the lists of shards that go on are those that were dealt
own_report_lists_when_resumed : (lists : List (List RecordValue)) (bases : List SnapshotValue) → AllZip ContinuesList bases lists
    → core_lists (resumed_shards lists bases) ≡ lists
own_report_lists_when_resumed [] bases continues = refl
own_report_lists_when_resumed (list ∷ lists) [] continues = absurd continues
own_report_lists_when_resumed (list ∷ lists) (base ∷ bases) continues =
    ap (λ rest. list ∷ rest) (own_report_lists_when_resumed lists bases continues.1)

pub own_report_lists_of_opening : (settings : Settings) (lists : List (List RecordValue)) (store : Option (List ℕ))
    (base : Option CutValue) → GoesOnFrom settings lists store base
    → core_lists (session_opening (asked_shape settings) lists base) ≡ lists
own_report_lists_of_opening settings lists store None begins = new_opening_shards_as_dealt (asked_shape settings) lists
own_report_lists_of_opening settings lists store (Some cut) begins = own_report_lists_when_resumed lists cut.shards begins.fits.continues

-- a report is sound over the dealt lists
abbrev pub IsOwnReportSound : Settings → List (List RecordValue) → Reported → Type 0
IsOwnReportSound settings lists reported = IsSound settings.grain reported.report lists settings.capacity settings.phi

-- reports that are shown are
own_reports_shown_are_sound : (opening : List ShardValue) (settings : Settings) (lists : List (List RecordValue))
    (reports : List Reported) → core_lists opening ≡ lists → BasesRepresent opening
    → All (IsShownInSession opening settings) reports → All (IsOwnReportSound settings lists) reports
own_reports_shown_are_sound opening settings lists reports same bases shown = λ k d lt.
    subst (λ l. IsSound settings.grain (get_or reports k d).report l settings.capacity settings.phi) same ((shown k d lt).is_sound bases)

-- those of all callers are shown
own_caller_reports_are_shown : (opening : List ShardValue) (settings : Settings) (count : ℕ) (callers : List (List Reported))
    → All (AreOfCaller opening settings count) callers
    → All (IsShownInSession opening settings) (flat_map (λ made. made) callers)
own_caller_reports_are_shown opening settings count [] are = All-nil (IsShownInSession opening settings)
own_caller_reports_are_shown opening settings count (reports ∷ callers) are =
    All-append (IsShownInSession opening settings) reports (flat_map (λ made. made) callers)
    (All-head (AreOfCaller opening settings count) reports callers are).shown
    (own_caller_reports_are_shown opening settings count callers
    (All-tail (AreOfCaller opening settings count) reports callers are))

-- the reports of a session are shown
pub own_reports_are_shown : (settings : Settings) (rules : DealingRules) (keeping : SessionKeeping) (store file : Option (List ℕ))
    (text : List ℕ) (is : IsSession settings rules keeping store file text)
    → All (IsShownInSession (session_opening (asked_shape settings) is.lists is.base) settings) (reports_in is.spelled.reports)
own_reports_are_shown settings rules keeping store file text is =
    let opening = session_opening (asked_shape settings) is.lists is.base in
    let reports = is.spelled.reports in
    All-append (IsShownInSession opening settings) (calling_reports reports) (flat_map (λ made. made) reports.callers)
    is.spelled.are_reports.calling.shown
    (own_caller_reports_are_shown opening settings settings.rounds reports.callers is.spelled.are_reports.callers)

-- so they are sound, if the saved cut that it went on from represents the lists
pub own_reports_are_sound : (settings : Settings) (rules : DealingRules) (keeping : SessionKeeping) (store file : Option (List ℕ))
    (text : List ℕ) (is : IsSession settings rules keeping store file text)
    → IfSome is.base (λ cut. CutRepresents cut is.lists)
    → All (IsOwnReportSound settings is.lists) (reports_in is.spelled.reports)
own_reports_are_sound settings rules keeping store file text is represents =
    own_reports_shown_are_sound (session_opening (asked_shape settings) is.lists is.base) settings is.lists (reports_in is.spelled.reports)
    (own_report_lists_of_opening settings is.lists store is.base is.begins) (is.represents represents)
    (own_reports_are_shown settings rules keeping store file text is)
