-- The text of a session that `report` writes, as that of a session which a text can show.
use Rattle.std.proofs.Common.{◌≡◌, ◌∙◌, ◌⊎◌, ◌+◌, ◌*◌, ℕ, Bool, true, false, List, [], ◌∷◌, ◌++◌, Option, None, Some}
use Rattle.std.proofs.Common.{All, length, map, get_or, add-mul, append-nil, append_assoc, inl, inr, refl, sym, ap, ap₂}
use Rattle.std.proofs.Common.{arith}
use Rattle.std.specs.Prelude.{if◌then◌else◌}
use Rattle.std.specs.List.{flat_map}
use Rattle.std.proofs.lemmas.List.{length-append, length-map, map-append}
use Rattle.std.proofs.lemmas.List.Concat.{flat_map-append}
use Rattle.std.proofs.lemmas.List.Elements.{All-append, All-cons, All-head, All-map, All-nil, All-tail}
use Rattle.shard_state.specs.{ShardValue}
use Rattle.hhh_report.specs.declared.reports.Reported.{Reported}
use Rattle.frame_records.specs.declared.records.Records.{Records}
use Rattle.report_text.specs.{mark_text, printed_text, report_text, tail_text}
use Rattle.report_text.specs.declared.mark.Mark.TheVariants.{Opened, Saved}
use Rattle.report_text.specs.declared.session.Session.{Session}
use Rattle.command_words.specs.declared.settings.Settings.{Settings}
use Rattle.report_session.specs.Session.{AreOfCaller, AreReports, SessionReports, calling_reports, other_parts}
use Rattle.report_session.specs.Session.{session_part, session_parts, reports_in, text_of_reports}
use Rattle.report_session.proofs.LastReportLemmas.{last_report_is_among_all}

-- a report of a session as its text shows it: with the positions of its cut, if that was saved
abbrev pub shown_session_report : Bool → Reported → Reported
shown_session_report store reported = record {
  report = reported.report;
  saved = if store then Some reported.report.positions else None;
}

-- the reports of a session in the order of its text
abbrev pub shown_session_reports : Bool → SessionReports → List Reported
shown_session_reports store reports =
    map (shown_session_report store) reports.rounds
    ++ (map (shown_session_report false) (flat_map (λ made. made) reports.callers) ++ shown_session_report store reports.last ∷ [])

-- what the text of a session says
abbrev pub shown_session : Bool → List ℕ → SessionReports → Records → Session
shown_session store opened reports records = record {
  opened = opened;
  reports = shown_session_reports store reports;
  frames = records.frames;
  not_ipv4 = records.not_ipv4;
  short = records.short;
  bad_header = records.bad_header;
  cut = records.cut;
}

-- the line that says that a cut was saved, as it is printed
abbrev shown_session_saved_line : Option (List ℕ) → List ℕ
shown_session_saved_line None = []
shown_session_saved_line (Some positions) = mark_text Saved positions

-- a report of a session, as it is printed
abbrev shown_session_report_bytes : Reported → List ℕ
shown_session_report_bytes reported = report_text reported.report ++ shown_session_saved_line reported.saved

shown_session_prints_report : (store : Bool) (reported : Reported) → shown_session_report_bytes (shown_session_report store reported) ≡ session_part
    store reported
shown_session_prints_report true reported = refl
shown_session_prints_report false reported = refl

shown_session_prints_each : (store : Bool) (reports : List Reported)
    → flat_map shown_session_report_bytes (map (shown_session_report store) reports) ≡ session_parts store reports
shown_session_prints_each store [] = refl
shown_session_prints_each store (reported ∷ reports) =
    ap₂ (λ front behind. front ++ behind) (shown_session_prints_report store reported) (shown_session_prints_each store reports)

shown_session_prints_callers : (callers : List (List Reported))
    → flat_map shown_session_report_bytes (map (shown_session_report false) (flat_map (λ made. made) callers)) ≡ other_parts callers
shown_session_prints_callers [] = refl
shown_session_prints_callers (reports ∷ callers) =
    ap (flat_map shown_session_report_bytes) (map-append (shown_session_report false) reports (flat_map (λ made. made) callers))
    ∙ flat_map-append shown_session_report_bytes (map (shown_session_report false) reports) (map (shown_session_report false) (flat_map (λ made. made) callers))
    ∙ ap₂ (λ front behind. front ++ behind) (shown_session_prints_each false reports) (shown_session_prints_callers callers)

shown_session_prints_all : (store : Bool) (reports : SessionReports)
    → flat_map shown_session_report_bytes (shown_session_reports store reports)
    ≡ session_parts store reports.rounds ++ (other_parts reports.callers ++ session_part store reports.last)
shown_session_prints_all store reports =
    let others = map (shown_session_report false) (flat_map (λ made. made) reports.callers) in
    flat_map-append shown_session_report_bytes (map (shown_session_report store) reports.rounds) (others ++ shown_session_report store reports.last ∷ [])
    ∙ ap₂ (λ front behind. front ++ behind) (shown_session_prints_each store reports.rounds)
    (flat_map-append shown_session_report_bytes others (shown_session_report store reports.last ∷ [])
    ∙ ap₂ (λ front behind. front ++ behind) (shown_session_prints_callers reports.callers)
    (append-nil (shown_session_report_bytes (shown_session_report store reports.last)) ∙ shown_session_prints_report store reports.last))

shown_session_groups : (rounds callers last tail : List ℕ)
    → (rounds ++ (callers ++ last)) ++ tail ≡ rounds ++ (callers ++ (last ++ tail))
shown_session_groups rounds callers last tail = simp append_assoc

-- the text of a session is that of what it says
pub shown_session_prints_the_same : (store : Bool) (opened : List ℕ) (reports : SessionReports) (records : Records)
    → text_of_reports store opened reports (tail_text records) ≡ printed_text (shown_session store opened reports records)
shown_session_prints_the_same store opened reports records =
    sym (ap (λ text. mark_text Opened opened ++ text)
    (ap (λ text. text ++ tail_text records) (shown_session_prints_all store reports)
    ∙ shown_session_groups (session_parts store reports.rounds) (other_parts reports.callers) (session_part store reports.last)
    (tail_text records)))

-- what holds of two lists together holds of each
pub shown_session_front_of_all : {A : Type 0} (P : A → Type 0) (xs ys : List A) → All P (xs ++ ys) → All P xs
shown_session_front_of_all P [] ys all = All-nil P
shown_session_front_of_all P (x ∷ xs) ys all =
    All-cons P x xs (All-head P x (xs ++ ys) all) (shown_session_front_of_all P xs ys (All-tail P x (xs ++ ys) all))

pub shown_session_back_of_all : {A : Type 0} (P : A → Type 0) (xs ys : List A) → All P (xs ++ ys) → All P ys
shown_session_back_of_all P [] ys all = all
shown_session_back_of_all P (x ∷ xs) ys all = shown_session_back_of_all P xs ys (All-tail P x (xs ++ ys) all)

-- a text says of each report that its cut was saved, at its own positions, or nothing
abbrev pub IsShownSessionReport : Reported → Type 0
IsShownSessionReport reported = (reported.saved ≡ None) ⊎ (reported.saved ≡ Some reported.report.positions)

shown_session_report_is_shown : (store : Bool) (reported : Reported) → IsShownSessionReport (shown_session_report store reported)
shown_session_report_is_shown true reported = inr refl
shown_session_report_is_shown false reported = inl refl

pub shown_session_reports_are_shown : (store : Bool) (reports : SessionReports) → All IsShownSessionReport (shown_session_reports store reports)
shown_session_reports_are_shown store reports =
    All-append IsShownSessionReport (map (shown_session_report store) reports.rounds)
    (map (shown_session_report false) (flat_map (λ made. made) reports.callers) ++ shown_session_report store reports.last ∷ [])
    (All-map IsShownSessionReport (shown_session_report store) reports.rounds (λ k d lt. shown_session_report_is_shown store (get_or reports.rounds k d)))
    (All-append IsShownSessionReport (map (shown_session_report false) (flat_map (λ made. made) reports.callers))
    (shown_session_report store reports.last ∷ [])
    (All-map IsShownSessionReport (shown_session_report false) (flat_map (λ made. made) reports.callers)
    (λ k d lt. shown_session_report_is_shown false (get_or (flat_map (λ made. made) reports.callers) k d)))
    (All-cons IsShownSessionReport (shown_session_report store reports.last) [] (shown_session_report_is_shown store reports.last)
    (All-nil IsShownSessionReport)))

-- what holds of each report of a session holds of each that its text shows
pub shown_session_keeps_property : (P : Reported → Type 0) (store : Bool) (reports : SessionReports)
    → ((store : Bool) (reported : Reported) → P reported → P (shown_session_report store reported))
    → All P (reports_in reports) → All P (shown_session_reports store reports)
shown_session_keeps_property P store reports keeps all =
    let others = flat_map (λ made. made) reports.callers in
    let calling = shown_session_front_of_all P (calling_reports reports) others all in
    let rounds = shown_session_front_of_all P reports.rounds (reports.last ∷ []) calling in
    let last = last_report_is_among_all P reports.rounds reports.last calling in
    let called = shown_session_back_of_all P (calling_reports reports) others all in
    All-append P (map (shown_session_report store) reports.rounds)
    (map (shown_session_report false) others ++ shown_session_report store reports.last ∷ [])
    (All-map P (shown_session_report store) reports.rounds (λ k d lt. keeps store _ (rounds k d lt)))
    (All-append P (map (shown_session_report false) others) (shown_session_report store reports.last ∷ [])
    (All-map P (shown_session_report false) others (λ k d lt. keeps false _ (called k d lt)))
    (All-cons P (shown_session_report store reports.last) [] (keeps store reports.last last) (All-nil P)))

-- how many reports callers made
shown_session_count_of_callers : (opening : List ShardValue) (settings : Settings) (count : ℕ) (callers : List (List Reported))
    → All (AreOfCaller opening settings count) callers
    → length (flat_map (λ made. made) callers) ≡ length callers * count
shown_session_count_of_callers opening settings count [] all = omega arith
shown_session_count_of_callers opening settings count (reports ∷ callers) all =
    let first : AreOfCaller opening settings count reports =
    All-head (AreOfCaller opening settings count) reports callers all in
    let rest = shown_session_count_of_callers opening settings count callers
    (All-tail (AreOfCaller opening settings count) reports callers all) in
    omega (arith, first.as_many, rest, length-append reports (flat_map (λ made. made) callers))

-- how many reports the text of a session shows
pub shown_session_report_count : (opening : List ShardValue) (settings : Settings) (store : Bool) (reports : SessionReports)
    → AreReports opening settings reports
    → length (shown_session_reports store reports) ≡ (settings.callers + 1) * settings.rounds + 1
shown_session_report_count opening settings store reports are =
    let others = flat_map (λ made. made) reports.callers in
    let made = shown_session_count_of_callers opening settings settings.rounds reports.callers are.callers in
    let callers = ap (λ n. n * settings.rounds) are.as_many in
    let rounds = length-append reports.rounds (reports.last ∷ []) in
    let front = length-append (map (shown_session_report store) reports.rounds)
    (map (shown_session_report false) others ++ shown_session_report store reports.last ∷ []) in
    let behind = length-append (map (shown_session_report false) others) (shown_session_report store reports.last ∷ []) in
    omega (
      arith,
      are.calling.as_many,
      made,
      callers,
      rounds,
      front,
      behind,
      length-map reports.rounds (shown_session_report store),
      length-map others (shown_session_report false),
      add-mul settings.callers 1 settings.rounds,
    )
