-- The session that `report` writes, as its text is read.
use Rattle.std.proofs.Common.{◌≡◌, ◌∙◌, ◌+◌, ◌*◌, ◌^◌, ◌<◌, ◌≤◌, ℕ, Bool, false, List, [], ◌∷◌, ◌++◌, Option, Some, IfSome}
use Rattle.std.proofs.Common.{inl, inr, All, length, map, get_or, count_by, sym, subst, arith}
use Rattle.std.specs.List.{flat_map}
use Rattle.std.proofs.lemmas.List.{length-append, length-map}
use Rattle.std.proofs.lemmas.List.Elements.{All-map}
use Rattle.std.proofs.lemmas.List.Sums.{count_by-le-length}
use Rattle.std.proofs.lemmas.Option.{IfSome_then}
use Rattle.shard_state.specs.{CutRepresents, ShardValue, core_shape}
use Rattle.pcap_frames.specs.{FrameValue, frame_count_limit}
use Rattle.frame_records.specs.{AreRecordsOf, FileGives}
use Rattle.frame_records.specs.declared.records.Records.{Records}
use Rattle.hhh_report.specs.declared.reports.Reported.{Reported}
use Rattle.report_text.specs.{ShowsPositions, IsTextSession as IsShowableSession, IsSessionText, printed_text}
use Rattle.report_text.specs.{session_text}
use Rattle.report_text.specs.declared.session.Session.{Session}
use Rattle.command_words.specs.{AreLimited}
use Rattle.command_words.specs.declared.settings.Settings.{Settings}
use Rattle.report_session.specs.Session.{IsSession, IsShownInSession, SessionKeeping, SessionReports}
use Rattle.report_session.specs.Session.{session_opening, reports_in, session_start, asked_shape}
use Rattle.dealt_capture.specs.{DealingRules}
use Rattle.report_session.proofs.BaseLemmas.{base_goes_on}
use Rattle.report_session.proofs.LastReportLemmas.{last_report_is_among_all}
use Rattle.report_session.proofs.OpeningShardLemmas.{opening_shards_before_ends, opening_shards_count}
use Rattle.report_session.proofs.OpeningShardLemmas.{opening_shard_starts_are_positions, opening_shards_have_shape}
use Rattle.report_session.proofs.OwnReportLemmas.{IsOwnReportSound, own_report_lists_of_opening}
use Rattle.report_session.proofs.OwnReportLemmas.{own_reports_are_shown, own_reports_are_sound}
use Rattle.report_session.proofs.ShownSessionLemmas.{shown_session_prints_the_same, shown_session_reports_are_shown}
use Rattle.report_session.proofs.ShownSessionLemmas.{shown_session_report, shown_session_keeps_property}
use Rattle.report_session.proofs.ShownSessionLemmas.{shown_session_report_count, shown_session_reports, shown_session}
use Rattle.report_session.proofs.BoundedReportLemmas.{IsBoundedReport, IsBoundedReportList}
use Rattle.report_session.proofs.BoundedReportLemmas.{bounded_report_lists_if_kept, bounded_report_if_sound}

-- a session is printed as its text
abbrev pub PrintsOwnSession : Type 0
PrintsOwnSession = (session : Session) → printed_text session ≡ session_text session

-- a count of some frames is a number of 64 bits
own_session_count_is_bounded : (counts : FrameValue → Bool) (frames : List FrameValue) (count : ℕ) → length frames ≤ frame_count_limit
    → count ≡ count_by counts frames → count < 2 ^ 64
own_session_count_is_bounded counts frames count few is = omega (arith, few, is, count_by-le-length counts frames)

own_session_shows_something : (store : Bool) (reports : SessionReports) → 1 ≤ length (shown_session_reports store reports)
own_session_shows_something store reports =
    let others = map (shown_session_report false) (flat_map (λ made. made) reports.callers) in
    omega (
      arith,
      length-append (map (shown_session_report store) reports.rounds) (others ++ shown_session_report store reports.last ∷ []),
      length-append others (shown_session_report store reports.last ∷ []),
    )

-- what a file gives is within the limits of a capture
abbrev pub ReadFilesAreWithinLimits : Type 0
ReadFilesAreWithinLimits = (front : Bool) (file : List ℕ) (frames : List FrameValue) (cut : Option ℕ) → FileGives front file frames cut
    → (length frames ≤ frame_count_limit) × IfSome cut (λ place. place < 2 ^ 64)

-- what the text of a session says is a session that a text can show
own_session_is_showable : (settings : Settings) (opened : List ℕ) (reports : SessionReports) (records : Records)
    (frames : List FrameValue) → ShowsPositions opened → length opened ≡ settings.shards
    → (length frames ≤ frame_count_limit) × IfSome records.cut (λ place. place < 2 ^ 64) → AreRecordsOf settings.weigh frames records
    → All (λ reported. IsBoundedReport settings.grain settings.shards reported.report) (reports_in reports)
    → IsShowableSession settings.grain (shown_session settings.store opened reports records)
own_session_is_showable settings opened reports records frames positions many (few, cut) are fit =
    let fits = shown_session_keeps_property (λ (reported : Reported). IsBoundedReport settings.grain settings.shards reported.report) settings.store reports
    (λ store reported has. has) fit in
    record {
      opened = positions;
      some = own_session_shows_something settings.store reports;
      reports = λ k d lt.
          let here : IsBoundedReport settings.grain settings.shards (get_or (shown_session_reports settings.store reports) k d).report =
          fits k d lt in
          record {
            positions = record { are_positions = here.positions; as_many = here.as_many ∙ sym many };
            total = here.total;
            some = here.some;
            threshold = here.threshold;
            lines = λ j e inside. record {
              is_prefix = (here.lines j e inside).0;
              low = (here.lines j e inside).1;
              high = (here.lines j e inside).2;
            };
            saved = elim (shown_session_reports_are_shown settings.store reports k d lt) [
              | inl none ↦ rw none tt
              | inr some ↦ rw some (record { are_positions = here.positions; as_many = here.as_many ∙ sym many })
            ];
          };
      frames = omega (arith, few, are.frames);
      not_ipv4 = own_session_count_is_bounded _ frames records.not_ipv4 few are.not_ipv4;
      short = own_session_count_is_bounded _ frames records.short few are.short;
      bad_header = own_session_count_is_bounded _ frames records.bad_header few are.bad_header;
      cut = cut;
    }

-- the session that `report` writes is one, if the saved cut that it went on from represents the lists
pub own_session_is_valid : PrintsOwnSession → ReadFilesAreWithinLimits → (settings : Settings) (rules : DealingRules) (keeping : SessionKeeping)
    (store : Option (List ℕ)) (file text : List ℕ) (is : IsSession settings rules keeping store (Some file) text) → AreLimited settings
    → IfSome is.base (λ cut. CutRepresents cut is.lists)
    → IsSessionText settings.grain text (shown_session settings.store (session_start (session_opening (asked_shape settings) is.lists is.base))
    is.spelled.reports is.records)
own_session_is_valid prints within settings rules keeping store file text is limited represents =
    let opening = session_opening (asked_shape settings) is.lists is.base in
    let reports = is.spelled.reports in
    let known = shown_session settings.store (session_start opening) reports is.records in
    let goes_on = base_goes_on settings is.lists store is.base limited is.begins in
    let many_lists = is.as_many in
    let many : length opening ≡ settings.shards =
    opening_shards_count (asked_shape settings) is.lists is.base goes_on ∙ many_lists in
    let last : IsShownInSession opening settings reports.last =
    last_report_is_among_all (IsShownInSession opening settings) reports.rounds reports.last is.spelled.are_reports.calling.shown in
    let alike : core_shape opening ≡ asked_shape settings =
    opening_shards_have_shape (asked_shape settings) is.lists is.base (subst (λ n. 1 ≤ n) (sym many_lists) limited.some_shards) goes_on
    (IfSome_then is.base represents (λ cut stands. stands.alike)) in
    let small = bounded_report_lists_if_kept opening reports.last.report.positions last.is_report.as_many last.is_report.kept in
    let small_lists : All IsBoundedReportList is.lists =
    subst (λ lists. All IsBoundedReportList lists) (own_report_lists_of_opening settings is.lists store is.base is.begins)
    (All-map IsBoundedReportList (λ (shard : ShardValue). shard.list) opening small) in
    let shown = own_reports_are_shown settings rules keeping store (Some file) text is in
    let sound = own_reports_are_sound settings rules keeping store (Some file) text is represents in
    let starts = opening_shard_starts_are_positions opening (subst (λ n. 1 ≤ n) (sym many) limited.some_shards)
    (subst (λ n. n ≤ 16) (sym many) limited.few_shards) (opening_shards_before_ends (asked_shape settings) is.lists is.base goes_on)
    (λ k d lt. (small k d lt).few) in
    record {
      is_session = own_session_is_showable settings (session_start opening) reports is.records is.dealt.frames starts
          (length-map opening _ ∙ many) (within settings.front file is.dealt.frames is.records.cut is.dealt.capture)
          is.dealt.are_records
          (λ k d lt. bounded_report_if_sound opening settings is.lists (get_or (reports_in reports) k d) limited many many_lists alike
          small_lists (shown k d lt) (sound k d lt));
      spelled = is.spelled.spelled ∙ shown_session_prints_the_same settings.store (session_start opening) reports is.records ∙ prints known;
    }

-- all its reports are sound: as many as each caller made rounds, with the calling thread, and the last
pub own_session_reads_back : PrintsOwnSession → ReadFilesAreWithinLimits → (settings : Settings) (rules : DealingRules) (keeping : SessionKeeping)
    (store : Option (List ℕ)) (file text : List ℕ) (is : IsSession settings rules keeping store (Some file) text)
    → AreLimited settings → IfSome is.base (λ cut. CutRepresents cut is.lists)
    → (known : Session) × IsSessionText settings.grain text known × All (IsOwnReportSound settings is.lists) known.reports
    × (length known.reports ≡ (settings.callers + 1) * settings.rounds + 1)
own_session_reads_back prints within settings rules keeping store file text is limited represents =
    let opening = session_opening (asked_shape settings) is.lists is.base in
    let reports = is.spelled.reports in (
      shown_session settings.store (session_start opening) reports is.records,
      own_session_is_valid prints within settings rules keeping store file text is limited represents,
      shown_session_keeps_property (IsOwnReportSound settings is.lists) settings.store reports (λ store reported sound. sound)
          (own_reports_are_sound settings rules keeping store (Some file) text is represents),
      shown_session_report_count opening settings settings.store reports is.spelled.are_reports,
    )
