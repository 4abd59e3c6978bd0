-- The whole session that begins with what was written of one that broke off.
use Rattle.std.proofs.Common.{◌≡◌, ◌∙◌, ◌≤◌, ◌+◌, ◌-◌, inl, inr, ℕ, Bool, true, List, [], ◌∷◌, ◌++◌, Option, All}
use Rattle.std.proofs.Common.{refl, sym, ap, subst, arith, length, replicate, append-nil, append_assoc}
use Rattle.std.proofs.lemmas.List.{length-append}
use Rattle.std.proofs.lemmas.List.Concat.{flat_map-append}
use Rattle.outside_io.specs.{IsBeginning}
use Rattle.shard_state.specs.{CutValue, IsShard, ShardValue}
use Rattle.hhh_report.specs.declared.reports.Reported.{Reported}
use Rattle.command_words.specs.{HaveWideShare}
use Rattle.command_words.specs.declared.settings.Settings.{Settings}
use Rattle.report_text.specs.{mark_text, report_text, tail_text}
use Rattle.report_text.specs.declared.mark.Mark.TheVariants.{Opened}
use Rattle.dealt_capture.specs.{DealingRules}
use Rattle.report_session.specs.Session.{AreOfCaller, AreReports, BeginsSession, BeginsWholeSession, BreaksOffAround}
use Rattle.report_session.specs.Session.{BreaksOffInRounds, IsSessionInPart, SessionKeeping, SessionReports}
use Rattle.report_session.specs.Session.{SessionSaving, other_parts, rest_after_saves, save_line, saved_cuts}
use Rattle.report_session.specs.Session.{session_opening, session_part, session_parts, session_rest, session_start}
use Rattle.report_session.specs.Session.{text_of_reports, asked_shape}
use Rattle.report_session.specs.Saving.{settings_of_store}
use Rattle.report_session.proofs.FinalReportLemmas.{FinalReport, FinalReportLaws, final_report_after_none}
use Rattle.report_session.proofs.FinalReportLemmas.{final_report_exists, final_report_makes_whole}
use Rattle.report_session.proofs.FinalReportLemmas.{reports_with_final_report}
use Rattle.report_session.proofs.SessionTextLemmas.{session_text_groups}

-- a beginning of a text begins a longer one, and so it does behind another text
whole_session_goes_on : (front text more : List ℕ) → IsBeginning front text → IsBeginning front (text ++ more)
whole_session_goes_on front text more (rest, is) =
    (rest ++ more, ap (λ whole. whole ++ more) is ∙ append_assoc front rest more)

whole_session_stands_behind : (before front text : List ℕ) → IsBeginning front text
    → IsBeginning (before ++ front) (before ++ text)
whole_session_stands_behind before front text (rest, is) =
    (rest, ap (λ whole. before ++ whole) is ∙ sym (append_assoc before front rest))

-- bytes that broke off around a save begin the two texts
whole_session_around_save : (before after : List ℕ) (cut : List CutValue) (Kept : SessionSaving) (front : List ℕ)
    → BreaksOffAround before after cut Kept front → IsBeginning front (before ++ after)
whole_session_around_save before after cut Kept front (inl (begins, kept)) =
    whole_session_goes_on front before after begins
whole_session_around_save before after cut Kept front (inr (inl (is, kept))) =
    (after, ap (λ text. text ++ after) (sym is))
whole_session_around_save before after cut Kept front (inr (inr (more, (begins, short), is, kept))) =
    subst (λ text. IsBeginning text (before ++ after)) (sym is) (whole_session_stands_behind before more after begins)

-- the reports of a whole session, with whose text these bytes begin
pub record WholeSessionText (opening : List ShardValue) (settings : Settings) (tail front : List ℕ) : Type 0 where
  pub reports : SessionReports
  pub are_reports : AreReports opening settings reports
  pub begins : IsBeginning front (text_of_reports settings.store (session_start opening) reports tail)

-- bytes behind the first line begin such a text, if they begin the reports of some rounds
whole_session_after_rounds : (opening : List ShardValue) (settings : Settings) (final : FinalReport opening settings)
    (rounds : List Reported) (tail more : List ℕ) → All IsShard opening → length rounds ≤ settings.rounds
    → AreOfCaller opening settings (length rounds) rounds → IsBeginning more (session_parts settings.store rounds)
    → WholeSessionText opening settings tail (mark_text Opened (session_start opening) ++ more)
whole_session_after_rounds opening settings final rounds tail more kept few are begins =
    let reports : SessionReports = reports_with_final_report settings final.reported rounds in
    let again : List Reported = replicate (settings.rounds - length rounds) final.reported in
    let parts : List ℕ = session_parts settings.store rounds in
    let rest : List ℕ = session_rest settings.store reports.callers reports.last tail in
    let parted : session_parts settings.store reports.rounds ≡ parts ++ session_parts settings.store again =
    flat_map-append (session_part settings.store) rounds again in
    record {
      reports = reports;
      are_reports = final_report_makes_whole opening settings final rounds kept few are;
      begins =
          whole_session_stands_behind (mark_text Opened (session_start opening)) more
          (session_parts settings.store reports.rounds ++ rest)
          (whole_session_goes_on more (session_parts settings.store reports.rounds) rest
          (subst (IsBeginning more) (sym parted)
          (whole_session_goes_on more parts (session_parts settings.store again) begins)));
    }

-- rounds that broke off
whole_session_in_rounds : (opening : List ShardValue) (settings : Settings) (Kept : SessionSaving) (tail more : List ℕ)
    → FinalReport opening settings → All IsShard opening → BreaksOffInRounds opening settings Kept more
    → WholeSessionText opening settings tail (mark_text Opened (session_start opening) ++ more)
whole_session_in_rounds opening settings Kept tail more final kept (inl between) =
    whole_session_after_rounds opening settings final between.rounds tail more kept between.few between.are_reports
    ([], sym between.written ∙ sym (append-nil more))
whole_session_in_rounds opening settings Kept tail more final kept (inr within) =
    let next : Reported = within.next in
    let rounds : List Reported = within.rounds ++ next ∷ [] in
    let many : length rounds ≡ length within.rounds + 1 = length-append within.rounds (next ∷ []) in
    let part : List ℕ = session_part settings.store next in
    let parts : List ℕ = session_parts settings.store within.rounds in
    let parted : session_parts settings.store rounds ≡ parts ++ part =
    flat_map-append (session_part settings.store) within.rounds (next ∷ [])
    ∙ ap (λ text. parts ++ text) (append-nil part) in
    whole_session_after_rounds opening settings final rounds tail more kept (omega (arith, many, within.few))
    (subst (λ n. AreOfCaller opening settings n rounds) (sym many) within.are_reports)
    (subst (λ text. IsBeginning text (session_parts settings.store rounds)) (sym within.written)
    (subst (IsBeginning (parts ++ within.more)) (sym parted) (whole_session_stands_behind parts within.more part
    (whole_session_around_save (report_text next.report) (save_line settings.store next.report.positions)
    (saved_cuts settings.store opening (next ∷ [])) (rest_after_saves settings.store opening within.rounds Kept)
    within.more within.breaks_off))))

-- bytes with which a session begins that broke off begin the text of a whole one
pub whole_session_text_exists : (opening : List ShardValue) (settings : Settings) (Kept : SessionSaving)
    (tail front : List ℕ) → FinalReport opening settings → All IsShard opening
    → BeginsSession opening settings Kept tail front → WholeSessionText opening settings tail front
whole_session_text_exists opening settings Kept tail front final kept (inl ((begins, short), none)) =
    let whole : WholeSessionText opening settings tail (mark_text Opened (session_start opening) ++ []) =
    whole_session_after_rounds opening settings final [] tail [] kept (omega arith)
    (final_report_after_none opening settings) ([], refl) in
    let line : List ℕ = mark_text Opened (session_start opening) in
    let reports : SessionReports = whole.reports in
    record {
      reports = reports;
      are_reports = whole.are_reports;
      begins =
          whole_session_goes_on front line (session_parts settings.store reports.rounds
          ++ session_rest settings.store reports.callers reports.last tail) begins;
    }
whole_session_text_exists opening settings Kept tail front final kept (inr (inl (more, rounds, is))) =
    subst (WholeSessionText opening settings tail) (sym is)
    (whole_session_in_rounds opening settings Kept tail more final kept rounds)
whole_session_text_exists opening settings Kept tail front final kept (inr (inr later)) =
    let reports : SessionReports = later.reports in
    let store : Bool = settings.store in
    let line : List ℕ = save_line store reports.last.report.positions in
    let callers : List ℕ = other_parts reports.callers in
    let report : List ℕ = report_text reports.last.report in
    let parts : List ℕ = session_parts store reports.rounds in
    let rest : List ℕ = session_rest store reports.callers reports.last tail in
    record {
      reports = reports;
      are_reports = later.are_reports;
      begins =
          subst (λ text. IsBeginning text (text_of_reports store (session_start opening) reports tail))
          (sym later.written)
          (whole_session_stands_behind (mark_text Opened (session_start opening)) (parts ++ later.more) (parts ++ rest)
          (whole_session_stands_behind parts later.more rest
          (subst (IsBeginning later.more) (session_text_groups callers report line tail)
          (whole_session_around_save (callers ++ report) (line ++ tail) (saved_cuts store opening (reports.last ∷ []))
          (rest_after_saves store opening reports.rounds Kept) later.more later.breaks_off))));
    }

-- what was written of a session that broke off begins a whole session
pub whole_session_exists : FinalReportLaws → (settings : Settings) (rules : DealingRules) (keeping : SessionKeeping)
    (store file : Option (List ℕ)) (front : List ℕ) → HaveWideShare settings
    → IsSessionInPart settings rules keeping store file front → BeginsWholeSession settings rules store file front
whole_session_exists laws settings rules keeping store file front wide is =
    let opening : List ShardValue = session_opening (asked_shape settings) is.lists is.base in
    let final : FinalReport opening settings = final_report_exists laws opening settings wide is.shards in
    let tail : List ℕ = tail_text is.records in
    let whole : WholeSessionText opening settings tail front =
    whole_session_text_exists opening settings
    (λ saved unfinished. settings.store ≡ true → keeping (settings_of_store settings) is.lists saved unfinished) tail
    front final is.shards.core.kept is.begun in (
      text_of_reports settings.store (session_start opening) whole.reports tail,
      whole.begins,
      record {
        records = is.records;
        lists = is.lists;
        dealt = is.dealt;
        as_many = is.as_many;
        base = is.base;
        begins = is.begins;
        represents = is.represents;
        spelled = record {
          reports = whole.reports;
          are_reports = whole.are_reports;
          spelled = refl;
          kept = λ used. tt;
        };
      },
    )
