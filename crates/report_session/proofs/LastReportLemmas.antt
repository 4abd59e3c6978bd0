-- The last report of a session.
use Rattle.std.proofs.Common.{◌≡◌, ◌∙◌, ◌+◌, ℕ, List, [], ◌∷◌, ◌++◌, All, refl, sym, ap, ap₂, subst, arith, length}
use Rattle.std.proofs.lemmas.List.{length_push}
use Rattle.std.proofs.lemmas.List.Elements.{All-head, All-tail}
use Rattle.shard_state.specs.{CutValue, ShardValue}
use Rattle.hhh_report.specs.{AreReportLines, IsSameReport}
use Rattle.hhh_output.specs.{IsReportOf}
use Rattle.hhh_report.specs.declared.report.Report.{Report}
use Rattle.hhh_report.specs.declared.reports.Reported.{Reported}
use Rattle.gate_workers.specs.{cut_at}
use Rattle.command_words.specs.declared.settings.Settings.{Settings}
use Rattle.report_text.specs.{mark_text, report_text}
use Rattle.report_text.specs.declared.mark.Mark.TheVariants.{Opened}
use Rattle.report_session.specs.Session.{AreOfCaller, AreReports, IsShownInSession, SessionReports, other_parts}
use Rattle.report_session.specs.Session.{session_part, session_parts, text_of_reports, session_start}

-- what holds of all elements holds of the last one
pub last_report_is_among_all : {A : Type 0} (P : A → Type 0) (xs : List A) (x : A) → All P (xs ++ x ∷ []) → P x
last_report_is_among_all P [] x all = All-head P x [] all
last_report_is_among_all P (first ∷ xs) x all = last_report_is_among_all P xs x (All-tail P first (xs ++ x ∷ []) all)

-- reports that show the same have one text
abbrev pub LastReportTextIsUnique : Type 0
LastReportTextIsUnique = (report other : Report) → IsSameReport report other → report_text report ≡ report_text other

-- a cut has one report
abbrev pub LastReportIsUnique : Type 0
LastReportIsUnique =
    (cut : CutValue) (phi : ℕ) (report other : Report) → AreReportLines report.lines → AreReportLines other.lines
    → IsReportOf cut phi report → IsReportOf cut phi other → IsSameReport report other

-- the last reports of two sessions over shards that begin alike
pub last_reports_agree : LastReportIsUnique → LastReportTextIsUnique → (opening : List ShardValue) (settings other : Settings) (reports others : SessionReports)
    → settings.phi ≡ other.phi → AreReports opening settings reports → AreReports opening other others
    → report_text reports.last.report ≡ report_text others.last.report
last_reports_agree one text opening settings other reports others phi are are_other =
    let first : IsShownInSession opening settings reports.last =
    last_report_is_among_all (IsShownInSession opening settings) reports.rounds reports.last are.calling.shown in
    let second : IsShownInSession opening other others.last =
    last_report_is_among_all (IsShownInSession opening other) others.rounds others.last are_other.calling.shown in
    let same_cut : cut_at opening others.last.report.positions ≡ cut_at opening reports.last.report.positions =
    ap (cut_at opening) (are_other.at_ends ∙ sym are.at_ends) in
    text reports.last.report others.last.report
    (one (cut_at opening reports.last.report.positions) settings.phi reports.last.report others.last.report
    reports.last.report.are_lines others.last.report.are_lines first.is_report.is
    (subst (λ cut. IsReportOf cut settings.phi others.last.report) same_cut
    (subst (λ n. IsReportOf (cut_at opening others.last.report.positions) n others.last.report) (sym phi)
    second.is_report.is)))

-- no round, no report of the calling thread but the last one
last_report_without_rounds : (rounds : List Reported) (last : Reported) (count : ℕ) → length (rounds ++ last ∷ []) ≡ count + 1
    → count ≡ 0 → rounds ≡ []
last_report_without_rounds [] last count many none = refl
last_report_without_rounds (first ∷ rounds) last count many none = absurd (omega (arith, many, none, length_push rounds last))

-- and none of the other callers
last_report_without_callers : (opening : List ShardValue) (settings : Settings) (count : ℕ) (callers : List (List Reported))
    → count ≡ 0 → All (AreOfCaller opening settings count) callers → other_parts callers ≡ []
last_report_without_callers opening settings count [] none all = refl
last_report_without_callers opening settings count ([] ∷ callers) none all =
    last_report_without_callers opening settings count callers none
    (All-tail (AreOfCaller opening settings count) [] callers all)
last_report_without_callers opening settings count ((first ∷ reports) ∷ callers) none all =
    let are : AreOfCaller opening settings count (first ∷ reports) =
    All-head (AreOfCaller opening settings count) (first ∷ reports) callers all in
    absurd (omega (arith, none, are.as_many))

-- so the session is its first line, the last report and the last lines
pub last_report_stands_alone : (opening : List ShardValue) (settings : Settings) (reports : SessionReports) (tail : List ℕ)
    → settings.rounds ≡ 0 → AreReports opening settings reports
    → text_of_reports settings.store (session_start opening) reports tail
    ≡ mark_text Opened (session_start opening) ++ (session_part settings.store reports.last ++ tail)
last_report_stands_alone opening settings reports tail none are =
    let line = mark_text Opened (session_start opening) in
    let no_round : reports.rounds ≡ [] = last_report_without_rounds reports.rounds reports.last settings.rounds are.calling.as_many none in
    let nobody : other_parts reports.callers ≡ [] =
    last_report_without_callers opening settings settings.rounds reports.callers none are.callers in
    ap₂ (λ rounds callers. line ++ (session_parts settings.store rounds
    ++ (callers ++ (session_part settings.store reports.last ++ tail)))) no_round nobody
