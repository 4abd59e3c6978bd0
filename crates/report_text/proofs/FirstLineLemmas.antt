-- Which lines begin a session.
use Rattle.std.proofs.Common.{◌≡◌, ℕ, List, [], ◌∷◌, ◌++◌, map, drop}
use Rattle.std.proofs.Common.{refl, sym, ap, ◌∙◌, subst, append_assoc}
use Rattle.std.specs.List.{join_with_byte, AllByRecursion}
use Rattle.std.specs.Cmp.{IsTotalOrder}
use Rattle.prefix_lattice.specs.{report_order}
use Rattle.prefix_lattice.specs.declared.grain.Grain.{Grain}
use Rattle.report_text.specs.Session.{IsSessionLine, IsTextSession, AreFirstLines, line_words}
use Rattle.report_text.specs.Session.{words_text, session_lines}
use Rattle.report_text.specs.Stages.{Stage, nothing, ended, FollowsStage, LeadsFromStage}
use Rattle.report_text.specs.declared.session.Session.{Session}
use Rattle.report_text.specs.declared.session_line.SessionLine.{SessionLine}
use Rattle.report_text.proofs.ReportApartLemmas.{ReportPrefixesAreApart}
use Rattle.report_text.proofs.WordListLemmas.{word_list_in_line_text, word_list_tells_line}
use Rattle.report_text.proofs.StageLemmas.{lines_lead_to_one_stage, stage_after_appended_lines, stage_between_lines}
use Rattle.report_text.proofs.StageLemmas.{last_stage_is_fit, end_of_stage, end_of_stage-leads, end_of_stage-lines}
use Rattle.report_text.proofs.SessionPartLemmas.{session_parts_make_session}
use Rattle.report_text.proofs.WholeSessionLemmas.{whole_session_leads_to_end, whole_session_lines}

-- the laws of prefixes that are used here
pub record FirstLineLaws : Type 0 where
  pub texts : ReportPrefixesAreApart
  pub order : IsTotalOrder report_order

-- lines with the same text are the same
pub first_lines_with_one_text : (grain : Grain) → FirstLineLaws → (line other : SessionLine)
    → IsSessionLine grain line → IsSessionLine grain other
    → words_text line ≡ words_text other → line ≡ other
first_lines_with_one_text grain laws line other is other_is same =
    word_list_tells_line grain laws.texts line other is other_is
    (sym (word_list_in_line_text line (join_with_byte 32 (line_words other)) same)
    ∙ word_list_in_line_text other (join_with_byte 32 (line_words other)) refl)

-- lists of lines with the same texts are the same
pub first_lines_told_by_texts : (grain : Grain) → FirstLineLaws → (lines others : List SessionLine)
    → AllByRecursion (IsSessionLine grain) lines
    → AllByRecursion (IsSessionLine grain) others → map words_text lines ≡ map words_text others → lines ≡ others
first_lines_told_by_texts grain laws [] [] all others_all same = refl
first_lines_told_by_texts grain laws [] (other ∷ others) all others_all same = cc
first_lines_told_by_texts grain laws (line ∷ lines) [] all others_all same = cc
first_lines_told_by_texts grain laws (line ∷ lines) (other ∷ others) all others_all same =
    let head : words_text line ≡ words_text other = ap (first_of (words_text line)) same in
    let rest : map words_text lines ≡ map words_text others = ap (drop 1) same in
    ap (λ l. l ∷ lines) (first_lines_with_one_text grain laws line other all.0 others_all.0 head)
    ∙ ap (λ l. other ∷ l) (first_lines_told_by_texts grain laws lines others all.1 others_all.1 rest)
  where
    first_of : List ℕ → List (List ℕ) → List ℕ
    first_of none [] = none
    first_of none (text ∷ texts) = text

-- lines whose texts are cut in two
pub record FirstLinesParted (lines : List SessionLine) (front behind : List (List ℕ)) : Type 0 where
  pub first : List SessionLine
  pub second : List SessionLine
  pub joined : lines ≡ first ++ second
  pub front_is : map words_text first ≡ front
  pub behind_is : map words_text second ≡ behind

pub first_lines_are_parted : (lines : List SessionLine) (front behind : List (List ℕ))
    → map words_text lines ≡ front ++ behind
    → FirstLinesParted lines front behind
first_lines_are_parted lines [] behind same = record { first = []; second = lines; joined = refl; front_is = refl; behind_is = same }
first_lines_are_parted [] (text ∷ front) behind same = cc
first_lines_are_parted (line ∷ lines) (text ∷ front) behind same =
    let head : words_text line ≡ text = ap (first_of text) same in
    let rest : map words_text lines ≡ front ++ behind = ap (drop 1) same in
    let parted = first_lines_are_parted lines front behind rest in
    record {
      first = line ∷ parted.first;
      second = parted.second;
      joined = ap (λ l. line ∷ l) parted.joined;
      front_is = ap (λ t. t ∷ map words_text parted.first) head ∙ ap (λ l. text ∷ l) parted.front_is;
      behind_is = parted.behind_is;
    }
  where
    first_of : List ℕ → List (List ℕ) → List ℕ
    first_of none [] = none
    first_of none (text ∷ texts) = text

pub first_lines_stay_lines : (grain : Grain) (lines others : List SessionLine)
    → AllByRecursion (IsSessionLine grain) (lines ++ others) → AllByRecursion (IsSessionLine grain) lines
first_lines_stay_lines grain [] others all = tt
first_lines_stay_lines grain (line ∷ lines) others all = (all.0, first_lines_stay_lines grain lines others all.1)

lines_behind_first_lines : (grain : Grain) (lines others : List SessionLine)
    → AllByRecursion (IsSessionLine grain) (lines ++ others) → AllByRecursion (IsSessionLine grain) others
lines_behind_first_lines grain [] others all = all
lines_behind_first_lines grain (line ∷ lines) others all = lines_behind_first_lines grain lines others all.1

first_lines_appended : (grain : Grain) (lines others : List SessionLine) → AllByRecursion (IsSessionLine grain) lines
    → AllByRecursion (IsSessionLine grain) others
    → AllByRecursion (IsSessionLine grain) (lines ++ others)
first_lines_appended grain [] others all others_all = others_all
first_lines_appended grain (line ∷ lines) others all others_all = (all.0, first_lines_appended grain lines others all.1 others_all)

first_line_texts_append : (lines others : List SessionLine)
    → map words_text (lines ++ others) ≡ map words_text lines ++ map words_text
    others
first_line_texts_append [] others = refl
first_line_texts_append (line ∷ lines) others = ap (λ l. words_text line ∷ l) (first_line_texts_append lines others)

-- lines that lead on from the start begin a session
pub first_lines_begin_session : (grain : Grain) → FirstLineLaws → (read : List SessionLine) (stage : Stage)
    → AllByRecursion (IsSessionLine grain) read
    → LeadsFromStage nothing read stage → AreFirstLines grain (map words_text read)
first_lines_begin_session grain laws read stage all leads =
    let fit = last_stage_is_fit grain nothing read stage leads all tt in
    let whole = session_parts_make_session grain laws.order (read ++ end_of_stage stage)
    (stage_after_appended_lines nothing read (end_of_stage stage) stage ended leads (end_of_stage-leads stage))
    (first_lines_appended grain read (end_of_stage stage) all (end_of_stage-lines grain stage fit)) in
    record {
      session = whole.session;
      is_session = whole.is_session;
      others = map words_text (end_of_stage stage);
      begun = ap (map words_text) (sym whole.spelled) ∙ first_line_texts_append read (end_of_stage stage);
    }

-- the first lines of a session lead on from the start
pub record FirstLinesLeadOn (grain : Grain) (read : List SessionLine) (behind : List (List ℕ)) : Type 0 where
  pub stage : Stage
  pub leads : LeadsFromStage nothing read stage
  pub others : List SessionLine
  pub all : AllByRecursion (IsSessionLine grain) others
  pub others_are : map words_text others ≡ behind
  pub on : LeadsFromStage stage others ended

pub session_first_lines_lead_on : (grain : Grain) → FirstLineLaws
    → (session : Session) (read : List SessionLine) (behind : List (List ℕ))
    → IsTextSession grain session → AllByRecursion (IsSessionLine grain) read
    → map words_text (session_lines session) ≡ map words_text read ++ behind → FirstLinesLeadOn grain read behind
session_first_lines_lead_on grain laws session read behind is all same =
    let parted = first_lines_are_parted (session_lines session) (map words_text read) behind same in
    let lines = subst (AllByRecursion (IsSessionLine grain)) parted.joined (whole_session_lines grain session is) in
    let first = first_lines_told_by_texts grain laws parted.first read (first_lines_stay_lines grain parted.first parted.second lines) all parted.front_is in
    let leads = subst (λ l. LeadsFromStage nothing l ended) parted.joined (whole_session_leads_to_end grain session is) in
    let split = stage_between_lines nothing parted.first parted.second ended leads in
    record {
      stage = split.0;
      leads = subst (λ l. LeadsFromStage nothing l split.0) first split.1;
      others = parted.second;
      all = lines_behind_first_lines grain parted.first parted.second lines;
      others_are = parted.behind_is;
      on = split.2;
    }

-- a line that goes on with lines that were read
pub record FirstLinesGoOnWith (grain : Grain) (stage : Stage) (text : List ℕ) : Type 0 where
  pub line : SessionLine
  pub is_line : IsSessionLine grain line
  pub text_is : words_text line ≡ text
  pub next : Stage
  pub follows : FollowsStage stage line next

first_lines_lead_to_next : (grain : Grain) → FirstLineLaws
    → (read : List SessionLine) (stage : Stage) (text : List ℕ) (behind : List (List ℕ))
    → LeadsFromStage nothing read stage → FirstLinesLeadOn grain read (text ∷ behind)
    → FirstLinesGoOnWith grain stage text
first_lines_lead_to_next grain laws read stage text behind leads on =
    of_others on.others on.all on.others_are
    (subst (λ s. LeadsFromStage s on.others ended) (lines_lead_to_one_stage nothing read on.stage stage on.leads leads) on.on)
  where
    of_others : (others : List SessionLine) → AllByRecursion (IsSessionLine grain) others → map words_text others ≡ text ∷ behind
        → LeadsFromStage stage others ended → FirstLinesGoOnWith grain stage text
    of_others [] all same leads = cc
    of_others (line ∷ others) all same leads = record {
      line = line;
      is_line = all.0;
      text_is = ap (first_of text) same;
      next = leads.0;
      follows = leads.1;
    }
      where
        first_of : List ℕ → List (List ℕ) → List ℕ
        first_of none [] = none
        first_of none (text ∷ texts) = text

-- where lines that were read and one more begin a session, this one follows
pub next_line_after_first_lines : (grain : Grain) → FirstLineLaws
    → (read : List SessionLine) (stage : Stage) (text : List ℕ) → AllByRecursion (IsSessionLine grain) read
    → LeadsFromStage nothing read stage → AreFirstLines grain (map words_text read ++ text ∷ [])
    → FirstLinesGoOnWith grain stage text
next_line_after_first_lines grain laws read stage text all leads first =
    first_lines_lead_to_next grain laws read stage text first.others leads
    (session_first_lines_lead_on grain laws first.session read (text ∷ first.others) first.is_session all
    (first.begun ∙ append_assoc (map words_text read) (text ∷ []) first.others))

-- fewer lines begin a session too
pub fewer_first_lines : (grain : Grain) (lines others : List (List ℕ)) → AreFirstLines grain (lines ++ others)
    → AreFirstLines grain lines
fewer_first_lines grain lines others first = record {
  session = first.session;
  is_session = first.is_session;
  others = others ++ first.others;
  begun = first.begun ∙ append_assoc lines others first.others;
}
