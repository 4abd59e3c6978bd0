-- What is wrong with the text of a session.
use Rattle.std.proofs.Common.{◌≡◌, ℕ, ◌+◌, ◌<◌, ◌≤◌, ◌⊎◌, inl, inr, List, [], ◌∷◌, ◌++◌, map, length, take, drop}
use Rattle.std.proofs.Common.{refl, sym, ap, ◌∙◌, subst, arith, append_assoc, append-nil, take-append-drop}
use Rattle.std.proofs.Common.{length-append}
use Rattle.std.specs.List.{flat_map, AllByRecursion}
use Rattle.std.proofs.Math.Seq.{take-append_seam}
use Rattle.std.proofs.lemmas.Bool.{cases_lt}
use Rattle.std.proofs.lemmas.List.{length-map, take-take}
use Rattle.prefix_lattice.specs.declared.grain.Grain.{Grain}
use Rattle.report_text.specs.Session.{IsSessionLine, IsTextSession, IsSessionText, AreFirstLines}
use Rattle.report_text.specs.Session.{words_text, session_lines}
use Rattle.report_text.specs.Session.{session_text, whole_lines, IsWrongAfter}
use Rattle.report_text.specs.Session.{GoesOnAfter, IsBadLine, HasSessionFault}
use Rattle.report_text.specs.Session.{longest_session}
use Rattle.report_text.specs.Stages.{Stage, nothing, ended, IsStageBeforeEnd, LeadsFromStage}
use Rattle.report_text.specs.declared.session.Session.{Session}
use Rattle.report_text.specs.declared.session_line.SessionLine.{SessionLine}
use Rattle.report_text.specs.declared.session_fault.TextFault.{TextFault}
use Rattle.report_text.specs.declared.session_fault.TextFault.TheVariants.{BadLine, MissingEnd, TooLong}
use Rattle.report_text.proofs.WholeLineLemmas.{whole_lines-lines}
use Rattle.report_text.proofs.StageLemmas.{lines_lead_to_one_stage, stage_between_lines, ended_stage_is_last}
use Rattle.report_text.proofs.WholeSessionLemmas.{whole_session_leads_to_end, whole_session_lines}
use Rattle.report_text.proofs.FirstLineLemmas.{FirstLineLaws, first_lines_told_by_texts, first_lines_are_parted}
use Rattle.report_text.proofs.FirstLineLemmas.{first_lines_stay_lines}
use Rattle.report_text.proofs.FirstLineLemmas.{session_first_lines_lead_on, first_lines_begin_session}
use Rattle.report_text.proofs.FirstLineLemmas.{FirstLinesGoOnWith, next_line_after_first_lines, fewer_first_lines}

-- the first of joined lists
session_fault_takes_front : (front behind : List (List ℕ)) (n : ℕ) → n ≡ length front → take n (front ++ behind) ≡ front
session_fault_takes_front front behind n same =
    ap (λ k. take k (front ++ behind)) same ∙ take-append_seam front behind

-- the first of joined lists, and one element more
session_fault_takes_one_more : (front : List (List ℕ)) (text : List ℕ) (behind : List (List ℕ)) (n : ℕ)
    → n ≡ length front
    → take (n + 1) (front ++ text ∷ behind) ≡ front ++ text ∷ []
session_fault_takes_one_more front text behind n same =
    ap (take (n + 1)) (sym (append_assoc front (text ∷ []) behind))
    ∙ session_fault_takes_front (front ++ text ∷ []) behind (n + 1) (omega (arith, length-append front (text ∷ []), same))

-- as many texts as lines
session_fault_text_count : (lines : List SessionLine) → length (map words_text lines) ≡ length lines
session_fault_text_count lines = length-map lines words_text

-- a line that goes on with no beginning of a session
pub session_fault_bad_line : (grain : Grain) → FirstLineLaws
    → (text : List ℕ) (read : List SessionLine) (stage : Stage) (line : List ℕ)
    (behind : List (List ℕ)) → length text ≤ longest_session → AllByRecursion (IsSessionLine grain) read
    → whole_lines text ≡ map words_text read ++ line ∷ behind → LeadsFromStage nothing read stage
    → (FirstLinesGoOnWith grain stage line → ⊥)
    → HasSessionFault grain text (BadLine (length read + 1))
session_fault_bad_line grain laws text read stage line behind limit all lines leads none =
    let as_many = session_fault_text_count read in
    let before : take (length read) (whole_lines text) ≡ map words_text read =
    ap (take (length read)) lines ∙ session_fault_takes_front (map words_text read) (line ∷ behind) (length read) (sym as_many) in
    let more : take (length read + 1) (whole_lines text) ≡ map words_text read ++ line ∷ [] =
    ap (take (length read + 1)) lines
    ∙ session_fault_takes_one_more (map words_text read) line behind (length read) (sym as_many) in (
      limit,
      (
        length read,
        refl,
        inl (record {
          whole = omega (arith, ap length lines, length-append (map words_text read) (line ∷ behind), as_many);
          begun = subst (AreFirstLines grain) (sym before) (first_lines_begin_session grain laws read stage all leads);
          wrong = λ first. none (next_line_after_first_lines grain laws read stage line all leads (subst (AreFirstLines grain) more first));
        }),
      ),
    )

-- lines that were read and don't end a session aren't those of a session and others
session_fault_open_lines : (grain : Grain) → FirstLineLaws
    → (read : List SessionLine) (stage : Stage) (session : Session) (behind : List (List ℕ))
    → AllByRecursion (IsSessionLine grain) read → LeadsFromStage nothing read stage → IsStageBeforeEnd stage
    → IsTextSession grain session
    → map words_text read ≡ map words_text (session_lines session) ++ behind → ⊥
session_fault_open_lines grain laws read stage session behind all leads is_open is same =
    let parted = first_lines_are_parted read (map words_text (session_lines session)) behind same in
    let lines = subst (AllByRecursion (IsSessionLine grain)) parted.joined all in
    let first = first_lines_told_by_texts grain laws parted.first (session_lines session) (first_lines_stay_lines grain parted.first parted.second lines)
    (whole_session_lines grain session is) parted.front_is in
    let split = stage_between_lines nothing parted.first parted.second stage
    (subst (λ l. LeadsFromStage nothing l stage) parted.joined leads) in
    let end : split.0 ≡ ended =
    lines_lead_to_one_stage nothing (session_lines session) split.0 ended (subst (λ l. LeadsFromStage nothing l split.0) first split.1)
    (whole_session_leads_to_end grain session is) in
    none_after parted.second (subst (λ s. LeadsFromStage s parted.second stage) end split.2)
  where
    none_after : (lines : List SessionLine) → LeadsFromStage ended lines stage → ⊥
    none_after [] leads = subst IsStageBeforeEnd (sym leads) is_open
    none_after (line ∷ lines) leads = ended_stage_is_last line lines stage leads

-- all lines of a text that was read begin a session, so none is wrong
pub session_fault_unfinished : (grain : Grain) → FirstLineLaws
    → (text : List ℕ) (read : List SessionLine) (stage : Stage)
    → length text ≤ longest_session → AllByRecursion (IsSessionLine grain) read → whole_lines text ≡ map words_text read
    → LeadsFromStage nothing read stage → IsStageBeforeEnd stage
    → HasSessionFault grain text (MissingEnd (length read + 1))
session_fault_unfinished grain laws text read stage limit all lines leads is_open =
    (limit, omega (arith, ap length lines, session_fault_text_count read), none_bad, no_session)
  where
    none_bad : (line : ℕ) → IsBadLine grain text line → ⊥
    none_bad line (before, number, inl wrong) =
        wrong.wrong (fewer_first_lines grain (take (before + 1) (whole_lines text)) (drop (before + 1) (whole_lines text))
        (subst (AreFirstLines grain) (sym lines ∙ sym (take-append-drop (before + 1) (whole_lines text)))
        (first_lines_begin_session grain laws read stage all leads)))
    none_bad line (before, number, inr follows) =
        session_fault_open_lines grain laws read stage follows.session
        (whole_lines (follows.byte ∷ follows.others)) all leads is_open
        follows.is_session
        (sym lines ∙ ap whole_lines follows.spelled
        ∙ whole_lines-lines (session_lines follows.session) (follows.byte ∷ follows.others))

    no_session : (session : Session) → IsSessionText grain text session → ⊥
    no_session session is =
        session_fault_open_lines grain laws read stage session [] all leads is_open is.is_session
        (sym lines ∙ ap whole_lines (is.spelled ∙ sym (append-nil (session_text session)))
        ∙ whole_lines-lines (session_lines session) [])

-- a session and a byte after it
pub session_fault_byte_follows : (grain : Grain) (text : List ℕ) (session : Session) (rest : List ℕ)
    → length text ≤ longest_session → IsTextSession grain session
    → text ≡ session_text session ++ rest → length (session_text session) < length text
    → HasSessionFault grain text (BadLine (length (session_lines session) + 1))
session_fault_byte_follows grain text session [] limit is spelled more =
    absurd (omega (arith, ap length spelled, ap length (append-nil (session_text session))))
session_fault_byte_follows grain text session (byte ∷ rest) limit is spelled more = (
  limit,
  (
    length (session_lines session),
    refl,
    inr (record {
      session = session;
      is_session = is;
      byte = byte;
      others = rest;
      spelled = spelled;
      ends = refl;
    }),
  ),
)

-- no line follows those of a session
session_fault_no_line_follows : (grain : Grain) → FirstLineLaws
    → (session : Session) (text : List ℕ) (behind : List (List ℕ)) → IsTextSession grain session
    → AreFirstLines grain (map words_text (session_lines session) ++ text ∷ behind) → ⊥
session_fault_no_line_follows grain laws session text behind is first =
    let on = session_first_lines_lead_on grain laws first.session (session_lines session) (text ∷ (behind ++ first.others)) first.is_session
    (whole_session_lines grain session is)
    (first.begun ∙ append_assoc (map words_text (session_lines session)) (text ∷ behind) first.others) in
    let end = lines_lead_to_one_stage nothing (session_lines session) on.stage ended on.leads (whole_session_leads_to_end grain session is) in
    none_after on.others on.others_are (subst (λ s. LeadsFromStage s on.others ended) end on.on)
  where
    none_after : {more : List (List ℕ)} → (lines : List SessionLine) → map words_text lines ≡ text ∷ more
        → LeadsFromStage ended lines ended → ⊥
    none_after [] same leads = cc
    none_after (line ∷ lines) same leads = ended_stage_is_last line lines ended leads

-- what is wrong after some lines
abbrev IsSessionFaultAfter : (grain : Grain) → List ℕ → ℕ → Type 0
IsSessionFaultAfter grain text before = IsWrongAfter grain text before ⊎ GoesOnAfter grain text before

-- the whole lines of a session and what follows
session_fault_all_lines : (grain : Grain) (session : Session) (text rest : List ℕ) → IsTextSession grain session
    → text ≡ session_text session ++ rest
    → whole_lines text ≡ map words_text (session_lines session) ++ whole_lines rest
session_fault_all_lines grain session text rest is spelled =
    ap whole_lines spelled ∙ whole_lines-lines (session_lines session) rest

-- where a line is wrong, no session begins with it and those before
session_fault_line_is_wrong : (grain : Grain) → FirstLineLaws → (text : List ℕ) (before : ℕ)
    → IsSessionFaultAfter grain text before → before < length (whole_lines text)
    → AreFirstLines grain (take (before + 1) (whole_lines text)) → ⊥
session_fault_line_is_wrong grain laws text before (inl wrong) within first = wrong.wrong first
session_fault_line_is_wrong grain laws text before (inr follows) within first =
    let session = follows.session in
    let lines = session_fault_all_lines grain session text (follows.byte ∷ follows.others)
    follows.is_session follows.spelled in
    one_more session (whole_lines (follows.byte ∷ follows.others)) follows.is_session lines
    follows.ends
  where
    one_more : (session : Session) (behind : List (List ℕ)) → IsTextSession grain session
        → whole_lines text ≡ map words_text (session_lines session) ++ behind
        → length (session_lines session) ≡ before → ⊥
    one_more session [] is lines ends =
        absurd (omega (
          arith,
          ap length lines,
          length-append (map words_text (session_lines session)) [],
          session_fault_text_count (session_lines session),
          ends,
          within,
        ))
    one_more session (line ∷ behind) is lines ends =
        session_fault_no_line_follows grain laws session line [] is
        (subst (AreFirstLines grain)
        (ap (take (before + 1)) lines
        ∙ session_fault_takes_one_more (map words_text (session_lines session)) line behind before
        (sym ends ∙ sym (session_fault_text_count (session_lines session)))) first)

-- the lines before a wrong one begin a session
session_fault_lines_begun : (grain : Grain) (text : List ℕ) (before : ℕ) → IsSessionFaultAfter grain text before
    → AreFirstLines grain (take before (whole_lines text)) × (before ≤ length (whole_lines text))
session_fault_lines_begun grain text before (inl wrong) = (wrong.begun, let within = wrong.whole in omega arith)
session_fault_lines_begun grain text before (inr goes_on) =
    let session = goes_on.session in
    let behind = whole_lines (goes_on.byte ∷ goes_on.others) in
    let lines = session_fault_all_lines grain session text (goes_on.byte ∷ goes_on.others)
    goes_on.is_session goes_on.spelled in
    let as_many = sym goes_on.ends ∙ sym (session_fault_text_count (session_lines session)) in
    let same : take before (whole_lines text) ≡ map words_text (session_lines session) =
    ap (take before) lines ∙ session_fault_takes_front (map words_text (session_lines session)) behind before as_many in (
      record {
        session = session;
        is_session = goes_on.is_session;
        others = [];
        begun = sym (append-nil (map words_text (session_lines session))) ∙ ap (λ l. l ++ []) (sym same);
      },
      omega (arith, ap length lines, length-append (map words_text (session_lines session)) behind, as_many),
    )

-- no wrong line comes before another
session_fault_not_before : (grain : Grain) → FirstLineLaws → (text : List ℕ) (before later : ℕ)
    → IsSessionFaultAfter grain text before → IsSessionFaultAfter grain text later
    → before < later → ⊥
session_fault_not_before grain laws text before later bad other less =
    let begun = session_fault_lines_begun grain text later other in
    let front = take later (whole_lines text) in
    let fewer : take (before + 1) front ≡ take (before + 1) (whole_lines text) =
    take-take (before + 1) later (whole_lines text) (omega arith) in
    let within : later ≤ length (whole_lines text) = begun.1 in
    session_fault_line_is_wrong grain laws text before bad (omega arith)
    (subst (AreFirstLines grain) fewer (fewer_first_lines grain (take (before + 1) front) (drop (before + 1) front)
    (subst (AreFirstLines grain) (sym (take-append-drop (before + 1) front)) begun.0)))

-- a text has one wrong line
session_fault_one_bad_line : (grain : Grain) → FirstLineLaws → (text : List ℕ) (line other : ℕ)
    → IsBadLine grain text line → IsBadLine grain text other → line ≡ other
session_fault_one_bad_line grain laws text line other (before, number, bad) (later, other_number, other_bad) =
    elim (cases_lt before later) [
      | inl less ↦ absurd (session_fault_not_before grain laws text before later bad other_bad less)
      | inr most ↦ elim (cases_lt later before) [
        | inl less ↦ absurd (session_fault_not_before grain laws text later before other_bad bad less)
        | inr least ↦ omega arith
      ]
    ]

-- a text of a session has no wrong line
no_line_fault_in_session : (grain : Grain) → FirstLineLaws → (text : List ℕ) (session : Session) (line : ℕ)
    → IsSessionText grain text session
    → IsBadLine grain text line → ⊥
no_line_fault_in_session grain laws text session line is (before, number, bad) =
    of_bad bad
  where
    lines : whole_lines text ≡ map words_text (session_lines session)
    lines = session_fault_all_lines grain session text [] is.is_session (is.spelled ∙ sym (append-nil (session_text session)))
        ∙ append-nil (map words_text (session_lines session))

    all_first : AreFirstLines grain (whole_lines text)
    all_first = record {
      session = session;
      is_session = is.is_session;
      others = [];
      begun = sym lines ∙ sym (append-nil (whole_lines text));
    }

    no_more : (other : Session) (behind : List (List ℕ)) (rest : List ℕ) → IsTextSession grain other
        → whole_lines text ≡ map words_text (session_lines other) ++ behind
        → text ≡ session_text other ++ rest → 1 ≤ length rest → ⊥
    no_more other [] rest other_is same spelled some =
        let texts : map words_text (session_lines session) ≡ map words_text (session_lines other) =
        sym lines ∙ same ∙ append-nil (map words_text (session_lines other)) in
        let one = first_lines_told_by_texts grain laws (session_lines session) (session_lines other)
        (whole_session_lines grain session is.is_session) (whole_session_lines grain other other_is) texts in
        let again : session_text session ≡ session_text other = ap (flat_map words_text) one in
        absurd (omega (arith, ap length spelled, ap length (is.spelled ∙ again), length-append (session_text other) rest))
    no_more other (next ∷ behind) rest other_is same spelled some =
        session_fault_no_line_follows grain laws other next behind other_is (subst (AreFirstLines grain) same all_first)

    of_bad : IsSessionFaultAfter grain text before → ⊥
    of_bad (inl wrong) =
        wrong.wrong (fewer_first_lines grain (take (before + 1) (whole_lines text)) (drop (before + 1) (whole_lines text))
        (subst (AreFirstLines grain) (sym (take-append-drop (before + 1) (whole_lines text))) all_first))
    of_bad (inr goes_on) =
        let rest = goes_on.byte ∷ goes_on.others in
        no_more goes_on.session (whole_lines rest) rest goes_on.is_session
        (session_fault_all_lines grain goes_on.session text rest goes_on.is_session goes_on.spelled)
        goes_on.spelled (omega arith)

-- the text of a session has no fault
pub session-no-fault : (grain : Grain) → FirstLineLaws → (text : List ℕ) (session : Session) (fault : TextFault)
    → IsSessionText grain text session
    → length text ≤ longest_session → HasSessionFault grain text fault → ⊥
session-no-fault grain laws text session (BadLine line) is limit has = no_line_fault_in_session grain laws text session line is has.1
session-no-fault grain laws text session (MissingEnd line) is limit has = has.3 session is
session-no-fault grain laws text session TooLong is limit has = absurd (omega arith)

-- a text has one fault
pub session_fault_is_unique : (grain : Grain) → FirstLineLaws → (text : List ℕ) (fault other : TextFault)
    → HasSessionFault grain text fault
    → HasSessionFault grain text other → fault ≡ other
session_fault_is_unique grain laws text (BadLine line) (BadLine other) has other_has =
    ap BadLine (session_fault_one_bad_line grain laws text line other has.1 other_has.1)
session_fault_is_unique grain laws text (BadLine line) (MissingEnd other) has other_has = absurd (other_has.2 line has.1)
session_fault_is_unique grain laws text (BadLine line) TooLong has other_has = absurd (omega arith)
session_fault_is_unique grain laws text (MissingEnd line) (BadLine other) has other_has = absurd (has.2 other other_has.1)
session_fault_is_unique grain laws text (MissingEnd line) (MissingEnd other) has other_has = ap MissingEnd (has.1 ∙ sym other_has.1)
session_fault_is_unique grain laws text (MissingEnd line) TooLong has other_has = absurd (omega arith)
session_fault_is_unique grain laws text TooLong (BadLine other) has other_has = absurd (omega arith)
session_fault_is_unique grain laws text TooLong (MissingEnd other) has other_has = absurd (omega arith)
session_fault_is_unique grain laws text TooLong TooLong has other_has = refl
