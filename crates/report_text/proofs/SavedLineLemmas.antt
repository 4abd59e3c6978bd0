-- The lines `saved` of texts, from those of their parts.
use Rattle.std.proofs.Common.{◌≡◌, ◌∙◌, inl, inr, ⊎_elim, ℕ, ◌<◌, ◌+◌, eqb, Bool, true, false, List, [], ◌∷◌, ◌++◌, map}
use Rattle.std.proofs.Common.{Option, Some, None}
use Rattle.std.proofs.Common.{length, get_or, drop, refl, sym, ap, subst, arith, append-nil, codes, decimal, ◌==◌}
use Rattle.std.specs.Prelude.{if◌then◌else◌}
use Rattle.std.specs.List.{flat_map, join_with_byte, AllByRecursion}
use Rattle.std.proofs.lemmas.List.{length_push}
use Rattle.frame_records.specs.declared.records.Records.{Records}
use Rattle.hhh_report.specs.declared.report.Report.{Report as ReportValue}
use Rattle.hhh_report.specs.declared.line.Line.{Line as LineValue}
use Rattle.report_text.specs.Printing.{mark_text, report_text, tail_text, text_line}
use Rattle.report_text.specs.SavedLines.{IsOtherLine, LinesShowSaves, ShowsSaves}
use Rattle.report_text.specs.Session.{before_line, line_feed, line_words, report_lines, report_words}
use Rattle.report_text.specs.Session.{cut_lines, skipped_words, words_text, whole_lines}
use Rattle.report_text.specs.declared.mark.Mark.{Mark}
use Rattle.report_text.specs.declared.mark.Mark.TheVariants.{Opened as OpenedMark, Saved as SavedMark}
use Rattle.report_text.specs.declared.session_line.SessionLine.{SessionLine}
use Rattle.report_text.specs.declared.session_line.SessionLine.TheVariants.{Opened, Line}
use Rattle.report_text.specs.declared.session_line.SessionLine.TheVariants.{Done, Saved, Frames, Skipped, End}
use Rattle.report_text.specs.declared.session_line.Skips.{Skips}
use Rattle.report_text.proofs.PrintedSessionLemmas.{printed_session_counts, printed_session_report}
use Rattle.report_text.proofs.WholeLineLemmas.{HasNoWholeLine, HasNoWholeLine-words, whole_lines-lines, whole_lines-rest}

-- a line begins with the letters of its name
line_text_first_letter : (letter : ℕ) (name : List ℕ) (words : List (List ℕ))
    → get_or (text_line ((letter ∷ name) ∷ words)) 0 0 ≡ letter
line_text_first_letter letter name [] = refl
line_text_first_letter letter name (word ∷ words) = refl

line_text_second_letter : (letter second : ℕ) (name : List ℕ) (words : List (List ℕ))
    → get_or (text_line ((letter ∷ second ∷ name) ∷ words)) 1 0 ≡ second
line_text_second_letter letter second name [] = refl
line_text_second_letter letter second name (word ∷ words) = refl

-- so a line of another name isn't one of a saved cut
other_first_letter_is_not_saved : (letter : ℕ) (name : List ℕ) (words : List (List ℕ)) → letter < 115
    → IsOtherLine (text_line ((letter ∷ name) ∷ words))
other_first_letter_is_not_saved letter name words below positions same =
    let first : letter ≡ 115 =
    sym (line_text_first_letter letter name words) ∙ ap (λ l. get_or l 0 0) same
    ∙ line_text_first_letter 115 (97 ∷ 118 ∷ 101 ∷ 100 ∷ []) (map decimal positions) in
    omega arith

later_first_letter_is_not_saved : (letter : ℕ) (name : List ℕ) (words : List (List ℕ)) → 115 < letter
    → IsOtherLine (text_line ((letter ∷ name) ∷ words))
later_first_letter_is_not_saved letter name words above positions same =
    let first : letter ≡ 115 =
    sym (line_text_first_letter letter name words) ∙ ap (λ l. get_or l 0 0) same
    ∙ line_text_first_letter 115 (97 ∷ 118 ∷ 101 ∷ 100 ∷ []) (map decimal positions) in
    omega arith

other_second_letter_is_not_saved : (second : ℕ) (name : List ℕ) (words : List (List ℕ)) → 97 < second
    → IsOtherLine (text_line ((115 ∷ second ∷ name) ∷ words))
other_second_letter_is_not_saved second name words above positions same =
    let letter : second ≡ 97 =
    sym (line_text_second_letter 115 second name words) ∙ ap (λ l. get_or l 1 0) same
    ∙ line_text_second_letter 115 97 (118 ∷ 101 ∷ 100 ∷ []) (map decimal positions) in
    omega arith

-- a line that isn't one of a saved cut
abbrev IsUnsavedLine : SessionLine → Type 0
IsUnsavedLine line = IsOtherLine (words_text line)

-- lines of this kind before others show no more saves
unsaved_lines_before_others : (lines : List SessionLine) (behind saves : List (List ℕ))
    → AllByRecursion IsUnsavedLine lines
    → LinesShowSaves behind saves → LinesShowSaves (map words_text lines ++ behind) saves
unsaved_lines_before_others [] behind saves all shows = shows
unsaved_lines_before_others (line ∷ lines) behind saves all shows =
    inl (all.0, unsaved_lines_before_others lines behind saves all.1 shows)

unsaved_lines_up_to_done : (lines : List LineValue) → AllByRecursion IsUnsavedLine (map Line lines ++ Done ∷ [])
unsaved_lines_up_to_done [] = (other_first_letter_is_not_saved 100 (drop 1 (codes "done")) [] (omega arith), tt)
unsaved_lines_up_to_done (line ∷ lines) = (
  other_first_letter_is_not_saved 108 (drop 1 (codes "line")) (report_words line) (omega arith),
  unsaved_lines_up_to_done lines,
)

unsaved_lines_of_report : (report : ReportValue) → AllByRecursion IsUnsavedLine (report_lines report)
unsaved_lines_of_report report = (
  other_first_letter_is_not_saved 114 (drop 1 (codes "report")) [] (omega arith),
  (
    other_first_letter_is_not_saved 97 (drop 1 (codes "at")) (map decimal report.positions) (omega arith),
    (
      later_first_letter_is_not_saved 116 (drop 1 (codes "total")) (decimal report.total ∷ []) (omega arith),
      (
        later_first_letter_is_not_saved 116 (drop 1 (codes "threshold")) (decimal report.threshold ∷ []) (omega arith),
        unsaved_lines_up_to_done report.lines,
      ),
    ),
  ),
)

-- a report shows no save
pub report_shows_no_saved_line : (report : ReportValue) (rest : List ℕ) (saves : List (List ℕ)) → ShowsSaves rest saves
    → ShowsSaves (report_text report ++ rest) saves
report_shows_no_saved_line report rest saves shows =
    subst (λ lines. LinesShowSaves lines saves)
    (sym (ap (λ text. whole_lines (text ++ rest)) (sym (printed_session_report report))
    ∙ whole_lines-lines (report_lines report) rest))
    (unsaved_lines_before_others (report_lines report) (whole_lines rest) saves (unsaved_lines_of_report report) shows)

one_line_before_saved_ones : (line : SessionLine) (rest : List ℕ)
    → whole_lines (words_text line ++ rest) ≡ words_text line ∷ whole_lines rest
one_line_before_saved_ones line rest =
    ap (λ text. whole_lines (text ++ rest)) (sym (append-nil (words_text line))) ∙ whole_lines-lines (line ∷ []) rest

-- a line of positions is a whole line
pub marked_line_is_whole : (mark : Mark) (positions rest : List ℕ)
    → whole_lines (mark_text mark positions ++ rest) ≡ mark_text mark positions ∷ whole_lines rest
marked_line_is_whole OpenedMark positions rest = one_line_before_saved_ones (Opened positions) rest
marked_line_is_whole SavedMark positions rest = one_line_before_saved_ones (Saved positions) rest

-- nor does the first line of a session
pub opened_line_is_not_saved : (positions rest : List ℕ) (saves : List (List ℕ)) → ShowsSaves rest saves
    → ShowsSaves (mark_text OpenedMark positions ++ rest) saves
opened_line_is_not_saved positions rest saves shows =
    subst (λ lines. LinesShowSaves lines saves) (sym (one_line_before_saved_ones (Opened positions) rest))
    (inl (other_first_letter_is_not_saved 111 (drop 1 (codes "opened")) (map decimal positions) (omega arith), shows))

-- a line `saved` shows one more
pub saved_line_shows_its_save : (positions rest : List ℕ) (saves : List (List ℕ)) → ShowsSaves rest saves
    → ShowsSaves (mark_text SavedMark positions ++ rest) (positions ∷ saves)
saved_line_shows_its_save positions rest saves shows =
    subst (λ lines. LinesShowSaves lines (positions ∷ saves)) (sym (one_line_before_saved_ones (Saved positions) rest))
    (inr (positions, saves, refl, refl, shows))

-- a frame that was cut is no save
unsaved_end_line : IsUnsavedLine End
unsaved_end_line = other_first_letter_is_not_saved 101 (drop 1 (codes "end")) [] (omega arith)

unsaved_lines_of_cut : (place : Option ℕ) → AllByRecursion IsUnsavedLine (cut_lines place ++ End ∷ [])
unsaved_lines_of_cut None = (unsaved_end_line, tt)
unsaved_lines_of_cut (Some place) =
    (other_first_letter_is_not_saved 99 (drop 1 (codes "cut")) (decimal place ∷ []) (omega arith), (unsaved_end_line, tt))

-- the last lines show none
pub last_lines_show_no_saved_one : (records : Records) → ShowsSaves (tail_text records) []
last_lines_show_no_saved_one records =
    let skips : Skips = record { not_ipv4 = records.not_ipv4; short = records.short; bad_header = records.bad_header } in
    let lines : List SessionLine = Frames records.frames ∷ Skipped skips ∷ (cut_lines records.cut ++ End ∷ []) in
    subst (λ l. LinesShowSaves l [])
    (sym (ap whole_lines
    (sym (printed_session_counts (words_text (Frames records.frames)) (words_text (Skipped skips)) records.cut)
    ∙ sym (append-nil (flat_map words_text lines))) ∙ whole_lines-lines lines []))
    (unsaved_lines_before_others lines [] [] (
      other_first_letter_is_not_saved 102 (drop 1 (codes "frames")) (decimal records.frames ∷ []) (omega arith),
      (
        other_second_letter_is_not_saved 107 (drop 2 (codes "skipped")) (skipped_words skips) (omega arith),
        unsaved_lines_of_cut records.cut,
      ),
    ) refl)

-- the whole lines of a front are the first ones of the text
line_of_front_or_not : (ends : Bool) (byte : ℕ) (front whole more : List (List ℕ)) → whole ≡ front ++ more
    → (after : List (List ℕ)) × ((if ends then (byte ∷ []) ∷ whole else before_line byte whole)
    ≡ (if ends then (byte ∷ []) ∷ front else before_line byte front) ++ after)
line_of_front_or_not true byte front whole more same = (more, ap (λ l. (byte ∷ []) ∷ l) same)
line_of_front_or_not false byte [] whole more same = (before_line byte whole, refl)
line_of_front_or_not false byte (line ∷ front) whole more same = (more, ap (before_line byte) same)

lines_of_front_come_first : (front rest : List ℕ)
    → (more : List (List ℕ)) × (whole_lines (front ++ rest) ≡ whole_lines front ++ more)
lines_of_front_come_first [] rest = (whole_lines rest, refl)
lines_of_front_come_first (byte ∷ front) rest =
    let before = lines_of_front_come_first front rest in
    line_of_front_or_not (byte == line_feed) byte (whole_lines front) (whole_lines (front ++ rest)) before.0 before.1

first_lines_show_no_saved_one : (lines others : List (List ℕ)) → LinesShowSaves (lines ++ others) []
    → LinesShowSaves lines []
first_lines_show_no_saved_one [] others shows = refl
first_lines_show_no_saved_one (line ∷ lines) others shows =
    ⊎_elim (λ other. inl (other.0, first_lines_show_no_saved_one lines others other.1)) (λ saved. absurd (cc saved.3)) shows

-- so a front of a text that shows no save shows none
pub front_shows_no_saved_line : (front rest : List ℕ) → ShowsSaves (front ++ rest) [] → ShowsSaves front []
front_shows_no_saved_line front rest shows =
    let lines = lines_of_front_come_first front rest in
    first_lines_show_no_saved_one (whole_lines front) lines.0 (subst (λ l. LinesShowSaves l []) lines.1 shows)

front_of_line_has_no_whole_line : (line front rest : List ℕ) → HasNoWholeLine line → line ++ 10 ∷ [] ≡ front ++ rest
    → length front < length line + 1 → HasNoWholeLine front
front_of_line_has_no_whole_line line [] rest none same short = tt
front_of_line_has_no_whole_line [] (byte ∷ front) rest none same short = absurd (omega arith)
front_of_line_has_no_whole_line (first ∷ line) (byte ∷ front) rest none same short = (
  subst (λ b. eqb b 10 ≡ false) (ap (λ l. get_or l 0 0) same) none.0,
  front_of_line_has_no_whole_line line front rest none.1 (ap (drop 1) same) (omega arith),
)

strict_front_of_one_line : (line : SessionLine) (front rest : List ℕ) → words_text line ≡ front ++ rest
    → length front < length (words_text line) → whole_lines front ≡ []
strict_front_of_one_line line front rest same short =
    whole_lines-rest front (front_of_line_has_no_whole_line (join_with_byte 32 (line_words line)) front rest (HasNoWholeLine-words line)
    same (omega (arith, short, length_push (join_with_byte 32 (line_words line)) 10)))

-- a strict front of a line of positions has no whole line
pub strict_front_has_no_whole_line : (mark : Mark) (positions front rest : List ℕ)
    → mark_text mark positions ≡ front ++ rest
    → length front < length (mark_text mark positions) → whole_lines front ≡ []
strict_front_has_no_whole_line OpenedMark positions front rest same short =
    strict_front_of_one_line (Opened positions) front rest same short
strict_front_has_no_whole_line SavedMark positions front rest same short =
    strict_front_of_one_line (Saved positions) front rest same short
