-- A cursor over the lines of a text.
use Rattle.std.proofs.Common.{◌≡◌, ℕ, ◌+◌, ◌<◌, List, [], ◌∷◌, ◌++◌, map, length, take, drop, sym, ap, ◌∙◌}
use Rattle.std.proofs.Common.{subst, arith, append_assoc, append-nil, take-append-drop, length-append}
use Rattle.std.specs.List.{flat_map}
use Rattle.std.proofs.Math.Seq.{length-take-le, take-add, take-append_seam}
use Rattle.prefix_lattice.specs.declared.grain.Grain.{Grain}
use Rattle.report_text.specs.Session.{IsSessionLine, IsTextSession, words_text, line_words}
use Rattle.report_text.specs.Session.{session_lines, whole_lines}
use Rattle.report_text.specs.Session.{HasSessionFault}
use Rattle.report_text.specs.Stages.{Stage, IsStageBeforeEnd, FollowsStage, words_in}
use Rattle.report_text.specs.LineCursor.{HasReadLines, HasReadToStage, ReadsLine}
use Rattle.report_text.specs.declared.line_cursor.LineCursor.{LineCursor}
use Rattle.report_text.specs.declared.session.Session.{Session}
use Rattle.report_text.specs.declared.session_line.SessionLine.{SessionLine}
use Rattle.report_text.specs.declared.session_fault.TextFault.TheVariants.{BadLine, MissingEnd}
use Rattle.report_text.proofs.ByteCutLemmas.{LacksCutByte, IsByteCut}
use Rattle.report_text.proofs.WordListLemmas.{word_list_in_line_text, word_list_tells_line_text}
use Rattle.report_text.proofs.WholeLineLemmas.{whole_lines-line, whole_lines-rest}
use Rattle.report_text.proofs.WholeLineLemmas.{whole_lines-lines}
use Rattle.report_text.proofs.FirstLineLemmas.{FirstLineLaws, first_lines_with_one_text}
use Rattle.report_text.proofs.SessionFaultLemmas.{session_fault_bad_line, session_fault_unfinished}
use Rattle.report_text.proofs.SessionFaultLemmas.{session_fault_byte_follows}

-- a text is the lines that were read and the rest
cursor_text_and_rest : (grain : Grain) (cursor : LineCursor) (read : List SessionLine) → HasReadLines grain cursor read
    → cursor.text.now ≡ flat_map words_text read ++ drop cursor.at cursor.text.now
cursor_text_and_rest grain cursor read has =
    sym (take-append-drop cursor.at cursor.text.now) ∙ ap (λ l. l ++ drop cursor.at cursor.text.now) has.text

-- the whole lines of a text are the lines that were read and those of the rest
cursor_lines_and_rest : (grain : Grain) (cursor : LineCursor) (read : List SessionLine) → HasReadLines grain cursor read
    → whole_lines cursor.text.now ≡ map words_text read ++ whole_lines (drop cursor.at cursor.text.now)
cursor_lines_and_rest grain cursor read has =
    ap whole_lines (cursor_text_and_rest grain cursor read has)
    ∙ whole_lines-lines read (drop cursor.at cursor.text.now)

-- a byte after the last line of a session
pub cursor_finds_more_bytes : (grain : Grain) (cursor : LineCursor) (session : Session)
    → HasReadLines grain cursor (session_lines session) → IsTextSession grain session
    → cursor.at < length cursor.text.now → HasSessionFault grain cursor.text.now (BadLine (cursor.lines + 1))
cursor_finds_more_bytes grain cursor session has is more =
    let text = cursor.text.now in
    let before : length (take cursor.at text) ≡ cursor.at = length-take-le cursor.at text cursor.within in
    subst (λ n. HasSessionFault grain text (BadLine (n + 1))) (sym has.count)
    (session_fault_byte_follows grain text session (drop cursor.at text) cursor.limit is (cursor_text_and_rest grain cursor (session_lines session) has)
    (omega (arith, before, ap length has.text)))

-- no whole line remains
pub cursor_finds_no_end : (grain : Grain) → FirstLineLaws → (cursor : LineCursor) (stage : Stage)
    → IsStageBeforeEnd stage → HasReadToStage grain cursor stage
    → LacksCutByte 10 (drop cursor.at cursor.text.now)
    → HasSessionFault grain cursor.text.now (MissingEnd (cursor.lines + 1))
cursor_finds_no_end grain laws cursor stage is_open stands none =
    let text = cursor.text.now in
    subst (λ n. HasSessionFault grain text (MissingEnd (n + 1))) (sym stands.has_read.count)
    (session_fault_unfinished grain laws text stands.read stage cursor.limit stands.has_read.are_lines
    (cursor_lines_and_rest grain cursor stands.read stands.has_read
    ∙ ap (λ l. map words_text stands.read ++ l) (whole_lines-rest (drop cursor.at text) none)
    ∙ append-nil (map words_text stands.read))
    stands.leads is_open)

-- the next line is not a line of a session
pub cursor_finds_bad_line : (grain : Grain) → FirstLineLaws → (cursor : LineCursor) (at : ℕ) (stage : Stage)
    → HasReadToStage grain cursor stage
    → IsByteCut 10 at (drop cursor.at cursor.text.now)
    → ((line : SessionLine) → IsSessionLine grain line → words_in (take at (drop cursor.at cursor.text.now)) ≡ line_words line → ⊥)
    → HasSessionFault grain cursor.text.now (BadLine (cursor.lines + 1))
cursor_finds_bad_line grain laws cursor at stage stands cut refused =
    let text = cursor.text.now in
    let rest = drop cursor.at text in
    let line = take at rest in
    subst (λ n. HasSessionFault grain text (BadLine (n + 1))) (sym stands.has_read.count)
    (session_fault_bad_line grain laws text stands.read stage (line ++ 10 ∷ []) (whole_lines (drop 1 (drop at rest))) cursor.limit
    stands.has_read.are_lines
    (cursor_lines_and_rest grain cursor stands.read stands.has_read
    ∙ ap (λ l. map words_text stands.read ++ l)
    (ap whole_lines cut.joined ∙ whole_lines-line line (drop 1 (drop at rest)) cut.lacks))
    stands.leads
    (λ on. refused on.line on.is_line (word_list_in_line_text on.line line on.text_is)))

-- the line that was read last may not come next
pub cursor_refuses_line : (grain : Grain) → FirstLineLaws
    → (old new : LineCursor) (line : SessionLine) (stage : Stage) → HasReadToStage grain old stage
    → ReadsLine grain old new line → ((next : Stage) → FollowsStage stage line next → ⊥)
    → HasSessionFault grain new.text.now (BadLine new.lines)
cursor_refuses_line grain laws old new line stage stands reads none =
    let text = new.text.now in
    let rest = drop new.at text in
    let read = stands.read in
    let spelled : text ≡ (flat_map words_text read ++ words_text line) ++ rest =
    sym (take-append-drop new.at text)
    ∙ ap (λ l. l ++ rest) (reads.text ∙ ap (λ l. l ++ words_text line) stands.has_read.text) in
    let lines : whole_lines text ≡ map words_text read ++ words_text line ∷ whole_lines rest =
    ap whole_lines (spelled ∙ append_assoc (flat_map words_text read) (words_text line) rest)
    ∙ whole_lines-lines read (words_text line ++ rest)
    ∙ ap (λ l. map words_text read ++ l)
    (ap (λ l. whole_lines (l ++ rest)) (sym (append-nil (words_text line)))
    ∙ whole_lines-lines (line ∷ []) rest) in
    let number : new.lines ≡ length read + 1 = omega (arith, reads.count, stands.has_read.count) in
    subst (λ n. HasSessionFault grain text (BadLine n)) (sym number)
    (session_fault_bad_line grain laws text read stage (words_text line) (whole_lines rest) new.limit stands.has_read.are_lines lines stands.leads
    (λ on. none on.next
    (subst (λ k. FollowsStage stage k on.next) (first_lines_with_one_text grain laws on.line line on.is_line reads.is_line on.text_is)
    on.follows)))

-- one more line of a text
cursor_takes_one_line : (text : List ℕ) (before at : ℕ) → IsByteCut 10 at (drop before text)
    → take (before + (at + 1)) text ≡ take before text ++ (take at (drop before text) ++ 10 ∷ [])
cursor_takes_one_line text before at cut =
    let rest = drop before text in
    let front : length (take at rest) ≡ at = length-take-le at rest (let within = cut.within in omega arith) in
    let joined : rest ≡ (take at rest ++ 10 ∷ []) ++ drop 1 (drop at rest) =
    cut.joined ∙ sym (append_assoc (take at rest) (10 ∷ []) (drop 1 (drop at rest))) in
    take-add before (at + 1) text
    ∙ ap (λ l. take before text ++ l)
    (ap (take (at + 1)) joined
    ∙ ap (λ n. take n ((take at rest ++ 10 ∷ []) ++ drop 1 (drop at rest)))
    (omega (arith, front, length-append (take at rest) (10 ∷ [])))
    ∙ take-append_seam (take at rest ++ 10 ∷ []) (drop 1 (drop at rest)))

-- the next line was read
pub cursor_reads_next_line : (grain : Grain) (old new : LineCursor) (at : ℕ) (line : SessionLine) → new.text ≡ old.text
    → new.at ≡ old.at + (at + 1) → new.lines ≡ old.lines + 1 → IsByteCut 10 at (drop old.at old.text.now)
    → IsSessionLine grain line
    → words_in (take at (drop old.at old.text.now)) ≡ line_words line → ReadsLine grain old new line
cursor_reads_next_line grain old new at line same place count cut is words =
    let text = old.text.now in
    record {
      same = same;
      is_line = is;
      text =
          ap (λ t. take new.at t.now) same ∙ ap (λ n. take n text) place ∙ cursor_takes_one_line text old.at at cut
          ∙ ap (λ l. take old.at text ++ l) (sym (word_list_tells_line_text line (take at (drop old.at text)) words));
      count = count;
    }
