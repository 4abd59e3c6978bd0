-- The whole lines of a text.
use Rattle.std.proofs.Common.{◌≡◌, ℕ, ◌≤◌, eqb, false, cond, List, [], ◌∷◌, ◌++◌, map}
use Rattle.std.proofs.Common.{refl, ap, ◌∙◌, arith, append_assoc}
use Rattle.std.specs.List.{flat_map, join_with_byte, AllByRecursion}
use Rattle.std.proofs.lemmas.Bool.{ne_eqb}
use Rattle.report_text.specs.Session.{line_words, words_text, whole_lines}
use Rattle.report_text.specs.Session.{before_line}
use Rattle.report_text.specs.declared.session_line.SessionLine.{SessionLine}
use Rattle.report_text.proofs.TextWordLemmas.{IsTextWord}
use Rattle.report_text.proofs.WordListLemmas.{word_list_of_line}

-- no byte of the text is a line feed
abbrev pub HasNoWholeLine : List ℕ → Type 0
HasNoWholeLine text = AllByRecursion (λ byte. eqb byte 10 ≡ false) text

-- a line and its line feed are the first whole line
pub whole_lines-line : (line rest : List ℕ) → HasNoWholeLine line
    → whole_lines (line ++ 10 ∷ rest) ≡ (line ++ 10 ∷ []) ∷ whole_lines rest
whole_lines-line [] rest none = refl
whole_lines-line (byte ∷ line) rest none =
    ap (λ b. cond b ((byte ∷ []) ∷ whole_lines (line ++ 10 ∷ rest)) (before_line byte (whole_lines (line ++ 10 ∷ rest))))
    none.0
    ∙ ap (before_line byte) (whole_lines-line line rest none.1)

-- what has no line feed has no whole line
pub whole_lines-rest : (text : List ℕ) → HasNoWholeLine text → whole_lines text ≡ []
whole_lines-rest [] none = refl
whole_lines-rest (byte ∷ text) none =
    ap (λ b. cond b ((byte ∷ []) ∷ whole_lines text) (before_line byte (whole_lines text))) none.0
    ∙ ap (before_line byte) (whole_lines-rest text none.1)

HasNoWholeLine-append : (text other : List ℕ) → HasNoWholeLine text → HasNoWholeLine other
    → HasNoWholeLine (text ++ other)
HasNoWholeLine-append [] other none other_none = other_none
HasNoWholeLine-append (byte ∷ text) other none other_none = (none.0, HasNoWholeLine-append text other none.1 other_none)

HasNoWholeLine-word : (word : List ℕ) → IsTextWord word → HasNoWholeLine word
HasNoWholeLine-word [] is = tt
HasNoWholeLine-word (byte ∷ word) is = (ne_eqb byte 10 (λ same. let great : 46 ≤ byte = is.0 in omega arith), HasNoWholeLine-word word is.1)

HasNoWholeLine-join : (words : List (List ℕ)) → AllByRecursion IsTextWord words
    → HasNoWholeLine (join_with_byte 32 words)
HasNoWholeLine-join [] all = tt
HasNoWholeLine-join (word ∷ []) all = HasNoWholeLine-word word all.0
HasNoWholeLine-join (word ∷ second ∷ words) all =
    HasNoWholeLine-append word (32 ∷ join_with_byte 32 (second ∷ words)) (HasNoWholeLine-word word all.0)
    (refl, HasNoWholeLine-join (second ∷ words) all.1)

-- a line of a session has one line feed, at its end
pub HasNoWholeLine-words : (line : SessionLine) → HasNoWholeLine (join_with_byte 32 (line_words line))
HasNoWholeLine-words line = HasNoWholeLine-join (line_words line) (word_list_of_line line)

whole_line_groups : (line end rest behind : List ℕ)
    → ((line ++ end) ++ rest) ++ behind ≡ line ++ (end ++ (rest ++ behind))
whole_line_groups line end rest behind = simp append_assoc

-- lines of a session are the first whole lines
pub whole_lines-lines : (lines : List SessionLine) (rest : List ℕ)
    → whole_lines (flat_map words_text lines ++ rest) ≡ map words_text lines ++ whole_lines rest
whole_lines-lines [] rest = refl
whole_lines-lines (line ∷ lines) rest =
    ap whole_lines (whole_line_groups (join_with_byte 32 (line_words line)) (10 ∷ []) (flat_map words_text lines) rest)
    ∙ whole_lines-line (join_with_byte 32 (line_words line)) (flat_map words_text lines ++ rest) (HasNoWholeLine-words line)
    ∙ ap (λ l. words_text line ∷ l) (whole_lines-lines lines rest)
