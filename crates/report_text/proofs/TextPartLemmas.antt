-- Texts that are put together part by part.
use Rattle.std.proofs.Common.{◌≡◌, ℕ, List, [], ◌∷◌, ◌++◌, map, codes, decimal, ap, ◌∙◌, append_assoc, append-nil}
use Rattle.std.specs.List.{join_with_byte, flat_map}
use Rattle.report_text.specs.Printing.{text_line}

-- a number and the space before it
abbrev pub spaced_text_part : ℕ → List ℕ
spaced_text_part number = 32 ∷ decimal number

-- joined words are the first one, and the others with a space before each
pub spaced_text_parts_join : (name numbers : List ℕ)
    → name ++ flat_map spaced_text_part numbers ≡ join_with_byte 32 (name ∷ map decimal numbers)
spaced_text_parts_join name [] = append-nil name
spaced_text_parts_join name (number ∷ numbers) = ap (λ l. name ++ 32 ∷ l) (spaced_text_parts_join (decimal number) numbers)

-- a line of positions
pub text_parts_of_positions : (old a b new name numbers : List ℕ) → a ≡ old ++ name
    → b ≡ a ++ flat_map spaced_text_part numbers
    → new ≡ b ++ codes "\n"
    → new ≡ old ++ text_line (name ∷ map decimal numbers)
text_parts_of_positions old a b new name numbers is_a is_b is_new =
    let regroup : ((old ++ name) ++ flat_map spaced_text_part numbers) ++ codes "\n"
    ≡ old ++ ((name ++ flat_map spaced_text_part numbers) ++ codes "\n") =
    simp append_assoc in
    is_new ∙ ap (λ l. l ++ codes "\n") (is_b ∙ ap (λ l. l ++ flat_map spaced_text_part numbers) is_a) ∙ regroup
    ∙ ap (λ l. old ++ (l ++ codes "\n")) (spaced_text_parts_join name numbers)

-- parts of a line of a report, in other groups
text_part_line_groups : (old name prefix space lo hi end : List ℕ)
    → ((((old ++ name) ++ prefix) ++ space ++ lo) ++ space ++ hi) ++ end
    ≡ old ++ ((name ++ (prefix ++ (space ++ (lo ++ (space ++ hi))))) ++ end)
text_part_line_groups old name prefix space lo hi end = simp append_assoc

-- a line of a report
pub text_parts_of_line : (old a b c d new prefix lo hi : List ℕ)
    → a ≡ old ++ codes "line " → b ≡ a ++ prefix → c ≡ b ++ codes " " ++ lo → d ≡ c ++ codes " " ++ hi
    → new ≡ d ++ codes "\n"
    → new ≡ old ++ text_line (codes "line" ∷ prefix ∷ lo ∷ hi ∷ [])
text_parts_of_line old a b c d new prefix lo hi is_a is_b is_c is_d is_new =
    is_new
    ∙ ap (λ l. l ++ codes "\n")
    (is_d
    ∙ ap (λ l. l ++ codes " " ++ hi)
    (is_c ∙ ap (λ l. l ++ codes " " ++ lo) (is_b ∙ ap (λ l. l ++ prefix) is_a)))
    ∙ text_part_line_groups old (codes "line ") prefix (codes " ") lo hi (codes "\n")

-- parts of the last lines, in other groups
text_part_tail_groups : (old f frames end s not_ipv4 space short bad_header cut e : List ℕ)
    → ((((((old ++ f ++ frames) ++ (end ++ s) ++ not_ipv4) ++ space ++ short) ++ space ++ bad_header) ++ end) ++ cut) ++ e
    ≡ old
    ++ (((((f ++ frames) ++ end) ++ ((s ++ (not_ipv4 ++ (space ++ (short ++ (space ++ bad_header))))) ++ end)) ++ cut)
    ++ e)
text_part_tail_groups old f frames end s not_ipv4 space short bad_header cut e = simp append_assoc

-- the last lines
pub text_parts_of_tail : (old a b c d e f new frames not_ipv4 short bad_header cut : List ℕ)
    → a ≡ old ++ codes "frames " ++ frames → b ≡ a ++ codes "\nskipped " ++ not_ipv4 → c ≡ b ++ codes " " ++ short
    → d ≡ c ++ codes " " ++ bad_header → e ≡ d ++ codes "\n" → f ≡ e ++ cut → new ≡ f ++ codes "end\n"
    → new
    ≡ old
    ++ (text_line (codes "frames" ∷ frames ∷ [])
    ++ text_line (codes "skipped" ∷ not_ipv4 ∷ short ∷ bad_header ∷ []) ++ cut ++ text_line (codes "end" ∷ []))
text_parts_of_tail old a b c d e f new frames not_ipv4 short bad_header cut is_a is_b is_c is_d is_e is_f is_new =
    is_new
    ∙ ap (λ l. l ++ codes "end\n")
    (is_f ∙ ap (λ l. l ++ cut)
    (is_e ∙ ap (λ l. l ++ codes "\n")
    (is_d ∙ ap (λ l. l ++ codes " " ++ bad_header)
    (is_c ∙ ap (λ l. l ++ codes " " ++ short) (is_b ∙ ap (λ l. l ++ codes "\nskipped " ++ not_ipv4) is_a)))))
    ∙ text_part_tail_groups old (codes "frames ") frames (codes "\n") (codes "skipped ") not_ipv4 (codes " ") short bad_header
    cut (codes "end\n")

-- parts of a report, in other groups
text_part_report_groups : (old r positions t total end h threshold lines d : List ℕ)
    → ((((((old ++ r) ++ positions) ++ t ++ total) ++ (end ++ h) ++ threshold) ++ end) ++ lines) ++ d
    ≡ old ++ (((((r ++ positions) ++ ((t ++ total) ++ end)) ++ ((h ++ threshold) ++ end)) ++ lines) ++ d)
text_part_report_groups old r positions t total end h threshold lines d = simp append_assoc

-- a report
pub text_parts_of_report : (old a b c d e f new positions total threshold lines : List ℕ)
    → a ≡ old ++ codes "report\n" → b ≡ a ++ positions → c ≡ b ++ codes "total " ++ total
    → d ≡ c ++ codes "\nthreshold " ++ threshold → e ≡ d ++ codes "\n" → f ≡ e ++ lines
    → new ≡ f ++ codes "done\n"
    → new
    ≡ old
    ++ (text_line (codes "report" ∷ []) ++ positions ++ text_line (codes "total" ∷ total ∷ [])
    ++ text_line (codes "threshold" ∷ threshold ∷ []) ++ lines ++ text_line (codes "done" ∷ []))
text_parts_of_report old a b c d e f new positions total threshold lines is_a is_b is_c is_d is_e is_f is_new =
    is_new ∙ ap (λ l. l ++ codes "done\n")
    (is_f ∙ ap (λ l. l ++ lines)
    (is_e ∙ ap (λ l. l ++ codes "\n") (is_d ∙ ap (λ l. l ++ codes "\nthreshold " ++ threshold)
    (is_c ∙ ap (λ l. l ++ codes "total " ++ total) (is_b ∙ ap (λ l. l ++ positions) is_a)))))
    ∙ text_part_report_groups old (codes "report\n") positions (codes "total ") total (codes "\n") (codes "threshold ")
    threshold lines (codes "done\n")
