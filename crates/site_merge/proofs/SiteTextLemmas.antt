-- The text of a report of sites, put together part by part.
use Rattle.std.proofs.Common.{◌≡◌, ◌+◌, ◌≤◌, ◌++◌, ◌∙◌, ℕ, List, [], ◌∷◌, refl, sym, ap, arith, map, length, codes, decimal, append_assoc, append-nil}
use Rattle.std.specs.List.{flat_map, range_with_len}
use Rattle.std.proofs.lemmas.Grind.{flat_map-append}
use Rattle.std.proofs.lemmas.Fmt.{length-decimal-le}
use Rattle.std.proofs.lemmas.List.{length-append}
use Rattle.std.proofs.lemmas.List.FromFn.{map-range_with_len_more}
use Rattle.report_text.specs.{lines_text}
use Rattle.site_merge.specs.SiteText.{site_lines, sites_text}
use Rattle.site_merge.specs.declared.reporting.SiteReport.{SiteReport}

site_text_same : (numbers : List ℕ) → map (λ n. n) numbers ≡ numbers
site_text_same [] = refl
site_text_same (number ∷ numbers) = ap (λ l. number ∷ l) (site_text_same numbers)

-- one more number of a range
site_text_places : (count : ℕ) → range_with_len 0 (count + 1) ≡ range_with_len 0 count ++ count ∷ []
site_text_places count =
    sym (site_text_same (range_with_len 0 (count + 1))) ∙ map-range_with_len_more (λ n. n) 0 count count (omega arith)
    ∙ ap (λ l. l ++ count ∷ []) (site_text_same (range_with_len 0 count))

-- the lines of the sites, with one more
pub site_text_one_more : (line : ℕ → List ℕ) (old before new : List ℕ) (count : ℕ) → before ≡ old ++ flat_map line (range_with_len 0 count)
    → new ≡ before ++ line count → new ≡ old ++ flat_map line (range_with_len 0 (count + 1))
site_text_one_more line old before new count is_before is_new =
    is_new ∙ ap (λ l. l ++ line count) is_before ∙ append_assoc old (flat_map line (range_with_len 0 count)) (line count)
    ∙ ap (λ l. old ++ l)
    (sym (ap (flat_map line) (site_text_places count) ∙ flat_map-append line (range_with_len 0 count) (count ∷ [])
    ∙ ap (λ l. flat_map line (range_with_len 0 count) ++ l) (append-nil (line count))))

-- parts of the text, in other groups
site_text_groups : (s count end sites t total h threshold lines e : List ℕ)
    → ((((((([] ++ s ++ count) ++ end) ++ sites) ++ t ++ total) ++ (end ++ h) ++ threshold) ++ end) ++ lines) ++ e
    ≡ ((((((s ++ count) ++ end) ++ sites) ++ ((t ++ total) ++ end)) ++ ((h ++ threshold) ++ end)) ++ lines) ++ e
site_text_groups s count end sites t total h threshold lines e = simp append_assoc

pub site_text_parts : (made : SiteReport) (a b c d e f g new : List ℕ)
    → a ≡ [] ++ codes "sites " ++ decimal made.sites → b ≡ a ++ codes "\n" → c ≡ b ++ site_lines made
    → d ≡ c ++ codes "total " ++ decimal made.report.total → e ≡ d ++ codes "\nthreshold " ++ decimal made.report.threshold
    → f ≡ e ++ codes "\n" → g ≡ f ++ lines_text made.report.lines → new ≡ g ++ codes "end\n" → new ≡ sites_text made
site_text_parts made a b c d e f g new is_a is_b is_c is_d is_e is_f is_g is_new =
    is_new
    ∙ ap (λ l. l ++ codes "end\n")
    (is_g ∙ ap (λ l. l ++ lines_text made.report.lines)
    (is_f ∙ ap (λ l. l ++ codes "\n")
    (is_e ∙ ap (λ l. l ++ codes "\nthreshold " ++ decimal made.report.threshold)
    (is_d ∙ ap (λ l. l ++ codes "total " ++ decimal made.report.total)
    (is_c ∙ ap (λ l. l ++ site_lines made) (is_b ∙ ap (λ l. l ++ codes "\n") is_a))))))
    ∙ site_text_groups (codes "sites ") (decimal made.sites) (codes "\n") (site_lines made) (codes "total ") (decimal made.report.total)
    (codes "threshold ") (decimal made.report.threshold) (lines_text made.report.lines) (codes "end\n")

-- the name of a site's line is short
pub site_text_name_is_short : (start name : List ℕ) (site : ℕ) → start ≡ [] → site ≤ 8 → name ≡ start ++ codes "site " ++ decimal site
    → length name ≤ 32
site_text_name_is_short start name site empty few is =
    let digits = length-decimal-le 20 site (omega arith) (omega (arith, few)) (omega (arith, few)) in
    let long : length name ≡ length (codes "site " ++ decimal site) = ap length (is ∙ ap (λ l. l ++ codes "site " ++ decimal site) empty) in
    let parts = length-append (codes "site ") (decimal site) in
    omega (arith, digits, long, parts)
