-- A text that is made part by part.
use Rattle.std.proofs.Common.{◌≡◌, ◌+◌, ◌<◌, ℕ, List, [], ◌∷◌, ◌++◌, codes, decimal, ap, ◌∙◌, append_assoc, fold, get_or}
use Rattle.std.proofs.Common.{length, map, sym, take}
use Rattle.std.proofs.lemmas.List.{map-append, take_more}
use Rattle.std.proofs.lemmas.List.Sums.{fold-append}
use Rattle.prefix_lattice.specs.{NodeValue, RecordValue, prefix_at, prefix_key}
use Rattle.space_saving.specs.{TableAdd, after_step}
use Rattle.shard_state.specs.{records_table}
use Rattle.hhh_engine.specs.Weigh.{weight_text}

-- parts that follow one another, as one text
weight_text_is_grouped : (low-name low high-name high total-name total end : List ℕ)
    → ((([] ++ low-name ++ low) ++ high-name ++ high) ++ total-name ++ total) ++ end
    ≡ low-name ++ low ++ high-name ++ high ++ total-name ++ total ++ end
weight_text_is_grouped low-name low high-name high total-name total end = simp append_assoc

-- the three lines that report a weight
pub weight_text_of_three_lines : (start first second third all : List ℕ) (low high total : ℕ) → start ≡ []
    → first ≡ start ++ codes "low " ++ decimal low → second ≡ first ++ codes "\nhigh " ++ decimal high
    → third ≡ second ++ codes "\ntotal " ++ decimal total → all ≡ third ++ codes "\n" → all ≡ weight_text low high total
weight_text_of_three_lines start first second third all low high total is_start is_first is_second is_third is_all =
    is_all
    ∙ ap (λ text. text ++ codes "\n") (is_third
    ∙ ap (λ text. text ++ codes "\ntotal " ++ decimal total) (is_second
    ∙ ap (λ text. text ++ codes "\nhigh " ++ decimal high) (is_first
    ∙ ap (λ text. text ++ codes "low " ++ decimal low) is_start)))
    ∙ weight_text_is_grouped (codes "low ") (decimal low) (codes "\nhigh ") (decimal high) (codes "\ntotal ") (decimal total)
    (codes "\n")

-- what a record adds to the table at a node
abbrev pub weight_text_add : NodeValue → RecordValue → TableAdd
weight_text_add node rec = record { key = prefix_key (prefix_at node rec); weight = rec.weight }

-- the table of one record more
pub weight_text_of_one_more : (capacity : ℕ) (node : NodeValue) (records : List RecordValue) (n : ℕ) (rec : RecordValue)
    → n < length records → rec ≡ get_or records n rec
    → records_table capacity node (take (n + 1) records)
    ≡ after_step capacity (records_table capacity node (take n records)) (weight_text_add node rec)
weight_text_of_one_more capacity node records n rec within read =
    ap (records_table capacity node) (take_more records n rec within ∙ ap (λ r. take n records ++ r ∷ []) (sym read))
    ∙ ap (fold (after_step capacity) []) (map-append (weight_text_add node) (take n records) (rec ∷ []))
    ∙ fold-append (after_step capacity) [] (map (weight_text_add node) (take n records)) (weight_text_add node rec ∷ [])
