-- Weights rise with positions.
use Rattle.std.proofs.Common.{◌≡◌, ℕ, zero, suc, ◌+◌, ◌≤◌, List, [], ◌∷◌, ◌++◌, take, filter, ap, ◌∙◌, arith}
use Rattle.std.specs.List.{sum_by}
use Rattle.std.proofs.lemmas.List.Elements.{filter-append}
use Rattle.std.proofs.lemmas.List.Sums.{sum_by-append}
use Rattle.prefix_lattice.specs.{PrefixValue, RecordValue, covers, prefix_weight}
use Rattle.hhh_report.specs.Positions.{AreNotPast, records_before}

weight_rise-append : (prefix : PrefixValue) (first second : List RecordValue)
    → prefix_weight prefix (first ++ second) ≡ prefix_weight prefix first + prefix_weight prefix second
weight_rise-append prefix first second =
    ap (sum_by (λ (rec : RecordValue). rec.weight)) (filter-append (covers prefix) first second)
    ∙ sum_by-append (λ (rec : RecordValue). rec.weight) (filter (covers prefix) first) (filter (covers prefix) second)

weight_rises_in_list : (prefix : PrefixValue) (list : List RecordValue) (earlier later : ℕ) → earlier ≤ later
    → prefix_weight prefix (take earlier list) ≤ prefix_weight prefix (take later list)
weight_rises_in_list prefix list zero later order = omega arith
weight_rises_in_list prefix list (suc earlier) zero order = absurd (omega (arith, order))
weight_rises_in_list prefix [] (suc earlier) (suc later) order = omega arith
weight_rises_in_list prefix (rec ∷ rest) (suc earlier) (suc later) order =
    omega (
      arith,
      weight_rise-append prefix (rec ∷ []) (take earlier rest),
      weight_rise-append prefix (rec ∷ []) (take later rest),
      weight_rises_in_list prefix rest earlier later (omega (arith, order)),
    )

-- over lists, position by position
pub weight_rises : (prefix : PrefixValue) (lists : List (List RecordValue)) (earlier later : List ℕ)
    → AreNotPast earlier later
    → prefix_weight prefix (records_before lists earlier) ≤ prefix_weight prefix (records_before lists later)
weight_rises prefix [] earlier later order = omega arith
weight_rises prefix (list ∷ lists) [] [] order = omega arith
weight_rises prefix (list ∷ lists) [] (q ∷ later) order = absurd order
weight_rises prefix (list ∷ lists) (p ∷ earlier) [] order = absurd order
weight_rises prefix (list ∷ lists) (p ∷ earlier) (q ∷ later) order =
    omega (
      arith,
      weight_rise-append prefix (take p list) (records_before lists earlier),
      weight_rise-append prefix (take q list) (records_before lists later),
      weight_rises_in_list prefix list p q order.0,
      weight_rises prefix lists earlier later order.1,
    )
