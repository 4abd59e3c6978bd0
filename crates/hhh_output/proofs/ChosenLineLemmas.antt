-- Choosing lines among prefixes that come in the order of a report: no later one changes what is decided of an earlier.
use Rattle.std.proofs.Common.{◌≡◌, ℕ, ◌+◌, ◌<◌, ◌≤◌, List, [], ◌∷◌, ◌++◌, length, sum_by, All, AllPairs, Contains}
use Rattle.std.proofs.Common.{◌⊎◌, inl, inr, pos, ◌-ℤ◌, ◌≤ℤ◌, refl, sym, subst, append_assoc, arith}
use Rattle.std.specs.declared.cmp.Ordering.{Ordering}
use Rattle.std.specs.declared.cmp.Ordering.TheVariants.{Less, Equal, Greater}
use Rattle.std.specs.Ordering.{nat_cmp, ordering_then, MatchOrdering}
use Rattle.std.proofs.lemmas.Bool.{cases_lt}
use Rattle.std.proofs.lemmas.Cmp.{ranked}
use Rattle.std.proofs.lemmas.Int.{ints}
use Rattle.std.proofs.lemmas.List.Elements.{All-cons, All-weaker, All-contains, All-contains_itself}
use Rattle.std.proofs.lemmas.List.Kept.{AllPairs-cons}
use Rattle.prefix_lattice.specs.{address_of, PrefixValue, node_of_prefix, prefix_key, prefix_level, closest, kept_pairs}
use Rattle.shard_state.specs.{CutValue}
use Rattle.cut_merge.specs.{monitored_in_cut}
use Rattle.hhh_output.specs.Reporting.{IsMonitored, low_in, high_in, IsUnexplained}
use Rattle.prefix_lattice.proofs.ListLemmas.{Contains-list_head, Contains-list_tail, Contains-list_cons}
use Rattle.prefix_lattice.proofs.ListLemmas.{Contains-empty_list, AllPairs-list_head, AllPairs-list_tail}
use Rattle.hhh_output.proofs.NearLineLemmas.{NearLineLevelsFall, near_lines-append}
use Rattle.hhh_output.proofs.SoundReportLemmas.{sound_report_key_or_not}
use Rattle.hhh_output.proofs.SortedPrefixLemmas.{ComesBeforePrefix}

-- a prefix that is to have a line beside these lines
pub record IsChosenLine (cut : CutValue) (threshold : ℕ) (lines : List PrefixValue) (prefix : PrefixValue)
    : Type 0 where
  pub monitored : IsMonitored cut prefix
  pub heavy : threshold ≤ high_in cut prefix
  pub unexplained : IsUnexplained cut threshold lines prefix

-- of each prefix it is decided
chosen_line_or_not : (cut : CutValue) (threshold : ℕ) (lines : List PrefixValue) (prefix : PrefixValue)
    → IsChosenLine cut threshold lines prefix ⊎ ¬ IsChosenLine cut threshold lines prefix
chosen_line_or_not cut threshold lines prefix =
    elim (sound_report_key_or_not (prefix_key prefix) (monitored_in_cut cut (node_of_prefix cut.shape.grain prefix))) [
      | inr unknown ↦ inr (λ is. unknown is.monitored)
      | inl monitored ↦ elim (cases_lt (high_in cut prefix) threshold) [
        | inl light ↦ inr (λ is. omega (arith, light, is.heavy))
        | inr heavy ↦ elim (cases_lt (high_in cut prefix + sum_by (high_in cut) (kept_pairs (closest prefix lines)))
            (threshold + sum_by (low_in cut) (closest prefix lines))) [
              | inl explained ↦ inr (λ is. omega (arith, ints, explained, is.unexplained))
              | inr unexplained ↦ inl (record {
                monitored = monitored;
                heavy = heavy;
                unexplained = omega (arith, ints, unexplained);
              })
            ]
      ]
    ]

-- the decision depends only on the closest lines
chosen_line_by_closest : (cut : CutValue) (threshold : ℕ) (lines other : List PrefixValue) (prefix : PrefixValue)
    → closest prefix lines ≡ closest prefix other → IsChosenLine cut threshold lines prefix
    → IsChosenLine cut threshold other prefix
chosen_line_by_closest cut threshold lines other prefix same is = record {
  monitored = is.monitored;
  heavy = is.heavy;
  unexplained =
      subst (λ near.
      pos threshold
      ≤ℤ (pos (high_in cut prefix + sum_by (high_in cut) (kept_pairs near))
      -ℤ pos (sum_by (low_in cut) near))) same is.unexplained;
}

-- a prefix that comes later in a report has no greater level
chosen_line_levels_fall : (prefix later : PrefixValue) → ComesBeforePrefix prefix later
    → prefix_level later ≤ prefix_level prefix
chosen_line_levels_fall prefix later before =
    by (nat_cmp (prefix_level later) (prefix_level prefix))
    (ordering_then (nat_cmp (address_of prefix.source) (address_of later.source))
    (ordering_then (nat_cmp (length prefix.source) (length later.source))
    (nat_cmp (address_of prefix.dest) (address_of later.dest))))
    (ranked (prefix_level later) (prefix_level prefix)
    (nat_cmp (prefix_level later) (prefix_level prefix)) refl) before
  where
    by : (o rest : Ordering)
        → MatchOrdering o (prefix_level later < prefix_level prefix)
        (prefix_level later ≡ prefix_level prefix) (prefix_level prefix < prefix_level later)
        → ordering_then o rest ≡ Less → prefix_level later ≤ prefix_level prefix
    by Less rest below _ = let lower : prefix_level later < prefix_level prefix = below in omega arith
    by Equal rest level _ = let same : prefix_level later ≡ prefix_level prefix = level in omega arith
    by Greater rest above first = let turned : Greater ≡ Less = first in absurd (cc)

-- what is chosen of some prefixes beside lines before them: those that are to have a line beside all of these
pub record AreChosenLines (cut : CutValue) (threshold : ℕ) (before rest chosen : List PrefixValue) : Type 0 where
  pub there : (prefix : PrefixValue) → Contains chosen prefix
      → Contains rest prefix × IsChosenLine cut threshold (before ++ chosen) prefix
  pub back : (prefix : PrefixValue) → Contains rest prefix → IsChosenLine cut threshold (before ++ chosen) prefix
      → Contains chosen prefix
  pub rising : AllPairs ComesBeforePrefix chosen
  pub few : length chosen ≤ length rest

-- one more prefix in front of those of which some are chosen
module _ (cut : CutValue) (threshold : ℕ) (before rest : List PrefixValue) (prefix : PrefixValue)
    (law : NearLineLevelsFall) (first : All (ComesBeforePrefix prefix) rest) where
  -- it comes before what is chosen of them
  chosen_lines_come_later : (chosen : List PrefixValue)
      → ((other : PrefixValue) → Contains chosen other → Contains rest other)
      → All (ComesBeforePrefix prefix) chosen
  chosen_lines_come_later chosen there =
      All-weaker (Contains chosen) (ComesBeforePrefix prefix)
      (λ other is. All-contains (ComesBeforePrefix prefix) rest other first (there other is)) chosen
      (All-contains_itself chosen)

  -- which is of no greater level
  chosen_lines_are_low : (chosen : List PrefixValue) → All (ComesBeforePrefix prefix) chosen
      → All (λ line. prefix_level line ≤ prefix_level prefix) chosen
  chosen_lines_are_low chosen later =
      All-weaker (ComesBeforePrefix prefix) (λ (line : PrefixValue). prefix_level line ≤ prefix_level prefix)
      (λ line is. chosen_line_levels_fall prefix line is) chosen later

  -- it has a line
  chosen_line_is_taken : IsChosenLine cut threshold before prefix → (chosen : List PrefixValue)
      → AreChosenLines cut threshold (before ++ prefix ∷ []) rest chosen
      → AreChosenLines cut threshold before (prefix ∷ rest) (prefix ∷ chosen)
  chosen_line_is_taken is chosen are =
      let later : All (ComesBeforePrefix prefix) chosen =
      chosen_lines_come_later chosen (λ other there. (are.there other there).0) in
      let joined : (before ++ prefix ∷ []) ++ chosen ≡ before ++ (prefix ∷ chosen) =
      append_assoc before (prefix ∷ []) chosen in
      let low : All (λ line. prefix_level line ≤ prefix_level prefix) (prefix ∷ chosen) =
      All-cons (λ (line : PrefixValue). prefix_level line ≤ prefix_level prefix) prefix chosen (omega arith)
      (chosen_lines_are_low chosen later) in
      let own : IsChosenLine cut threshold (before ++ (prefix ∷ chosen)) prefix =
      chosen_line_by_closest cut threshold before (before ++ (prefix ∷ chosen)) prefix
      (sym (near_lines-append prefix before (prefix ∷ chosen) law low)) is in
      record {
        there = λ other there. elim (Contains-list_cons prefix chosen other there) [
          | inl same ↦ (
            subst (Contains (prefix ∷ rest)) same (Contains-list_head prefix rest),
            subst (IsChosenLine cut threshold (before ++ (prefix ∷ chosen))) same own,
          )
          | inr among ↦ (
            Contains-list_tail prefix rest other (are.there other among).0,
            subst (λ lines. IsChosenLine cut threshold lines other) joined (are.there other among).1,
          )
        ];
        back = λ other there other_is. elim (Contains-list_cons prefix rest other there) [
          | inl same ↦ subst (Contains (prefix ∷ chosen)) same (Contains-list_head prefix chosen)
          | inr among ↦
              Contains-list_tail prefix chosen other
              (are.back other among (subst (λ lines. IsChosenLine cut threshold lines other) (sym joined) other_is))
        ];
        rising = AllPairs-cons ComesBeforePrefix prefix chosen later are.rising;
        few = omega (arith, are.few);
      }

  -- it has none
  chosen_line_is_left_out : ¬ IsChosenLine cut threshold before prefix → (chosen : List PrefixValue)
      → AreChosenLines cut threshold before rest chosen → AreChosenLines cut threshold before (prefix ∷ rest) chosen
  chosen_line_is_left_out is_not chosen are =
      let later : All (ComesBeforePrefix prefix) chosen =
      chosen_lines_come_later chosen (λ other there. (are.there other there).0) in
      record {
        there = λ other there. (
          Contains-list_tail prefix rest other (are.there other there).0,
          (are.there other there).1,
        );
        back = λ other there other_is. elim (Contains-list_cons prefix rest other there) [
          | inl same ↦
              absurd (is_not (chosen_line_by_closest cut threshold (before ++ chosen) before prefix
              (near_lines-append prefix before chosen law (chosen_lines_are_low chosen later))
              (subst (IsChosenLine cut threshold (before ++ chosen)) (sym same) other_is)))
          | inr among ↦ are.back other among other_is
        ];
        rising = are.rising;
        few = omega (arith, are.few);
      }

-- of each list in the order of a report some are chosen
pub each_list_has_chosen_lines : (cut : CutValue) (threshold : ℕ) → NearLineLevelsFall
    → (before rest : List PrefixValue) → AllPairs ComesBeforePrefix rest
    → (chosen : List PrefixValue) × AreChosenLines cut threshold before rest chosen
each_list_has_chosen_lines cut threshold law before [] rising = (
  [],
  record {
    there = λ prefix there. absurd (Contains-empty_list prefix there);
    back = λ prefix there is. there;
    rising = rising;
    few = omega arith;
  },
)
each_list_has_chosen_lines cut threshold law before (prefix ∷ rest) rising =
    let first : All (ComesBeforePrefix prefix) rest = AllPairs-list_head ComesBeforePrefix prefix rest rising in
    let rest_rising : AllPairs ComesBeforePrefix rest = AllPairs-list_tail ComesBeforePrefix prefix rest rising in
    let with_line = each_list_has_chosen_lines cut threshold law (before ++ prefix ∷ []) rest rest_rising in
    let without = each_list_has_chosen_lines cut threshold law before rest rest_rising in
    elim (chosen_line_or_not cut threshold before prefix) [
      | inl is ↦ (
        prefix ∷ with_line.0,
        chosen_line_is_taken cut threshold before rest prefix law first is with_line.0 with_line.1,
      )
      | inr is_not ↦ (
        without.0,
        chosen_line_is_left_out cut threshold before rest prefix law first is_not without.0 without.1,
      )
    ]
