-- Walks along a chain, from the home's head on.
use Rattle.std.proofs.Common.{◌≡◌, ◌≢◌, ℕ, ◌+◌, ◌-◌, ◌<◌, ◌≤◌, min, eqb, if◌then◌else◌, List, get_or}
use Rattle.std.proofs.Common.{sym, ap, ◌∙◌, subst, ⊎_elim, arith}
use Rattle.std.specs.Prelude.{Option, None, Some, IfNone}
use Rattle.std.proofs.lemmas.Bool.{cases_eq, cases_lt, eq-eqb}
use Rattle.key_index.specs.Chains.{AreChains, HasPassed, IsLinked, IsLive}

-- a mark that was taken only for a key, and wasn't, is that of another key, or of none
pub walk_mark_is_of_another_key : (has key mark taken : ℕ) → taken ≡ (if eqb has key then mark else 0) → taken ≡ 0 → mark ≢ 0 → has ≢ key
walk_mark_is_of_another_key has key mark taken is none some same =
    some (sym (is ∙ ap (λ b. if b then mark else 0) (eq-eqb has key same)) ∙ none)

-- what holds where nothing was found, in other words
pub walk_none_weaker : {P Q : Type 0} (found : Option ℕ) → (P → Q) → IfNone found P → IfNone found Q
walk_none_weaker None weaker holds = weaker holds
walk_none_weaker (Some place) weaker holds = holds

-- so many places of the chain stand up to this cell
pub record WalkCounts (room : ℕ) (backs : List ℕ) (rank : ℕ → ℕ) (head cell step : ℕ) : Type 0 where
  pub live : IsLive room backs cell
  pub steps : rank cell + step ≡ rank head

module _ (room : ℕ) (links backs keys : List ℕ) (rank home : ℕ → ℕ) (key head : ℕ) (chains : AreChains room links backs rank home) where
  pub walk_begins : room ≤ head → HasPassed room backs keys rank home key head head 0
  walk_begins high = record {
    live = λ low. absurd (omega arith);
    here = chains.heads head high;
    left = omega (arith, chains.bound head high);
    others = λ place linked at low same.
        let top : rank place < rank head = subst (λ n. rank place < rank n) at (chains.top place linked) in omega arith;
  }

  pub walk_goes_on : (cell step mark : ℕ) → HasPassed room backs keys rank home key head cell step → get_or links cell 0 ≡ mark → mark ≢ 0
      → get_or keys (mark - 1) 0 ≢ key → HasPassed room backs keys rank home key head (mark - 1) (step + 1)
  walk_goes_on cell step mark walk is some other =
      let led = chains.leads cell (mark - 1) walk.live (let to : get_or links cell 0 ≡ mark - 1 + 1 = omega arith in to) in
      record {
        live = λ _. led.0;
        here = led.1 ∙ walk.here;
        left = omega (arith, walk.left, led.2);
        others = λ place linked at low.
            ⊎_elim
            (λ (far : rank place < rank cell).
            let here : place ≡ mark - 1 = chains.apart place (mark - 1) linked led.0 (at ∙ sym (led.1 ∙ walk.here)) (omega (arith, led.2)) in
            λ (same : get_or keys place 0 ≡ key). other (ap (λ n. get_or keys n 0) (sym here) ∙ same))
            (λ (near : rank cell ≤ rank place). walk.others place linked at near)
            (cases_lt (rank place) (rank cell));
      }

  pub walk_ends : (cell step : ℕ) → HasPassed room backs keys rank home key head cell step → rank cell ≡ 0
      → (place : ℕ) → IsLinked backs place → home place ≡ head → get_or keys place 0 ≢ key
  walk_ends cell step walk none place linked at = walk.others place linked at (omega arith)

  -- a chain of at most one place is passed by one look at it
  pub walk_of_one_place : (first second : ℕ) → room ≤ head → get_or links head 0 ≡ first → get_or links (first - 1) 0 ≡ second
      → min first second ≡ 0 → (first ≢ 0 → get_or keys (first - 1) 0 ≢ key)
      → (place : ℕ) → IsLinked backs place → home place ≡ head → get_or keys place 0 ≢ key
  walk_of_one_place first second high is next short other =
      let begins = walk_begins high in
      ⊎_elim
      (λ (none : first ≡ 0). walk_ends head 0 begins (chains.ends head begins.live (is ∙ none)))
      (λ (some : first ≢ 0).
      let goes_on = walk_goes_on head 0 first begins is some (other some) in
      let last : second ≡ 0 = omega (arith, short, some) in
      walk_ends (first - 1) 1 goes_on (chains.ends (first - 1) goes_on.live (next ∙ last)))
      (cases_eq first 0)

  -- a chain's first two places are passed
  pub walk_passes_two_places : (first second : ℕ) → room ≤ head → get_or links head 0 ≡ first → get_or links (first - 1) 0 ≡ second
      → first ≢ 0 → second ≢ 0 → get_or keys (first - 1) 0 ≢ key → get_or keys (second - 1) 0 ≢ key
      → HasPassed room backs keys rank home key head (second - 1) 2
  walk_passes_two_places first second high is next some more other one_more =
      walk_goes_on (first - 1) 1 second (walk_goes_on head 0 first (walk_begins high) is some other) next more one_more

  pub walk_counts_on : (cell step mark : ℕ) → WalkCounts room backs rank head cell step → get_or links cell 0 ≡ mark → mark ≢ 0
      → WalkCounts room backs rank head (mark - 1) (step + 1)
  walk_counts_on cell step mark walk is some =
      let led = chains.leads cell (mark - 1) walk.live (let to : get_or links cell 0 ≡ mark - 1 + 1 = omega arith in to) in
      record { live = λ _. led.0; steps = omega (arith, walk.steps, led.2) }
