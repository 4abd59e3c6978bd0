-- Marks of one capture.
use Rattle.std.proofs.Common.{◌≡◌, ◌∙◌, ℕ, ◌+◌, ◌-◌, ◌≤◌, List, [], ◌∷◌, map, slice_get, option_map, Option, Some, None}
use Rattle.std.proofs.Common.{refl, sym, ap, subst, inl, inr, arith}
use Rattle.std.proofs.lemmas.List.Sums.{sum_by-cons}
use Rattle.std.proofs.lemmas.Option.{slice_get-map}
use Rattle.shard_state.specs.{total_of_cut}
use Rattle.checkpoint.specs.{SavedValue}
use Rattle.site_merge.specs.SiteCut.{site_weight, store_weight}
use Rattle.site_merge.specs.OneCapture.{AreFirstOfOneCapture, AreOfOneCapture, HasCounted}
use Rattle.std.proofs.lemmas.Bool.{cases_lt}
use Rattle.site_merge.specs.declared.taking.SiteMark.{SiteMark}
use Rattle.site_merge.specs.Taking.{AreAlike, AreAlikeAt, AreFirstAlike, site_mark, weight_of_marks}

-- where a mark and the one at this place aren't alike, one that is alike is further on
pub mark_alike_is_later : (marks : List SiteMark) (first second : ℕ) (one two : SiteMark) → slice_get marks first ≡ Some one
    → slice_get marks second ≡ Some two → (AreAlike one two → ⊥)
    → ((other : ℕ) → AreAlikeAt marks first other → second ≤ other)
    → (other : ℕ) → AreAlikeAt marks first other → second + 1 ≤ other
mark_alike_is_later marks first second one two is_one is_two apart before other pair =
    elim (cases_lt second other) [
      | inl less ↦ omega (arith, less)
      | inr le ↦
          let at : other ≡ second = omega (arith, le, before other pair) in
          let same_one : Some pair.one ≡ Some one = sym pair.one_is ∙ is_one in
          let same_two : Some pair.other ≡ Some two = sym pair.other_is ∙ ap (slice_get marks) at ∙ is_two in
          let one_is : pair.one ≡ one = cc same_one in
          let two_is : pair.other ≡ two = cc same_two in
          absurd (apart (subst (λ (m : SiteMark). AreAlike one m) two_is (subst (λ (m : SiteMark). AreAlike m pair.other) one_is pair.alike)))
    ]

-- where no mark is alike with the one at this place, the first that is alike with a later one is further on
pub mark_alike_with_later : (marks : List SiteMark) (first : ℕ) → ((other : ℕ) → AreAlikeAt marks first other → ⊥)
    → ((one other : ℕ) → AreAlikeAt marks one other → first ≤ one)
    → (one other : ℕ) → AreAlikeAt marks one other → first + 1 ≤ one
mark_alike_with_later marks first apart before one other pair =
    elim (cases_lt first one) [
      | inl less ↦ omega (arith, less)
      | inr le ↦
          let at : one ≡ first = omega (arith, le, before one other pair) in
          absurd (apart other (subst (λ (n : ℕ). AreAlikeAt marks n other) at pair))
    ]

mark_weight : (site : Option SavedValue) → (site_mark site).weight ≡ store_weight site
mark_weight None = refl
mark_weight (Some saved) = refl

-- the weights of the marks of stores are theirs
pub mark_weights : (sites : List (Option SavedValue)) → weight_of_marks (map site_mark sites) ≡ site_weight sites
mark_weights [] = refl
mark_weights (site ∷ sites) = omega (
  arith,
  sum_by-cons (λ mark. mark.weight) (site_mark site) (map site_mark sites),
  sum_by-cons store_weight site sites,
  mark_weight site,
  mark_weights sites,
)

-- the mark of a store that counted some weight
mark_of_site : (sites : List (Option SavedValue)) (site : ℕ) (saved : SavedValue) → HasCounted sites site saved
    → slice_get (map site_mark sites) (site - 1) ≡ Some (site_mark (Some saved))
mark_of_site sites site saved has = slice_get-map site_mark sites (site - 1) ∙ ap (option_map site_mark) has.read

-- the marks of two stores of one capture are alike
pub mark_pair_of_sites : (sites : List (Option SavedValue)) (first second : ℕ) → AreOfOneCapture sites first second
    → AreAlikeAt (map site_mark sites) (first - 1) (second - 1)
mark_pair_of_sites sites first second pair = record {
  one = site_mark (Some pair.one);
  other = site_mark (Some pair.other);
  rising = omega (arith, pair.rising, pair.first_counted.numbered, pair.second_counted.numbered);
  one_is = mark_of_site sites first pair.one pair.first_counted;
  other_is = mark_of_site sites second pair.other pair.second_counted;
  alike = record { weighs = pair.first_counted.weighs; other_weighs = pair.second_counted.weighs; same = pair.same };
}

-- a store with a mark of some weight counted it
record MarkIsOf (site : Option SavedValue) (mark : SiteMark) : Type 0 where
  saved : SavedValue
  site_is : site ≡ Some saved
  digest : mark.digest ≡ saved.digest
  weighs : 1 ≤ total_of_cut saved.cut

mark_has_store : (site : Option SavedValue) (mark : SiteMark) → site_mark site ≡ mark → 1 ≤ mark.weight → MarkIsOf site mark
mark_has_store None mark same weighs = absurd (omega (arith, weighs, ap (λ (m : SiteMark). m.weight) same))
mark_has_store (Some saved) mark same weighs = record {
  saved = saved;
  site_is = refl;
  digest = sym (ap (λ (m : SiteMark). m.digest) same);
  weighs = omega (arith, weighs, ap (λ (m : SiteMark). m.weight) same);
}

mark_is_of_site : (found : Option (Option SavedValue)) (mark : SiteMark) → option_map site_mark found ≡ Some mark → 1 ≤ mark.weight
    → (saved : SavedValue) × (found ≡ Some (Some saved)) × (mark.digest ≡ saved.digest) × (1 ≤ total_of_cut saved.cut)
mark_is_of_site None mark same weighs = absurd (cc same)
mark_is_of_site (Some site) mark same weighs =
    let is : site_mark site ≡ mark = cc same in
    let has = mark_has_store site mark is weighs in
    (has.saved, ap (λ (s : Option SavedValue). Some s) has.site_is, has.digest, has.weighs)

-- stores whose marks are alike are of one capture
pub mark_pair_is_of_sites : (sites : List (Option SavedValue)) (first second : ℕ) → AreAlikeAt (map site_mark sites) first second
    → AreOfOneCapture sites (first + 1) (second + 1)
mark_pair_is_of_sites sites first second pair =
    let one = mark_is_of_site (slice_get sites first) pair.one (sym (slice_get-map site_mark sites first) ∙ pair.one_is) pair.alike.weighs in
    let other = mark_is_of_site (slice_get sites second) pair.other (sym (slice_get-map site_mark sites second) ∙ pair.other_is)
    pair.alike.other_weighs in
    let at : first + 1 - 1 ≡ first = omega arith in
    let other_at : second + 1 - 1 ≡ second = omega arith in
    record {
      one = one.0;
      other = other.0;
      rising = omega (arith, pair.rising);
      first_counted = record { numbered = omega arith; read = ap (slice_get sites) at ∙ one.1; weighs = one.3 };
      second_counted = record { numbered = omega arith; read = ap (slice_get sites) other_at ∙ other.1; weighs = other.3 };
      same = sym one.2 ∙ pair.alike.same ∙ other.2;
    }

-- stores whose marks are the first that are alike are the first of one capture
pub mark_first_pair_is_of_sites : (sites : List (Option SavedValue)) (first second : ℕ) → AreFirstAlike (map site_mark sites) first second
    → AreFirstOfOneCapture sites (first + 1) (second + 1)
mark_first_pair_is_of_sites sites first second is = record {
  pair = mark_pair_is_of_sites sites first second is.pair;
  least_first = λ one other pair.
      omega (arith, is.least_first (one - 1) (other - 1) (mark_pair_of_sites sites one other pair), pair.first_counted.numbered);
  least_second = λ other pair.
      let at : first + 1 - 1 ≡ first = omega arith in
      let marks = subst (λ (n : ℕ). AreAlikeAt (map site_mark sites) n (other - 1)) at (mark_pair_of_sites sites (first + 1) other pair) in
      omega (arith, is.least_second (other - 1) marks, pair.second_counted.numbered);
}
