-- Each kind of step may be made: whatever the state of the table, the rule still holds after it, and the step does
-- what it should.
use Rattle.std.proofs.Common.{◌≡◌, ℕ, zero, suc, ◌+◌, ◌*◌, ◌/◌, ◌≤◌, ◌<◌, ⊎_elim, true, false, List, [], ◌∷◌, ◌++◌}
use Rattle.std.proofs.Common.{length, set, slice_get, Option, None, Some, refl, sym, ap, ◌∙◌, arith, subst}
use Rattle.std.specs.Prelude.{slice_index}
use Rattle.std.specs.Int.Bits.{bit_or}
use Rattle.std.proofs.lemmas.Option.{slice_get_within}
use Rattle.std.proofs.lemmas.List.{set-get_or, length-map}
use mathlib.Core.Option.{some, none}
use lib.ListN.{get_elem?}
use Rattle.atomic_table.specs.Table.{State, Me, step, Act, Valid, stepped, carried_after, homes_after, put_back}
use Rattle.atomic_table.specs.Table.{rest, Allows, Splits, Joins, keeps, takes, gives}
use Rattle.atomic_table.proofs.Lists.{set_else}
use Rattle.shard_state.specs.{ShardValue, shard_state_at}
use Rattle.position_words.specs.declared.view.Aim.{Aim}
use Rattle.position_words.specs.declared.view.Aim.TheVariants.{Fold, Read}
use Rattle.position_words.specs.declared.view.Held.{Held}
use Rattle.position_words.specs.declared.view.Trail.{Trail}
use Rattle.position_words.specs.declared.view.View.{View}
use Rattle.position_words.specs.View.{trail_from, after_look, trail_after_win, after_win}
use Rattle.position_words.specs.View.{after_loss, trail_after_loss, trail_after_give}
use Rattle.position_words.specs.View.{after_giving}
use Rattle.position_words.specs.View.{after_give_held, after_split, newcomer_view, after_join}
use Rattle.position_words.specs.View.{spent_view, with_trail}
use Rattle.position_words.specs.Words.{IsEvenWord, IsOddWord}
use Rattle.position_words.specs.Rule.{FitsRule, IsKept}
use Rattle.position_words.specs.Steps.{StepMeets, StepLooks, StepTakesFor, StepGives}
use Rattle.position_words.proofs.PositionWordLemmas.{position_word_marked_even, position_word_marked_odd}
use Rattle.position_words.proofs.PositionWordLemmas.{position_word_has_parity, position_word_here}
use Rattle.position_words.proofs.PositionWordLemmas.{position_word_halves_rise}
use Rattle.position_words.proofs.TrailLemmas.{length_of_changed_trails, length_of_joined_trails}
use Rattle.position_words.proofs.TrailLemmas.{changed_trails_stay_below, trail_positions-newcomer}
use Rattle.position_words.proofs.TrailLemmas.{joined_trails_stay_below}
use Rattle.position_words.proofs.RuleLemmas.{rule_survives_view_change, rule_survives_arrival, rule_survives_taking_out}
use Rattle.position_words.proofs.RuleLemmas.{rule_survives_putting_back, rule_fit_survives_rise}
use Rattle.position_words.proofs.RuleLemmas.{rule_parity_is_never_both}

-- a view that fits, and is not spent, meets the position of a word
step_meets_allowed_position : (shards : List ShardValue) (state : State (Option ShardValue) View) (seat place : ℕ) (view : View)
    → IsKept shards state → get_elem? state.views seat ≡ some view → view.spent ≡ false
    → StepMeets place (slice_index state.words place / 2) view
step_meets_allowed_position shards state seat place view kept at live =
    let fits : FitsRule shards state.words view = kept.views seat view at live in
    record {
      later = fits.reached place;
      within = λ shard is. kept.within place shard (ap (λ ss. slice_get ss place) (sym fits.opening) ∙ is);
    }

-- a view still fits after a step at one shard that saw a position of its word
view_fits_after_allowed_step : (shards : List ShardValue) (words : List ℕ) (change : Trail → Trail) (position place : ℕ)
    (view : View) → ((trail : Trail) → (change trail).seen ≡ position)
    → position ≤ slice_index words place / 2 → FitsRule shards words view → FitsRule shards words (with_trail change place view)
view_fits_after_allowed_step shards words change position place view sees within fits = record {
  opening = fits.opening;
  trails = length_of_changed_trails change place view.trails ∙ fits.trails;
  reached = changed_trails_stay_below change position place view.trails (λ k. slice_index words k / 2) sees within fits.reached;
}

-- a step that leaves the words and the slots unchanged
allowed_step_keeps_words : (shards : List ShardValue) (state : State (Option ShardValue) View) (seat place word : ℕ)
    (before now : View) → IsKept shards state → word ≡ slice_index state.words place
    → get_elem? state.views seat ≡ some before → now.held ≡ before.held
    → (now.spent ≡ false → FitsRule shards state.words now)
    → IsKept shards
    (record { words = set state.words place word; homes = state.homes; views = set state.views seat now })
allowed_step_keeps_words shards state seat place word before now kept is at same fits =
    let words_are : set state.words place word ≡ state.words =
    ap (set state.words place) is ∙ set-get_or state.words place 0 in
    subst (λ ws. IsKept shards (record { words = ws; homes = state.homes; views = set state.views seat now }))
    (sym words_are)
    (rule_survives_view_change shards state.words state.homes state.views kept seat before now at same fits)

pub look_step_is_allowed : (shards : List ShardValue) (slots seat place : ℕ) (me : Me (Option ShardValue) View) → me.0.spent ≡ false
    → Allows (IsKept shards) slots seat me place (λ n. n) (StepLooks (step slots place 0 0 none) me)
look_step_is_allowed shards slots seat place me live state kept many at small =
    let position : ℕ = slice_index state.words place / 2 in
    let fits : FitsRule shards state.words me.0 = kept.views seat me.0 at live in
    let now_fits : FitsRule shards state.words (after_look place position me.0) =
    view_fits_after_allowed_step shards state.words
    (λ trail. record trail { seen = position; looks = trail.looks ++ position ∷ [] }) position place me.0
    (λ trail. refl) (omega arith) fits in (
      after_look place position me.0,
      keeps,
      tt,
      allowed_step_keeps_words shards state seat place (slice_index state.words place) me.0 (after_look place position me.0) kept
          refl at refl (λ _. now_fits),
      (step_meets_allowed_position shards state seat place me.0 kept at live, refl),
    )

allowed_step_sees_taken : (aim : Aim) (position : ℕ) (trail : Trail) → (trail_after_win aim position trail).seen ≡ position
allowed_step_sees_taken Fold position trail = refl
allowed_step_sees_taken Read position trail = refl

allowed_step_sees_given : (aim : Aim) (met position : ℕ) (trail : Trail) → (trail_after_give aim met position trail).seen ≡ position
allowed_step_sees_given Fold met position trail = refl
allowed_step_sees_given Read met position trail = refl

-- that a take may be made
abbrev TakeStepIsAllowed : List ShardValue → ℕ → ℕ → ℕ → Aim → Me (Option ShardValue) View → State (Option ShardValue) View
    → Type 0
TakeStepIsAllowed shards slots seat place aim me state =
    (now : View) × (act : Act (Option ShardValue)) × Valid state.homes me.1 act
    × IsKept shards (stepped state place (bit_or (slice_index state.words place) 1) seat me.1 now act)
    × StepTakesFor aim (step slots place 1 0 none) me (slice_index state.words place) (now, carried_after me.1 act)

allowed_step_true_not_false : true ≡ false → ⊥
allowed_step_true_not_false same = cc same

allowed_step_finds_shard : (shards : List ShardValue) (place : ℕ) → place < length shards
    → (shard : ShardValue) × (slice_get shards place ≡ Some shard)
allowed_step_finds_shard [] place inside = absurd (omega arith)
allowed_step_finds_shard (s ∷ rest) zero inside = (s, refl)
allowed_step_finds_shard (s ∷ rest) (suc place) inside = allowed_step_finds_shard rest place (omega arith)

-- a take may find the word odd, and leaves it unchanged
step_loses_as_allowed : (shards : List ShardValue) (slots seat place : ℕ) (aim : Aim) (me : Me (Option ShardValue) View)
    → me.0.spent ≡ false → (state : State (Option ShardValue) View) → IsKept shards state
    → get_elem? state.views seat ≡ some me.0 → IsOddWord (slice_index state.words place)
    → TakeStepIsAllowed shards slots seat place aim me state
step_loses_as_allowed shards slots seat place aim me live state kept at odd =
    let word : ℕ = slice_index state.words place in
    let fits : FitsRule shards state.words me.0 = kept.views seat me.0 at live in
    let now_fits : FitsRule shards state.words (after_loss place word me.0) =
    view_fits_after_allowed_step shards state.words (trail_after_loss word) (word / 2) place me.0 (λ trail. refl) (omega arith) fits in (
      after_loss place word me.0,
      keeps,
      tt,
      allowed_step_keeps_words shards state seat place (bit_or word 1) me.0 (after_loss place word me.0) kept (position_word_marked_odd word odd) at
          refl (λ _. now_fits),
      record {
        meets = step_meets_allowed_position shards state seat place me.0 kept at live;
        wins = λ even. absurd (rule_parity_is_never_both word even odd);
        loses = λ _. refl;
      },
    )

-- or even, and then the slot goes out to the seat
step_wins_as_allowed : (shards : List ShardValue) (slots seat place : ℕ) (aim : Aim) (me : Me (Option ShardValue) View)
    → place < length shards → me.0.spent ≡ false → me.0.held ≡ None
    → (state : State (Option ShardValue) View) → IsKept shards state → get_elem? state.views seat ≡ some me.0
    → IsEvenWord (slice_index state.words place)
    → TakeStepIsAllowed shards slots seat place aim me state
step_wins_as_allowed shards slots seat place aim me inside live free state kept at even =
    let word : ℕ = slice_index state.words place in
    let found = allowed_step_finds_shard shards place inside in
    let shard : ShardValue = found.0 in
    let now : View = after_win aim place (word / 2) me.0 in
    let later : List ℕ = set state.words place (word + 1) in
    let in_words : place < length state.words = omega (arith, inside, kept.words) in
    let here : slice_index later place ≡ word + 1 = position_word_here state.words place (word + 1) in_words in
    let fits : FitsRule shards later me.0 =
    rule_fit_survives_rise shards state.words later me.0 (position_word_halves_rise state.words place (word + 1) in_words (omega arith))
    (kept.views seat me.0 at live) in
    let trail_fits : FitsRule shards later (with_trail (trail_after_win aim (word / 2)) place me.0) =
    view_fits_after_allowed_step shards later (trail_after_win aim (word / 2)) (word / 2) place me.0 (allowed_step_sees_taken aim (word / 2))
    (omega (arith, here)) fits in
    let now_fits : FitsRule shards later now = record {
      opening = trail_fits.opening;
      trails = trail_fits.trails;
      reached = trail_fits.reached;
    } in
    let held : Held = record { shard = place; position = word / 2; aim = aim } in (
      now,
      takes place (Some (shard_state_at (word / 2) shard)),
      kept.even place shard found.1 even,
      subst (λ n.
          IsKept shards
          (record {
            words = set state.words place n;
            homes = set state.homes place none;
            views = set state.views seat now;
          })) (sym (position_word_marked_even word even))
          (rule_survives_taking_out shards state.words state.homes state.views kept seat place me.0 now shard held at free
          found.1 even refl refl refl now_fits),
      record {
        meets = step_meets_allowed_position shards state seat place me.0 kept at live;
        wins = λ _. record {
          state = shard;
          is = ap (λ ss. slice_get ss place) (kept.views seat me.0 at live).opening ∙ found.1;
          now_is = refl;
        };
        loses = λ odd. absurd (rule_parity_is_never_both word even odd);
      },
    )

pub take_step_is_allowed : (shards : List ShardValue) (slots seat place : ℕ) (aim : Aim) (me : Me (Option ShardValue) View)
    → place < length shards → me.0.spent ≡ false → me.0.held ≡ None
    → Allows (IsKept shards) slots seat me place (λ n. bit_or n 1) (StepTakesFor aim (step slots place 1 0 none) me)
take_step_is_allowed shards slots seat place aim me inside live free state kept many at small =
    ⊎_elim (step_wins_as_allowed shards slots seat place aim me inside live free state kept at)
    (step_loses_as_allowed shards slots seat place aim me live state kept at) (position_word_has_parity (slice_index state.words place))

-- the view after a give of the shard that is held
allowed_step_gave_held : (position : ℕ) (view : View) (held : Held) → view.held ≡ Some held
    → after_giving position view
    ≡ record (with_trail (trail_after_give held.aim held.position position) held.shard view) { held = None }
allowed_step_gave_held position view held holds = ap (λ h. after_give_held position h view) holds

give_held_step_is_allowed : (shards : List ShardValue) (slots seat position : ℕ) (me : Me (Option ShardValue) View)
    (held : Held) (shard : ShardValue) → me.0.spent ≡ false → me.0.held ≡ Some held
    → held.position ≤ position → position ≤ length shard.list → slice_get shards held.shard ≡ Some shard
    → me.1 ≡ (held.shard, Some (shard_state_at position shard)) ∷ []
    → Allows (IsKept shards) slots seat me held.shard (λ _. 2 * position)
    (λ _. StepGives (step slots held.shard (2 * position) 0 none) me (2 * position))
give_held_step_is_allowed shards slots seat position me held shard live holds forward ends is out state kept many at small =
    let place : ℕ = held.shard in
    let after : List ℕ = set state.words place (2 * position) in
    let in_words : place < length state.words =
    let below : place < length shards = slice_get_within shards place shard is in omega (arith, kept.words) in
    let here : slice_index after place ≡ 2 * position = position_word_here state.words place (2 * position) in_words in
    let before_word : slice_index state.words place ≡ 2 * held.position + 1 = kept.held seat me.0 held at holds in
    let fits : FitsRule shards after me.0 =
    rule_fit_survives_rise shards state.words after me.0
    (position_word_halves_rise state.words place (2 * position) in_words (omega (arith, before_word, forward)))
    (kept.views seat me.0 at live) in
    let trail_fits : FitsRule shards after (with_trail (trail_after_give held.aim held.position position) place me.0) =
    view_fits_after_allowed_step shards after (trail_after_give held.aim held.position position) position place me.0
    (allowed_step_sees_given held.aim held.position position) (omega (arith, here)) fits in
    let now : View = record (with_trail (trail_after_give held.aim held.position position) place me.0) { held = None } in
    let now_fits : FitsRule shards after now = record {
      opening = trail_fits.opening;
      trails = trail_fits.trails;
      reached = trail_fits.reached;
    } in
    let half : position ≡ 2 * position / 2 = omega arith in
    let now_is : now ≡ after_giving (2 * position / 2) me.0 =
    sym (allowed_step_gave_held position me.0 held holds) ∙ ap (λ p. after_giving p me.0) half in
    let homes_are : set state.homes place (some (Some (shard_state_at position shard)))
    ≡ homes_after state.homes me.1 gives = ap (λ c. put_back state.homes c) (sym out) in (
      now,
      gives,
      tt,
      subst (λ hs. IsKept shards (record { words = after; homes = hs; views = set state.views seat now })) homes_are
          (rule_survives_putting_back shards state.words state.homes state.views kept seat me.0 now shard held position at
          holds is forward ends refl now_fits),
      ap (λ v. (v, rest me.1)) now_is,
    )

pub give_step_is_allowed : (shards : List ShardValue) (slots seat place position : ℕ) (me : Me (Option ShardValue) View)
    (held : Held) (shard : ShardValue) → me.0.spent ≡ false → me.0.held ≡ Some held
    → held.shard ≡ place → held.position ≤ position → position ≤ length shard.list
    → slice_get shards place ≡ Some shard → me.1 ≡ (place, Some (shard_state_at position shard)) ∷ []
    → Allows (IsKept shards) slots seat me place (λ _. 2 * position)
    (λ _. StepGives (step slots place (2 * position) 0 none) me (2 * position))
give_step_is_allowed shards slots seat place position me held shard live holds at_place forward ends =
    subst (λ k. slice_get shards k ≡ Some shard → me.1 ≡ (k, Some (shard_state_at position shard)) ∷ []
    → Allows (IsKept shards) slots seat me k (λ _. 2 * position)
    (λ _. StepGives (step slots k (2 * position) 0 none) me (2 * position))) at_place
    (give_held_step_is_allowed shards slots seat position me held shard live holds forward ends)

-- a new seat has seen the same positions
newcomer_fits_allowed_step : (shards : List ShardValue) (words : List ℕ) (view : View) → FitsRule shards words view
    → FitsRule shards words (newcomer_view view)
newcomer_fits_allowed_step shards words view fits = record {
  opening = fits.opening;
  trails = length-map view.trails (λ trail. trail_from trail.seen) ∙ fits.trails;
  reached = λ shard.
      subst (λ seen. slice_index seen shard ≤ slice_index words shard / 2) (sym (trail_positions-newcomer view.trails))
      (fits.reached shard);
}

pub split_step_is_allowed : (shards : List ShardValue) (seat : ℕ) (view : View) → view.spent ≡ false
    → Splits (IsKept shards) seat view (after_split view) (newcomer_view view)
split_step_is_allowed shards seat view live state kept at =
    let fits : FitsRule shards state.words view = kept.views seat view at live in
    let left_fits : FitsRule shards state.words (after_split view) = record {
      opening = fits.opening;
      trails = fits.trails;
      reached = fits.reached;
    } in
    rule_survives_arrival shards state.words state.homes (set state.views seat (after_split view))
    (rule_survives_view_change shards state.words state.homes state.views kept seat view (after_split view) at refl
    (λ _. left_fits)) (newcomer_view view) refl (newcomer_fits_allowed_step shards state.words view fits)

pub join_step_is_allowed : (shards : List ShardValue) (seat other : ℕ) (view its : View) → view.spent ≡ false
    → its.spent ≡ false → its.held ≡ None
    → Joins (IsKept shards) seat view other its (after_join view its) spent_view
join_step_is_allowed shards seat other view its live its_live free state kept at apart at_other =
    let was_other : get_elem? state.views other ≡ some its =
    sym (set_else state.views seat other (after_join view its) apart) ∙ at_other in
    let fits : FitsRule shards state.words view = kept.views seat view at live in
    let its_fits : FitsRule shards state.words its = kept.views other its was_other its_live in
    let both_fit : FitsRule shards state.words (after_join view its) = record {
      opening = fits.opening;
      trails = length_of_joined_trails view.trails its.trails ∙ fits.trails;
      reached =
          joined_trails_stay_below view.trails its.trails (λ k. slice_index state.words k / 2) fits.reached its_fits.reached;
    } in
    rule_survives_view_change shards state.words state.homes (set state.views seat (after_join view its))
    (rule_survives_view_change shards state.words state.homes state.views kept seat view (after_join view its) at refl
    (λ _. both_fit)) other its spent_view at_other (sym free)
    (λ fresh. absurd (allowed_step_true_not_false fresh))
