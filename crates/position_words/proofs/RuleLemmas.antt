-- What keeps the rule: a change of one view, a new seat, a shard taken out, a shard put back.
use Rattle.std.proofs.Common.{◌≡◌, ℕ, zero, suc, ◌+◌, ◌*◌, ◌/◌, ◌<◌, ◌≤◌, inl, inr, ⊎_elim, false, List, [], ◌∷◌}
use Rattle.std.proofs.Common.{◌++◌, map, length, length-set, set, slice_get, Option, None, Some, All, refl, sym, ap}
use Rattle.std.proofs.Common.{◌∙◌, arith, subst}
use Rattle.std.specs.Prelude.{slice_index}
use Rattle.std.proofs.lemmas.Bool.{cases_eq}
use Rattle.std.proofs.lemmas.List.{length-map}
use Rattle.std.proofs.lemmas.List.Elements.{All-head, All-tail}
use Rattle.std.proofs.lemmas.Option.{same_Some, slice_get_within}
use mathlib.Core.Option.{some, none, some-injective, some-ne-none}
use mathlib.Core.Option as maybe
use lib.ListN.{get_elem?}
use Rattle.atomic_table.specs.Table.{opening}
use Rattle.atomic_table.proofs.Lists.{at_set, set_here, set_else, at_snoc, at_longer}
use Rattle.shard_state.specs.{ShardValue, IsShard, shard_state_at}
use Rattle.position_words.specs.declared.view.Held.{Held}
use Rattle.position_words.specs.declared.view.View.{View}
use Rattle.position_words.specs.View.{first_view, trail_from}
use Rattle.position_words.specs.Words.{IsEvenWord, IsOddWord}
use Rattle.position_words.specs.Seat.{IsHoldingSeat}
use Rattle.position_words.specs.Rule.{FitsRule, IsKept}
use Rattle.position_words.proofs.PositionWordLemmas.{position_word_here, position_word_there, position_word_halves_rise}
use Rattle.position_words.proofs.TrailLemmas.{first_trails_have_positions}
use Rattle.position_words.proofs.HolderLemmas.{IsHolderView, holder_there, holder_here, holder_has_its_view}
use Rattle.position_words.proofs.HolderLemmas.{holder_after}
use Rattle.position_words.proofs.HolderLemmas.{holder_kept, holder_before}

pub rule_parity_is_never_both : (word : ℕ) → IsEvenWord word → IsOddWord word → ⊥
rule_parity_is_never_both word even odd = omega (arith, even, odd)

rule_none_is_not_held : (view : View) (held : Held) → view.held ≡ None → view.held ≡ Some held → ⊥
rule_none_is_not_held view held free holds = cc (sym free ∙ holds)

-- a view that fits still fits when halves of words rise
pub rule_fit_survives_rise : (shards : List ShardValue) (words later : List ℕ) (view : View)
    → ((shard : ℕ) → slice_index words shard / 2 ≤ slice_index later shard / 2)
    → FitsRule shards words view → FitsRule shards later view
rule_fit_survives_rise shards words later view rule_halves_rise fits =
    record {
      opening = fits.opening;
      trails = fits.trails;
      reached = λ shard. omega (arith, fits.reached shard, rule_halves_rise shard);
    }

module _ (shards : List ShardValue) (words : List ℕ) (homes : List (maybe.Option (Option ShardValue)))
    (views : List View) (kept : IsKept shards (record { words = words; homes = homes; views = views })) where
  -- the word of a shard that is held
  rule_word_when_held : (seat place : ℕ) (view : View) → get_elem? views seat ≡ some view → (has : IsHolderView view place)
      → slice_index words place ≡ 2 * has.held.position + 1
  rule_word_when_held seat place view at has =
      subst (λ k. slice_index words k ≡ 2 * has.held.position + 1) has.is
      (kept.held seat view has.held at has.holds)

  rule_is_odd_if_held : (seat place : ℕ) → IsHoldingSeat views seat place → IsOddWord (slice_index words place)
  rule_is_odd_if_held seat place holder =
      let word : slice_index words place ≡ 2 * holder.held.position + 1 =
      rule_word_when_held seat place holder.view holder.at
      (record { held = holder.held; holds = holder.holds; is = holder.is }) in
      omega (arith, word)

  -- a view changes, and holds what it held
  pub rule_survives_view_change : (seat : ℕ) (before now : View) → get_elem? views seat ≡ some before → now.held ≡ before.held
      → (now.spent ≡ false → FitsRule shards words now)
      → IsKept shards (record { words = words; homes = homes; views = set views seat now })
  rule_survives_view_change seat before now at same fits = record {
    words = kept.words;
    slots = kept.slots;
    within = kept.within;
    even = kept.even;
    odd = λ place rule_place_is_inside odd.
        let found = kept.odd place rule_place_is_inside odd in
        (found.0, holder_kept views seat found.0 place before now at same found.1);
    held = λ other view held is holds.
        ⊎_elim (λ here. kept.held seat before held at (sym same ∙ ap (λ v. v.held) here.1 ∙ holds))
        (λ there. kept.held other view held there.1 holds)
        (at_set views seat other now view is);
    alone = λ other third place one two.
        kept.alone other third place (holder_before views seat other place before now at same one)
        (holder_before views seat third place before now at same two);
    views = λ other view is live.
        ⊎_elim (λ here. subst (FitsRule shards words) here.1 (fits (ap (λ v. v.spent) here.1 ∙ live)))
        (λ there. kept.views other view there.1 live)
        (at_set views seat other now view is);
  }

  -- a new seat, which holds nothing
  pub rule_survives_arrival : (new : View) → new.held ≡ None → FitsRule shards words new
      → IsKept shards (record { words = words; homes = homes; views = views ++ new ∷ [] })
  rule_survives_arrival new free fits = record {
    words = kept.words;
    slots = kept.slots;
    within = kept.within;
    even = kept.even;
    odd = λ place rule_place_is_inside odd. let found = kept.odd place rule_place_is_inside odd in (found.0, longer found.0 place found.1);
    held = λ seat view held is holds.
        ⊎_elim (λ old. kept.held seat view held old holds)
        (λ last. absurd (rule_none_is_not_held new held free (ap (λ v. v.held) last ∙ holds)))
        (at_snoc views new view seat is);
    alone = λ seat other place one two. kept.alone seat other place (before seat place one) (before other place two);
    views = λ seat view is live.
        ⊎_elim (λ old. kept.views seat view old live) (λ last. subst (FitsRule shards words) last fits)
        (at_snoc views new view seat is);
  }
    where
      longer : (seat place : ℕ) → IsHoldingSeat views seat place → IsHoldingSeat (views ++ new ∷ []) seat place
      longer seat place holder = record {
        view = holder.view;
        held = holder.held;
        at = at_longer views (new ∷ []) seat holder.view holder.at;
        holds = holder.holds;
        is = holder.is;
      }

      before : (seat place : ℕ) → IsHoldingSeat (views ++ new ∷ []) seat place → IsHoldingSeat views seat place
      before seat place holder =
          ⊎_elim (λ old. record {
            view = holder.view;
            held = holder.held;
            at = old;
            holds = holder.holds;
            is = holder.is;
          })
          (λ last. absurd (rule_none_is_not_held new holder.held free (ap (λ v. v.held) last ∙ holder.holds)))
          (at_snoc views new holder.view seat holder.at)

  -- a seat that holds nothing takes a shard whose word is even
  module _ (seat place : ℕ) (before now : View) (shard : ShardValue) (held : Held)
      (at : get_elem? views seat ≡ some before) (free : before.held ≡ None)
      (is : slice_get shards place ≡ Some shard) (even : IsEvenWord (slice_index words place))
      (holds : now.held ≡ Some held) (of : held.shard ≡ place)
      (met : held.position ≡ slice_index words place / 2)
      (fits : FitsRule shards (set words place (slice_index words place + 1)) now) where
    abbrev pub word : ℕ
    word = slice_index words place

    abbrev pub later : List ℕ
    later = set words place (word + 1)

    rule_place_is_inside : place < length words
    rule_place_is_inside = let below : place < length shards = slice_get_within shards place shard is in omega (arith, kept.words)

    here : slice_index later place ≡ word + 1
    here = position_word_here words place (word + 1) rule_place_is_inside

    there : (other : ℕ) → (other ≡ place → ⊥) → slice_index later other ≡ slice_index words other
    there other apart = position_word_there words place (word + 1) rule_place_is_inside other apart

    has : IsHolderView now place
    has = record { held = held; holds = holds; is = of }

    rule_halves_rise : (other : ℕ) → slice_index words other / 2 ≤ slice_index later other / 2
    rule_halves_rise = position_word_halves_rise words place (word + 1) rule_place_is_inside (omega arith)

    -- the seat held nothing before
    rule_taker_held_nothing : (other at_place : ℕ) → IsHoldingSeat views other at_place → other ≡ seat → ⊥
    rule_taker_held_nothing other at_place holder same =
        let mine : IsHolderView before at_place =
        holder_has_its_view views seat at_place before at (subst (λ k. IsHoldingSeat views k at_place) same holder) in
        rule_none_is_not_held before mine.held free mine.holds

    -- and nobody held the shard
    rule_nobody_held_it : (other at_place : ℕ) → IsHoldingSeat views other at_place → at_place ≡ place → ⊥
    rule_nobody_held_it other at_place holder same =
        rule_parity_is_never_both word even (rule_is_odd_if_held other place (subst (IsHoldingSeat views other) same holder))

    pub rule_survives_taking_out : IsKept shards (record { words = later; homes = set homes place none; views = set views seat now })
    rule_survives_taking_out = record {
      words = length-set words place (word + 1) ∙ kept.words;
      slots = length-set homes place none ∙ kept.slots;
      within = λ other state of_shard. elim (cases_eq other place) [
        | inl same ↦
            let old : slice_index words other / 2 ≤ length state.list = kept.within other state of_shard in
            let now_is : slice_index later other ≡ slice_index words other + 1 =
            subst (λ k. slice_index later k ≡ slice_index words k + 1) (sym same) here in
            let was_even : IsEvenWord (slice_index words other) =
            subst (λ k. IsEvenWord (slice_index words k)) (sym same) even in
            omega (arith, old, now_is, was_even)
        | inr apart ↦
            let old : slice_index words other / 2 ≤ length state.list = kept.within other state of_shard in
            omega (arith, old, there other apart)
      ];
      even = λ other state of_shard even_now. elim (cases_eq other place) [
        | inl same ↦
            let odd : slice_index later other ≡ word + 1 = ap (slice_index later) same ∙ here in
            absurd (omega (arith, odd, even, even_now))
        | inr apart ↦
            set_else homes place other none apart
            ∙ subst (λ n. IsEvenWord n → get_elem? homes other ≡ some (some (Some (shard_state_at (n / 2) state))))
            (sym (there other apart)) (kept.even other state of_shard) even_now
      ];
      odd = λ other below odd_now. elim (cases_eq other place) [
        | inl same ↦ (
          seat,
          subst (IsHoldingSeat (set views seat now) seat) (sym same) (holder_here views seat place before now at has),
        )
        | inr apart ↦
            let found = kept.odd other below (subst IsOddWord (there other apart) odd_now) in
            (found.0, holder_there views seat found.0 other now (rule_taker_held_nothing found.0 other found.1) found.1)
      ];
      held = λ other view its at_now its_holds.
          ⊎_elim
          (λ rule_giver_holds.
          let same : held ≡ its = same_Some held its (sym holds ∙ ap (λ v. v.held) rule_giver_holds.1 ∙ its_holds) in
          let at_its : slice_index later held.shard ≡ word + 1 = ap (slice_index later) of ∙ here in
          let half : 2 * held.position + 1 ≡ word + 1 = omega (arith, met, even) in
          subst (λ (h : Held). slice_index later h.shard ≡ 2 * h.position + 1) same (at_its ∙ sym half))
          (λ old.
          let holder : IsHoldingSeat views other its.shard = record {
            view = view;
            held = its;
            at = old.1;
            holds = its_holds;
            is = refl;
          } in
          there its.shard (rule_nobody_held_it other its.shard holder) ∙ kept.held other view its old.1 its_holds)
          (at_set views seat other now view at_now);
      alone = λ other third at_place one two.
          ⊎_elim
          (λ mine. ⊎_elim (λ also. mine.0 ∙ sym also.0)
          (λ old.
          absurd (rule_nobody_held_it third at_place old.1
          (sym mine.1.is ∙ ap (λ (h : Held). h.shard) (same_Some mine.1.held held (sym mine.1.holds ∙ holds))
          ∙ of)))
          (holder_after views seat third at_place now two))
          (λ old. ⊎_elim
          (λ also.
          absurd (rule_nobody_held_it other at_place old.1
          (sym also.1.is ∙ ap (λ (h : Held). h.shard) (same_Some also.1.held held (sym also.1.holds ∙ holds))
          ∙ of)))
          (λ too. kept.alone other third at_place old.1 too.1) (holder_after views seat third at_place now two))
          (holder_after views seat other at_place now one);
      views = λ other view at_now live.
          ⊎_elim (λ rule_giver_holds. subst (FitsRule shards later) rule_giver_holds.1 fits)
          (λ old. rule_fit_survives_rise shards words later view rule_halves_rise (kept.views other view old.1 live))
          (at_set views seat other now view at_now);
    }

  -- the seat that holds a shard gives it back, at no earlier position
  module _ (seat : ℕ) (before now : View) (shard : ShardValue) (held : Held) (position : ℕ)
      (at : get_elem? views seat ≡ some before) (holds : before.held ≡ Some held)
      (is : slice_get shards held.shard ≡ Some shard) (forward : held.position ≤ position)
      (ends : position ≤ length shard.list) (free : now.held ≡ None)
      (fits : FitsRule shards (set words held.shard (2 * position)) now) where
    abbrev pub place : ℕ
    place = held.shard

    abbrev pub after : List ℕ
    after = set words place (2 * position)

    abbrev pub filled : List (maybe.Option (Option ShardValue))
    filled = set homes place (some (Some (shard_state_at position shard)))

    rule_place_is_in_words : place < length words
    rule_place_is_in_words = let below : place < length shards = slice_get_within shards place shard is in omega (arith, kept.words)

    rule_place_is_in_slots : place < length homes
    rule_place_is_in_slots = let below : place < length shards = slice_get_within shards place shard is in omega (arith, kept.slots)

    rule_new_word : slice_index after place ≡ 2 * position
    rule_new_word = position_word_here words place (2 * position) rule_place_is_in_words

    rule_old_word : slice_index words place ≡ 2 * held.position + 1
    rule_old_word = kept.held seat before held at holds

    rule_other_words_stay : (other : ℕ) → (other ≡ place → ⊥) → slice_index after other ≡ slice_index words other
    rule_other_words_stay other apart = position_word_there words place (2 * position) rule_place_is_in_words other apart

    rule_halves_grow : (other : ℕ) → slice_index words other / 2 ≤ slice_index after other / 2
    rule_halves_grow = position_word_halves_rise words place (2 * position) rule_place_is_in_words (omega (arith, rule_old_word, forward))

    rule_giver_holds : IsHoldingSeat views seat place
    rule_giver_holds = record { view = before; held = held; at = at; holds = holds; is = refl }

    -- another seat holds another shard
    rule_others_hold_others : (other at_place : ℕ) → (other ≡ seat → ⊥) → IsHoldingSeat views other at_place → at_place ≡ place → ⊥
    rule_others_hold_others other at_place apart holder same =
        apart (kept.alone other seat place (subst (IsHoldingSeat views other) same holder) rule_giver_holds)

    -- and the seat holds no other
    rule_giver_holds_no_other : (other at_place : ℕ) → (at_place ≡ place → ⊥) → IsHoldingSeat views other at_place → other ≡ seat → ⊥
    rule_giver_holds_no_other other at_place apart holder same =
        let mine : IsHolderView before at_place =
        holder_has_its_view views seat at_place before at (subst (λ k. IsHoldingSeat views k at_place) same holder) in
        apart (sym mine.is ∙ ap (λ (h : Held). h.shard) (same_Some mine.held held (sym mine.holds ∙ holds)))

    -- after it a holder held its shard before
    rule_holds_as_before : (other at_place : ℕ) → IsHoldingSeat (set views seat now) other at_place
        → (other ≡ seat → ⊥) × IsHoldingSeat views other at_place
    rule_holds_as_before other at_place holder =
        ⊎_elim (λ mine. absurd (rule_none_is_not_held now mine.1.held free mine.1.holds)) (λ old. old)
        (holder_after views seat other at_place now holder)

    pub rule_survives_putting_back : IsKept shards (record { words = after; homes = filled; views = set views seat now })
    rule_survives_putting_back = record {
      words = length-set words place (2 * position) ∙ kept.words;
      slots = length-set homes place (some (Some (shard_state_at position shard))) ∙ kept.slots;
      within = λ other state of_shard. elim (cases_eq other place) [
        | inl same ↦
            let state_is : shard ≡ state =
            same_Some shard state (sym is ∙ ap (slice_get shards) (sym same) ∙ of_shard) in
            let word_is : slice_index after other ≡ 2 * position = ap (slice_index after) same ∙ rule_new_word in
            subst (λ (s : ShardValue). slice_index after other / 2 ≤ length s.list) state_is
            (omega (arith, word_is, ends))
        | inr apart ↦
            let old : slice_index words other / 2 ≤ length state.list = kept.within other state of_shard in
            omega (arith, old, rule_other_words_stay other apart)
      ];
      even = λ other state of_shard even_now. elim (cases_eq other place) [
        | inl same ↦
            let state_is : shard ≡ state =
            same_Some shard state (sym is ∙ ap (slice_get shards) (sym same) ∙ of_shard) in
            let half : position ≡ slice_index after other / 2 =
            let word_is : slice_index after other ≡ 2 * position = ap (slice_index after) same ∙ rule_new_word in
            omega (arith, word_is) in
            subst (λ n. get_elem? filled other ≡ some (some (Some (shard_state_at n state)))) half
            (subst (λ (s : ShardValue). get_elem? filled other ≡ some (some (Some (shard_state_at position s)))) state_is
            (ap (get_elem? filled) same ∙ set_here homes place (some (Some (shard_state_at position shard))) rule_place_is_in_slots))
        | inr apart ↦
            set_else homes place other (some (Some (shard_state_at position shard))) apart
            ∙ subst (λ n. IsEvenWord n → get_elem? homes other ≡ some (some (Some (shard_state_at (n / 2) state))))
            (sym (rule_other_words_stay other apart)) (kept.even other state of_shard) even_now
      ];
      odd = λ other below odd_now. elim (cases_eq other place) [
        | inl same ↦
            let word_is : slice_index after other ≡ 2 * position = ap (slice_index after) same ∙ rule_new_word in
            absurd (omega (arith, word_is, odd_now))
        | inr apart ↦
            let found = kept.odd other below (subst IsOddWord (rule_other_words_stay other apart) odd_now) in
            (found.0, holder_there views seat found.0 other now (rule_giver_holds_no_other found.0 other apart found.1) found.1)
      ];
      held = λ other view its at_now its_holds.
          ⊎_elim (λ mine. absurd (rule_none_is_not_held now its free (ap (λ v. v.held) mine.1 ∙ its_holds)))
          (λ old.
          let holder : IsHoldingSeat views other its.shard = record {
            view = view;
            held = its;
            at = old.1;
            holds = its_holds;
            is = refl;
          } in
          rule_other_words_stay its.shard (rule_others_hold_others other its.shard old.0 holder) ∙ kept.held other view its old.1 its_holds)
          (at_set views seat other now view at_now);
      alone = λ other third at_place one two.
          kept.alone other third at_place (rule_holds_as_before other at_place one).1 (rule_holds_as_before third at_place two).1;
      views = λ other view at_now live.
          ⊎_elim (λ mine. subst (FitsRule shards after) mine.1 fits)
          (λ old. rule_fit_survives_rise shards words after view rule_halves_grow (kept.views other view old.1 live))
          (at_set views seat other now view at_now);
    }

-- the table at the start
rule_starts_at_position : (shards : List ShardValue) (place : ℕ) (shard : ShardValue) → slice_get shards place ≡ Some shard
    → (slice_index (map (λ (s : ShardValue). 2 * s.position) shards) place ≡ 2 * shard.position)
    × (get_elem? (map some (map Some shards)) place ≡ some (some (Some shard)))
rule_starts_at_position [] place shard is = cc is
rule_starts_at_position (s ∷ rest) zero shard is =
    let same : s ≡ shard = same_Some s shard is in
    (ap (λ (s : ShardValue). 2 * s.position) same, ap (λ (s : ShardValue). some (some (Some s))) same)
rule_starts_at_position (s ∷ rest) (suc place) shard is = rule_starts_at_position rest place shard is

rule_starts_within_end : (shards : List ShardValue) (place : ℕ) (shard : ShardValue) → All IsShard shards
    → slice_get shards place ≡ Some shard → shard.position ≤ length shard.list
rule_starts_within_end [] place shard kept is = cc is
rule_starts_within_end (s ∷ rest) zero shard kept is =
    subst (λ (s : ShardValue). s.position ≤ length s.list) (same_Some s shard is)
    (All-head IsShard s rest kept).within
rule_starts_within_end (s ∷ rest) (suc place) shard kept is = rule_starts_within_end rest place shard (All-tail IsShard s rest kept) is

rule_starts_even : (shards : List ShardValue) (place : ℕ)
    → IsOddWord (slice_index (map (λ (s : ShardValue). 2 * s.position) shards) place) → ⊥
rule_starts_even [] place odd = omega (arith, odd)
rule_starts_even (s ∷ rest) zero odd = omega (arith, odd)
rule_starts_even (s ∷ rest) (suc place) odd = rule_starts_even rest place odd

rule_starts_with_one_view : (views : View) (seat : ℕ) (view : View) → get_elem? (views ∷ []) seat ≡ some view → views ≡ view
rule_starts_with_one_view first zero view is = some-injective first view is
rule_starts_with_one_view first (suc seat) view is = absurd (some-ne-none view (sym is))

pub rule_is_kept_at_start : (shards : List ShardValue) → All IsShard shards
    → IsKept shards (opening (map (λ (s : ShardValue). 2 * s.position) shards) (map Some shards) (first_view shards))
rule_is_kept_at_start shards kept = record {
  words = length-map shards (λ (s : ShardValue). 2 * s.position);
  slots = length-map (map Some shards) some ∙ length-map shards Some;
  within = λ place shard is.
      let word = rule_starts_at_position shards place shard is in omega (arith, word.0, rule_starts_within_end shards place shard kept is);
  even = λ place shard is even.
      let word = rule_starts_at_position shards place shard is in
      let half : shard.position ≡ slice_index (map (λ (s : ShardValue). 2 * s.position) shards) place / 2 =
      omega (arith, word.0) in
      subst (λ n. get_elem? (map some (map Some shards)) place ≡ some (some (Some (shard_state_at n shard)))) half word.1;
  odd = λ place rule_place_is_inside odd. absurd (rule_starts_even shards place odd);
  held = λ seat view held is holds.
      absurd (rule_none_is_not_held (first_view shards) held refl
      (ap (λ v. v.held) (rule_starts_with_one_view (first_view shards) seat view is) ∙ holds));
  alone = λ seat other place one two.
      absurd (rule_none_is_not_held (first_view shards) one.held refl
      (ap (λ v. v.held) (rule_starts_with_one_view (first_view shards) seat one.view one.at) ∙ one.holds));
  views = λ seat view is live.
      subst (FitsRule shards (map (λ (s : ShardValue). 2 * s.position) shards)) (rule_starts_with_one_view (first_view shards) seat view is)
      (record {
        opening = refl;
        trails = length-map shards (λ s. trail_from s.position);
        reached = first_trails_have_positions shards;
      });
}
