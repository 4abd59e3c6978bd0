-- The leaves over slots, through changes of both.
use Rattle.std.proofs.Common.{◌≡◌, ◌≢◌, ℕ, ◌+◌, ◌-◌, ◌*◌, ◌%◌, ◌^◌, ◌<◌, ◌≤◌, List, [], ◌∷◌, ◌++◌, length, get_or, set}
use Rattle.std.proofs.Common.{sym, ap, ◌∙◌}
use Rattle.std.proofs.Common.{subst, ⊎_elim, arith, All, Contains, sum, length-set, get_or-set_same, get_or-set_other}
use Rattle.std.specs.List.{range_with_len}
use Rattle.std.proofs.lemmas.Bool.{cases_eq, cases_lt}
use Rattle.std.proofs.lemmas.List.{get_or_default, get_or_append_left, get_or_push, get_or-map, length-map, length_push}
use Rattle.std.proofs.lemmas.List.FromFn.{length-range_with_len, get_or-range_with_len}
use Rattle.std.proofs.lemmas.List.Sums.{sum_by-set, sum_by-le}
use Rattle.loser_tree.specs.{HasLeaves}
use Rattle.rank_table.specs.declared.slot.Slot.{Slot}
use Rattle.rank_table.specs.Ranks.{slot_rank}
use Rattle.rank_table.specs.Words.{rank_word, IsExactWord}
use Rattle.rank_table.specs.Ranks.{AreLeaves, AreRanked, HasLeast, HasRankLeaves}
use Rattle.rank_table.specs.SlotOrder.{AreOrdered}
use Rattle.rank_table.specs.Times.{renumbered_slot, renumbered_slots}
use Rattle.rank_table.proofs.RankedSlotLemmas.{all-ranked_slot_at}
use Rattle.rank_table.proofs.RenumberedSlotLemmas.{AreOrdered-renumbered_slots}
use Rattle.rank_table.proofs.RankWordLemmas.{rank_word_names_place, rank_word_not_below_place, rank_word_fits}
use Rattle.rank_table.proofs.RankWordLemmas.{rank_word_rises, exact_rank_word_is_least}

-- leaves that are their own indices are lower bounds of the slots' words
pub leaf_starts_as_its_place : (capacity base : ℕ) (slots : List Slot) → capacity ≤ 4096 → length slots ≤ capacity
    → ((place : ℕ) (d : Slot) → place < length slots → base ≤ (get_or slots place d).entry.count)
    → ((place : ℕ) (d : Slot) → place < length slots → (get_or slots place d).time < 2 ^ 18)
    → AreLeaves capacity base (range_with_len 0 capacity) slots
leaf_starts_as_its_place capacity base slots most fits based timed =
    let number : (place : ℕ) → place < capacity
    → get_or (range_with_len 0 capacity) place 0 ≡ place = λ place within. get_or-range_with_len 0 capacity place 0 within
    ∙ (let e : 0 + place ≡ place = omega arith in e) in
    record {
      most = most;
      shape = length-range_with_len 0 capacity;
      fits = fits;
      placed = λ place within. ap (λ n. n % 4096) (number place within) ∙ (let small : place % 4096 ≡ place = omega arith in small);
      early = λ place _ within. number place within;
      below = λ place d within. omega (arith, number place (omega arith), rank_word_not_below_place base (get_or slots place d) place);
      based = based;
      timed = timed;
    }

-- the place that a leaf names has that leaf
pub leaf_stands_at_its_place : (capacity base leaf : ℕ) (leaves : List ℕ) (slots : List Slot) → AreLeaves capacity base leaves slots → Contains leaves leaf
    → (leaf % 4096 < capacity) × (get_or leaves (leaf % 4096) 0 ≡ leaf)
leaf_stands_at_its_place capacity base leaf leaves slots are present =
    let place = present.0 in
    let within : place < capacity = omega (arith, are.shape, present.1) in
    let is : get_or leaves place 0 ≡ leaf = get_or_default leaves place 0 leaf present.1 ∙ present.2 in
    let named : leaf % 4096 ≡ place = ap (λ n. n % 4096) (sym is) ∙ are.placed place within in
    (omega arith, ap (λ n. get_or leaves n 0) named ∙ is)

-- the leaves stay lower bounds when one becomes its slot's word
pub leaf_is_mended_to_word : (capacity base : ℕ) (leaves : List ℕ) (slots : List Slot) (place : ℕ) (slot : Slot) → AreLeaves capacity base leaves slots
    → place < length slots
    → slot ≡ get_or slots place slot → AreLeaves capacity base (set leaves place (rank_word base slot place)) slots
leaf_is_mended_to_word capacity base leaves slots place slot are within read =
    let shape : length leaves ≡ capacity = are.shape in
    let fits : length slots ≤ capacity = are.fits in
    let most : capacity ≤ 4096 = are.most in
    let here : get_or (set leaves place (rank_word base slot place)) place 0 ≡ rank_word base slot place = get_or-set_same leaves place
    (rank_word base slot place) 0 (omega arith) in
    let there = λ (other : ℕ) (apart : other ≢ place). get_or-set_other leaves place other (rank_word base slot place) 0 apart in
    record {
      most = are.most;
      shape = length-set leaves place (rank_word base slot place) ∙ are.shape;
      fits = are.fits;
      placed = λ other inside. ⊎_elim
          (λ (same : other ≡ place). ap (λ n. get_or (set leaves place (rank_word base slot place)) n 0 % 4096) same ∙ ap (λ n. n % 4096) here
          ∙ rank_word_names_place base slot place (omega arith) ∙ sym same)
          (λ (apart : other ≢ place). ap (λ n. n % 4096) (there other apart) ∙ are.placed other inside)
          (cases_eq other place);
      early = λ other behind inside. let apart : other ≢ place = omega arith in there other apart ∙ are.early other behind inside;
      below = λ other d inside. ⊎_elim
          (λ (same : other ≡ place). subst (λ n. get_or (set leaves place (rank_word base slot place)) n 0 ≤ rank_word base (get_or slots n d) n) (sym same)
          (subst (λ (s : Slot). get_or (set leaves place (rank_word base slot place)) place 0 ≤ rank_word base s place) (read
          ∙ get_or_default slots place slot d within) (omega (arith, here))))
          (λ (apart : other ≢ place). subst (λ n. n ≤ rank_word base (get_or slots other d) other) (sym (there other apart)) (are.below other d inside))
          (cases_eq other place);
      based = are.based;
      timed = are.timed;
    }

-- the leaves stay lower bounds when a slot changes to one of no smaller count and time
pub leaf_stays_below_raised_slot : (capacity base : ℕ) (leaves : List ℕ) (slots : List Slot) (place : ℕ) (slot : Slot)
    → AreLeaves capacity base leaves slots
    → place < length slots
    → (get_or slots place slot).entry.count ≤ slot.entry.count → (get_or slots place slot).time ≤ slot.time → slot.time < 2 ^ 18
    → AreLeaves capacity base leaves (set slots place slot)
leaf_stays_below_raised_slot capacity base leaves slots place slot are within more later early =
    let same_length : length (set slots place slot) ≡ length slots = length-set slots place slot in
    record {
      most = are.most;
      shape = are.shape;
      fits = omega (arith, are.fits, same_length);
      placed = are.placed;
      early = λ other behind inside. are.early other (omega (arith, same_length)) inside;
      below = λ other d inside. ⊎_elim
          (λ (same : other ≡ place). subst (λ n. get_or leaves n 0 ≤ rank_word base (get_or (set slots place slot) n d) n) (sym same)
          (subst (λ (s : Slot). get_or leaves place 0 ≤ rank_word base s place) (sym (get_or-set_same slots place slot d within))
          (omega (arith, are.below place slot within, rank_word_rises base (get_or slots place slot) slot place more later))))
          (λ (apart : other ≢ place). subst (λ (s : Slot). get_or leaves other 0 ≤ rank_word base s other)
          (sym (get_or-set_other slots place other slot d apart)) (are.below other d (omega (arith, same_length))))
          (cases_eq other place);
      based = λ other d inside. ⊎_elim
          (λ (same : other ≡ place). subst (λ n. base ≤ (get_or (set slots place slot) n d).entry.count) (sym same)
          (subst (λ (s : Slot). base ≤ s.entry.count) (sym (get_or-set_same slots place slot d within)) (omega (arith, are.based place slot within))))
          (λ (apart : other ≢ place). subst (λ (s : Slot). base ≤ s.entry.count) (sym (get_or-set_other slots place other slot d apart))
          (are.based other d (omega (arith, same_length))))
          (cases_eq other place);
      timed = λ other d inside. ⊎_elim
          (λ (same : other ≡ place). subst (λ n. (get_or (set slots place slot) n d).time < 2 ^ 18) (sym same)
          (subst (λ (s : Slot). s.time < 2 ^ 18) (sym (get_or-set_same slots place slot d within)) early))
          (λ (apart : other ≢ place). subst (λ (s : Slot). s.time < 2 ^ 18) (sym (get_or-set_other slots place other slot d apart))
          (are.timed other d (omega (arith, same_length))))
          (cases_eq other place);
    }

-- the leaves stay lower bounds when a slot is appended, if the base is 0
pub leaf_stays_after_push : (capacity base : ℕ) (leaves : List ℕ) (slots : List Slot) (slot : Slot) → AreLeaves capacity base leaves slots
    → length slots < capacity → base ≡ 0 → slot.time < 2 ^ 18
    → AreLeaves capacity base leaves (slots ++ slot ∷ [])
leaf_stays_after_push capacity base leaves slots slot are room unbased early =
    let one_more : length (slots ++ slot ∷ []) ≡ length slots + 1 = length_push slots slot in
    record {
      most = are.most;
      shape = are.shape;
      fits = omega (arith, one_more);
      placed = are.placed;
      early = λ other behind inside. are.early other (omega (arith, one_more)) inside;
      below = λ other d inside. ⊎_elim
          (λ (old : other < length slots). subst (λ (s : Slot). get_or leaves other 0 ≤ rank_word base s other)
          (sym (get_or_append_left slots (slot ∷ []) d other old)) (are.below other d old))
          (λ (new : length slots ≤ other). omega (
            arith,
            are.early other new (omega (arith, one_more)),
            rank_word_not_below_place base (get_or
                (slots ++ slot ∷ []) other d) other,
          ))
          (cases_lt other (length slots));
      based = λ other d inside. omega arith;
      timed = λ other d inside. ⊎_elim
          (λ (old : other < length slots). subst (λ (s : Slot). s.time < 2 ^ 18) (sym (get_or_append_left slots (slot ∷ []) d other old))
          (are.timed other d old))
          (λ (new : length slots ≤ other). subst (λ (s : Slot). s.time < 2 ^ 18)
          (sym (get_or_push slots slot d other (let last : length slots ≡ other = omega (arith, one_more) in last))) early)
          (cases_lt other (length slots));
    }

-- the sum by which leaves can still rise falls when a leaf that differs from its slot's word is mended
pub leaf_rises_when_mended : (capacity base : ℕ) (leaves : List ℕ) (slots : List Slot) (place : ℕ) (slot : Slot) → AreLeaves capacity base leaves slots
    → capacity ≡ length slots → place < capacity
    → slot ≡ get_or slots place slot → get_or leaves place 0 ≢ rank_word base slot place
    → length (set leaves place (rank_word base slot place)) * 2 ^ 64 - sum (set leaves place (rank_word base slot place)) < length leaves * 2 ^ 64 - sum leaves
leaf_rises_when_mended capacity base leaves slots place slot are full within read differs =
    let shape : length leaves ≡ capacity = are.shape in
    let most : capacity ≤ 4096 = are.most in
    let new = rank_word base slot place in
    let after = leaf_is_mended_to_word capacity base leaves slots place slot are (omega arith) read in
    let rises : get_or leaves place 0 ≤ new = subst (λ (s : Slot). get_or leaves place 0 ≤ rank_word base s place) (sym read)
    (are.below place slot (omega arith)) in
    let small : All (λ leaf. leaf ≤ 2 ^ 64) (set leaves place new) = λ other d inside.
    let inner : other < capacity = omega (arith, length-set leaves place new) in
    let low = after.below other slot (omega arith) in
    omega (
      arith,
      get_or_default (set leaves place new) other d 0 inside,
      low,
      rank_word_fits base (get_or slots other slot) other
          (after.timed other slot (omega arith)) (omega arith),
    ) in
    omega (arith, length-set leaves place new, sum_by-set (λ x. x) leaves place new 0 (omega arith), sum_by-le (λ x. x) (2 ^ 64) (set leaves place new) small)

-- the leaves of a tree stay lower bounds when the least one becomes its slot's word
pub least_leaf_is_mended_to_word : (capacity base leaf place word : ℕ) (tree after : List ℕ) (slots : List Slot) (slot : Slot)
    → HasRankLeaves capacity base tree slots → place < length slots → leaf % 4096 ≡ place
    → ((leaves : List ℕ) → HasLeaves tree leaves → Contains leaves leaf)
    → ((leaves : List ℕ) → HasLeaves tree leaves → All (λ other. leaf ≤ other) leaves)
    → slot ≡ get_or slots place slot → word ≡ rank_word base slot place
    → ((leaves : List ℕ) → HasLeaves tree leaves → All (λ other. get_or leaves place 0 ≤ other) leaves → HasLeaves after (set leaves place word))
    → HasRankLeaves capacity base after slots
least_leaf_is_mended_to_word capacity base leaf place word tree after slots slot has within names present least read is replaced =
    let named = leaf_stands_at_its_place capacity base leaf has.leaves slots has.are_leaves (present has.leaves has.in_tree) in
    let here : get_or has.leaves place 0 ≡ leaf = ap (λ n. get_or has.leaves n 0) (sym names) ∙ named.1 in
    record {
      leaves = set has.leaves place word;
      in_tree = replaced has.leaves has.in_tree (subst (λ n. All (λ other. n ≤ other) has.leaves) (sym here) (least has.leaves has.in_tree));
      are_leaves = subst (λ n. AreLeaves capacity base (set has.leaves place n) slots) (sym is)
          (leaf_is_mended_to_word capacity base has.leaves slots place slot has.are_leaves within read);
    }

-- and their sum, which is that of the tree's nodes, comes nearer to its bound if that word differs
pub tree_rises_when_leaf_is_mended : (capacity base leaf place word : ℕ) (tree after : List ℕ) (slots : List Slot) (slot : Slot)
    → HasRankLeaves capacity base tree slots → capacity ≡ length slots → place < length slots → leaf % 4096 ≡ place
    → ((leaves : List ℕ) → HasLeaves tree leaves → Contains leaves leaf)
    → ((leaves : List ℕ) → HasLeaves tree leaves → All (λ other. leaf ≤ other) leaves)
    → slot ≡ get_or slots place slot → word ≡ rank_word base slot place → word ≢ leaf
    → ((leaves : List ℕ) → HasLeaves tree leaves → All (λ other. get_or leaves place 0 ≤ other) leaves → HasLeaves after (set leaves place word))
    → ((leaves : List ℕ) → HasLeaves tree leaves → sum tree ≡ sum leaves) → ((leaves : List ℕ) → HasLeaves after leaves → sum after ≡ sum leaves)
    → length after * 2 ^ 64 - sum after < length tree * 2 ^ 64 - sum tree
tree_rises_when_leaf_is_mended capacity base leaf place word tree after slots slot has full within names present least read is differs replaced sums later =
    let named = leaf_stands_at_its_place capacity base leaf has.leaves slots has.are_leaves (present has.leaves has.in_tree) in
    let here : get_or has.leaves place 0 ≡ leaf = ap (λ n. get_or has.leaves n 0) (sym names) ∙ named.1 in
    let new : HasLeaves after (set has.leaves place word) = replaced has.leaves has.in_tree
    (subst (λ n. All (λ other. n ≤ other) has.leaves) (sym here) (least has.leaves has.in_tree)) in
    let rises : length (set has.leaves place word) * 2 ^ 64 - sum (set has.leaves place word) < length has.leaves * 2 ^ 64 - sum has.leaves =
    subst (λ n. length (set has.leaves place n) * 2 ^ 64 - sum (set has.leaves place n) < length has.leaves * 2 ^ 64 - sum has.leaves) (sym is)
    (leaf_rises_when_mended capacity base has.leaves slots place slot has.are_leaves full (omega arith) read
    (λ same. differs (is ∙ sym same ∙ here))) in
    omega (arith, rises, sums has.leaves has.in_tree, later (set has.leaves place word) new, new.shape, has.in_tree.shape)

-- a slot whose word is the least leaf has the least word
pub least_leaf_is_least_word : (capacity base leaf place : ℕ) (leaves : List ℕ) (slots : List Slot) (slot : Slot) → AreLeaves capacity base leaves slots
    → All (λ other. leaf ≤ other) leaves → place < length slots → slot ≡ get_or slots place slot → rank_word base slot place ≡ leaf
    → (other : ℕ) (d : Slot) → other < length slots → rank_word base (get_or slots place d) place ≤ rank_word base (get_or slots other d) other
least_leaf_is_least_word capacity base leaf place leaves slots slot are least within read is other d inside =
    let fits : length slots ≤ capacity = are.fits in
    let at : slot ≡ get_or slots place d = read ∙ get_or_default slots place slot d within in
    subst (λ (s : Slot). rank_word base s place ≤ rank_word base (get_or slots other d) other) at
    (omega (arith, is, least other 0 (omega (arith, are.shape)), are.below other d inside))

-- a winner whose word is exact comes first
pub exact_leaf_is_least : (capacity base : ℕ) (leaves : List ℕ) (slots : List Slot) (place : ℕ) (slot : Slot) → AreLeaves capacity base leaves slots
    → place < length slots
    → slot ≡ get_or slots place slot → IsExactWord base slot
    → ((other : ℕ) (d : Slot) → other < length slots → rank_word base (get_or slots place d) place ≤ rank_word base (get_or slots other d) other)
    → HasLeast slots place
exact_leaf_is_least capacity base leaves slots place slot are within read exact least =
    let most : capacity ≤ 4096 = are.most in
    let fits : length slots ≤ capacity = are.fits in
    record {
      within = within;
      least = λ other d inside.
          let at : slot ≡ get_or slots place d = read ∙ get_or_default slots place slot d within in
          subst (λ (s : Slot). slot_rank s ≤ slot_rank (get_or slots other d)) at
          (exact_rank_word_is_least base slot (get_or slots other d) place other exact (subst (λ (s : Slot). base ≤ s.entry.count) (sym read)
          (are.based place slot within)) (are.based other d inside)
          (subst (λ (s : Slot). s.time < 2 ^ 18) (sym read) (are.timed place slot within)) (are.timed other d inside) (omega arith)
          (omega arith) (subst (λ (s : Slot). rank_word base s place ≤ rank_word base (get_or slots other d) other) (sym at)
          (least other d inside)));
    }

-- the leaves of a tree that restarts with the least count as its base
pub leaf_restarts_at_least_count : (capacity reserved base : ℕ) (tree after : List ℕ) (slots : List Slot) (place : ℕ) (slot : Slot)
    → AreRanked capacity reserved base tree slots → length slots ≡ capacity
    → HasLeaves after (range_with_len 0 capacity)
    → place < length slots → slot ≡ get_or slots place slot → ((other : ℕ) (d : Slot) → other < length slots
    → (get_or slots place d).entry.count ≤ (get_or slots other d).entry.count)
    → AreRanked capacity reserved slot.entry.count after slots
leaf_restarts_at_least_count capacity reserved base tree after slots place slot are full restarted within read least =
    let old = are.has_leaves.are_leaves in
    record {
      some = are.some;
      has_room = are.has_room;
      has_leaves = record {
        leaves = range_with_len 0 capacity;
        in_tree = restarted;
        are_leaves = leaf_starts_as_its_place capacity slot.entry.count slots old.most old.fits
            (λ other d inside. subst (λ (s : Slot). s.entry.count ≤ (get_or slots other d).entry.count) (sym (read
            ∙ get_or_default slots place slot d within)) (least other d inside)) old.timed;
      };
      unbased = λ room. absurd (omega arith);
    }

-- the leaves of a tree that restarts once its slots are renumbered
pub leaf_restarts_when_renumbered : (capacity reserved base : ℕ) (tree after : List ℕ) (slots : List Slot)
    → AreRanked capacity reserved base tree slots → AreOrdered (2 ^ 18) slots → HasLeaves after (range_with_len 0 capacity)
    → AreRanked capacity reserved base after (renumbered_slots slots)
leaf_restarts_when_renumbered capacity reserved base tree after slots are ordered restarted =
    let old = are.has_leaves.are_leaves in
    let same : length (renumbered_slots slots) ≡ length slots = length-map slots (renumbered_slot slots) in
    let fits : length slots ≤ capacity = old.fits in
    let most : capacity ≤ 4096 = old.most in
    let again = AreOrdered-renumbered_slots (2 ^ 18) slots ordered in
    record {
      some = are.some;
      has_room = are.has_room;
      has_leaves = record {
        leaves = range_with_len 0 capacity;
        in_tree = restarted;
        are_leaves = leaf_starts_as_its_place capacity base (renumbered_slots slots) most (omega arith)
            (λ place d within. subst (λ (s : Slot). base ≤ s.entry.count) (sym (get_or-map (renumbered_slot slots) slots place d d (omega arith)))
            (old.based place d (omega arith)))
            (λ place d within. omega (arith, all-ranked_slot_at (λ slot. slot.time < length slots) place (renumbered_slots slots) d again.timed within));
      };
      unbased = λ room. are.unbased (omega arith);
    }
