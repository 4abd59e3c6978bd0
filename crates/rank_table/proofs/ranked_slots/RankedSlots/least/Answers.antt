use Rattle.std.proofs.Common.{◌≡◌, ◌<◌, ◌≤◌, ℕ, List, length, get_or, sym, subst, ◌∙◌}
use Rattle.std.specs.List.{range_with_len}
use Rattle.loser_tree.specs.{HasLeaves}
use Rattle.rank_table.specs.declared.slot.Slot.{Slot}
use Rattle.rank_table.specs.Slot.{Slots}
use Rattle.rank_table.specs.Words.{rank_word, IsExactWord}
use Rattle.rank_table.specs.Ranks.{HasRankLeaves}
use Rattle.rank_table.proofs.LeafLemmas.{exact_leaf_is_least, leaf_restarts_at_least_count}
use Rattle.rank_table.proofs.ranked_slots.RankedSlots.least.Goals as goal

pub returns-then-is_exact-clause-least : goal.returns-then-is_exact-clause-least
returns-then-is_exact-clause-least c =
    let items = c.self.inside.slots.items in
    let same = c.deref.ensures.value in
    let leaves = subst (λ (l : List Slot). HasRankLeaves (length l) c.self.inside.base c.winner-place.new.tree l) same c.winner-place.ensures.leaves in
    let within = subst (λ (l : List Slot). c.winner-place.result < length l) same c.winner-place.ensures.within in
    let least = subst (λ (l : List Slot). (place : ℕ) (d : Slot) → place < length l
    → rank_word c.self.inside.base (get_or l c.winner-place.result d) c.winner-place.result ≤ rank_word c.self.inside.base
    (get_or l place d) place) same c.winner-place.ensures.least in
    let exact : IsExactWord c.self.inside.base c.index.result.now = c.is_exact.ensures.0 c.if-is_exact.true in
    rw (← c.self.view_is) (exact_leaf_is_least (length items) c.self.inside.base leaves.leaves items c.winner-place.result c.index.result.now
    leaves.are_leaves within c.index.ensures exact least)

pub invariant_of-self-2 : goal.invariant_of-self-2
invariant_of-self-2 c =
    let items = c.self.inside.slots.items in
    let full : length items ≡ c.self.inside.capacity = subst (λ (r : Slots). length r.slots ≡ r.capacity) (sym c.self.view_is) c.requires in
    let leaves = subst (λ (l : List Slot). HasRankLeaves (length l) c.self.inside.base c.winner-place.new.tree l) c.deref.ensures.value
    c.winner-place.ensures.leaves in
    let shape : length c.winner-place.new.tree ≡ c.self.inside.capacity = leaves.in_tree.shape ∙ leaves.are_leaves.shape ∙ full in
    let restarted = subst (λ n. HasLeaves c.restart.new.self (range_with_len 0 n)) shape c.restart.ensures in
    let within = subst (λ (l : List Slot). c.least_of-place.result < length l) c.deref-2.ensures.value c.least_of-place.ensures.least.within in
    let least = subst (λ (l : List Slot). (other : ℕ) (d : Slot) → other < length l
    → (get_or l c.least_of-place.result d).entry.count ≤ (get_or l other d).entry.count) c.deref-2.ensures.value c.least_of-place.ensures.count in
    leaf_restarts_at_least_count c.self.inside.capacity c.self.inside.slots.cap c.self.inside.base c.self.inside.tree c.restart.new.self items
    c.least_of-place.result c.index-2.result.now c.self.invariant full restarted within c.index-2.ensures least
