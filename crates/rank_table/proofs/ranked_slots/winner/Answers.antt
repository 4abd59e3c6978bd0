use Rattle.std.proofs.Common.{◌%◌, length, get_or, refl, sym, ◌∙◌, arith}
use Rattle.std.proofs.lemmas.List.{get_or_default}
use Rattle.rank_table.specs.declared.slot.Slot.{Slot}
use Rattle.rank_table.proofs.LeafLemmas.{leaf_stands_at_its_place, least_leaf_is_least_word, least_leaf_is_mended_to_word}
use Rattle.rank_table.proofs.LeafLemmas.{tree_rises_when_leaf_is_mended}
use Rattle.rank_table.proofs.ranked_slots.winner.Goals as goal

abbrev blank : Slot
blank = record { entry = record { key = 0; count = 0; error = 0 }; time = 0 }

pub bounds-slots-place : goal.bounds-slots-place
bounds-slots-place c =
    let has = c.mending.invariant in
    (leaf_stands_at_its_place (length c.args.slots.now) c.args.base c.least-leaf.result has.leaves c.args.slots.now has.are_leaves
    (c.least-leaf.ensures.present has.leaves has.in_tree)).0

pub word_of-word-requires-clause-above : goal.word_of-word-requires-clause-above
word_of-word-requires-clause-above c =
    let has = c.mending.invariant in
    let named = leaf_stands_at_its_place (length c.args.slots.now) c.args.base c.least-leaf.result has.leaves c.args.slots.now has.are_leaves
    (c.least-leaf.ensures.present has.leaves has.in_tree) in
    has.are_leaves.based (c.least-leaf.result % 4096) blank named.0

pub returns-then-word-leaf-clause-within : goal.returns-then-word-leaf-clause-within
returns-then-word-leaf-clause-within c =
    let has = c.mending.invariant in
    (leaf_stands_at_its_place (length c.args.slots.now) c.args.base c.least-leaf.result has.leaves c.args.slots.now has.are_leaves
    (c.least-leaf.ensures.present has.leaves has.in_tree)).0

pub returns-then-word-leaf-clause-least : goal.returns-then-word-leaf-clause-least
returns-then-word-leaf-clause-least c =
    let has = c.mending.invariant in
    let slots = c.args.slots.now in
    let place = c.least-leaf.result % 4096 in
    let slot = get_or slots place blank in
    let named = leaf_stands_at_its_place (length slots) c.args.base c.least-leaf.result has.leaves slots has.are_leaves
    (c.least-leaf.ensures.present has.leaves has.in_tree) in
    least_leaf_is_least_word (length slots) c.args.base c.least-leaf.result place has.leaves slots slot has.are_leaves
    (c.least-leaf.ensures.least has.leaves has.in_tree) named.0 (get_or_default slots place blank slot named.0)
    (sym c.word_of-word.ensures ∙ c.if-word-leaf.true)

pub replace_least-requires : goal.replace_least-requires
replace_least-requires c =
    let has = c.mending.invariant in
    let named = leaf_stands_at_its_place (length c.args.slots.now) c.args.base c.least-leaf.result has.leaves c.args.slots.now has.are_leaves
    (c.least-leaf.ensures.present has.leaves has.in_tree) in
    omega (arith, named.0, has.in_tree.shape, has.are_leaves.shape)

pub mending-preserved : goal.mending-preserved
mending-preserved c =
    let slots = c.args.slots.now in
    let has = c.mending.invariant in
    let place = c.least-leaf.result % 4096 in
    let slot = get_or slots place blank in
    let named = leaf_stands_at_its_place (length slots) c.args.base c.least-leaf.result has.leaves slots has.are_leaves
    (c.least-leaf.ensures.present has.leaves has.in_tree) in
    least_leaf_is_mended_to_word (length slots) c.args.base c.least-leaf.result place c.word_of-word.result c.mending.tree c.replace_least.new.self slots slot
    has named.0 refl c.least-leaf.ensures.present c.least-leaf.ensures.least (get_or_default slots place blank slot named.0) c.word_of-word.ensures
    c.replace_least.ensures.leaves

pub mending-smaller : goal.mending-smaller
mending-smaller c =
    let slots = c.args.slots.now in
    let has = c.mending.invariant in
    let place = c.least-leaf.result % 4096 in
    let slot = get_or slots place blank in
    let named = leaf_stands_at_its_place (length slots) c.args.base c.least-leaf.result has.leaves slots has.are_leaves
    (c.least-leaf.ensures.present has.leaves has.in_tree) in
    tree_rises_when_leaf_is_mended (length slots) c.args.base c.least-leaf.result place c.word_of-word.result c.mending.tree c.replace_least.new.self slots slot
    has refl named.0 refl c.least-leaf.ensures.present c.least-leaf.ensures.least (get_or_default slots place blank slot named.0) c.word_of-word.ensures
    c.if-word-leaf.false c.replace_least.ensures.leaves c.least-leaf.ensures.sum c.replace_least.ensures.sum
