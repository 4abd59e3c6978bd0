-- Worked examples of what reads leave, most by computing.
use Rattle.std.proofs.Common.{◌≡◌, ℕ, zero, suc, ◌/◌, ◌≤◌, List, [], ◌∷◌, ◌++◌, map, length, All, Some, slice_get}
use Rattle.std.proofs.Common.{refl, ap, ◌∙◌, arith}
use Rattle.std.specs.Prelude.{slice_index}
use Rattle.std.proofs.lemmas.List.Elements.{All-from_recursion}
use Rattle.shard_state.specs.{CutValue, IsShard, empty_snapshot, cut_positions, snapshot_of, shard_state_at}
use Rattle.position_words.specs.{IsOddWord, after_loss, seen_in}
use Rattle.position_words.specs.declared.view.Trail.{Trail}
use Rattle.position_words.specs.declared.view.View.{View}
use Rattle.pass_tokens.specs.declared.board.TryRead.TheVariants.{Done, Busy}
use Rattle.pass_tokens.specs.TryFold.{after_losses}
use Rattle.pass_tokens.specs.TryRead.{read_once, ReadsShard, TriesToRead, ShardRead, after_read, after_reads}
use Rattle.pass_tokens.specs.TryRead.{states_of}
use Rattle.pass_tokens.specs.TryRead.{ReadsCut, ReadsAtLast, ReadsSoFar}
use Rattle.pass_tokens.proofs.Examples.{four, pair, single, shards, first, trail, try_that_loses}

pub read_is_kept : read_once 1 (trail 0) ≡ record (trail 1) { reads = 1 ∷ [] }
read_is_kept = refl

-- a cut of the two shards, and after the first was read at position 1
abbrev cut : CutValue
cut = record { shape = four; shards = empty_snapshot four ∷ empty_snapshot four ∷ [] }

abbrev with_first : CutValue
with_first = record { shape = four; shards = snapshot_of (shard_state_at 1 pair) ∷ empty_snapshot four ∷ [] }

-- the view after that
abbrev after_one : View
after_one = record first { trails = record (trail 1) { reads = 1 ∷ [] } ∷ trail 0 ∷ [] }

pub reads_the_first : IsShard (shard_state_at 1 pair) → ReadsShard shards 0 first cut after_one with_first
reads_the_first kept = record {
  position = 1;
  state = pair;
  is = refl;
  kept = kept;
  later = omega arith;
  view = refl;
  core = refl;
}

-- the view has a read at position 1, and the cut is still at position 0
pub read_that_leaves_the_cut : ReadsShard shards 0 first cut after_one cut → ⊥
read_that_leaves_the_cut reads =
    let met : 1 ≡ reads.position = ap (seen_in 0) reads.view in
    let in_the_cut : 0 ≡ reads.position = ap (λ c. slice_index (cut_positions c) 0) reads.core in
    omega (arith, met, in_the_cut)

pub try_that_reads : IsShard (shard_state_at 1 pair) → TriesToRead shards 0 first cut after_one with_first Done
try_that_reads kept = reads_the_first kept

pub try_that_loses_leaves_the_cut : TriesToRead shards 0 first cut (after_loss 0 3 first) cut Busy
try_that_loses_leaves_the_cut = (try_that_loses, refl)

pub try_that_loses_and_reads : TriesToRead shards 0 first cut (after_loss 0 3 first) with_first Busy → ⊥
try_that_loses_and_reads tries =
    let position : 1 ≡ 0 = ap (λ c. slice_index (cut_positions c) 0) tries.1 in
    omega (arith, position)

-- the first shard was read at position 1, after a take that met the word 3; the second at once, at position 0
abbrev one : ShardRead
one = record { losses = 3 ∷ []; position = 1 }

abbrev two : ShardRead
two = record { losses = []; position = 0 }

pub loss_and_read_are_kept : after_read one (trail 0) ≡ record (trail 1) { reads = 1 ∷ []; losses = 3 ∷ [] }
loss_and_read_are_kept = refl

abbrev trails_of_both : List Trail
trails_of_both = record (trail 1) { reads = 1 ∷ []; losses = 3 ∷ [] } ∷ record (trail 0) { reads = 0 ∷ [] } ∷ []

pub both_reads_are_kept : after_reads first.trails (one ∷ two ∷ []) ≡ trails_of_both
both_reads_are_kept = refl

pub second_not_yet_read : after_reads first.trails (one ∷ []) ≡ after_read one (trail 0) ∷ trail 0 ∷ []
second_not_yet_read = refl

pub states_of_both : states_of shards (one ∷ two ∷ []) ≡ shard_state_at 1 pair ∷ shard_state_at 0 single ∷ []
states_of_both = refl

pub states_of_the_first : states_of shards (one ∷ []) ≡ shard_state_at 1 pair ∷ []
states_of_the_first = refl

abbrev losses_are_odd : ShardRead → Type 0
losses_are_odd read = All IsOddWord read.losses

one_is_odd : All IsOddWord one.losses
one_is_odd = All-from_recursion IsOddWord (3 ∷ []) (refl, tt)

abbrev with_both : CutValue
with_both = record { shape = four; shards = snapshot_of (shard_state_at 1 pair) ∷ snapshot_of (shard_state_at 0 single) ∷ [] }

pub reads_both : All IsShard (shard_state_at 1 pair ∷ shard_state_at 0 single ∷ [])
    → ReadsCut shards first cut (record first { trails = trails_of_both }) with_both
reads_both kept = record {
  reads = one ∷ two ∷ [];
  as_many = refl;
  odd = All-from_recursion losses_are_odd (one ∷ two ∷ []) (one_is_odd, (All-from_recursion IsOddWord [] tt, tt));
  kept = kept;
  later = seen_before;
  view = refl;
  core = refl;
}
  where
    seen_before : (shard : ℕ) (read : ShardRead) → slice_get (one ∷ two ∷ []) shard ≡ Some read
        → seen_in shard first ≤ read.position
    seen_before zero read is = omega arith
    seen_before (suc zero) read is = omega arith
    seen_before (suc (suc shard)) read is = omega arith

-- how many reads a view has of the second shard
abbrev reads_of : View → ℕ
reads_of view = slice_index (map (λ trail. length trail.reads) view.trails) 1

reads_stay : (words : List ℕ) (trail : Trail) → (after_losses words trail).reads ≡ trail.reads
reads_stay [] trail = refl
reads_stay (word ∷ words) trail =
    reads_stay words (record trail { seen = word / 2; losses = trail.losses ++ word ∷ [] })

-- the second shard was not read
pub cut_without_the_second : (changed : CutValue) → ReadsCut shards first cut after_one changed → ⊥
cut_without_the_second changed cut_read = both cut_read.reads cut_read.as_many cut_read.view
  where
    both : (reads : List ShardRead) → length reads ≡ 2
        → after_one ≡ record first { trails = after_reads first.trails reads } → ⊥
    both [] many view = omega (arith, many)
    both (read ∷ []) many view = omega (arith, many)
    both (read ∷ next ∷ reads) many view =
        let count : 0 ≡ 1 =
        ap reads_of view ∙ ap (λ met. length (met ++ next.position ∷ [])) (reads_stay next.losses (trail 0)) in
        omega (arith, count)

abbrev after_a_loss : View
after_a_loss = record first { trails = after_read one (trail 0) ∷ trail 0 ∷ [] }

pub reads_the_first_at_last : IsShard (shard_state_at 1 pair) → ReadsAtLast shards 0 first cut after_a_loss with_first
reads_the_first_at_last kept = record {
  read = one;
  odd = one_is_odd;
  state = pair;
  is = refl;
  kept = kept;
  later = omega arith;
  view = refl;
  core = refl;
}

pub read_at_last_that_leaves_the_cut : ReadsAtLast shards 0 first cut after_a_loss cut → ⊥
read_at_last_that_leaves_the_cut reads =
    let met : 1 ≡ reads.read.position = ap (seen_in 0) reads.view in
    let in_the_cut : 0 ≡ reads.read.position = ap (λ c. slice_index (cut_positions c) 0) reads.core in
    omega (arith, met, in_the_cut)

pub reads_one_so_far : All IsShard (shard_state_at 1 pair ∷ []) → ReadsSoFar shards 1 first cut after_a_loss with_first
reads_one_so_far kept = record {
  reads = one ∷ [];
  as_many = refl;
  odd = All-from_recursion losses_are_odd (one ∷ []) (one_is_odd, tt);
  kept = kept;
  later = seen_before;
  view = refl;
  core = refl;
}
  where
    seen_before : (shard : ℕ) (read : ShardRead) → slice_get (one ∷ []) shard ≡ Some read
        → seen_in shard first ≤ read.position
    seen_before zero read is = omega arith
    seen_before (suc zero) read is = omega arith
    seen_before (suc (suc shard)) read is = omega arith

-- without reads the view is as it was
pub reads_none_so_far : (changed : CutValue) → ReadsSoFar shards 0 first cut after_a_loss changed → ⊥
reads_none_so_far changed far = none far.reads far.as_many far.view
  where
    none : (reads : List ShardRead) → length reads ≡ 0
        → after_a_loss ≡ record first { trails = after_reads first.trails reads } → ⊥
    none [] many view = let seen : 1 ≡ 0 = ap (seen_in 0) view in omega (arith, seen)
    none (read ∷ reads) many view = omega (arith, many)
