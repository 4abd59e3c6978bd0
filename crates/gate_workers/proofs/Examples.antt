-- Worked examples of what feeding and reporting leave.
use Rattle.std.proofs.Common.{◌≡◌, ℕ, ◌≤◌, List, [], ◌∷◌, ◌++◌, map, length}
use Rattle.std.proofs.Common.{refl, ap, arith, subst, All, slice_index_or}
use Rattle.std.proofs.lemmas.List.Elements.{All-nil, All-from_recursion}
use Rattle.std.proofs.lemmas.Option.{same_Some}
use Rattle.prefix_lattice.specs.{RecordValue}
use Rattle.prefix_lattice.specs.declared.grain.Grain.TheVariants.{Byte}
use Rattle.shard_state.specs.{IsShard, ShardValue, TableShape, empty_snapshot, snapshot_of, shard_state_at}
use Rattle.shard_state.specs.declared.shard_state.Folded.{Folded}
use Rattle.position_words.specs.declared.view.Trail.{Trail}
use Rattle.position_words.specs.declared.view.View.{View}
use Rattle.pass_tokens.specs.{IsFoldOf, IsOddWord, ShardRead, after_reads, first_view, folded_once}
use Rattle.pass_tokens.specs.{after_losses}
use Rattle.gate_workers.specs.Feeding.{IsFed, Feeds, HasSeenEnd, HasSeenEnds}
use Rattle.gate_workers.specs.Calling.{Calls, IsCoreCut, ReadsOnce, after_calls, cut_at}
use Rattle.gate_workers.specs.Calling.{shard_positions}
use Rattle.gate_workers.specs.Calling.{positions_read, states_at}
use Rattle.gate_workers.proofs.FeedingLemmas.{feeding_of_same_view}
use Rattle.gate_workers.proofs.CallLemmas.{no_calls}

-- tables of whole bytes, each of 4 entries
abbrev pub four : TableShape
four = record { grain = Byte; capacity = 4 }

-- a packet from 1.0.0.1 to 101.0.0.1
abbrev x : RecordValue
x = record { src = 0x01000001; dst = 0x65000001; weight = 1 }

-- two shards, of two packets and of one, none of which is counted
abbrev pair : ShardValue
pair = record { list = x ∷ x ∷ []; base = empty_snapshot four; position = 0 }

abbrev single : ShardValue
single = record { list = x ∷ []; base = empty_snapshot four; position = 0 }

abbrev pub shards : List ShardValue
shards = pair ∷ single ∷ []

abbrev pub first : View
first = first_view shards

abbrev pub trail : ℕ → Trail
trail position = record { seen = position; looks = []; reads = []; folds = []; losses = [] }

abbrev one : Folded
one = record { from = 0; to = 1 }

-- a fold of one packet of the first shard
fold_of_one : IsFoldOf shards 0 1 one
fold_of_one = record { state = pair; is = refl; core = refl; forward = omega arith }

pub fed_by_one_fold : IsFed shards 0 1 (trail 0) (folded_once one (trail 0))
fed_by_one_fold = record {
  folds = one ∷ [];
  losses = [];
  core = All-from_recursion (IsFoldOf shards 0 1) (one ∷ []) (fold_of_one, tt);
  odd = All-nil IsOddWord;
  later = omega arith;
  is = refl;
}

-- feeding looks at nothing
pub a_look_is_not_feeding : IsFed shards 0 1 (trail 0) (record (trail 0) { looks = 0 ∷ [] }) → ⊥
a_look_is_not_feeding fed = cc (ap (λ (t : Trail). t.looks) fed.is)

-- and never sees an earlier position
pub feeding_never_falls : IsFed shards 0 1 (trail 1) (trail 0) → ⊥
feeding_never_falls fed = let later : 1 ≤ 0 = fed.later in omega (arith, later)

pub nothing_is_fed : Feeds shards 1 first first
nothing_is_fed = feeding_of_same_view shards 1 first

pub splitting_is_not_feeding : Feeds shards 1 first (record first { splits = 1 }) → ⊥
splitting_is_not_feeding feeds = cc (ap (λ (v : View). v.splits) feeds.same)

-- a view that has seen the end of each list
abbrev ended : View
ended = record first { trails = trail 2 ∷ trail 1 ∷ [] }

pub end_was_seen : HasSeenEnd shards 0 ended
end_was_seen state is = subst (λ (s : ShardValue). length s.list ≤ 2) (same_Some pair state is) (omega arith)

pub end_not_seen : HasSeenEnd shards 0 first → ⊥
end_not_seen ends = let end : 2 ≤ 0 = ends pair refl in omega (arith, end)

pub not_all_ends_seen : HasSeenEnds shards (record first { trails = trail 2 ∷ trail 0 ∷ [] }) → ⊥
not_all_ends_seen ends = let end : 1 ≤ 0 = ends 1 single refl in omega (arith, end)

pub shards_at_positions : states_at shards (2 ∷ 1 ∷ []) ≡ shard_state_at 2 pair ∷ shard_state_at 1 single ∷ []
shards_at_positions = refl

pub cut_of_the_core : cut_at shards (1 ∷ 0 ∷ [])
    ≡ record { shape = four; shards = snapshot_of (shard_state_at 1 pair) ∷ snapshot_of single ∷ [] }
cut_of_the_core = refl

pub empty_cut_is_at_no_position : IsCoreCut [] [] (cut_at [] [])
empty_cut_is_at_no_position = record { as_many = refl; kept = All-nil IsShard; is = refl }

pub cut_with_a_position_too_many : IsCoreCut [] (1 ∷ []) (cut_at [] []) → ⊥
cut_with_a_position_too_many at = cc at.as_many

-- how two shards were read: the second after a take that lost
abbrev reads : List ShardRead
reads = record { losses = []; position = 2 } ∷ record { losses = 1 ∷ []; position = 0 } ∷ []

abbrev reads_again : List ShardRead
reads_again = record { losses = []; position = 2 } ∷ record { losses = []; position = 1 } ∷ []

pub positions_of_a_round : positions_read reads ≡ 2 ∷ 0 ∷ []
positions_of_a_round = refl

pub trails_after_two_rounds : after_calls (trail 0 ∷ trail 0 ∷ []) (reads ∷ reads_again ∷ [])
    ≡ record (trail 2) { reads = 2 ∷ 2 ∷ [] } ∷ record (trail 1) { reads = 0 ∷ 1 ∷ []; losses = 1 ∷ [] } ∷ []
trails_after_two_rounds = refl

pub positions_of_the_second_shard : shard_positions 1 (reads ∷ reads_again ∷ []) ≡ 0 ∷ 1 ∷ []
positions_of_the_second_shard = refl

pub no_round_no_report : Calls shards 500000 0 first first []
no_round_no_report = no_calls shards 500000 first

-- a round without a report
pub round_without_a_report : Calls shards 500000 1 first first [] → ⊥
round_without_a_report calls = no_round calls.reads calls.as_many calls.positions
  where
    no_round : (reads : List (List ShardRead)) → length reads ≡ 1 → [] ≡ map positions_read reads → ⊥
    no_round [] many positions = cc many
    no_round (round ∷ rounds) many positions = cc positions

-- each of the two shards was read once
pub two_shards_were_read : ReadsOnce shards first (record first { trails = after_reads first.trails reads })
two_shards_were_read = record {
  reads = reads;
  as_many = refl;
  odd =
      All-from_recursion (λ (read : ShardRead). All IsOddWord read.losses) reads
      (All-nil IsOddWord, (All-from_recursion IsOddWord (1 ∷ []) (refl, tt), tt));
  view = refl;
}

-- the first shard alone was read
abbrev half_read : View
half_read = record first { trails = after_reads first.trails (record { losses = []; position = 2 } ∷ []) }

pub second_shard_was_left_out : ReadsOnce shards first half_read → ⊥
second_shard_was_left_out once = left_out once.reads once.as_many once.view
  where
    not_empty : (positions : List ℕ) (position : ℕ) → [] ≡ positions ++ position ∷ [] → ⊥
    not_empty [] position same = cc same
    not_empty (first ∷ positions) position same = cc same

    left_out : (reads : List ShardRead) → length reads ≡ 2
        → half_read ≡ record first { trails = after_reads first.trails reads } → ⊥
    left_out [] many same = cc many
    left_out (one ∷ []) many same = omega (arith, many)
    left_out (one ∷ two ∷ more) many same =
        not_empty (after_losses two.losses (trail 0)).reads two.position
        (ap (λ (v : View). (slice_index_or v.trails 1 (trail 0)).reads) same)
