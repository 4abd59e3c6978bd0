-- Worked examples of the definitions, most by computing.
use Rattle.std.proofs.Common.{◌≡◌, ℕ, zero, suc, ◌<◌, ◌%◌, List, [], ◌∷◌, Some, slice_get, get_or, refl, ap, arith}
use Rattle.std.specs.List.{sum_by}
use Rattle.std.proofs.lemmas.List.Elements.{All-from_recursion}
use Rattle.prefix_lattice.specs.{RecordValue, total_weight}
use Rattle.deal_rules.specs.declared.deal_kind.DealKind.TheVariants.{RoundRobin, BySource, Free}
use Rattle.deal_rules.specs.declared.dealers.Dealers.{Dealers}
use Rattle.deal_rules.specs.DealKind.{IsAsked, IsNumberBy, MayDeal}
use Rattle.deal_rules.specs.Dealing.{dealt_list, dealt_lists, AreDealt, FollowsRule, IsDealing, AreDealings}
use Rattle.deal_rules.specs.Dealers.{dealer_of}

-- three records, of 5, 6 and 7 bytes
abbrev first : RecordValue
first = record { src = 7; dst = 1; weight = 5 }

abbrev second : RecordValue
second = record { src = 4; dst = 4; weight = 6 }

abbrev third : RecordValue
third = record { src = 7; dst = 2; weight = 7 }

abbrev records : List RecordValue
records = first ∷ second ∷ third ∷ []

-- the lists of two shards to which they are dealt in turn
abbrev two_lists : List (List RecordValue)
two_lists = (first ∷ third ∷ []) ∷ (second ∷ []) ∷ []

pub in_turn : dealt_lists 2 (0 ∷ 1 ∷ 0 ∷ []) records ≡ two_lists
in_turn = refl

pub all_to_the_last : dealt_lists 3 (2 ∷ 2 ∷ 2 ∷ []) records ≡ [] ∷ [] ∷ records ∷ []
all_to_the_last = refl

pub to_nobody : dealt_list 5 (2 ∷ 1 ∷ 2 ∷ []) records ≡ []
to_nobody = refl

pub weight_is_kept : sum_by total_weight two_lists ≡ 18
weight_is_kept = refl

-- the third record in turn over two shards
pub third_in_turn : IsNumberBy RoundRobin 2 third 2 0
third_in_turn = record { round = λ e. refl; source = λ e. cc }

-- the record of source 7 over three shards
pub third_by_source : IsNumberBy BySource 2 third 3 1
third_by_source = record { round = λ e. cc; source = λ e. refl }

-- indices are counted from 0, so the first record in turn doesn't go to shard 1
pub not_from_one : IsNumberBy RoundRobin 0 first 2 1 → ⊥
not_from_one of_kind = let h : 1 ≡ 0 = of_kind.round refl in omega (arith, h)

pub free_takes_any : IsNumberBy Free 2 third 3 0
free_takes_any = record { round = λ e. cc; source = λ e. cc }

pub asked_of_the_third : IsAsked 2 third 2
asked_of_the_third = record {
  early = omega arith;
  source = omega arith;
  dest = omega arith;
  weighed = omega arith;
  light = omega arith;
  some = omega arith;
  few = omega arith;
}

pub asked_past_the_last_place : IsAsked 16777216 third 2 → ⊥
asked_past_the_last_place asked = omega (arith, asked.early)

pub asked_for_17_shards : IsAsked 2 third 17 → ⊥
asked_for_17_shards asked = omega (arith, asked.few)

-- a function that returns the index modulo the number of shards, and nothing else
abbrev place_in_turn : ℕ → RecordValue → ℕ → ℕ → Type 0
place_in_turn place rec shards number = number ≡ place % shards

pub third_may_be_dealt : MayDeal RoundRobin place_in_turn 2 third 2 0
third_may_be_dealt = record { below = omega arith; of_kind = third_in_turn; answered = refl }

-- Free allows only what its function returns
pub other_answers_are_not_dealt : MayDeal Free place_in_turn 2 third 2 1 → ⊥
other_answers_are_not_dealt may = let h : 1 ≡ 0 = may.answered in omega (arith, h)

pub no_third_shard_of_two : MayDeal Free (λ place rec shards number. number ≡ 2) 2 third 2 2 → ⊥
no_third_shard_of_two may = omega (arith, may.below)

pub dealt_in_turn : AreDealt 2 records (0 ∷ 1 ∷ 0 ∷ []) two_lists
dealt_in_turn = record {
  as_many = refl;
  below = All-from_recursion (λ number. number < 2) (0 ∷ 1 ∷ 0 ∷ []) (omega arith, (omega arith, (omega arith, tt)));
  parted = refl;
}

pub record_without_a_number : AreDealt 2 records (0 ∷ 1 ∷ []) two_lists → ⊥
record_without_a_number dealt = omega (arith, dealt.as_many)

pub lists_of_each_other : AreDealt 2 (first ∷ second ∷ []) (0 ∷ 1 ∷ []) ((second ∷ []) ∷ (first ∷ []) ∷ []) → ⊥
lists_of_each_other dealt =
    let same : 4 ≡ 7 =
    ap (λ (lists : List (List RecordValue)). (get_or (get_or lists 0 []) 0 third).src) dealt.parted in
    omega (arith, same)

-- the number at each index is the index modulo two
number_at : (place number : ℕ) → slice_get (0 ∷ 1 ∷ 0 ∷ []) place ≡ Some number → number ≡ place % 2
number_at zero number read = cc
number_at (suc zero) number read = cc
number_at (suc (suc zero)) number read = cc
number_at (suc (suc (suc place))) number read = cc

pub numbers_in_turn : FollowsRule RoundRobin place_in_turn 2 records (0 ∷ 1 ∷ 0 ∷ [])
numbers_in_turn = λ place number rec read_rec read_number.
    let in_turn : number ≡ place % 2 = number_at place number read_number in
    record {
      below = omega (arith, in_turn);
      of_kind = record { round = λ e. in_turn; source = λ e. cc };
      answered = in_turn;
    }

pub numbers_from_one : FollowsRule RoundRobin place_in_turn 2 records (1 ∷ 0 ∷ 1 ∷ []) → ⊥
numbers_from_one follow = let h : 1 ≡ 0 = (follow 0 1 first refl refl).answered in omega (arith, h)

pub dealing_in_turn : IsDealing RoundRobin place_in_turn 2 records two_lists
dealing_in_turn = record { numbers = 0 ∷ 1 ∷ 0 ∷ []; dealt = dealt_in_turn; ruled = numbers_in_turn }

pub lists_of_two_shards : AreDealings two_lists
lists_of_two_shards = record { some = omega arith; few = omega arith; small = omega arith }

pub lists_of_no_shard : AreDealings [] → ⊥
lists_of_no_shard lists = omega (arith, lists.some)

pub dealer_by_place : {X : Type 0} {F : X → Type 0} {g : _} (dealers : Dealers X F g)
    → dealer_of RoundRobin dealers ≡ dealers.round
dealer_by_place dealers = refl

pub dealer_by_any_function : {X : Type 0} {F : X → Type 0} {g : _} (dealers : Dealers X F g)
    → dealer_of Free dealers ≡ dealers.free
dealer_by_any_function dealers = refl
