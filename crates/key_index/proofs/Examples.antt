-- Worked examples of the definitions, most by computing.
use Rattle.std.proofs.Common.{◌≡◌, ◌<◌, ◌≤◌, ◌^◌, ℕ, List, [], ◌∷◌, zero, suc, get_or, replicate, refl, ⊎_elim}
use Rattle.std.proofs.Common.{arith}
use Rattle.std.proofs.lemmas.List.Elements.{All-from_recursion, All-head}
use Rattle.std.proofs.lemmas.Bool.{cases_lt}
use Rattle.key_index.specs.KeyIndex.{HoldsKeys, HoldsKeysButOne}
use Rattle.key_index.specs.Homes.{mixed, mixed_after, scaled, home_at}
use Rattle.key_index.specs.HomeMarks.{IsMarked}
use Rattle.key_index.specs.Chains.{Chains, IsLinked, IsLive, HaveShape, AreChains}
use Rattle.key_index.specs.SortedPlaces.{standing, Rises, IsListed, Splits, HasMore, HasLess}
use Rattle.key_index.specs.Entries.{KeyEntries, HaveTurnedAway, LeadBelow, AreEntered, AreEntries}
use Rattle.key_index.proofs.JoinLemmas.{chains_after_join}
use Rattle.key_index.proofs.EntryLemmas.{entry_parts, entry_joins, entry_of_nothing, entry_chains_of_nothing}
use Rattle.key_index.proofs.EntryLemmas.{entry_with, entry_zeros_lead}
use Rattle.key_index.proofs.KeyLemmas.{key_of_nothing, key_of_pushed}

-- the high half of key 1 is empty, so mixing multiplies it
pub key_1_mixed : mixed 1 ≡ 11400714819323198485
unfolding mixed
key_1_mixed = refl

pub no_turn_leaves_the_key : mixed_after 0 40 ≡ 40
no_turn_leaves_the_key = refl

-- a number in the middle of all of 64 bits names the home in the middle
pub middle_home : scaled 512 (2 ^ 63) ≡ 1024
unfolding scaled
middle_home = refl

-- among the 2,048 homes of an index for 512 keys
pub first_home_of_key_1 : home_at 512 0 1 ≡ 1265
unfolding home_at scaled mixed
first_home_of_key_1 = refl

pub last_home_of_key_1 : home_at 512 7 1 ≡ 1607
unfolding home_at scaled mixed
last_home_of_key_1 = refl

-- 260 is 2^8 + 2^2
pub home_72_is_marked : IsMarked (0 ∷ 260 ∷ []) 72
unfolding IsMarked
home_72_is_marked = refl

pub home_73_is_not : IsMarked (0 ∷ 260 ∷ []) 73 → ⊥
unfolding IsMarked
home_73_is_not marked = omega (arith, marked)

-- An index for one key has the cell of place 0 and then the heads of four homes. The head of home 2 leads to the place
abbrev links : List ℕ
links = 0 ∷ 0 ∷ 0 ∷ 1 ∷ 0 ∷ []

abbrev backs : List ℕ
backs = 1 ∷ 4 ∷ []

abbrev one_chain : Chains
one_chain = record { room = 1; links = links; backs = backs }

pub place_0_is_linked : IsLinked backs 0
place_0_is_linked none = omega (arith, none)

pub place_1_is_not : IsLinked backs 1 → ⊥
place_1_is_not linked = linked refl

pub head_is_live : IsLive 1 [] 3
head_is_live low = absurd (omega arith)

pub free_place_is_not : IsLive 1 [] 0 → ⊥
free_place_is_not live = live (omega arith) refl

pub shape_of_one_chain : HaveShape 1 one_chain.links one_chain.backs
shape_of_one_chain = record {
  some = omega arith;
  few = omega arith;
  cells = refl;
  places = refl;
  marks = All-from_recursion (λ mark. mark ≤ 1) links (omega arith, (omega arith, (omega arith, (omega arith, (omega arith, tt)))));
  ways = All-from_recursion (λ way. way ≤ 5) backs (omega arith, (omega arith, tt));
}

pub too_few_cells : HaveShape 1 [] backs → ⊥
too_few_cells shape = omega (arith, shape.cells)

-- the place joined the empty chain of home 2
abbrev no_rank : ℕ → ℕ
no_rank cell = 0

abbrev own_home : ℕ → ℕ
own_home cell = cell

abbrev rank : ℕ → ℕ
rank = entry_with (entry_with no_rank 0 0) 3 1

abbrev home : ℕ → ℕ
home = entry_with own_home 0 3

pub one_place_in_a_chain : AreChains 1 links backs rank home
one_place_in_a_chain =
    chains_after_join 1 (replicate 5 0) (replicate 2 0) no_rank own_home links backs rank home 0 3
    (entry_joins 1 (replicate 5 0) (replicate 2 0) no_rank own_home 0 3 (entry_chains_of_nothing 1) refl refl
    (All-from_recursion (λ mark. mark ≤ 1) (replicate 5 0) (omega arith, (omega arith, (omega arith, (omega arith, (omega arith, tt))))))
    (omega arith) (omega arith) (omega arith) (omega arith) refl)

-- five places are too many for a chain
pub five_in_a_chain : (links backs : List ℕ) (rank home : ℕ → ℕ) → AreChains 1 links backs rank home → rank 3 ≡ 5 → ⊥
five_in_a_chain links backs rank home chains five = omega (arith, five, chains.bound 3 (omega arith))

-- key 2 at place 3
pub where_a_place_stands : standing 2 3 ≡ 131075
where_a_place_stands = refl

-- places 0, 1 and 2 have these keys, so place 1 stands before place 2, and place 2 before place 0
abbrev keys : List ℕ
keys = 60 ∷ 40 ∷ 50 ∷ []

pub two_places_in_order : Rises keys (1 ∷ 2 ∷ [])
two_places_in_order zero zero apart within = absurd (omega arith)
two_places_in_order zero (suc zero) apart within = omega arith
two_places_in_order zero (suc (suc other)) apart within = absurd (omega arith)
two_places_in_order (suc one) zero apart within = absurd (omega arith)
two_places_in_order (suc one) (suc other) apart within = absurd (omega arith)

pub a_place_twice : Rises keys (1 ∷ 1 ∷ []) → ⊥
a_place_twice rises = omega (arith, rises 0 1 (omega arith) (omega arith))

pub place_2_is_listed : IsListed (1 ∷ 2 ∷ []) 2
place_2_is_listed = (1, omega arith, refl)

pub place_0_is_missing : IsListed (1 ∷ []) 0 → ⊥
place_0_is_missing (zero, within, is) = omega (arith, is)
place_0_is_missing (suc at, within, is) = omega arith

-- a search for key 50 ends at the index of place 2
pub place_1_is_before : Splits keys (1 ∷ 2 ∷ []) (standing 50 0) 1
place_1_is_before = record { before = before; after = after }
  where
    before : (index : ℕ) → index < 1 → standing (get_or keys (get_or (1 ∷ 2 ∷ []) index 0) 0) (get_or (1 ∷ 2 ∷ []) index 0) < standing 50 0
    before zero low = omega arith
    before (suc index) low = absurd (omega arith)

    after : (index : ℕ) → 1 ≤ index → index < 2 → standing 50 0 ≤ standing (get_or keys (get_or (1 ∷ 2 ∷ []) index 0) 0) (get_or (1 ∷ 2 ∷ []) index 0)
    after zero low high = absurd (omega arith)
    after (suc zero) low high = omega arith
    after (suc (suc index)) low high = absurd (omega arith)

pub nothing_was_added : HasMore keys [] [] 0 → ⊥
nothing_was_added more = omega (arith, more.added.1)

pub nothing_was_removed : HasLess keys (1 ∷ []) (1 ∷ []) 1 → ⊥
nothing_was_removed less = less.gone (0, omega arith, refl)

-- Of the four homes of an index for one key, home 2 is marked. It is the first home of key 1, and the next two; then comes
-- home 1
abbrev home_2_marked : KeyEntries
home_2_marked = entry_parts 1 (replicate 5 0) (replicate 2 0) (4 ∷ []) []

pub three_homes_turned_key_1_away : HaveTurnedAway 3 1 home_2_marked
unfolding home_at scaled mixed IsMarked
three_homes_turned_key_1_away zero low early = refl
three_homes_turned_key_1_away (suc zero) low early = refl
three_homes_turned_key_1_away (suc (suc zero)) low early = refl
three_homes_turned_key_1_away (suc (suc (suc turn))) low early = absurd (omega arith)

pub fourth_home_did_not : HaveTurnedAway 4 1 home_2_marked → ⊥
unfolding home_at scaled mixed IsMarked
fourth_home_did_not away = omega (arith, away 3 (omega arith) (omega arith))

-- no key of an index for one key
abbrev nothing : KeyEntries
nothing = entry_parts 1 (replicate 5 0) (replicate 2 0) (replicate 1 0) []

pub nothing_leads_to_a_place : LeadBelow 0 nothing.links nothing.listed
nothing_leads_to_a_place = entry_zeros_lead 0 5 0 refl

pub leads_to_place_1 : LeadBelow 1 (2 ∷ []) [] → ⊥
leads_to_place_1 leads = omega (arith, All-head (λ mark. mark ≤ 1) 2 [] leads.marks)

pub nothing_is_entered : AreEntered 0 0 [] nothing
nothing_is_entered = entry_of_nothing 1 [] (replicate 1 0)

-- a place that is in no chain and not in the list isn't entered
pub place_is_nowhere : AreEntered 1 1 (40 ∷ []) nothing → ⊥
place_is_nowhere entered = nowhere (entered.ended 0 (omega arith) (λ same. omega arith) (late entered))
  where
    nowhere : IsListed [] 0 → ⊥
    nowhere is = omega (arith, is.1)

    late : (entered : AreEntered 1 1 (40 ∷ []) nothing) → 8 ≤ entered.turn 0
    late entered = ⊎_elim
        (λ (early : entered.turn 0 < 8). absurd ((entered.chained 0 (omega arith) (λ same. omega arith) early).0 refl))
        (λ (late : 8 ≤ entered.turn 0). late)
        (cases_lt (entered.turn 0) 8)

pub memory_for_one_place : AreEntries 1 1 one_chain (replicate 1 0)
memory_for_one_place = record { some = omega arith; few = omega arith; roomy = refl; shape = shape_of_one_chain; homes = omega arith; memory = omega arith }

pub memory_for_no_place : AreEntries 1 0 one_chain (replicate 1 0) → ⊥
memory_for_no_place entries = omega (arith, entries.memory)

pub no_keys : HoldsKeys [] nothing
no_keys = key_of_nothing 1 (replicate 1 0)

pub more_keys_than_room : HoldsKeys keys nothing → ⊥
more_keys_than_room holds = omega (arith, holds.few)

-- the only key is still to be entered
pub all_but_the_new_key : HoldsKeysButOne 0 (40 ∷ []) nothing
all_but_the_new_key = key_of_pushed [] 40 nothing (omega arith) no_keys

-- and isn't yet
pub new_key_is_not_held : HoldsKeys (40 ∷ []) nothing → ⊥
new_key_is_not_held holds = place_is_nowhere holds.entered

-- an index for two keys, with none
abbrev pub index_for_two : KeyEntries
index_for_two = entry_parts 2 (replicate 10 0) (replicate 3 0) (replicate 1 0) []

pub index_for_two_is_empty : HoldsKeys [] index_for_two
index_for_two_is_empty = key_of_nothing 2 (replicate 1 0)

-- it lacks a list of keys of which there is a first
pub empty_index_lacks_keys : (key : ℕ) (others : List ℕ) → HoldsKeys (key ∷ others) index_for_two → ⊥
empty_index_lacks_keys key others holds =
    ⊎_elim
    (λ (early : holds.entered.turn 0 < 8). (holds.entered.chained 0 (omega arith) (λ same. omega arith) early).0 refl)
    (λ (late : 8 ≤ holds.entered.turn 0). let is = holds.entered.ended 0 (omega arith) (λ same. omega arith) late in omega (arith, is.1))
    (cases_lt (holds.entered.turn 0) 8)
