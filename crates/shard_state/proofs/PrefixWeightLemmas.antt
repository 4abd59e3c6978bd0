-- What records add to a table at a prefix's node, against what the prefix weighs.
use Rattle.std.proofs.Common.{◌≡◌, ℕ, ◌+◌, ◌-◌, ◌*◌, ◌≤◌, eqb, cond, Bool, true, false, List, [], ◌∷◌, map, filter}
use Rattle.std.proofs.Common.{sum_by, All, refl, sym, ap, ◌∙◌, arith, subst}
use Rattle.std.proofs.lemmas.List.Sums.{sum_by-cons}
use Rattle.std.proofs.lemmas.List.Elements.{All-map}
use Rattle.prefix_lattice.specs.{RecordValue, PrefixValue, covers, node_of_prefix, prefix_at, prefix_key, prefix_weight}
use Rattle.prefix_lattice.specs.{total_weight, NodeValue, HoldsWeight}
use Rattle.space_saving.specs.{TableAdd, interval_after, weight_of_key, total_added}
use Rattle.space_saving.specs.{AreWeighed}
use Rattle.shard_state.specs.Snapshot.{adds_of, TableShape}
use Rattle.prefix_lattice.specs.declared.grain.Grain.{Grain}
use Rattle.shard_state.specs.WeightIntervals.{HoldsNarrowlyOver}
use Rattle.shard_state.proofs.TableFoldLemmas.{table_fold_add}

-- the sum over the elements that pass, by whether the first passes
prefix_weight_filtered_sum : {X : Type 0} (weight : X → ℕ) (test : X → Bool) (x : X) (xs : List X)
    → sum_by weight (filter test (x ∷ xs)) ≡ cond (test x) (weight x) 0 + sum_by weight (filter test xs)
prefix_weight_filtered_sum weight test x xs = by_test (test x)
  where
    by_test : (passes : Bool) → sum_by weight (cond passes (x ∷ filter test xs) (filter test xs)) ≡ cond passes (weight x) 0 + sum_by weight (filter test xs)
    by_test true = sum_by-cons weight x (filter test xs)
    by_test false = omega arith

-- the keys of a node show which records a prefix covers
pub record PrefixWeightIsTold (grain : Grain) (prefix : PrefixValue) : Type 0 where
  pub tell : (rec : RecordValue) → covers prefix rec ≡ eqb (prefix_key (prefix_at (node_of_prefix grain prefix) rec)) (prefix_key prefix)

-- the weight that records add for the key of a prefix is its weight over them
prefix_weight_is_added : (grain : Grain) (prefix : PrefixValue) (records : List RecordValue) → PrefixWeightIsTold grain prefix
    → weight_of_key (prefix_key prefix) (adds_of (node_of_prefix grain prefix) records) ≡ prefix_weight prefix records
prefix_weight_is_added grain prefix [] keys = refl
prefix_weight_is_added grain prefix (rec ∷ records) keys =
    let add : RecordValue → TableAdd = table_fold_add (node_of_prefix grain prefix) in
    prefix_weight_filtered_sum (λ (a : TableAdd). a.weight) (λ a. eqb a.key (prefix_key prefix)) (add rec) (map add records)
    ∙ ap (λ b. cond b rec.weight 0 + weight_of_key (prefix_key prefix) (map add records)) (sym (keys.tell rec))
    ∙ ap (λ n. cond (covers prefix rec) rec.weight 0 + n) (prefix_weight_is_added grain prefix records keys)
    ∙ sym (prefix_weight_filtered_sum (λ (r : RecordValue). r.weight) (covers prefix) rec records)

-- the weight that records add together is their total weight
pub prefix_weight_totals_agree : (node : NodeValue) (records : List RecordValue) → total_added (adds_of node records) ≡ total_weight records
prefix_weight_totals_agree node [] = refl
prefix_weight_totals_agree node (rec ∷ records) =
    sum_by-cons (λ (a : TableAdd). a.weight) (table_fold_add node rec) (map (table_fold_add node) records)
    ∙ ap (λ n. rec.weight + n) (prefix_weight_totals_agree node records)
    ∙ sym (sum_by-cons (λ (r : RecordValue). r.weight) rec records)

-- the laws of a table's intervals
pub record IntervalsHoldPrefixWeight : Type 0 where
  pub low : (capacity : ℕ) (adds : List TableAdd) (key : ℕ) → 1 ≤ capacity → AreWeighed adds
      → (interval_after capacity adds key).low ≤ weight_of_key key adds
  pub high : (capacity : ℕ) (adds : List TableAdd) (key : ℕ) → 1 ≤ capacity → AreWeighed adds
      → weight_of_key key adds ≤ (interval_after capacity adds key).high
  pub width : (capacity : ℕ) (adds : List TableAdd) (key : ℕ) → 1 ≤ capacity → AreWeighed adds
      → ((interval_after capacity adds key).high - (interval_after capacity adds key).low) * capacity ≤ total_added adds

-- the interval of a prefix holds its weight
pub prefix_weight_is_held : (shape : TableShape) (prefix : PrefixValue) (records : List RecordValue)
    → PrefixWeightIsTold shape.grain prefix → IntervalsHoldPrefixWeight
    → 1 ≤ shape.capacity
    → All (λ (r : RecordValue). 1 ≤ r.weight) records → HoldsNarrowlyOver shape prefix records
prefix_weight_is_held shape prefix records keys laws some weighed =
    let grain = shape.grain in
    let capacity = shape.capacity in
    let adds = adds_of (node_of_prefix grain prefix) records in
    let interval = interval_after capacity adds (prefix_key prefix) in
    let are_weighed : AreWeighed adds = All-map (λ (a : TableAdd). 1 ≤ a.weight) (table_fold_add (node_of_prefix grain prefix)) records weighed in
    record {
      holds =
          subst (HoldsWeight interval.low interval.high) (prefix_weight_is_added grain prefix records keys) (record {
            low = laws.low capacity adds (prefix_key prefix) some are_weighed;
            high = laws.high capacity adds (prefix_key prefix) some are_weighed;
          });
      narrow =
          subst (λ n. (interval.high - interval.low) * capacity ≤ n) (prefix_weight_totals_agree (node_of_prefix grain prefix) records)
          (laws.width capacity adds (prefix_key prefix) some are_weighed);
    }
