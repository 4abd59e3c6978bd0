-- The core after a fold, and cuts after a read.
use Rattle.std.proofs.Common.{◌≡◌, ℕ, ◌<◌, List, length, get_or, slice_get, slice_set, Some, All, refl, sym, ap, ◌∙◌}
use Rattle.std.proofs.Common.{arith, subst, length-set}
use Rattle.std.proofs.lemmas.List.Elements.{All-set}
use Rattle.std.proofs.lemmas.Option.{slice_get_read}
use Rattle.shard_state.specs.Cut.{CutValue}
use Rattle.shard_state.specs.ShardState.{ShardValue, IsShard, folded_shard, snapshot_of}
use Rattle.shard_state.specs.ShardCore.{IsCore, changed_in, with_shard, core_shape}
use Rattle.shard_state.proofs.ChangedElementLemmas.{changed_in-element_is_set, All-changed_element}
use Rattle.shard_state.proofs.EventLemmas.{shape_after_fold_event}

-- a fold writes its shard
pub shard_core_fold_is_change : (shards : List ShardValue) (at block : ℕ) (before left : ShardValue) → at < length shards
    → before ≡ get_or shards at before → left ≡ folded_shard block before
    → slice_set shards at left ≡ changed_in (folded_shard block) at shards
shard_core_fold_is_change shards at block before left within read is =
    ap (slice_set shards at) (is ∙ ap (folded_shard block) read) ∙ sym (changed_in-element_is_set (folded_shard block) at shards before within)

-- and leaves a core
pub IsCore-fold_of_shard : (shards : List ShardValue) (at block : ℕ) (before left : ShardValue) → at < length shards
    → before ≡ get_or shards at before → left ≡ folded_shard block before
    → IsShard left → IsCore shards → IsCore (slice_set shards at left)
IsCore-fold_of_shard shards at block before left within read is is_shard core =
    let same : slice_set shards at left ≡ changed_in (folded_shard block) at shards = shard_core_fold_is_change shards at block before left within read
    is in
    let many : length (slice_set shards at left) ≡ length shards = length-set shards at left in
    let shapes : core_shape (slice_set shards at left) ≡ core_shape shards = ap core_shape same ∙ shape_after_fold_event block at shards in
    let alike : All (λ (s : ShardValue). s.base.shape ≡ core_shape shards) (changed_in (folded_shard block) at shards) =
    All-changed_element (λ (s : ShardValue). s.base.shape ≡ core_shape shards) (folded_shard block) at shards (λ s has. has) core.are_shards.alike in
    record {
      are_shards = record {
        some = omega (arith, core.are_shards.some);
        few = omega (arith, core.are_shards.few);
        alike = subst (λ c. All (λ (s : ShardValue). s.base.shape ≡ c) (slice_set shards at left)) (sym shapes)
            (subst (All (λ (s : ShardValue). s.base.shape ≡ core_shape shards)) (sym same) alike);
      };
      kept = All-set IsShard shards at left is_shard core.kept;
    }

-- a read writes its caller's cut
pub shard_core_read_is_change : (shards : List ShardValue) (cuts : List CutValue) (caller at : ℕ) (state : ShardValue)
    (before left : CutValue) → caller < length cuts → at < length shards
    → state ≡ get_or shards at state → before ≡ get_or cuts caller before
    → left ≡ record before { shards = slice_set before.shards at (snapshot_of state) }
    → slice_set cuts caller left ≡ changed_in (with_shard at (slice_get shards at)) caller cuts
shard_core_read_is_change shards cuts caller at state before left in_cuts in_shards read_state read is =
    let met : slice_get shards at ≡ Some state = slice_get_read shards (length shards) at state refl in_shards read_state in
    let change = with_shard at (slice_get shards at) in
    ap (slice_set cuts caller) (is ∙ ap (λ o. with_shard at o before) (sym met) ∙ ap change read)
    ∙ sym (changed_in-element_is_set change caller cuts before in_cuts)
