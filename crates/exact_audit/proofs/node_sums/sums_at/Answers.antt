use Rattle.std.proofs.Common.{◌≡◌, ◌+◌, ◌/◌, ◌&&◌, not, true, nat_eq, is_some, cond, ap, sym, ◌∙◌, subst, arith, ⊎_elim}
use Rattle.std.specs.HashMap.{get}
use Rattle.std.proofs.lemmas.Bool.{eqb-true, or_cases}
use Rattle.std.proofs.lemmas.List.{take_all}
use Rattle.prefix_lattice.specs.{IsPrefixKey, grain_bits, prefix_key, prefix_at}
use Rattle.exact_audit.specs.declared.counted.Counted.{Counted}
use Rattle.exact_audit.specs.Depths.{explained_at, explained_by}
use Rattle.exact_audit.specs.NodeSums.{has_sum, sums_for, AreKeySums}
use Rattle.exact_audit.proofs.NodeSumLemmas.{AreNodeSumLaws, partial_node_sum_fits, AreKeySums-next_in_node}
use Rattle.exact_audit.proofs.NodeSumLemmas.{AreNodeSums-by_prefix}
use Rattle.exact_audit.proofs.node_sums.sums_at.Goals as goal

pub add-requires-clause-weight : goal.add-requires-clause-weight
add-requires-clause-weight c =
    let key = c.key-key.result in
    let fits = partial_node_sum_fits c.args.counted.now (has_sum c.args.node key) c.loop-one.one-index c.one-item.result
    c.loop-one-test.true c.one-item.is in
    omega (arith, fits, c.loop-one.invariant.0.weight key, c.requires.light)

pub add-requires-clause-left : goal.add-requires-clause-left
add-requires-clause-left c =
    let key = c.key-key.result in
    let fits = partial_node_sum_fits c.args.counted.now
    (λ (one : Counted). has_sum c.args.node key one && not (explained_by one.depths c.args.node))
    c.loop-one.one-index c.one-item.result c.loop-one-test.true c.one-item.is in
    omega (arith, fits, c.loop-one.invariant.0.left key, c.requires.light)

pub loop-one-preserved : goal.loop-one-preserved
loop-one-preserved c =
    let key : c.key-key.result ≡ prefix_key (prefix_at c.args.node c.one-item.result.rec) =
    c.key-key.ensures.value ∙ ap prefix_key c.of.ensures.value in
    let depths = c.one-item.result.depths in
    let bits : c.bits-bits.result ≡ grain_bits c.args.node.grain = c.bits-bits.ensures.value ∙ ap grain_bits c.grain.ensures in
    let explained : c.explained.result ≡ explained_by depths c.args.node =
    c.explained.ensures
    ∙ ap (λ b. explained_at depths (c.source_bits.result / b) (c.dest_bits.result / b)) bits
    ∙ ap (λ s. explained_at depths (s / grain_bits c.args.node.grain) (c.dest_bits.result / grain_bits c.args.node.grain))
    c.source_bits.ensures.value
    ∙ ap (λ d. explained_at depths (c.args.node.source_bits / grain_bits c.args.node.grain) (d / grain_bits c.args.node.grain))
    c.dest_bits.ensures.value in (
      AreKeySums-next_in_node c.args.node c.args.counted.now c.loop-one.one-index c.one-item.result c.key-key.result
          c.loop-one.sums c.add.new.sums c.loop-one-test.true c.one-item.is key
          c.in_ok-add.ensures.weight
          (λ other. c.in_ok-add.ensures.left other
          ∙ ap (λ e. (sums_for c.loop-one.sums other).left
          + cond (nat_eq c.key-key.result other && not e) c.one-item.result.rec.weight 0) explained)
          c.loop-one.invariant.0,
      λ other there. ⊎_elim
          (λ (same : nat_eq c.key-key.result other ≡ true).
          subst (IsPrefixKey c.args.node) (sym key ∙ eqb-true c.key-key.result other same)
          (c.keys_are_of_their_node.ensures.of_record_key c.args.node c.one-item.result.rec c.requires.node))
          (λ (old : is_some (get nat_eq c.loop-one.sums other) ≡ true). c.loop-one.invariant.1 other old)
          (or_cases (nat_eq c.key-key.result other) (is_some (get nat_eq c.loop-one.sums other))
          (sym (c.in_ok-add.ensures.keys other) ∙ there)),
    )

pub returns-clause-sums : goal.returns-clause-sums
returns-clause-sums c = λ lines records are.
    let laws : AreNodeSumLaws = record {
      covering = c.keys_tell_covering.ensures;
      of_record = c.keys_are_of_their_node.ensures.of_record;
      apart = c.keys_are_of_their_node.ensures.apart;
    } in
    AreNodeSums-by_prefix laws c.args.node lines records c.args.counted.now c.loop-one.sums
    (subst (λ counted. AreKeySums c.args.node counted c.loop-one.sums)
    (take_all c.loop-one.one-index c.args.counted.now c.loop-one-test.false) c.loop-one.invariant.0) are
