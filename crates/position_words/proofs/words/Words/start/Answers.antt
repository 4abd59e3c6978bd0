use Rattle.std.proofs.Common.{ap, sym, ◌∙◌, subst, map, ◌*◌, All}
use Rattle.atomic_table.specs.Table.{opening}
use Rattle.shard_state.specs.{ShardValue, IsShard}
use Rattle.position_words.specs.View.{first_view}
use Rattle.position_words.specs.Rule.{IsKept}
use Rattle.position_words.proofs.RuleLemmas.{rule_is_kept_at_start}
use Rattle.position_words.proofs.words.Words.start.Goals as goal

pub new-requires : goal.new-requires
new-requires c =
    let states = c.args.states.items in
    let told = ap (λ v. v.items) c.of-opening.ensures in
    let words =
    c.as_slice.ensures.value ∙ c.in_ok-words.ensures
    ∙ ap (map (λ (s : ShardValue). 2 * s.position)) c.deref-2.ensures.value in
    let slots = c.in_ok-slots.ensures in
    let kept = subst (All IsShard) c.deref.ensures.value c.states_are_kept.ensures in
    subst (λ shards. IsKept shards (opening c.as_slice.result.now c.in_ok-slots.slots.items (first_view shards)))
    (sym told)
    (subst (λ ws. IsKept states (opening ws c.in_ok-slots.slots.items (first_view states))) (sym words)
    (subst (λ ss. IsKept states (opening (map (λ (s : ShardValue). 2 * s.position) states) ss (first_view states)))
    (sym slots)
    (rule_is_kept_at_start states kept)))
