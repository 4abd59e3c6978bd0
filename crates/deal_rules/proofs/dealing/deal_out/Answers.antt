use Rattle.std.proofs.Common.{◌≡◌, ◌∙◌, ◌+◌, suc, sym, ap, rules, arith, drop}
use Rattle.std.proofs.lemmas.Option.{slice_get_within}
use Rattle.deal_rules.proofs.ShardListLemmas.{shard_lists_start_empty, shard_lists_take_next_record, shard_lists_leave_next_record}
use Rattle.deal_rules.proofs.ShardListLemmas.{shard_lists_leave_none, each_shard_has_list}
use Rattle.deal_rules.proofs.DealingLemmas.{dealing_is_small_enough}
use Rattle.deal_rules.proofs.dealing.deal_out.Goals as goal

pub loop-rec-init : goal.loop-rec-init
loop-rec-init g c = record {
  within = omega arith;
  left = search rules;
  dealt = shard_lists_start_empty _ _ _ _ (search rules);
}

pub shard-shard-requires-clause-early : goal.shard-shard-requires-clause-early
shard-shard-requires-clause-early g c =
    let next = shard_lists_leave_next_record c.args.list c.loop-rec.place _ _ (sym c.in-Some.ensures ∙ c.loop-rec.invariant.left) in
    let within = slice_get_within c.args.list c.loop-rec.place _ next.0 in
    omega (arith, within, c.requires.small)

pub index_mut-requires : goal.index_mut-requires
index_mut-requires g c =
    let long = each_shard_has_list _ _ _ _ _ c.loop-rec.invariant.dealt in omega (arith, long, c.shard-shard.ensures.below)

pub overflow_add-place : goal.overflow_add-place
overflow_add-place g c =
    let next = shard_lists_leave_next_record c.args.list c.loop-rec.place _ _ (sym c.in-Some.ensures ∙ c.loop-rec.invariant.left) in
    let within = slice_get_within c.args.list c.loop-rec.place _ next.0 in
    omega (arith, within, c.requires.small)

pub loop-rec-preserved : goal.loop-rec-preserved
loop-rec-preserved g c =
    let next = shard_lists_leave_next_record c.args.list c.loop-rec.place _ _ (sym c.in-Some.ensures ∙ c.loop-rec.invariant.left) in
    let within = slice_get_within c.args.list c.loop-rec.place _ next.0 in
    record {
      within = omega (arith, within);
      left = next.1 ∙ ap (λ n. drop n c.args.list) (let e : suc c.loop-rec.place ≡ c.loop-rec.place + 1 = omega arith in e);
      dealt = shard_lists_take_next_record _ _ _ c.args.list c.loop-rec.place c.loop-rec.lists.items _
          c.shard-shard.result c.index_mut.result.now c.push.new.self
          next.0 c.loop-rec.invariant.dealt c.shard-shard.ensures c.index_mut.ensures.value (search rules);
    }

pub of-requires : goal.of-requires
of-requires g c =
    dealing_is_small_enough _ _ _ _ _
    (shard_lists_leave_none _ _ _ _ _ _ (sym c.in_default.ensures.0 ∙ c.loop-rec.invariant.left) c.loop-rec.invariant.dealt)
    c.requires.some c.requires.few c.requires.small

pub returns : goal.returns
returns g c =
    rw c.of.ensures
    (shard_lists_leave_none _ _ _ _ _ _ (sym c.in_default.ensures.0 ∙ c.loop-rec.invariant.left) c.loop-rec.invariant.dealt)
