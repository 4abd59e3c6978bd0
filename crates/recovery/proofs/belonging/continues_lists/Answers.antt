use Rattle.std.proofs.Common.{◌≡◌, ◌∙◌, true, false, sym, refl, arith}
use Rattle.std.proofs.lemmas.Option.{slice_get_within}
use Rattle.recovery.specs.Reopening.{ContinuesList}
use Rattle.recovery.proofs.ZippedListLemmas.{zipped_lists_at_next_place, zipped_lists_at_place}
use Rattle.recovery.proofs.ZippedListLemmas.{zipped_lists_from_places}
use Rattle.recovery.proofs.belonging.continues_lists.Goals as goal

pub returns-then-not-continues_list : goal.returns-then-not-continues_list
returns-then-not-continues_list c = (
  λ yes. absurd (cc yes),
  λ all.
      let here = zipped_lists_at_place ContinuesList c.args.cut.now.shards c.args.dealt.now all c.loop-shard.shard c.shard.result.now c.list.result.now
      c.shard.ensures.shard c.list.ensures.value in
      let both : true ≡ false = sym (c.continues_list.ensures.1 here) ∙ c.if-not-continues_list.true in
      absurd (cc both),
)

pub loop-shard-preserved : goal.loop-shard-preserved
loop-shard-preserved c =
    zipped_lists_at_next_place ContinuesList c.args.cut.now.shards c.args.dealt.now c.loop-shard.shard c.shard.result.now c.list.result.now
    c.shard.ensures.shard c.list.ensures.value (c.continues_list.ensures.0 c.if-not-continues_list.false) c.loop-shard.invariant

pub returns : goal.returns
returns c = (
  λ yes. zipped_lists_from_places ContinuesList c.args.cut.now.shards c.args.dealt.now c.requires (λ k snapshot list got_snapshot got_list.
      c.loop-shard.invariant k snapshot list
      (omega (arith, slice_get_within c.args.dealt.now k list got_list, c.loop-shard-test.false, c.shards-shard-end.ensures.value))
      got_snapshot got_list),
  λ all. refl,
)
