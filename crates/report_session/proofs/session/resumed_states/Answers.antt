use Rattle.std.proofs.Common.{◌∙◌, ◌≤◌, ◌^◌, ◌++◌, [], ◌∷◌, ap, ap₂, sym, subst, length}
use Rattle.std.specs.List.{All, AllZip}
use Rattle.std.specs.Vec.Iter.{into_iter_items}
use Rattle.std.specs.Iterator.Adapters.{zip_first, zip_second}
use Rattle.std.proofs.lemmas.List.Elements.{All-append, All-cons, All-nil, All-tail}
use Rattle.shard_state.specs.{IsShard}
use Rattle.recovery.specs.{ContinuesList}
use Rattle.report_session.specs.Session.{resumed_shards}
use Rattle.report_session.proofs.OpeningShardLemmas.{resumed_opening_shards_grow}
use Rattle.report_session.proofs.session.resumed_states.Goals as goal

pub loop-list-preserved : goal.loop-list-preserved
loop-list-preserved c =
    let kept = c.loop-list.invariant in
    let lists = c.in-Some.ensures.steps.0.0 in
    let bases = c.in-Some.ensures.steps.1.0 in
    let rest_lists = into_iter_items (zip_first c.next.new.self) in
    let rest_bases = into_iter_items (zip_second c.next.new.self) in
    record {
      states =
          ap (λ states. states ++ resumed_shards rest_lists rest_bases) c.in_ok-push.ensures.items
          ∙ resumed_opening_shards_grow c.loop-list.states.items (resumed_shards c.args.dealt c.args.cut.shards) c.in_ok-state.state
          c.in-Some.list c.in-Some.base rest_lists rest_bases c.in_ok-state.ensures
          (ap₂ (λ ls bs. c.loop-list.states.items ++ resumed_shards ls bs) (sym lists) (sym bases) ∙ kept.states);
      kept = subst (All IsShard) (sym c.in_ok-push.ensures.items)
          (All-append IsShard c.loop-list.states.items (c.in_ok-state.state ∷ []) kept.kept
          (All-cons IsShard c.in_ok-state.state [] c.position-kept.ensures.kept (All-nil IsShard)));
      continue =
          (subst (λ ls. AllZip ContinuesList (c.in-Some.base ∷ rest_bases) ls) lists
          (subst (λ bs. AllZip ContinuesList bs (into_iter_items (zip_first c.loop-list.list-iterator))) bases
          kept.continue)).1;
      small =
          All-tail (λ list. length list ≤ 2 ^ 24) c.in-Some.list rest_lists
          (subst (All (λ list. length list ≤ 2 ^ 24)) lists kept.small);
    }
