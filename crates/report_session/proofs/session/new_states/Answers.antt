use Rattle.std.proofs.Common.{sym, ◌≤◌, ◌^◌, ◌++◌, [], ◌∷◌, ◌∙◌, ap, ap₂, subst, length, append-nil, append_assoc}
use Rattle.std.specs.List.{All}
use Rattle.std.specs.Vec.Iter.{into_iter_items}
use Rattle.std.proofs.lemmas.List.{nil_from_length}
use Rattle.std.proofs.lemmas.List.Elements.{All-append, All-cons, All-drop, All-nil}
use Rattle.shard_state.specs.{IsShard}
use Rattle.report_session.specs.Session.{new_shards, asked_shape}
use Rattle.report_session.proofs.OpeningShardLemmas.{opening_shards_have_few_records, opening_shards_grow_by_one}
use Rattle.report_session.proofs.session.new_states.Goals as goal

pub loop-list-init : goal.loop-list-init
loop-list-init c =
    let items = c.into_iter-list-iterator.ensures.into_iter_gives.0 ∙ c.into_lists-list-items.ensures.value in
    record {
      parted = sym items;
      states = c.new-states.ensures.items;
      kept = subst (All IsShard) (sym c.new-states.ensures.items) (All-nil IsShard);
      small =
          subst (All (λ list. length list ≤ 2 ^ 24)) (sym c.into_iter-list-iterator.ensures.into_iter_gives.0)
          (opening_shards_have_few_records (2 ^ 24) c.into_lists-list-items.result.items c.into_lists-list-items.ensures.bounded.small);
    }

pub loop-list-preserved : goal.loop-list-preserved
loop-list-preserved c =
    let kept = c.loop-list.invariant in
    let parted = c.in-Some.ensures.steps.0 in
    let done = c.loop-list.yielded in
    record {
      parted =
          kept.parted ∙ ap (λ xs. done ++ xs) parted
          ∙ sym (append_assoc done (c.in-Some.list ∷ []) (into_iter_items c.next.new.self));
      states =
          c.in_ok-push.ensures.items ∙ ap₂ (λ states state. states ++ state ∷ []) kept.states c.in_ok-state.ensures
          ∙ sym (opening_shards_grow_by_one (asked_shape c.args.settings.now) done c.in-Some.list);
      kept = subst (All IsShard) (sym c.in_ok-push.ensures.items)
          (All-append IsShard c.loop-list.states.items (c.in_ok-state.state ∷ []) kept.kept
          (All-cons IsShard c.in_ok-state.state [] c.position-kept.ensures.kept (All-nil IsShard)));
      small =
          All-drop (λ list. length list ≤ 2 ^ 24) 1 (c.in-Some.list ∷ into_iter_items c.next.new.self)
          (subst (All (λ list. length list ≤ 2 ^ 24)) parted kept.small);
    }

pub returns-clause-states : goal.returns-clause-states
returns-clause-states c =
    let kept = c.loop-list.invariant in
    let done = c.loop-list.yielded in
    let none =
    nil_from_length (into_iter_items c.loop-list.list-iterator)
    (sym c.loop-list.list-iterator.rest.ok.0 ∙ c.in-None.ensures.steps.0) in
    kept.states ∙ ap (new_shards (asked_shape c.args.settings.now)) (sym (kept.parted ∙ ap (λ xs. done ++ xs) none ∙ append-nil done))
