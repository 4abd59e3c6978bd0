use Rattle.std.proofs.Common.{◌∙◌, All, sym, ap, subst, length}
use Rattle.std.proofs.lemmas.List.{length-replicate}
use Rattle.pass_tokens.specs.{first_view}
use Rattle.shard_state.specs.{AreCoreShards, CutValue, IsShard, empty_snapshot}
use Rattle.report_session.specs.Session.{asked_shape}
use Rattle.report_session.proofs.session.open.Goals as goal

pub start-requires : goal.start-requires
start-requires c = subst AreCoreShards (sym c.in_ok-states.ensures.states) c.openings_stand.ensures.shards

pub returns : goal.returns
returns c =
    let states = c.in_ok-states.ensures.states in
    record {
      opening = c.in_ok-board.ensures.opening ∙ states;
      kept = subst (All IsShard) states c.in_ok-states.ensures.kept;
      pass = c.in_ok-board.ensures.pass;
      view = c.in_ok-board.ensures.view ∙ ap first_view states;
      shape = record {
        as_many =
            ap (λ (cut : CutValue). length cut.shards) c.in_ok-cut.ensures
            ∙ length-replicate c.shards-shards.result (empty_snapshot (asked_shape c.args.settings.now))
            ∙ c.shards-shards.ensures.value ∙ sym c.openings_stand.ensures.many;
        alike =
            ap (λ (cut : CutValue). cut.shape) c.in_ok-cut.ensures ∙ sym c.openings_stand.ensures.alike;
      };
    }
