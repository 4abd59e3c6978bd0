use Rattle.std.proofs.Common.{◌≡◌, ◌+◌, ◌++◌, [], ◌∷◌, ◌∙◌, length, length-append, ap, sym, subst, arith}
use Rattle.pass_tokens.specs.{newcomer_view, view}
use Rattle.gate_workers.specs.Running.{EachByNumber, IsSplitOff, after_splits}
use Rattle.gate_workers.proofs.GatheredLemmas.{gathered_one_more_thread, gathered_splits_are_none, gathered_splits_are_summed}
use Rattle.gate_workers.proofs.workers.split_workers.Goals as goal

pub loop-worker-init : goal.loop-worker-init
loop-worker-init c =
    let board = c.args.board.now in
    let before = view c.args.pass.now in
    let none : c.new-workers.result.items ≡ [] = c.new-workers.ensures.items in (
      c.requires.pass,
      ap length none,
      subst (EachByNumber (λ number. IsSplitOff board (after_splits number before))) (sym none)
          (λ place default below. absurd (omega (arith, below))),
      gathered_splits_are_none before,
    )

pub loop-worker-preserved : goal.loop-worker-preserved
loop-worker-preserved c =
    let board = c.args.board.now in
    let before = view c.args.pass.now in
    let kept = c.loop-worker.invariant in
    let number = c.loop-worker._worker in
    let workers = c.loop-worker.workers.items in
    let worker = c.split-worker.result in
    let items : c.push.new.self.items ≡ workers ++ worker ∷ [] = c.in_ok-push.ensures.items in (
      c.split-worker.ensures.pass,
      ap length items ∙ length-append workers (worker ∷ []) ∙ ap (λ n. n + 1) kept.1,
      subst (EachByNumber (λ number. IsSplitOff board (after_splits number before))) (sym items)
          (gathered_one_more_thread (λ number. IsSplitOff board (after_splits number before)) workers
          worker number kept.1 kept.2
          (record {
            of_board = c.split-worker.ensures.new_pass;
            seen = c.split-worker.ensures.newcomer ∙ ap newcomer_view kept.3;
          })),
      c.split-worker.ensures.split ∙ ap (after_splits 1) kept.3 ∙ gathered_splits_are_summed number 1 before,
    )
