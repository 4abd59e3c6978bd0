use Rattle.std.proofs.Common.{◌≡◌, ◌+◌, ◌++◌, [], ◌∷◌, ◌∙◌, All, length, length-append, ap, sym, subst, arith}
use Rattle.std.proofs.lemmas.List.Elements.{All-nil, All-push}
use Rattle.pass_tokens.specs.{newcomer_view, view}
use Rattle.gate_workers.specs.Running.{CanCall, EachByNumber, after_splits}
use Rattle.gate_workers.proofs.GatheredLemmas.{gathered_one_more_thread, gathered_splits_are_none, gathered_splits_are_summed}
use Rattle.gate_workers.proofs.callers.split_callers.Goals as goal

pub loop-caller-init : goal.loop-caller-init
loop-caller-init c =
    let board = c.args.board.now in
    let before = view c.args.pass.now in
    let none : c.new-callers.result.items ≡ [] = c.new-callers.ensures.items in (
      c.requires.pass,
      ap length none,
      subst (All (CanCall board)) (sym none) (All-nil (CanCall board)),
      subst (EachByNumber (λ number caller. view caller.pass ≡ newcomer_view (after_splits number before))) (sym none)
          (λ place default below. absurd (omega (arith, below))),
      gathered_splits_are_none before,
    )

pub loop-caller-preserved : goal.loop-caller-preserved
loop-caller-preserved c =
    let board = c.args.board.now in
    let before = view c.args.pass.now in
    let kept = c.loop-caller.invariant in
    let number = c.loop-caller._caller in
    let callers = c.loop-caller.callers.items in
    let made = c.in_ok-made.made in
    let items : c.push.new.self.items ≡ callers ++ made ∷ [] = c.in_ok-push.ensures.items in (
      c.in_ok-made.ensures.pass,
      ap length items ∙ length-append callers (made ∷ []) ∙ ap (λ n. n + 1) kept.1,
      subst (All (CanCall board)) (sym items)
          (All-push (CanCall board) callers made kept.2 c.in_ok-made.ensures.caller),
      subst (EachByNumber (λ number caller. view caller.pass ≡ newcomer_view (after_splits number before))) (sym items)
          (gathered_one_more_thread
          (λ number caller. view caller.pass ≡ newcomer_view (after_splits number before)) callers made number
          kept.1 kept.3 (c.in_ok-made.ensures.newcomer ∙ ap newcomer_view kept.4)),
      c.in_ok-made.ensures.split ∙ ap (after_splits 1) kept.4 ∙ gathered_splits_are_summed number 1 before,
    )
