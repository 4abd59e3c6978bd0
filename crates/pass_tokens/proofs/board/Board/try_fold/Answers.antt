use Rattle.std.proofs.Common.{ap, subst, sym, ◌∙◌}
use Rattle.position_words.specs.{WordsValue, view}
use Rattle.pass_tokens.specs.TryFold.{Folds}
use Rattle.pass_tokens.proofs.PassFoldLemmas.{is_pass_fold}
use Rattle.pass_tokens.proofs.board.Board.try_fold.Goals as goal

pub returns-in-Taken-clause-fold : goal.returns-in-Taken-clause-fold
returns-in-Taken-clause-fold c =
    let before = c.args.pass.now in
    let after = c.give.new.seat in
    let done = c.fold_block-folded.result in
    let fold = c.fold_block-folded.ensures in
    let take = c.in-Taken.ensures.take in
    subst (λ (board : WordsValue). Folds board.opening c.args.shard c.args.block (view before) (view after) done)
    c.self.view_is
    (is_pass_fold c.self.inside.words.opening c.args.shard c.args.block (view before) (view c.try_take.new.seat)
    (view after) c.in-Taken.state c.fold_block-folded.new.self done c.give.ensures.give take.2
    fold.state fold.from fold.to take.0 take.1 c.requires.pass.free
    (c.requires.pass.seat.opening ∙ sym (ap (λ (board : WordsValue). board.opening) c.self.view_is)))
