use Rattle.std.proofs.Common.{◌≡◌, Some, sym, ap, ◌∙◌, subst, arith}
use Rattle.std.specs.Prelude.{slice_get}
use Rattle.space_saving.specs.declared.entry.Entry.{Entry}
use Rattle.stream_summary.specs.Arena.{arena_entries}
use Rattle.stream_summary.proofs.ArenaLemmas.{arena_entry_is_used, arena_entry_is_within}
use Rattle.stream_summary.proofs.ReadIndexLemmas.{IsAtIndex, entry_at_index, in_at_index, next_at_index}
use Rattle.stream_summary.proofs.arena.Arena.entry_in_order.Goals as goal

pub after-next-requires : goal.after-next-requires
after-next-requires c =
    let order = c.args.self.now.order.order in
    in_at_index order c.loop-passed._passed c.unwrap.result.0
    (subst (IsAtIndex order c.loop-passed._passed) c.unwrap.ensures c.loop-passed.invariant)

pub loop-passed-preserved : goal.loop-passed-preserved
loop-passed-preserved c =
    let order = c.args.self.now.order.order in
    next_at_index order c.loop-passed._passed c.unwrap.result c.after-next.result
    (subst (IsAtIndex order c.loop-passed._passed) c.unwrap.ensures c.loop-passed.invariant) c.after-next.ensures

pub entry-requires-clause-within : goal.entry-requires-clause-within
entry-requires-clause-within c =
    let arena = c.args.self.now in
    arena_entry_is_within arena c.unwrap-2.result.0 c.requires.arena (in_at_index arena.order.order c.loop-passed._passed c.unwrap-2.result.0
    (subst (IsAtIndex arena.order.order c.loop-passed._passed) c.unwrap-2.ensures c.loop-passed.invariant))

pub entry-requires-clause-bucket : goal.entry-requires-clause-bucket
entry-requires-clause-bucket c =
    let arena = c.args.self.now in
    (arena_entry_is_used arena c.unwrap-2.result.0 c.requires.arena (in_at_index arena.order.order c.loop-passed._passed c.unwrap-2.result.0
    (subst (IsAtIndex arena.order.order c.loop-passed._passed) c.unwrap-2.ensures c.loop-passed.invariant))).within

pub returns : goal.returns
returns c =
    let arena = c.args.self.now in
    let end : c.loop-passed._passed ≡ c.args.place = omega arith in
    ap (slice_get (arena_entries arena)) (sym end)
    ∙ entry_at_index arena c.loop-passed._passed c.unwrap-2.result.0
    (subst (IsAtIndex arena.order.order c.loop-passed._passed) c.unwrap-2.ensures c.loop-passed.invariant)
    ∙ ap (λ (e : Entry). Some e) (sym c.entry.ensures)
