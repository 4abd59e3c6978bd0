use Rattle.std.proofs.Common.{◌≡◌, ◌+◌, length, drop, ap, sym, ◌∙◌, arith}
use Rattle.std.proofs.lemmas.List.{drop-drop}
use Rattle.outside_io.proofs.MemorySourceLemmas.{memory_source_given_and_left, memory_source_none_at_end}
use Rattle.outside_io.proofs.memory_source.MemorySourceSource.read.Goals as goal

pub returns-clause-first_bytes : goal.returns-clause-first_bytes
returns-clause-first_bytes c =
    let left = c.split_at.result.1.now in
    let count = c.min-count.result in
    let left_is : left ≡ drop c.self.inside.place c.self.inside.bytes.items = cc in
    let is_after : drop (c.self.inside.place + count) c.self.inside.bytes.items ≡ drop count left =
    sym (drop-drop count c.self.inside.place c.self.inside.bytes.items) ∙ ap (drop count) (sym left_is) in (
      ap (λ s. s.left) (sym c.self.view_is) ∙ sym left_is
          ∙ memory_source_given_and_left left c.args.into.now _ _ count (omega arith) c.copy_front.ensures is_after,
      λ none has_room.
          memory_source_none_at_end left _ c.self.inside.step (length c.args.into.now) count c.self.invariant.1 (omega arith)
          (omega arith) none is_after,
    )
