use Rattle.std.proofs.Common.{◌≡◌, ◌+◌, ◌∷◌, [], ℕ, sym, ap, ◌∙◌}
use Rattle.space_saving.specs.declared.entry.Entry.{Entry}
use Rattle.space_saving.specs.{put_into}
use Rattle.stream_summary.specs.Ring.{IsFirstOf}
use Rattle.stream_summary.specs.Buckets.{entries_at, entry_at}
use Rattle.stream_summary.proofs.steps.take_over.Goals as goal

pub returns-clause-taken : goal.returns-clause-taken
returns-clause-taken c = λ first rest is.
    let old = c.args.arena.now in
    let number = c.first_entry-number.result in
    let begins : IsFirstOf number.0 old.order.order = c.first_entry-number.ensures in
    let same : number.0 ≡ first = let begun : number.0 ∷ begins.0 ≡ first ∷ rest = sym begins.1 ∙ is in cc in
    let least : c.entry-least.result.count ≡ (entry_at old.slots.items old.buckets.items first).count =
    ap (λ (e : Entry). e.count) c.entry-least.ensures ∙ ap (λ n. (entry_at old.slots.items old.buckets.items n).count) same in
    c.replace.ensures.replaced.entries [] rest (is ∙ ap (λ n. n ∷ rest) (sym same))
    ∙ ap (λ (n : ℕ). put_into (let e : Entry = record { key = c.args.key; count = n + c.args.weight; error = n } in e)
    (entries_at old.slots.items old.buckets.items rest)) least
