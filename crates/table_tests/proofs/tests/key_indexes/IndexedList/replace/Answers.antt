use Rattle.std.proofs.Common.{◌≡◌, ◌<◌, ℕ, List, length, map, get_or, set, sym, ap, ◌∙◌, subst, arith, rules, get_or-set_same}
use Rattle.std.proofs.lemmas.List.{length-map, map-set}
use Rattle.key_index.specs.{HoldsKeysButOne, HaveTurnedAway}
use Rattle.table_tests.specs.declared.tests.key_indexes.Holder.{Holder}
use Rattle.table_tests.proofs.tests.key_indexes.IndexedList.replace.Goals as goal

-- the key of a holder
abbrev held : Holder → ℕ
held holder = holder.key

-- the keys after a holder was replaced, as they are seen in the holders that are lent before and after
replaced : (items lent after : List Holder) (place key : ℕ) → lent ≡ items → after ≡ set items place (record { key = key })
    → map held after ≡ set (map held lent) place key
replaced items lent after place key before is =
    ap (map held) is ∙ map-set held items place (record { key = key }) ∙ ap (λ (l : List Holder). set (map held l) place key) (sym before)

pub enter-requires-clause-others : goal.enter-requires-clause-others
enter-requires-clause-others c =
    let keys = replaced c.self.inside.list.items c.deref-then-place-len.result.now c.deref-then-place-len-2.result.now c.args.place c.args.key
    c.deref-then-place-len.ensures.value c.deref-then-place-len-2.ensures.value in
    subst (λ (keys : List ℕ). HoldsKeysButOne c.args.place keys c.leave.new.self) (sym keys) (c.leave.ensures.others c.args.key)

pub enter-requires-clause-seen : goal.enter-requires-clause-seen
enter-requires-clause-seen c =
    let lent = c.deref-then-place-len.result.now in
    let keys = replaced c.self.inside.list.items lent c.deref-then-place-len-2.result.now c.args.place c.args.key
    c.deref-then-place-len.ensures.value c.deref-then-place-len-2.ensures.value in
    let inside : c.args.place < length lent = search rules in
    let within : c.args.place < length (map held lent) = omega (arith, inside, length-map lent held) in
    let has : get_or (map held c.deref-then-place-len-2.result.now) c.args.place 0 ≡ c.args.key =
    ap (λ keys. get_or keys c.args.place 0) keys ∙ get_or-set_same (map held lent) c.args.place c.args.key 0 within in
    subst (λ key. HaveTurnedAway c.seen_of-seen.result key c.leave.new.self) (sym has)
    (c.leave.ensures.seen c.seen_of-seen.result c.args.key c.seen_of-seen.ensures)
