use Rattle.std.proofs.Common.{◌≡◌, ◌≢◌, ◌-◌, ◌≤◌, ℕ, List, arith, rules, map, get_or, ap, sym, subst, ◌∙◌}
use Rattle.key_index.specs.Chains.{AreChains, HasPassed, IsLinked}
use Rattle.key_index.proofs.WalkLemmas.{walk_none_weaker, walk_mark_is_of_another_key, walk_of_one_place, walk_passes_two_places}
use Rattle.key_index.proofs.chains.place_in_chain.Goals as goal

pub returns-then-min-eq0-clause-missing : goal.returns-then-min-eq0-clause-missing
returns-then-min-eq0-clause-missing g c =
    let keys = map g.T.Keyed.key_of c.args.slots.now in
    let first = c.from-first.result in
    let none : c.mark_if-found_first.result ≡ 0 = omega (arith, c.max-found.ensures, c.if-found-ne0.false) in
    let read : c.key_at.result ≡ get_or keys (first - 1) 0 =
    c.key_at.ensures ∙ ap (λ n. get_or keys n 0) (let e : c.saturating_sub-one.result ≡ first - 1 = omega (arith, c.saturating_sub-one.ensures) in e) in
    λ room backs rank home chains high.
    walk_of_one_place room c.args.links.now backs keys rank home c.args.key c.args.head chains first c.from-second.result high
    (search rules) (search rules) (sym c.min.ensures ∙ c.if-min-eq0.true)
    (λ some same. walk_mark_is_of_another_key c.key_at.result c.args.key first c.mark_if-found_first.result c.mark_if-found_first.ensures none some
    (read ∙ same))

pub walk_chain-requires-clause-second : goal.walk_chain-requires-clause-second
walk_chain-requires-clause-second g c = search rules

pub returns-clause-missing : goal.returns-clause-missing
returns-clause-missing g c =
    let keys = map g.T.Keyed.key_of c.args.slots.now in
    let first = c.from-first.result in
    let second = c.from-second.result in
    let none : c.mark_if-found_first.result ≡ 0 = omega (arith, c.max-found.ensures, c.if-found-ne0.false) in
    let none_more : c.mark_if-found_second.result ≡ 0 = omega (arith, c.max-found.ensures, c.if-found-ne0.false) in
    let some : first ≢ 0 = λ is. omega (arith, c.min.ensures, c.if-min-eq0.false, is) in
    let more : second ≢ 0 = λ is. omega (arith, c.min.ensures, c.if-min-eq0.false, is) in
    let read : c.key_at.result ≡ get_or keys (first - 1) 0 =
    c.key_at.ensures ∙ ap (λ n. get_or keys n 0) (let e : c.saturating_sub-one.result ≡ first - 1 = omega (arith, c.saturating_sub-one.ensures) in e) in
    let behind : c.saturating_sub-two.result ≡ second - 1 = omega (arith, c.saturating_sub-two.ensures) in
    let read_more : c.key_at-2.result ≡ get_or keys (second - 1) 0 = c.key_at-2.ensures ∙ ap (λ n. get_or keys n 0) behind in
    walk_none_weaker c.walk_chain.result (λ (behind_two : (room head : ℕ) (backs : List ℕ) (rank home : ℕ → ℕ) → AreChains room c.args.links.now backs rank home
    → HasPassed room backs keys rank home c.args.key head c.saturating_sub-two.result 2
    → (place : ℕ) → IsLinked backs place → home place ≡ head → get_or keys place 0 ≢ c.args.key).
    λ (room : ℕ) (backs : List ℕ) (rank home : ℕ → ℕ) (chains : AreChains room c.args.links.now backs rank home) (high : room ≤ c.args.head).
    behind_two room c.args.head backs rank home chains
    (subst (λ cell. HasPassed room backs keys rank home c.args.key c.args.head cell 2) (sym behind)
    (walk_passes_two_places room c.args.links.now backs keys rank home c.args.key c.args.head chains first second high
    (search rules) (search rules) some more
    (λ same. walk_mark_is_of_another_key c.key_at.result c.args.key first c.mark_if-found_first.result c.mark_if-found_first.ensures none some
    (read ∙ same))
    (λ same. walk_mark_is_of_another_key c.key_at-2.result c.args.key second c.mark_if-found_second.result c.mark_if-found_second.ensures none_more more
    (read_more ∙ same)))))
    c.walk_chain.ensures.missing
