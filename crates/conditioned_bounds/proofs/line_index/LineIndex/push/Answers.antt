use Rattle.std.proofs.Common.{◌≡◌, ◌+◌, ◌<◌, length, ◌++◌, ◌∷◌, [], ℕ, List, Contains, if◌then◌else◌, eqb, sym, subst}
use Rattle.std.specs.List.{list_any}
use Rattle.prefix_lattice.specs.{PrefixValue, IsPrefix}
use Rattle.conditioned_bounds.specs.Numbers.{line_numbers_at}
use Rattle.conditioned_bounds.specs.LineIndex.{AreIndexed, LineIndexValue}
use Rattle.conditioned_bounds.specs.Members.{member_limit}
use Rattle.conditioned_bounds.proofs.IndexLemmas.{index-same, index-push}
use Rattle.conditioned_bounds.proofs.line_index.LineIndex.push.Goals as goal

pub invariant_of-self : goal.invariant_of-self
invariant_of-self c =
    index-same c.self.inside.grain c.self.inside.lines c.self.inside.under c.make_room.new.kept
    c.make_room.ensures.same c.self.invariant

pub invariant_of-self-in_err-push : goal.invariant_of-self-in_err-push
invariant_of-self-in_err-push c =
    subst (λ (lines : List PrefixValue). AreIndexed c.self.inside.grain lines c.make_room.new.kept)
    (sym c.in_err-push.ensures.err)
    (index-same c.self.inside.grain c.self.inside.lines c.self.inside.under c.make_room.new.kept
    c.make_room.ensures.same
    c.self.invariant)

pub invariant_of-self-2 : goal.invariant_of-self-2
invariant_of-self-2 c =
    let lines = c.self.inside.lines in
    let codes = c.in_ok-codes.codes.items in
    let kept = c.make_room.new.kept in
    let indexed =
    index-same c.self.inside.grain lines c.self.inside.under kept c.make_room.ensures.same c.self.invariant in
    let is = subst (λ (i : LineIndexValue). IsPrefix i.grain c.args.prefix.now)
    (sym c.self.view_is) c.requires.prefix in
    let new = subst (λ (i : LineIndexValue). ¬ Contains i.lines c.args.prefix.now)
    (sym c.self.view_is) c.requires.new in
    let few = subst (λ (i : LineIndexValue). length i.lines + 1 < member_limit) (sym c.self.view_is) c.requires.few in
    let notes =
    subst (λ (cs : List ℕ). (code : ℕ) → line_numbers_at c.note.new.kept code
    ≡ (if list_any (λ other. eqb other code) cs then line_numbers_at kept code ++ c.len-number.result ∷ []
    else line_numbers_at kept code)) c.as_slice-2.ensures.value c.note.ensures in
    subst (λ (ls : List PrefixValue). AreIndexed c.self.inside.grain ls c.note.new.kept) (sym c.in_ok-push.ensures.ok)
    (index-push c.self.inside.grain lines c.args.prefix.now kept c.note.new.kept codes c.len-number.result indexed is
    new
    c.in_ok-codes.ensures c.len-number.ensures.length few notes)
