use Rattle.std.proofs.Common.{◌≡◌, ◌/◌, ◌<◌, List, ℕ, length, get_or, set, sym, subst, rules}
use Rattle.std.proofs.lemmas.Grind.{get_or_default_zero}
use Rattle.key_index.specs.HomeMarks.{IsMarked}
use Rattle.key_index.proofs.HomeLemmas.{home_word_with, home_is_marked, home_stays_marked}
use Rattle.key_index.proofs.home_marks.HomeMarks.set.Goals as goal

pub returns-clause-marked : goal.returns-clause-marked
returns-clause-marked c =
    let words = c.self.inside.words.items in
    let within : c.args.home / 64 < length words = search rules in
    let at : c.index_mut.result.now ≡ get_or words (c.args.home / 64) 0 =
    search (rules, get_or_default_zero words (c.args.home / 64) c.index_mut.result.now within) in
    subst (λ n. IsMarked (set words (c.args.home / 64) (home_word_with n c.args.home)) c.args.home) (sym at)
    (home_is_marked words c.args.home within)

pub returns-clause-kept : goal.returns-clause-kept
returns-clause-kept c = λ other marked.
    let words = c.self.inside.words.items in
    let within : c.args.home / 64 < length words = search rules in
    let at : c.index_mut.result.now ≡ get_or words (c.args.home / 64) 0 =
    search (rules, get_or_default_zero words (c.args.home / 64) c.index_mut.result.now within) in
    subst (λ n. IsMarked (set words (c.args.home / 64) (home_word_with n c.args.home)) other) (sym at)
    (home_stays_marked words c.args.home other within (subst (λ (xs : List ℕ). IsMarked xs other) (sym c.self.view_is) marked))
