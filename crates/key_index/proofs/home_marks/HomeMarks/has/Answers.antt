use Rattle.std.proofs.Common.{◌≡◌, ◌/◌, ◌%◌, ◌^◌, ◌<◌, length, get_or, ap, sym, ◌∙◌, bit_and, rules}
use Rattle.std.specs.Int.{bit_at}
use Rattle.std.proofs.lemmas.Bool.{eqb-true, eq-eqb}
use Rattle.std.proofs.lemmas.Grind.{get_or_default_zero}
use Rattle.std.proofs.lemmas.Nat.Bits.{shr_and_one}
use Rattle.key_index.specs.HomeMarks.{IsMarked}
use Rattle.key_index.proofs.home_marks.HomeMarks.has.Goals as goal

pub returns : goal.returns
unfolding IsMarked
returns c =
    let word = c.index.result.now in
    let bit = c.args.home % 64 in
    let within : c.args.home / 64 < length c.self.inside.words.items = search rules in
    let at : word ≡ get_or c.args.self.now (c.args.home / 64) 0 =
    search (rules, get_or_default_zero c.self.inside.words.items (c.args.home / 64) word within) in
    let is : bit_and (word / 2 ^ bit) 1 ≡ bit_at (get_or c.args.self.now (c.args.home / 64) 0) bit =
    shr_and_one word bit ∙ ap (λ n. bit_at n bit) at in (
      λ yes. sym is ∙ eqb-true (bit_and (word / 2 ^ bit) 1) 1 yes,
      λ marked. eq-eqb (bit_and (word / 2 ^ bit) 1) 1 (is ∙ marked),
    )
