use Rattle.std.proofs.Common.{◌≡◌, [], arith, refl, slice_index_or, subst, Bor}
use Rattle.std.specs.List.{All, Contains}
use Rattle.std.proofs.lemmas.Bool.{false≢true}
use Rattle.std.proofs.lemmas.List.{get_or-map, length-map, take_all}
use Rattle.std.proofs.lemmas.List.Elements.{All-map, All-more}
use Rattle.command_words.specs.Arguments.{ArgumentText, names_in}
use Rattle.command_words.specs.Arguments.{argument_texts}
use Rattle.command_words.proofs.scanning.are_present.Goals as goal

-- no name
abbrev none : Bor ArgumentText
none = record { ref_ptr = (0, 0); now = [] }

pub returns-then-not-stands : goal.returns-then-not-stands
returns-then-not-stands c = λ arguments spelled. (
  λ yes. absurd (false≢true yes),
  λ all.
      let names = c.args.names.now in
      let i = c.loop-name.name-index in
      let at : slice_index_or (argument_texts names) i [] ≡ (slice_index_or names i none).now =
      get_or-map (λ (name : Bor ArgumentText). name.now) names i none [] c.loop-name-test.true in
      (c.if-not-stands.ensures arguments spelled).1
      (subst (Contains (names_in arguments)) at
      (all i [] (omega (arith, c.loop-name-test.true, length-map names (λ (name : Bor ArgumentText). name.now))))),
)

pub loop-name-preserved : goal.loop-name-preserved
loop-name-preserved c = λ arguments spelled.
    All-more (λ (name : Bor ArgumentText). Contains (names_in arguments) name.now) c.args.names.now c.loop-name.name-index none
    c.loop-name-test.true (c.loop-name.invariant arguments spelled) ((c.if-not-stands.ensures arguments spelled).0 refl)

pub returns : goal.returns
returns c = λ arguments spelled. (
  λ yes.
      let names = c.args.names.now in
      All-map (Contains (names_in arguments)) (λ (name : Bor ArgumentText). name.now) names
      (subst (All (λ (name : Bor ArgumentText). Contains (names_in arguments) name.now))
      (take_all c.loop-name.name-index names (omega (arith, c.loop-name-test.false)))
      (c.loop-name.invariant arguments spelled)),
  λ all. refl,
)
