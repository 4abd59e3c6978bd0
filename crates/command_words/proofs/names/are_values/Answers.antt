use Rattle.std.proofs.Common.{◌≡◌, [], arith, refl, slice_index_or, subst, Bor}
use Rattle.std.specs.List.{All}
use Rattle.std.proofs.lemmas.Bool.{false≢true}
use Rattle.std.proofs.lemmas.List.{get_or-map, length-map, take_all}
use Rattle.std.proofs.lemmas.List.Elements.{All-map, All-more}
use Rattle.command_words.specs.Arguments.{ArgumentText, IsValue, argument_texts}
use Rattle.command_words.proofs.names.are_values.Goals as goal

-- no word
abbrev none : Bor ArgumentText
none = record { ref_ptr = (0, 0); now = [] }

pub returns-then-not-is_value : goal.returns-then-not-is_value
returns-then-not-is_value c = (
  λ yes. absurd (false≢true yes),
  λ all.
      let words = c.args.words.now in
      let i = c.loop-word.word-index in
      let at : slice_index_or (argument_texts words) i [] ≡ (slice_index_or words i none).now =
      get_or-map (λ (word : Bor ArgumentText). word.now) words i none [] c.loop-word-test.true in
      c.if-not-is_value.ensures.1
      (subst IsValue at
      (all i [] (omega (arith, c.loop-word-test.true, length-map words (λ (word : Bor ArgumentText). word.now))))),
)

pub loop-word-preserved : goal.loop-word-preserved
loop-word-preserved c =
    All-more (λ (word : Bor ArgumentText). IsValue word.now) c.args.words.now c.loop-word.word-index none c.loop-word-test.true
    c.loop-word.invariant (c.if-not-is_value.ensures.0 refl)

pub returns : goal.returns
returns c = (
  λ yes.
      let words = c.args.words.now in
      All-map IsValue (λ (word : Bor ArgumentText). word.now) words
      (subst (All (λ (word : Bor ArgumentText). IsValue word.now))
      (take_all c.loop-word.word-index words (omega (arith, c.loop-word-test.false))) c.loop-word.invariant),
  λ all. refl,
)
