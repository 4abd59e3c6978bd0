use Rattle.std.proofs.Common.{refl, sym, ap, ◌∙◌, arith}
use Rattle.std.proofs.lemmas.Bool.{false≢true}
use Rattle.std.proofs.lemmas.Bool.Decides.{Decides-eqb, Decides-ltb}
use Rattle.command_words.specs.Scanning.{scanned_form, text_at}
use Rattle.command_words.specs.Arguments.{argument_texts}
use Rattle.command_words.proofs.ArgumentTailLemmas.{argument_leaves_tail_range, argument_tail_has_no_texts}
use Rattle.command_words.proofs.ArgumentTailLemmas.{argument_tail_has_no_words}
use Rattle.command_words.proofs.FormLemmas.{empty_words_fit_form, form_fit_without_argument, positional_fits_form}
use Rattle.command_words.proofs.FormLemmas.{form_fit_behind_positional, option_fits_form}
use Rattle.command_words.proofs.FormLemmas.{form_fit_behind_option}
use Rattle.command_words.proofs.scanning.+fit.Goals as goal

pub returns-then-is_empty : goal.returns-then-is_empty
returns-then-is_empty t c =
    let form = scanned_form c.args.form.now in let n = c.args.positionals in let words = c.args.words.now in
    let empty = argument_tail_has_no_texts words ((Decides-eqb _ 0).0 (sym c.if-is_empty.ensures)) in (
      λ yes. empty_words_fit_form form n (argument_texts words) empty ((Decides-eqb n 0).0 yes),
      λ fits. (Decides-eqb n 0).1 (form_fit_without_argument form n (argument_texts words) c.in_default.ensures.none fits).1,
    )

pub returns-else-is_empty : goal.returns-else-is_empty
returns-else-is_empty t c =
    let form = scanned_form c.args.form.now in let n = c.args.positionals in let words = c.args.words.now in (
      λ yes. absurd (false≢true (sym c.if-is_empty.false ∙ yes)),
      λ fits.
          absurd (false≢true
          (c.if-is_empty.ensures
          ∙ (Decides-eqb _ 0).1
          (argument_tail_has_no_words words (form_fit_without_argument form n (argument_texts words) c.in_default.ensures.none fits).0))),
    )

pub returns-then-positionals-gt0 : goal.returns-then-positionals-gt0
returns-then-positionals-gt0 t c =
    let form = scanned_form c.args.form.now in let n = c.args.positionals in
    let front = argument_leaves_tail_range c.args.words.now c.in-Some.front.words _ c.in-Some.ensures.some in
    let is = sym (ap text_at c.in_default-option.is) ∙ front.2 in (
      λ yes. positional_fits_form form n _ _ front.0 front.1 is (omega arith) (c.fit.ensures.0 yes),
      λ fits. c.fit.ensures.1 (form_fit_behind_positional form n _ _ front.0 front.1 is fits).1,
    )

pub returns-else-positionals-gt0 : goal.returns-else-positionals-gt0
returns-else-positionals-gt0 t c =
    let form = scanned_form c.args.form.now in let n = c.args.positionals in
    let front = argument_leaves_tail_range c.args.words.now c.in-Some.front.words _ c.in-Some.ensures.some in
    let is = sym (ap text_at c.in_default-option.is) ∙ front.2 in (
      λ yes. absurd (omega (arith, (Decides-ltb 0 n).0 yes)),
      λ fits. (Decides-ltb 0 n).1 (form_fit_behind_positional form n _ _ front.0 front.1 is fits).0,
    )

pub returns-then-not-has_option : goal.returns-then-not-has_option
returns-then-not-has_option t c =
    let form = scanned_form c.args.form.now in let n = c.args.positionals in
    let front = argument_leaves_tail_range c.args.words.now c.in-Some.front.words _ c.in-Some.ensures.some in
    let is = sym (ap text_at c.in-Some-option.is) ∙ front.2 in (
      λ yes. absurd (false≢true yes),
      λ fits.
          let behind = form_fit_behind_option form n _ _ front.0 _ front.1 is fits in c.if-not-has_option.ensures.1 behind.known,
    )

pub returns-then-stands : goal.returns-then-stands
returns-then-stands t c =
    let form = scanned_form c.args.form.now in let n = c.args.positionals in
    let front = argument_leaves_tail_range c.args.words.now c.in-Some.front.words _ c.in-Some.ensures.some in
    let is = sym (ap text_at c.in-Some-option.is) ∙ front.2 in (
      λ yes. absurd (false≢true yes),
      λ fits.
          let behind = form_fit_behind_option form n _ _ front.0 _ front.1 is fits in
          absurd (behind.apart ((c.if-stands.ensures behind.rest behind.fits.spelled).0 refl)),
    )

pub returns : goal.returns
returns t c =
    let form = scanned_form c.args.form.now in let n = c.args.positionals in
    let front = argument_leaves_tail_range c.args.words.now c.in-Some.front.words _ c.in-Some.ensures.some in
    let is = sym (ap text_at c.in-Some-option.is) ∙ front.2 in (
      λ yes.
          option_fits_form form n _ _ front.0 _ front.1 is (c.if-not-has_option.ensures.0 refl)
          (λ list spelled stands. false≢true ((c.if-stands.ensures list spelled).1 stands)) (c.fit-2.ensures.0 yes),
      λ fits.
          let behind = form_fit_behind_option form n _ _ front.0 _ front.1 is fits in
          c.fit-2.ensures.1 (behind.rest, behind.fits),
    )
