use Rattle.std.proofs.Common.{refl, sym, Bor, List, ℕ}
use Rattle.std.proofs.lemmas.List.{length-map}
use Rattle.command_words.specs.Scanning.{scanned_form}
use Rattle.command_words.specs.Arguments.{argument_texts}
use Rattle.command_words.proofs.FormLemmas.{form_fit_is_well_formed}
use Rattle.command_words.proofs.scanning.are_well_formed.Goals as goal

pub returns-then-fit : goal.returns-then-fit
returns-then-fit c =
    let form = scanned_form c.args.form.now in
    let behind = argument_texts c.args.behind.now in
    let count = sym (length-map c.args.form.now.positionals.now (λ (name : Bor (List ℕ)). name.now)) in
    let fits = c.if-fit.ensures.0 refl in (
      λ yes.
          form_fit_is_well_formed form _ behind count fits
          (λ arguments spelled. (c.are_present.ensures arguments spelled).0 yes),
      λ formed. (c.are_present.ensures formed.0 formed.1.spelled).1 formed.1.of_form.complete,
    )
