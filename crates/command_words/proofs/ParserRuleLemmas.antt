-- A parser that gets one more rule for each of some names.
use Rattle.std.proofs.Common.{◌≡◌, ◌<◌, ◌+◌, ◌∙◌, ℕ, List, sym, ap, ap₂, take, slice_index_or, length, arith}
use Rattle.std.specs.Prelude.{fold}
use Rattle.std.specs.Borrow.{Bor}
use Rattle.std.proofs.lemmas.List.{get_or-map, length-map}
use Rattle.std.proofs.lemmas.List.Sums.{fold_more}
use Rattle.clap.specs.Words.{App, Rule, with_rule}
use Rattle.command_words.specs.Arguments.{ArgumentText}
use Rattle.command_words.specs.Arguments.{argument_texts}

-- one more name, and its rule
pub parser_gets_one_more_rule : (f : ArgumentText → Rule) (start before after : App) (rule : Rule) (names : List (Bor ArgumentText)) (i : ℕ)
    (name : Bor ArgumentText) → i < length names
    → before ≡ fold (λ parser n. with_rule parser (f n)) start (take i (argument_texts names))
    → rule ≡ f (slice_index_or names i name).now
    → after ≡ with_rule before rule
    → after ≡ fold (λ parser n. with_rule parser (f n)) start (take (i + 1) (argument_texts names))
parser_gets_one_more_rule f start before after rule names i name inside so_far is added =
    let inside_texts : i < length (argument_texts names) = omega (arith, length-map names (λ (n : Bor ArgumentText). n.now)) in
    let at : slice_index_or (argument_texts names) i name.now ≡ (slice_index_or names i name).now =
    get_or-map (λ (n : Bor ArgumentText). n.now) names i name name.now inside in
    added ∙ ap₂ with_rule so_far (is ∙ ap f (sym at))
    ∙ sym (fold_more (λ parser n. with_rule parser (f n)) start (argument_texts names) i name.now inside_texts)
