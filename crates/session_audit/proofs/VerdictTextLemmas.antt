-- The text of a verdict that ends in a number.
use Rattle.std.proofs.Common.{◌≡◌, ◌∙◌, ◌++◌, ℕ, List, Ok, Err, ap, append_assoc, decimal, sym}
use Rattle.std.specs.Result.{OnOk}
use Rattle.std.specs.declared.result.Result.{Result}

-- it was appended, where memory sufficed
pub verdict_text_ends_in_number : {T E : Type 0} (result : Result T E) (now line before : List ℕ) (number : ℕ) (text : List ℕ)
    → text ≡ before ++ decimal number → OnOk result (now ≡ line ++ before ++ decimal number)
    → OnOk result (now ≡ line ++ text)
verdict_text_ends_in_number (Ok value) now line before number text is all =
    all ∙ append_assoc line before (decimal number) ∙ ap (λ t. line ++ t) (sym is)
verdict_text_ends_in_number (Err error) now line before number text is all = tt
