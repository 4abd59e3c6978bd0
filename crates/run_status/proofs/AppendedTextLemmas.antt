-- Texts that grow by parts, where memory suffices.
use Rattle.std.proofs.Common.{◌≡◌, ◌∙◌, ◌++◌, ℕ, List, Ok, Err, ap, append_assoc, decimal, sym}
use Rattle.std.specs.Prelude.{if◌then◌else◌, is_ok}
use Rattle.std.specs.Result.{OnOk}
use Rattle.std.specs.declared.result.Result.{Result}

pub appended_text_on_ok_implies : {T E : Type 0} (result : Result T E) (P Q : Type 0) → (P → Q) → OnOk result P → OnOk result Q
appended_text_on_ok_implies (Ok value) P Q follows holds = follows holds
appended_text_on_ok_implies (Err error) P Q follows holds = tt

-- what was appended, where memory sufficed
pub appended_text_on_ok : {T E : Type 0} (result : Result T E) (now whole before text : List ℕ)
    → now ≡ (if is_ok result then whole else before) → whole ≡ text → OnOk result (now ≡ text)
appended_text_on_ok (Ok value) now whole before text is same = is ∙ same
appended_text_on_ok (Err error) now whole before text is same = tt

-- a text that ends in a number was appended
pub appended_text_ends_in_number : {T E : Type 0} (result : Result T E) (now line before : List ℕ) (number : ℕ) (text : List ℕ)
    → text ≡ before ++ decimal number → OnOk result (now ≡ line ++ before ++ decimal number)
    → OnOk result (now ≡ line ++ text)
appended_text_ends_in_number result now line before number text is =
    appended_text_on_ok_implies result (now ≡ line ++ before ++ decimal number) (now ≡ line ++ text)
    (λ all. all ∙ append_assoc line before (decimal number) ∙ ap (λ t. line ++ t) (sym is))
