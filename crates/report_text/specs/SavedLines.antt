-- The cuts that a text says were saved.
use Rattle.std.specs.Prelude.{ℕ, ◌≡◌, ◌≢◌, ◌⊎◌, List, [], ◌∷◌}
use Rattle.report_text.specs.Printing.{mark_text}
use Rattle.report_text.specs.Session.{whole_lines}
use Rattle.report_text.specs.declared.mark.Mark.TheVariants.{Saved}

-- the line doesn't say that a cut was saved
abbrev pub IsOtherLine : List ℕ → Type 0
IsOtherLine line = (positions : List ℕ) → line ≢ mark_text Saved positions

-- the lines `saved` among these lines show these positions, in their order
abbrev pub LinesShowSaves : (lines saves : List (List ℕ)) → Type 0
LinesShowSaves [] saves = saves ≡ []
LinesShowSaves (line ∷ lines) saves =
    (IsOtherLine line × LinesShowSaves lines saves)
    ⊎ ((positions : List ℕ) × (later : List (List ℕ)) × (line ≡ mark_text Saved positions) × (saves ≡ positions ∷ later)
    × LinesShowSaves lines later)

-- the whole lines `saved` of a text show these positions
abbrev pub ShowsSaves : (text : List ℕ) (saves : List (List ℕ)) → Type 0
ShowsSaves text saves = LinesShowSaves (whole_lines text) saves
