-- Lists of values that bytes begin with, read one after another.
use Rattle.std.proofs.Common.{◌≡◌, ℕ, ◌+◌, ◌<◌, List, [], ◌∷◌, ◌++◌, length, All, refl, sym, ap}
use Rattle.std.proofs.Common.{◌∙◌, append_assoc, arith}
use Rattle.std.specs.List.{flat_map}
use Rattle.std.proofs.lemmas.List.{length_push}
use Rattle.std.proofs.lemmas.List.Elements.{All-head, All-tail, All-push, All-nil}
use Rattle.std.proofs.lemmas.List.{flat_map_more}
use Rattle.checkpoint.specs.Decoding.{BeginsWith, BeginsWithNone, ListFits}
use Rattle.checkpoint.proofs.SpellingLemmas.{SpellingsAreApart, spelling_starts_with_first, joined_spellings_are_apart}

module _ {A : Type 0} (spell : A → List ℕ) (Fits : A → Type 0) where
  -- no value yet
  pub read_list_is_empty : (bytes : List ℕ) → BeginsWith (flat_map spell) (ListFits Fits 0) bytes [] bytes
  read_list_is_empty bytes = record { fits = record { as_many = refl; each = All-nil Fits }; spelled = refl }

  -- one more value
  pub read_list_grows : (bytes rest after : List ℕ) (count : ℕ) (values : List A) (value : A)
      → BeginsWith (flat_map spell) (ListFits Fits count) bytes values rest → BeginsWith spell Fits rest value after
      → BeginsWith (flat_map spell) (ListFits Fits (count + 1)) bytes (values ++ value ∷ []) after
  read_list_grows bytes rest after count values value before here = record {
    fits = record {
      as_many = length_push values value ∙ omega (arith, before.fits.as_many);
      each = All-push Fits values value before.fits.each here.fits;
    };
    spelled = before.spelled ∙ ap (λ (l : List ℕ). flat_map spell values ++ l) here.spelled
        ∙ sym (append_assoc (flat_map spell values) (spell value) after)
        ∙ ap (λ (l : List ℕ). l ++ after) (flat_map_more spell [] values value);
  }

  -- fewer values than were asked for, and then none
  read_list_is_stuck : SpellingsAreApart spell Fits → (xs ys : List A) (r s : List ℕ) → length xs < length ys → All Fits xs → All Fits ys
      → BeginsWithNone spell Fits r → flat_map spell xs ++ r ≡ flat_map spell ys ++ s → ⊥
  read_list_is_stuck apart xs [] r s fewer fit_x fit_y none same = absurd (omega (arith, fewer))
  read_list_is_stuck apart [] (y ∷ ys) r s fewer fit_x fit_y none same =
      none y (flat_map spell ys ++ s) (record { fits = All-head Fits y ys fit_y; spelled = same ∙ spelling_starts_with_first spell y ys s })
  read_list_is_stuck apart (x ∷ xs) (y ∷ ys) r s fewer fit_x fit_y none same =
      let grouped : spell x ++ (flat_map spell xs ++ r) ≡ spell y ++ (flat_map spell ys ++ s) =
      sym (spelling_starts_with_first spell x xs r) ∙ same ∙ spelling_starts_with_first spell y ys s in
      let heads = apart x y (flat_map spell xs ++ r) (flat_map spell ys ++ s)
      (All-head Fits x xs fit_x) (All-head Fits y ys fit_y) grouped in
      read_list_is_stuck apart xs ys r s (omega (arith, fewer)) (All-tail Fits x xs fit_x) (All-tail Fits y ys fit_y) none heads.1

  pub read_list_has_too_few : SpellingsAreApart spell Fits → (bytes rest : List ℕ) (count more : ℕ) (values : List A)
      → BeginsWith (flat_map spell) (ListFits Fits count) bytes values rest → count < more → BeginsWithNone spell Fits rest
      → BeginsWithNone (flat_map spell) (ListFits Fits more) bytes
  read_list_has_too_few apart bytes rest count more values before fewer none others after all =
      read_list_is_stuck apart values others rest after (omega (arith, before.fits.as_many, all.fits.as_many)) before.fits.each all.fits.each
      none (sym before.spelled ∙ all.spelled)

  -- as many values: they are the same
  pub read_list_is_same : SpellingsAreApart spell Fits → (bytes rest after : List ℕ) (count : ℕ) (values others : List A)
      → BeginsWith (flat_map spell) (ListFits Fits count) bytes values rest
      → BeginsWith (flat_map spell) (ListFits Fits count) bytes others after
      → (values ≡ others) × (rest ≡ after)
  read_list_is_same apart bytes rest after count values others one other =
      joined_spellings_are_apart spell Fits apart values others rest after (one.fits.as_many ∙ sym other.fits.as_many) one.fits.each other.fits.each
      (sym one.spelled ∙ other.spelled)
