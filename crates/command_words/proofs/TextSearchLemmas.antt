-- What a list of texts contains, and what a search in it finds.
use Rattle.std.proofs.Common.{◌≡◌, ◌≢◌, ◌↔◌, ◌∙◌, ◌==◌, ◌||◌, refl, sym, ap, subst, eq-eqb, get_or, List, [], ◌∷◌}
use Rattle.std.proofs.Common.{map, ℕ, zero, suc, Bool, false, arith, Bor}
use Rattle.std.specs.Bool.{IsTrue}
use Rattle.std.specs.List.{Contains, list_any}
use Rattle.std.specs.Str.{bytes_eq}
use Rattle.std.proofs.lemmas.Bool.{false≢true}
use Rattle.std.proofs.lemmas.List.Folds.{Any-from_list_any, list_any-from_Any, list_any_at}
use Rattle.std.proofs.lemmas.Slice.Eq.{bytes_eq-Decides}
use Rattle.command_words.specs.Arguments.{equals_sign, IsName}

-- an element of a list that is not its first is among the others
pub text_search_skips_first : {X : Type 0} (x y : X) (xs : List X) → (x ≡ y → ⊥) → Contains (x ∷ xs) y → Contains xs y
text_search_skips_first x y xs other (zero, within, same) = absurd (other same)
text_search_skips_first x y xs other (suc k, within, same) = (k, omega arith, same)

-- a search finds a text exactly if the list contains it
pub text_search_finds_contained : (texts : List (List ℕ)) (text : List ℕ)
    → IsTrue (list_any (λ other. bytes_eq other text) texts) ↔ Contains texts text
text_search_finds_contained texts text = (
  λ found.
      let at = Any-from_list_any (λ other. bytes_eq other text) texts found in
      subst (λ other. Contains texts other) ((bytes_eq-Decides at.1 text).0 at.4) (at.0, at.2, at.3),
  λ h.
      list_any-from_Any (λ other. bytes_eq other text) texts
      (h.0, text, h.1, h.2, (bytes_eq-Decides text text).1 refl),
)

-- a search in references is a search in the texts that they point to
text_search_behind_references : (names : List (Bor (List ℕ))) (text : List ℕ)
    → list_any (λ name. bytes_eq name.now text) names
    ≡ list_any (λ other. bytes_eq other text) (map (λ name. name.now) names)
text_search_behind_references [] text = refl
text_search_behind_references (name ∷ names) text = ap (λ rest. bytes_eq name.now text || rest) (text_search_behind_references names text)

-- the answer of a search in references is whether their texts contain the text
pub text_search_tells_contained : (names : List (Bor (List ℕ))) (texts : List (List ℕ)) (text : List ℕ) (answer : Bool)
    → map (λ name. name.now) names ≡ texts → answer ≡ list_any (λ name. bytes_eq name.now text) names
    → IsTrue answer ↔ Contains texts text
text_search_tells_contained names texts text answer are is =
    subst (λ ts. IsTrue answer ↔ Contains ts text) are
    (subst (λ test. IsTrue test ↔ Contains (map (λ name. name.now) names) text)
    (sym (is ∙ text_search_behind_references names text)) (text_search_finds_contained _ text))

-- if a search fails, the list doesn't contain the text
pub text_search_finds_none : (texts : List (List ℕ)) (text : List ℕ) → list_any (λ other. bytes_eq other text) texts ≡ false
    → Contains texts text → ⊥
text_search_finds_none texts text fails h = false≢true (sym fails ∙ (text_search_finds_contained texts text).1 h)

-- texts that a comparison finds unequal differ
pub text_search_tells_apart : (text other : List ℕ) → bytes_eq text other ≡ false → text ≢ other
text_search_tells_apart text other fails same = false≢true (sym fails ∙ (bytes_eq-Decides text other).1 same)

-- a text in which a search finds no `=` is a name
pub text_search_shows_name : (name : List ℕ) → list_any (λ byte. byte == equals_sign) name ≡ false → IsName name
text_search_shows_name name none k d within same =
    false≢true (sym none
    ∙ list_any_at (λ byte. byte == equals_sign) name k d within (eq-eqb (get_or name k d) equals_sign same))
