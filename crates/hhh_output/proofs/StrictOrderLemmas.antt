-- Lists in a strict order.
use Rattle.std.proofs.Common.{◌≡◌, List, [], ◌∷◌, Contains, All, AllPairs, ◌⊎◌, inl, inr, refl, sym, ap, ◌∙◌, subst}
use Rattle.std.proofs.lemmas.List.Elements.{All-contains}
use Rattle.prefix_lattice.proofs.ListLemmas.{Contains-list_head, Contains-list_tail, Contains-list_cons}
use Rattle.prefix_lattice.proofs.ListLemmas.{Contains-empty_list}
use Rattle.prefix_lattice.proofs.ListLemmas.{AllPairs-list_head, AllPairs-list_tail}

-- where no two elements are each before the other, two lists in order with the same elements are the same
pub same_in_strict_order : {X : Type 0} (R : X → X → Type 0) → ((x y : X) → R x y → R y x → ⊥) → (xs ys : List X)
    → AllPairs R xs → AllPairs R ys
    → ((x : X) → Contains xs x → Contains ys x) → ((x : X) → Contains ys x → Contains xs x) → xs ≡ ys
same_in_strict_order R apart [] [] xs_rise ys_rise there back = refl
same_in_strict_order R apart [] (y ∷ ys) xs_rise ys_rise there back = absurd (Contains-empty_list y (back y (Contains-list_head y ys)))
same_in_strict_order R apart (x ∷ xs) [] xs_rise ys_rise there back = absurd (Contains-empty_list x (there x (Contains-list_head x xs)))
same_in_strict_order {X} R apart (x ∷ xs) (y ∷ ys) xs_rise ys_rise there back =
    let after_x : All (R x) xs = AllPairs-list_head R x xs xs_rise in
    let after_y : All (R y) ys = AllPairs-list_head R y ys ys_rise in
    let heads : x ≡ y =
    by_place (Contains-list_cons y ys x (there x (Contains-list_head x xs)))
    (Contains-list_cons x xs y (back y (Contains-list_head y ys))) after_x after_y in
    let tail_there : (z : X) → Contains xs z → Contains ys z = λ z in_xs.
    elim (Contains-list_cons y ys z (there z (Contains-list_tail x xs z in_xs))) [
      | inl same ↦
          let before : R x x = subst (R x) (sym same ∙ sym heads) (All-contains (R x) xs z after_x in_xs) in
          absurd (apart x x before before)
      | inr in_ys ↦ in_ys
    ] in
    let tail_back : (z : X) → Contains ys z → Contains xs z = λ z in_ys.
    elim (Contains-list_cons x xs z (back z (Contains-list_tail y ys z in_ys))) [
      | inl same ↦
          let before : R y y = subst (R y) (sym same ∙ heads) (All-contains (R y) ys z after_y in_ys) in
          absurd (apart y y before before)
      | inr in_xs ↦ in_xs
    ] in
    ap (λ h. h ∷ xs) heads
    ∙ ap (λ t. y ∷ t)
    (same_in_strict_order R apart xs ys (AllPairs-list_tail R x xs xs_rise) (AllPairs-list_tail R y ys ys_rise) tail_there
    tail_back)
  where
    by_place : (y ≡ x) ⊎ Contains ys x → (x ≡ y) ⊎ Contains xs y → All (R x) xs → All (R y) ys → x ≡ y
    by_place (inl same) _ _ _ = sym same
    by_place (inr _) (inl same) _ _ = same
    by_place (inr x_in_ys) (inr y_in_xs) after_x after_y =
        absurd (apart x y (All-contains (R x) xs y after_x y_in_xs) (All-contains (R y) ys x after_y x_in_ys))
