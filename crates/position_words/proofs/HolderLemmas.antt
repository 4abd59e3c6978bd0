-- Which seats hold a shard, before and after a view changes.
use Rattle.std.proofs.Common.{◌≡◌, ℕ, zero, suc, ◌<◌, ◌⊎◌, inl, inr, ⊎_elim, List, [], ◌∷◌, length, set, Some, sym}
use Rattle.std.proofs.Common.{ap, ◌∙◌, arith, subst}
use Rattle.std.proofs.lemmas.Bool.{cases_eq}
use mathlib.Core.Option.{some, some-injective, some-ne-none}
use lib.ListN.{get_elem?}
use Rattle.atomic_table.proofs.Lists.{at_set, set_here, set_else}
use Rattle.position_words.specs.declared.view.Held.{Held}
use Rattle.position_words.specs.declared.view.View.{View}
use Rattle.position_words.specs.Seat.{IsHoldingSeat}

pub holder_place_is_inside : {A : Type 0} (xs : List A) (place : ℕ) (x : A) → get_elem? xs place ≡ some x → place < length xs
holder_place_is_inside [] place x is = absurd (some-ne-none x (sym is))
holder_place_is_inside (y ∷ ys) zero x is = omega arith
holder_place_is_inside (y ∷ ys) (suc place) x is = let below : place < length ys = holder_place_is_inside ys place x is in omega arith

-- a view holds this shard
pub record IsHolderView (view : View) (shard : ℕ) : Type 0 where
  pub held : Held
  pub holds : view.held ≡ Some held
  pub is : held.shard ≡ shard

-- another seat's view changes
pub holder_there : (views : List View) (seat other place : ℕ) (now : View) → (other ≡ seat → ⊥)
    → IsHoldingSeat views other place → IsHoldingSeat (set views seat now) other place
holder_there views seat other place now apart holder =
    record {
      view = holder.view;
      held = holder.held;
      at = set_else views seat other now apart ∙ holder.at;
      holds = holder.holds;
      is = holder.is;
    }

-- the seat's own view changes to one that holds the shard
pub holder_here : (views : List View) (seat place : ℕ) (before now : View) → get_elem? views seat ≡ some before
    → IsHolderView now place → IsHoldingSeat (set views seat now) seat place
holder_here views seat place before now at has =
    record {
      view = now;
      held = has.held;
      at = set_here views seat now (holder_place_is_inside views seat before at);
      holds = has.holds;
      is = has.is;
    }

-- a holder's view is the view of its seat
pub holder_has_its_view : (views : List View) (seat place : ℕ) (view : View) → get_elem? views seat ≡ some view
    → IsHoldingSeat views seat place → IsHolderView view place
holder_has_its_view views seat place view at holder =
    let same : holder.view ≡ view = some-injective holder.view view (sym holder.at ∙ at) in
    record { held = holder.held; holds = ap (λ v. v.held) (sym same) ∙ holder.holds; is = holder.is }

-- after a change a holder is the seat with its new view, or held the shard before
pub holder_after : (views : List View) (seat other place : ℕ) (now : View) → IsHoldingSeat (set views seat now) other place
    → ((other ≡ seat) × IsHolderView now place) ⊎ ((other ≡ seat → ⊥) × IsHoldingSeat views other place)
holder_after views seat other place now holder =
    ⊎_elim (λ here.
    inl (here.0, record { held = holder.held; holds = ap (λ v. v.held) here.1 ∙ holder.holds; is = holder.is }))
    (λ there.
    inr (
      there.0,
      record { view = holder.view; held = holder.held; at = there.1; holds = holder.holds; is = holder.is },
    ))
    (at_set views seat other now holder.view holder.at)

-- if a view changes and holds what it held, all holders stay
pub holder_kept : (views : List View) (seat other place : ℕ) (before now : View)
    → get_elem? views seat ≡ some before → now.held ≡ before.held
    → IsHoldingSeat views other place → IsHoldingSeat (set views seat now) other place
holder_kept views seat other place before now at same holder =
    elim (cases_eq other seat) [
      | inr apart ↦ holder_there views seat other place now apart holder
      | inl here ↦
          let mine : IsHoldingSeat views seat place = subst (λ k. IsHoldingSeat views k place) here holder in
          let has : IsHolderView before place = holder_has_its_view views seat place before at mine in
          subst (λ k. IsHoldingSeat (set views seat now) k place) (sym here)
          (holder_here views seat place before now at
          (record { held = has.held; holds = same ∙ has.holds; is = has.is }))
    ]

pub holder_before : (views : List View) (seat other place : ℕ) (before now : View)
    → get_elem? views seat ≡ some before → now.held ≡ before.held
    → IsHoldingSeat (set views seat now) other place → IsHoldingSeat views other place
holder_before views seat other place before now at same holder =
    ⊎_elim (λ here. let has = here.1 in subst (λ k. IsHoldingSeat views k place) (sym here.0)
    (record { view = before; held = has.held; at = at; holds = sym same ∙ has.holds; is = has.is }))
    (λ there. there.1) (holder_after views seat other place now holder)
