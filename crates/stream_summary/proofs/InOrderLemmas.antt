-- Numbers that are in a list, between its other ones.
use Rattle.std.proofs.Common.{◌≡◌, ◌≢◌, ℕ, List, [], ◌∷◌, ◌++◌, take, drop, refl, sym, ap, subst, ◌∙◌, append_assoc}
use Rattle.std.proofs.Common.{suc}
use Rattle.std.specs.List.{All, Contains}
use Rattle.std.proofs.Math.Seq.{split_at}
use Rattle.stream_summary.specs.Ring.{AreDistinct, IsFirstOf, IsIn, IsLastOf}
use Rattle.stream_summary.proofs.NumberLemmas.{number_all_of_middle}

pub in_first : (number : ℕ) (numbers : List ℕ) → IsFirstOf number numbers → IsIn number numbers
in_first number numbers first = record { front = []; back = first.0; is = first.1 }

pub in_last : (number : ℕ) (numbers : List ℕ) → IsLastOf number numbers → IsIn number numbers
in_last number numbers last = record { front = last.0; back = []; is = last.1 }

-- the number behind one that is in the list, and the number before
pub in_behind : (number next : ℕ) (numbers : List ℕ) (there : IsIn number numbers) → IsFirstOf next there.back
    → IsIn next numbers
in_behind number next numbers there first = record {
  front = there.front ++ number ∷ [];
  back = first.0;
  is = there.is ∙ ap (λ back. there.front ++ number ∷ back) first.1
      ∙ sym (append_assoc there.front (number ∷ []) (next ∷ first.0));
}

pub in_ahead : (number before : ℕ) (numbers : List ℕ) (there : IsIn number numbers) → IsLastOf before there.front
    → IsIn before numbers
in_ahead number before numbers there last = record {
  front = last.0;
  back = number ∷ there.back;
  is = there.is ∙ ap (λ front. front ++ number ∷ there.back) last.1
      ∙ append_assoc last.0 (before ∷ []) (number ∷ there.back);
}

pub in_of_contains : (number : ℕ) (numbers : List ℕ) → Contains numbers number → IsIn number numbers
in_of_contains number numbers contained = record {
  front = take contained.0 numbers;
  back = drop (suc contained.0) numbers;
  is = split_at numbers contained.0 number contained.1
      ∙ ap (λ number. take contained.0 numbers ++ number ∷ drop (suc contained.0) numbers) contained.2;
}

pub all_at_in : (P : ℕ → Type 0) (number : ℕ) (numbers : List ℕ) → All P numbers → IsIn number numbers → P number
all_at_in P number numbers all there = number_all_of_middle P there.front number there.back (subst (All P) there.is all)

pub in_more : (other number : ℕ) (numbers : List ℕ) → IsIn other numbers → IsIn other (number ∷ numbers)
in_more other number numbers there = record {
  front = number ∷ there.front;
  back = there.back;
  is = ap (λ numbers. number ∷ numbers) there.is;
}

in_without_split : (other : ℕ) (front : List ℕ) (number : ℕ) (back before after : List ℕ)
    → front ++ number ∷ back ≡ before ++ other ∷ after
    → other ≢ number → IsIn other (front ++ back)
in_without_split other [] number back [] after is apart = absurd (apart cc)
in_without_split other [] number back (first ∷ before) after is apart = record { front = before; back = after; is = cc }
in_without_split other (one ∷ front) number back [] after is apart =
    record {
      front = [];
      back = front ++ back;
      is =
          (let same : one ≡ other = cc in ap (λ one. one ∷ (front ++ back)) same);
    }
in_without_split other (one ∷ front) number back (first ∷ before) after is apart =
    in_more other one (front ++ back)
    (in_without_split other front number back before after
    (let rest : front ++ number ∷ back ≡ before ++ other ∷ after = cc in rest) apart)

-- one that isn't the number stays when the number leaves
pub in_without : (other : ℕ) (front : List ℕ) (number : ℕ) (back : List ℕ) → IsIn other (front ++ number ∷ back)
    → other ≢ number
    → IsIn other (front ++ back)
in_without other front number back there apart = in_without_split other front number back there.front there.back
    there.is apart

in_with_split : (other : ℕ) (front : List ℕ) (number : ℕ) (back before after : List ℕ)
    → front ++ back ≡ before ++ other ∷ after
    → IsIn other (front ++ number ∷ back)
in_with_split other [] number back before after is =
    in_more other number back (record { front = before; back = after; is = is })
in_with_split other (one ∷ front) number back [] after is =
    record {
      front = [];
      back = front ++ number ∷ back;
      is =
          (let same : one ≡ other = cc in ap (λ one. one ∷ (front ++ number ∷ back)) same);
    }
in_with_split other (one ∷ front) number back (first ∷ before) after is =
    in_more other one (front ++ number ∷ back) (in_with_split other front number back before after cc)

-- and stays when the number comes
pub in_with : (other : ℕ) (front : List ℕ) (number : ℕ) (back : List ℕ) → IsIn other (front ++ back)
    → IsIn other (front ++ number ∷ back)
in_with other front number back there = in_with_split other front number back there.front there.back there.is

-- distinct numbers are split in one way around a number
pub order_one_split : (number : ℕ) (front back others rest : List ℕ) → AreDistinct (front ++ number ∷ back)
    → front ++ number ∷ back ≡ others ++ number ∷ rest → (front ≡ others) × (back ≡ rest)
order_one_split number [] back [] rest distinct same = (refl, cc)
order_one_split number [] back (first ∷ others) rest distinct same =
    let is : back ≡ others ++ number ∷ rest = cc in
    absurd (number_all_of_middle (λ other. other ≢ number) others number rest
    (subst (All (λ other. other ≢ number)) is distinct.0) refl)
order_one_split number (one ∷ front) back [] rest distinct same =
    let is : number ≡ one = cc in
    absurd (number_all_of_middle (λ other. other ≢ one) front number back distinct.0 is)
order_one_split number (one ∷ front) back (first ∷ others) rest distinct same =
    let later : (front ≡ others) × (back ≡ rest) = order_one_split number front back others rest distinct.1 cc in
    let begins : one ≡ first = cc in
    (ap (λ front. one ∷ front) later.0 ∙ ap (λ one. one ∷ others) begins, later.1)
