-- What a line leaves in a stream, while it is written a piece at a time.
use Rattle.std.proofs.Common.{◌≡◌, ℕ, List, [], ◌++◌, Option, Result, Ok, Err, OnErr, refl, sym, ap, ◌∙◌, append_assoc}
use Rattle.std.proofs.Common.{append-nil, take, drop, subst, take-append-drop}
use Rattle.std.specs.Io.KnownBytes.{Appends}
use Rattle.std.proofs.KnownBytes.{Appends-nil, Appends-trans}
use Rattle.outside_io.specs.{AppendsFront, IsBeginning}

-- a front of the line was appended, and this rest is still to be written
pub record IsWrittenInPart (old new : Option (List ℕ)) (line rest : List ℕ) : Type 0 where
  pub front : List ℕ
  pub joined : line ≡ front ++ rest
  pub appended : Appends old new front

-- nothing is written yet
pub none_is_written : (contents : Option (List ℕ)) (line : List ℕ) → IsWrittenInPart contents contents line line
none_is_written contents line = record { front = []; joined = refl; appended = Appends-nil contents }

-- one more piece is written
pub more_is_written : (old mid new : Option (List ℕ)) (line rest : List ℕ) (count : ℕ)
    → IsWrittenInPart old mid line rest → Appends mid new (take count rest) → (after : List ℕ) → after ≡ drop count rest
    → IsWrittenInPart old new line after
more_is_written old mid new line rest count before took after is_after = subst (IsWrittenInPart old new line) (sym is_after) (record {
  front = before.front ++ take count rest;
  joined =
      before.joined ∙ ap (λ l. before.front ++ l) (sym (take-append-drop count rest))
      ∙ sym (append_assoc before.front (take count rest) (drop count rest));
  appended = Appends-trans old mid new before.front (take count rest) before.appended took;
})

-- all is written
pub all_is_written : (old new : Option (List ℕ)) (line rest : List ℕ) → IsWrittenInPart old new line rest → rest ≡ []
    → Appends old new line
all_is_written old new line rest before empty =
    subst (Appends old new) (sym (before.joined ∙ ap (λ l. before.front ++ l) empty ∙ append-nil before.front)) before.appended

-- a piece of which a beginning was appended, after the front that is written
pub beginning_is_written : (old mid new : Option (List ℕ)) (line rest : List ℕ) → IsWrittenInPart old mid line rest
    → ((front : List ℕ) × IsBeginning front rest × Appends mid new front) → AppendsFront old new line
beginning_is_written old mid new line rest before begun =
    let left = begun.1.0 in
    record {
      front = before.front ++ begun.0;
      is_beginning = (left, before.joined ∙ ap (λ l. before.front ++ l) begun.1.1 ∙ sym (append_assoc before.front begun.0 left));
      appended = Appends-trans old mid new before.front begun.0 before.appended begun.2;
    }

-- what holds whatever was returned, holds after an error
pub written_on_error : {T E P : Type 0} (result : Result T E) → P → OnErr result P
written_on_error (Ok x) holds = tt
written_on_error (Err e) holds = holds
