-- What a sink took, if a text is written in parts.
use Rattle.std.proofs.Common.{◌≡◌, ℕ, List, [], ◌++◌, Option, Ok, Err, Result, length, length-append, ap, sym, ◌∙◌}
use Rattle.std.proofs.Common.{append_assoc, arith}
use Rattle.std.specs.Io.KnownBytes.{Appends}
use Rattle.std.specs.Result.{OnErr}
use Rattle.std.proofs.KnownBytes.{Appends-nil, Appends-trans}
use Rattle.outside_io.specs.{AppendsPart}

-- some parts and a strict prefix of the next part are a strict prefix of the whole
pub begins_in_later_capture_piece : (old mid new : Option (List ℕ)) (written part rest whole : List ℕ) → Appends old mid written
    → AppendsPart mid new part → whole ≡ (written ++ part) ++ rest → AppendsPart old new whole
begins_in_later_capture_piece old mid new written part rest whole appended begins joined =
    let front = begins.front in
    let remaining = begins.is_beginning.0 in
    let all : whole ≡ (written ++ front) ++ (remaining ++ rest) =
    joined ∙ append_assoc written part rest
    ∙ ap (λ l. written ++ (l ++ rest)) begins.is_beginning.1
    ∙ ap (λ l. written ++ l) (append_assoc front remaining rest)
    ∙ sym (append_assoc written front (remaining ++ rest)) in
    record {
      front = written ++ front;
      is_beginning = (remaining ++ rest, all);
      cut = omega (
        arith,
        begins.cut,
        ap length joined,
        length-append (written ++ part) rest,
        length-append written part,
        length-append written front,
      );
      appended = Appends-trans old mid new written front appended begins.appended;
    }

-- so is a strict prefix of the first part
pub begins_in_first_capture_piece : (old new : Option (List ℕ)) (part rest whole : List ℕ) → AppendsPart old new part
    → whole ≡ part ++ rest → AppendsPart old new whole
begins_in_first_capture_piece old new part rest whole begins joined =
    begins_in_later_capture_piece old old new [] part rest whole (Appends-nil old) begins joined

-- what holds, holds if there is an error
pub holds_on_capture_piece_error : {T E P : Type 0} (result : Result T E) → P → OnErr result P
holds_on_capture_piece_error (Ok value) holds = tt
holds_on_capture_piece_error (Err error) holds = holds
