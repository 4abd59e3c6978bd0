-- What the line that reports a status leaves in a stream.
use Rattle.std.proofs.Common.{ℕ, List, [], Option, Result, Ok, Err, OnOk, OnErr, sym, append-nil}
use Rattle.std.specs.Io.KnownBytes.{Appends}
use Rattle.outside_io.specs.{AppendsFront, FailsByCount, FaultRose}

-- whatever a write of the line returned, a beginning of it was appended
pub front_is_told : {T E : Type 0} (old new : Option (List ℕ)) (line : List ℕ) (result : Result T E)
    → OnOk result (Appends old new line) → OnErr result (AppendsFront old new line) → AppendsFront old new line
front_is_told old new line (Ok x) whole part = record {
  front = line;
  is_beginning = ([], sym (append-nil line));
  appended = whole;
}
front_is_told old new line (Err e) whole part = part

-- and all of it, unless the stream failed
pub line_is_told : {T E : Type 0} (old new : Option (List ℕ)) (line : List ℕ) (before now : ℕ) (result : Result T E)
    → OnOk result (Appends old new line) → FailsByCount before now result → (FaultRose before now → ⊥)
    → Appends old new line
line_is_told old new line before now (Ok x) whole cause none = whole
line_is_told old new line before now (Err e) whole cause none = absurd (none cause.failed)
