use Rattle.std.proofs.Common.{ℕ, List, Option, take, drop, sym, take-append-drop}
use Rattle.std.proofs.KnownBytes.{Appends-kept}
use Rattle.std.specs.Io.KnownBytes.{Appends, Keeps}
use Rattle.outside_io.specs.{IsBeginning}
use Rattle.system_io.proofs.std_sink.written.Goals as goal

-- what was taken and not flushed is a beginning
taken_begins : (old mid new : Option (List ℕ)) (count : ℕ) (bytes : List ℕ) → Appends old mid (take count bytes) → Keeps mid new
    → (front : List ℕ) × IsBeginning front bytes × Appends old new front
taken_begins old mid new count bytes taken kept =
    (take count bytes, (drop count bytes, sym (take-append-drop count bytes)), Appends-kept old mid new (take count bytes) taken kept)

pub returns-in-Err-clause-failed : goal.returns-in-Err-clause-failed
returns-in-Err-clause-failed g c = taken_begins _ _ _ _ _ c.in_ok-count.ensures.appended c.in-Err.ensures.bytes
