-- Reading the first bytes of a source, by calls that each give some.
use Rattle.std.proofs.Common.{ℕ, ◌≡◌, ◌+◌, ◌≤◌, List, ◌++◌, length, take, drop, Option, sym, ap, ◌∙◌, subst}
use Rattle.std.proofs.lemmas.List.{take-append-le, take_all}
use Rattle.std.proofs.Math.Seq.{take-append-add, length-take-le}
use Rattle.std.specs.Io.KnownBytes.{Consumes}
use Rattle.std.proofs.KnownBytes.{Consumes-trans}
use borrow.Rule.Slice.PartMut.{put_mid}

-- the bytes so far, and then those of one more call
first_read_joins : (came count room : ℕ) (held more : List ℕ) → came ≤ length held → count ≤ length more
    → take (came + count) (put_mid came room held more) ≡ take came held ++ take count more
first_read_joins came count room held more fits some =
    ap (λ n. take (n + count) (put_mid came room held more)) (sym (length-take-le came held fits))
    ∙ take-append-add (take came held) (more ++ drop room (drop came held)) count
    ∙ ap (λ l. take came held ++ l) (take-append-le count more (drop room (drop came held)) some)

-- what was read, with the bytes of one more call
pub first_read_goes_on : (left now after : Option (List ℕ)) (came count room : ℕ) (held more : List ℕ) → came ≤ length held
    → count ≤ length more → Consumes left now (take came held) → Consumes now after (take count more)
    → Consumes left after (take (came + count) (put_mid came room held more))
first_read_goes_on left now after came count room held more fits some before then =
    subst (Consumes left after) (sym (first_read_joins came count room held more fits some))
    (Consumes-trans left now after (take came held) (take count more) before then)

-- what was read is all that there is room for
pub first_read_is_whole : (left now : Option (List ℕ)) (came : ℕ) (held : List ℕ) → length held ≤ came
    → Consumes left now (take came held) → Consumes left now held
first_read_is_whole left now came held full read = subst (Consumes left now) (take_all came held full) read
