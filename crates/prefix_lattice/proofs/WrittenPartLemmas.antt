-- Parts of a text that are written one after another.
use Rattle.std.proofs.Common.{◌≡◌, ℕ, ◌+◌, ◌<◌, ◌≤◌, suc, List, [], ◌∷◌, ◌++◌, length, take, drop, set, refl, sym}
use Rattle.std.proofs.Common.{ap, ◌∙◌, arith, length-append, append_assoc, subst, decimal}
use Rattle.std.proofs.lemmas.Slice.{drop-append-drop}
use Rattle.std.proofs.lemmas.List.{take_at, length-take, set_split}
use Rattle.prefix_lattice.specs.PrefixText.{WritesPrefixPart}

-- two parts that are written one after the other are one part
pub written_parts-joined : (old middle new : List ℕ) (start between end : ℕ) (part other : List ℕ) → between ≤ length old
    → WritesPrefixPart old middle start between part → WritesPrefixPart middle new between end other
    → WritesPrefixPart old new start end (part ++ other)
written_parts-joined old middle new start between end part other within first second =
    let front = take start old ++ part in
    let front_length : length front ≡ between =
    omega (arith, length-append (take start old) part, length-take start old, first.ends) in
    let kept : take between middle ≡ front =
    ap (take between) first.written ∙ take_at front (drop between old) between front_length in
    let ends : between ≤ end = omega (arith, second.ends) in
    let behind : drop end middle ≡ drop end old =
    ap (drop end) first.written ∙ drop-append-drop between old front end ends front_length in
    record {
      ends = omega (arith, first.ends, second.ends, length-append part other);
      written = second.written ∙ ap (λ l. l ++ other ++ drop end middle) kept ∙ ap (λ l. front ++ other ++ l) behind
          ∙ ap (λ l. l ++ drop end old) (append_assoc (take start old) part other);
    }

-- one byte is a part
pub written_part-byte : (text : List ℕ) (at byte : ℕ) → at < length text
    → WritesPrefixPart text (set text at byte) at (at + 1) (byte ∷ [])
written_part-byte text at byte within =
    let next : suc at ≡ at + 1 = omega arith in
    record {
      ends = refl;
      written =
          set_split text at byte within ∙ ap (λ k. take at text ++ byte ∷ drop k text) next
          ∙ sym (append_assoc (take at text) (byte ∷ []) (drop (at + 1) text));
    }

-- two sides with a byte between them, from the front of a text
pub written_part-sides : (old middle new : List ℕ) (byte between end : ℕ) (part other : List ℕ) → between < length old
    → length middle ≡ length old
    → WritesPrefixPart old middle 0 between part → WritesPrefixPart (set middle between byte) new (between + 1) end other
    → new ≡ part ++ byte ∷ other ++ drop end old
written_part-sides old middle new byte between end part other within same_length first second =
    let marked = written_part-byte middle between byte (omega arith) in
    let both =
    written_parts-joined middle (set middle between byte) new between (between + 1) end (byte ∷ []) other (omega arith)
    marked second in
    (written_parts-joined old middle new 0 between end part (byte ∷ other) (omega arith) first both).written

-- a written part may be replaced by an equal one
pub written_part-same : (old new : List ℕ) (start end : ℕ) (part same : List ℕ) → part ≡ same
    → WritesPrefixPart old new start end part → WritesPrefixPart old new start end same
written_part-same old new start end part same is writes = subst (λ l. WritesPrefixPart old new start end l) is writes

-- four numbers with a byte between them
pub written_part-numbers : (old one two three new : List ℕ) (mark start first second third end a b c d : ℕ)
    → length one ≡ length old → length two ≡ length old
    → start + length (decimal a ++ mark ∷ (decimal b ++ mark ∷ (decimal c ++ mark ∷ decimal d))) ≤ length old
    → WritesPrefixPart old one start first (decimal a) → WritesPrefixPart one two first second (mark ∷ decimal b)
    → WritesPrefixPart two three second third (mark ∷ decimal c) → WritesPrefixPart three new third end (mark ∷ decimal d)
    → WritesPrefixPart old new start end (decimal a ++ mark ∷ (decimal b ++ mark ∷ (decimal c ++ mark ∷ decimal d)))
written_part-numbers old one two three new mark start first second third end a b c d same_one same_two room writes_a
    writes_b writes_c writes_d =
    let behind_c = mark ∷ decimal d in
    let behind_b = mark ∷ (decimal c ++ behind_c) in
    let behind_a = mark ∷ (decimal b ++ behind_b) in
    let lengths : (first ≤ length old) × (second ≤ length old) × (third ≤ length old) = (
      omega (arith, writes_a.ends, length-append (decimal a) behind_a),
      omega (
        arith,
        writes_a.ends,
        writes_b.ends,
        length-append (decimal a) behind_a,
        length-append (decimal b) behind_b,
      ),
      omega (
        arith,
        writes_a.ends,
        writes_b.ends,
        writes_c.ends,
        length-append (decimal a) behind_a,
        length-append (decimal b) behind_b,
        length-append (decimal c) behind_c,
      ),
    ) in
    let writes_cd =
    written_parts-joined two three new second third end (mark ∷ decimal c) behind_c (omega arith) writes_c writes_d in
    let writes_bd =
    written_parts-joined one two new first second end (mark ∷ decimal b) behind_b (omega arith) writes_b writes_cd in
    written_parts-joined old one new start first end (decimal a) behind_a lengths.0 writes_a writes_bd
