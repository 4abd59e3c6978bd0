-- Reading the lines of a report.
use Rattle.std.proofs.Common.{◌≡◌, ℕ, ◌+◌, ◌-◌, ◌*◌, ◌/◌, ◌%◌, ◌<◌, ◌≤◌, List, [], ◌∷◌, ◌++◌, map, length, take}
use Rattle.std.proofs.Common.{All}
use Rattle.std.proofs.Common.{AllPairs}
use Rattle.std.proofs.Common.{Option, Some, None, codes, decimal, refl, sym, ap, subst, arith, length-append}
use Rattle.std.specs.List.{join_with_byte}
use Rattle.std.specs.Cmp.{IsTotalOrder}
use Rattle.std.specs.declared.cmp.Ordering.TheVariants.{Less}
use Rattle.std.proofs.Math.Seq.{length-take-le}
use Rattle.std.proofs.lemmas.List.Elements.{All-push, All-weaker}
use Rattle.std.proofs.lemmas.List.Quantifiers.{all_pairs_push}
use Rattle.prefix_lattice.specs.{PrefixValue, report_order, side_text, address_of}
use Rattle.prefix_lattice.specs.declared.grain.Grain.{Grain}
use Rattle.hhh_report.specs.{AreReportLines, line_limit}
use Rattle.hhh_report.specs.declared.line.Line.{Line as LineValue}
use Rattle.report_text.specs.Session.{words_text, line_words}
use Rattle.report_text.specs.Stages.{listing, done, ComesAfterLast}
use Rattle.report_text.specs.LineCursor.{ReadsLine, ReadsLines}
use Rattle.report_text.specs.declared.line_cursor.LineCursor.{LineCursor}
use Rattle.report_text.specs.declared.session_line.SessionLine.{SessionLine}
use Rattle.report_text.specs.declared.session_line.SessionLine.TheVariants.{Line, Done}
use Rattle.report_text.proofs.SessionPartLemmas.{PrecedesInSessionPart, IsOrderedSessionPart}
use Rattle.report_text.proofs.LineCursorLemmas.{line_reading_one_more}

-- reading a line moves a cursor by its bytes
pub listed_line_takes_bytes : (grain : Grain) (old new : LineCursor) (line : SessionLine) → ReadsLine grain old new line
    → new.at ≡ old.at + length (words_text line)
listed_line_takes_bytes grain old new line reads =
    let text : length (take new.at new.text.now) ≡ length (take old.at old.text.now ++ words_text line) = ap length reads.text in
    omega (
      arith,
      text,
      length-append (take old.at old.text.now) (words_text line),
      length-take-le new.at new.text.now new.within,
      length-take-le old.at old.text.now old.within,
    )

-- by at least one
pub listed_line_moves_on : (grain : Grain) (old new : LineCursor) (line : SessionLine) → ReadsLine grain old new line
    → old.at < new.at
listed_line_moves_on grain old new line reads =
    omega (arith, listed_line_takes_bytes grain old new line reads, length-append (join_with_byte 32 (line_words line)) (10 ∷ []))

-- so fewer bytes remain
pub listed_line_leaves_fewer : (grain : Grain) (old new : LineCursor) (line : SessionLine)
    → ReadsLine grain old new line
    → length new.text.now - new.at < length old.text.now - old.at
listed_line_leaves_fewer grain old new line reads =
    let longer = listed_line_moves_on grain old new line reads in
    let same : length new.text.now ≡ length old.text.now = ap (λ t. length t.now) reads.same in
    omega (arith, longer, same, new.within)

-- a side has at least four bytes: its three dots and its slash
listed_line_dots_and_slash : (a b c d e : List ℕ) → 4 ≤ length ((a ++ 46 ∷ (b ++ 46 ∷ (c ++ 46 ∷ d))) ++ 47 ∷ e)
listed_line_dots_and_slash a b c d e =
    omega (
      arith,
      length-append (a ++ 46 ∷ (b ++ 46 ∷ (c ++ 46 ∷ d))) (47 ∷ e),
      length-append a (46 ∷ (b ++ 46 ∷ (c ++ 46 ∷ d))),
      length-append b (46 ∷ (c ++ 46 ∷ d)),
      length-append c (46 ∷ d),
    )

listed_line_side_is_long : (front : List ℕ) → 4 ≤ length (side_text front)
listed_line_side_is_long front =
    let address = address_of front in
    listed_line_dots_and_slash (decimal (address / 256 / 256 / 256 % 256)) (decimal (address / 256 / 256 % 256))
    (decimal (address / 256 % 256)) (decimal (address % 256)) (decimal (length front))

-- a line with two such sides has at least 17, with its first word, its spaces and its line feed
listed_line_seventeen_bytes : (source dest lo hi : List ℕ) → 4 ≤ length source → 4 ≤ length dest
    → 17 ≤ length ((codes "line" ++ 32 ∷ (source ++ 32 ∷ (dest ++ 32 ∷ (lo ++ 32 ∷ hi)))) ++ 10 ∷ [])
listed_line_seventeen_bytes source dest lo hi source_long dest_long =
    omega (
      arith,
      length-append (codes "line" ++ 32 ∷ (source ++ 32 ∷ (dest ++ 32 ∷ (lo ++ 32 ∷ hi)))) (10 ∷ []),
      length-append source (32 ∷ (dest ++ 32 ∷ (lo ++ 32 ∷ hi))),
      length-append dest (32 ∷ (lo ++ 32 ∷ hi)),
      length-append lo (32 ∷ hi),
    )

-- so the line of a report has at least 17
listed_line_is_long : (line : LineValue) → 17 ≤ length (words_text (Line line))
listed_line_is_long line =
    listed_line_seventeen_bytes (side_text line.prefix.source) (side_text line.prefix.dest) (decimal line.lo) (decimal line.hi)
    (listed_line_side_is_long line.prefix.source) (listed_line_side_is_long line.prefix.dest)

listed_lines_append : (lines : List LineValue) (line : LineValue)
    → map Line (lines ++ line ∷ []) ≡ map Line lines ++ Line line ∷ []
listed_lines_append [] line = refl
listed_lines_append (first ∷ lines) line = ap (λ l. Line first ∷ l) (listed_lines_append lines line)

-- what holds as the lines of a report are read
pub record AreListedLines (grain : Grain) (start cursor : LineCursor) (listed : List LineValue) (last : Option PrefixValue) : Type 0 where
  pub over : (shards : ℕ)
      → ReadsLines grain start cursor (map Line listed) (listing shards 0 None) (listing shards (length listed) last)
  pub room : 17 * length listed ≤ cursor.at
  pub ordered : All IsOrderedSessionPart listed
  pub rising : AllPairs PrecedesInSessionPart listed
  pub after : (prefix : PrefixValue) → ComesAfterLast last prefix
      → All (λ line. report_order line.prefix prefix ≡ Less) listed

-- one more line
pub listed_lines_one_more : (grain : Grain) → IsTotalOrder report_order
    → (start cursor next : LineCursor) (listed : List LineValue)
    (last : Option PrefixValue) (line : LineValue) → AreListedLines grain start cursor listed last
    → ReadsLine grain cursor next (Line line) → ComesAfterLast last line.prefix
    → AreListedLines grain start next (listed ++ line ∷ []) (Some line.prefix)
listed_lines_one_more grain order start cursor next listed last line are reads comes =
    let longer = listed_line_takes_bytes grain cursor next (Line line) reads in
    let long = listed_line_is_long line in
    let room : 17 * length listed ≤ cursor.at = are.room in
    let more : 17 * (length listed + 1) ≤ next.at = omega (arith, longer, long, room) in
    let few : length listed + 1 < line_limit = omega (arith, more, next.within, next.limit) in
    let as_many : length (listed ++ line ∷ []) ≡ length listed + 1 = length-append listed (line ∷ []) in
    record {
      over = λ shards.
          subst (λ l. ReadsLines grain start next l (listing shards 0 None) (listing shards (length (listed ++ line ∷ [])) (Some line.prefix)))
          (sym (listed_lines_append listed line))
          (line_reading_one_more grain start cursor next (map Line listed) (Line line) (listing shards 0 None)
          (listing shards (length listed) last) (listing shards (length (listed ++ line ∷ [])) (Some line.prefix))
          (are.over shards) reads (comes, few, ap (λ n. listing shards n (Some line.prefix)) as_many));
      room = omega (arith, more, as_many);
      ordered = All-push IsOrderedSessionPart listed line are.ordered reads.is_line.ordered;
      rising = all_pairs_push PrecedesInSessionPart listed line are.rising (are.after line.prefix comes);
      after = λ prefix less.
          All-push (λ l. report_order l.prefix prefix ≡ Less) listed line
          (All-weaker (λ l. report_order l.prefix line.prefix ≡ Less) (λ l. report_order l.prefix prefix ≡ Less)
          (λ l before. order.trans l.prefix line.prefix prefix before less) listed (are.after line.prefix comes))
          less;
    }

-- the lines of a report are in order
pub listed_lines_in_order : (grain : Grain) (start cursor : LineCursor) (listed : List LineValue) (last : Option PrefixValue)
    → AreListedLines grain start cursor listed last → AreReportLines listed
listed_lines_in_order grain start cursor listed last are = record {
  few = omega (arith, are.room, cursor.within, cursor.limit);
  ordered = are.ordered;
  rising = are.rising;
}

-- the line after them
pub listed_lines_done : (grain : Grain) (start cursor next : LineCursor) (listed : List LineValue) (last : Option PrefixValue)
    (line : SessionLine) → line ≡ Done → AreListedLines grain start cursor listed last → ReadsLine grain cursor next line → (shards : ℕ)
    → ReadsLines grain start next (map Line listed ++ Done ∷ []) (listing shards 0 None) (done shards)
listed_lines_done grain start cursor next listed last line is_done are reads shards =
    line_reading_one_more grain start cursor next (map Line listed) Done (listing shards 0 None) (listing shards (length listed) last)
    (done shards) (are.over shards) (subst (ReadsLine grain cursor next) is_done reads) refl
