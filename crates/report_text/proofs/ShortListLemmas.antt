-- Short lists that meet what is asked of the lines of a report.
use Rattle.std.proofs.Common.{◌≤◌, [], ◌∷◌, arith}
use Rattle.std.proofs.lemmas.List.Elements.{All-cons}
use Rattle.hhh_report.specs.declared.line.Line.{Line}
use Rattle.hhh_report.specs.{AreReportLines}

-- a line has its low at most at its high
abbrev IsOrderedInShortList : Line → Type 0
IsOrderedInShortList line = line.lo ≤ line.hi

-- no line is in order
pub short_list_of_no_line : AreReportLines []
short_list_of_no_line = record {
  few = omega arith;
  ordered = λ place other within. absurd (omega arith);
  rising = λ place later other before within. absurd (omega arith);
}

-- one line is in order
pub short_list_of_one_line : (line : Line) → line.lo ≤ line.hi → AreReportLines (line ∷ [])
short_list_of_one_line line ordered = record {
  few = omega arith;
  ordered = All-cons IsOrderedInShortList line [] ordered (λ place other within. absurd (omega arith));
  rising = λ place later other before within. absurd (omega arith);
}
