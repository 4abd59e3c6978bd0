-- What is found after the last node.
use Rattle.std.proofs.Common.{◌≡◌, ℕ, ◌<◌, ◌≤◌, List, length, get_or, All, Option, sym, ap, ◌∙◌, subst, arith}
use Rattle.std.proofs.lemmas.List.{length-map, get_or-map}
use Rattle.std.proofs.lemmas.Option.{slice_get_within, get_or_from_slice_get}
use Rattle.prefix_lattice.specs.{RecordValue, NodeValue, node_count, node_index, PrefixValue, IsPrefix, node_of_prefix}
use Rattle.prefix_lattice.specs.declared.grain.Grain.{Grain}
use Rattle.prefix_lattice.proofs.NodePlaceLemmas.{node_place_is_small}
use Rattle.hhh_report.specs.declared.line.Line.{Line}
use Rattle.hhh_report.specs.{prefixes_of_lines}
use Rattle.exact_audit.specs.declared.node_sums.Sums.{Sums}
use Rattle.exact_audit.specs.declared.left_out.LeftOut.{LeftOut}
use Rattle.exact_audit.specs.LeftOut.{IsLeftOut}
use Rattle.exact_audit.specs.Findings.{AreSumsBefore, AreSumsOf, IsFirstBefore, IsFirst}
use Rattle.exact_audit.proofs.DepthLemmas.{IsNode-depth}
use Rattle.exact_audit.proofs.LeftOutLemmas.{IsFirst-same_left_out}

-- the node of a prefix has one of the indexes of its grain
finding_node_index_is_small : {grain : Grain} (prefix : PrefixValue) → IsPrefix grain prefix
    → node_index (node_of_prefix grain prefix) < node_count grain
finding_node_index_is_small {grain} prefix is = node_place_is_small (node_of_prefix grain prefix) (IsNode-depth prefix is)

-- a line of lines whose prefixes are of a grain
pub finding_line_is_prefix : {grain : Grain} (lines : List Line) (place : ℕ) (line : Line)
    → All (IsPrefix grain) (prefixes_of_lines lines) → place < length lines → line ≡ get_or lines place line
    → IsPrefix grain line.prefix
finding_line_is_prefix {grain} lines place line prefixes within at =
    subst (IsPrefix grain)
    (get_or-map (λ (l : Line). l.prefix) lines place line line.prefix within ∙ ap (λ (l : Line). l.prefix) (sym at))
    (prefixes place line.prefix (omega (arith, within, length-map {A = Line} lines (λ l. l.prefix))))

-- the sums of the lines of all nodes are those of all lines
pub findings_hold_all_line_sums : {grain : Grain} (lines : List Line) (records : List RecordValue) (index : ℕ)
    (sums : List Sums) → node_count grain ≤ index
    → All (IsPrefix grain) (prefixes_of_lines lines) → AreSumsBefore grain index lines records sums
    → AreSumsOf lines records sums
findings_hold_all_line_sums {grain} lines records index sums last prefixes before = record {
  as_many = before.as_many;
  each = λ place line at.
      let prefix : IsPrefix grain line.prefix =
      finding_line_is_prefix lines place line prefixes (slice_get_within lines place line at)
      (sym (get_or_from_slice_get lines place line line at)) in
      before.each place line at (omega (arith, finding_node_index_is_small line.prefix prefix, last));
}

-- the first prefix left out of all nodes is the first of all prefixes left out
pub findings_leave_out_first : (grain : Grain) (lines : List PrefixValue) (records : List RecordValue) (threshold index : ℕ)
    (found : Option LeftOut)
    → node_count grain ≤ index → IsFirstBefore grain index lines records threshold found
    → IsFirst (IsLeftOut grain lines records threshold) found
findings_leave_out_first grain lines records threshold index found last =
    IsFirst-same_left_out
    (λ prefix weight. IsLeftOut grain lines records threshold prefix weight
    × (node_index (node_of_prefix grain prefix) < index))
    (IsLeftOut grain lines records threshold) found (λ prefix weight met. met.0)
    (λ prefix weight out. (out, omega (arith, finding_node_index_is_small prefix out.is_prefix, last)))

-- a prefix is of a node where it keeps as many bits of both addresses
pub finding_is_of_node : (node : NodeValue) (prefix : PrefixValue) → length prefix.source ≡ node.source_bits
    → length prefix.dest ≡ node.dest_bits → node_of_prefix node.grain prefix ≡ node
finding_is_of_node node prefix source dest =
    let make : ℕ → ℕ → NodeValue = λ s d. record { grain = node.grain; source_bits = s; dest_bits = d } in
    ap (λ s. make s (length prefix.dest)) source ∙ ap (make node.source_bits) dest
