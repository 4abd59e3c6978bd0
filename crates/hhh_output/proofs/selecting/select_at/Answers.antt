use Rattle.std.proofs.Common.{ℕ, ◌+◌, ◌≤◌, List, length, get_or, AllPairs, ◌≢◌, sym, subst}
use Rattle.std.proofs.lemmas.List.{get_or_default}
use Rattle.cut_merge.specs.{candidates_at}
use Rattle.hhh_output.proofs.NodeLineLemmas.{HasJudgedNodeLines, next_node_line_judged, all_node_lines_judged}
use Rattle.hhh_output.proofs.selecting.select_at.Goals as goal

pub loop-key-preserved : goal.loop-key-preserved
loop-key-preserved c =
    let keys = c.candidates-key-items.result.now in
    let key = get_or keys c.loop-key.key-index 0 in
    let distinct : AllPairs (λ key other. key ≢ other) keys =
    subst (AllPairs (λ (key : ℕ) other. key ≢ other)) (sym c.candidates-key-items.ensures.known)
    (c.requires.candidates.distinct c.args.node c.requires.is_node) in
    subst (λ lines.
    HasJudgedNodeLines c.args.merged.now c.args.threshold c.args.reported.now.lines c.args.node keys
    c.args.found.now.items lines
    (c.loop-key.key-index + 1)) (sym c.in_ok-push_found.ensures)
    (next_node_line_judged c.args.merged.now c.args.threshold c.args.reported.now.lines c.args.node keys
    c.args.found.now.items
    c.loop-key.found.items c.loop-key.key-index key
    c.loop-key.invariant c.requires.is_node.of_grain c.requires.apart distinct c.loop-key-test.true
    (get_or_default keys c.loop-key.key-index 0 key c.loop-key-test.true)
    c.in_ok-line.line c.in_ok-line.ensures.asked c.in_ok-line.ensures.prefix)

pub returns-clause-members : goal.returns-clause-members
returns-clause-members c =
    let keys = c.candidates-key-items.result.now in
    let done : length (candidates_at c.args.merged.now c.args.node) ≤ c.loop-key.key-index =
    subst (λ (ks : List ℕ). length ks ≤ c.loop-key.key-index) c.candidates-key-items.ensures.known
    c.loop-key-test.false in
    all_node_lines_judged c.args.merged.now c.args.threshold c.args.reported.now.lines c.args.node
    c.args.found.now.items
    c.loop-key.found.items c.loop-key.key-index c.requires.is_node.of_grain done
    (subst (λ ks.
    HasJudgedNodeLines c.args.merged.now c.args.threshold c.args.reported.now.lines c.args.node ks
    c.args.found.now.items
    c.loop-key.found.items c.loop-key.key-index) c.candidates-key-items.ensures.known c.loop-key.invariant)
