use Rattle.std.proofs.Common.{◌≡◌, ◌++◌, ◌∙◌, ℕ, true, cond, sym, subst}
use Rattle.std.specs.BTreeSet.{contains}
use Rattle.std.specs.BTreeMap.{is_at}
use Rattle.std.specs.Ordering.{nat_cmp}
use Rattle.std.proofs.lemmas.List.{take_all}
use Rattle.watch_rules.specs.RaisedPairs.{AreCoded, raised_by}
use Rattle.watch_rules.proofs.RaisedPairLemmas.{PairLaws, pairs_are_entered, pair_was_entered}
use Rattle.watch_rules.proofs.raised_pairs.enter.Goals as goal

pub loop-place-preserved : goal.loop-place-preserved
loop-place-preserved c = λ pairs coded.
    let laws : PairLaws = record {
      one = c.prefixes_are_ordered.ensures.antisymmetric;
      itself = c.prefixes_are_ordered.ensures.reflexive;
      apart = c.keys_are_of_their_node.ensures.apart;
      sources = c.prefixes_cover_their_own_addresses.ensures.source;
      dests = c.prefixes_cover_their_own_addresses.ensures.dest;
    } in
    let entered = pair_was_entered _ _ (sym c.is_err.ensures.value ∙ c.if-is_err.false) c.insert.ensures.updates in
    pairs_are_entered laws pairs c.args.alarms.now c.loop-place.place c.index-alarms-place.result c.loop-place.codes c.insert.new.self
    c.loop-place-test.true c.index-alarms-place.is c.code_of.ensures.prefix
    (subst (λ n. (code : ℕ) → contains nat_cmp c.insert.new.self code
    ≡ cond (is_at (nat_cmp n) code) true (contains nat_cmp c.loop-place.codes code)) c.code_of.ensures.value entered.0)
    (c.loop-place.invariant pairs coded)

pub returns-clause-ok : goal.returns-clause-ok
returns-clause-ok c = λ pairs coded.
    subst (λ l. AreCoded (pairs ++ raised_by l) c.loop-place.codes)
    (take_all c.loop-place.place c.args.alarms.now c.loop-place-test.false) (c.loop-place.invariant pairs coded)
