use Rattle.std.proofs.Common.{◌≡◌, ◌++◌, ℕ, false, cond, subst}
use Rattle.std.specs.BTreeSet.{contains}
use Rattle.std.specs.BTreeMap.{is_at}
use Rattle.std.specs.Ordering.{nat_cmp}
use Rattle.std.proofs.lemmas.List.{take_all}
use Rattle.watch_rules.specs.RaisedPairs.{raised_by}
use Rattle.watch_rules.proofs.RaisedPairLemmas.{PairLaws, ArePairsTakenOut, pairs_are_taken_out, other_pairs_are_left}
use Rattle.watch_rules.proofs.raised_pairs.forget.Goals as goal

pub loop-alarm-preserved : goal.loop-alarm-preserved
loop-alarm-preserved c = λ pairs coded.
    let laws : PairLaws = record {
      one = c.prefixes_are_ordered.ensures.antisymmetric;
      itself = c.prefixes_are_ordered.ensures.reflexive;
      apart = c.keys_are_of_their_node.ensures.apart;
      sources = c.prefixes_cover_their_own_addresses.ensures.source;
      dests = c.prefixes_cover_their_own_addresses.ensures.dest;
    } in
    pairs_are_taken_out laws pairs c.args.alarms.now c.loop-alarm.alarm-index c.alarm-item.result c.loop-alarm.codes c.remove.new.self
    c.loop-alarm-test.true c.alarm-item.is c.code_of.ensures.prefix
    (subst (λ n. (code : ℕ) → contains nat_cmp c.remove.new.self code
    ≡ cond (is_at (nat_cmp n) code) false (contains nat_cmp c.loop-alarm.codes code)) c.code_of.ensures.value c.remove.ensures.updates.0)
    (c.loop-alarm.invariant pairs coded)

pub returns : goal.returns
returns c = λ pairs coded new.
    other_pairs_are_left c.prefixes_are_ordered.ensures.antisymmetric pairs c.args.alarms.now c.loop-alarm.codes new
    (subst (λ l. ArePairsTakenOut (pairs ++ raised_by c.args.alarms.now) l c.loop-alarm.codes)
    (take_all c.loop-alarm.alarm-index c.args.alarms.now c.loop-alarm-test.false)
    (c.loop-alarm.invariant (pairs ++ raised_by c.args.alarms.now) coded))
