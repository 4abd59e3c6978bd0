use Rattle.std.proofs.Common.{arith, rules, map}
use Rattle.key_index.proofs.WalkLemmas.{walk_goes_on, walk_ends}
use Rattle.key_index.proofs.chains.walk_chain.Goals as goal

pub loop-step-init : goal.loop-step-init
loop-step-init g c = record { within = c.requires.second; walk = λ room head backs rank home chains passed. passed }

pub returns-then-mark-eq0-clause-missing : goal.returns-then-mark-eq0-clause-missing
returns-then-mark-eq0-clause-missing g c =
    let keys = map g.T.Keyed.key_of c.args.slots.now in
    λ room head backs rank home chains passed.
    let walk = c.loop-step.invariant.walk room head backs rank home chains passed in
    walk_ends room c.args.links.now backs keys rank home c.args.key head chains c.loop-step.cell c.loop-step._step walk
    (chains.ends c.loop-step.cell walk.live (search (rules, c.if-mark-eq0.true)))

pub loop-step-preserved : goal.loop-step-preserved
loop-step-preserved g c =
    let keys = map g.T.Keyed.key_of c.args.slots.now in
    record {
      within = search rules;
      walk = λ room head backs rank home chains passed.
          walk_goes_on room c.args.links.now backs keys rank home c.args.key head chains c.loop-step.cell c.loop-step._step c.from-mark.result
          (c.loop-step.invariant.walk room head backs rank home chains passed) (search rules) c.if-mark-eq0.false (search rules);
    }

pub returns-clause-missing : goal.returns-clause-missing
returns-clause-missing g c =
    let keys = map g.T.Keyed.key_of c.args.slots.now in
    λ room head backs rank home chains passed.
    let walk = c.loop-step.invariant.walk room head backs rank home chains passed in
    walk_ends room c.args.links.now backs keys rank home c.args.key head chains c.loop-step.cell c.loop-step._step walk
    (omega (arith, walk.left))
