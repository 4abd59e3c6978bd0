use Rattle.std.proofs.Common.{◌≡◌, ◌+◌, ◌*◌, ◌≤◌, [], length, replicate, refl, ap, sym, subst, ◌∙◌, arith, map}
use Rattle.key_index.specs.Entries.{KeyEntries, AreEntered, LeadBelow}
use Rattle.key_index.proofs.EntryLemmas.{entry_parts, entry_of_nothing, entry_zeros_lead, entry_one_more}
use Rattle.key_index.proofs.key_index.enter_all.Goals as goal

pub loop-next-init : goal.loop-next-init
loop-next-init g c =
    let keys = map g.T.Keyed.key_of c.args.slots.now in
    let room = c.args.index.now.room in
    let is : c.clear.new.self ≡ entry_parts room (replicate (5 * room) 0) (replicate (room + 1) 0) (replicate (length c.args.index.now.turned) 0) [] =
    c.clear.ensures in
    record {
      roomy = ap (λ (e : KeyEntries). e.room) is;
      leads = subst (λ (e : KeyEntries). LeadBelow (length c.args.slots.now) e.links e.listed) (sym is)
          (entry_zeros_lead (length c.args.slots.now) (5 * room) 0 refl);
      few = subst (λ (e : KeyEntries). length e.listed ≤ 0) (sym is) (omega arith);
      entered = subst (λ (e : KeyEntries). AreEntered 0 0 keys e) (sym is)
          (entry_of_nothing room keys (replicate (length c.args.index.now.turned) 0));
    }

pub loop-next-preserved : goal.loop-next-preserved
loop-next-preserved g c =
    let keys = map g.T.Keyed.key_of c.args.slots.now in
    let old = c.loop-next.index in
    let place = c.loop-next.next in
    record {
      roomy = c.enter_one.ensures.room ∙ c.loop-next.invariant.roomy;
      leads = c.enter_one.ensures.leads;
      few = omega (arith, c.enter_one.ensures.listed, c.loop-next.invariant.few);
      entered = c.enter_one.ensures.entered (place + 1) (omega arith)
          (entry_one_more place old.room keys old.links old.backs old.listed old.turned c.loop-next.invariant.entered);
    }
