use Rattle.std.proofs.Common.{◌≡◌, refl, ap, sym, subst, ◌++◌, ◌∷◌, [], ◌∙◌, Ok, append_assoc}
use Rattle.std.specs.List.{AllZip}
use Rattle.std.specs.Vec.Iter.{into_iter_items}
use Rattle.gate_workers.specs.Running.{BringsBack}
use Rattle.gate_workers.specs.declared.gathered.Called.{Called}
use Rattle.gate_workers.proofs.GatheredLemmas.{gathered_one_more_caller}
use Rattle.gate_workers.proofs.callers.brought_back.Goals as goal

pub loop-caller-preserved : goal.loop-caller-preserved
loop-caller-preserved c =
    let kept = c.loop-caller.invariant in
    let done = c.loop-caller.yielded in
    let caller = c.in-Some.caller in
    let one : Called = record { pass = caller.pass; reports = c.in_ok-caller.field-0 } in
    let was : caller.reports ≡ Ok c.in_ok-caller.field-0 = c.in_ok-caller.was in
    let pushed : c.push.new.self.items ≡ c.loop-caller.called.items ++ one ∷ [] = c.in_ok-push.ensures.items in (
      kept.0 ∙ ap (λ xs. done ++ xs) c.in-Some.ensures.steps.0
          ∙ sym (append_assoc done (caller ∷ []) (into_iter_items c.next.new.self)),
      subst (AllZip BringsBack (done ++ caller ∷ [])) (sym pushed)
          (gathered_one_more_caller done c.loop-caller.called.items caller one kept.1 (record { pass = refl; reports = was })),
    )
