use Rattle.std.proofs.Common.{◌++◌, ◌∷◌, [], ◌∙◌, ap, sym, subst, append_assoc}
use Rattle.std.specs.List.{AllZip}
use Rattle.std.specs.Vec.Iter.{into_iter_items}
use Rattle.std.proofs.lemmas.Slice.Zip.{all_zipped_more}
use Rattle.system_io.specs.{IsUnusedDisk}
use Rattle.hhh.proofs.sites.disks_at.Goals as goal

pub loop-path-preserved : goal.loop-path-preserved
loop-path-preserved c =
    let kept = c.loop-path.invariant in
    let done = c.loop-path.yielded in
    let path = c.in-Some.path in
    let made = c.in_ok-new.ensures in
    let at_path = ap (λ opener. opener.path) made.0 ∙ c.in_ok-store.ensures in (
      kept.0 ∙ ap (λ xs. done ++ xs) c.in-Some.ensures.steps.0
          ∙ sym (append_assoc done (path ∷ []) (into_iter_items c.next.new.self)),
      subst (AllZip IsUnusedDisk (done ++ path ∷ [])) (sym c.in_ok-push.ensures.items)
          (all_zipped_more IsUnusedDisk done c.loop-path.disks.items path _ kept.1 (at_path, made.1, made.4)),
    )
