use Rattle.std.proofs.Common.{◌≡◌, ◌+◌, [], ◌∷◌, ◌++◌, take, sym, ap, ◌∙◌, subst, append_assoc}
use Rattle.std.proofs.lemmas.List.{take_more, take_all}
use Rattle.prefix_lattice.specs.{RecordValue}
use Rattle.exact_audit.specs.NodeSums.{AreCountedIn}
use Rattle.exact_audit.proofs.CountedRecordLemmas.{AreCountedIn-push}
use Rattle.exact_audit.proofs.counted.push_counted.Goals as goal

pub loop-rec-preserved : goal.loop-rec-preserved
loop-rec-preserved c = λ prefixes before coded are.
    let records = c.args.records.now in
    let index = c.loop-rec.rec-index in
    let rec = c.rec-item.result in
    let more : (before ++ take index records) ++ rec ∷ [] ≡ before ++ take (index + 1) records =
    append_assoc before (take index records) (rec ∷ [])
    ∙ ap (λ rs. before ++ rs)
    (ap (λ (r : RecordValue). take index records ++ r ∷ []) c.rec-item.is
    ∙ sym (take_more records index rec c.loop-rec-test.true)) in
    subst (λ rs. AreCountedIn c.args.grain prefixes rs c.push.new.self.items) more
    (subst (AreCountedIn c.args.grain prefixes ((before ++ take index records) ++ rec ∷ [])) (sym c.in_ok-push.ensures.items)
    (AreCountedIn-push prefixes (before ++ take index records) c.loop-rec.counted.items
    (record { rec = rec; depths = c.of-depths.result }) (c.of-depths.ensures prefixes coded)
    (c.loop-rec.invariant prefixes before coded are)))

pub returns : goal.returns
returns c = λ prefixes before coded are.
    subst (λ rs. AreCountedIn c.args.grain prefixes (before ++ rs) c.loop-rec.counted.items)
    (take_all c.loop-rec.rec-index c.args.records.now c.loop-rec-test.false)
    (c.loop-rec.invariant prefixes before coded
    (subst (AreCountedIn c.args.grain prefixes before) (sym c.in_ok-reserve.ensures.items) are))
