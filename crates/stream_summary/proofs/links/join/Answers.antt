use Rattle.std.proofs.Common.{ap, ◌∙◌, set}
use Rattle.std.proofs.lemmas.List.{map-set}
use Rattle.std.proofs.Math.Seq.{map-set_same}
use Rattle.stream_summary.specs.declared.links.Link.{Link}
use Rattle.stream_summary.proofs.links.join.Goals as goal

pub returns-clause-nexts : goal.returns-clause-nexts
returns-clause-nexts c =
    let once : Link = record { next = c.args.next; before = c.index_mut.result.now.before } in
    let twice : Link = record { next = c.index_mut-2.result.now.next; before = c.args.cell } in
    map-set_same (λ (link : Link). link.next) (set c.args.links.now.items c.args.cell once) c.args.next twice
    c.index_mut-2.result.now
    (ap (λ (link : Link). link.next) c.index_mut-2.ensures.value)
    ∙ map-set (λ (link : Link). link.next) c.args.links.now.items c.args.cell once

pub returns-clause-befores : goal.returns-clause-befores
returns-clause-befores c =
    let once : Link = record { next = c.args.next; before = c.index_mut.result.now.before } in
    let twice : Link = record { next = c.index_mut-2.result.now.next; before = c.args.cell } in
    map-set (λ (link : Link). link.before) (set c.args.links.now.items c.args.cell once) c.args.next twice
    ∙ ap (λ cells. set cells c.args.next c.args.cell)
    (map-set_same (λ (link : Link). link.before) c.args.links.now.items c.args.cell once c.index_mut.result.now
    (ap (λ (link : Link). link.before) c.index_mut.ensures.value))
