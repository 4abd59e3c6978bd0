use Rattle.std.proofs.Common.{◌++◌, ℕ, List, length, ap, ◌∙◌, arith}
use Rattle.checkpoint.specs.Numbers.{number_bytes}
use Rattle.checkpoint.proofs.BodyPartLemmas.{body_parts_fit_span, body_is_made_from_parts}
use Rattle.checkpoint.proofs.encoding.encode.Goals as goal

pub returns-clause-body : goal.returns-clause-body
returns-clause-body c =
    body_is_made_from_parts c.args.sequence c.args.digest.now c.args.cut.now c.body_length-length.result c.push_number.new.out.items
    c.push_number-2.new.out.items c.extend_from_slice.new.self.items c.push_snapshots.new.out.items
    c.requires.sequenced c.requires.early (omega arith) c.body_length-length.ensures.kept c.body_length-length.ensures.is
    (c.in_ok-push_number.ensures ∙ ap (λ (l : List ℕ). l ++ number_bytes 8 c.body_length-length.result) c.in_ok-body.ensures.items)
    c.in_ok-push_number-2.ensures c.in_ok-extend_from_slice.ensures.items
    c.in_ok-push_snapshots.ensures.spelled c.in_ok-push_snapshots.ensures.keys

pub returns-clause-fits : goal.returns-clause-fits
returns-clause-fits c =
    body_parts_fit_span (length c.args.cut.now.shards) c.args.cut.now.shape _ c.push_snapshots.new.out.items (returns-clause-body c)
