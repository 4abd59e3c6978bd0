use Rattle.std.proofs.Common.{take, refl, sym, subst, ap, ◌∙◌, arith, not}
use Rattle.std.proofs.lemmas.List.{take_all}
use Rattle.std.proofs.lemmas.List.Elements.{All-more, All-same}
use Rattle.std.proofs.lemmas.Option.{get_or_from_slice_get}
use Rattle.prefix_lattice.specs.{IsPrefixKey}
use Rattle.space_saving.specs.declared.entry.Entry.{Entry}
use Rattle.shard_state.proofs.snapshot_parts.has_keys_of.Goals as goal

pub loop-place-preserved : goal.loop-place-preserved
loop-place-preserved c =
    let entries = c.args.table.now.entries in
    let entry = c.entry.result in
    All-more (λ (e : Entry). IsPrefixKey c.args.node e.key) entries c.loop-place.place entry (omega arith) c.loop-place.invariant
    (subst (λ (e : Entry). IsPrefixKey c.args.node e.key) (sym (get_or_from_slice_get entries c.loop-place.place entry entry c.entry.ensures.entry))
    (c.from_key.ensures.accepted.0 (c.is_none.ensures ∙ ap not c.if-is_none.false)))

pub returns : goal.returns
returns c = (
  λ _. All-same (λ (e : Entry). IsPrefixKey c.args.node e.key) c.args.table.now.entries (take c.loop-place.place c.args.table.now.entries)
      (sym (take_all c.loop-place.place c.args.table.now.entries (omega arith))) c.loop-place.invariant,
  λ _. refl,
)
