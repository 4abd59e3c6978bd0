use Rattle.std.proofs.Common.{◌<◌, length, sym, ap, ◌∙◌, subst, arith}
use Rattle.std.specs.Prelude.{slice_set, vec_capacity}
use Rattle.std.proofs.lemmas.Option.{IfSome_then}
use Rattle.stream_summary.specs.Buckets.{keys_of}
use Rattle.stream_summary.proofs.ArenaLemmas.{arena_entry_is_within}
use Rattle.stream_summary.proofs.ReplacedEntryLemmas.{replaced, replaced_taken_is_apart}
use Rattle.stream_summary.proofs.arena.Arena.replace.Goals as goal

pub put_in-requires-clause-within : goal.put_in-requires-clause-within
put_in-requires-clause-within c =
    subst (λ v. c.args.number.0 < length v.items) (sym c.take_out-from.ensures.slots)
    (arena_entry_is_within c.args.self.now c.args.number.0 c.requires.arena c.requires.stands)

pub put_in-requires-clause-apart : goal.put_in-requires-clause-apart
put_in-requires-clause-apart c = replaced_taken_is_apart c.args.number.0 c.args.self.now c.take_out-from.new.self
    c.requires.arena c.take_out-from.ensures.taken

pub put_in-requires-clause-below : goal.put_in-requires-clause-below
put_in-requires-clause-below c = IfSome_then c.take_out-from.result c.take_out-from.ensures.below (λ b low. omega (arith, low, c.requires.rises))

pub returns-clause-replaced : goal.returns-clause-replaced
returns-clause-replaced c = replaced c.args.number.0 c.args.entry c.args.self.now c.take_out-from.new.self c.put_in.new.self c.requires.arena
    c.take_out-from.ensures.taken c.put_in.ensures.put

pub returns-clause-keys : goal.returns-clause-keys
returns-clause-keys c = c.put_in.ensures.keys ∙ ap (λ v. slice_set (keys_of v.items) c.args.number.0 c.args.entry.key) c.take_out-from.ensures.slots

pub returns-clause-memory : goal.returns-clause-memory
returns-clause-memory c = c.put_in.ensures.memory ∙ ap vec_capacity c.take_out-from.ensures.slots
