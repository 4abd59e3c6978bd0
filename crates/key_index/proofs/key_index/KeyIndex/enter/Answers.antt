use Rattle.std.proofs.Common.{length, map, arith}
use Rattle.std.proofs.lemmas.List.{length-map}
use Rattle.key_index.proofs.EntryLemmas.{entry_list_is_short}
use Rattle.key_index.proofs.key_index.KeyIndex.enter.Goals as goal

pub enter_one-requires-clause-memory : goal.enter_one-requires-clause-memory
enter_one-requires-clause-memory g c =
    let keys = map g.T.Keyed.key_of c.args.slots.now in
    let old = c.args.self.now in
    let holds = c.requires.others in
    let long = length-map c.args.slots.now g.T.Keyed.key_of in
    let short = entry_list_is_short (length keys) c.args.place old.room keys old.links old.backs old.listed old.turned
    (omega (arith, long, c.requires.within)) holds.entered in
    omega (arith, short, holds.few)
