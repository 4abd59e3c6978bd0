use Rattle.std.proofs.Common.{length, ◌≤◌, List, ap, arith}
use Rattle.std.specs.List.{flat_map}
use Rattle.std.proofs.lemmas.List.{length-append, take_all}
use Rattle.prefix_lattice.specs.{node_count}
use Rattle.space_saving.specs.declared.entry.Entry.{Entry}
use Rattle.checkpoint.specs.Numbers.{number_bytes}
use Rattle.checkpoint.specs.Body.{table_bytes}
use Rattle.checkpoint.proofs.NumberBytesLemmas.{length-number_bytes}
use Rattle.checkpoint.proofs.lengths.snapshot_length.Goals as goal

pub returns-clause-is : goal.returns-clause-is
returns-clause-is c =
    let snapshot = c.args.snapshot.now in
    let all : length snapshot.tables ≤ c.loop-index.index = omega
    (arith, c.requires.as_many, c.nodes-index-end.ensures.value, ap node_count c.grain-grain.ensures.grain) in
    omega (
      arith,
      length-append (number_bytes 8 snapshot.position) (flat_map table_bytes snapshot.tables),
      length-number_bytes 8 snapshot.position,
      c.loop-index.invariant.0,
      ap (λ (l : List (List Entry)). length (flat_map table_bytes l)) (take_all c.loop-index.index snapshot.tables all),
    )
