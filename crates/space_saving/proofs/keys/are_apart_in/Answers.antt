use Rattle.space_saving.proofs.SortedKeyLemmas.{sorted_keys_rise_if_apart}
use Rattle.space_saving.proofs.keys.are_apart_in.Goals as goal

pub returns : goal.returns
returns c =
    let same =
    sorted_keys_rise_if_apart c.args.entries.now c.write_sorted_keys.new.keys c.write_sorted_keys.ensures.permutation
    c.write_sorted_keys.ensures.sorted in
    (λ so. same.0 (c.rise_strictly.ensures.0 so), λ apart. c.rise_strictly.ensures.1 (same.1 apart))
