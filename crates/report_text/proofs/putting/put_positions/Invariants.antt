use Rattle.std.proofs.Common.{◌≡◌, ◌≤◌, ◌+◌, ◌*◌, ◌++◌, take, vec_len, vec_capacity}
use Rattle.std.specs.List.{flat_map}
use Rattle.report_text.proofs.TextPartLemmas.{spaced_text_part}
use Rattle.report_text.proofs.putting.put_positions.Given as goal

-- the positions so far, each in 21 bytes at most
abbrev pub invariant-loop-position : goal.invariant-loop-position
invariant-loop-position l = record {
  text : l.text.items ≡ l.initial.text.items ++ flat_map spaced_text_part (take l.position-index l.positions);
  length : vec_len l.text ≤ vec_len l.initial.text + 21 * l.position-index;
  room : vec_capacity l.initial.text ≤ vec_capacity l.text;
}
