-- Worked examples of rules of dealing, for one packet, and of a capture that is cut.
use Rattle.std.proofs.Common.{ℕ, true, false, [], ◌≡◌, Some, None, refl, arith, ◌%◌}
use Rattle.prefix_lattice.specs.{RecordValue}
use Rattle.pcap_frames.proofs.Examples.{cut_file}
use Rattle.frame_records.proofs.ExamplesOfReading.{front_of_a_cut_capture, cut_capture_is_not_whole}
use Rattle.dealt_capture.specs.Dealing.{IsCaptureFile, rules_by}
use Rattle.deal_rules.specs.declared.deal_kind.DealKind.{DealKind}
use Rattle.deal_rules.specs.declared.deal_kind.DealKind.TheVariants.{Free}

-- 100 bytes from 10.1.2.3 to 20.1.2.3
abbrev pub packet : RecordValue
packet = record { src = 0x0a010203; dst = 0x14010203; weight = 100 }

-- each record goes to the shard that the lowest bits of its destination name, whatever the kind
abbrev by_destination : DealKind → ℕ → RecordValue → ℕ → ℕ
by_destination kind place rec shards = rec.dst % shards

pub shard_of_the_packet : rules_by by_destination Free 0 packet 4 3
shard_of_the_packet = refl

-- a formula gives a record one shard alone
pub no_other_shard_of_the_packet : rules_by by_destination Free 0 packet 4 2 → ⊥
no_other_shard_of_the_packet is = omega (arith, is)

-- a capture that is cut inside its first frame is taken where its front is asked for, and else isn't
pub cut_capture_has_a_front : IsCaptureFile true cut_file
cut_capture_has_a_front = ([], Some 24, front_of_a_cut_capture)

pub cut_capture_is_none_unasked : IsCaptureFile false cut_file → ⊥
cut_capture_is_none_unasked (frames, None, is) = cut_capture_is_not_whole false frames is
cut_capture_is_none_unasked (frames, Some place, is) = let asked : false ≡ true = is.0 in cc
