use Rattle.std.proofs.Common.{refl, subst}
use Rattle.sha2.specs.Hashers.{Holds256}
use Rattle.checkpoint.specs.Digest.{record_bytes}
use Rattle.checkpoint.proofs.NextValueLemmas.{spelling_of_next_value}
use Rattle.checkpoint.proofs.digest.hash_records.Goals as goal

pub loop-place-preserved : goal.loop-place-preserved
loop-place-preserved c = λ text holds.
    subst (Holds256 c.hash_record.new.hasher)
    (spelling_of_next_value record_bytes text _ _ c.args.list.now c.loop-place.place c.at.result.now c.at.ensures refl refl)
    (c.hash_record.ensures _ (c.loop-place.invariant text holds))
