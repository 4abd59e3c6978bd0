use Rattle.std.proofs.Common.{ℕ, List, [], ◌++◌, ap, ◌∙◌}
use Rattle.std.specs.List.{flat_map}
use Rattle.sha2.specs.Sha256.{sha256}
use Rattle.checkpoint.specs.Digest.{header_digest, list_bytes}
use Rattle.checkpoint.proofs.digest.digest_of.Goals as goal

pub returns : goal.returns
unfolding header_digest
returns c =
    c.finalize.ensures _ (c.hash_lists.ensures _ (c.update.ensures [] c.new-hasher.ensures))
    ∙ ap (λ (l : List ℕ). sha256 (l ++ flat_map list_bytes c.args.dealt.now)) c.as_slice.ensures
