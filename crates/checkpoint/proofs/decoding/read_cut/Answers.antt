use Rattle.std.proofs.Common.{◌∙◌, ap, length, List, ℕ, []}
use Rattle.std.specs.Prelude.{◌==◌}
use Rattle.checkpoint.specs.Header.{settings_shape}
use Rattle.checkpoint.specs.Body.{snapshot_bytes}
use Rattle.checkpoint.specs.Decoding.{SnapshotFits}
use Rattle.checkpoint.proofs.PrefixFreeLemmas.{snapshots_are_prefix_free}
use Rattle.checkpoint.proofs.SettingsLemmas.{settings_capacity_is_small}
use Rattle.checkpoint.proofs.ReadListLemmas.{read_list_is_same}
use Rattle.checkpoint.proofs.decoding.read_cut.Goals as goal

pub returns-then-not-is_empty-clause-damaged : goal.returns-then-not-is_empty-clause-damaged
returns-then-not-is_empty-clause-damaged c = λ is shards begins.
    let shape = settings_shape c.args.settings.now in
    let most = settings_capacity_is_small shape.grain shape.capacity c.requires.most in
    let same = read_list_is_same snapshot_bytes (SnapshotFits shape) (snapshots_are_prefix_free shape most) c.args.bytes.now
    c.in_ok-cut.rest.now [] c.args.settings.now.shards c.in_ok-cut.cut.shards shards c.in_ok-cut.ensures.read begins in
    cc (c.if-not-is_empty.ensures ∙ ap (λ (l : List ℕ). length l == 0) same.1)
