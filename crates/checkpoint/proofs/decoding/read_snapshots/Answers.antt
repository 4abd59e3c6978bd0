use Rattle.std.proofs.Common.{◌≡◌, ◌∙◌, ◌+◌, ◌<◌, ◌++◌, ◌∷◌, [], List, length, take, ap, sym, subst, arith}
use Rattle.std.specs.List.{flat_map}
use Rattle.std.proofs.lemmas.List.{length-set, take_more_set}
use Rattle.std.proofs.lemmas.Result.{err_from_is_err_and}
use Rattle.shard_state.specs.{CutValue, SnapshotValue}
use Rattle.checkpoint.specs.Header.{settings_shape}
use Rattle.checkpoint.specs.Body.{snapshot_bytes}
use Rattle.checkpoint.specs.Decoding.{ListFits, BeginsWith, SnapshotFits}
use Rattle.checkpoint.proofs.DecodeFaultLemmas.{decode_fault_is_same}
use Rattle.checkpoint.proofs.PrefixFreeLemmas.{snapshots_are_prefix_free}
use Rattle.checkpoint.proofs.SettingsLemmas.{settings_capacity_is_small}
use Rattle.checkpoint.proofs.ReadListLemmas.{read_list_grows, read_list_has_too_few}
use Rattle.checkpoint.proofs.decoding.read_snapshots.Goals as goal

pub returns-in_err-snapshot-clause-damaged : goal.returns-in_err-snapshot-clause-damaged
returns-in_err-snapshot-clause-damaged c =
    let p = err_from_is_err_and c.from_residual-in_err-snapshot.result c.from_residual-in_err-snapshot.ensures.1 in
    let shape = settings_shape c.args.settings.now in
    let most = settings_capacity_is_small shape.grain shape.capacity c.requires.most in
    rw (p.1, p.2) (λ is.
    read_list_has_too_few snapshot_bytes (SnapshotFits shape) (snapshots_are_prefix_free shape most) c.args.bytes.now
    c.loop-shard.rest.now c.loop-shard.shard c.args.settings.now.shards (take c.loop-shard.shard c.loop-shard.cut.shards)
    c.loop-shard.invariant.2 (omega arith) (c.in_err-snapshot.ensures.damaged (decode_fault_is_same _ _ is)))

pub loop-shard-preserved : goal.loop-shard-preserved
loop-shard-preserved c =
    let shape = settings_shape c.args.settings.now in
    let shards = c.loop-shard.cut.shards in
    let shard = c.loop-shard.shard in
    let within : shard < length shards = omega (arith, c.loop-shard.invariant.0) in
    let are = ap (λ (cut : CutValue). cut.shards) c.put_shard.ensures in
    let front : take (shard + 1) c.put_shard.new.self.shards ≡ take shard shards ++ c.in_ok-snapshot.snapshot ∷ [] =
    ap (take (shard + 1)) are ∙ take_more_set shards shard c.in_ok-snapshot.snapshot within in
    let more = read_list_grows snapshot_bytes (SnapshotFits shape) c.args.bytes.now c.loop-shard.rest.now c.in_ok-snapshot.after.now
    shard (take shard shards) c.in_ok-snapshot.snapshot c.loop-shard.invariant.2 c.in_ok-snapshot.ensures.read in (
      ap length are ∙ length-set shards shard c.in_ok-snapshot.snapshot ∙ c.loop-shard.invariant.0,
      ap (λ (cut : CutValue). cut.shape) c.put_shard.ensures ∙ c.loop-shard.invariant.1,
      subst (λ (l : List SnapshotValue). BeginsWith (flat_map snapshot_bytes) (ListFits (SnapshotFits shape) (shard + 1))
          c.args.bytes.now l
          c.in_ok-snapshot.after.now) (sym front) more,
    )
