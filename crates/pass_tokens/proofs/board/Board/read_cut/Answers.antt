use Rattle.std.proofs.Common.{◌<◌, arith, length}
use Rattle.shard_state.specs.{core_shape}
use Rattle.position_words.specs.{view}
use Rattle.pass_tokens.proofs.PassCutLemmas.{pass_cut_begins_unread, pass_cut_reads_next}
use Rattle.pass_tokens.proofs.board.Board.read_cut.Goals as goal

pub loop-shard-init : goal.loop-shard-init
loop-shard-init g c =
    (c.requires.pass, c.requires.shape, pass_cut_begins_unread c.args.self.now.opening (view c.args.pass.now) c.args.cut.now)

pub loop-shard-preserved : goal.loop-shard-preserved
loop-shard-preserved g c =
    let far = c.loop-shard.invariant in
    let read = c.read.ensures in
    let inside : c.loop-shard.shard < length c.args.self.now.opening =
    omega (arith, c.loop-shard-test.true, c.shards-shard-end.ensures.shards) in (
      read.pass,
      read.shape,
      pass_cut_reads_next c.args.self.now.opening (core_shape c.args.self.now.opening) c.loop-shard.shard
          (view c.args.pass.now) (view c.loop-shard.pass) (view c.read.new.pass) c.args.cut.now c.loop-shard.cut
          c.read.new.cut inside c.requires.shape far.2 read.read,
    )
