use Rattle.std.proofs.Common.{◌∙◌, take}
use Rattle.std.proofs.lemmas.List.Elements.{All-more, All-weaker}
use Rattle.conditioned_bounds.specs.Numbers.{HasRoomFor}
use Rattle.conditioned_bounds.proofs.numbers.make_room.Goals as goal

pub loop-code-preserved : goal.loop-code-preserved
loop-code-preserved c =
    let codes = c.args.codes.now in
    let at = c.loop-code.code-index in
    record {
      same = λ code. c.make_room_at.ensures.same code ∙ c.loop-code.invariant.same code;
      room =
          All-more (HasRoomFor c.make_room_at.new.kept) codes at 0 c.loop-code-test.true
          (All-weaker (HasRoomFor c.loop-code.kept) (HasRoomFor c.make_room_at.new.kept)
          (λ code roomy. c.make_room_at.ensures.kept code roomy) (take at codes) c.loop-code.invariant.room)
          c.in_ok-make_room_at.ensures.room;
    }
