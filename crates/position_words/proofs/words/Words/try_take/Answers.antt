use Rattle.position_words.proofs.SeatLemmas.{seat_stays_after_losing, seat_answer_after_winning}
use Rattle.position_words.proofs.words.Words.try_take.Goals as goal

pub returns-then-is_held-clause-seat : goal.returns-then-is_held-clause-seat
returns-then-is_held-clause-seat c =
    seat_stays_after_losing _ _ _ _ _ _ c.mark-word.ensures.take c.if-is_held.true c.mark-word.ensures.same c.requires.seat

pub returns-clause-take : goal.returns-clause-take
returns-clause-take c =
    seat_answer_after_winning c.args.self.now c.args.seat.now c.mark-word.new.seat c.take_out.new.seat c.args.aim c.args.shard
    c.mark-word.result c.take_out.result c.requires.seat c.requires.free c.mark-word.ensures.take
    c.if-is_held.false c.take_out.ensures.out c.take_out.ensures.me
