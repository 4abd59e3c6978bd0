use Rattle.position_words.proofs.SeatLemmas.{seat_stays_after_giving}
use Rattle.position_words.proofs.words.Words.give.Goals as goal

pub returns-clause-seat : goal.returns-clause-seat
returns-clause-seat c =
    seat_stays_after_giving _ _ _ _ _ _ _ c.store.ensures.me c.put_in.ensures.me c.position-position.ensures.position
    c.store.ensures.same c.put_in.ensures.same c.requires.held c.requires.seat
