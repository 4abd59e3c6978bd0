use Rattle.std.proofs.Common.{ap, sym, ◌∙◌, arith}
use Rattle.position_words.specs.View.{after_join}
use Rattle.position_words.specs.Seat.{slots_out}
use Rattle.position_words.proofs.SeatLemmas.{is_seat}
use Rattle.position_words.proofs.AllowedStepLemmas.{join_step_is_allowed}
use Rattle.position_words.proofs.TrailLemmas.{length_of_joined_trails}
use Rattle.position_words.proofs.words.Words.join.Goals as goal

pub join_seat-requires : goal.join_seat-requires
join_seat-requires c =
    let table = c.self.inside.table.shared in
    let seat = c.args.seat.now in
    let other = c.args.other in (
      c.requires.seat.id ∙ sym (ap (λ w. w.id) c.self.view_is),
      c.requires.other.id ∙ sym (ap (λ w. w.id) c.self.view_is),
      c.requires.other.slot ∙ ap slots_out c.requires.other_free,
      omega (arith, c.self.invariant.0, c.self.invariant.2.some),
      join_step_is_allowed table.key.value.items seat.id other.id seat.me.0 other.me.0 c.requires.seat.live
          c.requires.other.live c.requires.other_free,
    )

pub returns-clause-seat : goal.returns-clause-seat
returns-clause-seat c =
    let before = c.args.seat.now in
    let join = c.join_seat.ensures in
    let seat = c.requires.seat in
    is_seat c.args.self.now c.join_seat.new.seat (after_join before.me.0 c.args.other.me.0) before.me.1
    (join.0 ∙ seat.id) join.2 seat.opening
    (length_of_joined_trails before.me.0.trails c.args.other.me.0.trails ∙ seat.trails) seat.live seat.slot
