use Rattle.std.proofs.Common.{◌+◌, ◌*◌, ◌∙◌, ap, ap₂, sym}
use Rattle.traffic_maker.specs.Address.{made_address}
use Rattle.traffic_maker.specs.Draws.{draw_from, next_state}
use Rattle.traffic_maker.specs.Frame.{frame_bytes, made_frame}
use Rattle.traffic_maker.proofs.MadeFrameLemmas.{next_draw_for_made_frames, two_draws_per_made_frame}
use Rattle.traffic_maker.proofs.frame.next_frame.Goals as goal

pub returns-clause-made : goal.returns-clause-made
unfolding made_frame
returns-clause-made c = λ seed start.
    let index = c.args.index in
    let first = c.draw.ensures.state ∙ ap next_state start ∙ sym (next_draw_for_made_frames seed (2 * index)) in
    let second = c.draw-2.ensures.state ∙ ap next_state first ∙ sym (next_draw_for_made_frames seed (2 * index + 1)) in
    c.frame.ensures
    ∙ ap₂ (frame_bytes index)
    (c.address-source.ensures ∙ ap (made_address 10) (c.draw.ensures.value ∙ ap draw_from first))
    (c.address-dest.ensures ∙ ap (made_address 20) (c.draw-2.ensures.value ∙ ap draw_from second))

pub returns-clause-drawn : goal.returns-clause-drawn
returns-clause-drawn c = λ seed start.
    c.draw-2.ensures.state ∙ ap next_state (c.draw.ensures.state ∙ ap next_state start) ∙ sym (two_draws_per_made_frame seed c.args.index)
