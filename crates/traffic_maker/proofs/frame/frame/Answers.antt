-- An address is its four bytes.
use Rattle.std.proofs.Common.{refl}
use Rattle.traffic_maker.specs.Frame.{frame_bytes}
use Rattle.traffic_maker.proofs.MadeFrameLemmas.{made_frame_address_is_four}
use Rattle.traffic_maker.proofs.frame.frame.Goals as goal

pub returns : goal.returns
unfolding frame_bytes
returns c =
    let source = made_frame_address_is_four c.args.source.now c.told-source in
    let dest = made_frame_address_is_four c.args.dest.now c.told-dest in
    rw (c.write_u32.ensures, c.write_u32-2.ensures, c.write_u16.ensures, source.are, dest.are) refl
