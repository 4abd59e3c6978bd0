use Rattle.std.proofs.Common.{◌++◌}
use Rattle.std.proofs.KnownBytes.{Consumes-trans}
use Rattle.session_audit.proofs.reading_text.read_text.Goals as goal

pub returns-in_err-count-clause-front : goal.returns-in_err-count-clause-front
returns-in_err-count-clause-front g c =
    let last = c.in_err-count.ensures.front in (
      c.pieces.text.items ++ last.0,
      Consumes-trans (g.T.Source.left c.args.source.now) (g.T.Source.left c.pieces.source)
          (g.T.Source.left c.append_piece.new.source) c.pieces.text.items last.0 c.pieces.invariant.0 last.1,
    )
