use Rattle.report_text.proofs.CursorLemmas.{cursor_finds_more_bytes}
use Rattle.report_text.proofs.line_cursor.LineCursor.finish.Goals as goal

pub returns-then-self-clause-err : goal.returns-then-self-clause-err
returns-then-self-clause-err c = λ grain session has is. cursor_finds_more_bytes grain c.args.self.now session has is c.if-self.true
