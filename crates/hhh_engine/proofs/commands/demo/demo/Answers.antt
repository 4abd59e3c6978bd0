use Rattle.std.proofs.Common.{refl, subst}
use Rattle.std.specs.Io.KnownBytes.{Appends}
use Rattle.outside_io.specs.{AppendsPart}
use Rattle.hhh_engine.proofs.commands.demo.demo.Goals as goal

pub returns-in-Ok-write_all-clause-ends : goal.returns-in-Ok-write_all-clause-ends
returns-in-Ok-write_all-clause-ends g c = λ capture faults. (
  tt,
  record {
    text = c.in-Ok.text.items;
    is_text = c.in-Ok.ensures;
    written =
        subst (Appends (g.K.Sink.taken c.args.sink.now) (g.K.Sink.taken c.write_all.new.sink)) c.deref.ensures.value
        c.in-Ok-write_all.ensures.whole;
  },
  refl,
  c.in-Ok-write_all.ensures.cause.kept,
)

pub returns-clause-ends : goal.returns-clause-ends
returns-clause-ends g c = λ capture faults.
    let begun =
    subst (AppendsPart (g.K.Sink.taken c.args.sink.now) (g.K.Sink.taken c.write_all.new.sink))
    c.deref.ensures.value c.in-Err-write_all.ensures.beginning in (
      tt,
      record {
        text = begun.front;
        is_text = record {
          text = c.in-Ok.text.items;
          is_text = c.in-Ok.ensures;
          begins = begun.is_beginning;
          cut = begun.cut;
        };
        written = begun.appended;
      },
      c.in-Err-write_all.ensures.cause.failed,
      refl,
    )
