use Rattle.std.proofs.lemmas.Result.{IfOk-weaker}
use Rattle.hhh.proofs.runs.run_named.Goals as goal

pub returns-clause-ends : goal.returns-clause-ends
returns-clause-ends g c =
    IfOk-weaker c.run_to_end.result _ _ (λ code ends. record {
      status = ends.0;
      runs = record {
        paths = c.in_ok-paths.paths;
        begun = c.in_ok-streams.streams;
        ended = c.run_to_end.new.streams;
        of_words = c.in_ok-paths.ensures;
        unused = c.in_ok-streams.ensures;
        ends = ends.1;
      };
      number = ends.2;
      told = ends.3;
    }) c.run_to_end.ensures.ends
