use Rattle.command_words.specs.declared.command.Command.TheVariants.{Report}
use Rattle.hhh_engine.proofs.SessionPromiseLemmas.{session_promise_of_run}
use Rattle.hhh_engine.proofs.laws.runs_write_what_begins_a_session.Goals as goal

pub returns : goal.returns
returns g c = λ old new words status settings asked ends.
    session_promise_of_run g.S.Source g.T.Source g.K.Sink g.D.Disk old new words _
    c.arguments_ask_for_one_command.ensures.one g.met.D.Disk.only_now settings asked
    (λ front is. c.sessions_in_part_begin_whole_ones.ensures old.disk new.disk settings (g.D.Disk.reads old.disk)
    (g.S.Source.left old.capture) front
    (c.arguments_ask_for_one_command.ensures.limited words (Report settings) asked).1 is)
    status ends
