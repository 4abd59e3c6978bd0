use Rattle.command_words.specs.declared.command.Command.TheVariants.{Report}
use Rattle.hhh_engine.proofs.StorePromiseLemmas.{store_promise_of_run}
use Rattle.hhh_engine.proofs.laws.runs_keep_their_store.Goals as goal

pub returns : goal.returns
returns g c = λ old new words status settings store asked used known ends.
    let law = c.sessions_keep_their_store.ensures in
    store_promise_of_run g.S.Source g.T.Source g.K.Sink g.D.Disk old new words _ c.arguments_ask_for_one_command.ensures.one
    g.met.D.Disk.only_now settings store asked (c.arguments_ask_for_one_command.ensures.limited words (Report settings) asked).0
    used known status ends (record { whole = law.whole; in_part = law.in_part; as_before = law.as_before })
