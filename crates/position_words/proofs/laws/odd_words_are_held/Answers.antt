use Rattle.position_words.proofs.laws.odd_words_are_held.Goals as goal

pub returns-clause-alone : goal.returns-clause-alone
returns-clause-alone c = λ opening state place seat other kept one two. kept.alone seat other place one two
