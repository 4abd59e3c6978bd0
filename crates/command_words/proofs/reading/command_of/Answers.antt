-- Each command is asked for as its own function says, once the word is known.
use Rattle.std.proofs.Common.{rules}
use Rattle.command_words.proofs.reading.command_of.Goals as goal

pub weigh_command-requires : goal.weigh_command-requires
weigh_command-requires c = rw c.in-Weigh.is at c.requires

pub watch_command-requires : goal.watch_command-requires
watch_command-requires c = rw c.in-Watch.is at c.requires

pub returns-in-Weigh-clause-ok : goal.returns-in-Weigh-clause-ok
returns-in-Weigh-clause-ok c = rw c.in-Weigh.is (search rules)

pub returns-in-Weigh-clause-err : goal.returns-in-Weigh-clause-err
returns-in-Weigh-clause-err c = rw c.in-Weigh.is (search rules)

pub returns-in-Report-clause-ok : goal.returns-in-Report-clause-ok
returns-in-Report-clause-ok c = rw c.in-Report.is (search rules)

pub returns-in-Report-clause-err : goal.returns-in-Report-clause-err
returns-in-Report-clause-err c = rw c.in-Report.is (search rules)

pub returns-in-Format-clause-ok : goal.returns-in-Format-clause-ok
returns-in-Format-clause-ok c = rw c.in-Format.is (search rules)

pub returns-in-Format-clause-err : goal.returns-in-Format-clause-err
returns-in-Format-clause-err c = rw c.in-Format.is (search rules)

pub returns-in-Audit-clause-ok : goal.returns-in-Audit-clause-ok
returns-in-Audit-clause-ok c = rw c.in-Audit.is (search rules)

pub returns-in-Audit-clause-err : goal.returns-in-Audit-clause-err
returns-in-Audit-clause-err c = rw c.in-Audit.is (search rules)

pub returns-in-Make-clause-ok : goal.returns-in-Make-clause-ok
returns-in-Make-clause-ok c = rw c.in-Make.is (search rules)

pub returns-in-Make-clause-err : goal.returns-in-Make-clause-err
returns-in-Make-clause-err c = rw c.in-Make.is (search rules)

pub returns-in-Demo-clause-ok : goal.returns-in-Demo-clause-ok
returns-in-Demo-clause-ok c = rw c.in-Demo.is (search rules)

pub returns-in-Demo-clause-err : goal.returns-in-Demo-clause-err
returns-in-Demo-clause-err c = rw c.in-Demo.is (search rules)

pub returns-in-Watch-clause-ok : goal.returns-in-Watch-clause-ok
returns-in-Watch-clause-ok c = rw c.in-Watch.is (search rules)

pub returns-in-Watch-clause-err : goal.returns-in-Watch-clause-err
returns-in-Watch-clause-err c = rw c.in-Watch.is (search rules)
