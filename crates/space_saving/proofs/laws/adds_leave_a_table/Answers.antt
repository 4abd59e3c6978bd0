use Rattle.space_saving.proofs.AddsLemmas.{IsTable-after_adds, total_of_adds}
use Rattle.space_saving.proofs.laws.adds_leave_a_table.Goals as goal

pub returns-clause-table : goal.returns-clause-table
returns-clause-table c = IsTable-after_adds

pub returns-clause-total : goal.returns-clause-total
returns-clause-total c = total_of_adds
