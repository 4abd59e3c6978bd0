use Rattle.space_saving.proofs.TableStepLemmas.{IsTable-step, table_total-table_step}
use Rattle.space_saving.proofs.laws.steps_leave_a_table.Goals as goal

pub returns-clause-table : goal.returns-clause-table
returns-clause-table c = IsTable-step

pub returns-clause-total : goal.returns-clause-total
returns-clause-total c = table_total-table_step
