use Rattle.watch_rules.proofs.FormulaLemmas.{formula_alarms_are_one, formula_gives_alarms}
use Rattle.watch_rules.proofs.laws.formulas_give_one_list.Goals as goal

pub returns : goal.returns
returns g c = record {
  by_formula = formula_gives_alarms _;
  one_list = formula_alarms_are_one;
}
