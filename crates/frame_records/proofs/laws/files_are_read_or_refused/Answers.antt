use Rattle.frame_records.proofs.FrontLemmas.{front_is_decided, front_is_not_refused, front_has_one_cut, front_has_one_list}
use Rattle.frame_records.proofs.FrontLemmas.{front_is_limited}
use Rattle.frame_records.proofs.laws.files_are_read_or_refused.Goals as goal

pub returns-clause-either : goal.returns-clause-either
returns-clause-either c = λ front file. front_is_decided front file (c.any_captures_are_decided.ensures.either file)

pub returns-clause-never_both : goal.returns-clause-never_both
returns-clause-never_both c = front_is_not_refused c.any_captures_are_decided.ensures

pub returns-clause-one_list : goal.returns-clause-one_list
returns-clause-one_list c = front_has_one_list c.any_captures_are_decided.ensures

pub returns-clause-one_cut : goal.returns-clause-one_cut
returns-clause-one_cut c = front_has_one_cut c.any_captures_are_decided.ensures

pub returns-clause-one_fault : goal.returns-clause-one_fault
returns-clause-one_fault c = λ front other file fault other_fault is is_other.
    c.any_captures_are_decided.ensures.one_fault file fault other_fault is.first is_other.first

pub returns-clause-limited : goal.returns-clause-limited
returns-clause-limited c = front_is_limited c.any_captures_are_decided.ensures
