use Rattle.shard_state.specs.{core_lists}
use Rattle.hhh_output.proofs.laws.reports_of_the_core_are_sound.Goals as goal

pub returns : goal.returns
returns c = λ core events caller cut phi report is_core shapes bases weighed is_cut reads kept wide are_lines is.
    c.reports_are_sound.ensures cut (core_lists core.shards) phi report kept
    (c.runs_stand.ensures core events caller cut is_core shapes bases is_cut reads) weighed wide are_lines is
