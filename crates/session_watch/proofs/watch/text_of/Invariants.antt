use Rattle.std.proofs.Common.{◌≡◌, take}
use Rattle.std.specs.List.{flat_map}
use Rattle.session_watch.specs.Watch.{alarm_line}
use Rattle.session_watch.proofs.watch.text_of.Given as goal

-- the lines of the alarms so far
abbrev pub invariant-loop-alarm : goal.invariant-loop-alarm
invariant-loop-alarm l = l.text.items ≡ flat_map alarm_line (take l.alarm-index l.alarms)
