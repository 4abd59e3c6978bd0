-- Worked examples of the text of a watch, by computing.
use Rattle.std.proofs.Common.{◌≡◌, [], ◌∷◌, codes, refl, sym, arith}
use Rattle.std.specs.Fmt.{digits}
use Rattle.prefix_lattice.specs.{prefix_weight}
use Rattle.prefix_lattice.proofs.Examples.{packet}
use Rattle.watch_rules.proofs.Examples.{alarm, network, of_100, one_alarm_of_two_reports, told}
use Rattle.session_watch.specs.Watch.{IsHeavyAlarm, IsWatchText, alarm_line, watch_text}

pub line_of_an_alarm : alarm_line alarm ≡ codes "alarm 1 10.0.0.0/8 20.0.0.0/8 100 1\n"
unfolding digits
line_of_an_alarm = refl

pub text_of_no_alarm : watch_text [] ≡ codes "alarms 0\nend\n"
unfolding digits
text_of_no_alarm = refl

pub text_of_one_alarm : watch_text (alarm ∷ []) ≡ codes "alarm 1 10.0.0.0/8 20.0.0.0/8 100 1\nalarms 1\nend\n"
unfolding digits
text_of_one_alarm = refl

-- the second of two equal reports raises nothing
pub watch_of_two_reports : IsWatchText (λ lo hi limit severity. severity ≡ 1) of_100 (told ∷ told ∷ [])
    (codes "alarm 1 10.0.0.0/8 20.0.0.0/8 100 1\nalarms 1\nend\n")
watch_of_two_reports = record {
  alarms = alarm ∷ [];
  are_alarms = one_alarm_of_two_reports;
  spelled = sym text_of_one_alarm;
}

-- a packet of 100 bytes of the network makes its alarm one of a heavy prefix
pub alarm_of_a_heavy_network : IsHeavyAlarm 100 ((packet ∷ []) ∷ []) (told ∷ told ∷ []) alarm
alarm_of_a_heavy_network =
    let weight : prefix_weight network (packet ∷ []) ≡ 100 = refl in
    record { reported = told; first = omega arith; of_report = refl; heavy = omega (arith, weight) }
