-- The audit of the session that `report` writes.
use Rattle.std.proofs.Common.{◌≡◌, ℕ, List}
use Rattle.std.proofs.Common.{All, get_or, subst}
use Rattle.prefix_lattice.specs.{RecordValue}
use Rattle.deal_rules.specs.{IsDealing}
use Rattle.frame_records.specs.{AreRecordsOf, FileGives}
use Rattle.frame_records.specs.declared.records.Records.{Records}
use Rattle.frame_records.specs.declared.weigh.Weigh.{Weigh}
use Rattle.hhh_report.specs.{IsSound}
use Rattle.hhh_report.specs.declared.reports.Reported.{Reported}
use Rattle.command_words.specs.declared.settings.Settings.{Settings}
use Rattle.session_audit.specs.{IsAuditedSound}
use Rattle.dealt_capture.specs.{AreDealtRecords, DealingRules}

-- records that are dealt for some settings are dealt for all that agree on this
pub own_session_is_dealt_alike : (settings other : Settings) (rules : DealingRules) (file : List ℕ) (records : Records)
    (lists : List (List RecordValue)) → settings.shards ≡ other.shards → settings.deal ≡ other.deal
    → settings.weigh ≡ other.weigh → settings.front ≡ other.front → AreDealtRecords settings rules file records lists
    → AreDealtRecords other rules file records lists
own_session_is_dealt_alike settings other rules file records lists shards deal weigh front dealt = record {
  frames = dealt.frames;
  capture = subst (λ f. FileGives f file dealt.frames records.cut) front dealt.capture;
  are_records = subst (λ (w : Weigh). AreRecordsOf w dealt.frames records) weigh dealt.are_records;
  dealt = subst (λ k. IsDealing k (rules k) other.shards records.list lists) deal
      (subst (λ n. IsDealing settings.deal (rules settings.deal) n records.list lists) shards dealt.dealt);
}

-- its reports are sound for all settings that agree on this
pub own_session_is_sound_alike : (settings other : Settings) (lists : List (List RecordValue)) (reports : List Reported)
    → settings.grain ≡ other.grain → settings.capacity ≡ other.capacity → settings.phi ≡ other.phi
    → All (λ reported. IsSound settings.grain reported.report lists settings.capacity settings.phi) reports
    → All (IsAuditedSound other lists) reports
own_session_is_sound_alike settings other lists reports grain capacity phi sound = λ k d lt.
    subst (λ g. IsSound g (get_or reports k d).report lists other.capacity other.phi) grain
    (subst (λ n. IsSound settings.grain (get_or reports k d).report lists n other.phi) capacity
    (subst (λ n. IsSound settings.grain (get_or reports k d).report lists settings.capacity n) phi (sound k d lt)))
