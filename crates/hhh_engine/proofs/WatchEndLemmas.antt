-- How a watch of a session ended, step by step.
use Rattle.std.proofs.Common.{◌≡◌, ℕ, List, Option, IfSome, inl, inr, refl, ap}
use Rattle.std.specs.Io.KnownBytes.{Appends, IsAtEnd}
use Rattle.outside_io.specs.{AppendsPart, FaultRose}
use Rattle.outside_io.specs.declared.sink.Sink.{Ghosts as SinkOf}
use Rattle.prefix_lattice.specs.declared.grain.Grain.{Grain}
use Rattle.watch_rules.specs.declared.rule.Rule.{Rule}
use Rattle.session_watch.specs.{IsWatchOf}
use Rattle.session_audit.specs.{HasNoBytes}
use Rattle.hhh_engine.specs.Answer.{IsUnfinished}
use Rattle.hhh_engine.specs.Ending.{course, Ends, faults_of_source}
use Rattle.hhh_engine.specs.Inputs.{InputBytes}
use Rattle.hhh_engine.specs.Reading.{HasNoWatch}
use Rattle.hhh_engine.specs.Rules.{JudgingRule}
use Rattle.hhh_engine.specs.Tasks.{watch_task}
use Rattle.hhh_engine.proofs.CaptureReportLemmas.{capture_report_if_known}
use Rattle.run_status.specs.declared.status.Status.{Status}
use Rattle.run_status.specs.declared.status.Status.TheVariants.{Done, BadWords, BadCapture, ReadFault, WriteFault}
use Rattle.run_status.specs.declared.status.Status.TheVariants.{DiskFault, NotFormatted, Damaged, OtherSettings}
use Rattle.run_status.specs.declared.status.Status.TheVariants.{OtherCapture, AuditNo, BadReport, OutOfMemory}

-- a watch by this rule and judge, over this text
module _ {K : Type 0} (k : SinkOf K) (rule : Rule) (grain : Grain) (judging : JudgingRule) (read : InputBytes)
    (capture : Option (List ℕ)) (other before now : ℕ) (sink written : K) where
  abbrev pub EndsWatch : Status → Type 0
  EndsWatch =
      Ends (watch_task rule grain judging read)
      (course k capture (faults_of_source other before) (faults_of_source other now) sink written)

  -- its text was written
  pub watch_ends_as_written : (text : List ℕ) → IfSome read.text (λ session. IsWatchOf judging rule grain session text)
      → IsAtEnd read.text_left → now ≡ before → Appends (k.taken sink) (k.taken written) text
      → k.faults written ≡ k.faults sink → EndsWatch Done
  watch_ends_as_written text is_text at_end same appended same_sink = (
    at_end,
    record { text = text; is_text = is_text; written = appended },
    ap (faults_of_source other) same,
    same_sink,
  )

  -- its text was not written whole
  pub watch_ends_broken_off : (text : List ℕ) → IfSome read.text (λ session. IsWatchOf judging rule grain session text)
      → IsAtEnd read.text_left → now ≡ before → AppendsPart (k.taken sink) (k.taken written) text
      → FaultRose (k.faults sink) (k.faults written) → EndsWatch WriteFault
  watch_ends_broken_off text is_text at_end same begun rose = (
    at_end,
    record {
      text = begun.front;
      is_text = capture_report_if_known read.text (λ session. IsWatchOf judging rule grain session text)
          (λ session. IsUnfinished (IsWatchOf judging rule grain session) begun.front)
          (λ session is. record { text = text; is_text = is; begins = begun.is_beginning; cut = begun.cut }) is_text;
      written = begun.appended;
    },
    rose,
    ap (faults_of_source other) same,
  )

-- a watch whose text was not accepted
pub watch_ends_without_text : {K : Type 0} (k : SinkOf K) (rule : Rule) (grain : Grain) (judging : JudgingRule) (read : InputBytes)
    (capture : Option (List ℕ)) (other before now : ℕ) (sink : K) (status : Status) → HasNoWatch grain read before now status
    → ((status ≡ ReadFault → ⊥) → now ≡ before) → EndsWatch k rule grain judging read capture other before now sink sink status
watch_ends_without_text k rule grain judging read capture other before now sink Done none told = absurd none
watch_ends_without_text k rule grain judging read capture other before now sink (BadWords kind) none told = absurd none
watch_ends_without_text k rule grain judging read capture other before now sink (BadCapture fault) none told = absurd none
watch_ends_without_text k rule grain judging read capture other before now sink ReadFault none told = (inr none, refl, tt, refl)
watch_ends_without_text k rule grain judging read capture other before now sink WriteFault none told = absurd none
watch_ends_without_text k rule grain judging read capture other before now sink DiskFault none told = absurd none
watch_ends_without_text k rule grain judging read capture other before now sink NotFormatted none told = absurd none
watch_ends_without_text k rule grain judging read capture other before now sink (Damaged slot) none told = absurd none
watch_ends_without_text k rule grain judging read capture other before now sink (OtherSettings stored asked) none told = absurd none
watch_ends_without_text k rule grain judging read capture other before now sink (OtherCapture stored asked) none told = absurd none
watch_ends_without_text k rule grain judging read capture other before now sink (AuditNo report verdict) none told = absurd none
watch_ends_without_text k rule grain judging read capture other before now sink (BadReport fault) none told =
    (none, refl, tt, ap (faults_of_source other) (told (λ is. cc is)), refl)
watch_ends_without_text k rule grain judging read capture other before now sink OutOfMemory none told =
    (inl (refl, tt), ap (faults_of_source other) (told (λ is. cc is)), refl)

-- why the bytes of a text were not read is why a watch has no text
pub watch_ends_without_bytes : (grain : Grain) (read : InputBytes) (before now : ℕ) (status : Status)
    → HasNoBytes before now status → HasNoWatch grain read before now status
watch_ends_without_bytes grain read before now Done none = absurd none
watch_ends_without_bytes grain read before now (BadWords kind) none = absurd none
watch_ends_without_bytes grain read before now (BadCapture fault) none = absurd none
watch_ends_without_bytes grain read before now ReadFault none = none
watch_ends_without_bytes grain read before now WriteFault none = absurd none
watch_ends_without_bytes grain read before now DiskFault none = absurd none
watch_ends_without_bytes grain read before now NotFormatted none = absurd none
watch_ends_without_bytes grain read before now (Damaged slot) none = absurd none
watch_ends_without_bytes grain read before now (OtherSettings stored asked) none = absurd none
watch_ends_without_bytes grain read before now (OtherCapture stored asked) none = absurd none
watch_ends_without_bytes grain read before now (AuditNo report verdict) none = absurd none
watch_ends_without_bytes grain read before now (BadReport fault) none = absurd none
watch_ends_without_bytes grain read before now OutOfMemory none = tt
