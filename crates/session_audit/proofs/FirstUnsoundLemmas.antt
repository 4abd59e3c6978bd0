-- The first report of a session that is not sound.
use Rattle.std.proofs.Common.{◌≡◌, ◌<◌, ◌+◌, ℕ, ◌≢◌, List, length, take, get_or, All, Some}
use Rattle.std.proofs.Common.{refl, ◌∙◌, subst, arith}
use Rattle.std.specs.List.{slice_get}
use Rattle.std.proofs.lemmas.Option.{get_or_from_slice_get, slice_get_read, slice_get_within}
use Rattle.std.proofs.lemmas.List.{get_or-take, length-take}
use Rattle.std.proofs.lemmas.List.Elements.{All-get_or, All-more}
use Rattle.prefix_lattice.specs.{RecordValue}
use Rattle.hhh_report.specs.declared.report.Report.{Report}
use Rattle.hhh_report.specs.declared.reports.Reported.{Reported}
use Rattle.exact_audit.specs.{IsVerdict}
use Rattle.exact_audit.specs.declared.verdict.Verdict.{Verdict}
use Rattle.exact_audit.specs.declared.verdict.Verdict.TheVariants.{Good}
use Rattle.command_words.specs.declared.settings.Settings.{Settings}
use Rattle.session_audit.specs.Audit.{IsFirstUnsound, IsAuditedSound}
use Rattle.prefix_lattice.specs.declared.grain.Grain.{Grain}

-- a report has one verdict
abbrev pub FirstUnsoundHasOneVerdict : Type 0
FirstUnsoundHasOneVerdict =
    (grain : Grain) (lists : List (List RecordValue)) (capacity phi : ℕ) (report : Report) (verdict other : Verdict)
    → IsVerdict grain lists capacity phi report verdict → IsVerdict grain lists capacity phi report other → verdict ≡ other

-- what holds of each element holds of the one at an index
pub first_unsound_holds_at_index : {A : Type 0} (P : A → Type 0) (xs : List A) (place : ℕ) (x : A) → slice_get xs place ≡ Some x → All P xs
    → P x
first_unsound_holds_at_index P xs place x is all =
    subst P (get_or_from_slice_get xs place x x is) (All-get_or P xs place x (slice_get_within xs place x is) all)

-- and of the one at an index below the number of the first ones
first_unsound_holds_before : {A : Type 0} (P : A → Type 0) (xs : List A) (before place : ℕ) (x : A) → place < before
    → slice_get xs place ≡ Some x → All P (take before xs) → P x
first_unsound_holds_before P xs before place x early is all =
    subst P (get_or-take before xs place x early ∙ get_or_from_slice_get xs place x x is)
    (All-get_or P (take before xs) place x
    (omega (arith, early, slice_get_within xs place x is, length-take before xs)) all)

-- one more report is sound
pub first_unsound_next_is_sound : (settings : Settings) (lists : List (List RecordValue)) (reports : List Reported) (place : ℕ)
    (reported : Reported) → place < length reports → reported ≡ get_or reports place reported
    → IsAuditedSound settings lists reported → All (IsAuditedSound settings lists) (take place reports)
    → All (IsAuditedSound settings lists) (take (place + 1) reports)
first_unsound_next_is_sound settings lists reports place reported within at sound all =
    All-more (IsAuditedSound settings lists) reports place reported within all
    (subst (IsAuditedSound settings lists) at sound)

-- the next report is the first that is not sound
pub first_unsound_next_is_unsound : (settings : Settings) (lists : List (List RecordValue)) (reports : List Reported) (place : ℕ)
    (reported : Reported) (verdict : Verdict) → place < length reports → reported ≡ get_or reports place reported
    → IsVerdict settings.grain lists settings.capacity settings.phi reported.report verdict → verdict ≢ Good
    → All (IsAuditedSound settings lists) (take place reports)
    → IsFirstUnsound settings lists reports (place + 1) verdict
first_unsound_next_is_unsound settings lists reports place reported verdict within at found not_good sound = record {
  before = place;
  counted = refl;
  reported = reported;
  is = slice_get_read reports (length reports) place reported refl within at;
  found = found;
  not_good = not_good;
  sound = sound;
}

-- a report with another verdict than good is not sound
pub first_unsound_is_not_sound : FirstUnsoundHasOneVerdict → (settings : Settings) (lists : List (List RecordValue)) (reports : List Reported)
    (number : ℕ) (verdict : Verdict) (first : IsFirstUnsound settings lists reports number verdict)
    → IsAuditedSound settings lists first.reported → ⊥
first_unsound_is_not_sound one settings lists reports number verdict first sound =
    first.not_good
    (one settings.grain lists settings.capacity settings.phi first.reported.report verdict Good first.found sound)

-- of two reports that are the first that is not sound, neither comes before the other
first_unsound_is_not_earlier : FirstUnsoundHasOneVerdict → (settings : Settings) (lists : List (List RecordValue)) (reports : List Reported)
    (number later : ℕ) (verdict other : Verdict) (first : IsFirstUnsound settings lists reports number verdict)
    (second : IsFirstUnsound settings lists reports later other) → first.before < second.before → ⊥
first_unsound_is_not_earlier one settings lists reports number later verdict other first second early =
    first_unsound_is_not_sound one settings lists reports number verdict first
    (first_unsound_holds_before (IsAuditedSound settings lists) reports second.before first.before first.reported early first.is second.sound)

-- two at the same index have the same number and the same verdict
first_unsound_at_one_place : FirstUnsoundHasOneVerdict → (settings : Settings) (lists : List (List RecordValue)) (reports : List Reported)
    (number other_number : ℕ) (verdict other : Verdict) (first : IsFirstUnsound settings lists reports number verdict)
    (second : IsFirstUnsound settings lists reports other_number other) → first.before ≡ second.before
    → (other_number ≡ number) × (other ≡ verdict)
first_unsound_at_one_place one settings lists reports number other_number verdict other first second place =
    let is = subst (λ p. slice_get reports p ≡ Some first.reported) place first.is in
    let same : first.reported ≡ second.reported = cc (is, second.is) in (
      omega (arith, first.counted, second.counted, place),
      one settings.grain lists settings.capacity settings.phi second.reported.report other verdict second.found
          (subst (λ (r : Reported). IsVerdict settings.grain lists settings.capacity settings.phi r.report verdict) same first.found),
    )

-- so they are the same report
pub first_unsound_reports_agree : FirstUnsoundHasOneVerdict → (settings : Settings) (lists : List (List RecordValue)) (reports : List Reported)
    (number other_number : ℕ) (verdict other : Verdict) → IsFirstUnsound settings lists reports number verdict
    → IsFirstUnsound settings lists reports other_number other
    → (other_number ≡ number) × (other ≡ verdict)
first_unsound_reports_agree one settings lists reports number other_number verdict other first second =
    let no_less = first_unsound_is_not_earlier one settings lists reports number other_number verdict other first second in
    let no_more = first_unsound_is_not_earlier one settings lists reports other_number number other verdict second first in
    let place : first.before ≡ second.before = omega (arith, no_less, no_more) in
    first_unsound_at_one_place one settings lists reports number other_number verdict other first second place
