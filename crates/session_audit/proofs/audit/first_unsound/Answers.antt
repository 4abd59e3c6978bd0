use Rattle.std.proofs.Common.{◌∙◌, ◌+◌, All, subst}
use Rattle.std.proofs.lemmas.List.{take_all}
use Rattle.session_audit.specs.Audit.{IsFirstUnsound, IsAuditedSound}
use Rattle.session_audit.proofs.FirstUnsoundLemmas.{first_unsound_next_is_sound, first_unsound_next_is_unsound}
use Rattle.session_audit.proofs.audit.first_unsound.Goals as goal

pub loop-place-preserved : goal.loop-place-preserved
loop-place-preserved c =
    first_unsound_next_is_sound c.args.settings.now c.args.audited.now.dealt c.as_slice-reports.result.now c.loop-place.place
    c.index-reports-place.result c.loop-place-test.true c.index-reports-place.is
    (c.in_ok-verdict.ensures.good.0 c.in-Good.is) c.loop-place.invariant

pub returns-in_default : goal.returns-in_default
returns-in_default c =
    let settings = c.args.settings.now in
    let lists = c.args.audited.now.dealt in
    record {
      none = tt;
      some = subst (λ reports. IsFirstUnsound settings lists reports (c.loop-place.place + 1) c.in_ok-verdict.verdict)
          c.as_slice-reports.ensures
          (first_unsound_next_is_unsound settings lists c.as_slice-reports.result.now c.loop-place.place c.index-reports-place.result
          c.in_ok-verdict.verdict c.loop-place-test.true c.index-reports-place.is c.in_ok-verdict.ensures.verdict
          c.in_default.not-Good c.loop-place.invariant);
    }

pub returns-clause-none : goal.returns-clause-none
returns-clause-none c =
    let sound = IsAuditedSound c.args.settings.now c.args.audited.now.dealt in
    subst (All sound)
    (take_all c.loop-place.place c.as_slice-reports.result.now c.loop-place-test.false ∙ c.as_slice-reports.ensures)
    c.loop-place.invariant
