use Rattle.std.proofs.Common.{◌∙◌, ◌-◌, ◌<◌, List, All, map, length, ap, refl, sym, subst, arith}
use Rattle.std.proofs.lemmas.List.{length-map}
use Rattle.std.proofs.lemmas.Result.{err_from_is_err_and}
use Rattle.prefix_lattice.specs.{total_limit}
use Rattle.shard_state.specs.{CutValue}
use Rattle.hhh_output.specs.{IsReportOf}
use Rattle.hhh_report.specs.{AreOfGrain}
use Rattle.site_merge.specs.Taking.{AreAlikeAt, AreFirstAlike, site_mark, weight_of_marks}
use Rattle.site_merge.specs.declared.taking.SiteMark.{SiteMark}
use Rattle.site_merge.proofs.MarkLemmas.{mark_first_pair_is_of_sites, mark_pair_of_sites, mark_weights}
use Rattle.site_merge.proofs.SiteCutLemmas.{site_cut_is_taken, site_cut_marks, site_cut_sound, site_cut_total}
use Rattle.site_merge.proofs.reporting.report_sites.Goals as goal

pub check_captures-requires : goal.check_captures-requires
check_captures-requires g c =
    let has = c.in_ok-taken.ensures.taken in
    omega (
      arith,
      c.requires.few,
      site_cut_marks c.args.settings.now (map g.D.Disk.reads c.args.disks.now) has.0 c.in_ok-taken.taken has.1 has.2,
      length-map c.args.disks.now g.D.Disk.reads,
    )

pub returns-in_err-check_captures-clause-refused : goal.returns-in_err-check_captures-clause-refused
returns-in_err-check_captures-clause-refused g c =
    let p = err_from_is_err_and c.from_residual-in_err-check_captures.result c.from_residual-in_err-check_captures.ensures.1 in
    let has = c.in_ok-taken.ensures.taken in
    let refused = c.in_err-check_captures.ensures.refused in
    rw (p.1, p.2, refused.2) (
      has.0,
      has.1,
      mark_first_pair_is_of_sites has.0 refused.0 refused.1
          (subst (λ (l : List SiteMark). AreFirstAlike l refused.0 refused.1) (c.as_slice.ensures.value ∙ has.2.marks) refused.3),
    )

pub check_weight-requires-clause-few : goal.check_weight-requires-clause-few
check_weight-requires-clause-few g c =
    let has = c.in_ok-taken.ensures.taken in
    omega (
      arith,
      c.requires.few,
      site_cut_marks c.args.settings.now (map g.D.Disk.reads c.args.disks.now) has.0 c.in_ok-taken.taken has.1 has.2,
      length-map c.args.disks.now g.D.Disk.reads,
    )

pub check_weight-requires-clause-bounded : goal.check_weight-requires-clause-bounded
check_weight-requires-clause-bounded g c =
    subst (λ (l : List SiteMark). All (λ mark. mark.weight < total_limit) l) (sym c.as_slice-2.ensures.value) c.in_ok-taken.ensures.taken.2.bounded

pub returns-in_err-check_weight-clause-refused : goal.returns-in_err-check_weight-clause-refused
returns-in_err-check_weight-clause-refused g c =
    let p = err_from_is_err_and c.from_residual-in_err-check_weight.result c.from_residual-in_err-check_weight.ensures.1 in
    let has = c.in_ok-taken.ensures.taken in
    let refused = c.in_err-check_weight.ensures.refused in
    rw (p.1, p.2, refused.0) (
      has.0,
      has.1,
      λ first second pair.
          c.in_ok-check_captures.ensures.apart (first - 1) (second - 1)
          (subst (λ (l : List SiteMark). AreAlikeAt l (first - 1) (second - 1)) (sym (c.as_slice.ensures.value ∙ has.2.marks))
          (mark_pair_of_sites has.0 first second pair)),
      ap weight_of_marks (c.as_slice-2.ensures.value ∙ has.2.marks) ∙ mark_weights has.0,
      refused.1,
    )

pub report_of-requires-clause-bounded : goal.report_of-requires-clause-bounded
report_of-requires-clause-bounded g c =
    let has = c.in_ok-taken.ensures.taken in
    omega (
      arith,
      c.in_ok-check_weight.ensures.light,
      ap weight_of_marks (c.as_slice-2.ensures.value ∙ has.2.marks),
      mark_weights has.0,
      site_cut_total c.shards_stand.ensures.begins c.snapshots_hold_weights.ensures.total c.args.settings.now c.requires.settings has.0
          c.in_ok-taken.taken has.2,
    )

pub overflow_cast-result : goal.overflow_cast-result
overflow_cast-result g c =
    let has = c.in_ok-taken.ensures.taken in
    omega (
      arith,
      c.requires.few,
      c.len.ensures,
      site_cut_marks c.args.settings.now (map g.D.Disk.reads c.args.disks.now) has.0 c.in_ok-taken.taken has.1 has.2,
      length-map c.args.disks.now g.D.Disk.reads,
    )

pub returns-clause-made : goal.returns-clause-made
returns-clause-made g c =
    let has = c.in_ok-taken.ensures.taken in
    let settings = c.args.settings.now in
    let taken = c.in_ok-taken.taken in (
      has.0,
      has.1,
      record {
        can_merge = record {
          apart = λ first second pair.
              c.in_ok-check_captures.ensures.apart (first - 1) (second - 1)
              (subst (λ (l : List SiteMark). AreAlikeAt l (first - 1) (second - 1)) (sym (c.as_slice.ensures.value ∙ has.2.marks))
              (mark_pair_of_sites has.0 first second pair));
          light = omega (arith, c.in_ok-check_weight.ensures.light, ap weight_of_marks (c.as_slice-2.ensures.value ∙ has.2.marks), mark_weights has.0);
        };
        report = subst (λ (cut : CutValue). IsReportOf cut c.args.phi c.in_ok-report.report) (site_cut_is_taken settings has.0 taken has.2)
            c.in_ok-report.ensures.report;
        of_grain = subst (λ (cut : CutValue). AreOfGrain cut.shape.grain c.in_ok-report.report.lines)
            (site_cut_is_taken settings has.0 taken has.2) c.in_ok-report.ensures.of_grain;
        as_many = omega (
          arith,
          c.len.ensures,
          c.as_slice.ensures.len,
          ap (λ (l : List SiteMark). length l) (c.as_slice.ensures.value ∙ has.2.marks),
          length-map has.0 site_mark,
        );
        shards = refl;
      },
    )

pub returns-clause-sound : goal.returns-clause-sound
returns-clause-sound g c = λ dealt belong.
    let has = c.in_ok-taken.ensures.taken in
    site_cut_sound c.shards_stand.ensures.begins c.stores_open_to_one.ensures c.args.settings.now c.requires.settings
    (map g.D.Disk.reads c.args.disks.now) has.0 dealt c.in_ok-taken.taken c.in_ok-report.report c.args.phi has.1 has.2
    c.in_ok-report.ensures.sound belong
