use Rattle.std.proofs.Common.{◌∙◌}
use Rattle.hhh_output.proofs.SelectionLemmas.{selection_has_candidates, selection_gives_all_lines}
use Rattle.hhh_output.proofs.SelectionLemmas.{selection_lines_are_kept, selection_lines_are_of_grain}
use Rattle.hhh_output.proofs.reporting.report_of.Goals as goal

pub select_lines-requires : goal.select_lines-requires
select_lines-requires c =
    let kept = c.positions.ensures.kept in
    let cut = c.args.cut.now in
    selection_has_candidates c.in_ok-merged.merged cut kept c.in_ok-merged.ensures
    (record {
      keyed = λ node is_node. c.monitored_keys_are_few.ensures.keyed cut node kept is_node;
      distinct = λ node. c.monitored_keys_are_few.ensures.distinct cut node;
      few = λ node is_node. c.monitored_keys_are_few.ensures.few cut node kept is_node;
    })

pub invariant_of-result : goal.invariant_of-result
invariant_of-result c =
    let cut = c.args.cut.now in
    record {
      are_lines =
          selection_lines_are_kept c.in_ok-merged.merged cut c.in_ok-merged.ensures c.only_prefixes_are_asked.ensures
          c.threshold-threshold.result c.in_ok-lines.lines c.in_ok-lines.ensures
          (λ prefix is_prefix.
          c.merged_intervals_are_narrow.ensures.within cut prefix c.positions.ensures.kept is_prefix);
    }

pub returns-clause-report : goal.returns-clause-report
returns-clause-report c =
    record {
      positions = c.in_ok-positions.ensures.positions;
      total = c.total-total.ensures.total ∙ c.in_ok-merged.ensures.total;
      threshold = c.threshold-threshold.ensures;
      lines =
          selection_gives_all_lines c.in_ok-merged.merged c.args.cut.now c.in_ok-merged.ensures
          c.only_prefixes_are_asked.ensures c.threshold-threshold.result c.in_ok-lines.lines
          c.in_ok-lines.ensures;
    }

pub returns-clause-of_grain : goal.returns-clause-of_grain
returns-clause-of_grain c =
    selection_lines_are_of_grain c.in_ok-merged.merged c.args.cut.now c.in_ok-merged.ensures
    c.only_prefixes_are_asked.ensures c.threshold-threshold.result c.in_ok-lines.lines c.in_ok-lines.ensures

pub returns-clause-sound : goal.returns-clause-sound
returns-clause-sound c = λ lists stands weighed.
    let cut = c.args.cut.now in
    c.reports_are_sound.ensures cut lists c.args.phi _ c.positions.ensures.kept stands weighed c.requires.wide
    (selection_lines_are_kept c.in_ok-merged.merged cut c.in_ok-merged.ensures c.only_prefixes_are_asked.ensures
    c.threshold-threshold.result c.in_ok-lines.lines c.in_ok-lines.ensures
    (λ prefix is_prefix. c.merged_intervals_are_narrow.ensures.within cut prefix c.positions.ensures.kept is_prefix))
    (record {
      positions = c.in_ok-positions.ensures.positions;
      total = c.total-total.ensures.total ∙ c.in_ok-merged.ensures.total;
      threshold = c.threshold-threshold.ensures;
      lines =
          selection_gives_all_lines c.in_ok-merged.merged cut c.in_ok-merged.ensures c.only_prefixes_are_asked.ensures
          c.threshold-threshold.result c.in_ok-lines.lines c.in_ok-lines.ensures;
    })
