use Rattle.hhh_output.proofs.ExistingReportLemmas.{each_cut_has_existing_report}
use Rattle.hhh_output.proofs.laws.each_cut_has_a_report.Goals as goal

pub returns : goal.returns
returns c = λ cut phi kept.
    each_cut_has_existing_report cut phi kept
    (record {
      sortable = record {
        total = c.report_order_is_total.ensures.total;
        apart = c.report_order_is_total.ensures.apart;
      };
      falls = record { falls = c.prefixes_are_ordered.ensures.level };
      few = record {
        few = λ node is_node. c.monitored_keys_are_few.ensures.few cut node kept is_node;
        keys = record {
          made = c.keys_are_of_their_node.ensures.of_record;
          apart = c.keys_are_of_their_node.ensures.apart;
          covering = c.keys_tell_covering.ensures;
          own = c.prefixes_cover_their_own_addresses.ensures.covers;
          small = c.prefixes_cover_their_own_addresses.ensures.dest;
        };
      };
      within = λ prefix is_prefix. c.merged_intervals_are_narrow.ensures.within cut prefix kept is_prefix;
    })
