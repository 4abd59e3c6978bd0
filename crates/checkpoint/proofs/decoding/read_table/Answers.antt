use Rattle.std.proofs.Common.{◌≡◌, ◌∙◌, ap, sym, subst, arith}
use Rattle.std.proofs.lemmas.Result.{err_from_is_err_and}
use Rattle.space_saving.specs.{AreTableEntries, TableValue, table_total}
use Rattle.checkpoint.specs.Body.{entry_bytes}
use Rattle.checkpoint.specs.Decoding.{EntryFits}
use Rattle.checkpoint.proofs.DecodeFaultLemmas.{decode_fault_is_same}
use Rattle.checkpoint.proofs.PrefixFreeLemmas.{entries_are_prefix_free}
use Rattle.checkpoint.proofs.ReadListLemmas.{read_list_is_same}
use Rattle.checkpoint.proofs.SavedTableLemmas.{saved_table_is_long, saved_table_has_front}
use Rattle.checkpoint.proofs.decoding.read_table.Goals as goal

pub returns-then-bytes-lt12-clause-damaged : goal.returns-then-bytes-lt12-clause-damaged
returns-then-bytes-lt12-clause-damaged c = λ is entries rest begins.
    absurd (omega (arith, saved_table_is_long c.args.capacity c.args.bytes.now entries rest begins))

pub returns-then-count-capacity-clause-damaged : goal.returns-then-count-capacity-clause-damaged
returns-then-count-capacity-clause-damaged c = λ is entries rest begins.
    let parts = saved_table_has_front c.args.capacity c.requires.most c.args.bytes.now c.first_number-total.result.1.now c.first_count-count.result.1.now rest
    c.first_number-total.result.0 c.first_count-count.result.0 entries (omega arith) (omega arith)
    c.first_number-total.ensures.spelled c.first_count-count.ensures.spelled begins in
    absurd (omega (arith, parts.count_is, begins.fits.are_entries.is_table.fits))

pub returns-in_err-entries-clause-damaged : goal.returns-in_err-entries-clause-damaged
returns-in_err-entries-clause-damaged c =
    let p = err_from_is_err_and c.from_residual.result c.from_residual.ensures.1 in
    rw (p.1, p.2) (λ is entries rest begins.
    let parts = saved_table_has_front c.args.capacity c.requires.most c.args.bytes.now c.first_number-total.result.1.now c.first_count-count.result.1.now rest
    c.first_number-total.result.0 c.first_count-count.result.0 entries (omega arith) (omega arith)
    c.first_number-total.ensures.spelled c.first_count-count.ensures.spelled begins in
    c.in_err-entries.ensures.damaged (decode_fault_is_same _ _ is) entries rest parts.entries_begin)

pub returns-in_default-clause-damaged : goal.returns-in_default-clause-damaged
returns-in_default-clause-damaged c = λ is entries rest begins.
    let parts = saved_table_has_front c.args.capacity c.requires.most c.args.bytes.now c.first_number-total.result.1.now c.first_count-count.result.1.now rest
    c.first_number-total.result.0 c.first_count-count.result.0 entries (omega arith) (omega arith)
    c.first_number-total.ensures.spelled c.first_count-count.ensures.spelled begins in
    let same = read_list_is_same entry_bytes EntryFits entries_are_prefix_free c.first_count-count.result.1.now c.in_ok-entries.rest.now rest
    c.first_count-count.result.0 c.in_ok-entries.entries.items entries c.in_ok-entries.ensures.read parts.entries_begin in
    cc (c.in_default.ensures.accepted.1 (subst (AreTableEntries c.args.capacity) (sym same.0) begins.fits.are_entries))

pub returns-then-total-clause-damaged : goal.returns-then-total-clause-damaged
returns-then-total-clause-damaged c = λ is entries rest begins.
    let parts = saved_table_has_front c.args.capacity c.requires.most c.args.bytes.now c.first_number-total.result.1.now c.first_count-count.result.1.now rest
    c.first_number-total.result.0 c.first_count-count.result.0 entries (omega arith) (omega arith)
    c.first_number-total.ensures.spelled c.first_count-count.ensures.spelled begins in
    let same = read_list_is_same entry_bytes EntryFits entries_are_prefix_free c.first_count-count.result.1.now c.in_ok-entries.rest.now rest
    c.first_count-count.result.0 c.in_ok-entries.entries.items entries c.in_ok-entries.ensures.read parts.entries_begin in
    let table_is : c.in-Some.table ≡ record { capacity = c.args.capacity; entries = c.in_ok-entries.entries.items } = c.in-Some.ensures.content in
    c.if-total.true (c.total.ensures.total ∙ ap (λ (t : TableValue). table_total t.entries) table_is
    ∙ ap table_total same.0 ∙ sym parts.total_is)
