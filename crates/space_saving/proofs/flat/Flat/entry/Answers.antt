use Rattle.std.proofs.Common.{◌<◌, length, refl, sym, subst}
use Rattle.std.proofs.lemmas.Option.{slice_get_read}
use Rattle.space_saving.specs.Summary.{TableValue}
use Rattle.space_saving.proofs.IntervalLemmas.{RisesFrom-interval_least}
use Rattle.space_saving.proofs.TableEntryLemmas.{table_entry_stands_apart, table_entry_rises_from_least}
use Rattle.space_saving.proofs.TableEntryLemmas.{table_entry_within_total}
use Rattle.space_saving.proofs.flat.Flat.entry.Goals as goal

pub returns-clause-apart : goal.returns-clause-apart
returns-clause-apart c =
    let es = c.self.inside.entries.items in
    let within : c.args.place < length es =
    subst (λ (t : TableValue). c.args.place < length t.entries) (sym c.self.view_is) c.requires in
    let at = slice_get_read es (length es) c.args.place c.index.result.now refl within c.index.ensures in
    rw (← c.self.view_is)
    (table_entry_stands_apart es c.args.place c.index.result.now c.self.invariant.are_entries.is_table.distinct at)

pub returns-clause-least : goal.returns-clause-least
returns-clause-least c =
    let es = c.self.inside.entries.items in
    let within : c.args.place < length es =
    subst (λ (t : TableValue). c.args.place < length t.entries) (sym c.self.view_is) c.requires in
    let at = slice_get_read es (length es) c.args.place c.index.result.now refl within c.index.ensures in
    rw (← c.self.view_is)
    (table_entry_rises_from_least _ es c.args.place c.index.result.now
    (RisesFrom-interval_least es c.self.invariant.are_entries.is_table.ascending) at)

pub returns-clause-within_total : goal.returns-clause-within_total
returns-clause-within_total c =
    let es = c.self.inside.entries.items in
    let within : c.args.place < length es =
    subst (λ (t : TableValue). c.args.place < length t.entries) (sym c.self.view_is) c.requires in
    let at = slice_get_read es (length es) c.args.place c.index.result.now refl within c.index.ensures in
    rw (← c.self.view_is) (table_entry_within_total es c.args.place c.index.result.now at)
