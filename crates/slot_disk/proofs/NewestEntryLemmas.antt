-- The newest entry of a record.
use Rattle.std.proofs.Common.{◌≡◌, ℕ, ◌+◌, List, [], ◌∷◌, ◌++◌, length, take, drop, min, reverse, sym, ap, ◌∙◌, arith}
use Rattle.std.proofs.Common.{get_or}
use Rattle.std.proofs.lemmas.List.{take_all, take_more, take_min, drop_min, reverse-append}
use Rattle.slot_disk.specs.declared.step_entry.StepEntry.{StepEntry}
use Rattle.slot_disk.specs.StepEntry.{entry_steps, entry_step}

-- it is the last in the list of entries
pub newest_entry_gives_newest_step : (entries earlier : List StepEntry) (log front piece : List ℕ) (last cut : ℕ) (d : StepEntry)
    → last + 1 ≡ length entries → earlier ≡ take last entries → cut ≡ min (get_or entries last d).start (length log)
    → front ≡ take cut log → piece ≡ drop cut log
    → entry_steps (reverse entries) log ≡ entry_step (get_or entries last d).kind (get_or entries last d).place piece ∷ entry_steps (reverse earlier) front
newest_entry_gives_newest_step entries earlier log front piece last cut d is_last is_earlier is_cut is_front is_piece =
    let entry = get_or entries last d in
    let whole : entries ≡ earlier ++ entry ∷ [] =
    sym (take_all (last + 1) entries (omega arith)) ∙ take_more entries last d (omega arith)
    ∙ ap (λ (es : List StepEntry). es ++ entry ∷ []) (sym is_earlier) in
    let turned : reverse entries ≡ entry ∷ reverse earlier = ap reverse whole ∙ reverse-append earlier (entry ∷ []) in
    let same_piece : drop entry.start log ≡ piece = sym (is_piece ∙ ap (λ (n : ℕ). drop n log) is_cut ∙ drop_min entry.start log) in
    let same_front : take entry.start log ≡ front = sym (is_front ∙ ap (λ (n : ℕ). take n log) is_cut ∙ take_min entry.start log) in
    ap (λ (es : List StepEntry). entry_steps es log) turned
    ∙ ap (λ (p : List ℕ). entry_step entry.kind entry.place p ∷ entry_steps (reverse earlier) (take entry.start log)) same_piece
    ∙ ap (λ (f : List ℕ). entry_step entry.kind entry.place piece ∷ entry_steps (reverse earlier) f) same_front
