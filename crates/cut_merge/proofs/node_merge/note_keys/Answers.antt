use Rattle.std.proofs.Common.{◌≡◌, ℕ, ◌+◌, ◌-◌, ◌∷◌, [], ◌++◌, map, take, fold, ap, ◌∙◌, sym, subst, if◌then◌else◌}
use Rattle.space_saving.specs.declared.entry.Entry.{Entry}
use Rattle.cut_merge.specs.Merged.{keys_seen}
use Rattle.cut_merge.specs.HighBounds.{NoteKey}
use Rattle.cut_merge.proofs.NewKeyLemmas.{new_keys_after_entry}
use Rattle.cut_merge.proofs.HighBoundLemmas.{high_bound_notes_more}
use Rattle.cut_merge.proofs.SeenHomeLemmas.{seen_homes_of_more_entries}
use Rattle.cut_merge.proofs.node_merge.note_keys.Goals as goal
use Rattle.cut_merge.proofs.node_merge.note_keys.Goals.{then-not-is_known+in_ok-push, else-not-is_known}

pub is_known-requires : goal.is_known-requires
is_known-requires c = λ is.
    c.loop-place.invariant.seen.kept c.entry-entry.result.key (c.requires.seen c.entry-entry.result.key is)

pub loop-place-preserved : goal.loop-place-preserved
loop-place-preserved c =
    let entry = c.entry-entry.result in
    let now = c.loop-place.keys.items in
    let more =
    new_keys_after_entry c.args.table.now.entries c.args.keys.now.items now c.loop-place.place entry c.is_known.result
    c.loop-place.invariant.keys c.entry-entry.ensures.entry c.entry-entry.ensures.apart
    (c.requires.known entry.key ∙ sym c.is_known.ensures) in
    let keys : c.if-not-is_known.keys.items
    ≡ fold keys_seen c.args.keys.now.items
    (map (λ (e : Entry). e.key) (take (c.loop-place.place + 1) c.args.table.now.entries)) =
    elim c.if-not-is_known.branch [
      | then-not-is_known+in_ok-push w ↦
          ap (λ keys. keys.items) w.keys-is ∙ w.in_ok-push.ensures.items
          ∙ ap (λ b. if b then now else now ++ entry.key ∷ []) (sym w.if-not-is_known.true) ∙ more
      | else-not-is_known w ↦
          ap (λ keys. keys.items) w.keys-is
          ∙ ap (λ b. if b then now else now ++ entry.key ∷ []) (sym w.if-not-is_known.false) ∙ more
    ] in
    record {
      keys = keys;
      bounds =
          high_bound_notes_more c.args.table.now c.args.bounds.now c.loop-place.bounds c.note-in-loop-place.new.self c.loop-place.place entry
          c.loop-place.invariant.bounds c.entry-entry.ensures.entry c.entry-entry.ensures.apart
          (subst (λ (missing : ℕ). NoteKey c.loop-place.bounds c.note-in-loop-place.new.self entry.key (entry.count - missing))
          c.requires.missing c.note-in-loop-place.ensures);
      seen =
          seen_homes_of_more_entries c.args.table.now c.args.seen.now c.loop-place.seen c.note.new.self c.loop-place.place entry
          c.loop-place.invariant.seen c.entry-entry.ensures.entry c.note.ensures;
    }
