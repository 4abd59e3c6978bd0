use Rattle.std.proofs.Common.{◌≡◌, ◌+◌, ℕ, List, drop, rules, ap, sym, ◌∙◌}
use Rattle.std.proofs.lemmas.List.{drop-drop}
use Rattle.system_io.proofs.file_disk.read_on.Goals as goal
use Rattle.system_io.proofs.file_disk.read_on.Goals.{in-Ok, in-Err}

-- lists that agree from an index on agree from a later index on
later : {X : Type 0} (at count : ℕ) (new old : List X) → drop at new ≡ drop at old
    → drop (at + count) new ≡ drop (at + count) old
later at count new old same = sym (drop-drop count at new) ∙ ap (drop count) same ∙ drop-drop count at old

pub loop-preserved : goal.loop-preserved
loop-preserved g c = elim c.match-read_by.branch [
  | in-Ok w ↦
      let after = later c.loop.at w.in-Ok.count _ _ c.loop.invariant.later_places in
      record {
        within = search rules;
        same_room = search rules;
        same_length = search rules;
        later_places = cc (after, w.in-Ok.ensures.later_places, w.at-is);
      }
  | in-Err w ↦ search rules
]
