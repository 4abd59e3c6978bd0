-- A cursor that goes on over the lines of a session.
use Rattle.std.proofs.Common.{◌≡◌, List, [], ◌∷◌, ◌++◌, take, refl, sym, ap, ◌∙◌, subst, arith}
use Rattle.std.proofs.Common.{append_assoc, append-nil, length-append}
use Rattle.std.specs.List.{flat_map, AllByRecursion}
use Rattle.std.proofs.lemmas.List.Concat.{flat_map-append}
use Rattle.prefix_lattice.specs.declared.grain.Grain.{Grain}
use Rattle.report_text.specs.Session.{IsSessionLine, words_text, HasReadFault}
use Rattle.report_text.specs.Stages.{Stage, nothing, IsStageBeforeEnd, FollowsStage}
use Rattle.report_text.specs.LineCursor.{HasReadToStage, ReadsLine, ReadsLines}
use Rattle.report_text.specs.declared.line_cursor.LineCursor.{LineCursor}
use Rattle.report_text.specs.declared.session_line.SessionLine.{SessionLine}
use Rattle.report_text.specs.declared.session_fault.SessionFault.{SessionFault}
use Rattle.report_text.proofs.StageLemmas.{stage_after_appended_lines}

line_reading_lines_appended : (grain : Grain) (lines others : List SessionLine)
    → AllByRecursion (IsSessionLine grain) lines → AllByRecursion (IsSessionLine grain) others
    → AllByRecursion (IsSessionLine grain) (lines ++ others)
line_reading_lines_appended grain [] others all others_all = others_all
line_reading_lines_appended grain (line ∷ lines) others all others_all = (all.0, line_reading_lines_appended grain lines others all.1 others_all)

-- a cursor that stays
pub line_reading_stays : (grain : Grain) (cursor : LineCursor) (stage : Stage)
    → ReadsLines grain cursor cursor [] stage stage
line_reading_stays grain cursor stage = record {
  same = refl;
  are_lines = tt;
  text = sym (append-nil (take cursor.at cursor.text.now));
  count = omega arith;
  leads = refl;
}

-- a cursor goes on over one line
pub line_reading_of_one_line : (grain : Grain) (old new : LineCursor) (line : SessionLine) (stage next : Stage)
    → ReadsLine grain old new line
    → FollowsStage stage line next → ReadsLines grain old new (line ∷ []) stage next
line_reading_of_one_line grain old new line stage next reads follows = record {
  same = reads.same;
  are_lines = (reads.is_line, tt);
  text = reads.text ∙ ap (λ l. take old.at old.text.now ++ l) (sym (append-nil (words_text line)));
  count = omega (arith, reads.count);
  leads = (next, follows, refl);
}

-- a cursor goes on twice
pub line_reading_goes_on : (grain : Grain) (first second third : LineCursor) (lines others : List SessionLine) (stage next last : Stage)
    → ReadsLines grain first second lines stage next → ReadsLines grain second third others next last
    → ReadsLines grain first third (lines ++ others) stage last
line_reading_goes_on grain first second third lines others stage next last one two = record {
  same = two.same ∙ one.same;
  are_lines = line_reading_lines_appended grain lines others one.are_lines two.are_lines;
  text =
      two.text ∙ ap (λ l. l ++ flat_map words_text others) one.text
      ∙ append_assoc (take first.at first.text.now) (flat_map words_text lines) (flat_map words_text others)
      ∙ ap (λ l. take first.at first.text.now ++ l) (sym (flat_map-append words_text lines others));
  count = omega (arith, one.count, two.count, length-append lines others);
  leads = stage_after_appended_lines stage lines others next last one.leads two.leads;
}

-- and once more, over one line
pub line_reading_one_more : (grain : Grain) (first second third : LineCursor) (lines : List SessionLine) (line : SessionLine)
    (stage next last : Stage) → ReadsLines grain first second lines stage next → ReadsLine grain second third line
    → FollowsStage next line last → ReadsLines grain first third (lines ++ line ∷ []) stage last
line_reading_one_more grain first second third lines line stage next last one reads follows =
    line_reading_goes_on grain first second third lines (line ∷ []) stage next last one
    (line_reading_of_one_line grain second third line next last reads follows)

-- a cursor that goes on has read more
pub line_reading_reads_more : (grain : Grain) (old new : LineCursor) (lines : List SessionLine) (stage last : Stage)
    → HasReadToStage grain old stage
    → ReadsLines grain old new lines stage last → HasReadToStage grain new last
line_reading_reads_more grain old new lines stage last stands reads = record {
  read = stands.read ++ lines;
  has_read = record {
    are_lines = line_reading_lines_appended grain stands.read lines stands.has_read.are_lines reads.are_lines;
    text =
        reads.text ∙ ap (λ l. l ++ flat_map words_text lines) stands.has_read.text
        ∙ sym (flat_map-append words_text stands.read lines);
    count = omega (arith, reads.count, stands.has_read.count, length-append stands.read lines);
  };
  leads = stage_after_appended_lines nothing stands.read lines stage last stands.leads reads.leads;
}

-- a fault that is found further on
pub line_reading_later_fault : (grain : Grain) (old new : LineCursor) (lines : List SessionLine) (stage last : Stage) (fault : SessionFault)
    → HasReadToStage grain old stage → ReadsLines grain old new lines stage last
    → (HasReadToStage grain new last → HasReadFault grain new.text.now fault) → HasReadFault grain old.text.now fault
line_reading_later_fault grain old new lines stage last fault stands reads has =
    subst (λ t. HasReadFault grain t.now fault) reads.same (has (line_reading_reads_more grain old new lines stage last stands reads))

-- what is found of the next line
pub line_reading_next_fault : (grain : Grain) (old new : LineCursor) (lines : List SessionLine) (stage last : Stage) (fault : SessionFault)
    → HasReadToStage grain old stage → ReadsLines grain old new lines stage last → IsStageBeforeEnd last
    → ((s : Stage) → IsStageBeforeEnd s → HasReadToStage grain new s → HasReadFault grain new.text.now fault)
    → HasReadFault grain old.text.now fault
line_reading_next_fault grain old new lines stage last fault stands reads is_open has =
    line_reading_later_fault grain old new lines stage last fault stands reads (has last is_open)

-- the next line may not come
pub line_reading_refused : (grain : Grain) (old new after : LineCursor) (lines : List SessionLine) (line : SessionLine) (stage last : Stage)
    (fault : SessionFault) → HasReadToStage grain old stage → ReadsLines grain old new lines stage last → ReadsLine grain new after line
    → ((next : Stage) → FollowsStage last line next → ⊥)
    → ((c : LineCursor) (k : SessionLine) (s : Stage) → HasReadToStage grain c s → ReadsLine grain c after k
    → ((next : Stage) → FollowsStage s k next → ⊥) → HasReadFault grain after.text.now fault)
    → HasReadFault grain old.text.now fault
line_reading_refused grain old new after lines line stage last fault stands reads reads_line none has =
    line_reading_later_fault grain old new lines stage last fault stands reads
    (λ on. subst (λ t. HasReadFault grain t.now fault) reads_line.same (has new line last on reads_line none))

-- a cursor goes on over one line that is known
pub line_reading_known_line : (grain : Grain) (first second third : LineCursor) (lines : List SessionLine) (line known : SessionLine)
    (stage next last : Stage) → ReadsLines grain first second lines stage next → ReadsLine grain second third line → line ≡ known
    → FollowsStage next known last → ReadsLines grain first third (lines ++ known ∷ []) stage last
line_reading_known_line grain first second third lines line known stage next last one reads is follows =
    line_reading_one_more grain first second third lines known stage next last one (subst (ReadsLine grain second third) is reads) follows
