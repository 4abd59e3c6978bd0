-- How far a cursor has read a session text, which no public contract cites.
use Rattle.std.specs.Prelude.{◌≡◌, ◌+◌, List, ◌++◌, length, take}
use Rattle.std.specs.List.{flat_map, AllByRecursion}
use Rattle.prefix_lattice.specs.declared.grain.Grain.{Grain}
use Rattle.report_text.specs.Session.{IsSessionLine, words_text}
use Rattle.report_text.specs.Stages.{Stage, LeadsFromStage, nothing}
use Rattle.report_text.specs.declared.line_cursor.LineCursor.{LineCursor}
use Rattle.report_text.specs.declared.session_line.SessionLine.{SessionLine}

-- a cursor has read these lines
pub record HasReadLines (grain : Grain) (cursor : LineCursor) (lines : List SessionLine) : Type 0 where
  pub are_lines : AllByRecursion (IsSessionLine grain) lines
  pub text : take cursor.at cursor.text.now ≡ flat_map words_text lines
  pub count : cursor.lines ≡ length lines

-- a cursor has read lines that lead to this stage
pub record HasReadToStage (grain : Grain) (cursor : LineCursor) (stage : Stage) : Type 0 where
  pub read : List SessionLine
  pub has_read : HasReadLines grain cursor read
  pub leads : LeadsFromStage nothing read stage

-- a cursor went on over one line
pub record ReadsLine (grain : Grain) (old new : LineCursor) (line : SessionLine) : Type 0 where
  pub same : new.text ≡ old.text
  pub is_line : IsSessionLine grain line
  pub text : take new.at new.text.now ≡ take old.at old.text.now ++ words_text line
  pub count : new.lines ≡ old.lines + 1

-- a cursor went on over these lines, from one stage to another
pub record ReadsLines (grain : Grain) (old new : LineCursor) (lines : List SessionLine) (stage last : Stage) : Type 0 where
  pub same : new.text ≡ old.text
  pub are_lines : AllByRecursion (IsSessionLine grain) lines
  pub text : take new.at new.text.now ≡ take old.at old.text.now ++ flat_map words_text lines
  pub count : new.lines ≡ old.lines + length lines
  pub leads : LeadsFromStage stage lines last
