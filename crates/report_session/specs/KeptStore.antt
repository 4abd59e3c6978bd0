-- What `report` promises of its store: by the bytes that it wrote, and by the dealt lists to which the store belongs.
use Rattle.std.specs.Prelude.{Bool, true, ℕ, ◌≡◌, ◌+◌, ◌≤◌, ◌⊎◌, List, [], ◌∷◌, ◌++◌, length, Contains, Option, Some}
use Rattle.hhh_report.specs.{AreNotPast}
use Rattle.hhh_report.specs.declared.report.Report.{Report}
use Rattle.shard_state.specs.{cut_positions}
use Rattle.slot_disk.specs.{CrashLeaves}
use Rattle.slot_disk.specs.declared.disk.Disk.{Ghosts as DiskOf}
use Rattle.checkpoint.specs.{SavedValue, StoreOpensTo, store_positions, store_sequence}
use Rattle.checkpoint.specs.declared.header.StoreHeader.{StoreHeader}
use Rattle.report_text.specs.{ShowsSaves, mark_text, report_text, whole_lines}
use Rattle.report_text.specs.declared.mark.Mark.TheVariants.{Opened, Saved}
use Rattle.command_words.specs.{AreLimited}
use Rattle.command_words.specs.declared.settings.Settings.{Settings}
use Rattle.dealt_capture.specs.{DealingRules}
use Rattle.report_session.specs.Saving.{AreKeptOnDisk, BelongThroughout, BelongsToLists, settings_of_store}
use Rattle.report_session.specs.Session.{IsSession, IsSessionInPart, IsStrictBeginning}

-- the last of these positions, or those at the start where there are none
abbrev pub last_shown : List ℕ → List (List ℕ) → List ℕ
last_shown start [] = start
last_shown start (positions ∷ later) = last_shown positions later

-- the bytes end in the text of a report at these positions, or in the line `saved` behind it: nothing says yet that its cut
-- was saved
pub record IsBeingSaved (written positions : List ℕ) : Type 0 where
  pub before : List ℕ
  pub report : Report
  pub line : List ℕ
  pub at : report.positions ≡ positions
  pub ends : written ≡ before ++ (report_text report ++ line)
  pub unfinished : IsStrictBeginning line (mark_text Saved positions)

-- the image is one that a crash could have left as the run began, or opens as such an image does
abbrev pub OpensAsEarlier : {D : Type 0} → DiskOf D → StoreHeader → D → List ℕ → Type 0
OpensAsEarlier d header old image =
    d.image_now old image
    ⊎ ((earlier : List ℕ) × (opened : Option SavedValue) × d.image_now old earlier × StoreOpensTo header earlier opened
    × StoreOpensTo header image opened)

-- the image opens to no earlier positions than the last of these saves, or than those that the store opened to before, and
-- its sequence counts them all; where the run was whole, it counts no more
pub record ReopensAfterSaves (header : StoreHeader) (opened : Option SavedValue) (saves : List (List ℕ)) (whole : Bool)
    (image : List ℕ) : Type 0 where
  pub found : Option SavedValue
  pub opens : StoreOpensTo header image found
  pub positions : AreNotPast (last_shown (store_positions header.settings opened) saves) (store_positions header.settings found)
  pub counted : store_sequence opened + length saves ≤ store_sequence found
  pub exact : whole ≡ true → store_sequence found ≡ store_sequence opened + length saves

-- a run whose first line is whole shows in it the positions that its store opened to; whatever a crash now leaves reopens
-- after the saves that its lines show
pub record StoreReopens {D : Type 0} (d : DiskOf D) (header : StoreHeader) (new : D) (store written : List ℕ)
    (saves : List (List ℕ)) (whole : Bool) : Type 0 where
  pub opened : Option SavedValue
  pub opens : StoreOpensTo header store opened
  pub rest : List ℕ
  pub first_line : written ≡ mark_text Opened (store_positions header.settings opened) ++ rest
  pub again : (image : List ℕ) → d.image_now new image → ReopensAfterSaves header opened saves whole image

-- the image opens as the store did, to a cut that the run says it saved, or to the one that it was saving
pub record OpensToSave (header : StoreHeader) (store written : List ℕ) (saves : List (List ℕ)) (image : List ℕ) : Type 0 where
  pub found : Option SavedValue
  pub opens : StoreOpensTo header image found
  pub is : StoreOpensTo header store found
      ⊎ ((saved : SavedValue) × (found ≡ Some saved)
      × (Contains saves (cut_positions saved.cut) ⊎ IsBeingSaved written (cut_positions saved.cut)))

-- What a run of `report` promises of its store, whose bytes were `store` as it began and had this header, by the bytes `written`, whose lines
-- `saved` show these saves. Before the first line is whole, whatever a crash now leaves opens as one of the images at the
-- start did; afterwards, it has lost none of the saves. At each moment of the run a crash left such an image, or one that
-- opens to a save
pub record StoreIsKept {D : Type 0} (d : DiskOf D) (header : StoreHeader) (old new : D) (store written : List ℕ) (whole : Bool)
    : Type 0 where
  pub saves : List (List ℕ)
  pub shown : ShowsSaves written saves
  pub unopened : whole_lines written ≡ [] → (image : List ℕ) → d.image_now new image → OpensAsEarlier d header old image
  pub reopens : (whole_lines written ≡ [] → ⊥) → StoreReopens d header new store written saves whole
  pub any_moment : CrashLeaves d.moment d.image_since old new
      (λ image. d.image_now old image ⊎ OpensToSave header store written saves image)

-- Of sessions under these rules, whole ones and those that broke off: if whatever a crash could have left of the store before
-- belonged to the dealt lists, then the saved cut that the session went on from represents them, and whatever a crash leaves of
-- the store, at any moment of the session or after it, belongs to them
pub record SessionsBelong {D : Type 0} (d : DiskOf D) (rules : DealingRules) : Type 0 where
  pub whole : (old new : D) (settings : Settings) (store : List ℕ) (file : Option (List ℕ)) (text : List ℕ)
      (is : IsSession settings rules (AreKeptOnDisk d old new) (d.reads old) file text)
      → AreLimited settings → settings.store ≡ true → d.reads old ≡ Some store
      → ((image : List ℕ) → d.image_now old image → BelongsToLists (settings_of_store settings) is.lists image)
      → BelongThroughout d (settings_of_store settings) is.lists is.base old new
  pub in_part : (old new : D) (settings : Settings) (store : List ℕ) (file : Option (List ℕ)) (front : List ℕ)
      (is : IsSessionInPart settings rules (AreKeptOnDisk d old new) (d.reads old) file front)
      → AreLimited settings → settings.store ≡ true → d.reads old ≡ Some store
      → ((image : List ℕ) → d.image_now old image → BelongsToLists (settings_of_store settings) is.lists image)
      → BelongThroughout d (settings_of_store settings) is.lists is.base old new
