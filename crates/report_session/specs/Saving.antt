-- The saves of a run into its store, and what a stop may leave of the store.
use Rattle.std.specs.Prelude.{ℕ, suc, ◌≡◌, ◌+◌, ◌≤◌, ◌⊎◌, List, [], ◌∷◌, ◌++◌, fold, length, map, slice_get}
use Rattle.std.specs.Prelude.{Option, None, Some, IfSome, option_map, is_some, refl}
use Rattle.std.proofs.Common.{arith}
use Rattle.hhh_report.specs.{AreNotPast}
use Rattle.shard_state.specs.{CutRepresents, CutValue, ShardValue, core_shape}
use Rattle.gate_workers.specs.{IsLaterView, View}
use Rattle.slot_disk.specs.{IfImageKnown, CrashLeaves}
use Rattle.slot_disk.specs.declared.disk.Disk.{Ghosts as DiskOf}
use Rattle.checkpoint.specs.{AreSettings, StoreBelongs, StoreOpensTo, SavedValue, SaverState, DiskMatches}
use Rattle.checkpoint.specs.declared.header.StoreHeader.{StoreHeader}
use Rattle.checkpoint.specs.{saver_after, lists_digest, stored_header}
use Rattle.checkpoint.specs.{greatest_sequence, store_positions, store_sequence}
use Rattle.prefix_lattice.specs.{RecordValue}
use Rattle.checkpoint.specs.declared.settings.StoreSettings.{StoreSettings}
use Rattle.command_words.specs.declared.settings.Settings.{Settings}
use Rattle.command_words.specs.{AreLimited}
use Rattle.slot_disk.specs.{CrashLeaves-none}
use Rattle.std.proofs.Common.{subst, sym}
use Rattle.checkpoint.specs.{settings_shape}

-- the settings of the store that a command uses
abbrev pub settings_of_store : Settings → StoreSettings
settings_of_store settings = record {
  shards = settings.shards;
  capacity = settings.capacity;
  weigh = settings.weigh;
  deal = settings.deal;
  grain = settings.grain;
}

-- what these cuts are saved as, one after another: under the sequence numbers after this one, and with this digest
abbrev pub saves_after : ℕ → List ℕ → List CutValue → List SavedValue
saves_after sequence digest [] = []
saves_after sequence digest (cut ∷ later) =
    record { sequence = sequence + 1; digest = digest; cut = cut } ∷ saves_after (sequence + 1) digest later

-- what a store opens to after these saves, if it opened to `opened` before
abbrev pub last_of_saves : Option SavedValue → List SavedValue → Option SavedValue
last_of_saves opened [] = opened
last_of_saves opened (saved ∷ later) = last_of_saves (Some saved) later

-- the image is a sound store with this header, and opens to what the store opened to before these saves, or to one of them
abbrev pub OpensToSaves : StoreHeader → Option SavedValue → List SavedValue → List ℕ → Type 0
OpensToSaves header opened [] image = StoreOpensTo header image opened
OpensToSaves header opened (saved ∷ later) image =
    StoreOpensTo header image opened ⊎ OpensToSaves header (Some saved) later image

-- a run that found a disk as `old`, and left it as `new`
module _ {D : Type 0} (d : DiskOf D) (old new : D) where
  -- The cuts `saved` were saved, and one save may be unfinished: `unfinished` has one cut at most. A crash at any moment of the
  -- run leaves what it could have left before the run (`Earlier`), be that a sound store or not, or a sound store that opens as
  -- before or to one of these cuts; which one isn't tied to the lines written by then. A crash afterwards leaves a store that
  -- opens to the last saved cut, or as before if there is none, or to the cut whose save is unfinished
  pub record KeepsSaves (header : StoreHeader) (digest : List ℕ) (Earlier : List ℕ → Type 0)
      (saved unfinished : List CutValue) (store : List ℕ) : Type 0 where
    pub opened : Option SavedValue
    pub opens : StoreOpensTo header store opened
    pub any_moment : CrashLeaves d.moment d.image_since old new (λ image. Earlier image
        ⊎ OpensToSaves header opened (saves_after (store_sequence opened) digest (saved ++ unfinished)) image)
    pub afterwards : (image : List ℕ) → d.image_now new image
        → OpensToSaves header (last_of_saves opened (saves_after (store_sequence opened) digest saved))
        (saves_after (store_sequence opened + length saved) digest unfinished) image

  -- what a run keeps of the store on its disk, where the bytes of the disk were known as it began, under the header that they
  -- have; given the store's settings, the dealt lists, the cuts of them that were saved, and the one whose save is unfinished,
  -- if any
  abbrev pub AreKeptOnDisk : StoreSettings → List (List RecordValue) → (saved unfinished : List CutValue) → Type 0
  AreKeptOnDisk settings lists saved unfinished =
      IfImageKnown (d.reads old) (λ store. KeepsSaves (stored_header settings store)
      (lists_digest (stored_header settings store) lists) (d.image_now old) saved unfinished store)

-- of what a store opens to, `found` is no earlier than `opened`: neither its sequence nor the position of any shard is
-- smaller
pub record IsNoEarlier (settings : StoreSettings) (opened found : Option SavedValue) : Type 0 where
  pub sequence : store_sequence opened ≤ store_sequence found
  pub positions : AreNotPast (store_positions settings opened) (store_positions settings found)

-- the image is a sound store that opens to nothing earlier than `last`, and to exactly that if no save is unfinished
pub record SavesReopen (header : StoreHeader) (last : Option SavedValue) (unfinished : List CutValue) (image : List ℕ)
    : Type 0 where
  pub found : Option SavedValue
  pub opens : StoreOpensTo header image found
  pub no_earlier : IsNoEarlier header.settings last found
  pub exact : unfinished ≡ [] → found ≡ last

-- a store that had the bytes `store` before the cuts `saved` were saved, and before an unfinished save, if any: whatever a
-- crash now leaves of it (Possible) opens to nothing earlier than the last saved cut, or as before where none was saved
pub record ReopenFromStore (Possible : List ℕ → Type 0) (header : StoreHeader) (digest : List ℕ)
    (saved unfinished : List CutValue) (store : List ℕ) : Type 0 where
  pub opened : Option SavedValue
  pub opens : StoreOpensTo header store opened
  pub again : (image : List ℕ) → Possible image
      → SavesReopen header (last_of_saves opened (saves_after (store_sequence opened) digest saved)) unfinished image

-- the store on a disk opens again after a run, where its bytes were known as the run began, for the store's settings, the
-- dealt lists, the cuts that were saved of them, and one whose save is unfinished, if any
abbrev pub AreReopened : {D : Type 0} → DiskOf D → (old new : D)
    → StoreSettings → List (List RecordValue) → (saved unfinished : List CutValue) → Type 0
AreReopened d old new settings lists saved unfinished =
    IfImageKnown (d.reads old) (λ store. ReopenFromStore (d.image_now new) (stored_header settings store)
    (lists_digest (stored_header settings store) lists) saved unfinished store)

-- the image is a sound store with these settings in its header, and belongs to these lists
abbrev pub BelongsToLists : StoreSettings → List (List RecordValue) → List ℕ → Type 0
BelongsToLists settings lists image = StoreBelongs (stored_header settings image) lists image

-- the saved cut that a session went on from, if any, represents these lists, and whatever a crash leaves of the store at any
-- moment of the session, and after it, is a sound store that belongs to them
pub record BelongThroughout {D : Type 0} (d : DiskOf D) (settings : StoreSettings) (lists : List (List RecordValue))
    (base : Option CutValue) (old new : D) : Type 0 where
  pub base_represents : IfSome base (λ cut. CutRepresents cut lists)
  pub any_moment : CrashLeaves d.moment d.image_since old new (BelongsToLists settings lists)
  pub afterwards : (image : List ℕ) → d.image_now new image → BelongsToLists settings lists image

-- the disk reads as before, and a crash at any moment leaves what it could have left before
pub record IsAsBefore {D : Type 0} (d : DiskOf D) (old new : D) : Type 0 where
  pub same_reads : d.reads new ≡ d.reads old
  pub any_moment : CrashLeaves d.moment d.image_since old new (d.image_now old)

-- a saver after saves of these cuts
abbrev pub after_saves : SaverState → List CutValue → SaverState
after_saves saver cuts = fold saver_after saver cuts

-- a saver saved these cuts, one after the other, and the disk matches what the saver then knows
pub record SavesCuts {D : Type 0} (d : DiskOf D) (saver : SaverState) (cuts : List CutValue) (old new : D) : Type 0 where
  pub known : is_some (d.reads new) ≡ is_some (d.reads old)
  pub stands : DiskMatches (d.reads new) (d.image_now new) (after_saves saver cuts)
  pub kept : IfImageKnown (d.reads old)
      (KeepsSaves d old new saver.header saver.digest (λ image. ⊥) cuts [])

-- what a run with or without a saver did to the disk: the saver saved these cuts, or nothing was done
abbrev pub Saves : {D : Type 0} → DiskOf D → Option SaverState → List CutValue → D → D → Type 0
Saves d None cuts old new = new ≡ old
Saves d (Some saver) cuts old new =
    SavesCuts d saver cuts old new

-- what a run that broke off did to the disk: the saver saved the cuts `saved`, and its save of `unfinished`, if any, is
-- unfinished; without a saver nothing was done
pub record SavesInPart {D : Type 0} (d : DiskOf D) (saver : Option SaverState) (old new : D) (saved unfinished : List CutValue)
    : Type 0 where
  pub unused : saver ≡ None → new ≡ old
  pub kept : IfSome saver (λ saver. IfImageKnown (d.reads old)
      (KeepsSaves d old new saver.header saver.digest (λ image. ⊥) saved unfinished))

-- such saves, and this is the saver after them
pub record SavesInTurn {D : Type 0} (d : DiskOf D) (before after : Option SaverState) (old new : D) (cuts : List CutValue)
    : Type 0 where
  pub saver : after ≡ option_map (λ saver. after_saves saver cuts) before
  pub saves : Saves d before cuts old new

-- the saver after saves that broke off: none where a save is unfinished, else the one after those that were made
abbrev pub after_broken : Option SaverState → (saved unfinished : List CutValue) → Option SaverState
after_broken before saved [] = option_map (λ saver. after_saves saver saved) before
after_broken before saved (cut ∷ cuts) = None

-- saves that broke off, and this is the saver after them
pub record SavesBreakOff {D : Type 0} (d : DiskOf D) (before after : Option SaverState) (old new : D) (saved unfinished : List CutValue)
    : Type 0 where
  pub saver : after ≡ after_broken before saved unfinished
  pub saves : SavesInPart d before old new saved unfinished

-- a saver for a board that may save what a pass with this view reads: no position that it saved is past what the view
-- has seen
pub record SavesFitBoard (opening : List ShardValue) (view : View) (saver : SaverState) : Type 0 where
  pub settings : AreSettings saver.header.settings
  pub shards : saver.header.settings.shards ≡ length opening
  pub shape : settings_shape saver.header.settings ≡ core_shape opening
  pub seen : AreNotPast saver.positions (map (λ trail. trail.seen) view.trails)

-- a saver that may make this many saves of such reads, into the disk as it is
pub record CanMakeSaves (reads : Option (List ℕ)) (possible : List ℕ → Type 0) (opening : List ShardValue) (view : View)
    (count : ℕ) (saver : SaverState) : Type 0 where
  pub fits : SavesFitBoard opening view saver
  pub stands : DiskMatches reads possible saver
  pub early : saver.sequence + count ≤ greatest_sequence

-- positions that aren't past what some trails have seen aren't past what later ones have
not_past_later : {T : Type 0} (seen : T → ℕ) (positions : List ℕ) (before now : List T) → length now ≡ length before
    → ((shard : ℕ) (trail later : T) → slice_get before shard ≡ Some trail → slice_get now shard ≡ Some later
    → seen trail ≤ seen later)
    → AreNotPast positions (map seen before) → AreNotPast positions (map seen now)
not_past_later seen [] [] [] many later past = past
not_past_later seen [] [] (trail ∷ rest) many later past = absurd (omega (arith, many))
not_past_later seen [] (trail ∷ rest) now many later past = absurd past
not_past_later seen (position ∷ positions) [] now many later past = absurd past
not_past_later seen (position ∷ positions) (trail ∷ rest) [] many later past = absurd (omega (arith, many))
not_past_later seen (position ∷ positions) (trail ∷ rest) (next ∷ others) many later past =
    let rises : seen trail ≤ seen next = later 0 trail next refl refl in
    let first : position ≤ seen trail = past.0 in (
      omega (arith, first, rises),
      not_past_later seen positions rest others (omega (arith, many))
          (λ shard one other is is_other. later (suc shard) one other is is_other) past.1,
    )

-- a saver that may save still may with a later view of the same steps
pub CanMakeSaves-later : (reads : Option (List ℕ)) (possible : List ℕ → Type 0) (opening : List ShardValue)
    (before now : View) (count : ℕ) (saver : Option SaverState) → IsLaterView before now
    → IfSome saver (CanMakeSaves reads possible opening before count) → IfSome saver (CanMakeSaves reads possible opening now count)
CanMakeSaves-later reads possible opening before now count None later can = can
CanMakeSaves-later reads possible opening before now count (Some saver) later can = record {
  fits = record {
    settings = can.fits.settings;
    shards = can.fits.shards;
    shape = can.fits.shape;
    seen = not_past_later (λ trail. trail.seen) saver.positions before.trails now.trails later.as_many
        (λ shard trail next is is_next. (later.trails shard trail next is is_next).later) can.fits.seen;
  };
  stands = can.stands;
  early = can.early;
}

-- they are allowed, if the command's are
pub settings_of_store-allowed : (settings : Settings) → AreLimited settings → AreSettings (settings_of_store settings)
settings_of_store-allowed settings limited = record {
  some = limited.some_shards;
  few = limited.few_shards;
  least = limited.least_capacity;
  most = limited.fits;
}

-- a disk that is untouched is
pub IsAsBefore-untouched : {D : Type 0} (d : DiskOf D) (old new : D)
    → ((disk : D) (image : List ℕ) → d.image_since disk (d.moment disk) image → d.image_now disk image) → new ≡ old
    → IsAsBefore d old new
IsAsBefore-untouched d old new only_now same =
    subst (IsAsBefore d old) (sym same)
    (record { same_reads = refl; any_moment = CrashLeaves-none d.moment d.image_since old (d.image_now old) (only_now old) })
