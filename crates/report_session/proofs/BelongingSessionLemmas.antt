-- That the store of a session keeps belonging to the dealt lists.
use Rattle.std.proofs.Common.{◌≡◌, ◌+◌, ◌≤◌, ◌++◌, ℕ, Bool, true, List, [], ◌∷◌, Option, None, Some}
use Rattle.std.proofs.Common.{⊎_elim, refl, sym, subst, length, All}
use Rattle.std.specs.Prelude.{option_map, IfSome}
use Rattle.std.proofs.lemmas.Option.{IfSome_then}
use Rattle.std.proofs.lemmas.List.Elements.{All-append, All-head, All-nil, All-tail}
use Rattle.prefix_lattice.specs.{RecordValue, shard_limit}
use Rattle.shard_state.specs.{CutRepresents, CutValue, ShardValue}
use Rattle.hhh_report.specs.declared.reports.Reported.{Reported}
use Rattle.slot_disk.specs.{CrashLeaves-weaker}
use Rattle.slot_disk.specs.declared.disk.Disk.{Ghosts as DiskOf}
use Rattle.checkpoint.specs.{ShowsItsHeader, StoreBelongs, IsStoreOf, SavedValue, OpenToOne, lists_digest, stored_header}
use Rattle.checkpoint.specs.{store_sequence}
use Rattle.checkpoint.specs.declared.header.StoreHeader.{StoreHeader}
use Rattle.checkpoint.specs.declared.settings.StoreSettings.{StoreSettings}
use Rattle.recovery.specs.{OpensToBase}
use Rattle.command_words.specs.{AreLimited}
use Rattle.command_words.specs.declared.settings.Settings.{Settings}
use Rattle.report_text.specs.{tail_text}
use Rattle.report_session.specs.Saving.{BelongThroughout, BelongsToLists, AreKeptOnDisk, last_of_saves, saves_after}
use Rattle.report_session.specs.Saving.{IsAsBefore, settings_of_store, settings_of_store-allowed}
use Rattle.report_session.specs.KeptStore.{SessionsBelong}
use Rattle.report_session.specs.Session.{GoesOnFrom, IsSession, IsSessionInPart, IsShownInSession}
use Rattle.report_session.specs.Session.{GoesOnSoundly, SessionSaving, calling_reports, session_opening, saved_cuts}
use Rattle.report_session.specs.Session.{asked_shape}
use Rattle.dealt_capture.specs.{DealingRules}
use Rattle.report_session.proofs.BaseLemmas.{base_goes_on}
use Rattle.report_session.proofs.SavedStoreLemmas.{SavedStoreCutsRepresent, saved_store_belongs}
use Rattle.report_session.proofs.SavedStoreLemmas.{saved_store_cuts_represent}
use Rattle.report_session.proofs.OpeningShardLemmas.{opening_shards_are_shards}
use Rattle.report_session.proofs.OwnReportLemmas.{own_report_lists_of_opening}
use Rattle.report_session.proofs.ShownSessionLemmas.{shown_session_back_of_all, shown_session_front_of_all}
use Rattle.report_session.proofs.SessionTextLemmas.{session_text_whatever_was_saved, session_text_begins_saying_less}

-- the base that a store of the lists opened to represents them
belonging_session_base_of_lists : (header : StoreHeader) (lists : List (List RecordValue)) (opened : Option SavedValue)
    → IsStoreOf header lists opened
    → IfSome (option_map (λ (saved : SavedValue). saved.cut) opened) (λ cut. CutRepresents cut lists)
belonging_session_base_of_lists header lists None is = tt
belonging_session_base_of_lists header lists (Some saved) is = is.1

-- what a store opens to after saves of cuts that represent the lists is of them
belonging_session_saves_of_lists : (header : StoreHeader) (lists : List (List RecordValue)) (opened : Option SavedValue) (sequence : ℕ)
    (cuts : List CutValue) → IsStoreOf header lists opened → All (λ cut. CutRepresents cut lists) cuts
    → IsStoreOf header lists (last_of_saves opened (saves_after sequence (lists_digest header lists) cuts))
belonging_session_saves_of_lists header lists opened sequence [] is all = is
belonging_session_saves_of_lists header lists opened sequence (cut ∷ cuts) is all =
    belonging_session_saves_of_lists header lists
    (Some (record { sequence = sequence + 1; digest = lists_digest header lists; cut = cut })) (sequence + 1) cuts
    (refl, All-head (λ (c : CutValue). CutRepresents c lists) cut cuts all)
    (All-tail (λ (c : CutValue). CutRepresents c lists) cut cuts all)

-- a store that belongs to the lists under a header belongs to them under the one that its bytes have
pub belonging_session_by_its_bytes : ShowsItsHeader → (header : StoreHeader) (lists : List (List RecordValue)) (image : List ℕ)
    → StoreBelongs header lists image → BelongsToLists header.settings lists image
belonging_session_by_its_bytes shown header lists image belongs =
    subst (λ h. StoreBelongs h lists image) (sym (shown header image belongs.1.2.header)) belongs

-- a store that belonged to the lists still does after saves of cuts that represent them
belonging_session_keeps_belonging : OpenToOne → ShowsItsHeader → {D : Type 0} (d : DiskOf D)
    → ((disk : D) (bytes : List ℕ) → d.reads disk ≡ Some bytes → d.image_now disk bytes) → (settings : Settings)
    (lists : List (List RecordValue)) (base : Option CutValue) (saved unfinished : List CutValue) (old new : D)
    → AreLimited settings → settings.store ≡ true → GoesOnFrom settings lists (d.reads old) base
    → (IfSome base (λ cut. CutRepresents cut lists) → All (λ cut. CutRepresents cut lists) saved)
    → (IfSome base (λ cut. CutRepresents cut lists) → All (λ cut. CutRepresents cut lists) unfinished)
    → (store : List ℕ) → d.reads old ≡ Some store
    → ((image : List ℕ) → d.image_now old image → BelongsToLists (settings_of_store settings) lists image)
    → AreKeptOnDisk d old new (settings_of_store settings) lists saved unfinished
    → BelongThroughout d (settings_of_store settings) lists base old new
belonging_session_keeps_belonging one shown d read_is_image settings lists base saved unfinished old new limited used
    begins of_saved of_unfinished store known belonged kept =
    let asked : StoreSettings = settings_of_store settings in
    let of_store : StoreHeader = stored_header asked store in
    let digest : List ℕ = lists_digest of_store lists in
    let keeps = kept store known in
    let opened : Option SavedValue = keeps.opened in
    let sequence : ℕ = store_sequence opened in
    let held : StoreBelongs of_store lists store = belonged store (read_is_image old store known) in
    let found : OpensToBase asked lists store base = begins.opens used store known in
    let allowed = settings_of_store-allowed settings limited in
    let is : IsStoreOf of_store lists opened =
    subst (IsStoreOf of_store lists) (one of_store store held.0 opened allowed held.1 keeps.opens) held.2 in
    let represents : IfSome base (λ cut. CutRepresents cut lists) =
    subst (λ b. IfSome b (λ (cut : CutValue). CutRepresents cut lists)) (sym found.3)
    (belonging_session_base_of_lists of_store lists found.0
    (subst (IsStoreOf of_store lists) (one of_store store opened found.0 allowed keeps.opens found.1) is)) in
    let all : All (λ cut. CutRepresents cut lists) (saved ++ unfinished) =
    All-append (λ (cut : CutValue). CutRepresents cut lists) saved unfinished (of_saved represents)
    (of_unfinished represents) in
    record {
      base_represents = represents;
      any_moment = CrashLeaves-weaker d.moment d.image_since old new _ (BelongsToLists asked lists) keeps.any_moment
          (λ image was. ⊎_elim (belonged image) (λ among. belonging_session_by_its_bytes shown of_store lists image
          (saved_store_belongs of_store lists opened sequence (saved ++ unfinished) image is all among)) was);
      afterwards = λ image possible. belonging_session_by_its_bytes shown of_store lists image
          (saved_store_belongs of_store lists (last_of_saves opened (saves_after sequence digest saved)) (sequence + length saved)
          unfinished image (belonging_session_saves_of_lists of_store lists opened sequence saved is (of_saved represents))
          (of_unfinished represents) (keeps.afterwards image possible));
    }

-- the cuts of reports of a session represent the lists, if its base does
belonging_session_cuts_represent : SavedStoreCutsRepresent → (settings : Settings) (lists : List (List RecordValue))
    (store : Option (List ℕ)) (base : Option CutValue) (reports : List Reported) → AreLimited settings
    → length lists ≡ settings.shards → GoesOnFrom settings lists store base
    → GoesOnSoundly lists base (session_opening (asked_shape settings) lists base)
    → All (IsShownInSession (session_opening (asked_shape settings) lists base) settings) reports
    → IfSome base (λ cut. CutRepresents cut lists)
    → All (λ cut. CutRepresents cut lists) (saved_cuts true (session_opening (asked_shape settings) lists base) reports)
belonging_session_cuts_represent represent settings lists store base reports limited many begins represents shown standing =
    let opening : List ShardValue = session_opening (asked_shape settings) lists base in
    subst (λ l. All (λ (cut : CutValue). CutRepresents cut l) (saved_cuts true opening reports))
    (own_report_lists_of_opening settings lists store base begins)
    (saved_store_cuts_represent represent opening settings reports
    (opening_shards_are_shards (asked_shape settings) lists base (subst (λ n. 1 ≤ n) (sym many) limited.some_shards)
    (subst (λ n. n ≤ shard_limit) (sym many) limited.few_shards) (base_goes_on settings lists store base limited begins)
    (IfSome_then base standing (λ cut stands. stands.alike)))
    (represents standing) shown)

-- the same, with or without a store
belonging_session_kept_cuts : (store : Bool) (opening : List ShardValue) (lists : List (List RecordValue))
    (reports : List Reported) → store ≡ true → All (λ cut. CutRepresents cut lists) (saved_cuts true opening reports)
    → All (λ cut. CutRepresents cut lists) (saved_cuts store opening reports)
belonging_session_kept_cuts store opening lists reports used all =
    subst (λ b. All (λ (cut : CutValue). CutRepresents cut lists) (saved_cuts b opening reports)) (sym used) all

-- a whole session
belonging_session_completed : OpenToOne → ShowsItsHeader → SavedStoreCutsRepresent → {D : Type 0} (d : DiskOf D)
    → ((disk : D) (bytes : List ℕ) → d.reads disk ≡ Some bytes → d.image_now disk bytes) → (rules : DealingRules)
    (settings : Settings) (old new : D) (store : List ℕ) (file : Option (List ℕ)) (text : List ℕ)
    (is : IsSession settings rules (AreKeptOnDisk d old new) (d.reads old) file text)
    → AreLimited settings → settings.store ≡ true → d.reads old ≡ Some store
    → ((image : List ℕ) → d.image_now old image → BelongsToLists (settings_of_store settings) is.lists image)
    → BelongThroughout d (settings_of_store settings) is.lists is.base old new
belonging_session_completed one shown represent d read_is_image rules settings old new store file text is limited
    used known belonged =
    let opening : List ShardValue = session_opening (asked_shape settings) is.lists is.base in
    let many : length is.lists ≡ settings.shards = is.as_many in
    let reports : List Reported = calling_reports is.spelled.reports in
    belonging_session_keeps_belonging one shown d read_is_image settings is.lists is.base
    (saved_cuts settings.store opening reports) [] old new limited used is.begins
    (λ standing. belonging_session_kept_cuts settings.store opening is.lists reports used
    (belonging_session_cuts_represent represent settings is.lists (d.reads old) is.base reports limited many is.begins is.represents
    is.spelled.are_reports.calling.shown standing))
    (λ standing. All-nil (λ (cut : CutValue). CutRepresents cut is.lists)) store known belonged (is.spelled.kept used)

-- a session that broke off
belonging_session_broken_off : OpenToOne → ShowsItsHeader → SavedStoreCutsRepresent → {D : Type 0} (d : DiskOf D)
    → ((disk : D) (bytes : List ℕ) → d.reads disk ≡ Some bytes → d.image_now disk bytes) → (rules : DealingRules)
    (settings : Settings) (old new : D) (store : List ℕ) (file : Option (List ℕ)) (front : List ℕ)
    (is : IsSessionInPart settings rules (AreKeptOnDisk d old new) (d.reads old) file front)
    → AreLimited settings → settings.store ≡ true → d.reads old ≡ Some store
    → ((image : List ℕ) → d.image_now old image → BelongsToLists (settings_of_store settings) is.lists image)
    → BelongThroughout d (settings_of_store settings) is.lists is.base old new
belonging_session_broken_off one shown represent d read_is_image rules settings old new store file front is limited
    used known belonged =
    let lists : List (List RecordValue) = is.lists in
    let base : Option CutValue = is.base in
    let opening : List ShardValue = session_opening (asked_shape settings) lists base in
    let many : length lists ≡ settings.shards = is.as_many in
    let Stand : List CutValue → Type 0 = All (λ cut. CutRepresents cut lists) in
    let Standing : Type 0 = IfSome base (λ cut. CutRepresents cut lists) in
    let Kept : SessionSaving = λ saved unfinished. settings.store ≡ true
    → AreKeptOnDisk d old new (settings_of_store settings) lists saved unfinished in
    let Belonging : Type 0 = BelongThroughout d (settings_of_store settings) lists base old new in
    let cuts : List Reported → List CutValue = saved_cuts settings.store opening in
    let no_cut : Stand [] = All-nil (λ (cut : CutValue). CutRepresents cut lists) in
    let of : (reports : List Reported) → All (IsShownInSession opening settings) reports → Standing → Stand (cuts reports) =
    λ reports shown standing. belonging_session_kept_cuts settings.store opening lists reports used
    (belonging_session_cuts_represent represent settings lists (d.reads old) base reports limited many is.begins is.represents shown
    standing) in
    let belongs : (saved unfinished : List CutValue) → (Standing → Stand saved) → (Standing → Stand unfinished)
    → Kept saved unfinished → Belonging = λ saved unfinished of_saved of_unfinished kept.
    belonging_session_keeps_belonging one shown d read_is_image settings lists base saved unfinished old new limited
    used is.begins of_saved of_unfinished store known belonged (kept used) in
    session_text_whatever_was_saved opening settings Belonging (tail_text is.records) front
    (session_text_begins_saying_less opening settings Kept (λ saved unfinished. Belonging) (record {
      saved = λ reports shown. belongs (cuts reports) [] (of reports shown) (λ standing. no_cut);
      unfinished = λ count rounds next are. belongs (cuts rounds) (cuts (next ∷ []))
          (of rounds (shown_session_front_of_all (IsShownInSession opening settings) rounds (next ∷ []) are.shown))
          (of (next ∷ []) (shown_session_back_of_all (IsShownInSession opening settings) rounds (next ∷ []) are.shown));
    }) (tail_text is.records) front is.begun)

-- sessions of both kinds
pub belonging_sessions : OpenToOne → ShowsItsHeader → SavedStoreCutsRepresent → {D : Type 0} (d : DiskOf D)
    → ((disk : D) (bytes : List ℕ) → d.reads disk ≡ Some bytes → d.image_now disk bytes) → (rules : DealingRules)
    → SessionsBelong d rules
belonging_sessions one shown represent d read_is_image rules = record {
  whole = λ old new settings store file text is.
      belonging_session_completed one shown represent d read_is_image rules settings old new store file text is;
  in_part = λ old new settings store file front is.
      belonging_session_broken_off one shown represent d read_is_image rules settings old new store file front is;
}

-- a disk that is as before
pub belonging_session_on_same_disk : {D : Type 0} (d : DiskOf D)
    → ((disk : D) (t : ℕ) (image : List ℕ) → t ≤ d.moment disk → d.image_now disk image → d.image_since disk t image)
    → (settings : StoreSettings) (lists : List (List RecordValue)) (old new : D) → IsAsBefore d old new
    → ((image : List ℕ) → d.image_now old image → BelongsToLists settings lists image)
    → BelongThroughout d settings lists None old new
belonging_session_on_same_disk d now_is_since settings lists old new same belonged = record {
  base_represents = tt;
  any_moment = CrashLeaves-weaker d.moment d.image_since old new (d.image_now old) (BelongsToLists settings lists) same.any_moment
      belonged;
  afterwards = λ image now.
      belonged image (same.any_moment.each image (now_is_since new (d.moment old) image same.any_moment.later now));
}
