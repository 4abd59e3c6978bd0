-- Saves into a store, one after the other.
use Rattle.std.proofs.Common.{◌≡◌, ◌∙◌, ◌+◌, ◌⊎◌, inl, inr, ⊎_elim, ℕ, Bool, true, false, List, [], ◌∷◌, ◌++◌, Option}
use Rattle.std.proofs.Common.{None, Some, ◌≤◌, refl, sym, ap, ap₂, subst, arith, length, append_assoc, append-nil}
use Rattle.std.specs.Prelude.{IfSome, is_some, option_map}
use Rattle.std.proofs.lemmas.List.{length-append, map-append}
use Rattle.std.proofs.lemmas.List.Sums.{fold-append}
use Rattle.shard_state.specs.{CutValue, ShardValue}
use Rattle.hhh_report.specs.declared.report.Report.{Report}
use Rattle.hhh_report.specs.declared.reports.Reported.{Reported}
use Rattle.gate_workers.specs.{cut_at}
use Rattle.slot_disk.specs.{IfImageKnown, CrashLeaves, CrashLeaves-none, CrashLeaves-trans, CrashLeaves-weaker}
use Rattle.slot_disk.specs.declared.disk.Disk.{Ghosts as DiskOf}
use Rattle.checkpoint.specs.{AreSettings, IsKnownSaver, OpensOldOrNew, StoreOpensTo, SavedValue, SaverState}
use Rattle.checkpoint.specs.{DiskMatches, OpenToOne, saver_after, newest_in, next_saved, store_sequence}
use Rattle.checkpoint.specs.declared.header.StoreHeader.{StoreHeader}
use Rattle.report_session.specs.DealtFeed.{CanSaveCut}
use Rattle.report_session.specs.Saving.{KeepsSaves, OpensToSaves, Saves, SavesCuts, SavesInPart, SavesBreakOff}
use Rattle.report_session.specs.Saving.{SavesInTurn, after_saves, after_broken, last_of_saves, saves_after}
use Rattle.report_session.specs.Session.{saved_cuts}

-- one save after others
pub saves_after-append_saves : (sequence : ℕ) (digest : List ℕ) (cuts later : List CutValue)
    → saves_after sequence digest (cuts ++ later)
    ≡ saves_after sequence digest cuts ++ saves_after (sequence + length cuts) digest later
saves_after-append_saves sequence digest [] later = ap (λ n. saves_after n digest later) (omega arith)
saves_after-append_saves sequence digest (cut ∷ cuts) later =
    ap (λ rest. record { sequence = sequence + 1; digest = digest; cut = cut } ∷ rest)
    (saves_after-append_saves (sequence + 1) digest cuts later
    ∙ ap (λ n. saves_after (sequence + 1) digest cuts ++ saves_after n digest later) (omega arith))

-- what a store opens to after more saves
pub last_save_after_saves : (opened : Option SavedValue) (sequence : ℕ) (digest : List ℕ) (cuts later : List CutValue)
    → last_of_saves opened (saves_after sequence digest (cuts ++ later))
    ≡ last_of_saves (last_of_saves opened (saves_after sequence digest cuts)) (saves_after (sequence + length cuts) digest later)
last_save_after_saves opened sequence digest [] later = ap (λ n. last_of_saves opened (saves_after n digest later)) (omega arith)
last_save_after_saves opened sequence digest (cut ∷ cuts) later =
    let first : SavedValue = record { sequence = sequence + 1; digest = digest; cut = cut } in
    last_save_after_saves (Some first) (sequence + 1) digest cuts later
    ∙ ap (λ n. last_of_saves (last_of_saves (Some first) (saves_after (sequence + 1) digest cuts)) (saves_after n digest later))
    (omega arith)

-- each save takes the next sequence
pub save_takes_next_sequence : (opened : Option SavedValue) (digest : List ℕ) (cuts : List CutValue)
    → store_sequence (last_of_saves opened (saves_after (store_sequence opened) digest cuts))
    ≡ store_sequence opened + length cuts
save_takes_next_sequence opened digest [] = omega arith
save_takes_next_sequence opened digest (cut ∷ cuts) =
    save_takes_next_sequence (Some (record { sequence = store_sequence opened + 1; digest = digest; cut = cut })) digest cuts
    ∙ omega arith

opens_at_earlier_saves : (header : StoreHeader) (opened : Option SavedValue) (saves later : List SavedValue) (image : List ℕ)
    → OpensToSaves header opened saves image → OpensToSaves header opened (saves ++ later) image
opens_at_earlier_saves header opened [] [] image opens = opens
opens_at_earlier_saves header opened [] (saved ∷ later) image opens = inl opens
opens_at_earlier_saves header opened (saved ∷ saves) later image (inl opens) = inl opens
opens_at_earlier_saves header opened (saved ∷ saves) later image (inr among) =
    inr (opens_at_earlier_saves header (Some saved) saves later image among)

opens_at_later_saves : (header : StoreHeader) (opened : Option SavedValue) (saves later : List SavedValue) (image : List ℕ)
    → OpensToSaves header (last_of_saves opened saves) later image → OpensToSaves header opened (saves ++ later) image
opens_at_later_saves header opened [] later image among = among
opens_at_later_saves header opened (saved ∷ saves) later image among =
    inr (opens_at_later_saves header (Some saved) saves later image among)

-- what is known as a call began is known after it
pub save_leaves_bytes_known : (old new : Option (List ℕ)) (bytes : List ℕ) → is_some new ≡ is_some old → old ≡ Some bytes
    → (now : List ℕ) × (new ≡ Some now)
save_leaves_bytes_known old None bytes known is = cc (known, is)
save_leaves_bytes_known old (Some now) bytes known is = (now, refl)

-- saves into a disk
module _ (one : OpenToOne) {D : Type 0} (d : DiskOf D) where
  -- what a save may leave at any moment
  save_leaves : (saver : SaverState) (cut : CutValue) (old new : D) (bytes : List ℕ) → AreSettings saver.header.settings
      → (store : IsKnownSaver saver bytes)
      → CrashLeaves d.moment d.image_since old new (OpensOldOrNew saver.header bytes (next_saved saver cut))
      → CrashLeaves d.moment d.image_since old new (λ image. ⊥ ⊎ OpensToSaves saver.header (newest_in store.first store.second)
      (saves_after (store_sequence (newest_in store.first store.second)) saver.digest (cut ∷ [])) image)
  save_leaves saver cut old new bytes are store any_moment =
      let opened : Option SavedValue = newest_in store.first store.second in
      let same : next_saved saver cut ≡ record { sequence = store_sequence opened + 1; digest = saver.digest; cut = cut } =
      ap (λ n. record { sequence = n + 1; digest = saver.digest; cut = cut }) store.sequence_is in
      CrashLeaves-weaker d.moment d.image_since old new _ _ any_moment (λ image. ⊎_elim
      (λ alike. inr (inl (subst (StoreOpensTo saver.header image)
      (one saver.header bytes alike.0 opened are alike.1 (store.first, store.second, store.holds, refl)) alike.2)))
      (λ is_new. inr (inr (subst (λ s. StoreOpensTo saver.header image (Some s)) same is_new))))

  -- one save, as its contract states it
  pub one_save : (saver : SaverState) (cut : CutValue) (old new : D)
      → AreSettings saver.header.settings → DiskMatches (d.reads old) (d.image_now old) saver
      → is_some (d.reads new) ≡ is_some (d.reads old)
      → DiskMatches (d.reads new) (d.image_now new) (saver_after saver cut)
      → IfImageKnown (d.reads new) (λ bytes. (image : List ℕ) → d.image_now new image
      → StoreOpensTo saver.header image (Some (next_saved saver cut))) → IfImageKnown (d.reads old)
      (λ bytes. CrashLeaves d.moment d.image_since old new (OpensOldOrNew saver.header bytes (next_saved saver cut)))
      → SavesCuts d saver (cut ∷ []) old new
  one_save saver cut old new are before known stands opens any_moment = record {
    known = known;
    stands = stands;
    kept = λ bytes is.
        let store = (before bytes is).is_known in
        let bytes_now = save_leaves_bytes_known (d.reads old) (d.reads new) bytes known is in
        record {
          opened = newest_in store.first store.second;
          opens = (store.first, store.second, store.holds, refl);
          any_moment = save_leaves saver cut old new bytes are store (any_moment bytes is);
          afterwards = λ image now. subst (λ s. StoreOpensTo saver.header image (Some s))
              (ap (λ n. record { sequence = n + 1; digest = saver.digest; cut = cut }) store.sequence_is)
              (opens bytes_now.0 bytes_now.1 image now);
        };
  }

  -- an unfinished save by the saver that is there, as its contract states it
  pub unfinished_save_of : (before : Option SaverState) (saver : SaverState)
      (cut : CutValue) (old new : D) → before ≡ Some saver
      → IfSome before (CanSaveCut (d.reads old) (d.image_now old) cut)
      → ((disk : D) (t : ℕ) (image : List ℕ) → t ≤ d.moment disk → d.image_now disk image → d.image_since disk t image)
      → IfImageKnown (d.reads old)
      (λ bytes. CrashLeaves d.moment d.image_since old new (OpensOldOrNew saver.header bytes (next_saved saver cut)))
      → SavesInPart d before old new [] (cut ∷ [])
  unfinished_save_of before saver cut old new is can now_is_since any_moment =
      let may : CanSaveCut (d.reads old) (d.image_now old) cut saver =
      subst (λ s. IfSome s (CanSaveCut (d.reads old) (d.image_now old) cut)) is can in
      subst (λ s. SavesInPart d s old new [] (cut ∷ [])) (sym is) (record {
        unused = λ none. cc none;
        kept = λ bytes known.
            let store = (may.stands bytes known).is_known in
            let opened : Option SavedValue = newest_in store.first store.second in
            let leaves = save_leaves saver cut old new bytes may.settings store (any_moment bytes known) in
            record {
              opened = opened;
              opens = (store.first, store.second, store.holds, refl);
              any_moment = leaves;
              afterwards = λ image now.
                  subst (λ n. OpensToSaves saver.header opened (saves_after n saver.digest (cut ∷ [])) image) (omega arith)
                  (⊎_elim (λ never. absurd never) (λ among. among)
                  (leaves.each image (now_is_since new (d.moment old) image leaves.later now)));
            };
      })

-- no save
pub no_save : {D : Type 0} (d : DiskOf D) (before : Option SaverState) (disk : D)
    → ((image : List ℕ) → d.image_since disk (d.moment disk) image → d.image_now disk image)
    → IfSome before (DiskMatches (d.reads disk) (d.image_now disk)) → SavesInTurn d before before disk disk []
no_save d None disk only_now stands = record { saver = refl; saves = refl }
no_save d (Some saver) disk only_now stands = record {
  saver = refl;
  saves = record {
    known = refl;
    stands = stands;
    kept = λ bytes is.
        let store = stands bytes is in
        let first = store.is_known.first in
        let second = store.is_known.second in
        let was : StoreOpensTo saver.header bytes (newest_in first second) = (first, second, store.is_known.holds, refl) in
        record {
          opened = newest_in first second;
          opens = was;
          any_moment = CrashLeaves-none d.moment d.image_since disk
              (λ image. ⊥ ⊎ StoreOpensTo saver.header image (newest_in first second))
              (λ image since. inr (subst (λ i. StoreOpensTo saver.header i (newest_in first second))
              (sym (store.only image (only_now image since))) was));
          afterwards = λ image now.
              subst (λ i. StoreOpensTo saver.header i (newest_in first second)) (sym (store.only image now)) was;
        };
  };
}

-- saves leave the header and the digest of their saver
pub saves_leave_header : (saver : SaverState) (cuts : List CutValue) → (after_saves saver cuts).header ≡ saver.header
saves_leave_header saver [] = refl
saves_leave_header saver (cut ∷ cuts) = saves_leave_header (saver_after saver cut) cuts

pub saves_leave_digest : (saver : SaverState) (cuts : List CutValue) → (after_saves saver cuts).digest ≡ saver.digest
saves_leave_digest saver [] = refl
saves_leave_digest saver (cut ∷ cuts) = saves_leave_digest (saver_after saver cut) cuts

pub saves_raise_sequence : (saver : SaverState) (cuts : List CutValue)
    → (after_saves saver cuts).sequence ≡ saver.sequence + length cuts
saves_raise_sequence saver [] = omega arith
saves_raise_sequence saver (cut ∷ cuts) = saves_raise_sequence (saver_after saver cut) cuts ∙ omega arith

-- the saver after saves, and then after saves that broke off
saver_after_more_saves : (before between : Option SaverState) (cuts saved unfinished : List CutValue)
    → between ≡ option_map (λ saver. after_saves saver cuts) before
    → after_broken between saved unfinished ≡ after_broken before (cuts ++ saved) unfinished
saver_after_more_saves before between cuts saved (cut ∷ more) is = refl
saver_after_more_saves None between cuts saved [] is = ap (option_map (λ saver. after_saves saver saved)) is
saver_after_more_saves (Some saver) between cuts saved [] is =
    ap (option_map (λ saver. after_saves saver saved)) is ∙ ap Some (sym (fold-append saver_after saver cuts saved))

-- saves that follow others, into the store that these left
module _ (one : OpenToOne) {D : Type 0} (d : DiskOf D)
    (reading_is_image : (disk : D) (bytes : List ℕ) → d.reads disk ≡ Some bytes → d.image_now disk bytes) where
  kept_saves_follow : (saver : SaverState) (cuts later unfinished : List CutValue) (old mid new : D)
      → AreSettings saver.header.settings → is_some (d.reads mid) ≡ is_some (d.reads old)
      → IfImageKnown (d.reads old) (KeepsSaves d old mid saver.header saver.digest (λ image. ⊥) cuts [])
      → IfImageKnown (d.reads mid) (KeepsSaves d mid new (after_saves saver cuts).header (after_saves saver cuts).digest
      (λ image. ⊥) later unfinished)
      → IfImageKnown (d.reads old) (KeepsSaves d old new saver.header saver.digest (λ image. ⊥) (cuts ++ later) unfinished)
  kept_saves_follow saver cuts later unfinished old mid new are known kept kept_next = λ store is.
      let between = save_leaves_bytes_known (d.reads old) (d.reads mid) store known is in
      let header : StoreHeader = saver.header in
      let digest : List ℕ = saver.digest in
      let first = kept store is in
      let second : KeepsSaves d mid new header digest (λ image. ⊥) later unfinished between.0 =
      subst (λ h. KeepsSaves d mid new h digest (λ image. ⊥) later unfinished between.0) (saves_leave_header saver cuts)
      (subst (λ of. KeepsSaves d mid new (after_saves saver cuts).header of (λ image. ⊥) later unfinished between.0)
      (saves_leave_digest saver cuts) (kept_next between.0 between.1)) in
      let opened : Option SavedValue = first.opened in
      let start : ℕ = store_sequence opened in
      let saves : List SavedValue = saves_after start digest cuts in
      let then : ℕ = store_sequence second.opened in
      let next : List SavedValue = saves_after then digest (later ++ unfinished) in
      let same : second.opened ≡ last_of_saves opened saves =
      one header between.0 second.opened (last_of_saves opened saves) are second.opens
      (first.afterwards between.0 (reading_is_image mid between.0 between.1)) in
      let sequence : then ≡ start + length cuts = ap store_sequence same ∙ save_takes_next_sequence opened digest cuts in
      let parted : saves_after start digest ((cuts ++ later) ++ unfinished) ≡ saves ++ next =
      ap (saves_after start digest) (append_assoc cuts later unfinished) ∙ saves_after-append_saves start digest cuts (later ++ unfinished)
      ∙ ap (λ n. saves ++ saves_after n digest (later ++ unfinished)) (sym sequence) in
      let last : last_of_saves opened (saves_after start digest (cuts ++ later))
      ≡ last_of_saves second.opened (saves_after then digest later) =
      last_save_after_saves opened start digest cuts later
      ∙ ap₂ (λ held n. last_of_saves held (saves_after n digest later)) (sym same) (sym sequence) in
      record {
        opened = opened;
        opens = first.opens;
        any_moment = CrashLeaves-trans d.moment d.image_since old mid new _
            (CrashLeaves-weaker d.moment d.image_since old mid _ _ first.any_moment
            (λ image. ⊎_elim (λ never. absurd never) (λ among. inr (subst (λ list. OpensToSaves header opened list image) (sym parted)
            (opens_at_earlier_saves header opened saves next image
            (subst (λ list. OpensToSaves header opened (saves_after start digest list) image) (append-nil cuts) among))))))
            (CrashLeaves-weaker d.moment d.image_since mid new _ _ second.any_moment
            (λ image. ⊎_elim (λ never. absurd never) (λ among. inr (subst (λ list. OpensToSaves header opened list image) (sym parted)
            (opens_at_later_saves header opened saves next image
            (subst (λ held. OpensToSaves header held next image) same among))))));
        afterwards = λ image now. subst (λ held. OpensToSaves header held
            (saves_after (start + length (cuts ++ later)) digest unfinished) image) (sym last)
            (subst (λ n. OpensToSaves header (last_of_saves second.opened (saves_after then digest later))
            (saves_after n digest unfinished) image) (omega (arith, sequence, length-append cuts later))
            (second.afterwards image now));
      }

  pub saves_follow : (before between after : Option SaverState) (cuts later : List CutValue) (old mid new : D)
      → IfSome before (λ saver. AreSettings saver.header.settings)
      → SavesInTurn d before between old mid cuts → SavesInTurn d between after mid new later
      → SavesInTurn d before after old new (cuts ++ later)
  saves_follow None between after cuts later old mid new are first second =
      let then : SavesInTurn d None after mid new later = subst (λ s. SavesInTurn d s after mid new later) first.saver second in
      record { saver = then.saver; saves = then.saves ∙ first.saves }
  saves_follow (Some saver) between after cuts later old mid new are first second =
      let then : SavesInTurn d (Some (after_saves saver cuts)) after mid new later =
      subst (λ s. SavesInTurn d s after mid new later) first.saver second in
      let all : after_saves (after_saves saver cuts) later ≡ after_saves saver (cuts ++ later) =
      sym (fold-append saver_after saver cuts later) in
      record {
        saver = then.saver ∙ ap Some all;
        saves = record {
          known = then.saves.known ∙ first.saves.known;
          stands = subst (DiskMatches (d.reads new) (d.image_now new)) all then.saves.stands;
          kept = kept_saves_follow saver cuts later [] old mid new are first.saves.known first.saves.kept then.saves.kept;
        };
      }

  -- what broke off after saves
  pub broken_off_save_follows : (before between : Option SaverState) (cuts saved unfinished : List CutValue) (old mid new : D)
      → IfSome before (λ saver. AreSettings saver.header.settings)
      → SavesInTurn d before between old mid cuts → SavesInPart d between mid new saved unfinished
      → SavesInPart d before old new (cuts ++ saved) unfinished
  broken_off_save_follows None between cuts saved unfinished old mid new are first second =
      record { unused = λ none. second.unused first.saver ∙ first.saves; kept = tt }
  broken_off_save_follows (Some saver) between cuts saved unfinished old mid new are first second = record {
    unused = λ none. cc none;
    kept = kept_saves_follow saver cuts saved unfinished old mid new are first.saves.known first.saves.kept
        (subst (λ s. SavesInPart d s mid new saved unfinished) first.saver second).kept;
  }

  -- and the saver after it
  pub broken_saves_follow : (before between after : Option SaverState) (cuts saved unfinished : List CutValue) (old mid new : D)
      → IfSome before (λ saver. AreSettings saver.header.settings)
      → SavesInTurn d before between old mid cuts → SavesBreakOff d between after mid new saved unfinished
      → SavesBreakOff d before after old new (cuts ++ saved) unfinished
  broken_saves_follow before between after cuts saved unfinished old mid new are first second = record {
    saver = second.saver ∙ saver_after_more_saves before between cuts saved unfinished first.saver;
    saves = broken_off_save_follows before between cuts saved unfinished old mid new are first second.saves;
  }

-- saves that were made leave none unfinished
pub part_of_saves : {D : Type 0} (d : DiskOf D) (before : Option SaverState) (old new : D) (cuts : List CutValue)
    → Saves d before cuts old new → SavesInPart d before old new cuts []
part_of_saves d None old new cuts saves =
    record { unused = λ none. saves; kept = tt }
part_of_saves d (Some saver) old new cuts saves =
    record { unused = λ none. cc none; kept = saves.kept }

-- nothing was saved into a disk that is untouched
pub no_save_into_untouched_disk : {D : Type 0} (d : DiskOf D) (before : Option SaverState) (old new : D)
    → ((disk : D) (image : List ℕ) → d.image_since disk (d.moment disk) image → d.image_now disk image)
    → IfSome before (DiskMatches (d.reads old) (d.image_now old)) → new ≡ old → SavesInPart d before old new [] []
no_save_into_untouched_disk d before old new only_now stands same =
    subst (λ disk. SavesInPart d before old disk [] []) (sym same) (part_of_saves d before old old []
    (no_save d before old (only_now old) stands).saves)

-- the saver after no save
no_save_keeps_saver : (saver : Option SaverState) → saver ≡ after_broken saver [] []
no_save_keeps_saver None = refl
no_save_keeps_saver (Some saver) = refl

-- saves that broke off before the first, into a disk that is untouched, and with the saver as it was
pub no_save_broke_off : {D : Type 0} (d : DiskOf D) (before after : Option SaverState) (old new : D)
    → ((disk : D) (image : List ℕ) → d.image_since disk (d.moment disk) image → d.image_now disk image)
    → IfSome before (DiskMatches (d.reads old) (d.image_now old)) → after ≡ before → new ≡ old
    → SavesBreakOff d before after old new [] []
no_save_broke_off d before after old new only_now stands same_saver same = record {
  saver = same_saver ∙ no_save_keeps_saver before;
  saves = no_save_into_untouched_disk d before old new only_now stands same;
}

-- saves that were made before what broke off
pub whole_saves_broke_off : {D : Type 0} (d : DiskOf D) (before after : Option SaverState) (old new : D) (cuts : List CutValue)
    → SavesInTurn d before after old new cuts → SavesBreakOff d before after old new cuts []
whole_saves_broke_off d before after old new cuts saves = record {
  saver = saves.saver;
  saves = part_of_saves d before old new cuts saves.saves;
}

-- the cuts saved after some reports and more
pub saved_cuts-append_saves : (store : Bool) (opening : List ShardValue) (reports later : List Reported)
    → saved_cuts store opening (reports ++ later) ≡ saved_cuts store opening reports ++ saved_cuts store opening later
saved_cuts-append_saves false opening reports later = refl
saved_cuts-append_saves true opening reports later = map-append (λ (r : Reported). cut_at opening r.report.positions) reports later

-- without a saver there are no cuts
pub no_saver_no_save : {D : Type 0} (d : DiskOf D) (before after : Option SaverState) (old new : D) (cuts : List CutValue)
    → is_some before ≡ false → SavesInTurn d before after old new cuts → SavesInTurn d before after old new []
no_saver_no_save d None after old new cuts none saves =
    record { saver = saves.saver; saves = saves.saves }
no_saver_no_save d (Some saver) after old new cuts none saves = cc none

-- the cut that is saved after one report
pub save_of_reported_cut : (store : Bool) (opening : List ShardValue) (report : Report) (cut : CutValue)
    (Kept : List CutValue → Type 0) → cut ≡ cut_at opening report.positions
    → (store ≡ false → Kept (cut ∷ []) → Kept []) → Kept (cut ∷ [])
    → Kept (saved_cuts store opening (record { report = report; saved = None } ∷ []))
save_of_reported_cut false opening report cut Kept is none kept = none refl kept
save_of_reported_cut true opening report cut Kept is none kept = subst (λ c. Kept (c ∷ [])) is kept

-- without a saver nothing was done
pub save_needs_saver : {D : Type 0} (d : DiskOf D) (before after : Option SaverState) (old new : D) (cuts : List CutValue)
    → SavesInTurn d before after old new cuts → before ≡ None → (after ≡ None) × (new ≡ old)
save_needs_saver d None after old new cuts saves none = (saves.saver, saves.saves)
save_needs_saver d (Some saver) after old new cuts saves none = cc none
