-- How a report over dealt lists ends: from its base and its session.
use Rattle.std.proofs.Common.{◌≡◌, ◌∙◌, ◌⊎◌, ◌++◌, [], inl, inr, ⊎_elim, ℕ, true, List, Option, None, Some, refl, sym}
use Rattle.std.proofs.Common.{ap, subst}
use Rattle.std.specs.Prelude.{IfSome, is_some}
use Rattle.std.proofs.lemmas.Bool.{false≢true}
use Rattle.outside_io.specs.{FaultRose}
use Rattle.prefix_lattice.specs.{RecordValue}
use Rattle.shard_state.specs.{CutValue}
use Rattle.slot_disk.specs.{IfImageKnown, CrashLeaves, CrashLeaves-trans, CrashLeaves-weaker}
use Rattle.slot_disk.specs.declared.disk.Disk.{Ghosts as DiskOf}
use Rattle.checkpoint.specs.{ShowsItsHeader, SaverState, lists_digest, store_sequence, stored_header}
use Rattle.checkpoint.specs.declared.header.StoreHeader.{StoreHeader}
use Rattle.recovery.specs.{RefusesOpening}
use Rattle.recovery.specs.declared.fault.OpenFault.{OpenFault}
use Rattle.recovery.specs.declared.fault.OpenFault.TheVariants as opening
use Rattle.command_words.specs.declared.settings.Settings.{Settings}
use Rattle.report_session.specs.Session.{AreSessionShards, WritesAnswer, BeginsSession, GoesOnFrom, SessionKeeping}
use Rattle.report_session.specs.Session.{GoesOnSoundly, SessionSaving, IsOverShards, session_opening, asked_shape}
use Rattle.report_session.specs.DealtFeed.{FeedEnds, HasNoBase, IsFeedFault, IsFeedSaver, FeedWrites, FeedWritesPart}
use Rattle.report_session.specs.LiveRounds.{round_faults}
use Rattle.report_session.specs.Saving.{KeepsSaves, OpensToSaves, SavesInPart, AreKeptOnDisk, saves_after}
use Rattle.report_session.specs.Saving.{settings_of_store, IsAsBefore}
use Rattle.run_status.specs.{status_of_opening}
use Rattle.run_status.specs.declared.status.Status.{Status}
use Rattle.run_status.specs.declared.status.Status.TheVariants.{WriteFault, DiskFault, OutOfMemory}
use Rattle.report_session.proofs.SessionTextLemmas.{session_text_begins_weaker, spelled_session_text_says_less}
use Rattle.outside_io.specs.declared.sink.Sink.{Ghosts as SinkOf}

-- what a run keeps of its store, from the opening of the store and the saves after it
pub dealt_report_keeps_saves : ShowsItsHeader → {D : Type 0} (d : DiskOf D) (settings : Settings) (lists : List (List RecordValue))
    (positions : List ℕ) (saver : Option SaverState) (saved unfinished : List CutValue) (old mid new : D)
    → is_some saver ≡ settings.store → IfSome saver (IsFeedSaver settings lists positions)
    → CrashLeaves d.moment d.image_since old mid (d.image_now old) → d.reads mid ≡ d.reads old
    → SavesInPart d saver mid new saved unfinished → settings.store ≡ true
    → AreKeptOnDisk d old new (settings_of_store settings) lists saved unfinished
dealt_report_keeps_saves shown d settings lists positions None saved unfinished old mid new has is leaves same saves
    used = absurd (false≢true (has ∙ used))
dealt_report_keeps_saves shown d settings lists positions (Some saver) saved unfinished old mid new has is leaves
    same saves used = λ bytes known.
    let header : StoreHeader = stored_header (settings_of_store settings) bytes in
    let found = saves.kept bytes (same ∙ known) in
    let of_bytes : saver.header ≡ header =
    sym (shown saver.header bytes found.opens.2.header) ∙ ap (λ s. stored_header s bytes) is.settings_are in
    let kept : KeepsSaves d mid new header (lists_digest header lists) (λ image. ⊥) saved unfinished bytes =
    subst (λ h. KeepsSaves d mid new h (lists_digest h lists) (λ image. ⊥) saved unfinished bytes) of_bytes
    (subst (λ digest. KeepsSaves d mid new saver.header digest (λ image. ⊥) saved unfinished bytes) is.digest_is found) in
    let among : List ℕ → Type 0 = λ image. OpensToSaves header kept.opened
    (saves_after (store_sequence kept.opened) (lists_digest header lists) (saved ++ unfinished)) image in
    record {
      opened = kept.opened;
      opens = kept.opens;
      any_moment = CrashLeaves-trans d.moment d.image_since old mid new (λ image. d.image_now old image ⊎ among image)
          (CrashLeaves-weaker d.moment d.image_since old mid (d.image_now old) (λ image. d.image_now old image ⊎ among image) leaves
          (λ image was. inl was)) (CrashLeaves-weaker d.moment d.image_since mid new (λ image. ⊥ ⊎ among image)
          (λ image. d.image_now old image ⊎ among image) kept.any_moment
          (λ image. ⊎_elim (λ never. absurd never) (λ held. inr held)));
      afterwards = kept.afterwards;
    }

-- a report to a sink, which found a disk as `old` and left it as `new` before anything was written
module _ {K D : Type 0} (k : SinkOf K) (d : DiskOf D) (settings : Settings) (lists : List (List RecordValue))
    (tail : List ℕ) (sink : K) (old new : D) where
  -- the store is refused for a fault, or memory ran out
  dealt_report_stops_at_fault : (fault : OpenFault) → IsAsBefore d old new
      → (settings.store ≡ true) ⊎ (fault ≡ opening.OutOfMemory)
      → IfImageKnown (d.reads old) (λ image. RefusesOpening (settings_of_store settings) lists image fault)
      → (fault ≡ opening.DiskFault → FaultRose (d.faults old) (d.faults new))
      → ((fault ≡ opening.DiskFault → ⊥) → d.faults new ≡ d.faults old)
      → FeedEnds k d settings lists tail sink sink old new (status_of_opening fault)
  dealt_report_stops_at_fault opening.DiskFault same used refused rose kept =
      (inl (refl, same), record { rose = rose refl; sink = refl })
  dealt_report_stops_at_fault opening.OutOfMemory same used refused rose kept =
      (inl (refl, same), ap (λ n. record { sink = k.faults sink; disk = n }) (kept (λ is. cc is)))
  dealt_report_stops_at_fault fault same used refused rose kept = (
    record { used = ⊎_elim (λ is. is) (λ no. cc no) used; as_before = same; refused = refused },
    refl,
    ap (λ n. record { sink = k.faults sink; disk = n }) (kept (λ is. cc is)),
  )

  -- there is no base
  pub dealt_report_ends_without_base : (status : Status) → IsAsBefore d old new
      → HasNoBase settings lists (d.reads old) (d.faults old) (d.faults new) status
      → FeedEnds k d settings lists tail sink sink old new status
  dealt_report_ends_without_base status same none =
      subst (FeedEnds k d settings lists tail sink sink old new) (sym none.status_is)
      (dealt_report_stops_at_fault none.fault same none.used none.refused none.rose none.kept)

-- the session broke off
module _ {K D : Type 0} (k : SinkOf K) (d : DiskOf D) (settings : Settings) (lists : List (List RecordValue))
    (tail : List ℕ) (base : Option CutValue) (Kept : SessionSaving) (Same : Type 0) (sink written : K) (old new : D)
    (begins : GoesOnFrom settings lists (d.reads old) base)
    (represents : GoesOnSoundly lists base (session_opening (asked_shape settings) lists base))
    (keeps : (saved unfinished : List CutValue) → Kept saved unfinished → settings.store ≡ true
    → AreKeptOnDisk d old new (settings_of_store settings) lists saved unfinished)
    (unmoved : Same → IsAsBefore d old new) where
  abbrev DealtInPart : Type 0
  DealtInPart = AreSessionShards (asked_shape settings) (session_opening (asked_shape settings) lists base)
      × WritesAnswer (BeginsSession (session_opening (asked_shape settings) lists base) settings Kept tail)
      (k.taken sink) (k.taken written)

  dealt_report_of_part : DealtInPart
      → FeedWritesPart settings lists tail (AreKeptOnDisk d old new) (d.reads old) (k.taken sink) (k.taken written)
  dealt_report_of_part (shards, part) = record {
    base = base;
    begins = begins;
    represents = represents;
    shards = shards;
    writes = record {
      text = part.text;
      is_text = session_text_begins_weaker (session_opening (asked_shape settings) lists base) settings Kept
          (λ saved unfinished. settings.store ≡ true → AreKeptOnDisk d old new (settings_of_store settings) lists saved unfinished)
          tail part.text keeps part.is_text;
      written = part.written;
    };
  }

  pub dealt_report_ends_broken_off : (status : Status)
      → (((written ≡ sink) × Same) × (status ≡ OutOfMemory)) ⊎ DealtInPart
      → IsFeedFault (round_faults k d sink old) (round_faults k d written new) status
      → FeedEnds k d settings lists tail sink written old new status
  dealt_report_ends_broken_off WriteFault part fault =
      (⊎_elim (λ same. absurd (cc same.1)) (λ some. dealt_report_of_part some) part, fault)
  dealt_report_ends_broken_off DiskFault part fault =
      (⊎_elim (λ same. inl (same.0.0, unmoved same.0.1)) (λ some. inr (dealt_report_of_part some)) part, fault)
  dealt_report_ends_broken_off OutOfMemory part fault =
      (⊎_elim (λ same. inl (same.0.0, unmoved same.0.1)) (λ some. inr (dealt_report_of_part some)) part, fault)
  dealt_report_ends_broken_off _ part fault = absurd fault

-- the session was written whole
pub dealt_report_is_written : (settings : Settings) (lists : List (List RecordValue)) (tail : List ℕ) (keeping : SessionKeeping)
    (store : Option (List ℕ)) (base : Option CutValue) (Kept : List CutValue → Type 0) (old new : Option (List ℕ))
    → GoesOnFrom settings lists store base → GoesOnSoundly lists base (session_opening (asked_shape settings) lists base)
    → ((cuts : List CutValue) → Kept cuts → settings.store ≡ true → keeping (settings_of_store settings) lists cuts [])
    → WritesAnswer (IsOverShards (session_opening (asked_shape settings) lists base) settings Kept tail) old new
    → FeedWrites settings lists tail keeping store old new
dealt_report_is_written settings lists tail keeping store base Kept old new begins represents keeps writes = record {
  base = base;
  begins = begins;
  represents = represents;
  writes = record {
    text = writes.text;
    is_text = spelled_session_text_says_less (session_opening (asked_shape settings) lists base) settings Kept
        (λ cuts. settings.store ≡ true → keeping (settings_of_store settings) lists cuts []) tail writes.text keeps
        writes.is_text;
    written = writes.written;
  };
}
