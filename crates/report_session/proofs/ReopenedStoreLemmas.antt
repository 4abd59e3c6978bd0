-- What a store opens to after a session, whether that was whole or broke off.
use Rattle.std.proofs.Common.{◌≡◌, ◌∙◌, ◌<◌, ◌+◌, ◌++◌, ℕ, suc, true, List, [], ◌∷◌, Option, None, Some}
use Rattle.std.proofs.Common.{⊎_elim, refl, sym, ap, subst, arith, length, map, All}
use Rattle.std.specs.Prelude.{slice_index, option_map, IfSome}
use Rattle.std.specs.List.Sorted.{IsNonDecreasing}
use Rattle.std.proofs.lemmas.List.{length-append, length-map, map-append}
use Rattle.std.proofs.lemmas.List.Elements.{All-head, All-tail}
use Rattle.prefix_lattice.specs.{RecordValue}
use Rattle.hhh_report.specs.{AreNotPast}
use Rattle.shard_state.specs.{CutValue, ShardValue}
use Rattle.hhh_report.specs.declared.reports.Reported.{Reported}
use Rattle.gate_workers.specs.{cut_at}
use Rattle.checkpoint.specs.{StoreOpensTo, SavedValue, OpenToOne, lists_digest, store_positions}
use Rattle.checkpoint.specs.{store_sequence, stored_header}
use Rattle.checkpoint.specs.declared.settings.StoreSettings.{StoreSettings}
use Rattle.checkpoint.specs.declared.header.StoreHeader.{StoreHeader}
use Rattle.report_text.specs.{tail_text}
use Rattle.recovery.specs.{IsBaseFor, OpensToBase, base_positions}
use Rattle.command_words.specs.{AreLimited}
use Rattle.command_words.specs.declared.settings.Settings.{Settings}
use Rattle.report_session.specs.Saving.{AreKeptOnDisk, last_of_saves, AreReopened, saves_after}
use Rattle.report_session.specs.Saving.{settings_of_store, settings_of_store-allowed}
use Rattle.report_session.specs.Session.{AreOfCaller, GoesOnFrom, IsSession, IsSessionInPart, SessionSaving}
use Rattle.report_session.specs.Session.{asked_shape, last_positions, session_opening, saved_cuts, session_start}
use Rattle.dealt_capture.specs.{DealingRules}
use Rattle.report_session.proofs.BaseLemmas.{base_starts}
use Rattle.report_session.proofs.SaveLemmas.{last_save_after_saves, save_takes_next_sequence}
use Rattle.report_session.proofs.ShownSessionLemmas.{shown_session_front_of_all}
use Rattle.report_session.proofs.SessionTextLemmas.{session_text_begins_saying_less, spelled_session_text_says_less}
use Rattle.report_session.proofs.SeenPositionLemmas.{seen_positions_of_cut, seen_positions_are_not_past}
use Rattle.report_session.proofs.SeenPositionLemmas.{seen_positions_not_past_self}
use Rattle.slot_disk.specs.declared.disk.Disk.{Ghosts as DiskOf}

-- from these positions on, those of these reports never fall, and each report has one for each shard
pub record RisesInReopenedStore (shards : ℕ) (positions : List ℕ) (reports : List Reported) : Type 0 where
  pub many : length positions ≡ shards
  pub each : All (λ reported. length reported.report.positions ≡ shards) reports
  pub never_fall : (shard : ℕ) → shard < shards → IsNonDecreasing
      (slice_index positions shard ∷ map (λ reported. slice_index reported.report.positions shard) reports)

-- so do those of one caller
pub reopened_store_rises : (opening : List ShardValue) (settings : Settings) (count : ℕ) (reports : List Reported)
    → AreOfCaller opening settings count reports → RisesInReopenedStore (length opening) (session_start opening) reports
reopened_store_rises opening settings count reports are =
    let starts : length (session_start opening) ≡ length opening = length-map opening _ in
    record {
      many = starts;
      each = λ k d lt. (are.shown k d lt).is_report.as_many;
      never_fall = λ shard inside. are.never_fall shard (omega (arith, inside, starts));
    }

-- the report after these isn't before the last of them
pub reopened_store_next_not_before : (shards : ℕ) (positions : List ℕ) (reports : List Reported) (next : Reported)
    → RisesInReopenedStore shards positions (reports ++ next ∷ [])
    → AreNotPast (last_positions positions reports) (last_positions positions (reports ++ next ∷ []))
reopened_store_next_not_before shards positions [] next rises =
    let of_next : length next.report.positions ≡ shards =
    All-head (λ (reported : Reported). length reported.report.positions ≡ shards) next [] rises.each in
    seen_positions_are_not_past positions next.report.positions (rises.many ∙ sym of_next)
    (λ shard inside. rises.never_fall shard (omega (arith, inside, of_next)) 0 1 0 (omega arith) (omega arith))
reopened_store_next_not_before shards positions (first ∷ reports) next rises =
    reopened_store_next_not_before shards first.report.positions reports next (record {
      many = All-head (λ (reported : Reported). length reported.report.positions ≡ shards) first (reports ++ next ∷ []) rises.each;
      each = All-tail (λ (reported : Reported). length reported.report.positions ≡ shards) first (reports ++ next ∷ []) rises.each;
      never_fall = λ shard inside i j d le lt.
          rises.never_fall shard inside (suc i) (suc j) d (omega (arith, le)) (omega (arith, lt));
    })

-- the positions of the last save are those of the last report that was saved
pub reopened_store_positions : (header : StoreHeader) (opening : List ShardValue) (digest positions : List ℕ)
    (opened : Option SavedValue) (sequence : ℕ) (reports : List Reported) → store_positions header.settings opened ≡ positions
    → All (λ reported. length reported.report.positions ≡ length opening) reports
    → store_positions header.settings (last_of_saves opened (saves_after sequence digest (saved_cuts true opening reports)))
    ≡ last_positions positions reports
reopened_store_positions header opening digest positions opened sequence [] same each = same
reopened_store_positions header opening digest positions opened sequence (next ∷ later) same each =
    reopened_store_positions header opening digest next.report.positions
    (Some (record { sequence = sequence + 1; digest = digest; cut = cut_at opening next.report.positions })) (sequence + 1)
    later (seen_positions_of_cut opening next.report.positions
    (All-head (λ (reported : Reported). length reported.report.positions ≡ length opening) next later each))
    (All-tail (λ (reported : Reported). length reported.report.positions ≡ length opening) next later each)

-- the positions of a base are those that the store opened to
reopened_store_base_positions : (header : StoreHeader) (opened : Option SavedValue)
    → store_positions header.settings opened ≡ base_positions header.settings (option_map (λ (saved : SavedValue). saved.cut) opened)
reopened_store_base_positions header None = refl
reopened_store_base_positions header (Some saved) = refl

-- the positions at which the shards start are those that the store opened to
pub reopened_store_start_positions : OpenToOne → (settings : Settings) (lists : List (List RecordValue)) (store : List ℕ)
    (base : Option CutValue) (opened : Option SavedValue) → AreLimited settings → length lists ≡ settings.shards
    → IfSome base (IsBaseFor (settings_of_store settings) lists) → OpensToBase (settings_of_store settings) lists store base
    → StoreOpensTo (stored_header (settings_of_store settings) store) store opened
    → store_positions (settings_of_store settings) opened ≡ session_start (session_opening (asked_shape settings) lists base)
reopened_store_start_positions one settings lists store base opened limited many fits found opens =
    let same : found.0 ≡ opened =
    one (stored_header (settings_of_store settings) store) store found.0 opened (settings_of_store-allowed settings limited) found.1 opens in
    reopened_store_base_positions (stored_header (settings_of_store settings) store) opened
    ∙ ap (base_positions (settings_of_store settings))
    (sym (found.3 ∙ ap (option_map (λ (saved : SavedValue). saved.cut)) same))
    ∙ base_starts settings lists base many fits

-- after whole saves alone the store opens to the last of them
reopened_store_after_whole_saves : {D : Type 0} (d : DiskOf D) (settings : StoreSettings) (lists : List (List RecordValue))
    (saved : List CutValue) (old new : D) → AreKeptOnDisk d old new settings lists saved []
    → AreReopened d old new settings lists saved []
reopened_store_after_whole_saves d settings lists saved old new kept = λ store known.
    let keeps = kept store known in
    let last : Option SavedValue =
    last_of_saves keeps.opened (saves_after (store_sequence keeps.opened) (lists_digest (stored_header settings store) lists) saved) in
    record {
      opened = keeps.opened;
      opens = keeps.opens;
      again = λ image possible. record {
        found = last;
        opens = keeps.afterwards image possible;
        no_earlier = record { sequence = omega arith; positions = seen_positions_not_past_self (store_positions settings last) };
        exact = λ none. refl;
      };
    }

-- where the save of the next report is unfinished, the store opens to the last one before it, or to it
reopened_store_after_broken_save : OpenToOne → {D : Type 0} (d : DiskOf D) (settings : Settings) (lists : List (List RecordValue))
    (base : Option CutValue) (count : ℕ) (rounds : List Reported) (next : Reported) (old new : D) → AreLimited settings
    → length lists ≡ settings.shards → settings.store ≡ true → GoesOnFrom settings lists (d.reads old) base
    → AreOfCaller (session_opening (asked_shape settings) lists base) settings count (rounds ++ next ∷ [])
    → AreKeptOnDisk d old new (settings_of_store settings) lists
    (saved_cuts true (session_opening (asked_shape settings) lists base) rounds)
    (saved_cuts true (session_opening (asked_shape settings) lists base) (next ∷ []))
    → AreReopened d old new (settings_of_store settings) lists
    (saved_cuts true (session_opening (asked_shape settings) lists base) rounds)
    (saved_cuts true (session_opening (asked_shape settings) lists base) (next ∷ []))
reopened_store_after_broken_save one d settings lists base count rounds next old new limited many used begins
    are kept = λ store known.
    let keeps = kept store known in
    let opening : List ShardValue = session_opening (asked_shape settings) lists base in
    let header : StoreHeader = stored_header (settings_of_store settings) store in
    let digest : List ℕ = lists_digest header lists in
    let sequence : ℕ = store_sequence keeps.opened in
    let all : List Reported = rounds ++ next ∷ [] in
    let cuts : List Reported → List CutValue = saved_cuts true opening in
    let last : List CutValue → Option SavedValue = λ saved. last_of_saves keeps.opened (saves_after sequence digest saved) in
    let rises = reopened_store_rises opening settings count all are in
    let positions : (reports : List Reported) → All (λ reported. length reported.report.positions ≡ length opening) reports
    → store_positions (settings_of_store settings) (last (cuts reports)) ≡ last_positions (session_start opening) reports = λ reports.
    reopened_store_positions header opening digest (session_start opening) keeps.opened sequence reports
    (reopened_store_start_positions one settings lists store base keeps.opened limited many begins.fits (begins.opens used store known)
    keeps.opens) in
    let parted : cuts all ≡ cuts rounds ++ cuts (next ∷ []) =
    map-append (λ (reported : Reported). cut_at opening reported.report.positions) rounds (next ∷ []) in
    record {
      opened = keeps.opened;
      opens = keeps.opens;
      again = λ image possible. ⊎_elim (λ (opens : StoreOpensTo header image (last (cuts rounds))). record {
        found = last (cuts rounds);
        opens = opens;
        no_earlier = record { sequence = omega arith; positions = seen_positions_not_past_self _ };
        exact = λ none. refl;
      }) (λ opens. record {
        found = last (cuts all);
        opens = subst (StoreOpensTo header image)
            (sym (ap last parted ∙ last_save_after_saves keeps.opened sequence digest (cuts rounds) (cuts (next ∷ [])))) opens;
        no_earlier = record {
          sequence = omega (
            arith,
            save_takes_next_sequence keeps.opened digest (cuts rounds),
            save_takes_next_sequence keeps.opened digest (cuts all),
            ap length parted,
            length-append (cuts rounds) (cuts (next ∷ [])),
          );
          positions = subst (λ ps. AreNotPast ps (store_positions (settings_of_store settings) (last (cuts all))))
              (sym (positions rounds (shown_session_front_of_all (λ (reported : Reported). length reported.report.positions ≡ length opening)
              rounds (next ∷ []) rises.each)))
              (subst (AreNotPast (last_positions (session_start opening) rounds)) (sym (positions all rises.each))
              (reopened_store_next_not_before (length opening) (session_start opening) rounds next rises));
        };
        exact = λ none. let one : 1 ≡ 0 = ap length none in absurd (omega (arith, one));
      }) (keeps.afterwards image possible);
    }

-- a whole session
pub reopened_store_after_completion : {D : Type 0} (d : DiskOf D) (rules : DealingRules) (settings : Settings) (old new : D)
    (file : Option (List ℕ)) (text : List ℕ)
    → IsSession settings rules (AreKeptOnDisk d old new) (d.reads old) file text
    → IsSession settings rules (AreReopened d old new) (d.reads old) file text
reopened_store_after_completion d rules settings old new file text session = record {
  records = session.records;
  lists = session.lists;
  dealt = session.dealt;
  as_many = session.as_many;
  base = session.base;
  begins = session.begins;
  represents = session.represents;
  spelled = spelled_session_text_says_less (session_opening (asked_shape settings) session.lists session.base) settings
      (λ cuts. settings.store ≡ true → AreKeptOnDisk d old new (settings_of_store settings) session.lists cuts [])
      (λ cuts. settings.store ≡ true → AreReopened d old new (settings_of_store settings) session.lists cuts [])
      (tail_text session.records) text
      (λ cuts kept used. reopened_store_after_whole_saves d (settings_of_store settings) session.lists cuts
      old new (kept used)) session.spelled;
}

-- a session that broke off
pub reopened_store_after_breaking_off : OpenToOne → {D : Type 0} (d : DiskOf D) (rules : DealingRules) (settings : Settings) (old new : D)
    (file : Option (List ℕ)) (front : List ℕ) → AreLimited settings
    → IsSessionInPart settings rules (AreKeptOnDisk d old new) (d.reads old) file front
    → IsSessionInPart settings rules (AreReopened d old new) (d.reads old) file front
reopened_store_after_breaking_off one d rules settings old new file front limited session =
    let lists : List (List RecordValue) = session.lists in
    let base : Option CutValue = session.base in
    let opening : List ShardValue = session_opening (asked_shape settings) lists base in
    let Kept : SessionSaving = λ saved unfinished. settings.store ≡ true
    → AreKeptOnDisk d old new (settings_of_store settings) lists saved unfinished in
    let Less : SessionSaving = λ saved unfinished. settings.store ≡ true
    → AreReopened d old new (settings_of_store settings) lists saved unfinished in
    record {
      records = session.records;
      lists = lists;
      dealt = session.dealt;
      as_many = session.as_many;
      base = base;
      begins = session.begins;
      represents = session.represents;
      shards = session.shards;
      begun = session_text_begins_saying_less opening settings Kept Less (record {
        saved = λ reports shown kept used.
            reopened_store_after_whole_saves d (settings_of_store settings) lists (saved_cuts settings.store opening reports) old new (kept used);
        unfinished = λ count rounds next are kept used.
            subst (λ b. AreKeptOnDisk d old new (settings_of_store settings) lists (saved_cuts b opening rounds) (saved_cuts b opening (next ∷ []))
            → AreReopened d old new (settings_of_store settings) lists (saved_cuts b opening rounds) (saved_cuts b opening (next ∷ []))) (sym used)
            (reopened_store_after_broken_save one d settings lists base count rounds next old new limited session.as_many used session.begins are)
            (kept used);
      }) (tail_text session.records) front session.begun;
    }
