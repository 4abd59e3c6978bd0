-- What a run promises of its store by the bytes that it wrote, from what its session keeps.
use Rattle.std.proofs.Common.{◌≡◌, ◌∙◌, ◌+◌, ◌<◌, ◌≤◌, ◌++◌, ◌⊎◌, inl, inr, ⊎_elim, ℕ, true, Bool, List, [], ◌∷◌, Option, Some}
use Rattle.std.proofs.Common.{refl, sym, ap, ap₂, subst, arith, length, map, false, codes, decimal, append-nil, append_assoc, All, Contains}
use Rattle.std.specs.List.{join_with_byte}
use Rattle.std.proofs.lemmas.List.{length-map, length_push, map-append}
use Rattle.std.proofs.lemmas.Bool.{false≢true}
use Rattle.std.proofs.lemmas.List.Elements.{All-cons, All-contains, All-head, All-map, All-nil, All-tail, Contains-append_cases}
use Rattle.prefix_lattice.specs.{RecordValue}
use Rattle.prefix_lattice.proofs.ListLemmas.{Contains-list_head, Contains-list_tail}
use Rattle.hhh_report.specs.{AreNotPast}
use Rattle.hhh_report.specs.declared.report.Report.{Report}
use Rattle.hhh_report.specs.declared.reports.Reported.{Reported}
use Rattle.frame_records.specs.declared.records.Records.{Records}
use Rattle.shard_state.specs.{CutValue, ShardValue, cut_positions}
use Rattle.gate_workers.specs.{cut_at}
use Rattle.slot_disk.specs.{CrashLeaves-weaker}
use Rattle.slot_disk.specs.declared.disk.Disk.{Ghosts as DiskOf}
use Rattle.checkpoint.specs.{OpenToOne, SavedValue, StoreOpensTo, lists_digest, store_positions, store_sequence, stored_header}
use Rattle.checkpoint.specs.declared.header.StoreHeader.{StoreHeader}
use Rattle.command_words.specs.{AreLimited}
use Rattle.command_words.specs.declared.settings.Settings.{Settings}
use Rattle.dealt_capture.specs.{DealingRules}
use Rattle.report_text.specs.{LinesShowSaves, ShowsSaves, mark_text, report_text, tail_text, whole_lines}
use Rattle.report_text.specs.declared.mark.Mark.{Mark}
use Rattle.report_text.specs.declared.mark.Mark.TheVariants.{Opened, Saved}
use Rattle.report_session.specs.KeptStore.{IsBeingSaved, OpensToSave, ReopensAfterSaves, StoreIsKept, last_shown}
use Rattle.report_session.specs.Saving.{IsAsBefore, KeepsSaves, OpensToSaves, AreKeptOnDisk, last_of_saves, saves_after}
use Rattle.report_session.specs.Saving.{settings_of_store}
use Rattle.report_session.specs.Session.{AreOfCaller, BreaksOffAround, BreaksOffInRounds, GoesOnFrom}
use Rattle.report_session.specs.Session.{IsOverShards, IsSession, IsSessionInPart, IsStrictBeginning, SessionSaving}
use Rattle.report_session.specs.Session.{asked_shape, other_parts, last_positions, rest_after_saves, saved_cuts}
use Rattle.report_session.specs.Session.{session_opening, session_parts, session_start}
use Rattle.report_session.proofs.ReopenedStoreLemmas.{RisesInReopenedStore, reopened_store_next_not_before}
use Rattle.report_session.proofs.ReopenedStoreLemmas.{reopened_store_positions, reopened_store_rises}
use Rattle.report_session.proofs.ReopenedStoreLemmas.{reopened_store_start_positions}
use Rattle.report_session.proofs.SaveLemmas.{last_save_after_saves, save_takes_next_sequence}
use Rattle.report_session.proofs.SeenPositionLemmas.{seen_positions_not_past_self, seen_positions_of_cut}
use Rattle.report_session.proofs.SessionTextLemmas.{session_text_groups}
use Rattle.report_session.proofs.ShownSessionLemmas.{shown_session_front_of_all}

-- which saves texts show, by their parts
pub record KeptStoreTexts : Type 0 where
  pub report : (report : Report) (rest : List ℕ) (saves : List (List ℕ)) → ShowsSaves rest saves
      → ShowsSaves (report_text report ++ rest) saves
  pub opened : (positions rest : List ℕ) (saves : List (List ℕ)) → ShowsSaves rest saves
      → ShowsSaves (mark_text Opened positions ++ rest) saves
  pub saved : (positions rest : List ℕ) (saves : List (List ℕ)) → ShowsSaves rest saves
      → ShowsSaves (mark_text Saved positions ++ rest) (positions ∷ saves)
  pub line : (mark : Mark) (positions rest : List ℕ)
      → whole_lines (mark_text mark positions ++ rest) ≡ mark_text mark positions ∷ whole_lines rest
  pub tail : (records : Records) → ShowsSaves (tail_text records) []
  pub front : (front rest : List ℕ) → ShowsSaves (front ++ rest) [] → ShowsSaves front []
  pub unfinished : (mark : Mark) (positions front rest : List ℕ) → mark_text mark positions ≡ front ++ rest
      → length front < length (mark_text mark positions) → whole_lines front ≡ []

-- the positions of reports
abbrev positions_of_kept : List Reported → List (List ℕ)
positions_of_kept reports = map (λ reported. reported.report.positions) reports

kept_store_groups : (a b c d : List ℕ) → ((a ++ b) ++ c) ++ d ≡ a ++ (b ++ (c ++ d))
kept_store_groups a b c d = simp append_assoc

kept_store_line_groups : (a b c d e : List ℕ) → a ++ (b ++ ((c ++ d) ++ e)) ≡ (a ++ (b ++ c)) ++ (d ++ e)
kept_store_line_groups a b c d e = simp append_assoc

-- nothing begins a line
kept_store_line_begins : (positions : List ℕ) → IsStrictBeginning [] (mark_text Saved positions)
kept_store_line_begins positions = (
  (mark_text Saved positions, refl),
  omega (arith, length_push (join_with_byte 32 (codes "saved" ∷ map decimal positions)) 10),
)

-- a front of two texts ends in the first one, or after it
kept_store_front_of_two : (line first second rest : List ℕ) → first ++ second ≡ line ++ rest
    → IsStrictBeginning line first ⊎ ((more : List ℕ) × (line ≡ first ++ more) × (second ≡ more ++ rest))
kept_store_front_of_two line [] second rest same = inr (line, refl, same)
kept_store_front_of_two [] (byte ∷ first) second rest same = inl ((byte ∷ first, refl), omega arith)
kept_store_front_of_two (other ∷ line) (byte ∷ first) second rest same =
    let head : byte ≡ other = cc in
    let behind : first ++ second ≡ line ++ rest = cc in
    ⊎_elim (λ strict. inl ((strict.0.0, ap₂ (λ b l. b ∷ l) head strict.0.1), omega (arith, strict.1)))
    (λ after. inr (after.0, ap₂ (λ b l. b ∷ l) (sym head) after.1, after.2))
    (kept_store_front_of_two line first second rest behind)

module _ (texts : KeptStoreTexts) where
  -- a strict front of a line of positions shows no save
  kept_store_strict_front : (mark : Mark) (positions line : List ℕ) → IsStrictBeginning line (mark_text mark positions)
      → ShowsSaves line []
  kept_store_strict_front mark positions line begins =
      subst (λ lines. LinesShowSaves lines [])
      (sym (texts.unfinished mark positions line begins.0.0 begins.0.1 begins.1)) refl

  -- the rounds of the calling thread show their saves
  rounds_show_kept_saves : (rounds : List Reported) (rest : List ℕ) (saves : List (List ℕ)) → ShowsSaves rest saves
      → ShowsSaves (session_parts true rounds ++ rest) (positions_of_kept rounds ++ saves)
  rounds_show_kept_saves [] rest saves shows = shows
  rounds_show_kept_saves (first ∷ rounds) rest saves shows =
      let positions : List ℕ = first.report.positions in
      subst (λ text. ShowsSaves text (positions ∷ (positions_of_kept rounds ++ saves)))
      (sym (kept_store_groups (report_text first.report) (mark_text Saved positions) (session_parts true rounds) rest))
      (texts.report first.report _ _ (texts.saved positions _ _ (rounds_show_kept_saves rounds rest saves shows)))

  -- the reports of the other callers show none
  caller_shows_no_kept_save : (reports : List Reported) (rest : List ℕ) (saves : List (List ℕ)) → ShowsSaves rest saves
      → ShowsSaves (session_parts false reports ++ rest) saves
  caller_shows_no_kept_save [] rest saves shows = shows
  caller_shows_no_kept_save (first ∷ reports) rest saves shows =
      subst (λ text. ShowsSaves text saves)
      (sym (kept_store_groups (report_text first.report) [] (session_parts false reports) rest))
      (texts.report first.report _ _ (caller_shows_no_kept_save reports rest saves shows))

  callers_show_no_kept_save : (callers : List (List Reported)) (rest : List ℕ) (saves : List (List ℕ))
      → ShowsSaves rest saves → ShowsSaves (other_parts callers ++ rest) saves
  callers_show_no_kept_save [] rest saves shows = shows
  callers_show_no_kept_save (reports ∷ callers) rest saves shows =
      subst (λ text. ShowsSaves text saves) (sym (append_assoc (session_parts false reports) (other_parts callers) rest))
      (caller_shows_no_kept_save reports (other_parts callers ++ rest) saves
      (callers_show_no_kept_save callers rest saves shows))

  -- nor does the report behind them
  last_report_shows_no_kept_save : (callers : List (List Reported)) (report : Report) (line : List ℕ) (saves : List (List ℕ))
      → ShowsSaves line saves → ShowsSaves ((other_parts callers ++ report_text report) ++ line) saves
  last_report_shows_no_kept_save callers report line saves shows =
      subst (λ text. ShowsSaves text saves) (sym (append_assoc (other_parts callers) (report_text report) line))
      (callers_show_no_kept_save callers (report_text report ++ line) saves (texts.report report line saves shows))

-- the cuts of reports were saved; or the next one's save has begun, or is made besides
abbrev IsKeptOrBegun : List ShardValue → SessionSaving → (front : List ℕ) → (reports others : List Reported) → Type 0
IsKeptOrBegun opening Kept front reports others =
    Kept (saved_cuts true opening reports) []
    ⊎ ((next : Reported) × (others ≡ next ∷ []) × IsBeingSaved front next.report.positions
    × (Kept (saved_cuts true opening reports) (saved_cuts true opening (next ∷ []))
    ⊎ Kept (saved_cuts true opening reports ++ saved_cuts true opening (next ∷ [])) []))

-- bytes of a session whose first line is whole: the reports whose saves they show, and what was saved besides
record KeptStoreShape (opening : List ShardValue) (settings : Settings) (Kept : SessionSaving) (front : List ℕ) : Type 0 where
  reports : List Reported
  others : List Reported
  count : ℕ
  are : AreOfCaller opening settings count (reports ++ others)
  rest : List ℕ
  begun : front ≡ mark_text Opened (session_start opening) ++ rest
  shown : ShowsSaves front (positions_of_kept reports)
  kept : IsKeptOrBegun opening Kept front reports others

-- settings with a store
abbrev with_kept_store : Settings → Settings
with_kept_store settings = record settings { store = true }

module _ (texts : KeptStoreTexts) (opening : List ShardValue) (settings : Settings) (Kept : SessionSaving) where
  abbrev first_kept_line : List ℕ
  first_kept_line = mark_text Opened (session_start opening)

  abbrev ShapesKeptStore : List ℕ → Type 0
  ShapesKeptStore = KeptStoreShape opening (with_kept_store settings) Kept

  abbrev AreKeptReports : ℕ → List Reported → Type 0
  AreKeptReports = AreOfCaller opening (with_kept_store settings)

  -- the first line, rounds, and bytes that show some saves
  kept_store_shows : (rounds : List Reported) (more front : List ℕ) (saves : List (List ℕ))
      → front ≡ first_kept_line ++ (session_parts true rounds ++ more) → ShowsSaves more saves
      → ShowsSaves front (positions_of_kept rounds ++ saves)
  kept_store_shows rounds more front saves is shows =
      subst (λ text. ShowsSaves text (positions_of_kept rounds ++ saves)) (sym is)
      (texts.opened (session_start opening) _ _ (rounds_show_kept_saves texts rounds more saves shows))

  kept_store_shows_rounds : (rounds : List Reported) (more front : List ℕ)
      → front ≡ first_kept_line ++ (session_parts true rounds ++ more) → ShowsSaves more []
      → ShowsSaves front (positions_of_kept rounds)
  kept_store_shows_rounds rounds more front is shows =
      subst (ShowsSaves front) (append-nil (positions_of_kept rounds)) (kept_store_shows rounds more front [] is shows)

  -- rounds, the reports of other callers, and a report with the line that says that it was saved
  kept_store_saved : (count : ℕ) (rounds : List Reported) (next : Reported) (callers : List (List Reported))
      (more front rest : List ℕ) → AreKeptReports count (rounds ++ next ∷ [])
      → front ≡ first_kept_line ++ (session_parts true rounds ++ more)
      → more ≡ (other_parts callers ++ report_text next.report) ++ (mark_text Saved next.report.positions ++ rest)
      → ShowsSaves rest [] → Kept (saved_cuts true opening (rounds ++ next ∷ [])) [] → ShapesKeptStore front
  kept_store_saved count rounds next callers more front rest are is ends shows kept =
      let positions : List ℕ = next.report.positions in
      record {
        reports = rounds ++ next ∷ [];
        others = [];
        count = count;
        are = subst (AreKeptReports count) (sym (append-nil (rounds ++ next ∷ []))) are;
        rest = session_parts true rounds ++ more;
        begun = is;
        shown = subst (ShowsSaves front) (sym (map-append (λ (reported : Reported). reported.report.positions) rounds (next ∷ [])))
            (kept_store_shows rounds more front (positions ∷ []) is (subst (λ text. ShowsSaves text (positions ∷ [])) (sym ends)
            (last_report_shows_no_kept_save texts callers next.report _ (positions ∷ []) (texts.saved positions rest [] shows))));
        kept = inl kept;
      }

  -- bytes that broke off around such a line
  kept_store_around : (count : ℕ) (rounds : List Reported) (next : Reported) (callers : List (List Reported))
      (tail more front : List ℕ) → AreKeptReports count (rounds ++ next ∷ [])
      → front ≡ first_kept_line ++ (session_parts true rounds ++ more) → ShowsSaves tail []
      → BreaksOffAround (other_parts callers ++ report_text next.report) (mark_text Saved next.report.positions ++ tail)
      (saved_cuts true opening (next ∷ [])) (rest_after_saves true opening rounds Kept) more → ShapesKeptStore front
  kept_store_around count rounds next callers tail more front are is shows breaks =
      let positions : List ℕ = next.report.positions in
      let before : List ℕ = other_parts callers ++ report_text next.report in
      let cuts : List CutValue = saved_cuts true opening rounds in
      let behind : (line : List ℕ) → more ≡ before ++ line → ShowsSaves line [] → ShowsSaves more [] = λ line ends none.
      subst (λ text. ShowsSaves text []) (sym ends) (last_report_shows_no_kept_save texts callers next.report line [] none) in
      let unsaved : ShowsSaves more [] → IsKeptOrBegun opening Kept front rounds (next ∷ []) → ShapesKeptStore front = λ none kept. record {
        reports = rounds;
        others = next ∷ [];
        count = count;
        are = are;
        rest = session_parts true rounds ++ more;
        begun = is;
        shown = kept_store_shows_rounds rounds more front is none;
        kept = kept;
      } in
      let being : (line : List ℕ) → more ≡ before ++ line → IsStrictBeginning line (mark_text Saved positions)
      → IsBeingSaved front positions = λ line ends strict. record {
        before = first_kept_line ++ (session_parts true rounds ++ other_parts callers);
        report = next.report;
        line = line;
        at = refl;
        ends =
            is ∙ ap (λ m. first_kept_line ++ (session_parts true rounds ++ m)) ends
            ∙ kept_store_line_groups first_kept_line (session_parts true rounds) (other_parts callers) (report_text next.report) line;
        unfinished = strict;
      } in
      ⊎_elim (λ part. unsaved (texts.front more part.0.0
      (subst (λ text. ShowsSaves text []) (append-nil before ∙ part.0.1)
      (last_report_shows_no_kept_save texts callers next.report [] [] refl)))
      (inl (subst (λ l. Kept l []) (append-nil cuts) part.1))) (⊎_elim
      (λ whole. let ends : more ≡ before ++ [] = whole.0 ∙ sym (append-nil before) in
      unsaved (behind [] ends refl) (inr (
        next,
        refl,
        being [] ends (kept_store_line_begins positions),
        inl (subst (λ l. Kept l (saved_cuts true opening (next ∷ []))) (append-nil cuts) whole.1),
      ))) (λ (line, strict, ends, kept). ⊎_elim
      (λ begins. unsaved (behind line ends (kept_store_strict_front texts Saved positions line begins))
      (inr (next, refl, being line ends begins, inr kept)))
      (λ after. kept_store_saved count rounds next callers more front after.0 are is
      (ends ∙ ap (λ l. before ++ l) after.1)
      (texts.front after.0 strict.0.0 (subst (λ text. ShowsSaves text []) after.2 shows))
      (subst (λ l. Kept l []) (sym (map-append (λ (reported : Reported). cut_at opening reported.report.positions) rounds (next ∷ []))) kept))
      (kept_store_front_of_two line (mark_text Saved positions) tail strict.0.0 strict.0.1))) breaks

  -- rounds that broke off
  kept_store_in_rounds : (more front : List ℕ) → BreaksOffInRounds opening (with_kept_store settings) Kept more
      → front ≡ first_kept_line ++ more → ShapesKeptStore front
  kept_store_in_rounds more front (inl between) is = record {
    reports = between.rounds;
    others = [];
    count = length between.rounds;
    are = subst (AreKeptReports (length between.rounds)) (sym (append-nil between.rounds)) between.are_reports;
    rest = more;
    begun = is;
    shown = kept_store_shows_rounds between.rounds [] front
        (is ∙ ap (λ m. first_kept_line ++ m) (between.written ∙ sym (append-nil (session_parts true between.rounds)))) refl;
    kept = inl between.kept;
  }
  kept_store_in_rounds more front (inr within) is =
      kept_store_around (length within.rounds + 1) within.rounds within.next [] [] within.more front within.are_reports
      (is ∙ ap (λ m. first_kept_line ++ m) within.written) refl
      (subst (λ after. BreaksOffAround (report_text within.next.report) after (saved_cuts true opening (within.next ∷ []))
      (rest_after_saves true opening within.rounds Kept) within.more)
      (sym (append-nil (mark_text Saved within.next.report.positions))) within.breaks_off)

  -- a whole session
  kept_store_whole : (records : Records) (text : List ℕ)
      → IsOverShards opening (with_kept_store settings) (λ cuts. Kept cuts []) (tail_text records) text → ShapesKeptStore text
  kept_store_whole records text is =
      let last : Reported = is.reports.last in
      let callers : List ℕ = other_parts is.reports.callers in
      kept_store_saved (settings.rounds + 1) is.reports.rounds last is.reports.callers
      (callers ++ ((report_text last.report ++ mark_text Saved last.report.positions) ++ tail_text records)) text (tail_text records)
      is.are_reports.calling is.spelled
      (sym (session_text_groups callers (report_text last.report) (mark_text Saved last.report.positions) (tail_text records)))
      (texts.tail records) is.kept

-- the last positions that are shown are those of the last report
last_kept_positions : (start : List ℕ) (reports : List Reported)
    → last_shown start (positions_of_kept reports) ≡ last_positions start reports
last_kept_positions start [] = refl
last_kept_positions start (next ∷ later) = last_kept_positions next.report.positions later

-- what opens to one of the saves of reports
kept_store_opens_to : (header : StoreHeader) (opening : List ShardValue) (digest : List ℕ) (opened : Option SavedValue)
    (sequence : ℕ) (reports : List Reported) (image : List ℕ)
    → All (λ reported. length reported.report.positions ≡ length opening) reports
    → OpensToSaves header opened (saves_after sequence digest (saved_cuts true opening reports)) image
    → (found : Option SavedValue) × StoreOpensTo header image found
    × ((found ≡ opened) ⊎ ((saved : SavedValue) × Contains (positions_of_kept reports) (cut_positions saved.cut) × (found ≡ Some saved)))
kept_store_opens_to header opening digest opened sequence [] image each opens = (opened, opens, inl refl)
kept_store_opens_to header opening digest opened sequence (first ∷ reports) image each opens =
    let saved : SavedValue = record { sequence = sequence + 1; digest = digest; cut = cut_at opening first.report.positions } in
    let at : cut_positions saved.cut ≡ first.report.positions =
    seen_positions_of_cut opening first.report.positions
    (All-head (λ (reported : Reported). length reported.report.positions ≡ length opening) first reports each) in
    ⊎_elim (λ before. (opened, before, inl refl)) (λ later.
    let found = kept_store_opens_to header opening digest (Some saved) (sequence + 1) reports image
    (All-tail (λ (reported : Reported). length reported.report.positions ≡ length opening) first reports each) later in (
      found.0,
      found.1,
      ⊎_elim (λ same. inr (
        saved,
        subst (Contains (first.report.positions ∷ positions_of_kept reports)) (sym at)
            (Contains-list_head first.report.positions (positions_of_kept reports)),
        same,
      ))
          (λ other. inr (other.0, Contains-list_tail first.report.positions (positions_of_kept reports) _ other.1, other.2))
          found.2,
    )) opens

-- a session from the base of a store on, and the bytes that it wrote
module _ (one : OpenToOne) (texts : KeptStoreTexts) {D : Type 0} (d : DiskOf D) (settings : Settings)
    (lists : List (List RecordValue)) (base : Option CutValue) (old new : D) (store written : List ℕ)
    (limited : AreLimited settings) (many : length lists ≡ settings.shards)
    (begins : GoesOnFrom (with_kept_store settings) lists (d.reads old) base) (known : d.reads old ≡ Some store) where
  abbrev opening_of_kept : List ShardValue
  opening_of_kept = session_opening (asked_shape settings) lists base

  abbrev start_of_kept : List ℕ
  start_of_kept = session_start opening_of_kept

  abbrev header_of_kept : StoreHeader
  header_of_kept = stored_header (settings_of_store settings) store

  abbrev digest_of_kept : List ℕ
  digest_of_kept = lists_digest header_of_kept lists

  abbrev KeptOnDisk : SessionSaving
  KeptOnDisk = AreKeptOnDisk d old new (settings_of_store settings) lists

  abbrev AreOfKept : List Reported → Type 0
  AreOfKept reports = All (λ reported. length reported.report.positions ≡ length opening_of_kept) reports

  abbrev KeepsItsStore : Bool → Type 0
  KeepsItsStore whole = StoreIsKept d header_of_kept old new store written whole

  kept_store_starts : (opened : Option SavedValue) → StoreOpensTo header_of_kept store opened
      → store_positions (settings_of_store settings) opened ≡ start_of_kept
  kept_store_starts opened opens =
      reopened_store_start_positions one settings lists store base opened limited many begins.fits (begins.opens refl store known) opens

  -- what opens to the last save of these reports, where only those of the first ones are said to be made
  kept_store_reopens : (opened : Option SavedValue) (reports all : List Reported) (whole : Bool) (image : List ℕ)
      → AreOfKept all → AreNotPast (last_positions start_of_kept reports) (last_positions start_of_kept all)
      → length reports ≤ length all → (whole ≡ true → length all ≡ length reports) → StoreOpensTo header_of_kept store opened
      → StoreOpensTo header_of_kept image
      (last_of_saves opened (saves_after (store_sequence opened) digest_of_kept (saved_cuts true opening_of_kept all)))
      → ReopensAfterSaves header_of_kept opened (positions_of_kept reports) whole image
  kept_store_reopens opened reports all whole image each past few exact opens found =
      let cuts : List CutValue = saved_cuts true opening_of_kept all in
      let last : Option SavedValue = last_of_saves opened (saves_after (store_sequence opened) digest_of_kept cuts) in
      let counts = save_takes_next_sequence opened digest_of_kept cuts in
      let as_many : length cuts ≡ length all = length-map all _ in
      let shown : length (positions_of_kept reports) ≡ length reports = length-map reports _ in
      let starts = kept_store_starts opened opens in
      record {
        found = last;
        opens = found;
        positions =
            subst (λ positions. AreNotPast positions (store_positions (settings_of_store settings) last))
            (sym (ap (λ s. last_shown s (positions_of_kept reports)) starts ∙ last_kept_positions start_of_kept reports))
            (subst (AreNotPast (last_positions start_of_kept reports)) (sym (reopened_store_positions header_of_kept opening_of_kept
            digest_of_kept start_of_kept opened (store_sequence opened) all starts each)) past);
        counted = omega (arith, counts, as_many, shown, few);
        exact = λ is. let same = exact is in omega (arith, counts, as_many, shown, same);
      }

  -- the images at any moment, where the cuts of the first reports are said to be saved, and the others are being saved
  kept_store_any_moment : (reports others : List Reported) (opened : Option SavedValue) (image : List ℕ)
      → AreOfKept (reports ++ others) → All (λ next. IsBeingSaved written next.report.positions) others
      → StoreOpensTo header_of_kept store opened → OpensToSaves header_of_kept opened
      (saves_after (store_sequence opened) digest_of_kept (saved_cuts true opening_of_kept (reports ++ others))) image
      → OpensToSave header_of_kept store written (positions_of_kept reports) image
  kept_store_any_moment reports others opened image each being opens is =
      let found = kept_store_opens_to header_of_kept opening_of_kept digest_of_kept opened (store_sequence opened)
      (reports ++ others) image each is in
      record {
        found = found.0;
        opens = found.1;
        is = ⊎_elim (λ same. inl (subst (StoreOpensTo header_of_kept store) (sym same) opens)) (λ other. inr (
          other.0,
          other.2,
          ⊎_elim (λ among. inl among) (λ among. inr (All-contains (IsBeingSaved written) (positions_of_kept others) _
              (All-map (IsBeingSaved written) (λ (reported : Reported). reported.report.positions) others being) among))
              (Contains-append_cases (positions_of_kept reports) (positions_of_kept others) _
              (subst (λ l. Contains l (cut_positions other.0.cut))
              (map-append (λ (reported : Reported). reported.report.positions) reports others) other.1)),
        )) found.2;
      }

  -- the promise, by what a crash leaves now
  kept_store_promised : (reports others : List Reported) (saved unfinished : List CutValue) (whole : Bool) (rest : List ℕ)
      → AreOfKept (reports ++ others) → saved_cuts true opening_of_kept (reports ++ others) ≡ saved ++ unfinished
      → written ≡ mark_text Opened start_of_kept ++ rest → ShowsSaves written (positions_of_kept reports)
      → All (λ next. IsBeingSaved written next.report.positions) others
      → (keeps : KeepsSaves d old new header_of_kept digest_of_kept (d.image_now old) saved unfinished store)
      → ((image : List ℕ) → d.image_now new image
      → ReopensAfterSaves header_of_kept keeps.opened (positions_of_kept reports) whole image) → KeepsItsStore whole
  kept_store_promised reports others saved unfinished whole rest each parted begun shown being keeps again = record {
    saves = positions_of_kept reports;
    shown = shown;
    unopened = λ none.
        let same : [] ≡ mark_text Opened start_of_kept ∷ whole_lines rest =
        sym none ∙ ap whole_lines begun ∙ texts.line Opened start_of_kept rest in cc same;
    reopens = λ lines. record {
      opened = keeps.opened;
      opens = keeps.opens;
      rest = rest;
      first_line =
          begun ∙ ap (λ positions. mark_text Opened positions ++ rest) (sym (kept_store_starts keeps.opened keeps.opens));
      again = again;
    };
    any_moment = CrashLeaves-weaker d.moment d.image_since old new _ _ keeps.any_moment
        (λ image. ⊎_elim (λ earlier. inl earlier)
        (λ is. inr (kept_store_any_moment reports others keeps.opened image each being keeps.opens
        (subst (λ cuts. OpensToSaves header_of_kept keeps.opened (saves_after (store_sequence keeps.opened) digest_of_kept cuts) image)
        (sym parted) is))));
  }

  -- a session whose first line is whole
  kept_store_of_shape : (whole : Bool)
      (shape : KeptStoreShape opening_of_kept (with_kept_store settings) (λ saved unfinished. true ≡ true → KeptOnDisk saved unfinished) written)
      → (whole ≡ true → shape.others ≡ []) → KeepsItsStore whole
  kept_store_of_shape whole shape all =
      let reports : List Reported = shape.reports in
      let position : Reported → CutValue = λ reported. cut_at opening_of_kept reported.report.positions in
      let rises : RisesInReopenedStore (length opening_of_kept) start_of_kept (reports ++ shape.others) =
      reopened_store_rises opening_of_kept (with_kept_store settings) shape.count (reports ++ shape.others) shape.are in
      let each : AreOfKept reports =
      shown_session_front_of_all (λ (reported : Reported). length reported.report.positions ≡ length opening_of_kept) reports
      shape.others rises.each in
      let reopens : (opened : Option SavedValue) (image : List ℕ) → StoreOpensTo header_of_kept store opened
      → StoreOpensTo header_of_kept image
      (last_of_saves opened (saves_after (store_sequence opened) digest_of_kept (saved_cuts true opening_of_kept reports)))
      → ReopensAfterSaves header_of_kept opened (positions_of_kept reports) whole image = λ opened image.
      kept_store_reopens opened reports reports whole image each (seen_positions_not_past_self _) (omega arith) (λ is. refl) in
      ⊎_elim {C = KeepsItsStore whole} (λ kept. let keeps = kept refl store known in
      kept_store_promised reports [] (saved_cuts true opening_of_kept reports) [] whole shape.rest
      (subst AreOfKept (sym (append-nil reports)) each) (map-append position reports []) shape.begun shape.shown (All-nil _) keeps
      (λ image possible. reopens keeps.opened image keeps.opens (keeps.afterwards image possible))) (λ (next, is_next, being, kept).
      let rising : RisesInReopenedStore (length opening_of_kept) start_of_kept (reports ++ next ∷ []) =
      subst (λ others. RisesInReopenedStore (length opening_of_kept) start_of_kept (reports ++ others)) is_next rises in
      let parted : saved_cuts true opening_of_kept (reports ++ next ∷ [])
      ≡ saved_cuts true opening_of_kept reports ++ saved_cuts true opening_of_kept (next ∷ []) = map-append position reports (next ∷ []) in
      let more : length (reports ++ next ∷ []) ≡ length reports + 1 = length_push reports next in
      let and_next : (opened : Option SavedValue) (image : List ℕ) → StoreOpensTo header_of_kept store opened
      → StoreOpensTo header_of_kept image (last_of_saves opened (saves_after (store_sequence opened) digest_of_kept
      (saved_cuts true opening_of_kept reports ++ saved_cuts true opening_of_kept (next ∷ []))))
      → ReopensAfterSaves header_of_kept opened (positions_of_kept reports) whole image = λ opened image opens found.
      kept_store_reopens opened reports (reports ++ next ∷ []) whole image rising.each
      (reopened_store_next_not_before (length opening_of_kept) start_of_kept reports next rising) (omega (arith, more))
      (λ is. let same : [] ≡ next ∷ [] = sym (all is) ∙ is_next in cc same) opens
      (subst (λ cuts. StoreOpensTo header_of_kept image
      (last_of_saves opened (saves_after (store_sequence opened) digest_of_kept cuts))) (sym parted) found) in
      let one_being = All-cons (λ (reported : Reported). IsBeingSaved written reported.report.positions) next [] being (All-nil _) in
      ⊎_elim (λ begun. let keeps = begun refl store known in
      kept_store_promised reports (next ∷ []) (saved_cuts true opening_of_kept reports) (saved_cuts true opening_of_kept (next ∷ []))
      whole shape.rest rising.each parted shape.begun shape.shown one_being keeps
      (λ image possible. ⊎_elim (reopens keeps.opened image keeps.opens) (λ opens. and_next keeps.opened image keeps.opens
      (subst (StoreOpensTo header_of_kept image) (sym (last_save_after_saves keeps.opened (store_sequence keeps.opened) digest_of_kept
      (saved_cuts true opening_of_kept reports) (saved_cuts true opening_of_kept (next ∷ [])))) opens))
      (keeps.afterwards image possible)))
      (λ made. let keeps = made refl store known in
      kept_store_promised reports (next ∷ []) (saved_cuts true opening_of_kept reports ++ saved_cuts true opening_of_kept (next ∷ [])) []
      whole shape.rest rising.each (parted ∙ sym (append-nil _)) shape.begun shape.shown one_being keeps
      (λ image possible. and_next keeps.opened image keeps.opens (keeps.afterwards image possible))) kept) shape.kept

  -- a session that broke off in its first line
  kept_store_in_first_line : ((disk : D) (bytes : List ℕ) → d.reads disk ≡ Some bytes → d.image_now disk bytes)
      → IsStrictBeginning written (mark_text Opened start_of_kept) → KeptOnDisk [] [] → KeepsItsStore false
  kept_store_in_first_line reading_is_image begins kept =
      let keeps = kept store known in
      record {
        saves = [];
        shown = kept_store_strict_front texts Opened start_of_kept written begins;
        unopened = λ no_line image possible.
            inr (store, keeps.opened, reading_is_image old store known, keeps.opens, keeps.afterwards image possible);
        reopens = λ some. absurd (some (texts.unfinished Opened start_of_kept written begins.0.0 begins.0.1 begins.1));
        any_moment = CrashLeaves-weaker d.moment d.image_since old new _ _ keeps.any_moment
            (λ image. ⊎_elim (λ earlier. inl earlier)
            (λ opens. inr (record { found = keeps.opened; opens = opens; is = inl keeps.opens })));
      }

-- a whole session keeps its store
pub kept_store_after_session : OpenToOne → KeptStoreTexts → {D : Type 0} (d : DiskOf D) (rules : DealingRules) (settings : Settings)
    (old new : D) (store : List ℕ) (file : Option (List ℕ)) (text : List ℕ) → AreLimited settings → settings.store ≡ true
    → d.reads old ≡ Some store → IsSession settings rules (AreKeptOnDisk d old new) (d.reads old) file text
    → StoreIsKept d (stored_header (settings_of_store settings) store) old new store text true
unfolding kept_store_whole kept_store_saved
kept_store_after_session one texts d rules settings old new store file text limited used known session =
    let is = subst (λ s. IsSession s rules (AreKeptOnDisk d old new) (d.reads old) file text)
    (ap (λ b. record settings { store = b }) used) session in
    kept_store_of_shape one texts d settings is.lists is.base old new store text limited is.as_many is.begins known true
    (kept_store_whole texts (session_opening (asked_shape settings) is.lists is.base) settings
    (λ saved unfinished. true ≡ true → AreKeptOnDisk d old new (settings_of_store settings) is.lists saved unfinished)
    is.records text is.spelled) (λ whole. refl)

-- so does one that broke off
pub kept_store_after_part : OpenToOne → KeptStoreTexts → {D : Type 0} (d : DiskOf D)
    → ((disk : D) (bytes : List ℕ) → d.reads disk ≡ Some bytes → d.image_now disk bytes) → (rules : DealingRules)
    (settings : Settings) (old new : D) (store : List ℕ) (file : Option (List ℕ)) (front : List ℕ) → AreLimited settings
    → settings.store ≡ true → d.reads old ≡ Some store
    → IsSessionInPart settings rules (AreKeptOnDisk d old new) (d.reads old) file front
    → StoreIsKept d (stored_header (settings_of_store settings) store) old new store front false
kept_store_after_part one texts d reading_is_image rules settings old new store file front limited used known session =
    let is = subst (λ s. IsSessionInPart s rules (AreKeptOnDisk d old new) (d.reads old) file front)
    (ap (λ b. record settings { store = b }) used) session in
    let opening : List ShardValue = session_opening (asked_shape settings) is.lists is.base in
    let Kept : SessionSaving = λ saved unfinished. true ≡ true
    → AreKeptOnDisk d old new (settings_of_store settings) is.lists saved unfinished in
    let of_shape : KeptStoreShape opening (with_kept_store settings) Kept front
    → StoreIsKept d (stored_header (settings_of_store settings) store) old new store front false = λ shape.
    kept_store_of_shape one texts d settings is.lists is.base old new store front limited is.as_many is.begins known
    false shape (λ no. absurd (false≢true no)) in
    ⊎_elim
    (λ first. kept_store_in_first_line one texts d settings is.lists is.base old new store front limited is.as_many is.begins known
    reading_is_image first.0 (first.1 refl))
    (⊎_elim (λ (more, rounds, parted). of_shape (kept_store_in_rounds texts opening settings Kept more front rounds parted))
    (λ later. of_shape (kept_store_around texts opening settings Kept (settings.rounds + 1) later.reports.rounds later.reports.last
    later.reports.callers (tail_text is.records) later.more front later.are_reports.calling later.written (texts.tail is.records)
    later.breaks_off))) is.begun

-- and a run that left it as before
pub kept_store_as_before : {D : Type 0} (d : DiskOf D)
    → ((disk : D) (moment : ℕ) (image : List ℕ) → moment ≤ d.moment disk → d.image_now disk image → d.image_since disk moment image)
    → (header : StoreHeader) (old new : D) (store : List ℕ) → IsAsBefore d old new
    → StoreIsKept d header old new store [] false
kept_store_as_before d now_is_since header old new store same = record {
  saves = [];
  shown = refl;
  unopened = λ none image possible.
      inl (same.any_moment.each image (now_is_since new (d.moment old) image same.any_moment.later possible));
  reopens = λ some. absurd (some refl);
  any_moment = CrashLeaves-weaker d.moment d.image_since old new _ _ same.any_moment (λ image earlier. inl earlier);
}
