-- The last save of a session, and all of its saves together.
use Rattle.std.proofs.Common.{◌≡◌, ◌∙◌, ◌≤◌, ◌+◌, ℕ, Bool, true, List, [], ◌∷◌, ◌++◌, Option, None, Some}
use Rattle.std.proofs.Common.{sym, ap, subst, arith, length, map, All}
use Rattle.std.specs.Prelude.{IfSome, is_some, slice_index}
use Rattle.std.proofs.lemmas.List.{length-map, map-append}
use Rattle.std.proofs.lemmas.List.Elements.{All-head, All-tail}
use Rattle.hhh_report.specs.{AreNotPast}
use Rattle.shard_state.specs.{CutValue, HasCoreShape, ShardValue, core_shape, cut_positions}
use Rattle.hhh_report.specs.declared.reports.Reported.{Reported}
use Rattle.pass_tokens.specs.{WordsValue, first_view}
use Rattle.gate_workers.specs.{View, cut_at}
use Rattle.gate_workers.specs.declared.gathered.Called.{Called}
use Rattle.checkpoint.specs.{AreSettings, SaverState, OpenToOne, saver_after, greatest_sequence, settings_shape}
use Rattle.command_words.specs.declared.settings.Settings.{Settings}
use Rattle.report_session.specs.DealtFeed.{CanSaveCut, IsFeedRest, StartsBefore}
use Rattle.report_session.specs.Saving.{CanMakeSaves, Saves, SavesInPart, SavesInTurn, after_saves}
use Rattle.report_session.specs.Session.{AreOfCaller, IsShownInSession, session_ends, saved_cuts, session_start}
use Rattle.report_session.specs.declared.session.Rest.{Rest}
use Rattle.report_session.proofs.SaveLemmas.{broken_off_save_follows, saves_raise_sequence, saves_leave_header}
use Rattle.report_session.proofs.SeenPositionLemmas.{seen_positions_of_cut, seen_position_is_not_past}
use Rattle.report_session.proofs.SeenPositionLemmas.{seen_positions_are_not_past, seen_positions_same_length}
use Rattle.report_session.proofs.SessionThreadLemmas.{first_session_thread_sees_starts}
use Rattle.report_session.proofs.SessionTextLemmas.{SessionTextFollowsSaves, session_text_within_ends}
use Rattle.slot_disk.specs.declared.disk.Disk.{Ghosts as DiskOf}

-- a saver that may make more saves may make fewer
pub last_save_after_fewer_saves : (reads : Option (List ℕ)) (possible : List ℕ → Type 0) (opening : List ShardValue)
    (view first : View) (count : ℕ) (saver : Option SaverState) → view ≡ first
    → IfSome saver (CanMakeSaves reads possible opening first (count + 1)) → IfSome saver (CanMakeSaves reads possible opening view count)
last_save_after_fewer_saves reads possible opening view first count None same can = tt
last_save_after_fewer_saves reads possible opening view first count (Some saver) same can =
    subst (λ v. CanMakeSaves reads possible opening v count saver) (sym same)
    (record { fits = can.fits; stands = can.stands; early = let more = can.early in omega (arith, more) })

-- positions that aren't past the starts aren't past the ends
last_save_starts_within_ends : (opening : List ShardValue) (positions : List ℕ) → StartsBefore opening
    → AreNotPast positions (session_start opening) → AreNotPast positions (session_ends opening)
last_save_starts_within_ends opening positions starts past =
    let long : length positions ≡ length (session_start opening) = seen_positions_same_length positions (session_start opening) past in
    let many : length (session_start opening) ≡ length opening = length-map opening _ in
    let ends : length (session_ends opening) ≡ length opening = length-map opening _ in
    seen_positions_are_not_past positions (session_ends opening) (omega (arith, long, many, ends)) (λ shard inside.
    let first : slice_index positions shard ≤ slice_index (session_start opening) shard =
    seen_position_is_not_past positions (session_start opening) shard past (omega (arith, inside, many, ends)) in
    let second : slice_index (session_start opening) shard ≤ slice_index (session_ends opening) shard = starts shard in
    omega (arith, first, second))

-- the positions of a saver after the rounds of a session aren't past the ends
last_save_positions_within_ends : (opening : List ShardValue) (settings : Settings) (reports : List Reported) (saver : SaverState)
    → AreNotPast saver.positions (session_ends opening) → All (IsShownInSession opening settings) reports
    → AreNotPast (after_saves saver (saved_cuts true opening reports)).positions (session_ends opening)
last_save_positions_within_ends opening settings [] saver past shown = past
last_save_positions_within_ends opening settings (reported ∷ reports) saver past shown =
    let at = (All-head (IsShownInSession opening settings) reported reports shown).is_report in
    let positions : List ℕ = reported.report.positions in
    last_save_positions_within_ends opening settings reports (saver_after saver (cut_at opening positions))
    (subst (λ ps. AreNotPast ps (session_ends opening)) (sym (seen_positions_of_cut opening positions at.as_many))
    (seen_positions_are_not_past positions (session_ends opening) (at.as_many ∙ sym (length-map opening _))
    (λ shard inside. session_text_within_ends opening positions shard at.as_many at.kept)))
    (All-tail (IsShownInSession opening settings) reported reports shown)

-- after the rounds of a session its last cut may be saved
pub last_save_is_possible : {D : Type 0} (d : DiskOf D) (board : WordsValue) (settings : Settings) (called : List Called)
    (tail : List ℕ) (rest : Rest) (rounds : List Reported) (saver now : Option SaverState) (old new : D)
    → IfSome saver (CanMakeSaves (d.reads old) (d.image_now old) board.opening (first_view board.opening) (settings.rounds + 1))
    → is_some saver ≡ settings.store → StartsBefore board.opening
    → AreOfCaller board.opening settings settings.rounds rounds
    → SavesInTurn d saver now old new (saved_cuts settings.store board.opening rounds)
    → IsFeedRest board settings called tail rest
    → HasCoreShape (length board.opening) (core_shape board.opening) rest.cut
    → IfSome now (CanSaveCut (d.reads new) (d.image_now new) rest.cut)
last_save_is_possible d board settings called tail rest rounds None now old new can used starts
    are saves end shape = subst (λ o. IfSome o (CanSaveCut (d.reads new) (d.image_now new) rest.cut)) (sym saves.saver) tt
last_save_is_possible d board settings called tail rest rounds (Some saver) now old new can used
    starts are saves end shape =
    let opening : List ShardValue = board.opening in
    let cuts : List CutValue = saved_cuts true opening rounds in
    let done : SavesInTurn d (Some saver) now old new cuts =
    subst (λ store. SavesInTurn d (Some saver) now old new (saved_cuts store opening rounds)) (sym used) saves in
    let after : SaverState = after_saves saver cuts in
    let sequence : after.sequence ≡ saver.sequence + length cuts = saves_raise_sequence saver cuts in
    let many : length cuts ≡ length rounds = length-map rounds _ in
    let as_many : length rounds ≡ settings.rounds = are.as_many in
    let early : saver.sequence + (settings.rounds + 1) ≤ greatest_sequence = can.early in
    let seen : AreNotPast saver.positions (session_start opening) =
    subst (AreNotPast saver.positions) (first_session_thread_sees_starts opening) can.fits.seen in
    let at = end.shown.is_report in
    let positions : cut_positions rest.cut ≡ session_ends opening =
    ap cut_positions end.cut_is ∙ seen_positions_of_cut opening end.last.report.positions at.as_many ∙ end.at_ends in
    let same : after.header ≡ saver.header = saves_leave_header saver cuts in
    subst (λ o. IfSome o (CanSaveCut (d.reads new) (d.image_now new) rest.cut)) (sym done.saver) (record {
      settings = subst (λ h. AreSettings h.settings) (sym same) can.fits.settings;
      stands = done.saves.stands;
      early = omega (arith, sequence, many, as_many, early);
      shape = subst (λ h. HasCoreShape h.settings.shards (settings_shape h.settings) rest.cut) (sym same)
          (subst (λ n. HasCoreShape n (settings_shape saver.header.settings) rest.cut) (sym can.fits.shards)
          (subst (λ n. HasCoreShape (length opening) n rest.cut) (sym can.fits.shape) shape));
      no_earlier = subst (AreNotPast after.positions) (sym positions)
          (last_save_positions_within_ends opening settings rounds saver (last_save_starts_within_ends opening saver.positions starts seen) are.shown);
    })

-- all saves of a session
pub last_save_completes_session : {D : Type 0} (d : DiskOf D) (opening : List ShardValue) (store : Bool) (rounds : List Reported)
    (last : Reported) (cut : CutValue) (saver after : Option SaverState) (old new : D) → is_some saver ≡ store
    → cut ≡ cut_at opening last.report.positions
    → SavesInTurn d saver after old new (saved_cuts store opening rounds ++ cut ∷ [])
    → Saves d saver (saved_cuts store opening (rounds ++ last ∷ [])) old new
last_save_completes_session d opening store rounds last cut None after old new used is saves = saves.saves
last_save_completes_session d opening store rounds last cut (Some saver) after old new used is saves =
    let position : Reported → CutValue = λ reported. cut_at opening reported.report.positions in
    subst (λ b. Saves d (Some saver) (saved_cuts b opening (rounds ++ last ∷ [])) old new) used
    (subst (λ cuts. Saves d (Some saver) cuts old new) (sym (map-append position rounds (last ∷ [])))
    (subst (λ c. Saves d (Some saver) (map position rounds ++ c ∷ []) old new) is
    (subst (λ b. SavesInTurn d (Some saver) after old new
    (saved_cuts b opening rounds ++ cut ∷ [])) (sym used) saves).saves))

-- what became of all cuts of a session whose last save, or what follows it, broke off
pub last_save_broken_off : OpenToOne → {D : Type 0} (d : DiskOf D) (opening : List ShardValue) (store : Bool)
    (rounds : List Reported) (last : Reported) (cut : CutValue) (saver between : Option SaverState) (old mid new : D)
    → is_some saver ≡ store → cut ≡ cut_at opening last.report.positions
    → IfSome saver (λ saver. AreSettings saver.header.settings)
    → ((disk : D) (bytes : List ℕ) → d.reads disk ≡ Some bytes → d.image_now disk bytes)
    → SavesInTurn d saver between old mid (saved_cuts store opening rounds)
    → SessionTextFollowsSaves store opening rounds last cut (SavesInPart d between mid new)
    (SavesInPart d saver old new)
last_save_broken_off one d opening store rounds last cut None between old mid new used is are
    is_image saves =
    let same : (saved unfinished : List CutValue) → SavesInPart d between mid new saved unfinished
    → new ≡ old = λ saved unfinished part. part.unused saves.saver ∙ saves.saves in (
      λ part. record { unused = λ none. same [] [] part; kept = tt },
      λ part. record { unused = λ none. same [] (cut ∷ []) part; kept = tt },
      λ part. record { unused = λ none. same (cut ∷ []) [] part; kept = tt },
    )
last_save_broken_off one d opening store rounds last cut (Some saver) between old mid new used is
    are is_image saves =
    let cuts : List CutValue = saved_cuts store opening rounds in
    let same : cut ∷ [] ≡ saved_cuts store opening (last ∷ []) =
    ap (λ c. c ∷ []) is ∙ ap (λ b. saved_cuts b opening (last ∷ [])) used in
    let all : (saved unfinished : List CutValue) → SavesInPart d between mid new saved unfinished
    → SavesInPart d (Some saver) old new (cuts ++ saved) unfinished =
    λ saved unfinished.
    broken_off_save_follows one d is_image (Some saver) between cuts saved unfinished old mid new are saves in (
      all [] [],
      λ part. subst (SavesInPart d (Some saver) old new (cuts ++ [])) same (all [] (cut ∷ []) part),
      λ part. subst (λ list. SavesInPart d (Some saver) old new (cuts ++ list) []) same (all (cut ∷ []) [] part),
    )
