-- The bytes of a session, as they are written.
use Rattle.std.proofs.Common.{◌≡◌, ◌∙◌, ◌≤◌, ◌+◌, ◌-◌, inl, inr, ℕ, zero, suc, List, [], ◌∷◌, ◌++◌, Option, All, refl}
use Rattle.std.proofs.Common.{sym, ap, ap₂, subst, arith, length, map, append-nil, append_assoc, get_or, Bool}
use Rattle.std.specs.Prelude.{slice_index}
use Rattle.std.specs.List.Sorted.{IsNonDecreasing}
use Rattle.std.specs.Io.KnownBytes.{Appends}
use Rattle.std.proofs.KnownBytes.{Appends-trans}
use Rattle.std.proofs.lemmas.List.{length-append, length-map, map-append}
use Rattle.std.proofs.lemmas.List.Elements.{All-append, All-cons, All-head, All-map, All-nil, All-tail}
use Rattle.std.proofs.lemmas.List.Sorted.{IsNonDecreasingBy-push}
use Rattle.outside_io.specs.{AppendsPart, IsBeginning}
use Rattle.shard_state.specs.{CutValue, IsShard, ShardValue, shard_state_at}
use Rattle.hhh_report.specs.declared.reports.Reported.{Reported}
use Rattle.gate_workers.specs.{states_at}
use Rattle.pass_tokens.specs.{WordsValue}
use Rattle.command_words.specs.declared.settings.Settings.{Settings}
use Rattle.report_text.specs.{mark_text, report_text}
use Rattle.report_text.specs.declared.mark.Mark.TheVariants.{Opened}
use Rattle.report_session.specs.Session.{WritesAnswer, AreOfCaller, AreReports, BeginsSession, BreaksOffAround}
use Rattle.report_session.specs.Session.{BreaksOffInRounds, IsShownInSession, IsStrictBeginning, SessionSaving}
use Rattle.report_session.specs.Session.{IsOverShards, rest_after_saves, calling_reports, other_parts, session_ends}
use Rattle.report_session.specs.Session.{session_parts, saved_cuts, save_line, session_start}
use Rattle.report_session.specs.DealtFeed.{IsFeedResult, IsFeedRest, StartsBefore, FeedBreaksOff, other_reports}
use Rattle.report_session.specs.declared.feed.Fed.{Fed}
use Rattle.report_session.specs.declared.session.Rest.{Rest}
use Rattle.report_session.proofs.RoundLemmas.{saved_cuts-no_rounds}
use Rattle.report_session.proofs.SaveLemmas.{saved_cuts-append_saves}
use Rattle.report_session.proofs.ShownSessionLemmas.{shown_session_front_of_all}

-- the texts behind the rounds, put together
pub session_text_groups : (callers report line tail : List ℕ)
    → (callers ++ report) ++ (line ++ tail) ≡ callers ++ ((report ++ line) ++ tail)
session_text_groups callers report line tail = simp append_assoc

-- the first line was written in part
pub session_text_breaks_in_line : (opening : List ShardValue) (settings : Settings) (Kept : SessionSaving) (tail line : List ℕ)
    (old new : Option (List ℕ)) → line ≡ mark_text Opened (session_start opening) → AppendsPart old new line → Kept [] []
    → WritesAnswer (BeginsSession opening settings Kept tail) old new
session_text_breaks_in_line opening settings Kept tail line old new is written kept = record {
  text = written.front;
  is_text = inl (subst (IsStrictBeginning written.front) is (written.is_beginning, written.cut), kept);
  written = written.appended;
}

-- the first line, and rounds in part
pub session_text_breaks_in_rounds : (opening : List ShardValue) (settings : Settings) (Kept : SessionSaving) (tail line : List ℕ)
    (old between new : Option (List ℕ)) → line ≡ mark_text Opened (session_start opening) → Appends old between line
    → FeedBreaksOff opening settings Kept between new → WritesAnswer (BeginsSession opening settings Kept tail) old new
session_text_breaks_in_rounds opening settings Kept tail line old between new is first part = record {
  text = line ++ part.front;
  is_text = inr (inl (part.front, part.breaks_off, ap (λ first. first ++ part.front) is));
  written = Appends-trans old between new line part.front first part.written;
}

-- rounds that were made whole, as rounds in part
pub session_text_of_fed_rounds : (board : WordsValue) (settings : Settings) (Kept : List CutValue → Type 0) (KeptInPart : SessionSaving)
    (old new : Option (List ℕ)) (fed : Fed) → ((cuts : List CutValue) → Kept cuts → KeptInPart cuts [])
    → IsFeedResult board settings Kept old new fed → FeedBreaksOff board.opening settings KeptInPart old new
session_text_of_fed_rounds board settings Kept KeptInPart old new fed part is =
    let gathered = is.gathered in
    let many : length gathered.rounds ≡ settings.rounds = gathered.are_rounds.as_many in
    record {
      front = session_parts settings.store gathered.rounds;
      breaks_off = inl (record {
        rounds = gathered.rounds;
        few = omega (arith, many);
        are_reports = subst (λ n. AreOfCaller board.opening settings n gathered.rounds) (sym many) gathered.are_rounds;
        written = refl;
        kept = part (saved_cuts settings.store board.opening gathered.rounds) gathered.kept;
      });
      written = gathered.written;
    }

-- a report's positions are within the lists
pub session_text_within_ends : (opening : List ShardValue) (positions : List ℕ) (shard : ℕ) → length positions ≡ length opening
    → All IsShard (states_at opening positions) → slice_index positions shard ≤ slice_index (session_ends opening) shard
session_text_within_ends [] [] shard many kept = omega arith
session_text_within_ends (first ∷ rest) (position ∷ positions) zero many kept =
    (All-head IsShard (shard_state_at position first) (states_at rest positions) kept).within
session_text_within_ends (first ∷ rest) (position ∷ positions) (suc shard) many kept =
    session_text_within_ends rest positions shard (omega (arith, many))
    (All-tail IsShard (shard_state_at position first) (states_at rest positions) kept)
session_text_within_ends _ _ shard many kept = absurd (omega (arith, many))

-- the rounds of the calling thread, and the last report
pub session_text_with_last : (opening : List ShardValue) (settings : Settings) (count : ℕ) (reports : List Reported) (last : Reported)
    → StartsBefore opening → AreOfCaller opening settings count reports → IsShownInSession opening settings last
    → last.report.positions ≡ session_ends opening → AreOfCaller opening settings (count + 1) (reports ++ last ∷ [])
session_text_with_last opening settings count reports last starts are shown ends = record {
  as_many = omega (arith, length-append reports (last ∷ []), are.as_many);
  shown =
      All-append (IsShownInSession opening settings) reports (last ∷ []) are.shown
      (All-cons (IsShownInSession opening settings) last [] shown (All-nil (IsShownInSession opening settings)));
  never_fall = λ shard inside.
      let position : Reported → ℕ = λ reported. slice_index reported.report.positions shard in
      let first : ℕ = slice_index (session_start opening) shard in
      let end : ℕ = slice_index (session_ends opening) shard in
      let is_end : position last ≡ end = ap (λ positions. slice_index positions shard) ends in
      let below : All (λ number. number ≤ position last) (first ∷ map position reports) =
      All-cons (λ number. number ≤ position last) first (map position reports) (omega (arith, starts shard, is_end))
      (All-map (λ number. number ≤ position last) position reports (λ k d lt.
      let at = (are.shown k d lt).is_report in
      let within = session_text_within_ends opening (get_or reports k d).report.positions shard at.as_many at.kept in
      omega (arith, within, is_end))) in
      subst (λ positions. IsNonDecreasing (first ∷ positions)) (sym (map-append position reports (last ∷ [])))
      (IsNonDecreasingBy-push (λ x. x) (first ∷ map position reports) (position last) (are.never_fall shard inside)
      (λ d some. below (length (first ∷ map position reports) - 1) d (omega (arith, some))));
}

-- a session of which less is said
pub spelled_session_text_says_less : (opening : List ShardValue) (settings : Settings) (Kept Less : List CutValue → Type 0)
    (tail text : List ℕ) → ((cuts : List CutValue) → Kept cuts → Less cuts)
    → IsOverShards opening settings Kept tail text → IsOverShards opening settings Less tail text
spelled_session_text_says_less opening settings Kept Less tail text less session = record {
  reports = session.reports;
  are_reports = session.are_reports;
  spelled = session.spelled;
  kept = less (saved_cuts settings.store opening (calling_reports session.reports)) session.kept;
}

-- the reports of a whole session
session_text_of_all_reports : (board : WordsValue) (settings : Settings) (Fed_kept : List CutValue → Type 0) (tail : List ℕ)
    (old new : Option (List ℕ)) (fed : Fed) (rest : Rest) → StartsBefore board.opening
    → (is : IsFeedResult board settings Fed_kept old new fed) → (end : IsFeedRest board settings fed.gathered.called.items tail rest)
    → AreReports board.opening settings
    (record { rounds = is.gathered.rounds; callers = other_reports fed.gathered.called.items; last = end.last })
session_text_of_all_reports board settings Fed_kept tail old new fed rest starts is end = record {
  calling = session_text_with_last board.opening settings settings.rounds is.gathered.rounds end.last starts is.gathered.are_rounds
      end.shown end.at_ends;
  at_ends = end.at_ends;
  as_many = length-map fed.gathered.called.items _ ∙ is.gathered.as_many;
  callers = is.gathered.callers;
}

-- a whole session
pub session_text_is_spelled : (board : WordsValue) (settings : Settings) (Fed_kept Kept : List CutValue → Type 0)
    (tail line : List ℕ) (old new : Option (List ℕ)) (fed : Fed) (rest : Rest)
    → StartsBefore board.opening → line ≡ mark_text Opened (session_start board.opening)
    → (is : IsFeedResult board settings Fed_kept old new fed) → (end : IsFeedRest board settings fed.gathered.called.items tail rest)
    → Kept (saved_cuts settings.store board.opening (is.gathered.rounds ++ end.last ∷ []))
    → IsOverShards board.opening settings Kept tail
    (line ++ (session_parts settings.store is.gathered.rounds ++ (rest.front.items ++ rest.back.items)))
session_text_is_spelled board settings Fed_kept Kept tail line old new fed rest starts is_line is end kept =
    let texts = ap₂ (λ a b. a ++ b) end.front_is end.back_is
    ∙ session_text_groups (other_parts (other_reports fed.gathered.called.items)) (report_text end.last.report)
    (save_line settings.store end.last.report.positions) tail in
    record {
      reports = record {
        rounds = is.gathered.rounds;
        callers = other_reports fed.gathered.called.items;
        last = end.last;
      };
      are_reports = session_text_of_all_reports board settings Fed_kept tail old new fed rest starts is end;
      spelled = ap₂ (λ a b. a ++ (session_parts settings.store is.gathered.rounds ++ b)) is_line texts;
      kept = kept;
    }

-- the whole session was written
pub session_text_is_written : (opening : List ShardValue) (settings : Settings) (Kept : List CutValue → Type 0)
    (tail line rounds rest : List ℕ) (old first second new : Option (List ℕ))
    → IsOverShards opening settings Kept tail (line ++ (rounds ++ rest))
    → Appends old first line → Appends first second rounds → Appends second new rest
    → WritesAnswer (IsOverShards opening settings Kept tail) old new
session_text_is_written opening settings Kept tail line rounds rest old first second new spelled one two three = record {
  text = line ++ (rounds ++ rest);
  is_text = spelled;
  written =
      Appends-trans old first new line (rounds ++ rest) one (Appends-trans first second new rounds rest two three);
}

-- two texts with a save between them that broke off, as the texts and the cut are known otherwise, of which less is said
pub session_text_around_save : (before after other_before other_after : List ℕ) (cut other_cut : List CutValue) (Kept Less : SessionSaving)
    (front : List ℕ) → before ≡ other_before → after ≡ other_after → (Kept [] [] → Less [] [])
    → (Kept [] cut → Less [] other_cut) → (Kept cut [] → Less other_cut [])
    → BreaksOffAround before after cut Kept front → BreaksOffAround other_before other_after other_cut Less front
session_text_around_save before after other_before other_after cut other_cut Kept Less front same_before same_after none unfinished saved
    (inl (begins, kept)) = inl (subst (IsBeginning front) same_before begins, none kept)
session_text_around_save before after other_before other_after cut other_cut Kept Less front same_before same_after none unfinished saved
    (inr (inl (whole, kept))) = inr (inl (whole ∙ same_before, unfinished kept))
session_text_around_save before after other_before other_after cut other_cut Kept Less front same_before same_after none unfinished saved
    (inr (inr (more, short, parted, kept))) =
    inr (inr (more, subst (IsStrictBeginning more) same_after short, parted ∙ ap (λ text. text ++ more) same_before, saved kept))

-- what became of the last cut of a session (Rest) is what became of all its cuts (Kept), after those of its rounds
abbrev pub SessionTextFollowsSaves : Bool → List ShardValue → List Reported → Reported → CutValue → (Rest Kept : SessionSaving) → Type 0
SessionTextFollowsSaves store opening rounds last cut Rest Kept =
    (Rest [] [] → rest_after_saves store opening rounds Kept [] [])
    × (Rest [] (cut ∷ []) → rest_after_saves store opening rounds Kept [] (saved_cuts store opening (last ∷ [])))
    × (Rest (cut ∷ []) [] → rest_after_saves store opening rounds Kept (saved_cuts store opening (last ∷ [])) [])

-- the session was written but for a part of its rest
pub session_text_breaks_in_rest : (board : WordsValue) (settings : Settings) (Fed_kept : List CutValue → Type 0)
    (KeptInRest KeptInPart : SessionSaving) (tail line : List ℕ) (old first second new : Option (List ℕ)) (fed : Fed)
    (rest : Rest) → StartsBefore board.opening → line ≡ mark_text Opened (session_start board.opening)
    → (is : IsFeedResult board settings Fed_kept first second fed)
    → (end : IsFeedRest board settings fed.gathered.called.items tail rest) → Appends old first line
    → SessionTextFollowsSaves settings.store board.opening is.gathered.rounds end.last rest.cut KeptInRest KeptInPart
    → WritesAnswer (BreaksOffAround rest.front.items rest.back.items (rest.cut ∷ []) KeptInRest) second new
    → WritesAnswer (BeginsSession board.opening settings KeptInPart tail) old new
session_text_breaks_in_rest board settings Fed_kept KeptInRest KeptInPart tail line old first second new fed rest starts is_line is
    end one kept part =
    let rounds : List ℕ = session_parts settings.store is.gathered.rounds in
    record {
      text = line ++ (rounds ++ part.text);
      is_text = inr (inr (record {
        reports = record {
          rounds = is.gathered.rounds;
          callers = other_reports fed.gathered.called.items;
          last = end.last;
        };
        are_reports = session_text_of_all_reports board settings Fed_kept tail first second fed rest starts is end;
        more = part.text;
        breaks_off = session_text_around_save rest.front.items rest.back.items
            (other_parts (other_reports fed.gathered.called.items) ++ report_text end.last.report)
            (save_line settings.store end.last.report.positions ++ tail) (rest.cut ∷ [])
            (saved_cuts settings.store board.opening (end.last ∷ [])) KeptInRest
            (rest_after_saves settings.store board.opening is.gathered.rounds KeptInPart) part.text end.front_is end.back_is
            kept.0 kept.1 kept.2 part.is_text;
        written = ap (λ text. text ++ (rounds ++ part.text)) is_line;
      }));
      written =
          Appends-trans old first new line (rounds ++ part.text) one
          (Appends-trans first second new rounds part.text is.gathered.written part.written);
    }

-- of what became of the cuts of a session (Kept) less is said (Less): where those of some reports were saved, and where the
-- save of the next one is unfinished
pub record SessionTextSaysLess (opening : List ShardValue) (settings : Settings) (Kept Less : SessionSaving) : Type 0 where
  pub saved : (reports : List Reported) → All (IsShownInSession opening settings) reports
      → Kept (saved_cuts settings.store opening reports) [] → Less (saved_cuts settings.store opening reports) []
  pub unfinished : (count : ℕ) (rounds : List Reported) (next : Reported)
      → AreOfCaller opening settings count (rounds ++ next ∷ [])
      → Kept (saved_cuts settings.store opening rounds) (saved_cuts settings.store opening (next ∷ []))
      → Less (saved_cuts settings.store opening rounds) (saved_cuts settings.store opening (next ∷ []))

-- a session that broke off, of which less is said
module _ (opening : List ShardValue) (settings : Settings) (Kept Less : SessionSaving)
    (less : SessionTextSaysLess opening settings Kept Less) where
  session_text_saves_say_less : (reports : List Reported) (cuts : List CutValue) → All (IsShownInSession opening settings) reports
      → saved_cuts settings.store opening reports ≡ cuts → Kept cuts [] → Less cuts []
  session_text_saves_say_less reports cuts shown is kept =
      subst (λ l. Less l []) is (less.saved reports shown (subst (λ l. Kept l []) (sym is) kept))

  session_text_around_says_less : (count : ℕ) (rounds : List Reported) (next : Reported) (before after front : List ℕ)
      → AreOfCaller opening settings count (rounds ++ next ∷ [])
      → BreaksOffAround before after (saved_cuts settings.store opening (next ∷ []))
      (rest_after_saves settings.store opening rounds Kept) front
      → BreaksOffAround before after (saved_cuts settings.store opening (next ∷ []))
      (rest_after_saves settings.store opening rounds Less) front
  session_text_around_says_less count rounds next before after front are breaks =
      let cuts : List CutValue = saved_cuts settings.store opening rounds in
      let cut : List CutValue = saved_cuts settings.store opening (next ∷ []) in
      session_text_around_save before after before after cut cut (rest_after_saves settings.store opening rounds Kept)
      (rest_after_saves settings.store opening rounds Less) front refl refl
      (session_text_saves_say_less rounds (cuts ++ [])
      (shown_session_front_of_all (IsShownInSession opening settings) rounds (next ∷ []) are.shown) (sym (append-nil cuts)))
      (λ kept. subst (λ l. Less l cut) (sym (append-nil cuts))
      (less.unfinished count rounds next are (subst (λ l. Kept l cut) (append-nil cuts) kept)))
      (session_text_saves_say_less (rounds ++ next ∷ []) (cuts ++ cut) are.shown
      (saved_cuts-append_saves settings.store opening rounds (next ∷ []))) breaks

  session_text_rounds_say_less : (front : List ℕ) → BreaksOffInRounds opening settings Kept front
      → BreaksOffInRounds opening settings Less front
  session_text_rounds_say_less front (inl between) = inl (record {
    rounds = between.rounds;
    few = between.few;
    are_reports = between.are_reports;
    written = between.written;
    kept = less.saved between.rounds between.are_reports.shown between.kept;
  })
  session_text_rounds_say_less front (inr within) = inr (record {
    rounds = within.rounds;
    next = within.next;
    few = within.few;
    are_reports = within.are_reports;
    more = within.more;
    breaks_off = session_text_around_says_less (length within.rounds + 1) within.rounds within.next (report_text within.next.report)
        (save_line settings.store within.next.report.positions) within.more within.are_reports within.breaks_off;
    written = within.written;
  })

  pub session_text_begins_saying_less : (tail front : List ℕ) → BeginsSession opening settings Kept tail front
      → BeginsSession opening settings Less tail front
  session_text_begins_saying_less tail front (inl (short, kept)) =
      inl (short, session_text_saves_say_less [] [] (All-nil _) (saved_cuts-no_rounds settings.store opening) kept)
  session_text_begins_saying_less tail front (inr (inl (more, rounds, parted))) =
      inr (inl (more, session_text_rounds_say_less more rounds, parted))
  session_text_begins_saying_less tail front (inr (inr later)) = inr (inr (record {
    reports = later.reports;
    are_reports = later.are_reports;
    more = later.more;
    breaks_off = session_text_around_says_less (settings.rounds + 1) later.reports.rounds later.reports.last
        (other_parts later.reports.callers ++ report_text later.reports.last.report)
        (save_line settings.store later.reports.last.report.positions ++ tail) later.more later.are_reports.calling later.breaks_off;
    written = later.written;
  }))

-- what is said whatever cuts were saved
session_text_around_any_saves : (before after : List ℕ) (cut : List CutValue) (Said : Type 0) (front : List ℕ)
    → BreaksOffAround before after cut (λ saved unfinished. Said) front → Said
session_text_around_any_saves before after cut Said front (inl (begins, said)) = said
session_text_around_any_saves before after cut Said front (inr (inl (whole, said))) = said
session_text_around_any_saves before after cut Said front (inr (inr (more, short, parted, said))) = said

pub session_text_whatever_was_saved : (opening : List ShardValue) (settings : Settings) (Said : Type 0) (tail front : List ℕ)
    → BeginsSession opening settings (λ saved unfinished. Said) tail front → Said
session_text_whatever_was_saved opening settings Said tail front (inl (short, said)) = said
session_text_whatever_was_saved opening settings Said tail front (inr (inl (more, inl between, parted))) = between.kept
session_text_whatever_was_saved opening settings Said tail front (inr (inl (more, inr within, parted))) =
    session_text_around_any_saves (report_text within.next.report) (save_line settings.store within.next.report.positions)
    (saved_cuts settings.store opening (within.next ∷ [])) Said within.more within.breaks_off
session_text_whatever_was_saved opening settings Said tail front (inr (inr later)) =
    session_text_around_any_saves (other_parts later.reports.callers ++ report_text later.reports.last.report)
    (save_line settings.store later.reports.last.report.positions ++ tail)
    (saved_cuts settings.store opening (later.reports.last ∷ [])) Said later.more later.breaks_off

-- where less is said of any cuts
pub session_text_begins_weaker : (opening : List ShardValue) (settings : Settings) (Kept Less : SessionSaving) (tail front : List ℕ)
    → ((saved unfinished : List CutValue) → Kept saved unfinished → Less saved unfinished)
    → BeginsSession opening settings Kept tail front → BeginsSession opening settings Less tail front
session_text_begins_weaker opening settings Kept Less tail front less =
    session_text_begins_saying_less opening settings Kept Less
    (record { saved = λ reports shown. less _ []; unfinished = λ count rounds next are. less _ _ }) tail front
