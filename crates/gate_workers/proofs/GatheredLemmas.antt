-- What threads bring back, put together from what each did.
use Rattle.std.proofs.Common.{◌≡◌, ℕ, zero, suc, ◌+◌, ◌<◌, ◌≤◌, List, [], ◌∷◌, ◌++◌, map, fold, length}
use Rattle.std.proofs.Common.{All, IfOk, slice_index, slice_index_or, refl, sym, ap, ◌∙◌, arith, subst, ⊎_elim}
use Rattle.std.proofs.Common.{add-zero, length-append}
use Rattle.std.specs.List.{AllZip}
use Rattle.std.proofs.lemmas.Bool.{cases_lt}
use Rattle.std.proofs.lemmas.List.{get_or_append_left, get_or_push}
use Rattle.std.proofs.lemmas.List.Elements.{All-head, All-tail}
use Rattle.shard_state.specs.{BasesRepresent, ShardValue}
use Rattle.position_words.specs.declared.view.Trail.{Trail}
use Rattle.position_words.specs.declared.view.View.{View}
use Rattle.pass_tokens.specs.{IsPassOf, SeatValue, WordsValue, after_join, newcomer_view, view}
use Rattle.gate_workers.specs.Feeding.{Feeds, HasSeenEnds}
use Rattle.gate_workers.specs.Calling.{Calls}
use Rattle.gate_workers.specs.Running.{AreSoundReports, BringsBack, EachRelates}
use Rattle.gate_workers.specs.Running.{FeedsToEnds, HasCalled, HasEnded}
use Rattle.gate_workers.specs.Running.{EachByNumber, HasFed}
use Rattle.gate_workers.specs.Running.{IsSplitOff, Runs, after_splits}
use Rattle.gate_workers.specs.declared.callers.Caller.{Caller}
use Rattle.gate_workers.specs.declared.gathered.Called.{Called}
use Rattle.gate_workers.specs.declared.plan.ThreadPlan.{ThreadPlan}

gathered_sums_associate : (a b c : ℕ) → (a + b) + c ≡ a + (b + c)
gathered_sums_associate a b c = omega arith

-- splits, and then more
pub gathered_splits_are_summed : (first second : ℕ) (before : View)
    → after_splits second (after_splits first before) ≡ after_splits (first + second) before
gathered_splits_are_summed first second before =
    ap (λ (splits : ℕ). record before { splits = splits }) (gathered_sums_associate before.splits first second)

pub gathered_splits_are_none : (before : View) → before ≡ after_splits 0 before
gathered_splits_are_none before = ap (λ (splits : ℕ). record before { splits = splits }) (sym (add-zero before.splits))

-- one more thread, which has the next number
pub gathered_one_more_thread : {X : Type 0} (P : ℕ → X → Type 0) (threads : List X) (thread : X) (number : ℕ)
    → length threads ≡ number → EachByNumber P threads → P number thread → EachByNumber P (threads ++ thread ∷ [])
gathered_one_more_thread P threads thread number many each next place default below =
    ⊎_elim
    (λ (within : place < length threads).
    subst (P place) (sym (get_or_append_left threads (thread ∷ []) default place within)) (each place default within))
    (λ (past : length threads ≤ place).
    let here : length threads ≡ place = omega (arith, past, below, length-append threads (thread ∷ [])) in
    subst (P place) (sym (get_or_push threads thread default place here))
    (subst (λ n. P n thread) (sym many ∙ here) next))
    (cases_lt place (length threads))

-- what holds of an answer for each thread holds of the list of answers
pub gathered_threads-map : {X Y : Type 0} (P : ℕ → Y → Type 0) (f : X → Y) (threads : List X)
    → EachByNumber (λ number thread. P number (f thread)) threads → EachByNumber P (map f threads)
gathered_threads-map P f [] each place default below = absurd (omega (arith, below))
gathered_threads-map P f (thread ∷ rest) each zero default below = each 0 thread (omega arith)
gathered_threads-map P f (thread ∷ rest) each (suc place) default below =
    gathered_threads-map (λ number. P (suc number)) f rest (λ number other within. each (suc number) other (omega (arith, within)))
    place default (omega (arith, below))

-- each worker, from what its thread did
pub gathered_workers_have_fed : (board : WordsValue) (block : ℕ) (before : View) (passes fed : List SeatValue)
    → length fed ≡ length passes
    → EachByNumber (λ number. IsSplitOff board (after_splits number before)) passes
    → EachRelates (FeedsToEnds board block) passes fed
    → EachByNumber (λ number pass. HasFed board.opening block (after_splits number before) (view pass)) fed
gathered_workers_have_fed board block before passes fed many split each place default below =
    let within : place < length passes = omega (arith, many, below) in
    let made = each place default within in
    record {
      feeds =
          subst (λ v. Feeds board.opening block v (view (slice_index_or fed place default)))
          (split place default within).seen made.feeds;
      ends = made.ends;
    }

pub gathered_workers_are_of_board : (board : WordsValue) (block : ℕ) (passes fed : List SeatValue)
    → length fed ≡ length passes → EachRelates (FeedsToEnds board block) passes fed → All (IsPassOf board) fed
gathered_workers_are_of_board board block passes fed many each place default below =
    (each place default (omega (arith, many, below))).pass

-- each caller, whose pass was split off from the view of its number, from what its thread did
pub gathered_callers_have_ended : (board : WordsValue) (plan : ThreadPlan) (before : ℕ → View) (callers ended : List Caller)
    → length ended ≡ length callers
    → EachByNumber (λ number caller. view caller.pass ≡ newcomer_view (before number)) callers
    → EachRelates (Runs board plan) callers ended
    → EachByNumber (λ number. HasEnded board plan (before number)) ended
gathered_callers_have_ended board plan before callers ended many new each place default below =
    let within : place < length callers = omega (arith, many, below) in
    let made = each place default within in
    let now = slice_index_or ended place default in
    record {
      pass = made.pass;
      calls =
          subst (λ v. IfOk now.reports (Calls board.opening plan.phi plan.rounds v (view now.pass)))
          (new place default within) made.calls;
      sound = made.sound;
    }

-- what holds for each element of a list carries over to another list, if a relation holds at each index
gathered_lists_carry_over : {X Y : Type 0} (P : ℕ → X → Type 0) (R : X → Y → Type 0) (Q : ℕ → Y → Type 0)
    → ((number : ℕ) (x : X) (y : Y) → P number x → R x y → Q number y) → (xs : List X) (ys : List Y)
    → EachByNumber P xs → AllZip R xs ys → EachByNumber Q ys
gathered_lists_carry_over P R Q one [] [] each related place default below = absurd (omega (arith, below))
gathered_lists_carry_over P R Q one [] (y ∷ ys) each related place default below = absurd related
gathered_lists_carry_over P R Q one (x ∷ xs) [] each related place default below = absurd related
gathered_lists_carry_over P R Q one (x ∷ xs) (y ∷ ys) each related zero default below =
    one 0 x y (each 0 x (omega arith)) related.0
gathered_lists_carry_over P R Q one (x ∷ xs) (y ∷ ys) each related (suc place) default below =
    gathered_lists_carry_over (λ number. P (suc number)) R (λ number. Q (suc number)) (λ number. one (suc number)) xs ys
    (λ number other within. each (suc number) other (omega (arith, within))) related.1 place default (omega (arith, below))

gathered_caller_has_called : (board : WordsValue) (plan : ThreadPlan) (before : View) (caller : Caller) (called : Called)
    → HasEnded board plan before caller → BringsBack caller called → HasCalled board.opening plan before called
gathered_caller_has_called board plan before caller called ended back =
    subst (λ pass. Calls board.opening plan.phi plan.rounds (newcomer_view before) (view pass) called.reports)
    (sym back.pass)
    (subst (λ reports. IfOk reports (Calls board.opening plan.phi plan.rounds (newcomer_view before) (view caller.pass)))
    back.reports ended.calls)

pub gathered_callers_have_called : (board : WordsValue) (plan : ThreadPlan) (before : ℕ → View) (ended : List Caller)
    (called : List Called) → EachByNumber (λ number. HasEnded board plan (before number)) ended
    → AllZip BringsBack ended called
    → EachByNumber (λ number. HasCalled board.opening plan (before number)) called
gathered_callers_have_called board plan before ended called each back =
    gathered_lists_carry_over (λ number. HasEnded board plan (before number)) BringsBack
    (λ number. HasCalled board.opening plan (before number))
    (λ number. gathered_caller_has_called board plan (before number)) ended called each back

pub gathered_callers_are_sound : (board : WordsValue) (plan : ThreadPlan) (before : ℕ → View) (ended : List Caller)
    (called : List Called) → EachByNumber (λ number. HasEnded board plan (before number)) ended
    → AllZip BringsBack ended called → BasesRepresent board.opening
    → All (λ (one : Called). AreSoundReports board.opening plan.phi one.reports) called
gathered_callers_are_sound board plan before ended called each back bases =
    gathered_lists_carry_over (λ number. HasEnded board plan (before number)) BringsBack
    (λ number (one : Called). AreSoundReports board.opening plan.phi one.reports)
    (λ number caller one has brings.
    subst (λ reports. IfOk reports (λ rs. BasesRepresent board.opening → AreSoundReports board.opening plan.phi rs))
    brings.reports has.sound bases)
    ended called each back

pub gathered_callers_are_of_board : (board : WordsValue) (plan : ThreadPlan) (before : ℕ → View) (ended : List Caller)
    (called : List Called) → EachByNumber (λ number. HasEnded board plan (before number)) ended
    → AllZip BringsBack ended called → All (λ (one : Called). IsPassOf board one.pass) called
gathered_callers_are_of_board board plan before ended called each back =
    gathered_lists_carry_over (λ number. HasEnded board plan (before number)) BringsBack
    (λ number (one : Called). IsPassOf board one.pass)
    (λ number caller one has brings. subst (IsPassOf board) (sym brings.pass) has.pass) ended called each back

-- the trails of a view to which another was joined
abbrev gathered_trails : View → View → List Trail → List Trail → List Trail
gathered_trails to other trails others = (after_join (record to { trails = trails }) (record other { trails = others })).trails

abbrev seen_in_gathered : ℕ → List Trail → ℕ
seen_in_gathered shard trails = slice_index (map (λ (trail : Trail). trail.seen) trails) shard

gathered_trails-length : (to other : View) (trails others : List Trail)
    → length (gathered_trails to other trails others) ≡ length trails
gathered_trails-length to other [] others = refl
gathered_trails-length to other (trail ∷ rest) [] = refl
gathered_trails-length to other (trail ∷ rest) (one ∷ more) = ap suc (gathered_trails-length to other rest more)

-- it has seen no less than either had
gathered_trails_see_no_less : (to other : View) (trails others : List Trail) (shard : ℕ) → length others ≡ length trails
    → (seen_in_gathered shard trails ≤ seen_in_gathered shard (gathered_trails to other trails others))
    × (seen_in_gathered shard others ≤ seen_in_gathered shard (gathered_trails to other trails others))
gathered_trails_see_no_less to other [] [] shard many = (omega arith, omega arith)
gathered_trails_see_no_less to other [] (one ∷ more) shard many = absurd (omega (arith, many))
gathered_trails_see_no_less to other (trail ∷ rest) [] shard many = absurd (omega (arith, many))
gathered_trails_see_no_less to other (trail ∷ rest) (one ∷ more) zero many = (omega arith, omega arith)
gathered_trails_see_no_less to other (trail ∷ rest) (one ∷ more) (suc shard) many =
    gathered_trails_see_no_less to other rest more shard (omega (arith, many))

gathered_ends_of_other : (opening : List ShardValue) (to other : View) → length other.trails ≡ length to.trails
    → HasSeenEnds opening other → HasSeenEnds opening (after_join to other)
gathered_ends_of_other opening to other many ends shard state at =
    omega (arith, ends shard state at, (gathered_trails_see_no_less to other to.trails other.trails shard many).1)

gathered_ends_stay : (opening : List ShardValue) (to other : View) → length other.trails ≡ length to.trails
    → HasSeenEnds opening to → HasSeenEnds opening (after_join to other)
gathered_ends_stay opening to other many ends shard state at =
    omega (arith, ends shard state at, (gathered_trails_see_no_less to other to.trails other.trails shard many).0)

gathered_ends_all_stay : (board : WordsValue) (to : View) (fed : List SeatValue) → length to.trails ≡ length board.opening
    → All (IsPassOf board) fed → HasSeenEnds board.opening to
    → HasSeenEnds board.opening (fold after_join to (map view fed))
gathered_ends_all_stay board to [] many passes ends = ends
gathered_ends_all_stay board to (pass ∷ rest) many passes ends =
    let seat = (All-head (IsPassOf board) pass rest passes).seat in
    gathered_ends_all_stay board (after_join to (view pass)) rest
    (gathered_trails-length to (view pass) to.trails (view pass).trails ∙ many)
    (All-tail (IsPassOf board) pass rest passes)
    (gathered_ends_stay board.opening to (view pass) (seat.trails ∙ sym many) ends)

-- the pass to which those of the workers are joined has seen the end of each list
pub gathered_pass_sees_ends : (board : WordsValue) (to : View) (fed : List SeatValue)
    → length to.trails ≡ length board.opening → 1 ≤ length fed → All (IsPassOf board) fed
    → All (λ pass. HasSeenEnds board.opening (view pass)) fed
    → HasSeenEnds board.opening (fold after_join to (map view fed))
gathered_pass_sees_ends board to [] many some passes each = absurd (omega (arith, some))
gathered_pass_sees_ends board to (pass ∷ rest) many some passes each =
    let seat = (All-head (IsPassOf board) pass rest passes).seat in
    let ends = All-head (λ pass. HasSeenEnds board.opening (view pass)) pass rest each in
    gathered_ends_all_stay board (after_join to (view pass)) rest
    (gathered_trails-length to (view pass) to.trails (view pass).trails ∙ many)
    (All-tail (IsPassOf board) pass rest passes)
    (gathered_ends_of_other board.opening to (view pass) (seat.trails ∙ sym many) ends)

-- what one more caller brought back
pub gathered_one_more_caller : (callers : List Caller) (called : List Called) (caller : Caller) (one : Called)
    → AllZip BringsBack callers called → BringsBack caller one
    → AllZip BringsBack (callers ++ caller ∷ []) (called ++ one ∷ [])
gathered_one_more_caller [] [] caller one back more = (more, tt)
gathered_one_more_caller [] (other ∷ called) caller one back more = absurd back
gathered_one_more_caller (first ∷ callers) [] caller one back more = absurd back
gathered_one_more_caller (first ∷ callers) (other ∷ called) caller one back more =
    (back.0, gathered_one_more_caller callers called caller one back.1 more)
