use Rattle.std.proofs.Common.{◌≡◌, ◌+◌, ◌≤◌, inr, length, map, fold, OnErr, Ok, Err, Result, ap, sym, subst, ◌∙◌}
use Rattle.std.proofs.Common.{arith}
use Rattle.std.proofs.Common.{ℕ, List, ◌++◌, take, drop}
use Rattle.std.specs.List.{AllZip}
use Rattle.std.proofs.Math.Seq.{take-append_seam}
use Rattle.std.proofs.lemmas.List.{length-map}
use Rattle.std.proofs.lemmas.Slice.Zip.{AllZip-long}
use Rattle.position_words.specs.declared.view.View.{View}
use Rattle.pass_tokens.specs.{after_join, newcomer_view, view}
use Rattle.gate_workers.specs.Feeding.{HasSeenEnds}
use Rattle.gate_workers.specs.Running.{BringsBack, HasFed, IsSplitOff}
use Rattle.gate_workers.specs.Running.{EachByNumber, after_splits}
use Rattle.gate_workers.proofs.GatheredLemmas.{gathered_splits_are_summed, gathered_threads-map, gathered_workers_have_fed}
use Rattle.gate_workers.proofs.GatheredLemmas.{gathered_workers_are_of_board, gathered_callers_have_ended}
use Rattle.gate_workers.proofs.GatheredLemmas.{gathered_callers_have_called, gathered_callers_are_sound}
use Rattle.gate_workers.proofs.GatheredLemmas.{gathered_callers_are_of_board, gathered_pass_sees_ends}
use Rattle.gate_workers.proofs.running.run_threads.Goals as goal

-- a vector whose slice was written whole
written : {X : Type 0} (len : ℕ) (now old : List X) → length now ≡ len
    → take len (now ++ drop (length now) old) ≡ now
written len now old many =
    ap (λ n. take n (now ++ drop (length now) old)) (sym many) ∙ take-append_seam now (drop (length now) old)

on_err : {X E P : Type 0} (result : Result X E) → P → OnErr result P
on_err (Ok value) holds = tt
on_err (Err error) holds = holds

pub returns-clause-ends : goal.returns-clause-ends
returns-clause-ends g c =
    let board = c.args.board.now in
    let block = c.args.plan.now.block in
    let before = view c.args.pass in
    let passes = c.as_mut_slice.result.now in
    let fed = c.run_all.new.workers in
    let many : length fed ≡ length passes = c.run_all.auto.workers in
    let split : EachByNumber (λ number. IsSplitOff board (after_splits number before)) passes =
    subst (EachByNumber (λ number. IsSplitOff board (after_splits number before)))
    (sym c.as_mut_slice.ensures.value) c.in_ok-workers.ensures.workers in
    let some : 1 ≤ length fed =
    omega (
      arith,
      many,
      c.as_mut_slice.ensures.len,
      c.in_ok-workers.workers.ok.0,
      c.in_ok-workers.ensures.count,
      c.requires.plan.some_workers,
    ) in
    let each = gathered_workers_have_fed board block before passes fed many split c.run_all.ensures.workers in
    let of_board = gathered_workers_are_of_board board block passes fed many c.run_all.ensures.workers in
    let all : HasSeenEnds board.opening (fold after_join (view c.run_all.new.pass) (map view fed)) =
    gathered_pass_sees_ends board (view c.run_all.new.pass) fed c.run_all.ensures.pass.seat.trails some of_board
    (λ number default below. (each number default below).ends) in
    subst (HasSeenEnds board.opening)
    (sym (c.join_workers.ensures.joined
    ∙ ap (λ passes. fold after_join (view c.run_all.new.pass) (map view passes))
    (written c.in_ok-workers.workers.len fed c.in_ok-workers.workers.items (many ∙ c.as_mut_slice.ensures.len)))) all

pub returns-clause-sound : goal.returns-clause-sound
returns-clause-sound g c bases =
    let board = c.args.board.now in
    let plan = c.args.plan.now in
    let before = view c.args.pass in
    let callers = c.as_mut_slice-2.result.now in
    let ended = c.run_all.new.callers in
    let many : length ended ≡ length callers = c.run_all.auto.callers in
    let start : ℕ → View = λ number. after_splits (plan.workers + number) before in
    let new : EachByNumber (λ number caller. view caller.pass ≡ newcomer_view (start number)) callers =
    subst (EachByNumber (λ number caller. view caller.pass ≡ newcomer_view (start number))) (sym c.as_mut_slice-2.ensures.value)
    (λ number default below.
    c.in_ok-callers.ensures.newcomers number default below
    ∙ ap (λ v. newcomer_view (after_splits number v)) c.in_ok-workers.ensures.split
    ∙ ap newcomer_view (gathered_splits_are_summed plan.workers number before)) in
    gathered_callers_are_sound board plan start ended c.in_ok-called.called.items
    (gathered_callers_have_ended board plan start callers ended many new c.run_all.ensures.callers)
    (subst (λ callers. AllZip BringsBack callers c.in_ok-called.called.items)
    (written c.in_ok-callers.callers.len ended c.in_ok-callers.callers.items (many ∙ c.as_mut_slice-2.ensures.len)) c.in_ok-called.ensures)
    bases

pub returns-clause-passes : goal.returns-clause-passes
returns-clause-passes g c =
    let board = c.args.board.now in
    let plan = c.args.plan.now in
    let before = view c.args.pass in
    let callers = c.as_mut_slice-2.result.now in
    let ended = c.run_all.new.callers in
    let many : length ended ≡ length callers = c.run_all.auto.callers in
    let start : ℕ → View = λ number. after_splits (plan.workers + number) before in
    let new : EachByNumber (λ number caller. view caller.pass ≡ newcomer_view (start number)) callers =
    subst (EachByNumber (λ number caller. view caller.pass ≡ newcomer_view (start number))) (sym c.as_mut_slice-2.ensures.value)
    (λ number default below.
    c.in_ok-callers.ensures.newcomers number default below
    ∙ ap (λ v. newcomer_view (after_splits number v)) c.in_ok-workers.ensures.split
    ∙ ap newcomer_view (gathered_splits_are_summed plan.workers number before)) in
    gathered_callers_are_of_board board plan start ended c.in_ok-called.called.items
    (gathered_callers_have_ended board plan start callers ended many new c.run_all.ensures.callers)
    (subst (λ callers. AllZip BringsBack callers c.in_ok-called.called.items)
    (written c.in_ok-callers.callers.len ended c.in_ok-callers.callers.items (many ∙ c.as_mut_slice-2.ensures.len)) c.in_ok-called.ensures)

pub returns-clause-gathers : goal.returns-clause-gathers
returns-clause-gathers g c =
    let board = c.args.board.now in
    let plan = c.args.plan.now in
    let before = view c.args.pass in
    let passes = c.as_mut_slice.result.now in
    let fed = c.run_all.new.workers in
    let many : length fed ≡ length passes = c.run_all.auto.workers in
    let split : EachByNumber (λ number. IsSplitOff board (after_splits number before)) passes =
    subst (EachByNumber (λ number. IsSplitOff board (after_splits number before)))
    (sym c.as_mut_slice.ensures.value) c.in_ok-workers.ensures.workers in
    let each = gathered_workers_have_fed board plan.block before passes fed many split c.run_all.ensures.workers in
    let callers = c.as_mut_slice-2.result.now in
    let ended = c.run_all.new.callers in
    let as_many : length ended ≡ length callers = c.run_all.auto.callers in
    let start : ℕ → View = λ number. after_splits (plan.workers + number) before in
    let new : EachByNumber (λ number caller. view caller.pass ≡ newcomer_view (start number)) callers =
    subst (EachByNumber (λ number caller. view caller.pass ≡ newcomer_view (start number))) (sym c.as_mut_slice-2.ensures.value)
    (λ number default below.
    c.in_ok-callers.ensures.newcomers number default below
    ∙ ap (λ v. newcomer_view (after_splits number v)) c.in_ok-workers.ensures.split
    ∙ ap newcomer_view (gathered_splits_are_summed plan.workers number before)) in
    let back : AllZip BringsBack ended c.in_ok-called.called.items =
    subst (λ callers. AllZip BringsBack callers c.in_ok-called.called.items)
    (written c.in_ok-callers.callers.len ended c.in_ok-callers.callers.items (as_many ∙ c.as_mut_slice-2.ensures.len)) c.in_ok-called.ensures in
    let splits : view c.split_callers.new.pass ≡ after_splits (plan.workers + plan.callers) before =
    c.in_ok-callers.ensures.split ∙ ap (after_splits plan.callers) c.in_ok-workers.ensures.split
    ∙ gathered_splits_are_summed plan.workers plan.callers before in
    record {
      rounds = record {
        now = view c.run_all.new.pass;
        does =
            subst (λ v. g.W.Rounds.does c.args.work.now v c.run_all.new.work (view c.run_all.new.pass)) splits
            c.run_all.ensures.does;
      };
      workers = map view fed;
      as_many_workers =
          length-map fed view ∙ many ∙ c.as_mut_slice.ensures.len ∙ c.in_ok-workers.workers.ok.0
          ∙ c.in_ok-workers.ensures.count;
      fed = gathered_threads-map
          (λ number. HasFed board.opening plan.block (after_splits number before)) view fed each;
      pass =
          c.join_workers.ensures.joined
          ∙ ap (λ passes. fold after_join (view c.run_all.new.pass) (map view passes))
          (written c.in_ok-workers.workers.len fed c.in_ok-workers.workers.items (many ∙ c.as_mut_slice.ensures.len));
      as_many_callers =
          AllZip-long BringsBack ended c.in_ok-called.called.items back ∙ as_many ∙ c.as_mut_slice-2.ensures.len
          ∙ c.in_ok-callers.callers.ok.0 ∙ c.in_ok-callers.ensures.count;
      called =
          gathered_callers_have_called board plan start ended c.in_ok-called.called.items
          (gathered_callers_have_ended board plan start callers ended as_many new c.run_all.ensures.callers) back;
    }

pub returns-in_err-called-clause-memory : goal.returns-in_err-called-clause-memory
returns-in_err-called-clause-memory g c =
    let plan = c.args.plan.now in
    let before = view c.args.pass in
    let splits : view c.split_callers.new.pass ≡ after_splits (plan.workers + plan.callers) before =
    c.in_ok-callers.ensures.split ∙ ap (after_splits plan.callers) c.in_ok-workers.ensures.split
    ∙ gathered_splits_are_summed plan.workers plan.callers before in
    on_err c.from_residual-in_err-called.result
    (inr (record {
      now = view c.run_all.new.pass;
      does =
          subst (λ v. g.W.Rounds.does c.args.work.now v c.run_all.new.work (view c.run_all.new.pass)) splits
          c.run_all.ensures.does;
    }))
