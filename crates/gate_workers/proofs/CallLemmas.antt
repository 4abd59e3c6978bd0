-- Cuts of the pure core, and rounds of reads.
use Rattle.std.proofs.Common.{◌≡◌, ℕ, zero, suc, ◌+◌, ◌<◌, ◌≤◌, List, [], ◌∷◌, ◌++◌, map, length, drop, get_or}
use Rattle.std.proofs.Common.{slice_get, Some, None, All, refl, sym, ap, ap₂, ◌∙◌, arith, subst}
use Rattle.std.specs.Prelude.{slice_index}
use Rattle.std.specs.List.{AllZip}
use Rattle.std.specs.List.Sorted.{IsNonDecreasing}
use Rattle.std.proofs.lemmas.List.Elements.{All-nil, All-cons, All-append, All-head, All-tail}
use Rattle.std.proofs.lemmas.List.{length-map, length-append, map-append}
use Rattle.std.proofs.lemmas.List.Sorted.{IsNonDecreasingBy-drop, IsNonDecreasingBy-short}
use Rattle.prefix_lattice.specs.{RecordValue}
use Rattle.shard_state.specs.{AreCoreShards, BasesRepresent, CutRepresents, CutValue, HasCoreShape, IsShard}
use Rattle.shard_state.specs.{ShardValue, TableShape}
use Rattle.shard_state.specs.{SnapshotRepresents, SnapshotValue, core_shape, core_lists, cut_positions}
use Rattle.shard_state.specs.{snapshot_of}
use Rattle.shard_state.specs.{shard_state_at}
use Rattle.hhh_output.specs.{IsReportOf}
use Rattle.hhh_report.specs.declared.report.Report.{Report}
use Rattle.hhh_report.specs.declared.reports.Reported.{Reported}
use Rattle.position_words.specs.declared.view.Trail.{Trail}
use Rattle.position_words.specs.declared.view.View.{View}
use Rattle.pass_tokens.specs.{IsOddWord, ReadsCut, ShardRead, after_reads, seen_in, states_of}
use Rattle.gate_workers.specs.Calling.{Calls, IsCoreCut, IsCoreReport, after_calls, cut_at}
use Rattle.gate_workers.specs.Calling.{ReadsInRounds, ReadsOnce, shard_positions, positions_read, states_at}

call_states_at_positions : (opening : List ShardValue) (reads : List ShardRead)
    → states_of opening reads ≡ states_at opening (positions_read reads)
call_states_at_positions [] reads = refl
call_states_at_positions (shard ∷ rest) [] = refl
call_states_at_positions (shard ∷ rest) (read ∷ reads) = ap (λ states. shard_state_at read.position shard ∷ states) (call_states_at_positions rest reads)

call_states_keep_positions : (opening : List ShardValue) (positions : List ℕ) → length positions ≡ length opening
    → map (λ (snapshot : SnapshotValue). snapshot.position) (map snapshot_of (states_at opening positions)) ≡ positions
call_states_keep_positions [] [] many = refl
call_states_keep_positions [] (position ∷ positions) many = absurd (omega (arith, many))
call_states_keep_positions (shard ∷ rest) [] many = absurd (omega (arith, many))
call_states_keep_positions (shard ∷ rest) (position ∷ positions) many =
    ap (λ ps. position ∷ ps) (call_states_keep_positions rest positions (omega (arith, many)))

-- the cut that was read is that of the pure core at the positions of the reads
call_makes_cut_at_positions : (opening : List ShardValue) (before now : View) (cut changed : CutValue)
    (reads : ReadsCut opening before cut now changed) → HasCoreShape (length opening) (core_shape opening) cut
    → IsCoreCut opening (positions_read reads.reads) changed
call_makes_cut_at_positions opening before now cut changed reads shape = record {
  as_many = length-map reads.reads (λ read. read.position) ∙ reads.as_many;
  kept = subst (All IsShard) (call_states_at_positions opening reads.reads) reads.kept;
  is =
      reads.core
      ∙ ap₂ (λ s states. record { shape = s; shards = map snapshot_of states }) shape.alike
      (call_states_at_positions opening reads.reads);
}

call_cut_has_positions : (opening : List ShardValue) (positions : List ℕ) (cut : CutValue) → IsCoreCut opening positions cut
    → cut_positions cut ≡ positions
call_cut_has_positions opening positions cut at = ap cut_positions at.is ∙ call_states_keep_positions opening positions at.as_many

pub call_cut_at_its_positions : (opening : List ShardValue) (before now : View) (cut changed : CutValue)
    → ReadsCut opening before cut now changed → HasCoreShape (length opening) (core_shape opening) cut
    → IsCoreCut opening (cut_positions changed) changed
call_cut_at_its_positions opening before now cut changed reads shape =
    let at : IsCoreCut opening (positions_read reads.reads) changed =
    call_makes_cut_at_positions opening before now cut changed reads shape in
    subst (λ ps. IsCoreCut opening ps changed) (sym (call_cut_has_positions opening (positions_read reads.reads) changed at)) at

-- such a cut represents the lists if the bases do
call_snapshots_represent_records : (opening : List ShardValue) (positions : List ℕ) → length positions ≡ length opening
    → ((shard : ShardValue) → SnapshotRepresents shard.base shard.list → shard.base.position ≤ shard.position
    → shard.position ≤ length shard.list → SnapshotRepresents (snapshot_of shard) shard.list)
    → All (λ (shard : ShardValue). SnapshotRepresents shard.base shard.list) opening
    → All IsShard (states_at opening positions)
    → AllZip SnapshotRepresents (map snapshot_of (states_at opening positions)) (core_lists opening)
call_snapshots_represent_records [] [] many goes_on bases kept = tt
call_snapshots_represent_records [] (position ∷ positions) many goes_on bases kept = absurd (omega (arith, many))
call_snapshots_represent_records (shard ∷ rest) [] many goes_on bases kept = absurd (omega (arith, many))
call_snapshots_represent_records (shard ∷ rest) (position ∷ positions) many goes_on bases kept =
    let state : ShardValue = shard_state_at position shard in
    let is_shard : IsShard state = All-head IsShard state (states_at rest positions) kept in (
      goes_on state (All-head (λ (s : ShardValue). SnapshotRepresents s.base s.list) shard rest bases)
          is_shard.begun is_shard.within,
      call_snapshots_represent_records rest positions (omega (arith, many)) goes_on
          (All-tail (λ (s : ShardValue). SnapshotRepresents s.base s.list) shard rest bases)
          (All-tail IsShard state (states_at rest positions) kept),
    )

call_snapshots_have_shape : (opening : List ShardValue) (positions : List ℕ) (shape : TableShape)
    → All (λ (shard : ShardValue). shard.base.shape ≡ shape) opening
    → All (λ (snapshot : SnapshotValue). snapshot.shape ≡ shape) (map snapshot_of (states_at opening positions))
call_snapshots_have_shape [] positions shape alike = All-nil (λ (snapshot : SnapshotValue). snapshot.shape ≡ shape)
call_snapshots_have_shape (shard ∷ rest) [] shape alike = All-nil (λ (snapshot : SnapshotValue). snapshot.shape ≡ shape)
call_snapshots_have_shape (shard ∷ rest) (position ∷ positions) shape alike =
    All-cons (λ (snapshot : SnapshotValue). snapshot.shape ≡ shape) (snapshot_of (shard_state_at position shard))
    (map snapshot_of (states_at rest positions))
    (All-head (λ (s : ShardValue). s.base.shape ≡ shape) shard rest alike)
    (call_snapshots_have_shape rest positions shape
    (All-tail (λ (s : ShardValue). s.base.shape ≡ shape) shard rest alike))

pub call_cut_represents_records : (opening : List ShardValue) (positions : List ℕ) (cut : CutValue) → AreCoreShards opening
    → IsCoreCut opening positions cut
    → ((shard : ShardValue) → SnapshotRepresents shard.base shard.list → shard.base.position ≤ shard.position
    → shard.position ≤ length shard.list → SnapshotRepresents (snapshot_of shard) shard.list)
    → BasesRepresent opening → CutRepresents cut (core_lists opening)
call_cut_represents_records opening positions cut are at goes_on bases =
    subst (λ (c : CutValue). CutRepresents c (core_lists opening)) (sym at.is)
    (record {
      alike = call_snapshots_have_shape opening positions (core_shape opening) are.alike;
      shards = call_snapshots_represent_records opening positions at.as_many goes_on bases at.kept;
    })

pub call_weights_are_positive : (opening : List ShardValue) (positions : List ℕ) → length positions ≡ length opening
    → All IsShard (states_at opening positions)
    → All (λ (list : List RecordValue). All (λ (rec : RecordValue). 1 ≤ rec.weight) list) (core_lists opening)
call_weights_are_positive [] positions many kept =
    All-nil (λ (list : List RecordValue). All (λ (rec : RecordValue). 1 ≤ rec.weight) list)
call_weights_are_positive (shard ∷ rest) [] many kept = absurd (omega (arith, many))
call_weights_are_positive (shard ∷ rest) (position ∷ positions) many kept =
    All-cons (λ (list : List RecordValue). All (λ (rec : RecordValue). 1 ≤ rec.weight) list) shard.list (core_lists rest)
    (All-head IsShard (shard_state_at position shard) (states_at rest positions) kept).weighed
    (call_weights_are_positive rest positions (omega (arith, many))
    (All-tail IsShard (shard_state_at position shard) (states_at rest positions) kept))

-- the report of such a cut is one at its own positions
pub call_report_at_its_positions : (opening : List ShardValue) (positions : List ℕ) (cut : CutValue) (phi : ℕ) (report : Report)
    → IsCoreCut opening positions cut → cut_positions cut ≡ positions
    → IsReportOf cut phi report → IsCoreReport opening phi report
call_report_at_its_positions opening positions cut phi report at here is =
    let same : report.positions ≡ positions = is.positions ∙ here in
    record {
      as_many = ap length same ∙ at.as_many;
      kept = subst (λ ps. All IsShard (states_at opening ps)) (sym same) at.kept;
      is =
          subst (λ ps. IsReportOf (cut_at opening ps) phi report) (sym same)
          (subst (λ (c : CutValue). IsReportOf c phi report) at.is is);
    }

-- trails after rounds, and then more of them
calls-append : (trails : List Trail) (rounds more : List (List ShardRead))
    → after_calls trails (rounds ++ more) ≡ after_calls (after_calls trails rounds) more
calls-append trails [] more = refl
calls-append trails (first ∷ rounds) more = calls-append (after_reads trails first) rounds more

-- the last of some numbers
abbrev last_call_position : ℕ → List ℕ → ℕ
last_call_position first [] = first
last_call_position first (next ∷ numbers) = last_call_position next numbers

-- numbers that never fall, after one that is at most their first
call_position_may_come_first : (number first : ℕ) (numbers : List ℕ) → number ≤ first → IsNonDecreasing (first ∷ numbers)
    → IsNonDecreasing (number ∷ first ∷ numbers)
call_position_may_come_first number first numbers below up zero zero d le inside = omega arith
call_position_may_come_first number first numbers below up zero (suc j) d le inside =
    omega (arith, below, up 0 j d (omega arith) (omega (arith, inside)))
call_position_may_come_first number first numbers below up (suc i) zero d le inside = absurd (omega (arith, le))
call_position_may_come_first number first numbers below up (suc i) (suc j) d le inside =
    up i j d (omega (arith, le)) (omega (arith, inside))

-- numbers that never fall, and more that never fall from the last of them on
call_positions_never_fall_on : (first : ℕ) (numbers more : List ℕ) → IsNonDecreasing (first ∷ numbers)
    → IsNonDecreasing (last_call_position first numbers ∷ more) → IsNonDecreasing (first ∷ (numbers ++ more))
call_positions_never_fall_on first [] more up on = on
call_positions_never_fall_on first (next ∷ numbers) more up on =
    call_position_may_come_first first next (numbers ++ more) (up 0 1 0 (omega arith) (omega arith))
    (call_positions_never_fall_on next numbers more (IsNonDecreasingBy-drop (λ x. x) 1 (first ∷ next ∷ numbers) up) on)

-- what was seen of a shard after a round is the position that it read
call_sees_its_position : (trails : List Trail) (reads : List ShardRead) (shard : ℕ) → shard < length trails
    → shard < length reads
    → slice_index (map (λ trail. trail.seen) (after_reads trails reads)) shard
    ≡ slice_index (positions_read reads) shard
call_sees_its_position [] reads shard inside read = absurd (omega arith)
call_sees_its_position (trail ∷ rest) [] shard inside read = absurd (omega arith)
call_sees_its_position (trail ∷ rest) (first ∷ reads) zero inside read = refl
call_sees_its_position (trail ∷ rest) (first ∷ reads) (suc shard) inside read =
    call_sees_its_position rest reads shard (omega arith) (omega arith)

call_has_shard_position : (reads : List ShardRead) (shard : ℕ) → shard < length reads
    → (read : ShardRead) × (slice_get reads shard ≡ Some read)
    × (slice_index (positions_read reads) shard ≡ read.position)
call_has_shard_position [] shard inside = absurd (omega arith)
call_has_shard_position (read ∷ reads) zero inside = (read, refl, refl)
call_has_shard_position (read ∷ reads) (suc shard) inside = call_has_shard_position reads shard (omega arith)

call_keeps_trails_as_many : (trails : List Trail) (reads : List ShardRead) → length (after_reads trails reads) ≡ length trails
call_keeps_trails_as_many [] reads = refl
call_keeps_trails_as_many (trail ∷ rest) [] = refl
call_keeps_trails_as_many (trail ∷ rest) (read ∷ reads) = ap suc (call_keeps_trails_as_many rest reads)

-- what was seen of a shard after rounds is the position that the last of them read
calls_see_last_position : (trails : List Trail) (rounds : List (List ShardRead)) (shards shard : ℕ) → shard < shards
    → length trails ≡ shards → All (λ round. length round ≡ shards) rounds
    → last_call_position (slice_index (map (λ trail. trail.seen) trails) shard) (shard_positions shard rounds)
    ≡ slice_index (map (λ trail. trail.seen) (after_calls trails rounds)) shard
calls_see_last_position trails [] shards shard inside many whole = refl
calls_see_last_position trails (first ∷ rounds) shards shard inside many whole =
    let is_whole : length first ≡ shards = All-head (λ round. length round ≡ shards) first rounds whole in
    ap (λ seen. last_call_position seen (shard_positions shard rounds))
    (sym (call_sees_its_position trails first shard (omega (arith, inside, many)) (omega (arith, inside, is_whole))))
    ∙ calls_see_last_position (after_reads trails first) rounds shards shard inside
    (call_keeps_trails_as_many trails first ∙ many) (All-tail (λ round. length round ≡ shards) first rounds whole)

-- each round read each shard
calls_reach_each_shard : (opening : List ShardValue) (phi : ℕ) (reports : List Reported) (rounds : List (List ShardRead))
    → map (λ (reported : Reported). reported.report.positions) reports ≡ map positions_read rounds
    → All (λ (reported : Reported). IsCoreReport opening phi reported.report) reports
    → All (λ (round : List ShardRead). length round ≡ length opening) rounds
calls_reach_each_shard opening phi reports [] same each = All-nil (λ (round : List ShardRead). length round ≡ length opening)
calls_reach_each_shard opening phi [] (round ∷ rounds) same each = cc same
calls_reach_each_shard opening phi (reported ∷ reports) (round ∷ rounds) same each =
    let first : reported.report.positions ≡ positions_read round =
    ap (λ all. get_or all 0 []) same in
    let rest : map (λ (reported : Reported). reported.report.positions) reports ≡ map positions_read rounds =
    ap (λ all. drop 1 all) same in
    let at : IsCoreReport opening phi reported.report =
    All-head (λ (reported : Reported). IsCoreReport opening phi reported.report) reported reports each in
    All-cons (λ (round : List ShardRead). length round ≡ length opening) round rounds
    (sym (length-map round (λ read. read.position)) ∙ ap length (sym first) ∙ at.as_many)
    (calls_reach_each_shard opening phi reports rounds rest
    (All-tail (λ (reported : Reported). IsCoreReport opening phi reported.report) reported reports each))

pub no_calls : (opening : List ShardValue) (phi : ℕ) (view : View) → Calls opening phi 0 view view []
no_calls opening phi view = record {
  reads = [];
  as_many = refl;
  odd = All-nil (λ round. All (λ (read : ShardRead). All IsOddWord read.losses) round);
  view = refl;
  positions = refl;
  never_fall = λ shard inside. IsNonDecreasingBy-short (λ x. x) (seen_in shard view ∷ []) (omega arith);
  each = All-nil (λ (reported : Reported). IsCoreReport opening phi reported.report);
  unsaved = All-nil (λ (reported : Reported). reported.saved ≡ None);
}

-- one round
pub one_call : (opening : List ShardValue) (phi : ℕ) (before after : View) (cut changed : CutValue) (report : Report)
    → ReadsCut opening before cut after changed → HasCoreShape (length opening) (core_shape opening) cut
    → report.positions ≡ cut_positions changed → IsCoreReport opening phi report
    → Calls opening phi 1 before after (record { report = report; saved = None } ∷ [])
one_call opening phi before after cut changed report round shape here is_report =
    let reads : List ShardRead = round.reads in
    let reported : Reported = record { report = report; saved = None } in
    record {
      reads = reads ∷ [];
      as_many = refl;
      odd =
          All-cons (λ round. All (λ (read : ShardRead). All IsOddWord read.losses) round) reads [] round.odd
          (All-nil (λ round. All (λ (read : ShardRead). All IsOddWord read.losses) round));
      view = round.view;
      positions =
          ap (λ positions. positions ∷ []) (here
          ∙ call_cut_has_positions opening (positions_read reads) changed
          (call_makes_cut_at_positions opening before after cut changed round shape));
      never_fall = λ shard inside.
          let position : ℕ = slice_index (positions_read reads) shard in
          let read = call_has_shard_position reads shard (omega (arith, inside, round.as_many)) in
          let later : seen_in shard before ≤ position = omega (arith, round.later shard read.0 read.1, read.2) in
          call_position_may_come_first (seen_in shard before) position [] later
          (IsNonDecreasingBy-short (λ x. x) (position ∷ []) (omega arith));
      each =
          All-cons (λ (reported : Reported). IsCoreReport opening phi reported.report) reported [] is_report
          (All-nil (λ (reported : Reported). IsCoreReport opening phi reported.report));
      unsaved = All-cons (λ (reported : Reported). reported.saved ≡ None) reported [] refl
          (All-nil (λ (reported : Reported). reported.saved ≡ None));
    }

-- some rounds, and then more
pub more_calls : (opening : List ShardValue) (phi rounds more : ℕ) (before middle now : View)
    (reports later : List Reported) → length before.trails ≡ length opening
    → Calls opening phi rounds before middle reports → Calls opening phi more middle now later
    → Calls opening phi (rounds + more) before now (reports ++ later)
more_calls opening phi rounds more before middle now reports later many one two = record {
  reads = one.reads ++ two.reads;
  as_many = length-append one.reads two.reads ∙ ap₂ (λ a b. a + b) one.as_many two.as_many;
  odd =
      All-append (λ round. All (λ (read : ShardRead). All IsOddWord read.losses) round) one.reads two.reads one.odd
      two.odd;
  view =
      two.view ∙ ap (λ (v : View). record v { trails = after_calls v.trails two.reads }) one.view
      ∙ ap (λ trails. record before { trails = trails }) (sym (calls-append before.trails one.reads two.reads));
  positions =
      map-append (λ (reported : Reported). reported.report.positions) reports later
      ∙ ap₂ (λ a b. a ++ b) one.positions two.positions ∙ sym (map-append positions_read one.reads two.reads);
  never_fall = λ shard inside.
      let whole = calls_reach_each_shard opening phi reports one.reads one.positions one.each in
      let last : last_call_position (seen_in shard before) (shard_positions shard one.reads) ≡ seen_in shard middle =
      calls_see_last_position before.trails one.reads (length opening) shard inside many whole
      ∙ ap (seen_in shard) (sym one.view) in
      subst (λ ps. IsNonDecreasing (seen_in shard before ∷ ps))
      (sym (map-append (λ reads. slice_index (positions_read reads) shard) one.reads two.reads))
      (call_positions_never_fall_on (seen_in shard before) (shard_positions shard one.reads)
      (shard_positions shard two.reads)
      (one.never_fall shard inside)
      (subst (λ seen. IsNonDecreasing (seen ∷ shard_positions shard two.reads)) (sym last)
      (two.never_fall shard inside)));
  each = All-append (λ (reported : Reported). IsCoreReport opening phi reported.report) reports later one.each two.each;
  unsaved = All-append (λ (reported : Reported). reported.saved ≡ None) reports later one.unsaved two.unsaved;
}

-- rounds with reports are rounds of reads
pub calls_read_in_rounds : (opening : List ShardValue) (phi rounds most : ℕ) (before now : View) (reports : List Reported)
    → rounds ≤ most → Calls opening phi rounds before now reports → ReadsInRounds opening most before now
calls_read_in_rounds opening phi rounds most before now reports few calls = record {
  reads = calls.reads;
  few = omega (arith, few, calls.as_many);
  whole = calls_reach_each_shard opening phi reports calls.reads calls.positions calls.each;
  odd = calls.odd;
  view = calls.view;
}

-- and so with one more round, which has no report
pub calls_read_once_more : (opening : List ShardValue) (phi rounds most : ℕ) (before middle now : View)
    (reports : List Reported) → rounds < most → Calls opening phi rounds before middle reports
    → ReadsOnce opening middle now → ReadsInRounds opening most before now
calls_read_once_more opening phi rounds most before middle now reports few calls once = record {
  reads = calls.reads ++ once.reads ∷ [];
  few = omega (arith, few, calls.as_many, length-append calls.reads (once.reads ∷ []));
  whole =
      All-append (λ (round : List ShardRead). length round ≡ length opening) calls.reads (once.reads ∷ [])
      (calls_reach_each_shard opening phi reports calls.reads calls.positions calls.each)
      (All-cons (λ (round : List ShardRead). length round ≡ length opening) once.reads [] once.as_many
      (All-nil (λ (round : List ShardRead). length round ≡ length opening)));
  odd =
      All-append (λ round. All (λ (read : ShardRead). All IsOddWord read.losses) round) calls.reads (once.reads ∷ [])
      calls.odd
      (All-cons (λ round. All (λ (read : ShardRead). All IsOddWord read.losses) round) once.reads [] once.odd
      (All-nil (λ round. All (λ (read : ShardRead). All IsOddWord read.losses) round)));
  view =
      once.view ∙ ap (λ (v : View). record v { trails = after_reads v.trails once.reads }) calls.view
      ∙ ap (λ trails. record before { trails = trails })
      (sym (calls-append before.trails calls.reads (once.reads ∷ [])));
}
