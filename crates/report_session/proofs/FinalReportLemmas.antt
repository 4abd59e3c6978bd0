-- The report over all records of the shards of a session: it exists, whether or not there is memory to make it.
use Rattle.std.proofs.Common.{◌≡◌, ◌∙◌, ◌≤◌, ◌+◌, ◌-◌, ℕ, zero, suc, List, [], ◌∷◌, ◌++◌, All, None}
use Rattle.std.proofs.Common.{refl, sym, ap, subst, arith, length, map, replicate, append-nil, append_assoc}
use Rattle.std.specs.Prelude.{slice_index}
use Rattle.std.proofs.lemmas.List.Sorted.{IsNonDecreasingBy-short}
use Rattle.std.proofs.lemmas.List.{length-map, length-replicate}
use Rattle.std.proofs.lemmas.List.Elements.{All-cons, All-head, All-map, All-nil, All-replicate, All-tail}
use Rattle.prefix_lattice.specs.{RecordValue}
use Rattle.shard_state.specs.{AreCoreShards, BasesRepresent, CutRepresents, CutValue, IsCut, IsShard, IsSnapshot}
use Rattle.shard_state.specs.{ShardValue, SnapshotValue, core_shape, core_lists, shard_state_at, snapshot_of}
use Rattle.hhh_report.specs.{AreReportLines, IsSound}
use Rattle.hhh_report.specs.declared.report.Report.{Report}
use Rattle.hhh_report.specs.declared.reports.Reported.{Reported}
use Rattle.hhh_output.specs.{IsReportOf, IsWideShare}
use Rattle.gate_workers.specs.{IsCoreReport, cut_at, states_at}
use Rattle.command_words.specs.{HaveWideShare}
use Rattle.command_words.specs.declared.settings.Settings.{Settings}
use Rattle.report_session.specs.DealtFeed.{StartsBefore}
use Rattle.report_session.specs.Session.{AreOfCaller, AreReports, AreSessionShards, IsShownInSession, SessionReports}
use Rattle.report_session.specs.Session.{asked_shape, session_ends, session_start}
use Rattle.report_session.proofs.SeenPositionLemmas.{seen_position_snapshot_count, seen_positions_of_cut}
use Rattle.report_session.proofs.SessionTextLemmas.{session_text_with_last}
use Rattle.shard_state.specs.{TableShape}

-- what the existence of a final report takes: each cut has a report; it is sound where the cut represents the records,
-- as the cut of a report does where the bases do; and shards stay within their limits as they count on
pub record FinalReportLaws : Type 0 where
  pub exists : (cut : CutValue) (phi : ℕ) → IsCut cut → (report : Report) × IsReportOf cut phi report
  pub sound : (cut : CutValue) (lists : List (List RecordValue)) (phi : ℕ) (report : Report) → IsCut cut
      → CutRepresents cut lists → All (λ list. All (λ rec. 1 ≤ rec.weight) list) lists
      → IsWideShare phi cut.shape.capacity → AreReportLines report.lines → IsReportOf cut phi report
      → IsSound cut.shape.grain report lists cut.shape.capacity phi
  pub represent : (opening : List ShardValue) (phi : ℕ) (report : Report) → AreCoreShards opening
      → IsCoreReport opening phi report → BasesRepresent opening
      → CutRepresents (cut_at opening report.positions) (core_lists opening)
  pub goes_on : (shard : ShardValue) (position : ℕ) → IsShard shard → shard.position ≤ position
      → position ≤ length shard.list → IsShard (shard_state_at position shard)

-- the shards are within their limits at the ends of their lists
final_report_shards : FinalReportLaws → (opening : List ShardValue) → All IsShard opening
    → All IsShard (states_at opening (session_ends opening))
final_report_shards laws [] kept = All-nil IsShard
final_report_shards laws (shard ∷ rest) kept =
    let is : IsShard shard = All-head IsShard shard rest kept in
    All-cons IsShard (shard_state_at (length shard.list) shard) (states_at rest (session_ends rest))
    (laws.goes_on shard (length shard.list) is is.within (omega arith))
    (final_report_shards laws rest (All-tail IsShard shard rest kept))

final_report_shapes : (shape : TableShape) (opening : List ShardValue)
    → All (λ (shard : ShardValue). shard.base.shape ≡ shape) opening
    → All (λ (snapshot : SnapshotValue). snapshot.shape ≡ shape)
    (map snapshot_of (states_at opening (session_ends opening)))
final_report_shapes shape [] alike = All-nil (λ (snapshot : SnapshotValue). snapshot.shape ≡ shape)
final_report_shapes shape (shard ∷ rest) alike =
    All-cons (λ (snapshot : SnapshotValue). snapshot.shape ≡ shape)
    (snapshot_of (shard_state_at (length shard.list) shard)) (map snapshot_of (states_at rest (session_ends rest)))
    (All-head (λ (shard : ShardValue). shard.base.shape ≡ shape) shard rest alike) (final_report_shapes shape rest
    (All-tail (λ (shard : ShardValue). shard.base.shape ≡ shape) shard rest alike))

-- the cut at the ends is a cut
final_report_cut_is_cut : FinalReportLaws → (opening : List ShardValue) → AreCoreShards opening → All IsShard opening
    → IsCut (cut_at opening (session_ends opening))
final_report_cut_is_cut laws [] are kept = absurd (omega (arith, are.some))
final_report_cut_is_cut laws (shard ∷ rest) are kept =
    let opening : List ShardValue = shard ∷ rest in
    let states : List ShardValue = states_at opening (session_ends opening) in
    let first : IsShard shard = All-head IsShard shard rest kept in
    let many : length (map snapshot_of states) ≡ length opening =
    seen_position_snapshot_count opening (session_ends opening) (length-map opening _) in
    let at_ends : All IsShard states = final_report_shards laws opening kept in
    record {
      least = first.tables.least;
      most = first.tables.most;
      of_grain = first.tables.of_grain;
      some = omega (arith, many);
      few = omega (arith, many, are.few);
      alike = final_report_shapes (core_shape opening) opening are.alike;
      kept = All-map IsSnapshot snapshot_of states (λ k d lt. (at_ends k d lt).tables);
    }

-- a report over all records of the shards, which the session shows
pub record FinalReport (opening : List ShardValue) (settings : Settings) : Type 0 where
  pub reported : Reported
  pub shown : IsShownInSession opening settings reported
  pub at_ends : reported.report.positions ≡ session_ends opening

-- there is one
pub final_report_exists : FinalReportLaws → (opening : List ShardValue) (settings : Settings) → HaveWideShare settings
    → AreSessionShards (asked_shape settings) opening → FinalReport opening settings
final_report_exists laws opening settings wide are =
    let shards : AreCoreShards opening = are.core.are_shards in
    let cut : CutValue = cut_at opening (session_ends opening) in
    let is_cut : IsCut cut = final_report_cut_is_cut laws opening shards are.core.kept in
    let made = laws.exists cut settings.phi is_cut in
    let report : Report = made.0 in
    let many : length (session_ends opening) ≡ length opening = length-map opening _ in
    let ends : report.positions ≡ session_ends opening =
    made.1.positions ∙ seen_positions_of_cut opening (session_ends opening) many in
    let at_call : IsCoreReport opening settings.phi report = record {
      as_many = ap length ends ∙ many;
      kept = subst (λ ps. All IsShard (states_at opening ps)) (sym ends)
          (final_report_shards laws opening are.core.kept);
      is = subst (λ ps. IsReportOf (cut_at opening ps) settings.phi report) (sym ends) made.1;
    } in
    record {
      reported = record { report = report; saved = None };
      shown = record {
        is_report = at_call;
        is_sound = λ bases.
            subst (λ shape. IsSound shape.grain report (core_lists opening) shape.capacity settings.phi) are.alike
            (laws.sound cut (core_lists opening) settings.phi report is_cut
            (subst (λ ps. CutRepresents (cut_at opening ps) (core_lists opening)) ends
            (laws.represent opening settings.phi report shards at_call bases))
            (All-map (λ (list : List RecordValue). All (λ (rec : RecordValue). 1 ≤ rec.weight) list)
            (λ (shard : ShardValue). shard.list) opening (λ k d lt. (are.core.kept k d lt).weighed))
            (subst (λ (shape : TableShape). IsWideShare settings.phi shape.capacity) (sym are.alike) wide) report.are_lines made.1);
      };
      at_ends = ends;
    }

-- no shard starts past the end of its list
final_report_is_after_start : (opening : List ShardValue) → All IsShard opening → StartsBefore opening
final_report_is_after_start [] kept shard = omega arith
final_report_is_after_start (first ∷ rest) kept zero = (All-head IsShard first rest kept).within
final_report_is_after_start (first ∷ rest) kept (suc shard) =
    final_report_is_after_start rest (All-tail IsShard first rest kept) shard

-- no report yet
pub final_report_after_none : (opening : List ShardValue) (settings : Settings) → AreOfCaller opening settings 0 []
final_report_after_none opening settings = record {
  as_many = refl;
  shown = All-nil (IsShownInSession opening settings);
  never_fall = λ shard inside. IsNonDecreasingBy-short (λ x. x) (slice_index (session_start opening) shard ∷ []) (omega arith);
}

-- the final report, this many times after some reports
final_report_comes_again : (opening : List ShardValue) (settings : Settings) (final : FinalReport opening settings)
    → StartsBefore opening → (more count : ℕ) (reports : List Reported) → AreOfCaller opening settings count reports
    → AreOfCaller opening settings (count + more) (reports ++ replicate more final.reported)
final_report_comes_again opening settings final starts zero count reports are =
    let same : count ≡ count + 0 = omega arith in
    subst (λ n. AreOfCaller opening settings n (reports ++ [])) same
    (subst (AreOfCaller opening settings count) (sym (append-nil reports)) are)
final_report_comes_again opening settings final starts (suc more) count reports are =
    let one : AreOfCaller opening settings (count + 1) (reports ++ final.reported ∷ []) =
    session_text_with_last opening settings count reports final.reported starts are final.shown final.at_ends in
    let same : (count + 1) + more ≡ count + suc more = omega arith in
    subst (λ n. AreOfCaller opening settings n (reports ++ replicate (suc more) final.reported)) same
    (subst (AreOfCaller opening settings ((count + 1) + more))
    (append_assoc reports (final.reported ∷ []) (replicate more final.reported))
    (final_report_comes_again opening settings final starts more (count + 1) (reports ++ final.reported ∷ []) one))

-- the reports of a whole session that begins with these rounds: the final report is made again and again
abbrev pub reports_with_final_report : Settings → Reported → List Reported → SessionReports
reports_with_final_report settings final front = record {
  rounds = front ++ replicate (settings.rounds - length front) final;
  callers = replicate settings.callers (replicate settings.rounds final);
  last = final;
}

-- they are those of a session
pub final_report_makes_whole : (opening : List ShardValue) (settings : Settings) (final : FinalReport opening settings)
    (front : List Reported) → All IsShard opening → length front ≤ settings.rounds
    → AreOfCaller opening settings (length front) front
    → AreReports opening settings (reports_with_final_report settings final.reported front)
final_report_makes_whole opening settings final front kept few are =
    let starts : StartsBefore opening = final_report_is_after_start opening kept in
    let whole : length front + (settings.rounds - length front) ≡ settings.rounds = omega (arith, few) in
    let none : 0 + settings.rounds ≡ settings.rounds = omega arith in
    let rounds : List Reported = front ++ replicate (settings.rounds - length front) final.reported in
    let are_rounds : AreOfCaller opening settings settings.rounds rounds =
    subst (λ n. AreOfCaller opening settings n rounds) whole
    (final_report_comes_again opening settings final starts (settings.rounds - length front) (length front) front
    are) in
    record {
      calling = session_text_with_last opening settings settings.rounds rounds final.reported starts are_rounds
          final.shown final.at_ends;
      at_ends = final.at_ends;
      as_many = length-replicate settings.callers (replicate settings.rounds final.reported);
      callers = All-replicate (AreOfCaller opening settings settings.rounds) settings.callers
          (replicate settings.rounds final.reported)
          (subst (λ n. AreOfCaller opening settings n (replicate settings.rounds final.reported)) none
          (final_report_comes_again opening settings final starts settings.rounds 0 []
          (final_report_after_none opening settings)));
    }
