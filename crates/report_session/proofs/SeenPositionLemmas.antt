-- What a view has seen after a round, and the positions that a saver may save then.
use Rattle.std.proofs.Common.{◌≡◌, ◌∙◌, ◌≤◌, ◌<◌, ◌+◌, ℕ, zero, suc, List, [], ◌∷◌, Option, None, Some, refl, sym, ap}
use Rattle.std.proofs.Common.{subst, arith, length, map, fold, get_or, true}
use Rattle.std.specs.Prelude.{IfSome, is_some, option_map, slice_index}
use Rattle.std.specs.List.Sorted.{IsNonDecreasing}
use Rattle.std.proofs.lemmas.List.{length-map}
use Rattle.hhh_report.specs.{AreNotPast}
use Rattle.shard_state.specs.{CutValue, HasCoreShape, ShardValue, core_shape, cut_positions, snapshot_of}
use Rattle.hhh_report.specs.declared.report.Report.{Report}
use Rattle.hhh_report.specs.declared.reports.Reported.{Reported}
use Rattle.pass_tokens.specs.{ShardRead, after_reads, seen_in}
use Rattle.gate_workers.specs.{Calls, Trail, View, cut_at, states_at}
use Rattle.checkpoint.specs.{SaverState, greatest_sequence, settings_shape}
use Rattle.report_session.specs.DealtFeed.{CanSaveCut}
use Rattle.report_session.specs.Saving.{CanMakeSaves, SavesFitBoard, SavesInTurn, after_saves}
use Rattle.report_session.specs.Session.{saved_cuts}
use Rattle.report_session.proofs.RoundLemmas.{round_makes_report}
use Rattle.report_session.proofs.SaveLemmas.{saves_raise_sequence}
use Rattle.slot_disk.specs.declared.disk.Disk.{Ghosts as DiskOf}

-- the positions of the cut of the pure core
pub seen_positions_of_cut : (opening : List ShardValue) (positions : List ℕ) → length positions ≡ length opening
    → cut_positions (cut_at opening positions) ≡ positions
seen_positions_of_cut [] [] many = refl
seen_positions_of_cut (shard ∷ rest) (position ∷ positions) many =
    ap (λ ps. position ∷ ps) (seen_positions_of_cut rest positions (omega (arith, many)))
seen_positions_of_cut _ _ many = absurd (omega (arith, many))

-- and its shape
pub seen_position_snapshot_count : (opening : List ShardValue) (positions : List ℕ) → length positions ≡ length opening
    → length (map snapshot_of (states_at opening positions)) ≡ length opening
seen_position_snapshot_count [] [] many = refl
seen_position_snapshot_count (shard ∷ rest) (position ∷ positions) many =
    ap suc (seen_position_snapshot_count rest positions (omega (arith, many)))
seen_position_snapshot_count _ _ many = absurd (omega (arith, many))

pub seen_position_cut_has_shape : (opening : List ShardValue) (positions : List ℕ) → length positions ≡ length opening
    → HasCoreShape (length opening) (core_shape opening) (cut_at opening positions)
seen_position_cut_has_shape opening positions many = record { as_many = seen_position_snapshot_count opening positions many; alike = refl }

-- positions that aren't past others, shard by shard
pub seen_positions_are_not_past : (earlier later : List ℕ) → length earlier ≡ length later
    → ((shard : ℕ) → shard < length later → slice_index earlier shard ≤ slice_index later shard)
    → AreNotPast earlier later
seen_positions_are_not_past [] [] many each = tt
seen_positions_are_not_past (position ∷ earlier) (next ∷ later) many each = (
  each 0 (omega arith),
  seen_positions_are_not_past earlier later (omega (arith, many)) (λ shard inside. each (suc shard) (omega (arith, inside))),
)
seen_positions_are_not_past _ _ many each = absurd (omega (arith, many))

-- and back
pub seen_position_is_not_past : (earlier later : List ℕ) (shard : ℕ) → AreNotPast earlier later → shard < length later
    → slice_index earlier shard ≤ slice_index later shard
seen_position_is_not_past [] [] shard past inside = absurd (omega (arith, inside))
seen_position_is_not_past (position ∷ earlier) (next ∷ later) zero past inside = past.0
seen_position_is_not_past (position ∷ earlier) (next ∷ later) (suc shard) past inside =
    seen_position_is_not_past earlier later shard past.1 (omega (arith, inside))
seen_position_is_not_past _ _ shard past inside = absurd past

pub seen_positions_same_length : (earlier later : List ℕ) → AreNotPast earlier later → length earlier ≡ length later
seen_positions_same_length [] [] past = refl
seen_positions_same_length (position ∷ earlier) (next ∷ later) past = ap suc (seen_positions_same_length earlier later past.1)
seen_positions_same_length _ _ past = absurd past

pub seen_positions_not_past_self : (positions : List ℕ) → AreNotPast positions positions
seen_positions_not_past_self [] = tt
seen_positions_not_past_self (position ∷ positions) = (omega arith, seen_positions_not_past_self positions)

-- one read of a shard is at or past what was seen
pub seen_position_before_one_read : (reads : List (List ShardRead)) (positions : List ℕ) (shard seen : ℕ)
    → positions ∷ [] ≡ map (λ round. map (λ read. read.position) round) reads
    → IsNonDecreasing (seen ∷ map (λ round. slice_index (map (λ read. read.position) round) shard) reads)
    → seen ≤ slice_index positions shard
seen_position_before_one_read [] positions shard seen same up = cc same
seen_position_before_one_read (round ∷ rounds) positions shard seen same up =
    let is : positions ≡ map (λ read. read.position) round = ap (λ all. get_or all 0 []) same in
    subst (λ ps. seen ≤ slice_index ps shard) (sym is) (up 0 1 0 (omega arith) (omega arith))

-- as many reports as rounds
pub seen_position_report_count : (opening : List ShardValue) (phi rounds : ℕ) (before now : View) (reports : List Reported)
    → Calls opening phi rounds before now reports → length reports ≡ rounds
seen_position_report_count opening phi rounds before now reports calls =
    sym (length-map reports _) ∙ ap length calls.positions ∙ length-map calls.reads _ ∙ calls.as_many

-- after one read of each shard, its trail has seen the position of the read
seen_positions_after_reads : (trails : List Trail) (reads : List ShardRead) → length reads ≡ length trails
    → map (λ (trail : Trail). trail.seen) (after_reads trails reads) ≡ map (λ (read : ShardRead). read.position) reads
seen_positions_after_reads [] [] many = refl
seen_positions_after_reads (trail ∷ trails) (read ∷ reads) many =
    ap (λ rest. read.position ∷ rest) (seen_positions_after_reads trails reads (omega (arith, many)))
seen_positions_after_reads _ _ many = absurd (omega (arith, many))

seen_positions_after_round : (trails : List Trail) (rounds : List (List ShardRead)) (positions : List ℕ)
    → length rounds ≡ 1 → positions ∷ [] ≡ map (λ round. map (λ (read : ShardRead). read.position) round) rounds
    → length positions ≡ length trails
    → map (λ (trail : Trail). trail.seen) (fold after_reads trails rounds) ≡ positions
seen_positions_after_round trails (round ∷ []) positions many same long =
    let is : positions ≡ map (λ (read : ShardRead). read.position) round = ap (λ all. get_or all 0 []) same in
    let reads : length round ≡ length trails =
    sym (length-map round (λ (read : ShardRead). read.position)) ∙ sym (ap length is) ∙ long in
    seen_positions_after_reads trails round reads ∙ sym is
seen_positions_after_round trails _ positions many same long = absurd (omega (arith, many))

-- after a round the view has seen the positions of its report
pub seen_positions_are_reported : (opening : List ShardValue) (phi : ℕ) (before now : View) (report : Report)
    → length before.trails ≡ length opening
    → Calls opening phi 1 before now (record { report = report; saved = None } ∷ [])
    → map (λ (trail : Trail). trail.seen) now.trails ≡ report.positions
seen_positions_are_reported opening phi before now report trails calls =
    let at = round_makes_report opening phi before now report calls in
    ap (λ (view : View). map (λ (trail : Trail). trail.seen) view.trails) calls.view
    ∙ seen_positions_after_round before.trails calls.reads report.positions calls.as_many calls.positions
    (at.as_many ∙ sym trails)

-- and no position of it is before what the view had seen
pub seen_positions_not_past_report : (opening : List ShardValue) (phi : ℕ) (before now : View) (report : Report)
    (positions : List ℕ) → length before.trails ≡ length opening
    → Calls opening phi 1 before now (record { report = report; saved = None } ∷ [])
    → AreNotPast positions (map (λ (trail : Trail). trail.seen) before.trails) → AreNotPast positions report.positions
seen_positions_not_past_report opening phi before now report positions trails calls past =
    let at = round_makes_report opening phi before now report calls in
    let many : length report.positions ≡ length opening = at.as_many in
    let seen : length (map (λ (trail : Trail). trail.seen) before.trails) ≡ length before.trails =
    length-map before.trails (λ (trail : Trail). trail.seen) in
    let long : length positions ≡ length (map (λ (trail : Trail). trail.seen) before.trails) =
    seen_positions_same_length positions (map (λ (trail : Trail). trail.seen) before.trails) past in
    seen_positions_are_not_past positions report.positions (omega (arith, many, seen, long, trails)) (λ shard inside.
    let first : slice_index positions shard ≤ seen_in shard before =
    seen_position_is_not_past positions (map (λ (trail : Trail). trail.seen) before.trails) shard past
    (omega (arith, inside, many, seen, trails)) in
    let second : seen_in shard before ≤ slice_index report.positions shard =
    seen_position_before_one_read calls.reads report.positions shard (seen_in shard before) calls.positions
    (calls.never_fall shard (omega (arith, inside, many))) in
    omega (arith, first, second))

-- a saver that may save what a round reads may save its cut
pub seen_positions_can_be_saved : (reads : Option (List ℕ)) (possible : List ℕ → Type 0) (opening : List ShardValue) (phi : ℕ)
    (before now : View) (report : Report) (saver : Option SaverState) (cut : CutValue)
    → cut ≡ cut_at opening report.positions → length before.trails ≡ length opening
    → Calls opening phi 1 before now (record { report = report; saved = None } ∷ [])
    → IfSome saver (CanMakeSaves reads possible opening before 1) → IfSome saver (CanSaveCut reads possible cut)
seen_positions_can_be_saved reads possible opening phi before now report None cut is trails calls can = tt
seen_positions_can_be_saved reads possible opening phi before now report (Some saver) cut is trails calls can =
    let at = round_makes_report opening phi before now report calls in
    let shape : HasCoreShape (length opening) (core_shape opening) (cut_at opening report.positions) =
    seen_position_cut_has_shape opening report.positions at.as_many in
    record {
      settings = can.fits.settings;
      stands = can.stands;
      early = can.early;
      shape = subst (HasCoreShape saver.header.settings.shards (settings_shape saver.header.settings)) (sym is)
          (subst (λ n. HasCoreShape n (settings_shape saver.header.settings) (cut_at opening report.positions)) (sym can.fits.shards)
          (subst (λ n. HasCoreShape (length opening) n (cut_at opening report.positions)) (sym can.fits.shape) shape));
      no_earlier = subst (AreNotPast saver.positions)
          (sym (ap cut_positions is ∙ seen_positions_of_cut opening report.positions at.as_many))
          (seen_positions_not_past_report opening phi before now report saver.positions trails calls can.fits.seen);
    }

-- and the next one after it
pub seen_positions_fit_next_saver : (reads : Option (List ℕ)) (possible : List ℕ → Type 0) (opening : List ShardValue) (phi : ℕ)
    (before now : View) (report : Report) (saver next : Option SaverState) (cut : CutValue)
    → cut ≡ cut_at opening report.positions → length before.trails ≡ length opening
    → Calls opening phi 1 before now (record { report = report; saved = None } ∷ [])
    → IfSome saver (CanMakeSaves reads possible opening before 1)
    → next ≡ option_map (λ saver. after_saves saver (cut ∷ [])) saver → IfSome next (SavesFitBoard opening now)
seen_positions_fit_next_saver reads possible opening phi before now report None next cut is trails calls can saved =
    subst (λ o. IfSome o (SavesFitBoard opening now)) (sym saved) tt
seen_positions_fit_next_saver reads possible opening phi before now report (Some saver) next cut is trails calls can saved =
    let at = round_makes_report opening phi before now report calls in
    let positions : cut_positions cut ≡ map (λ (trail : Trail). trail.seen) now.trails =
    ap cut_positions is ∙ seen_positions_of_cut opening report.positions at.as_many
    ∙ sym (seen_positions_are_reported opening phi before now report trails calls) in
    subst (λ o. IfSome o (SavesFitBoard opening now)) (sym saved) (record {
      settings = can.fits.settings;
      shards = can.fits.shards;
      shape = can.fits.shape;
      seen = subst (AreNotPast (cut_positions cut)) positions (seen_positions_not_past_self (cut_positions cut));
    })

-- after some rounds the saver may make the saves of the remaining ones
pub seen_positions_allow_more_saves : {D : Type 0} (d : DiskOf D) (opening : List ShardValue) (view : View)
    (before saver : Option SaverState) (reports : List Reported) (old new : D) (made count rounds : ℕ)
    → length reports ≡ made → made + count ≤ rounds → IfSome saver (SavesFitBoard opening view)
    → SavesInTurn d before saver old new (saved_cuts (is_some before) opening reports)
    → IfSome before (λ saver. saver.sequence + rounds ≤ greatest_sequence)
    → IfSome saver (CanMakeSaves (d.reads new) (d.image_now new) opening view count)
seen_positions_allow_more_saves d opening view None saver reports old new made count rounds many few fits
    saves early =
    subst (λ o. IfSome o (CanMakeSaves (d.reads new) (d.image_now new) opening view count)) (sym saves.saver) tt
seen_positions_allow_more_saves d opening view (Some first) saver reports old new made count rounds many few
    fits saves early =
    let cuts : List CutValue = saved_cuts true opening reports in
    let now : SaverState = after_saves first cuts in
    let sequence : now.sequence ≡ first.sequence + length cuts = saves_raise_sequence first cuts in
    let as_many : length cuts ≡ length reports = length-map reports _ in
    subst (λ o. IfSome o (CanMakeSaves (d.reads new) (d.image_now new) opening view count)) (sym saves.saver) (record {
      fits = subst (λ o. IfSome o (SavesFitBoard opening view)) saves.saver fits;
      stands = saves.saves.stands;
      early = omega (arith, sequence, as_many, many, few, early);
    })
