-- Shards before any record is counted.
use Rattle.std.proofs.Common.{◌≡◌, ◌∙◌, ◌≤◌, ℕ, zero, suc, List, [], ◌∷◌, ◌++◌, All, refl, sym, ap, subst, arith}
use Rattle.std.proofs.Common.{length, map, append_assoc, replicate, Option, None, Some}
use Rattle.std.specs.List.{sum_by, AllZip}
use Rattle.std.proofs.lemmas.List.{length-map, map-append}
use Rattle.std.proofs.lemmas.List.Elements.{All-cons, All-from_get_or, All-get_or, All-head, All-map, All-nil, All-tail}
use Rattle.std.proofs.lemmas.List.Sums.{get_or-le-sum_by}
use Rattle.prefix_lattice.specs.{RecordValue, record_limit, shard_limit}
use Rattle.deal_rules.specs.{AreDealings}
use Rattle.std.specs.Prelude.{IfSome}
use Rattle.shard_state.specs.{AreCoreShards, BasesRepresent, CutValue, ShardValue, SnapshotRepresents, SnapshotValue}
use Rattle.shard_state.specs.{TableShape, core_lists, core_shape, empty_snapshot}
use Rattle.report_text.specs.{ShowsPositions}
use Rattle.recovery.specs.{ContinuesList}
use Rattle.report_session.specs.DealtFeed.{FeedGoesOn, StartsBefore}
use Rattle.report_session.specs.Session.{GoesOnSoundly, asked_shape, new_shards, resumed_shards, session_ends}
use Rattle.report_session.specs.Session.{session_opening, session_start}
use Rattle.command_words.specs.declared.settings.Settings.{Settings}

-- of few records in all each list has few
pub opening_shards_have_few_records : (most : ℕ) (lists : List (List RecordValue)) → sum_by (λ list. length list) lists ≤ most
    → All (λ list. length list ≤ most) lists
opening_shards_have_few_records most lists few k d lt =
    omega (arith, few, get_or-le-sum_by (λ (list : List RecordValue). length list) lists k d lt)

-- one more shard
pub opening_shards_grow_by_one : (shape : TableShape) (lists : List (List RecordValue)) (list : List RecordValue)
    → new_shards shape (lists ++ list ∷ [])
    ≡ new_shards shape lists ++ record { list = list; base = empty_snapshot shape; position = 0 } ∷ []
opening_shards_grow_by_one shape lists list =
    map-append (λ list. record { list = list; base = empty_snapshot shape; position = 0 }) lists (list ∷ [])

-- they start at 0
pub opening_shards_start_at_zero : (shape : TableShape) (lists : List (List RecordValue))
    → session_start (new_shards shape lists) ≡ replicate (length lists) 0
opening_shards_start_at_zero shape [] = refl
opening_shards_start_at_zero shape (list ∷ lists) = ap (λ zeros. 0 ∷ zeros) (opening_shards_start_at_zero shape lists)

-- settings of one grain and one capacity ask for tables of one shape
pub opening_shards_have_same_shape : (settings other : Settings) → settings.grain ≡ other.grain → settings.capacity ≡ other.capacity
    → asked_shape settings ≡ asked_shape other
opening_shards_have_same_shape settings other grain capacity =
    ap (λ g. record { grain = g; capacity = settings.capacity }) grain
    ∙ ap (λ n. record { grain = other.grain; capacity = n }) capacity

-- their lists are those that were dealt
pub new_opening_shards_as_dealt : (shape : TableShape) (lists : List (List RecordValue)) → core_lists (new_shards shape lists) ≡ lists
new_opening_shards_as_dealt shape [] = refl
new_opening_shards_as_dealt shape (list ∷ lists) = ap (λ rest. list ∷ rest) (new_opening_shards_as_dealt shape lists)

pub new_opening_shards_have_shape : (shape : TableShape) (lists : List (List RecordValue)) → 1 ≤ length lists
    → core_shape (new_shards shape lists) ≡ shape
new_opening_shards_have_shape shape [] some = absurd (omega (arith, some))
new_opening_shards_have_shape shape (list ∷ lists) some = refl

-- they are shards of one shape
pub new_opening_shards_are_shards : (shape : TableShape) (lists : List (List RecordValue)) → 1 ≤ length lists → length lists ≤ shard_limit
    → AreCoreShards (new_shards shape lists)
new_opening_shards_are_shards shape lists some few = record {
  some = subst (λ n. 1 ≤ n) (sym (length-map lists _)) some;
  few = subst (λ n. n ≤ shard_limit) (sym (length-map lists _)) few;
  alike =
      All-map (λ (shard : ShardValue). shard.base.shape ≡ core_shape (new_shards shape lists)) _ lists
      (λ k d lt. sym (new_opening_shards_have_shape shape lists some));
}

-- and their bases represent their lists
pub new_opening_shards_represent : (shape : TableShape) (lists : List (List RecordValue))
    → ((shape : TableShape) (list : List RecordValue) → SnapshotRepresents (empty_snapshot shape) list)
    → BasesRepresent (new_shards shape lists)
new_opening_shards_represent shape lists begins =
    All-map (λ (shard : ShardValue). SnapshotRepresents shard.base shard.list) _ lists (λ k d lt. begins shape _)

-- and they start before the ends of their lists
pub new_opening_shards_before_ends : (shape : TableShape) (lists : List (List RecordValue)) → StartsBefore (new_shards shape lists)
new_opening_shards_before_ends shape [] shard = omega arith
new_opening_shards_before_ends shape (list ∷ lists) zero = omega arith
new_opening_shards_before_ends shape (list ∷ lists) (suc shard) = new_opening_shards_before_ends shape lists shard

-- as many shards as lists
resumed_opening_shards_count : (lists : List (List RecordValue)) (bases : List SnapshotValue) → AllZip ContinuesList bases lists
    → length (resumed_shards lists bases) ≡ length lists
resumed_opening_shards_count [] bases continues = refl
resumed_opening_shards_count (list ∷ lists) [] continues = absurd continues
resumed_opening_shards_count (list ∷ lists) (base ∷ bases) continues =
    let rest : length (resumed_shards lists bases) ≡ length lists = resumed_opening_shards_count lists bases continues.1 in
    omega (arith, rest)

resumed_opening_shards_alike : (shape : TableShape) (lists : List (List RecordValue)) (bases : List SnapshotValue)
    → All (λ (snapshot : SnapshotValue). snapshot.shape ≡ shape) bases
    → All (λ (shard : ShardValue). shard.base.shape ≡ shape) (resumed_shards lists bases)
resumed_opening_shards_alike shape [] bases alike = All-nil (λ (shard : ShardValue). shard.base.shape ≡ shape)
resumed_opening_shards_alike shape (list ∷ lists) [] alike = All-nil (λ (shard : ShardValue). shard.base.shape ≡ shape)
resumed_opening_shards_alike shape (list ∷ lists) (base ∷ bases) alike =
    All-cons (λ (shard : ShardValue). shard.base.shape ≡ shape)
    (record { list = list; base = base; position = base.position }) (resumed_shards lists bases)
    (All-head (λ (snapshot : SnapshotValue). snapshot.shape ≡ shape) base bases alike)
    (resumed_opening_shards_alike shape lists bases
    (All-tail (λ (snapshot : SnapshotValue). snapshot.shape ≡ shape) base bases alike))

resumed_opening_shards_shape : (shape : TableShape) (lists : List (List RecordValue)) (bases : List SnapshotValue) → 1 ≤ length lists
    → AllZip ContinuesList bases lists → All (λ (snapshot : SnapshotValue). snapshot.shape ≡ shape) bases
    → core_shape (resumed_shards lists bases) ≡ shape
resumed_opening_shards_shape shape [] bases some continues alike = absurd (omega (arith, some))
resumed_opening_shards_shape shape (list ∷ lists) [] some continues alike = absurd continues
resumed_opening_shards_shape shape (list ∷ lists) (base ∷ bases) some continues alike =
    All-head (λ (snapshot : SnapshotValue). snapshot.shape ≡ shape) base bases alike

-- they are shards of one shape
pub resumed_opening_shards_are_shards : (cut : CutValue) (lists : List (List RecordValue)) → 1 ≤ length lists
    → length lists ≤ shard_limit → AllZip ContinuesList cut.shards lists
    → All (λ (snapshot : SnapshotValue). snapshot.shape ≡ cut.shape) cut.shards
    → AreCoreShards (resumed_shards lists cut.shards)
resumed_opening_shards_are_shards cut lists some few continues alike =
    let many : length (resumed_shards lists cut.shards) ≡ length lists = resumed_opening_shards_count lists cut.shards continues in
    let shape_is : core_shape (resumed_shards lists cut.shards) ≡ cut.shape =
    resumed_opening_shards_shape cut.shape lists cut.shards some continues alike in
    record {
      some = subst (λ n. 1 ≤ n) (sym many) some;
      few = subst (λ n. n ≤ shard_limit) (sym many) few;
      alike =
          subst (λ n. All (λ (shard : ShardValue). shard.base.shape ≡ n) (resumed_shards lists cut.shards))
          (sym shape_is) (resumed_opening_shards_alike cut.shape lists cut.shards alike);
    }

resumed_opening_shards_before_ends : (lists : List (List RecordValue)) (bases : List SnapshotValue)
    → AllZip ContinuesList bases lists → StartsBefore (resumed_shards lists bases)
resumed_opening_shards_before_ends [] bases continues shard = omega arith
resumed_opening_shards_before_ends (list ∷ lists) [] continues shard = absurd continues
resumed_opening_shards_before_ends (list ∷ lists) (base ∷ bases) continues zero = continues.0.within
resumed_opening_shards_before_ends (list ∷ lists) (base ∷ bases) continues (suc shard) =
    resumed_opening_shards_before_ends lists bases continues.1 shard

resumed_opening_shards_represent : (lists : List (List RecordValue)) (bases : List SnapshotValue)
    → AllZip SnapshotRepresents bases lists → BasesRepresent (resumed_shards lists bases)
resumed_opening_shards_represent [] bases represent = All-nil (λ (shard : ShardValue). SnapshotRepresents shard.base shard.list)
resumed_opening_shards_represent (list ∷ lists) [] represent = absurd represent
resumed_opening_shards_represent (list ∷ lists) (base ∷ bases) represent =
    All-cons (λ (shard : ShardValue). SnapshotRepresents shard.base shard.list)
    (record { list = list; base = base; position = base.position }) (resumed_shards lists bases) represent.0
    (resumed_opening_shards_represent lists bases represent.1)

-- they start at the positions of the cut
pub resumed_opening_shards_at_cut : (lists : List (List RecordValue)) (bases : List SnapshotValue) → AllZip ContinuesList bases lists
    → session_start (resumed_shards lists bases) ≡ map (λ (snapshot : SnapshotValue). snapshot.position) bases
resumed_opening_shards_at_cut [] [] continues = refl
resumed_opening_shards_at_cut [] (base ∷ bases) continues = absurd continues
resumed_opening_shards_at_cut (list ∷ lists) [] continues = absurd continues
resumed_opening_shards_at_cut (list ∷ lists) (base ∷ bases) continues =
    ap (λ positions. base.position ∷ positions) (resumed_opening_shards_at_cut lists bases continues.1)

-- the shards of a run, from the base on
pub opening_shards_count : (shape : TableShape) (lists : List (List RecordValue)) (base : Option CutValue)
    → IfSome base (FeedGoesOn shape lists) → length (session_opening shape lists base) ≡ length lists
opening_shards_count shape lists None goes_on = length-map lists _
opening_shards_count shape lists (Some cut) goes_on = resumed_opening_shards_count lists cut.shards goes_on.continues

-- the snapshots of a cut are of its shape
abbrev pub HasAlikeOpeningShards : CutValue → Type 0
HasAlikeOpeningShards cut = All (λ snapshot. snapshot.shape ≡ cut.shape) cut.shards

pub opening_shards_have_shape : (shape : TableShape) (lists : List (List RecordValue)) (base : Option CutValue)
    → 1 ≤ length lists → IfSome base (FeedGoesOn shape lists) → IfSome base HasAlikeOpeningShards
    → core_shape (session_opening shape lists base) ≡ shape
opening_shards_have_shape shape lists None some goes_on alike = new_opening_shards_have_shape shape lists some
opening_shards_have_shape shape lists (Some cut) some goes_on alike =
    resumed_opening_shards_shape shape lists cut.shards some goes_on.continues
    (subst (λ n. All (λ (snapshot : SnapshotValue). snapshot.shape ≡ n) cut.shards) goes_on.alike alike)

pub opening_shards_are_shards : (shape : TableShape) (lists : List (List RecordValue)) (base : Option CutValue)
    → 1 ≤ length lists → length lists ≤ shard_limit → IfSome base (FeedGoesOn shape lists)
    → IfSome base HasAlikeOpeningShards → AreCoreShards (session_opening shape lists base)
opening_shards_are_shards shape lists None some few goes_on alike = new_opening_shards_are_shards shape lists some few
opening_shards_are_shards shape lists (Some cut) some few goes_on alike =
    resumed_opening_shards_are_shards cut lists some few goes_on.continues alike

pub opening_shards_before_ends : (shape : TableShape) (lists : List (List RecordValue)) (base : Option CutValue)
    → IfSome base (FeedGoesOn shape lists) → StartsBefore (session_opening shape lists base)
opening_shards_before_ends shape lists None goes_on = new_opening_shards_before_ends shape lists
opening_shards_before_ends shape lists (Some cut) goes_on =
    resumed_opening_shards_before_ends lists cut.shards goes_on.continues

pub opening_shards_represent : (shape : TableShape) (lists : List (List RecordValue)) (base : Option CutValue)
    → ((shape : TableShape) (list : List RecordValue) → SnapshotRepresents (empty_snapshot shape) list)
    → GoesOnSoundly lists base (session_opening shape lists base)
opening_shards_represent shape lists None begins = λ of_lists. new_opening_shards_represent shape lists begins
opening_shards_represent shape lists (Some cut) begins = λ of_lists. resumed_opening_shards_represent lists cut.shards of_lists.shards

-- one more shard is resumed
pub resumed_opening_shards_grow : (states all : List ShardValue) (state : ShardValue) (list : List RecordValue) (base : SnapshotValue)
    (lists : List (List RecordValue)) (bases : List SnapshotValue)
    → state ≡ record { list = list; base = base; position = base.position }
    → states ++ resumed_shards (list ∷ lists) (base ∷ bases) ≡ all
    → (states ++ state ∷ []) ++ resumed_shards lists bases ≡ all
resumed_opening_shards_grow states all state list base lists bases is before =
    append_assoc states (state ∷ []) (resumed_shards lists bases)
    ∙ ap (λ s. states ++ s ∷ resumed_shards lists bases) is ∙ before

-- a text can show the positions at which shards with short lists start
pub opening_shard_starts_are_positions : (opening : List ShardValue) → 1 ≤ length opening → length opening ≤ shard_limit
    → StartsBefore opening → All (λ shard. length shard.list ≤ record_limit) opening → ShowsPositions (session_start opening)
opening_shard_starts_are_positions opening some few before short =
    let many : length (session_start opening) ≡ length opening = length-map opening _ in
    let ends : All (λ position. position ≤ record_limit) (session_ends opening) =
    All-map (λ position. position ≤ record_limit) (λ (shard : ShardValue). length shard.list) opening short in
    record {
      some = subst (λ n. 1 ≤ n) (sym many) some;
      few = subst (λ n. n ≤ shard_limit) (sym many) few;
      within = All-from_get_or (λ position. position ≤ record_limit) (session_start opening) 0 (λ shard lt.
          let end = All-get_or (λ position. position ≤ record_limit) (session_ends opening) shard 0
          (omega (arith, lt, many, length-map opening (λ (shard : ShardValue). length shard.list))) ends in
          omega (arith, before shard, end));
    }

resumed_opening_shards_are_short : (lists : List (List RecordValue)) (bases : List SnapshotValue)
    → All (λ list. length list ≤ record_limit) lists → AllZip ContinuesList bases lists
    → All (λ shard. length shard.list ≤ record_limit) (resumed_shards lists bases)
resumed_opening_shards_are_short [] bases short continues = All-nil (λ (shard : ShardValue). length shard.list ≤ record_limit)
resumed_opening_shards_are_short (list ∷ lists) [] short continues = absurd continues
resumed_opening_shards_are_short (list ∷ lists) (base ∷ bases) short continues =
    All-cons (λ (shard : ShardValue). length shard.list ≤ record_limit)
    (record { list = list; base = base; position = base.position }) (resumed_shards lists bases)
    (All-head (λ (list : List RecordValue). length list ≤ record_limit) list lists short)
    (resumed_opening_shards_are_short lists bases
    (All-tail (λ (list : List RecordValue). length list ≤ record_limit) list lists short) continues.1)

opening_shards_are_short : (shape : TableShape) (lists : List (List RecordValue)) (base : Option CutValue)
    → All (λ list. length list ≤ record_limit) lists → IfSome base (FeedGoesOn shape lists)
    → All (λ shard. length shard.list ≤ record_limit) (session_opening shape lists base)
opening_shards_are_short shape lists None short goes_on =
    All-map (λ (shard : ShardValue). length shard.list ≤ record_limit) _ lists short
opening_shards_are_short shape lists (Some cut) short goes_on =
    resumed_opening_shards_are_short lists cut.shards short goes_on.continues

-- so it can show those at which the shards of a run start
pub opening_shards_have_positions : (shape : TableShape) (lists : List (List RecordValue)) (base : Option CutValue)
    → AreDealings lists → IfSome base (FeedGoesOn shape lists) → ShowsPositions (session_start (session_opening shape lists base))
opening_shards_have_positions shape lists base shards goes_on =
    let many = opening_shards_count shape lists base goes_on in
    opening_shard_starts_are_positions (session_opening shape lists base) (subst (λ n. 1 ≤ n) (sym many) shards.some)
    (subst (λ n. n ≤ shard_limit) (sym many) shards.few) (opening_shards_before_ends shape lists base goes_on)
    (opening_shards_are_short shape lists base (opening_shards_have_few_records record_limit lists shards.small) goes_on)
