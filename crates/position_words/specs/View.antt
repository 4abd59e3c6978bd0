-- What a seat knows, and how each step changes it.
use Rattle.std.specs.Prelude.{ℕ, ◌+◌, ◌/◌, max, true, false, List, [], ◌∷◌, ◌++◌, map, Option, None, Some, slice_index}
use Rattle.shard_state.specs.{ShardValue, changed_in}
use Rattle.position_words.specs.declared.view.Aim.{Aim}
use Rattle.position_words.specs.declared.view.Aim.TheVariants.{Fold, Read}
use Rattle.position_words.specs.declared.view.Trail.{Trail}
use Rattle.position_words.specs.declared.view.Held.{Held}
use Rattle.position_words.specs.declared.view.Joined.{Joined}
use Rattle.position_words.specs.declared.view.View.{View}

-- a trail without a step, from a position on
abbrev pub trail_from : ℕ → Trail
trail_from position = record { seen = position; looks = []; reads = []; folds = []; losses = [] }

-- the view of the first seat: it names the shards, and has seen their positions
abbrev pub first_view : List ShardValue → View
first_view shards = record {
  opening = shards;
  trails = map (λ shard. trail_from shard.position) shards;
  lineage = [];
  splits = 0;
  joins = [];
  held = None;
  spent = false;
}

-- the position of a shard that a view has last seen
abbrev pub seen_in : ℕ → View → ℕ
seen_in shard view = slice_index (map (λ trail. trail.seen) view.trails) shard

-- a view after a step that changes what it knows of one shard
abbrev pub with_trail : (Trail → Trail) → ℕ → View → View
with_trail change shard view = record view { trails = changed_in change shard view.trails }

-- a view after a look that met this position
abbrev pub after_look : ℕ → ℕ → View → View
after_look shard position view =
    with_trail (λ trail. record trail { seen = position; looks = trail.looks ++ position ∷ [] }) shard view

-- a trail after a take that won at this position
abbrev pub trail_after_win : Aim → ℕ → Trail → Trail
trail_after_win Fold position trail = record trail { seen = position }
trail_after_win Read position trail = record trail { seen = position; reads = trail.reads ++ position ∷ [] }

-- a view after a take, for this aim, that won the shard at this position
abbrev pub after_win : Aim → ℕ → ℕ → View → View
after_win aim shard position view = record (with_trail (trail_after_win aim position) shard view) {
  held = Some (record { shard = shard; position = position; aim = aim });
}

-- a trail after a take that met this odd word
abbrev pub trail_after_loss : ℕ → Trail → Trail
trail_after_loss word trail = record trail { seen = word / 2; losses = trail.losses ++ word ∷ [] }

-- a view after a take of a shard that met this odd word
abbrev pub after_loss : ℕ → ℕ → View → View
after_loss shard word view = with_trail (trail_after_loss word) shard view

-- a trail after its shard, which was taken at one position, is given back at another
abbrev pub trail_after_give : Aim → ℕ → ℕ → Trail → Trail
trail_after_give Fold met position trail = record trail {
  seen = position;
  folds = trail.folds ++ record { from = met; to = position } ∷ [];
}
trail_after_give Read met position trail = record trail { seen = position }

-- within the crate: a view after what it holds, if anything, is given back at this position
abbrev pub after_give_held : ℕ → Option Held → View → View
after_give_held position None view = view
after_give_held position (Some held) view =
    record (with_trail (trail_after_give held.aim held.position position) held.shard view) { held = None }

-- a view after the shard that it holds is given back at this position
abbrev pub after_giving : ℕ → View → View
after_giving position view = after_give_held position view.held view

-- a view after a seat was split off
abbrev pub after_split : View → View
after_split view = record view { splits = view.splits + 1 }

-- the view of the seat that was split off: it has seen the same positions and made no step; its lineage has one split more,
-- the number of seats that were split off before it
abbrev pub newcomer_view : View → View
newcomer_view view = record {
  opening = view.opening;
  trails = map (λ trail. trail_from trail.seen) view.trails;
  lineage = view.lineage ++ view.splits ∷ [];
  splits = 0;
  joins = [];
  held = None;
  spent = false;
}

-- the trails of a seat after another was joined to it: of each shard, the later of the two positions is seen
abbrev pub joined_trails : List Trail → List Trail → List Trail
joined_trails [] others = []
joined_trails (trail ∷ rest) [] = trail ∷ rest
joined_trails (trail ∷ rest) (other ∷ others) =
    record trail { seen = max trail.seen other.seen } ∷ joined_trails rest others

-- what a seat leaves where it is joined to another: its lineage, and its steps
abbrev pub joined_view : View → Joined
joined_view view = record { lineage = view.lineage; trails = view.trails }

-- a view after another seat was joined: it has seen what both have, keeps its own steps, and notes what the other leaves
abbrev pub after_join : View → View → View
after_join view other = record view {
  trails = joined_trails view.trails other.trails;
  joins = view.joins ++ joined_view other ∷ [];
}

-- the view that a joined seat is left with
abbrev pub spent_view : View
spent_view = record { opening = []; trails = []; lineage = []; splits = 0; joins = []; held = None; spent = true }
