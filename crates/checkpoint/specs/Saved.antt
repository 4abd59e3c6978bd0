-- What a body spells.
use Rattle.std.specs.Prelude.{ℕ, List}
use Rattle.shard_state.specs.{CutValue}
use Rattle.checkpoint.specs.declared.saved.Saved.{Saved}
use Rattle.checkpoint.specs.declared.newest.Newest.{Newest}

-- what a body spells: its sequence number, the digest of the dealt records, and a cut
pub record SavedValue : Type 0 where
  pub sequence : ℕ
  pub digest : List ℕ
  pub cut : CutValue

-- what was decoded, as definitions see it
abbrev pub saved_value : Saved → SavedValue
saved_value saved = record { sequence = saved.sequence; digest = saved.digest; cut = saved.cut }

-- what the body of the newest slot spells
abbrev pub saved_in : Newest → SavedValue
saved_in newest = saved_value newest.saved
