-- The prefixes that a report leaves out, though they are heavy.
use Rattle.std.specs.Prelude.{ℕ, ◌≡◌, ◌≢◌, ◌≤◌, List, Contains}
use Rattle.std.specs.declared.cmp.Ordering.TheVariants.{Less}
use Rattle.prefix_lattice.specs.{RecordValue, PrefixValue, IsPrefix, report_order, conditioned_weight}
use Rattle.prefix_lattice.specs.declared.grain.Grain.{Grain}

-- a prefix of a grain with this conditioned weight is left out: no line has it, and the weight reaches the threshold
pub record IsLeftOut (grain : Grain) (lines : List PrefixValue) (records : List RecordValue) (threshold : ℕ)
    (prefix : PrefixValue) (weight : ℕ) : Type 0 where
  pub is_prefix : IsPrefix grain prefix
  pub no_line : ¬ Contains lines prefix
  pub weighs : weight ≡ conditioned_weight prefix lines records
  pub heavy : threshold ≤ weight

-- a prefix of a grain with this conditioned weight is the first, in the order of a report, that is left out
pub record IsFirstLeftOut (grain : Grain) (lines : List PrefixValue) (records : List RecordValue) (threshold : ℕ)
    (prefix : PrefixValue) (weight : ℕ) : Type 0 where
  pub left_out : IsLeftOut grain lines records threshold prefix weight
  pub first : (other : PrefixValue) (more : ℕ) → IsLeftOut grain lines records threshold other more
      → report_order other prefix ≢ Less
