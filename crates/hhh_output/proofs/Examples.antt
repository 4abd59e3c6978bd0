-- Worked examples of the report of a cut, most by computing.
use Rattle.std.proofs.Common.{◌≡◌, ℕ, zero, suc, ◌<◌, ◌≤ℤ◌, [], ◌∷◌, length, Contains}
use Rattle.std.proofs.Common.{refl, ap, subst, arith, pos}
use Rattle.std.proofs.Math.ListN.{replicate}
use Rattle.std.proofs.lemmas.Int.{ints}
use Rattle.std.specs.Prelude.{slice_index_or}
use Rattle.prefix_lattice.specs.{RecordValue, node_index, node_count, PrefixValue, IsPrefix, node_of_prefix, prefix_key}
use Rattle.prefix_lattice.specs.declared.grain.Grain.TheVariants.{Byte}
use Rattle.prefix_lattice.proofs.Examples.{front, leading_bits_of_an_address}
use Rattle.hhh_report.specs.{AreReportLines}
use Rattle.hhh_report.specs.declared.line.Line.{Line}
use Rattle.hhh_report.specs.declared.report.Report.{Report}
use Rattle.shard_state.specs.{fold_from, no_entries, empty_snapshot, CutValue, TableShape}
use Rattle.cut_merge.specs.{monitored_in}
use Rattle.hhh_output.specs.Reporting.{IsMonitored, low_in, high_in, IsUnexplained}
use Rattle.hhh_output.specs.Reporting.{IsLineOf, IsReportOf, IsWideShare}

-- tables of 512 entries can't hide a hundredth, those of 199 can
pub tables_for_a_hundredth : IsWideShare 10000 512
tables_for_a_hundredth = omega arith

pub tables_too_small_for_a_hundredth : IsWideShare 10000 199 → ⊥
tables_too_small_for_a_hundredth wide = omega (arith, wide)

-- 100 bytes from 10.1.2.3 to 20.1.2.3
abbrev packet : RecordValue
packet = record { src = 0x0a010203; dst = 0x14010203; weight = 100 }

-- 10.0.0.0/8 20.0.0.0/8
abbrev prefix : PrefixValue
prefix = record { source = front 0x0a000000 8; dest = front 0x14000000 8 }

-- tables of 4 entries, for prefixes by whole bytes
abbrev small : TableShape
small = record { grain = Byte; capacity = 4 }

-- one shard that counted the packet
abbrev cut : CutValue
cut = record {
  shape = small;
  shards = record { shape = small; position = 1; tables = fold_from 0 small (no_entries Byte) (packet ∷ []) } ∷ [];
}

pub low_of_the_prefix : low_in cut prefix ≡ 100
unfolding no_entries
low_of_the_prefix = refl

pub high_of_the_prefix : high_in cut prefix ≡ 100
unfolding no_entries
high_of_the_prefix = refl

-- 0.0.0.0/0 0.0.0.0/0
abbrev pub root : PrefixValue
root = record { source = []; dest = [] }

-- 10.1.2.3/32 20.1.2.3/32, which is the packet's own
abbrev pub whole : PrefixValue
whole = record { source = front 0x0a010203 32; dest = front 0x14010203 32 }

pub whole_is_prefix : IsPrefix Byte whole
whole_is_prefix = record {
  source = leading_bits_of_an_address 0x0a010203 32 (omega arith);
  dest = leading_bits_of_an_address 0x14010203 32 (omega arith);
  source_steps = refl;
  dest_steps = refl;
}

-- the lines of the packet's own prefix and of the root
abbrev pub own : Line
own = record { prefix = whole; lo = 100; hi = 100 }

abbrev pub of_all : Line
of_all = record { prefix = root; lo = 100; hi = 100 }

pub no_lines : AreReportLines []
no_lines = record {
  few = omega arith;
  ordered = λ place other within. absurd (omega arith);
  rising = λ place later other before within. absurd (omega arith);
}

-- the packet's own prefix is a line, whether or not it is among the lines already
pub own_line_of_the_cut : IsLineOf cut 1 [] own
unfolding no_entries
own_line_of_the_cut =
    let unexplained : pos 1 ≤ℤ pos 100 = omega (arith, ints) in
    record {
      is_prefix = whole_is_prefix;
      low = refl;
      high = refl;
      monitored = (0, omega arith, refl);
      heavy = omega arith;
      unexplained = unexplained;
    }

pub no_line_above_all_weight : ¬ IsLineOf cut 101 [] own
no_line_above_all_weight line = omega (arith, line.heavy)

pub root_is_monitored : IsMonitored cut root
unfolding no_entries
root_is_monitored = (0, omega arith, refl)

-- 11.0.0.0/8 0.0.0.0/0
abbrev elsewhere : PrefixValue
elsewhere = record { source = front 0x0b000000 8; dest = [] }

pub another_network_is_not : ¬ IsMonitored cut elsewhere
unfolding no_entries
another_network_is_not monitored = other monitored.0 monitored.1 monitored.2
  where
    other : (place : ℕ) → place < 1
        → slice_index_or (prefix_key (record { source = front 0x0a000000 8; dest = [] }) ∷ []) place
        (prefix_key elsewhere)
        ≡ prefix_key elsewhere → ⊥
    other zero within is = omega (arith, is)
    other (suc place) within is = omega arith

-- the bound is 100, less the 100 of the line below
pub root_is_explained_by_the_line : ¬ IsUnexplained cut 1 (whole ∷ []) root
unfolding no_entries
root_is_explained_by_the_line unexplained = let most : pos 1 ≤ℤ pos 0 = unexplained in omega (arith, ints, most)

pub and_unexplained_without_it : IsUnexplained cut 1 [] root
unfolding no_entries
and_unexplained_without_it = let most : pos 1 ≤ℤ pos 100 = omega (arith, ints) in most

abbrev silent : Report
silent = record { positions = 1 ∷ []; total = 100; threshold = 1; lines = []; are_lines = no_lines }

pub silence_is_no_report_of_the_cut : ¬ IsReportOf cut 10000 silent
silence_is_no_report_of_the_cut report =
    let inside = (report.lines own).1 own_line_of_the_cut in omega (arith, inside.1)

-- a cut of one shard that counted nothing, and what is reported of it
abbrev nothing_counted : CutValue
nothing_counted = record { shape = small; shards = empty_snapshot small ∷ [] }

abbrev nothing_told : Report
nothing_told = record { positions = 0 ∷ []; total = 0; threshold = 1; lines = []; are_lines = no_lines }

-- in a list of equal elements the element at each index is that element, which is also the default
pub alike : {X : Type 0} (x : X) (length place : ℕ) → slice_index_or (replicate length x) place x ≡ x
alike x zero place = refl
alike x (suc length) zero = refl
alike x (suc length) (suc place) = alike x length place

pub nothing_is_told_of_nothing : IsReportOf nothing_counted 500000 nothing_told
unfolding no_entries
nothing_is_told_of_nothing = record {
  positions = refl;
  total = refl;
  threshold = record { heavy = record { some = omega arith; share = omega arith }; least = λ weight heavy. heavy.some };
  lines = λ line. (
    (λ inside. absurd (omega (arith, inside.1))),
    (λ asked.
        let none = subst (λ keys. Contains keys (prefix_key line.prefix))
        (ap (λ entries. monitored_in (record { capacity = 4; entries = entries } ∷ []))
        (alike [] (node_count Byte) (node_index (node_of_prefix Byte line.prefix)))) asked.monitored in
        absurd (omega (arith, none.1))),
  );
}
