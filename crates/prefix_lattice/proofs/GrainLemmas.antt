-- The numbers of the grains. All other files go by these, and have no case for each grain.
use Rattle.std.proofs.Common.{◌≡◌, ℕ, ◌+◌, ◌*◌, ◌/◌, ◌%◌, ◌<◌, ◌≤◌, suc, refl, arith}
use Rattle.std.proofs.lemmas.Nat.{div_below, div-add-mod'}
use Rattle.std.proofs.Math.Nat.{mul-mod_left, mul-le-mul_right, suc-mul}
use Rattle.prefix_lattice.specs.Grain.{grain_bits, grain_lengths, finest_grain, node_count, IsGrainLength}
use Rattle.prefix_lattice.specs.declared.grain.Grain.{Grain}
use Rattle.prefix_lattice.specs.declared.grain.Grain.TheVariants.{Byte, Nibble}

pub record AreGrainNumbers (bits lengths : ℕ) : Type 0 where
  pub some_bits : 0 < bits
  pub some_lengths : 0 < lengths
  pub some_nodes : 0 < lengths * lengths
  pub few_nodes : lengths * lengths ≤ node_count finest_grain
  pub spans : lengths * bits ≡ 32 + bits
  pub refines : (n : ℕ) → n % bits ≡ 0 → n % 4 ≡ 0

pub grain_numbers : (grain : Grain) → AreGrainNumbers (grain_bits grain) (grain_lengths grain)
grain_numbers Byte = record {
  some_bits = omega arith;
  some_lengths = omega arith;
  some_nodes = omega arith;
  few_nodes = omega arith;
  spans = refl;
  refines = λ n whole. omega (arith, whole);
}
grain_numbers Nibble = record {
  some_bits = omega arith;
  some_lengths = omega arith;
  some_nodes = omega arith;
  few_nodes = omega arith;
  spans = refl;
  refines = λ n whole. whole;
}

-- a length is of the finest grain too
pub grain_length-finest : {grain : Grain} (n : ℕ) → IsGrainLength grain n → IsGrainLength finest_grain n
grain_length-finest {grain} n length = record { few = length.few; whole = (grain_numbers grain).refines n length.whole }

-- the steps of a length are below the number of lengths
pub grain_length-steps : {grain : Grain} (n : ℕ) → IsGrainLength grain n → n / grain_bits grain < grain_lengths grain
grain_length-steps {grain} n length =
    let numbers = grain_numbers grain in
    div_below n (grain_bits grain) (grain_lengths grain) numbers.some_bits
    (omega (arith, numbers.spans, numbers.some_bits, length.few))

-- a length is its steps, in bits
pub grain_length-in_steps : {grain : Grain} (n : ℕ) → IsGrainLength grain n → n / grain_bits grain * grain_bits grain ≡ n
grain_length-in_steps {grain} n length = omega (arith, div-add-mod' n (grain_bits grain), length.whole)

-- so many steps are a length
pub grain_length-of_steps : (grain : Grain) (steps : ℕ) → steps < grain_lengths grain
    → IsGrainLength grain (steps * grain_bits grain)
grain_length-of_steps grain steps few =
    let numbers = grain_numbers grain in
    let most : suc steps * grain_bits grain ≤ grain_lengths grain * grain_bits grain =
    mul-le-mul_right (grain_bits grain) few in
    record {
      few = omega (arith, most, numbers.spans, suc-mul steps (grain_bits grain));
      whole = mul-mod_left steps (grain_bits grain);
    }
