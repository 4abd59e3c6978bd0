-- The numbers of settings, by the grains. All other files go by these, and have no case for each grain.
use Rattle.std.proofs.Common.{ℕ, ◌*◌, ◌^◌, ◌<◌, ◌≤◌, arith}
use Rattle.std.proofs.Math.Nat.{mul-le-mul_right}
use Rattle.prefix_lattice.specs.declared.grain.Grain.{Grain}
use Rattle.prefix_lattice.specs.declared.grain.Grain.TheVariants.{Byte, Nibble}
use Rattle.shard_state.specs.{most_capacity, most_grain_capacity}
use Rattle.checkpoint.specs.declared.settings.StoreSettings.{StoreSettings}
use Rattle.checkpoint.specs.Header.{AreSettings, settings_shape}
use Rattle.checkpoint.specs.Lengths.{snapshot_span, span_of}

-- no grain takes more entries than whole bytes
pub settings_capacity_is_small : (grain : Grain) (capacity : ℕ) → capacity ≤ most_grain_capacity grain → capacity ≤ most_capacity
settings_capacity_is_small Byte capacity most = most
settings_capacity_is_small Nibble capacity most = omega (arith, most)

-- the snapshot of a shard is a small number of bytes
pub settings_snapshot_is_small : (grain : Grain) (capacity : ℕ) → capacity ≤ most_grain_capacity grain
    → snapshot_span (record { grain = grain; capacity = capacity }) ≤ 2457908
settings_snapshot_is_small Byte capacity most = omega (arith, most)
settings_snapshot_is_small Nibble capacity most = omega (arith, most)

-- each span is below 2^32
pub settings_span_is_small : (settings : StoreSettings) → AreSettings settings → span_of settings < 2 ^ 32
settings_span_is_small settings are =
    let most : settings.shards * snapshot_span (settings_shape settings) ≤ 16 * snapshot_span (settings_shape settings) =
    mul-le-mul_right (snapshot_span (settings_shape settings)) are.few in
    omega (arith, most, settings_snapshot_is_small settings.grain settings.capacity are.most)
