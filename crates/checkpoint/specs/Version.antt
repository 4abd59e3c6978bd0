-- The versions of a store's header, and all that depends on them: a further version is one row more in each table here.
use Rattle.std.specs.Prelude.{ℕ, zero, suc, ◌≡◌, ⊤}
use Rattle.prefix_lattice.specs.{grain_bits}
use Rattle.prefix_lattice.specs.declared.grain.Grain.{Grain}
use Rattle.prefix_lattice.specs.declared.grain.Grain.TheVariants.{Byte}
use Rattle.checkpoint.specs.declared.version.Version.{Version}
use Rattle.checkpoint.specs.declared.version.Version.TheVariants.{First, Second}

-- the number of a version, which byte 6 of a store has
abbrev pub version_number : Version → ℕ
version_number First = 1
version_number Second = 2

-- the version that this number names: the first one where it is 1, else the second one
abbrev pub version_of_number : ℕ → Version
version_of_number zero = Second
version_of_number (suc zero) = First
version_of_number (suc (suc number)) = Second

-- the stores of a version may keep prefixes by this grain: those of the first one keep whole bytes
abbrev pub VersionTakes : Version → Grain → Type 0
VersionTakes First grain = grain ≡ Byte
VersionTakes Second grain = ⊤

-- what byte 12 of a store has: 0 in the first version, which has no grain, and then the bits of its step, 8 or 4
abbrev pub grain_byte : Version → Grain → ℕ
grain_byte First grain = 0
grain_byte Second grain = grain_bits grain
