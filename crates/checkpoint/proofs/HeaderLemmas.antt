-- Headers that are the same.
use Rattle.std.proofs.Common.{◌≡◌, ℕ, List, ◌∷◌, replicate, drop, refl, sym, ap, subst, ◌∙◌, arith}
use Rattle.std.specs.Prelude.{slice_index}
use Rattle.byteorder.specs.Endian.{big_from}
use Rattle.byteorder.specs.Numbers.{big_number-reads_back}
use Rattle.slot_disk.specs.{slot_header}
use Rattle.frame_records.specs.declared.weigh.Weigh.{Weigh}
use Rattle.frame_records.specs.declared.weigh.Weigh.TheVariants.{Bytes, Packets}
use Rattle.deal_rules.specs.declared.deal_kind.DealKind.{DealKind}
use Rattle.deal_rules.specs.declared.deal_kind.DealKind.TheVariants.{RoundRobin, BySource, Free}
use Rattle.prefix_lattice.specs.declared.grain.Grain.{Grain}
use Rattle.prefix_lattice.specs.declared.grain.Grain.TheVariants.{Byte, Nibble}
use Rattle.checkpoint.specs.declared.header.StoreHeader.{StoreHeader}
use Rattle.checkpoint.specs.declared.settings.StoreSettings.{StoreSettings}
use Rattle.checkpoint.specs.declared.version.Version.{Version}
use Rattle.checkpoint.specs.declared.version.Version.TheVariants.{First, Second}
use Rattle.checkpoint.specs.Version.{VersionTakes, grain_byte, version_number, version_of_number}
use Rattle.checkpoint.specs.Header.{IsHeader, header_bytes, weighing_byte, dealing_byte, zeros}
use Rattle.checkpoint.specs.Store.{HeadersAreOne, ShowsItsHeader}
use Rattle.checkpoint.proofs.SettingsLemmas.{settings_capacity_is_small}

header_weighing_is_same : (weigh other : Weigh) → weighing_byte weigh ≡ weighing_byte other → weigh ≡ other
header_weighing_is_same Bytes Bytes same = refl
header_weighing_is_same Bytes Packets same = absurd (omega (arith, same))
header_weighing_is_same Packets Bytes same = absurd (omega (arith, same))
header_weighing_is_same Packets Packets same = refl

header_deal_kind_is_same : (deal other : DealKind) → dealing_byte deal ≡ dealing_byte other → deal ≡ other
header_deal_kind_is_same RoundRobin RoundRobin same = refl
header_deal_kind_is_same RoundRobin BySource same = absurd (omega (arith, same))
header_deal_kind_is_same RoundRobin Free same = absurd (omega (arith, same))
header_deal_kind_is_same BySource RoundRobin same = absurd (omega (arith, same))
header_deal_kind_is_same BySource BySource same = refl
header_deal_kind_is_same BySource Free same = absurd (omega (arith, same))
header_deal_kind_is_same Free RoundRobin same = absurd (omega (arith, same))
header_deal_kind_is_same Free BySource same = absurd (omega (arith, same))
header_deal_kind_is_same Free Free same = refl

header_version_is_same : (version other : Version) → version_number version ≡ version_number other → version ≡ other
header_version_is_same First First same = refl
header_version_is_same First Second same = absurd (omega (arith, same))
header_version_is_same Second First same = absurd (omega (arith, same))
header_version_is_same Second Second same = refl

header_grain_is_same : (version : Version) (grain other : Grain) → VersionTakes version grain → VersionTakes version other
    → grain_byte version grain ≡ grain_byte version other → grain ≡ other
header_grain_is_same First grain other taken taken_other same = taken ∙ sym taken_other
header_grain_is_same Second Byte Byte taken taken_other same = refl
header_grain_is_same Second Byte Nibble taken taken_other same = absurd (omega (arith, same))
header_grain_is_same Second Nibble Byte taken taken_other same = absurd (omega (arith, same))
header_grain_is_same Second Nibble Nibble taken taken_other same = refl

-- settings are given by their parts
header_settings_are_same : (settings others : StoreSettings) → settings.shards ≡ others.shards → settings.capacity ≡ others.capacity
    → settings.weigh ≡ others.weigh → settings.deal ≡ others.deal → settings.grain ≡ others.grain → settings ≡ others
header_settings_are_same settings others shards capacity weigh deal grain =
    let with_shards : ℕ → StoreSettings = λ n. record settings { shards = n } in
    let with_capacity : ℕ → StoreSettings = λ n. record settings { shards = others.shards; capacity = n } in
    let with_weigh : Weigh → StoreSettings = λ w. record settings { shards = others.shards; capacity = others.capacity; weigh = w } in
    let with_deal : DealKind → StoreSettings = λ d. record others { deal = d; grain = settings.grain } in
    let with_grain : Grain → StoreSettings = λ g. record others { grain = g } in
    ap with_shards shards ∙ ap with_capacity capacity ∙ ap with_weigh weigh ∙ ap with_deal deal ∙ ap with_grain grain

-- what follows the capacity in a header
abbrev header_after_capacity : StoreHeader → List ℕ
header_after_capacity header =
    weighing_byte header.settings.weigh ∷ dealing_byte header.settings.deal ∷ grain_byte header.version header.settings.grain
    ∷ replicate zeros 0

-- headers of one version whose bytes are the same
header_of_version_is_same : (version : Version) (settings others : StoreSettings) → IsHeader (record { version = version; settings = settings })
    → IsHeader (record { version = version; settings = others })
    → header_bytes (record { version = version; settings = settings }) ≡ header_bytes (record { version = version; settings = others })
    → settings ≡ others
header_of_version_is_same version settings others is is_other same =
    let header : StoreHeader = record { version = version; settings = settings } in
    let other : StoreHeader = record { version = version; settings = others } in
    let byte : (place : ℕ) → slice_index (header_bytes header) place ≡ slice_index (header_bytes other) place =
    λ place. ap (λ (l : List ℕ). slice_index l place) same in
    let small = settings_capacity_is_small settings.grain settings.capacity is.settings.most in
    let small_other = settings_capacity_is_small others.grain others.capacity is_other.settings.most in
    let capacity : settings.capacity ≡ others.capacity =
    sym (big_number-reads_back 2 settings.capacity (header_after_capacity header) (omega (arith, small)))
    ∙ ap (λ (l : List ℕ). big_from 0 2 (drop 6 l)) same
    ∙ big_number-reads_back 2 others.capacity (header_after_capacity other) (omega (arith, small_other)) in
    header_settings_are_same settings others (byte 5) capacity (header_weighing_is_same settings.weigh others.weigh (byte 8))
    (header_deal_kind_is_same settings.deal others.deal (byte 9))
    (header_grain_is_same version settings.grain others.grain is.taken is_other.taken (byte 10))

pub headers_spell_one : HeadersAreOne
headers_spell_one header other is is_other same =
    let version : header.version ≡ other.version =
    header_version_is_same header.version other.version (ap (λ (l : List ℕ). slice_index l 4) same) in
    let with_version : Version → StoreHeader = λ v. record header { version = v } in
    let moved : header ≡ with_version other.version = ap with_version version in
    let settings = header_of_version_is_same other.version header.settings other.settings (subst IsHeader moved is) is_other
    (ap header_bytes (sym moved) ∙ same) in
    moved ∙ ap (λ (s : StoreSettings). record other { settings = s }) settings

-- the version of its number
header_version_is_numbered : (version : Version) → version_of_number (version_number version) ≡ version
header_version_is_numbered First = refl
header_version_is_numbered Second = refl

pub header_is_shown : ShowsItsHeader
header_is_shown header image shown =
    let number : slice_index (slot_header image) 4 ≡ version_number header.version = ap (λ (l : List ℕ). slice_index l 4) shown in
    ap (λ (v : Version). record header { version = v }) (ap version_of_number number ∙ header_version_is_numbered header.version)
