-- What the words of `sites` ask for, and their first fault.
use Rattle.std.specs.Prelude.{ℕ, ◌≡◌, ◌<◌, ◌≤◌, List, [], ◌∷◌, length, codes}
use Rattle.checkpoint.specs.declared.settings.StoreSettings.{StoreSettings}
use Rattle.command_words.specs.{AreOptionsThenNames, AskForReport, HasReportFault}
use Rattle.command_words.specs.declared.opt.Opt.{Opt}
use Rattle.command_words.specs.declared.opt.Opt.TheVariants as opt
use Rattle.command_words.specs.declared.settings.Settings.{Settings}
use Rattle.command_words.specs.declared.words_kind.WordsKind.{WordsKind}
use Rattle.command_words.specs.declared.words_kind.WordsKind.TheVariants as report
use Rattle.site_merge.specs.SiteCut.{site_limit}
use Rattle.site_merge.specs.declared.site_words.SiteOpt.{SiteOpt}
use Rattle.site_merge.specs.declared.site_words.SiteOpt.TheVariants.{Weigh, Shards, Capacity, Phi, Deal, Bits}
use Rattle.site_merge.specs.declared.site_words.SiteWords.{SiteWords}
use Rattle.site_merge.specs.declared.site_words.SiteWords.TheVariants.{Refused, TooMany, BadNumber, OutOfLimits, BadChoice, Bound}

-- the names of the options of `sites`
abbrev pub site_options : List (List ℕ)
site_options = codes "weigh" ∷ codes "shards" ∷ codes "capacity" ∷ codes "phi" ∷ codes "deal" ∷ codes "bits" ∷ []

-- the option of a command line that an option of `sites` is
abbrev pub opt_of : SiteOpt → Opt
opt_of Weigh = opt.Weigh
opt_of Shards = opt.Shards
opt_of Capacity = opt.Capacity
opt_of Phi = opt.Phi
opt_of Deal = opt.Deal
opt_of Bits = opt.Bits

-- the settings of the stores, of all the settings of a report
abbrev pub stored_settings : Settings → StoreSettings
stored_settings all = record {
  shards = all.shards;
  capacity = all.capacity;
  weigh = all.weigh;
  deal = all.deal;
  grain = all.grain;
}

-- the words behind the first ask for one report over the stores of 1 to 8 names: of the settings and at the share that
-- `report` has with the options before the names
pub record AskBehind (behind : List (List ℕ)) (settings : StoreSettings) (phi : ℕ) (names : List (List ℕ)) : Type 0 where
  pub options : List (List ℕ)
  pub parted : AreOptionsThenNames site_options behind options names
  pub few : length names ≤ site_limit
  pub all : Settings
  pub asked : AskForReport options all
  pub settings_are : settings ≡ stored_settings all
  pub phi_is : phi ≡ all.phi

-- the words, of which the first may be any, ask for it
abbrev pub AskForSites : List (List ℕ) → StoreSettings → ℕ → List (List ℕ) → Type 0
AskForSites [] settings phi names = ⊥
AskForSites (first ∷ behind) settings phi names = AskBehind behind settings phi names

-- the fault of options behind `report` is this fault of the options of `sites`
abbrev pub IsOptionFault : WordsKind → SiteWords → Type 0
IsOptionFault kind Refused = ⊥
IsOptionFault kind TooMany = ⊥
IsOptionFault kind (BadNumber opt) = kind ≡ report.BadNumber (opt_of opt)
IsOptionFault kind (OutOfLimits opt) = kind ≡ report.OutOfLimits (opt_of opt)
IsOptionFault kind (BadChoice opt) = kind ≡ report.BadChoice (opt_of opt)
IsOptionFault kind Bound = kind ≡ report.Bound

-- the words behind the first are options and 1 to 8 names, and the options have this first fault behind `report`
pub record HasBadOptions (behind : List (List ℕ)) (fault : SiteWords) : Type 0 where
  pub options : List (List ℕ)
  pub names : List (List ℕ)
  pub parted : AreOptionsThenNames site_options behind options names
  pub few : length names ≤ site_limit
  pub kind : WordsKind
  pub says : IsOptionFault kind fault
  pub has : HasReportFault options kind

-- the first fault of the words behind the first: their form, then how many names there are, then the values of the options
-- in their order, then the bound on phi times the capacity
abbrev pub HasFaultBehind : List (List ℕ) → SiteWords → Type 0
HasFaultBehind behind Refused = (options names : List (List ℕ)) → AreOptionsThenNames site_options behind options names → ⊥
HasFaultBehind behind TooMany =
    (options : List (List ℕ)) × (names : List (List ℕ)) × AreOptionsThenNames site_options behind options names
    × (site_limit < length names)
HasFaultBehind behind (BadNumber opt) = HasBadOptions behind (BadNumber opt)
HasFaultBehind behind (OutOfLimits opt) = HasBadOptions behind (OutOfLimits opt)
HasFaultBehind behind (BadChoice opt) = HasBadOptions behind (BadChoice opt)
HasFaultBehind behind Bound = HasBadOptions behind Bound

-- the first fault of the words, of which the first may be any
abbrev pub HasSiteFault : List (List ℕ) → SiteWords → Type 0
HasSiteFault [] fault = fault ≡ Refused
HasSiteFault (first ∷ behind) fault = HasFaultBehind behind fault

-- the words name stores at these paths
pub record NamesSites (words : List (List ℕ)) (names : List (List ℕ)) : Type 0 where
  pub settings : StoreSettings
  pub phi : ℕ
  pub asked : AskForSites words settings phi names
