-- What is read of the words of `sites`, which no public contract cites.
use Rattle.std.specs.Prelude.{⊤, ℕ, ◌≡◌, ◌≤◌, List}
use Rattle.hhh_report.specs.{million}
use Rattle.hhh_output.specs.{IsWideShare}
use Rattle.checkpoint.specs.{AreSettings}
use Rattle.checkpoint.specs.declared.settings.StoreSettings.{StoreSettings}
use Rattle.command_words.specs.{argument_texts}
use Rattle.command_words.specs.declared.words_kind.WordsRefusal.{WordsRefusal}
use Rattle.command_words.specs.declared.words_kind.WordsRefusal.TheVariants as report
use Rattle.site_merge.specs.SiteCut.{site_limit}
use Rattle.site_merge.specs.SiteWords.{IsOptionFault}
use Rattle.site_merge.specs.declared.site_words.SiteWordsRefusal.{SiteWordsRefusal}
use Rattle.site_merge.specs.declared.site_words.SiteWordsRefusal.TheVariants.{Bad, OutOfMemory}
use Rattle.site_merge.specs.declared.words.SiteLine.{SiteLine}

-- the refusal of options behind `report` is this refusal of the words of `sites`
abbrev pub IsSiteRefusal : WordsRefusal → SiteWordsRefusal → Type 0
IsSiteRefusal (report.Bad kind) (Bad fault) = IsOptionFault kind fault
IsSiteRefusal report.OutOfMemory OutOfMemory = ⊤
IsSiteRefusal _ _ = ⊥

-- a report can be made of 1 to 8 stores of these settings at this share
pub record CanReport (settings : StoreSettings) (phi : ℕ) (names : ℕ) : Type 0 where
  pub some : 1 ≤ names
  pub few : names ≤ site_limit
  pub settings_allowed : AreSettings settings
  pub least : 1 ≤ phi
  pub most : phi ≤ million
  pub wide : IsWideShare phi settings.capacity

-- the line says this
pub record IsLine (line : SiteLine) (settings : StoreSettings) (phi : ℕ) (names : List (List ℕ)) : Type 0 where
  pub same_settings : line.settings ≡ settings
  pub same_phi : line.phi ≡ phi
  pub same_names : argument_texts line.names.now ≡ names
