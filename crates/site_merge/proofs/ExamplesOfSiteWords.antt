-- Worked examples of the words of `sites`, of its text, and of the lines for how it ended.
use Rattle.std.proofs.Common.{◌≡◌, ◌∙◌, ◌+◌, ◌++◌, ℕ, List, [], ◌∷◌, length, refl, ap, codes, arith}
use Rattle.std.specs.Fmt.{digits}
use Rattle.std.proofs.lemmas.List.{length-append}
use Rattle.command_words.specs.{AreOptionsThenNames}
use Rattle.command_words.specs.declared.opt.Opt.TheVariants as opt
use Rattle.command_words.specs.declared.words_kind.WordsKind.TheVariants as report
use Rattle.command_words.proofs.ExamplesOfValues.{defaults}
use Rattle.command_words.proofs.ExamplesOfWords.{asks_for_a_report, bound_is_the_fault, five_bits_are_the_fault}
use Rattle.report_text.proofs.Examples.{report as one_line}
use Rattle.site_merge.specs.SiteStatus.{site_line, status_number, status_of_site_words, status_of_sites}
use Rattle.site_merge.specs.SiteText.{IsShowable, positions_of_site, site_text_line, sites_text}
use Rattle.site_merge.specs.SiteWords.{AskForSites, HasSiteFault, IsOptionFault, NamesSites, site_options, stored_settings}
use Rattle.site_merge.specs.declared.fault.SiteFault.TheVariants as fault
use Rattle.site_merge.specs.declared.reporting.SiteReport.{SiteReport}
use Rattle.site_merge.specs.declared.site_words.SiteOpt.TheVariants.{Bits, Capacity, Shards}
use Rattle.site_merge.specs.declared.site_words.SiteWords.TheVariants.{Refused, TooMany, BadNumber, OutOfLimits, Bound}
use Rattle.site_merge.specs.declared.site_words.SiteWordsRefusal.TheVariants as words
use Rattle.site_merge.specs.declared.status.SiteStatus.TheVariants.{BadWords, NotFormatted, Damaged, SameCapture, TooHeavy}

-- ---- words: what are options and names for any options is in the examples of `command_words`

-- `sites S T`
abbrev two_names : List (List ℕ)
two_names = codes "S" ∷ codes "T" ∷ []

pub asks_for_two_stores : AreOptionsThenNames site_options two_names [] two_names
    → AskForSites (codes "sites" ∷ two_names) (stored_settings defaults) 10000 two_names
asks_for_two_stores parted = record {
  options = [];
  parted = parted;
  few = omega arith;
  all = defaults;
  asked = asks_for_a_report;
  settings_are = refl;
  phi_is = refl;
}

pub names_two_stores : AreOptionsThenNames site_options two_names [] two_names → NamesSites (codes "sites" ∷ two_names) two_names
names_two_stores parted = record { settings = stored_settings defaults; phi = 10000; asked = asks_for_two_stores parted }

abbrev nine_names : List (List ℕ)
nine_names =
    codes "a" ∷ codes "b" ∷ codes "c" ∷ codes "d" ∷ codes "e" ∷ codes "f" ∷ codes "g" ∷ codes "h" ∷ codes "i" ∷ []

pub nine_stores_are_too_many : AreOptionsThenNames site_options nine_names [] nine_names
    → HasSiteFault (codes "sites" ∷ nine_names) TooMany
nine_stores_are_too_many parted = ([], nine_names, parted, omega arith)

pub no_word_is_refused : HasSiteFault [] Refused
no_word_is_refused = refl

-- `sites` alone names no store
no_names_in_nothing : (options names : List (List ℕ)) → AreOptionsThenNames site_options [] options names → ⊥
no_names_in_nothing options names are =
    let whole : 0 ≡ length options + length names = ap length are.parted ∙ length-append options names in
    omega (arith, whole, are.some_names)

pub no_store_is_refused : HasSiteFault (codes "sites" ∷ []) Refused
no_store_is_refused = no_names_in_nothing

-- `--bits=5 S`, which is an option and a name, is refused as `report --bits=5` is
abbrev five_bits : List (List ℕ)
five_bits = codes "--bits=5" ∷ []

pub five_bits_are_outside : AreOptionsThenNames site_options (codes "--bits=5" ∷ codes "S" ∷ []) five_bits (codes "S" ∷ [])
    → HasSiteFault (codes "sites" ∷ codes "--bits=5" ∷ codes "S" ∷ []) (OutOfLimits Bits)
five_bits_are_outside parted = record {
  options = five_bits;
  names = codes "S" ∷ [];
  parted = parted;
  few = omega arith;
  kind = report.OutOfLimits opt.Bits;
  says = refl;
  has = five_bits_are_the_fault;
}

-- `--phi 117647 --capacity 17 S` likewise
abbrev narrow : List (List ℕ)
narrow = codes "--phi" ∷ codes "117647" ∷ codes "--capacity" ∷ codes "17" ∷ []

pub tables_are_too_small_for_the_share :
    AreOptionsThenNames site_options (narrow ++ codes "S" ∷ []) narrow (codes "S" ∷ [])
    → HasSiteFault (codes "sites" ∷ (narrow ++ codes "S" ∷ [])) Bound
tables_are_too_small_for_the_share parted = record {
  options = narrow;
  names = codes "S" ∷ [];
  parted = parted;
  few = omega arith;
  kind = report.Bound;
  says = refl;
  has = bound_is_the_fault;
}

pub number_of_the_shards : IsOptionFault (report.BadNumber opt.Shards) (BadNumber Shards)
number_of_the_shards = refl

pub fault_of_another_option : IsOptionFault (report.BadNumber opt.Shards) (BadNumber Capacity) → ⊥
fault_of_another_option same = cc

-- ---- the text

-- two sites of one shard, of which the first counted one packet
abbrev made : SiteReport
made = record { report = record one_line { positions = 1 ∷ 0 ∷ [] }; sites = 2; shards = 1 }

pub text_of_two_sites : sites_text made
    ≡ codes "sites 2\nsite 1 1\nsite 2 0\ntotal 100\nthreshold 1\nline 10.1.2.3/32 20.1.2.3/32 100 100\nend\n"
unfolding digits
text_of_two_sites = refl

pub two_sites_are_showable : IsShowable made
two_sites_are_showable = record { few_sites = omega arith; few_shards = omega arith; as_many = refl }

-- two sites of two shards
abbrev by_two_shards : SiteReport
by_two_shards = record { report = record one_line { positions = 1 ∷ 2 ∷ 3 ∷ 4 ∷ [] }; sites = 2; shards = 2 }

pub positions_of_the_second_site : positions_of_site by_two_shards 1 ≡ 3 ∷ 4 ∷ []
positions_of_the_second_site = refl

pub line_of_the_second_site : site_text_line by_two_shards 1 ≡ codes "site 2 3 4\n"
unfolding digits
line_of_the_second_site = refl

-- ---- how it ended

pub line_of_a_damaged_store : site_line (Damaged 2 1) ≡ codes "hhh: site 2: damaged: slot 1\n"
unfolding digits
line_of_a_damaged_store = refl

pub line_of_one_capture : site_line (SameCapture 1 2) ≡ codes "hhh: sites 1 and 2 are of one capture\n"
unfolding digits
line_of_one_capture = refl

pub number_of_one_capture : status_number (SameCapture 1 2) ≡ 14
number_of_one_capture = refl

-- the line doesn't say how heavy they are
pub line_of_heavy_sites : (total : ℕ) → site_line (TooHeavy total) ≡ codes "hhh: too heavy\n"
line_of_heavy_sites total = refl

pub number_of_heavy_sites : (total : ℕ) → status_number (TooHeavy total) ≡ 15
number_of_heavy_sites total = refl

pub status_of_a_short_store : status_of_sites (fault.NotFormatted 2) ≡ NotFormatted 2
status_of_a_short_store = refl

pub status_of_too_many_names : status_of_site_words (words.Bad TooMany) ≡ BadWords TooMany
status_of_too_many_names = refl

-- running out of memory is reported alike, whether words or stores were being read
pub want_of_memory : status_of_site_words words.OutOfMemory ≡ status_of_sites fault.OutOfMemory
want_of_memory = refl
