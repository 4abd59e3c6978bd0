-- How the command `sites` ended: the exit status, and the line on standard error.
use Rattle.std.specs.Prelude.{ℕ, List, ◌++◌, codes, decimal}
use Rattle.site_merge.specs.declared.fault.SiteFault.{SiteFault}
use Rattle.site_merge.specs.declared.fault.SiteFault.TheVariants as fault
use Rattle.site_merge.specs.declared.site_words.SiteWordsRefusal.{SiteWordsRefusal}
use Rattle.site_merge.specs.declared.site_words.SiteWordsRefusal.TheVariants as words
use Rattle.site_merge.specs.declared.status.SiteStatus.{SiteStatus}
use Rattle.site_merge.specs.declared.status.SiteStatus.TheVariants.{Done, BadWords, WriteFault, DiskFault, NotFormatted}
use Rattle.site_merge.specs.declared.status.SiteStatus.TheVariants.{Damaged, OtherSettings, OutOfMemory, SameCapture, TooHeavy}

-- the exit status for how the command ended
abbrev pub status_number : SiteStatus → ℕ
status_number Done = 0
status_number (BadWords kind) = 2
status_number WriteFault = 5
status_number (DiskFault site) = 6
status_number (NotFormatted site) = 7
status_number (Damaged site slot) = 8
status_number (OtherSettings site stored asked) = 9
status_number OutOfMemory = 13
status_number (SameCapture first second) = 14
status_number (TooHeavy total) = 15

-- the status where the stores of the sites are refused
abbrev pub status_of_sites : SiteFault → SiteStatus
status_of_sites (fault.DiskFault site) = DiskFault site
status_of_sites (fault.NotFormatted site) = NotFormatted site
status_of_sites (fault.OtherSettings site stored asked) = OtherSettings site stored asked
status_of_sites (fault.Damaged site slot) = Damaged site slot
status_of_sites (fault.SameCapture first second) = SameCapture first second
status_of_sites (fault.TooHeavy total) = TooHeavy total
status_of_sites fault.OutOfMemory = OutOfMemory

-- the status where the words are refused
abbrev pub status_of_site_words : SiteWordsRefusal → SiteStatus
status_of_site_words (words.Bad kind) = BadWords kind
status_of_site_words words.OutOfMemory = OutOfMemory

-- the site with this number
abbrev pub site_name : ℕ → List ℕ
site_name site = codes "site " ++ decimal site

-- how the command ended, as text
abbrev pub status_text : SiteStatus → List ℕ
status_text Done = codes "done"
status_text (BadWords kind) = codes "bad words"
status_text WriteFault = codes "write fault"
status_text (DiskFault site) = site_name site ++ codes ": disk fault"
status_text (NotFormatted site) = site_name site ++ codes ": not formatted"
status_text (Damaged site slot) = site_name site ++ codes ": damaged: slot " ++ decimal slot
status_text (OtherSettings site stored asked) = site_name site ++ codes ": other settings"
status_text OutOfMemory = codes "out of memory"
status_text (SameCapture first second) =
    codes "sites " ++ decimal first ++ codes " and " ++ decimal second ++ codes " are of one capture"
status_text (TooHeavy total) = codes "too heavy"

-- the line that reports on standard error how the command ended
abbrev pub site_line : SiteStatus → List ℕ
site_line status = codes "hhh: " ++ status_text status ++ codes "\n"
