pub mod SiteCut
pub mod OneCapture
pub mod Sites
pub mod Disks
pub mod Reporting
pub mod SiteWords
pub mod SiteStatus
pub mod SiteText
pub mod TopCall
-- within the crate
pub mod Taking
pub mod SiteLine
-- the face: what contracts of other crates cite
pub use Rattle.site_merge.specs.SiteCut.{site_limit}
pub use Rattle.site_merge.specs.SiteWords.{AskForSites, NamesSites}
pub use Rattle.site_merge.specs.SiteStatus.{site_line, status_number}
pub use Rattle.site_merge.specs.TopCall.{SitesEnd}
