pub mod Arguments
pub mod FormNames
pub mod Options
pub mod Settings
pub mod Command
pub mod WordsRefusal
pub mod Values
pub mod PathTexts
pub mod Names
-- within the crate
pub mod Scanning
pub mod Given
pub mod Matches
pub mod Parsing
-- the face: what contracts of other crates cite
pub use Rattle.command_words.specs.Settings.{AreLimited, HaveWideShare}
pub use Rattle.command_words.specs.Command.{AskForCommand, IsLimitedCommand}
pub use Rattle.command_words.specs.WordsRefusal.{HasWordsFault}
pub use Rattle.command_words.specs.PathTexts.{NamesPaths}
pub use Rattle.command_words.specs.Arguments.{argument_texts}
pub use Rattle.command_words.specs.Names.{AreOptionsThenNames, AskForReport, HasReportFault, IsFaultOfOptions, IsNamedOption}
pub use Rattle.command_words.specs.Names.{report_options}
