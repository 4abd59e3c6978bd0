-- What the program runs: a command over the streams and files of the system that its words name.
use Rattle.std.specs.Prelude.{ℕ, ◌≡◌, List, [], Option}
use Rattle.std.specs.List.{AllZip}
use Rattle.std.specs.Process.{exit_status}
use Rattle.std.specs.declared.process.ExitCode.{ExitCode}
use Rattle.outside_io.specs.declared.source.Source.{Ghosts as SourceOf}
use Rattle.outside_io.specs.declared.sink.Sink.{Ghosts as SinkOf}
use Rattle.slot_disk.specs.declared.disk.Disk.{Ghosts as DiskOf}
use Rattle.checkpoint.specs.declared.settings.StoreSettings.{StoreSettings}
use Rattle.system_io.specs.{IsUnusedDisk, IsUnusedInput, IsUnusedSink}
use Rattle.system_io.specs.declared.file_disk.FileDisk.{FileDisk}
use Rattle.system_io.specs.declared.input.Input.{Input}
use Rattle.system_io.specs.declared.input.LateFile.{LateFile}
use Rattle.system_io.specs.declared.std_sink.StdSink.{StdSink}
use Rattle.system_io.specs.declared.std_source.StdSource.{StdSource}
use Rattle.system_io.specs.declared.store_file.SystemStore.{SystemStore}
use Rattle.site_merge.specs.{AskForSites, NamesSites, SitesEnd, site_line, status_number as site_number}
use Rattle.site_merge.specs.declared.status.SiteStatus.{SiteStatus}
use Rattle.hhh_engine.specs.{AskForCommand, Command, NamesPaths, PathTexts, RunEnds, status_line, status_number}
use Rattle.run_status.specs.declared.status.Status.{Status}
use Rattle.hhh.specs.Ending.{TellsEnding}
use Rattle.hhh.specs.Rules.{program_rules}
use Rattle.hhh.specs.Streams.{streams_of}
use Rattle.hhh.specs.declared.runs.Streams.{Streams}

-- the paths that the words name, or empty ones where they ask for no command
pub record ArePathsOf (words : List (List ℕ)) (paths : PathTexts) : Type 0 where
  pub named : (command : Command) → AskForCommand words command → NamesPaths words paths
  pub unnamed : ((command : Command) → AskForCommand words command → ⊥)
      → (paths.capture ≡ []) × (paths.report ≡ []) × (paths.store ≡ [])

-- the streams at these paths, none of which was used
pub record AreUnusedStreams {I O F W G : Type 0} (paths : PathTexts)
    (streams : Streams (StdSource (Input I (LateFile O F))) (StdSource (Input I (LateFile O F))) (StdSink W) (FileDisk SystemStore G))
    : Type 0 where
  pub capture : IsUnusedInput paths.capture streams.capture
  pub text : IsUnusedInput paths.report streams.text
  pub output : IsUnusedSink streams.output
  pub store : IsUnusedDisk paths.store streams.store

-- a command was run over the unused streams at the paths of its words, by the program's rules, and ended with this status
pub record RunsAtPaths {I O F W G : Type 0} (source : SourceOf (StdSource (Input I (LateFile O F))))
    (sink : SinkOf (StdSink W)) (disk : DiskOf (FileDisk SystemStore G)) (words : List (List ℕ)) (status : Status) : Type 0 where
  pub paths : PathTexts
  pub begun : Streams (StdSource (Input I (LateFile O F))) (StdSource (Input I (LateFile O F))) (StdSink W) (FileDisk SystemStore G)
  pub ended : Streams (StdSource (Input I (LateFile O F))) (StdSource (Input I (LateFile O F))) (StdSink W) (FileDisk SystemStore G)
  pub of_words : ArePathsOf words paths
  pub unused : AreUnusedStreams paths begun
  pub ends : RunEnds source source sink disk (streams_of begun) (streams_of ended) words program_rules status

-- such a run ended with the exit code of its status, and told of it on standard error, which was `old` and is `new`
pub record EndsAtPaths {I O F W G : Type 0} (source : SourceOf (StdSource (Input I (LateFile O F))))
    (sink : SinkOf (StdSink W)) (disk : DiskOf (FileDisk SystemStore G)) (words : List (List ℕ)) (old new : Option (List ℕ))
    (code : ExitCode) : Type 0 where
  pub status : Status
  pub runs : RunsAtPaths source sink disk words status
  pub number : exit_status code ≡ status_number status
  pub told : TellsEnding old new (status_number status) (status_line status)

-- the stores that the words name, or none where they ask for no report
pub record AreStoresOf (words paths : List (List ℕ)) : Type 0 where
  pub named : (settings : StoreSettings) (phi : ℕ) (names : List (List ℕ)) → AskForSites words settings phi names → paths ≡ names
  pub unnamed : ((names : List (List ℕ)) → NamesSites words names → ⊥) → paths ≡ []

-- a report over sites was run over the unused files of the stores of its words, and ended with this status
pub record RunsAtStores {W G : Type 0} (disk : DiskOf (FileDisk SystemStore G)) (sink : SinkOf (StdSink W))
    (words : List (List ℕ)) (status : SiteStatus) : Type 0 where
  pub paths : List (List ℕ)
  pub begun : List (FileDisk SystemStore G)
  pub ended : List (FileDisk SystemStore G)
  pub before : StdSink W
  pub after : StdSink W
  pub of_words : AreStoresOf words paths
  pub unused_stores : AllZip IsUnusedDisk paths begun
  pub unused_output : IsUnusedSink before
  pub ends : SitesEnd disk sink words begun ended before after status

-- such a run ended with the exit code of its status, and told of it on standard error, which was `old` and is `new`
pub record EndsAtStores {W G : Type 0} (disk : DiskOf (FileDisk SystemStore G)) (sink : SinkOf (StdSink W))
    (words : List (List ℕ)) (old new : Option (List ℕ)) (code : ExitCode) : Type 0 where
  pub status : SiteStatus
  pub runs : RunsAtStores disk sink words status
  pub number : exit_status code ≡ site_number status
  pub told : TellsEnding old new (site_number status) (site_line status)
