-- The system's streams and files before a run uses them.
use Rattle.std.specs.Prelude.{ℕ, ◌≡◌, List, None}
use Rattle.system_io.specs.declared.file_disk.FileDisk.{FileDisk}
use Rattle.system_io.specs.declared.input.Input.{Input}
use Rattle.system_io.specs.declared.input.LateFile.{LateFile}
use Rattle.system_io.specs.declared.std_sink.StdSink.{StdSink}
use Rattle.system_io.specs.declared.std_source.StdSource.{StdSource}
use Rattle.system_io.specs.declared.store_file.SystemStore.{SystemStore}
use Rattle.system_io.specs.Input.{IsInput}

-- the source of the input at this path, which isn't opened yet; no call of it has failed
abbrev pub IsUnusedInput : {S O F : Type 0} → List ℕ → StdSource (Input S (LateFile O F)) → Type 0
IsUnusedInput path source = IsInput path source.reader × (source.faults ≡ 0)

-- no call of the sink has failed
abbrev pub IsUnusedSink : {W : Type 0} → StdSink W → Type 0
IsUnusedSink sink = sink.faults ≡ 0

-- the disk of the file at this path, which isn't opened yet; no call of it has failed
abbrev pub IsUnusedDisk : {F : Type 0} → List ℕ → FileDisk SystemStore F → Type 0
IsUnusedDisk path disk = (disk.opener.path ≡ path) × (disk.opened ≡ None) × (disk.faults ≡ 0)
