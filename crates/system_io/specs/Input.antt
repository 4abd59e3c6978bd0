-- The source of the bytes of an input, by its path, and its remaining bytes.
use Rattle.std.specs.Prelude.{ℕ, ◌≡◌, ◌≢◌, List, [], codes, Option, Some, None}
use Rattle.system_io.specs.declared.input.Input.{Input}
use Rattle.system_io.specs.declared.input.Input.TheVariants.{Nothing, Standard, File}
use Rattle.system_io.specs.declared.input.LateFile.{LateFile}

-- the path `-` means standard input, the empty path no input, and any other path the file at that path, which isn't
-- opened yet
abbrev pub IsInput : {S O F : Type 0} → List ℕ → Input S (LateFile O F) → Type 0
IsInput path Nothing = path ≡ []
IsInput path (Standard stdin) = path ≡ codes "-"
IsInput path (File file) = (path ≢ codes "-") × (path ≢ []) × (file.path ≡ path) × (file.opened ≡ None)

-- the remaining bytes of an input: those of its stream or of its file, or none
abbrev pub input_remaining : {S F : Type 0} → (S → Option (List ℕ)) → (F → Option (List ℕ)) → Input S F → Option (List ℕ)
input_remaining of_stream of_file Nothing = Some []
input_remaining of_stream of_file (Standard stream) = of_stream stream
input_remaining of_stream of_file (File file) = of_file file

-- the remaining bytes of a file that is opened late: those of the opened file, or else the contents of the file at its path
abbrev pub late_remaining : {O F : Type 0} → (O → List ℕ → Option (List ℕ)) → (F → Option (List ℕ)) → LateFile O F → Option (List ℕ)
late_remaining contents remaining file =
    elim file.opened [ None ↦ contents file.opener file.path | Some opened ↦ remaining opened ]
