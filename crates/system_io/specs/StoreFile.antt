-- A store's file: whether it stays open, and how many syncs of it have succeeded.
use Rattle.std.specs.Prelude.{ℕ, ◌≡◌, ◌+◌, Option, Some, None, ⊤}

-- where a file was open, it still is
abbrev pub StaysOpen : {F : Type 0} → Option F → Option F → Type 0
StaysOpen None now = ⊤
StaysOpen (Some file) now = now ≡ Some file

-- the number of syncs of a file is one more than before, where it was known
abbrev pub CountsSync : Option ℕ → Option ℕ → Type 0
CountsSync None now = ⊤
CountsSync (Some before) now = now ≡ Some (before + 1)

-- the number of syncs of a file is as before, where it was known
abbrev pub KeepsSyncs : Option ℕ → Option ℕ → Type 0
KeepsSyncs None now = ⊤
KeepsSyncs (Some before) now = now ≡ Some before

-- the number of syncs of a file that is opened late: that of the opened file, or else of the file that is yet to be opened
abbrev pub late_syncs : {O F : Type 0} → (O → Option ℕ) → (F → Option ℕ) → O → Option F → Option ℕ
late_syncs unopened of_file opener None = unopened opener
late_syncs unopened of_file opener (Some file) = of_file file
