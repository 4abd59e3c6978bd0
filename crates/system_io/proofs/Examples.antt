-- Worked examples of where an input comes from, and of what a call leaves of a store's file.
use Rattle.std.proofs.Common.{◌≡◌, ℕ, List, [], Option, Some, None, refl, ap, codes}
use Rattle.std.proofs.lemmas.Bool.{false≢true}
use Rattle.std.specs.Str.{bytes_eq}
use Rattle.system_io.specs.declared.input.Input.{Input}
use Rattle.system_io.specs.declared.input.Input.TheVariants.{Nothing, Standard, File}
use Rattle.system_io.specs.declared.input.LateFile.{LateFile}
use Rattle.system_io.specs.Input.{IsInput}
use Rattle.system_io.specs.StoreFile.{StaysOpen}

-- the name of a file
abbrev name : List ℕ
name = codes "a.pcap"

-- a stream and an opener that are numbers
abbrev numbered_input : Type 0
numbered_input = Input ℕ (LateFile ℕ ℕ)

-- a command without a capture reads nothing
pub nothing_is_read_without_a_name : let none : numbered_input = Nothing in IsInput [] none
nothing_is_read_without_a_name = refl

pub name_is_that_of_a_file : (file : LateFile ℕ ℕ) → file.path ≡ name → file.opened ≡ None → IsInput {S = ℕ} name (File file)
name_is_that_of_a_file file same unopened = (
  λ is. false≢true (ap (λ text. bytes_eq text (codes "-")) is),
  λ is. false≢true (ap (λ text. bytes_eq text []) is),
  same,
  unopened,
)

pub hyphen_is_the_standard_input : (stdin : ℕ) → let input : numbered_input = Standard stdin in IsInput (codes "-") input
hyphen_is_the_standard_input stdin = refl

pub hyphen_is_no_file : (file : LateFile ℕ ℕ) → IsInput {S = ℕ} (codes "-") (File file) → ⊥
hyphen_is_no_file file is_file = is_file.0 refl

-- a file that is open, and another one
abbrev open_file : Option ℕ
open_file = Some 1

abbrev other_file : Option ℕ
other_file = Some 2

pub open_file_stays : StaysOpen open_file open_file
open_file_stays = refl

pub open_file_is_not_exchanged : StaysOpen open_file other_file → ⊥
open_file_is_not_exchanged same = cc same

pub open_file_is_not_closed : StaysOpen open_file None → ⊥
open_file_is_not_closed same = cc same

-- before its first call nothing is open
pub first_call_opens_a_file : StaysOpen None open_file
first_call_opens_a_file = tt
