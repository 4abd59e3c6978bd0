-- What a command reads.
use Rattle.std.specs.Prelude.{⊤, ℕ, ◌≡◌, ◌≤◌, Bool, true, false, List, length, Option, Some, IfSome}
use Rattle.std.specs.Io.KnownBytes.{IsAtEnd}
use Rattle.prefix_lattice.specs.{RecordValue}
use Rattle.frame_records.specs.declared.records.Records.{Records}
use Rattle.checkpoint.specs.{IsStoreOf, StoreOpensTo, SavedValue, store_sequence, stored_header}
use Rattle.checkpoint.specs.declared.settings.StoreSettings.{StoreSettings}
use Rattle.recovery.specs.{greatest_opened}
use Rattle.report_text.specs.{IsSessionText, longest_session}
use Rattle.report_text.specs.declared.session.Session.{Session}
use Rattle.command_words.specs.{AskForCommand}
use Rattle.command_words.specs.declared.command.Command.{Command}
use Rattle.command_words.specs.declared.command.Command.TheVariants.{Weigh, Report, Format, Audit, Watch, Make, Demo}
use Rattle.command_words.specs.declared.settings.Settings.{Settings}
use Rattle.report_session.specs.{settings_of_store}
use Rattle.dealt_capture.specs.{AreDealtRecords, DealingRules}
use Rattle.dealt_capture.specs.{IsCaptureFile}
use Rattle.prefix_lattice.specs.declared.grain.Grain.{Grain}

-- the bytes of the inputs when a command began, where they are known: the capture, the text of a session, and the disk of
-- the store; and the bytes of the first two that remain unread
pub record InputBytes : Type 0 where
  pub capture : Option (List ℕ)
  pub capture_left : Option (List ℕ)
  pub text : Option (List ℕ)
  pub text_left : Option (List ℕ)
  pub store : Option (List ℕ)

-- the inputs from their five parts: the bytes of the capture, those of them that remain, the same two of the text, and the
-- bytes of the disk
abbrev pub inputs : (capture capture_left text text_left store : Option (List ℕ)) → InputBytes
inputs capture capture_left text text_left store = record {
  capture = capture;
  capture_left = capture_left;
  text = text;
  text_left = text_left;
  store = store;
}

-- this command reads a capture
abbrev pub UsesCapture : Command → Type 0
UsesCapture (Weigh prefix settings) = ⊤
UsesCapture (Report settings) = ⊤
UsesCapture (Format settings) = ⊥
UsesCapture (Audit settings) = ⊤
UsesCapture (Watch rule grain) = ⊥
UsesCapture (Make seed frames) = ⊥
UsesCapture (Demo seed frames settings) = ⊥

-- whether a command takes the front of a capture that ends inside a frame
abbrev pub takes_front : Command → Bool
takes_front (Weigh prefix settings) = settings.front
takes_front (Report settings) = settings.front
takes_front (Format settings) = false
takes_front (Audit settings) = settings.front
takes_front (Watch rule grain) = false
takes_front (Make seed frames) = false
takes_front (Demo seed frames settings) = false

-- this command reads the text of a session
abbrev pub UsesSession : Command → Type 0
UsesSession (Weigh prefix settings) = ⊥
UsesSession (Report settings) = ⊥
UsesSession (Format settings) = ⊥
UsesSession (Audit settings) = ⊤
UsesSession (Watch rule grain) = ⊤
UsesSession (Make seed frames) = ⊥
UsesSession (Demo seed frames settings) = ⊥

-- this command uses the disk of a store
abbrev pub UsesStore : Command → Type 0
UsesStore (Weigh prefix settings) = ⊥
UsesStore (Report settings) = settings.store ≡ true
UsesStore (Format settings) = ⊤
UsesStore (Audit settings) = ⊥
UsesStore (Watch rule grain) = ⊥
UsesStore (Make seed frames) = ⊥
UsesStore (Demo seed frames settings) = ⊥

-- this command uses the disk of a store if its settings name one
abbrev pub MayUseStore : Command → Type 0
MayUseStore (Weigh prefix settings) = ⊥
MayUseStore (Report settings) = ⊤
MayUseStore (Format settings) = ⊤
MayUseStore (Audit settings) = ⊥
MayUseStore (Watch rule grain) = ⊥
MayUseStore (Make seed frames) = ⊥
MayUseStore (Demo seed frames settings) = ⊥

-- what a command reads was read to its end
abbrev pub WereRead : Command → InputBytes → Type 0
WereRead (Weigh prefix settings) read = IsAtEnd read.capture_left
WereRead (Report settings) read = IsAtEnd read.capture_left
WereRead (Format settings) read = ⊤
WereRead (Audit settings) read = IsAtEnd read.capture_left × IsAtEnd read.text_left
WereRead (Watch rule grain) read = IsAtEnd read.text_left
WereRead (Make seed frames) read = ⊤
WereRead (Demo seed frames settings) read = ⊤

-- what holds of the capture and the text of an audit, where their bytes are known; the capture is one in any case
abbrev pub HoldsOfAudit : Settings → InputBytes → (List ℕ → List ℕ → Type 0) → Type 0
HoldsOfAudit settings read Holds = IfSome read.capture (λ file. IsCaptureFile settings.front file × IfSome read.text (Holds file))

-- what a command reads was accepted: its capture is one, or the front of one that may be taken, where its bytes are known
abbrev pub WereAccepted : Command → InputBytes → Type 0
WereAccepted (Weigh prefix settings) read = IfSome read.capture (IsCaptureFile settings.front)
WereAccepted (Report settings) read = IfSome read.capture (IsCaptureFile settings.front)
WereAccepted (Format settings) read = ⊤
WereAccepted (Audit settings) read = IfSome read.capture (IsCaptureFile settings.front)
WereAccepted (Watch rule grain) read = ⊤
WereAccepted (Make seed frames) read = ⊤
WereAccepted (Demo seed frames settings) read = ⊤

-- this command reads the text of a session, after its capture, if it reads one, was accepted
abbrev pub ReadsSession : InputBytes → Command → Type 0
ReadsSession read command = UsesSession command × WereAccepted command read

-- the bytes of a source are known, and they are a capture, or the front of one where that is taken
pub record HasCapture (front : Bool) (bytes : Option (List ℕ)) : Type 0 where
  pub file : List ℕ
  pub told : bytes ≡ Some file
  pub capture : IsCaptureFile front file

-- the bytes of a text are known, and they are those of a session by this grain, and not too many
pub record HasSession (grain : Grain) (bytes : Option (List ℕ)) : Type 0 where
  pub text : List ℕ
  pub told : bytes ≡ Some text
  pub session : Session
  pub is_session : IsSessionText grain text session
  pub not_long : length text ≤ longest_session

-- the bytes are a sound store with these settings that belongs to these dealt lists, and its sequence leaves room for the
-- saves of a run
abbrev pub IsInputStore : StoreSettings → List (List RecordValue) → List ℕ → Type 0
IsInputStore settings lists image =
    (opened : Option SavedValue) × StoreOpensTo (stored_header settings image) image opened
    × IsStoreOf (stored_header settings image) lists opened
    × (store_sequence opened ≤ greatest_opened)

-- the bytes of the disk are known, and they are a store of the records of the capture, however these may be dealt
pub record HasStore (settings : Settings) (rules : DealingRules) (read : InputBytes) : Type 0 where
  pub image : List ℕ
  pub told : read.store ≡ Some image
  pub belongs : (file : List ℕ) (records : Records) (lists : List (List RecordValue)) → read.capture ≡ Some file
      → AreDealtRecords settings rules file records lists → IsInputStore (settings_of_store settings) lists image

-- what a command reads is known, and each input is in its format
abbrev pub CanBeAnswered : DealingRules → Command → InputBytes → Type 0
CanBeAnswered rules (Weigh prefix settings) read = HasCapture settings.front read.capture
CanBeAnswered rules (Report settings) read =
    HasCapture settings.front read.capture × (settings.store ≡ true → HasStore settings rules read)
CanBeAnswered rules (Format settings) read = ⊤
CanBeAnswered rules (Audit settings) read = HasCapture settings.front read.capture × HasSession settings.grain read.text
CanBeAnswered rules (Watch rule grain) read = HasSession grain read.text
CanBeAnswered rules (Make seed frames) read = ⊤
CanBeAnswered rules (Demo seed frames settings) read = ⊤

-- the arguments ask for a command that uses something
pub record CommandUses (Uses : Command → Type 0) (words : List (List ℕ)) : Type 0 where
  pub command : Command
  pub asked : AskForCommand words command
  pub uses : Uses command

-- the arguments ask for a command that doesn't use something
pub record CommandAvoids (Uses : Command → Type 0) (words : List (List ℕ)) : Type 0 where
  pub command : Command
  pub asked : AskForCommand words command
  pub unused : Uses command → ⊥
