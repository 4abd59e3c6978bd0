-- A store that was just made.
use Rattle.std.proofs.Common.{◌≡◌, ◌∙◌, ℕ, List, None}
use Rattle.std.proofs.Common.{sym, ap, subst}
use Rattle.slot_disk.specs.{IsStoreOfKnown, closed_known_slots}
use Rattle.checkpoint.specs.declared.settings.StoreSettings.{StoreSettings}
use Rattle.checkpoint.specs.{FormatIsEmpty, StoreOpensTo}
use Rattle.checkpoint.specs.{header_bytes, written_header}

-- it opens to nothing, whatever a crash leaves
pub formatted_store_is_empty : FormatIsEmpty → (settings asked : StoreSettings) (header bytes image : List ℕ)
    (possible : List ℕ → Type 0) → asked ≡ settings → header ≡ header_bytes (written_header asked)
    → IsStoreOfKnown bytes possible (closed_known_slots header) → possible image → StoreOpensTo (written_header settings) image None
formatted_store_is_empty empty settings asked header bytes image possible are is store now =
    subst (λ i. StoreOpensTo (written_header settings) i None) (sym (store.only image now))
    (empty settings bytes store.long
    (sym store.slots_are ∙ ap closed_known_slots is ∙ ap (λ s. closed_known_slots (header_bytes (written_header s))) are))
