-- The keys of an index: what a search for one says, and keys that are new.
use Rattle.std.proofs.Common.{◌≡◌, ◌≢◌, ◌+◌, ◌*◌, ◌<◌, ◌≤◌, ℕ, List, [], ◌∷◌, ◌++◌, length, get_or, set, replicate, refl, sym}
use Rattle.std.proofs.Common.{subst, ◌∙◌, arith, length-append}
use Rattle.std.proofs.Math.ListN.{length-set}
use Rattle.std.specs.Prelude.{All}
use Rattle.std.proofs.lemmas.Grind.{get_or_default_zero}
use Rattle.key_index.specs.Entries.{KeyEntries, AreEntered, LeadBelow}
use Rattle.key_index.specs.KeyIndex.{HoldsKeys, HoldsKeysButOne}
use Rattle.key_index.proofs.EntryLemmas.{entry_parts, entry_of_nothing, entry_zeros_lead, entry_of_pushed}
use Rattle.key_index.proofs.EntryLemmas.{entry_of_replaced}

-- a key that no place has is none of the keys
pub key_missing : (keys : List ℕ) (key : ℕ) → ((place : ℕ) → place < length keys → get_or keys place 0 ≢ key) → All (λ other. other ≢ key) keys
key_missing keys key missing = λ place default inside.
    λ (same : get_or keys place default ≡ key). missing place inside (sym (get_or_default_zero keys place default inside) ∙ same)

-- one key more
pub key_of_pushed : (keys : List ℕ) (key : ℕ) (index : KeyEntries) → length keys < index.room → HoldsKeys keys index
    → HoldsKeysButOne (length keys) (keys ++ key ∷ []) index
key_of_pushed keys key index few holds =
    let long : length (keys ++ key ∷ []) ≡ length keys + 1 = length-append keys (key ∷ []) in
    record {
      few = omega (arith, long);
      leads = record {
        marks = λ index default within. omega (arith, long, holds.leads.marks index default within);
        places = λ index default within. omega (arith, long, holds.leads.places index default within);
      };
      entered = subst (λ n. AreEntered n (length keys) (keys ++ key ∷ []) index) (sym long)
          (entry_of_pushed (length keys) index.room key keys index.links index.backs index.listed index.turned refl holds.entered);
    }

-- another key at a place that isn't entered
pub key_of_replaced : (place key : ℕ) (keys : List ℕ) (index : KeyEntries) → length keys ≤ index.room
    → LeadBelow (length keys) index.links index.listed → AreEntered (length keys) place keys index → HoldsKeysButOne place (set keys place key) index
key_of_replaced place key keys index few leads entered =
    let same : length keys ≡ length (set keys place key) = simp length-set in
    record {
      few = omega (arith, same);
      leads = subst (λ n. LeadBelow n index.links index.listed) same leads;
      entered = subst (λ n. AreEntered n place (set keys place key) index) same
          (entry_of_replaced (length keys) place index.room key keys index.links index.backs index.listed index.turned entered);
    }

-- no keys
pub key_of_nothing : (room : ℕ) (turned : List ℕ)
    → HoldsKeys [] (entry_parts room (replicate (5 * room) 0) (replicate (room + 1) 0) turned [])
key_of_nothing room turned = record {
  few = omega arith;
  leads = entry_zeros_lead 0 (5 * room) 0 refl;
  entered = entry_of_nothing room [] turned;
}
