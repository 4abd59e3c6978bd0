-- The keys of a table that are new, one entry after another.
use Rattle.std.proofs.Common.{◌≡◌, ℕ, ◌+◌, eqb, Bool, false, List, [], ◌∷◌, ◌++◌, map, take, fold, get_or}
use Rattle.std.proofs.Common.{slice_get, None, Some, is_some, sym, ap, ◌∙◌, if◌then◌else◌}
use Rattle.std.specs.List.{list_any}
use Rattle.std.proofs.lemmas.List.{take_more, map-append}
use Rattle.std.proofs.lemmas.List.Sums.{fold_push}
use Rattle.std.proofs.lemmas.Option.{get_or_from_slice_get, slice_get_within}
use Rattle.space_saving.specs.{table_entry}
use Rattle.space_saving.specs.declared.entry.Entry.{Entry}
use Rattle.cut_merge.specs.Merged.{keys_seen}
use Rattle.cut_merge.proofs.FirstSeenLemmas.{first_seen-any_after_others}
use Rattle.cut_merge.proofs.TableMergeLemmas.{table_merge_entry_among_keys}

-- the keys of these entries
abbrev possible_new_keys : List Entry → List ℕ
possible_new_keys entries = map (λ (e : Entry). e.key) entries

-- one more entry, whose key no earlier entry has: it is new where it was before the table
pub new_keys_after_entry : (entries : List Entry) (before now : List ℕ) (place : ℕ) (entry : Entry) (monitored : Bool)
    → now ≡ fold keys_seen before (possible_new_keys (take place entries))
    → slice_get entries place ≡ Some entry → table_entry entry.key (take place entries) ≡ None
    → list_any (λ other. eqb entry.key other) before ≡ monitored
    → (if monitored then now else now ++ entry.key ∷ []) ≡ fold keys_seen before (possible_new_keys (take (place + 1) entries))
new_keys_after_entry entries before now place entry monitored so_far at apart known =
    let within = slice_get_within entries place entry at in
    let read : get_or entries place entry ≡ entry = get_or_from_slice_get entries place entry entry at in
    let more : possible_new_keys (take (place + 1) entries) ≡ possible_new_keys (take place entries) ++ entry.key ∷ [] =
    ap possible_new_keys (take_more entries place entry within)
    ∙ map-append (λ (e : Entry). e.key) (take place entries) (get_or entries place entry ∷ [])
    ∙ ap (λ (e : Entry). possible_new_keys (take place entries) ++ e.key ∷ []) read in
    let new : list_any (λ other. eqb entry.key other) (possible_new_keys (take place entries)) ≡ false =
    sym (table_merge_entry_among_keys entry.key (take place entries)) ∙ ap is_some apart in
    let same : list_any (λ other. eqb entry.key other) now ≡ monitored =
    ap (list_any (λ other. eqb entry.key other)) so_far
    ∙ first_seen-any_after_others entry.key before (possible_new_keys (take place entries)) new ∙ known in
    ap (λ b. if b then now else now ++ entry.key ∷ []) (sym same)
    ∙ ap (λ keys. keys_seen keys entry.key) so_far
    ∙ sym (fold_push keys_seen before (possible_new_keys (take place entries)) entry.key)
    ∙ ap (fold keys_seen before) (sym more)
