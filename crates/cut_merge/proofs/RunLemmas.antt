-- What a search finds in a run, and that sorting keeps the interval of each key.
use Rattle.std.proofs.Common.{◌≡◌, ◌≢◌, ℕ, ◌+◌, ◌≤◌, ◌<◌, eqb, cond, Bool, true, false, List, [], ◌∷◌, ◌++◌, map}
use Rattle.std.proofs.Common.{get_or, length, take, slice_get}
use Rattle.std.proofs.Common.{Option, None, Some, Contains, refl, sym, ap, ◌∙◌, subst, arith, ⊎_elim, inl, inr, ◌⊎◌}
use Rattle.std.specs.List.{find}
use Rattle.std.specs.List.Sorted.{IsNonDecreasingBy, IsPermutation, IsPartitionPoint}
use Rattle.std.specs.Option.{option_map}
use Rattle.std.specs.Ordering.{nat_cmp, ordering_index}
use Rattle.std.specs.declared.cmp.Ordering.TheVariants.{Less, Equal, Greater}
use Rattle.std.proofs.lemmas.Bool.{eqb-true, eq-eqb, ne_eqb, false≢true, cases_lt}
use Rattle.std.proofs.lemmas.Bool.Decides.{nat_tests}
use Rattle.std.proofs.lemmas.Cmp.{ranked}
use Rattle.std.proofs.lemmas.Option.{none-some, get_or_from_slice_get, slice_get_within}
use Rattle.std.proofs.lemmas.List.{take_more, map-append}
use Rattle.std.proofs.lemmas.List.Elements.{Contains-get_or}
use Rattle.std.proofs.lemmas.List.Sorted.{Contains-permutation, IsPermutation-sym}
use Rattle.prefix_lattice.proofs.ListLemmas.{Contains-list_head, Contains-list_tail, Contains-list_cons}
use Rattle.prefix_lattice.proofs.ListLemmas.{Contains-empty_list}
use Rattle.space_saving.specs.{table_entry, KeysApart}
use Rattle.space_saving.specs.declared.entry.Entry.{Entry}
use Rattle.cut_merge.specs.declared.key_interval.KeyInterval.{KeyInterval}
use Rattle.cut_merge.specs.Run.{IsRun, interval_of_entry}

-- whether an interval has this key
abbrev pub run_has_key : ℕ → KeyInterval → Bool
run_has_key key interval = eqb interval.key key

some_in_run_is_injective : {X : Type 0} (x y : X) → ◌≡◌ {A = Option X} (Some x) (Some y) → x ≡ y
some_in_run_is_injective x y is = cc

-- what a test finds is in the list and passes it
pub find-passes_in_run : {X : Type 0} (test : X → Bool) (xs : List X) (x : X) → find test xs ≡ Some x
    → Contains xs x × (test x ≡ true)
find-passes_in_run test [] x is = absurd (none-some x is)
find-passes_in_run test (y ∷ ys) x is =
    by (test y) refl is (λ same. find-passes_in_run test ys x same)
  where
    by : (b : Bool) → test y ≡ b → cond b (Some y) (find test ys) ≡ Some x
        → (find test ys ≡ Some x → Contains ys x × (test x ≡ true)) → Contains (y ∷ ys) x × (test x ≡ true)
    by true passes same later =
        let one : y ≡ x = some_in_run_is_injective y x same in
        (subst (Contains (y ∷ ys)) one (Contains-list_head y ys), subst (λ z. test z ≡ true) one passes)
    by false _ same later = (Contains-list_tail y ys x (later same).0, (later same).1)

-- where it finds nothing, nothing passes
pub find-nothing_in_run : {X : Type 0} (test : X → Bool) (xs : List X) (x : X) → find test xs ≡ None → Contains xs x
    → test x ≡ false
find-nothing_in_run test [] x is there = absurd (Contains-empty_list x there)
find-nothing_in_run test (y ∷ ys) x is there =
    by (test y) refl is (Contains-list_cons y ys x there) (λ same later. find-nothing_in_run test ys x same later)
  where
    by : (b : Bool) → test y ≡ b → cond b (Some y) (find test ys) ≡ None → (y ≡ x) ⊎ Contains ys x
        → (find test ys ≡ None → Contains ys x → test x ≡ false) → test x ≡ false
    by true _ same _ rest = absurd (none-some y (sym same))
    by false fails _ (inl one) rest = subst (λ z. test z ≡ false) one fails
    by false _ same (inr later) rest = rest same later

-- it finds an element that passes where no other does
pub find-only_in_run : {X : Type 0} (test : X → Bool) (xs : List X) (x : X) → Contains xs x → test x ≡ true
    → ((y : X) → Contains xs y → test y ≡ true → y ≡ x) → find test xs ≡ Some x
find-only_in_run test xs x there passes only =
    by (find test xs) refl
  where
    by : (found : Option _) → find test xs ≡ found → found ≡ Some x
    by None is = absurd (false≢true (sym (find-nothing_in_run test xs x is there) ∙ passes))
    by (Some y) is = let of = find-passes_in_run test xs y is in ap Some (only y of.0 of.1)

-- and nothing where none passes
pub find-none_in_run : {X : Type 0} (test : X → Bool) (xs : List X) → ((y : X) → Contains xs y → test y ≡ false)
    → find test xs ≡ None
find-none_in_run test xs fails =
    by (find test xs) refl
  where
    by : (found : Option _) → find test xs ≡ found → found ≡ None
    by None is = refl
    by (Some y) is =
        let of = find-passes_in_run test xs y is in absurd (false≢true (sym (fails y of.0) ∙ of.1))

-- a binary search that ends at an interval of the key finds its interval
pub run_search_hits : (intervals : List KeyInterval) (key place : ℕ) (d : KeyInterval) → IsRun intervals
    → place < length intervals
    → ((e : KeyInterval) → nat_cmp (get_or intervals place e).key key ≡ Equal)
    → Some (get_or intervals place d) ≡ find (run_has_key key) intervals
run_search_hits intervals key place d is_run within at =
    let interval = get_or intervals place d in
    let there = Contains-get_or intervals place d within in
    let same : interval.key ≡ key = ranked interval.key key Equal (sym (at d)) in
    sym (find-only_in_run (run_has_key key) intervals interval there (eq-eqb interval.key key same)
    (λ other among passes. is_run.single other interval among there (eqb-true other.key key passes ∙ sym same)))

-- and one that ends between lower and higher keys finds none
pub run_search_misses : (intervals : List KeyInterval) (key place : ℕ) → IsRun intervals
    → (IsNonDecreasingBy (λ (i : KeyInterval). ordering_index (nat_cmp i.key key)) intervals
    → IsPartitionPoint (λ (i : KeyInterval). nat_cmp i.key key ≡ Less) (λ (i : KeyInterval). nat_cmp i.key key ≡ Greater)
    intervals place)
    → None ≡ find (run_has_key key) intervals
run_search_misses intervals key place is_run parts =
    let parted =
    parts (λ i j d before within. higher (get_or intervals i d).key (get_or intervals j d).key
    (is_run.rising i j d before within)) in
    sym (find-none_in_run (run_has_key key) intervals (λ other among.
    ne_eqb other.key key (differs parted other among)))
  where
    higher : (a b : ℕ) → a ≤ b → ordering_index (nat_cmp a key) ≤ ordering_index (nat_cmp b key)
    higher a b le = grind (arith, nat_tests)

    cases : (at : ℕ) → (at < place) ⊎ (place ≤ at)
    cases at = cases_lt at place

    differs : IsPartitionPoint (λ (i : KeyInterval). nat_cmp i.key key ≡ Less)
        (λ (i : KeyInterval). nat_cmp i.key key ≡ Greater) intervals place
        → (other : KeyInterval) → Contains intervals other → other.key ≢ key
    differs parted other (at, within, is) same =
        ⊎_elim
        (λ (below : at < place).
        let less : other.key < key = ranked other.key key Less
        (sym (subst (λ (i : KeyInterval). nat_cmp i.key key ≡ Less) is (parted.0 at other (omega arith) below))) in
        omega (arith, less, same))
        (λ (above : place ≤ at).
        let more : key < other.key = ranked other.key key Greater
        (sym (subst (λ (i : KeyInterval). nat_cmp i.key key ≡ Greater) is (parted.1 at other above within))) in
        omega (arith, more, same))
        (cases at)

-- an entry that is in a table is the entry of its key
run_entry_is_its_own : (entries : List Entry) (entry : Entry) → KeysApart entries → Contains entries entry
    → table_entry entry.key entries ≡ Some entry
run_entry_is_its_own [] entry apart there = absurd (Contains-empty_list entry there)
run_entry_is_its_own (f ∷ fs) entry apart there =
    by (eqb f.key entry.key) refl (Contains-list_cons f fs entry there) (λ later. run_entry_is_its_own fs entry apart.1 later)
  where
    by : (b : Bool) → eqb f.key entry.key ≡ b → (f ≡ entry) ⊎ Contains fs entry
        → (Contains fs entry → table_entry entry.key fs ≡ Some entry)
        → cond b (Some f) (table_entry entry.key fs) ≡ Some entry
    by true same (inl one) rest = ap Some one
    by true same (inr later) rest =
        absurd (none-some entry
        (sym apart.0 ∙ ap (λ key. table_entry key fs) (eqb-true f.key entry.key same) ∙ rest later))
    by false differs (inl one) rest =
        absurd (false≢true (sym differs ∙ eq-eqb f.key entry.key (ap (λ (e : Entry). e.key) one)))
    by false _ (inr later) rest = rest later

-- the entry of a key is in the table, and has the key
run_entry_is_found : (entries : List Entry) (key : ℕ) (entry : Entry) → table_entry key entries ≡ Some entry
    → Contains entries entry × (entry.key ≡ key)
run_entry_is_found [] key entry is = absurd (none-some entry is)
run_entry_is_found (f ∷ fs) key entry is =
    by (eqb f.key key) refl is (λ later. run_entry_is_found fs key entry later)
  where
    by : (b : Bool) → eqb f.key key ≡ b → cond b (Some f) (table_entry key fs) ≡ Some entry
        → (table_entry key fs ≡ Some entry → Contains fs entry × (entry.key ≡ key))
        → Contains (f ∷ fs) entry × (entry.key ≡ key)
    by true same found rest =
        let one : f ≡ entry = some_in_run_is_injective f entry found in
        (subst (Contains (f ∷ fs)) one (Contains-list_head f fs), subst (λ (e : Entry). e.key ≡ key) one (eqb-true f.key key same))
    by false _ found rest = (Contains-list_tail f fs entry (rest found).0, (rest found).1)

-- the interval of an entry is among those of all entries
run_interval_is_listed : (entries : List Entry) (entry : Entry) → Contains entries entry
    → Contains (map interval_of_entry entries) (interval_of_entry entry)
run_interval_is_listed [] entry there = absurd (Contains-empty_list entry there)
run_interval_is_listed (f ∷ fs) entry there =
    by (Contains-list_cons f fs entry there) (λ later. run_interval_is_listed fs entry later)
  where
    by : (f ≡ entry) ⊎ Contains fs entry
        → (Contains fs entry → Contains (map interval_of_entry fs) (interval_of_entry entry))
        → Contains (interval_of_entry f ∷ map interval_of_entry fs) (interval_of_entry entry)
    by (inl one) rest =
        subst (Contains (interval_of_entry f ∷ map interval_of_entry fs)) (ap interval_of_entry one)
        (Contains-list_head (interval_of_entry f) (map interval_of_entry fs))
    by (inr later) rest =
        Contains-list_tail (interval_of_entry f) (map interval_of_entry fs) (interval_of_entry entry) (rest later)

-- and each of these is the interval of an entry
run_interval_has_source : (entries : List Entry) (interval : KeyInterval) → Contains (map interval_of_entry entries) interval
    → (entry : Entry) × (Contains entries entry) × (interval_of_entry entry ≡ interval)
run_interval_has_source [] interval there = absurd (Contains-empty_list interval there)
run_interval_has_source (f ∷ fs) interval there =
    by (Contains-list_cons (interval_of_entry f) (map interval_of_entry fs) interval there)
    (λ later. run_interval_has_source fs interval later)
  where
    by : (interval_of_entry f ≡ interval) ⊎ Contains (map interval_of_entry fs) interval
        → (Contains (map interval_of_entry fs) interval
        → (entry : Entry) × (Contains fs entry) × (interval_of_entry entry ≡ interval))
        → (entry : Entry) × (Contains (f ∷ fs) entry) × (interval_of_entry entry ≡ interval)
    by (inl one) rest = (f, Contains-list_head f fs, one)
    by (inr later) rest =
        let found = rest later in (found.0, Contains-list_tail f fs found.0 found.1, found.2)

-- sorted, the intervals of a table's entries are a run
pub sorted_entries_are_run : (entries : List Entry) (sorted : List KeyInterval) → KeysApart entries
    → IsPermutation (map interval_of_entry entries) sorted
    → IsNonDecreasingBy (λ (i : KeyInterval). i.key) sorted → IsRun sorted
sorted_entries_are_run entries sorted apart moved rising = record {
  rising = rising;
  single = λ interval other there among same.
      let back = IsPermutation-sym (map interval_of_entry entries) sorted moved in
      let one =
      run_interval_has_source entries interval
      (Contains-permutation sorted (map interval_of_entry entries) interval back there) in
      let two =
      run_interval_has_source entries other (Contains-permutation sorted (map interval_of_entry entries) other back among) in
      let keys : one.0.key ≡ two.0.key =
      ap (λ (i : KeyInterval). i.key) one.2 ∙ same ∙ sym (ap (λ (i : KeyInterval). i.key) two.2) in
      let entry : one.0 ≡ two.0 =
      some_in_run_is_injective one.0 two.0
      (sym (run_entry_is_its_own entries one.0 apart one.1) ∙ ap (λ key. table_entry key entries) keys
      ∙ run_entry_is_its_own entries two.0 apart two.1) in
      sym one.2 ∙ ap interval_of_entry entry ∙ two.2;
}

-- and give each key the interval of its entry
pub sorted_run_entry : (entries : List Entry) (sorted : List KeyInterval) (key : ℕ) → KeysApart entries
    → IsPermutation (map interval_of_entry entries) sorted
    → find (run_has_key key) sorted ≡ option_map interval_of_entry (table_entry key entries)
sorted_run_entry entries sorted key apart moved =
    by (find (run_has_key key) sorted) refl
  where
    missed : find (run_has_key key) sorted ≡ None → (found : Option Entry) → table_entry key entries ≡ found
        → None ≡ option_map interval_of_entry found
    missed is None _ = refl
    missed is (Some entry) at =
        let of = run_entry_is_found entries key entry at in
        let there = Contains-permutation (map interval_of_entry entries) sorted (interval_of_entry entry) moved
        (run_interval_is_listed entries entry of.0) in
        absurd (false≢true (sym (find-nothing_in_run (run_has_key key) sorted (interval_of_entry entry) is there)
        ∙ eq-eqb entry.key key of.1))

    by : (found : Option KeyInterval) → find (run_has_key key) sorted ≡ found
        → found ≡ option_map interval_of_entry (table_entry key entries)
    by None is = missed is (table_entry key entries) refl
    by (Some interval) is =
        let of = find-passes_in_run (run_has_key key) sorted interval is in
        let one =
        run_interval_has_source entries interval
        (Contains-permutation sorted (map interval_of_entry entries) interval
        (IsPermutation-sym (map interval_of_entry entries) sorted moved) of.0) in
        let same : one.0.key ≡ key =
        ap (λ (i : KeyInterval). i.key) one.2 ∙ eqb-true interval.key key of.1 in
        sym (ap (option_map interval_of_entry)
        (sym (ap (λ k. table_entry k entries) same) ∙ run_entry_is_its_own entries one.0 apart one.1) ∙ ap Some one.2)

-- one more entry
pub run_intervals_grow : (entries : List Entry) (place : ℕ) (entry : Entry) → slice_get entries place ≡ Some entry
    → map interval_of_entry (take (place + 1) entries)
    ≡ map interval_of_entry (take place entries) ++ interval_of_entry entry ∷ []
run_intervals_grow entries place entry at =
    let within = slice_get_within entries place entry at in
    let read : get_or entries place entry ≡ entry = get_or_from_slice_get entries place entry entry at in
    ap (map interval_of_entry) (take_more entries place entry within)
    ∙ map-append interval_of_entry (take place entries) (get_or entries place entry ∷ [])
    ∙ ap (λ e. map interval_of_entry (take place entries) ++ interval_of_entry e ∷ []) read
