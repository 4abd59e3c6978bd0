-- Where places are entered, after one was entered or taken out.
use Rattle.std.proofs.Common.{◌≡◌, ◌≢◌, ℕ, ◌+◌, ◌-◌, ◌*◌, ◌^◌, ◌<◌, ◌≤◌, zero, suc, List, [], ◌∷◌, ◌++◌}
use Rattle.std.proofs.Common.{false, cond, eqb, ltb, length, get_or, replicate}
use Rattle.std.proofs.Common.{set, refl, sym, ap, ◌∙◌, subst, ⊎_elim, arith, get_or-set_same, get_or-set_other}
use Rattle.std.specs.List.{All, Contains}
use Rattle.std.proofs.lemmas.Bool.{cases_eq, cases_lt, cond-true, cond-false, eq-eqb, ne_eqb, lt-ltb, le-ltb}
use Rattle.std.proofs.lemmas.Bool.{eqb-true}
use Rattle.std.proofs.Math.ListN.{length-set, get_or-append}
use Rattle.std.proofs.lemmas.List.{get_or_past, get_or-replicate, length-replicate}
use Rattle.std.proofs.lemmas.Grind.{get_or_default_zero}
use Rattle.std.proofs.lemmas.Map.Keys.{IsDistinct-from_apart}
use Rattle.std.proofs.lemmas.Map.Steps.{length-le_from_distinct_below}
use Rattle.std.proofs.lemmas.Map.Views.{Contains-from_any}
use Rattle.key_index.specs.Homes.{home_at}
use Rattle.key_index.specs.HomeMarks.{IsMarked}
use Rattle.key_index.specs.Chains.{Chains, AreChains, HaveShape, IsLinked}
use Rattle.key_index.specs.SortedPlaces.{Rises, IsListed, HasMore, HasLess}
use Rattle.key_index.specs.Entries.{KeyEntries, HaveTurnedAway, AreEntered, LeadBelow}
use Rattle.key_index.proofs.JoinLemmas.{Joins, chains_after_join, joins_linked, joins_kept}
use Rattle.key_index.proofs.LeaveLemmas.{Leaves, chains_after_leave, leaves_linked, leaves_kept, leaves_apart}

-- one value of a function is another
abbrev pub entry_with : (ℕ → ℕ) → ℕ → ℕ → ℕ → ℕ
entry_with f place value other = cond (eqb other place) value (f other)

entry_with_here : (f : ℕ → ℕ) (place value : ℕ) → entry_with f place value place ≡ value
entry_with_here f place value = cond-true (eqb place place) value (f place) (eq-eqb place place refl)

entry_with_there : (f : ℕ → ℕ) (place value other : ℕ) → other ≢ place → entry_with f place value other ≡ f other
entry_with_there f place value other there = cond-false (eqb other place) value (f other) (ne_eqb other place there)

-- the ranks of a chain without one of its places
abbrev pub entry_ranks_without : (ℕ → ℕ) → (ℕ → ℕ) → ℕ → ℕ → ℕ
entry_ranks_without rank home place cell = cond (eqb (home cell) (home place)) (cond (ltb (rank place) (rank cell)) (rank cell - 1) (rank cell)) (rank cell)

entry_rank_elsewhere : (rank home : ℕ → ℕ) (place cell : ℕ) → home cell ≢ home place → entry_ranks_without rank home place cell ≡ rank cell
entry_rank_elsewhere rank home place cell there =
    cond-false (eqb (home cell) (home place)) (cond (ltb (rank place) (rank cell)) (rank cell - 1) (rank cell)) (rank cell) (ne_eqb (home cell)
    (home place) there)

entry_rank_below : (rank home : ℕ → ℕ) (place cell : ℕ) → rank cell ≤ rank place → entry_ranks_without rank home place cell ≡ rank cell
entry_rank_below rank home place cell low =
    ⊎_elim
    (λ (here : home cell ≡ home place).
    cond-true (eqb (home cell) (home place)) (cond (ltb (rank place) (rank cell)) (rank cell - 1) (rank cell)) (rank cell) (eq-eqb (home cell)
    (home place) here)
    ∙ cond-false (ltb (rank place) (rank cell)) (rank cell - 1) (rank cell) (le-ltb (rank place) (rank cell) low))
    (λ (there : home cell ≡ home place → ⊥). entry_rank_elsewhere rank home place cell there)
    (cases_eq (home cell) (home place))

entry_rank_above : (rank home : ℕ → ℕ) (place cell : ℕ) → home cell ≡ home place → rank place < rank cell
    → entry_ranks_without rank home place cell + 1 ≡ rank cell
entry_rank_above rank home place cell here high =
    let is : entry_ranks_without rank home place cell ≡ rank cell - 1 =
    cond-true (eqb (home cell) (home place)) (cond (ltb (rank place) (rank cell)) (rank cell - 1) (rank cell)) (rank cell) (eq-eqb (home cell)
    (home place) here)
    ∙ cond-true (ltb (rank place) (rank cell)) (rank cell - 1) (rank cell) (lt-ltb (rank place) (rank cell) high) in
    omega (arith, is)

-- the cells and numbers after a place joined a chain at its front
pub entry_joins : (room : ℕ) (links backs : List ℕ) (rank home : ℕ → ℕ) (place head : ℕ) → AreChains room links backs rank home
    → length links ≡ 5 * room → length backs ≡ room + 1 → All (λ mark. mark ≤ room) links → place < room → room ≤ head → head < 5 * room
    → rank head < 4 → get_or backs (place + 1) 0 ≡ 0
    → Joins room links backs rank home (set (set links place (get_or links head 0)) head (place + 1))
    (set (set backs (get_or links head 0) (place + 1)) (place + 1) (head + 1))
    (entry_with (entry_with rank place (rank head)) head (rank head + 1)) (entry_with home place head) place head
entry_joins room links backs rank home place head chains cells places marks within high top few free =
    let next = get_or links head 0 in
    let low : next ≤ room = marks head 0 (omega arith) in
    let inner = set links place next in
    let after = set inner head (place + 1) in
    let first = set backs next (place + 1) in
    let ways = set first (place + 1) (head + 1) in
    let inner_length : length inner ≡ 5 * room = simp length-set cells in
    let first_length : length first ≡ room + 1 = simp length-set places in
    let apart : place ≢ head = λ same. omega arith in
    let fresh : next ≢ place + 1 = λ is. (chains.leads head place (λ low. absurd (omega arith)) is).0 free in
    record {
      old = chains;
      within = within;
      behind = high;
      few = few;
      free = free;
      to_next = get_or-set_other inner head place (place + 1) 0 apart ∙ get_or-set_same links place next 0 (omega arith);
      to_place = get_or-set_same inner head (place + 1) 0 (omega arith);
      to_others = λ cell other too. get_or-set_other inner head cell (place + 1) 0 too ∙ get_or-set_other links place cell next 0 other;
      from_head = get_or-set_same first (place + 1) (head + 1) 0 (omega arith);
      from_place = λ other is. get_or-set_other first (place + 1) (other + 1) (head + 1) 0 (λ same. fresh (is ∙ same))
          ∙ ap (λ n. get_or first n 0) (sym is) ∙ get_or-set_same backs next (place + 1) 0 (omega arith);
      from_others = λ other there is. get_or-set_other first (place + 1) (other + 1) (head + 1) 0 (λ same. there (omega arith))
          ∙ get_or-set_other backs next (other + 1) (place + 1) 0 (λ same. is (sym same));
      head_rank = entry_with_here (entry_with rank place (rank head)) head (rank head + 1);
      place_rank = entry_with_there (entry_with rank place (rank head)) head (rank head + 1) place apart ∙ entry_with_here rank place (rank head);
      other_rank = λ cell other too. entry_with_there (entry_with rank place (rank head)) head (rank head + 1) cell too
          ∙ entry_with_there rank place (rank head) cell other;
      place_home = entry_with_here home place head;
      other_home = λ cell other. entry_with_there home place head cell other;
    }

-- and after one left its chain
pub entry_leaves : (room : ℕ) (links backs : List ℕ) (rank home : ℕ → ℕ) (place : ℕ) → AreChains room links backs rank home
    → length links ≡ 5 * room → length backs ≡ room + 1 → All (λ mark. mark ≤ room) links → IsLinked backs place
    → Leaves room links backs rank home (set links (get_or backs (place + 1) 0 - 1) (get_or links place 0))
    (set (set backs (get_or links place 0) (get_or backs (place + 1) 0)) (place + 1) 0)
    (entry_ranks_without rank home place) place (get_or backs (place + 1) 0 - 1)
entry_leaves room links backs rank home place chains cells places marks linked =
    let next = get_or links place 0 in
    let way = get_or backs (place + 1) 0 in
    let front = way - 1 in
    let led = chains.back place linked in
    let here : led.0 ≡ front = omega (arith, led.2) in
    let from : way ≡ front + 1 = omega (arith, led.2) in
    let to : get_or links front 0 ≡ place + 1 = ap (λ n. get_or links n 0) (sym here) ∙ led.3 in
    let within : place < room = chains.within place linked in
    let low : next ≤ room = marks place 0 (omega arith) in
    let front_within : front < length links = ⊎_elim
    (λ (inside : front < length links). inside)
    (λ (outside : length links ≤ front). absurd (omega (arith, to, get_or_past links front 0 outside)))
    (cases_lt front (length links)) in
    let first = set backs next way in
    let first_length : length first ≡ room + 1 = simp length-set places in
    record {
      old = chains;
      linked = linked;
      from = from;
      to_next = get_or-set_same links front next 0 front_within;
      to_others = λ cell other. get_or-set_other links front cell next 0 other;
      free = get_or-set_same first (place + 1) 0 0 (omega arith);
      from_front = λ other there is. get_or-set_other first (place + 1) (other + 1) 0 0 (λ same. there (omega arith))
          ∙ ap (λ n. get_or first n 0) (sym is) ∙ get_or-set_same backs next way 0 (omega arith) ∙ from;
      from_others = λ other there is. get_or-set_other first (place + 1) (other + 1) 0 0 (λ same. there (omega arith))
          ∙ get_or-set_other backs next (other + 1) way 0 (λ same. is (sym same));
      elsewhere = λ cell there. entry_rank_elsewhere rank home place cell there;
      below = λ cell under. entry_rank_below rank home place cell under;
      above = λ cell same over. entry_rank_above rank home place cell same over;
    }

-- entries of these parts
abbrev pub entry_parts : ℕ → List ℕ → List ℕ → List ℕ → List ℕ → KeyEntries
entry_parts room links backs turned listed = record { room = room; links = links; backs = backs; turned = turned; listed = listed }

-- a home from which a key was turned away stays marked
abbrev pub EntryMarksStay : List ℕ → List ℕ → Type 0
EntryMarksStay turned marked = (home : ℕ) → IsMarked turned home → IsMarked marked home

-- a place that isn't entered is in no chain
entry_free : (end place room : ℕ) (keys links backs listed : List ℕ) (turned : List ℕ)
    → AreEntered end place keys (entry_parts room links backs turned listed) → get_or backs (place + 1) 0 ≡ 0
entry_free end place room keys links backs listed turned entered =
    ⊎_elim
    (λ (free : get_or backs (place + 1) 0 ≡ 0). free)
    (λ (linked : get_or backs (place + 1) 0 ≡ 0 → ⊥). absurd ((entered.linked place linked).1 refl))
    (cases_eq (get_or backs (place + 1) 0) 0)

-- a place was entered in the chain of a home
entry_in_chain : (end place room turn head : ℕ) (keys links backs listed : List ℕ) (turned marked : List ℕ) (after ways : List ℕ)
    (ranked homed : ℕ → ℕ)
    → place < end → turn < 8 → head ≡ room + home_at room turn (get_or keys place 0)
    → (entered : AreEntered end place keys (entry_parts room links backs turned listed))
    → Joins room links backs entered.rank entered.home after ways ranked homed place head
    → HaveTurnedAway turn (get_or keys place 0) (entry_parts room after ways marked listed) → EntryMarksStay turned marked
    → AreEntered end end keys (entry_parts room after ways marked listed)
entry_in_chain end place room turn head keys links backs listed turned marked after ways ranked homed below small at entered joins passed stay =
    let turns = entry_with entered.turn place turn in
    let here_turn : turns place ≡ turn = entry_with_here entered.turn place turn in
    let there_turn : (other : ℕ) → other ≢ place → turns other ≡ entered.turn other = λ other there. entry_with_there entered.turn place turn other there in
    record {
      rank = ranked;
      home = homed;
      turn = turns;
      chains = chains_after_join room links backs entered.rank entered.home after ways ranked homed place head joins;
      chained = λ other under apart early.
          ⊎_elim
          (λ (here : other ≡ place). subst (λ n. IsLinked ways n × (homed n ≡ room + home_at room (turns n) (get_or keys n 0))) (sym here)
          ((λ none. omega (arith, joins.from_head)), joins.place_home ∙ at ∙ ap (λ t. room + home_at room t (get_or keys place 0)) (sym here_turn)))
          (λ (there : other ≡ place → ⊥).
          let old = entered.chained other under there (omega (arith, there_turn other there)) in (
            joins_kept room links backs entered.rank entered.home after ways ranked homed place head joins other old.0,
            joins.other_home other there ∙ old.1 ∙ ap (λ t. room + home_at room t (get_or keys other 0)) (sym (there_turn other there)),
          ))
          (cases_eq other place);
      ended = λ other under apart late.
          ⊎_elim
          (λ (here : other ≡ place). absurd (omega (arith, here_turn, ap turns here)))
          (λ (there : other ≡ place → ⊥). entered.ended other under there (omega (arith, there_turn other there)))
          (cases_eq other place);
      passed = λ other under apart earlier before early.
          ⊎_elim
          (λ (here : other ≡ place). subst (λ n. IsMarked marked (home_at room earlier (get_or keys n 0))) (sym here)
          (passed earlier (omega (arith, here_turn, ap turns here)) early))
          (λ (there : other ≡ place → ⊥). stay (home_at room earlier (get_or keys other 0))
          (entered.passed other under there earlier (omega (arith, there_turn other there)) early))
          (cases_eq other place);
      linked = λ other linked.
          ⊎_elim
          (λ (here : other ≡ place). (let low : other < end = omega arith in low, (λ same. omega arith), omega (arith, here_turn, ap turns here)))
          (λ (there : other ≡ place → ⊥).
          let old = entered.linked other (joins_linked room links backs entered.rank entered.home after ways ranked homed place head joins other
          linked there) in
          (old.0, (λ same. omega (arith, old.0)), omega (arith, there_turn other there, old.2)))
          (cases_eq other place);
      listed = λ other is.
          let old = entered.listed other is in
          (old.0, (λ same. omega (arith, old.0)), omega (arith, there_turn other old.1, old.2));
      rises = entered.rises;
    }

-- in the chain of one of its key's homes that had room
pub entry_linked : (end place room turn home : ℕ) (keys : List ℕ) (chains joined : Chains) (turned marked listed : List ℕ)
    → HaveShape chains.room chains.links chains.backs → chains.room ≡ room → place < end → place < room → turn < 8 → home < 4 * room
    → home ≡ home_at room turn (get_or keys place 0)
    → ((rank home_of : ℕ → ℕ) → AreChains chains.room chains.links chains.backs rank home_of → rank (chains.room + home) < 4)
    → joined.links ≡ set (set chains.links place (get_or chains.links (chains.room + home) 0)) (chains.room + home) (place + 1)
    → joined.backs ≡ set (set chains.backs (get_or chains.links (chains.room + home) 0) (place + 1)) (place + 1) (chains.room + home + 1)
    → AreEntered end place keys (entry_parts room chains.links chains.backs turned listed)
    → HaveTurnedAway turn (get_or keys place 0) (entry_parts room joined.links joined.backs marked listed) → EntryMarksStay turned marked
    → AreEntered end end keys (entry_parts room joined.links joined.backs marked listed)
entry_linked end place room turn home keys chains joined turned marked listed shape roomy below low early inside at few to from entered passed stay =
    let head = chains.room + home in
    let next = get_or chains.links head 0 in
    let after = set (set chains.links place next) head (place + 1) in
    let ways = set (set chains.backs next (place + 1)) (place + 1) (head + 1) in
    let ranked = entry_with (entry_with entered.rank place (entered.rank head)) head (entered.rank head + 1) in
    let homed = entry_with entered.home place head in
    let were : AreChains chains.room chains.links chains.backs entered.rank entered.home =
    subst (λ n. AreChains n chains.links chains.backs entered.rank entered.home) (sym roomy) entered.chains in
    let joins : Joins chains.room chains.links chains.backs entered.rank entered.home after ways ranked homed place head =
    entry_joins chains.room chains.links chains.backs entered.rank entered.home place head were shape.cells shape.places shape.marks
    (omega arith) (omega arith) (omega arith) (few entered.rank entered.home were)
    (entry_free end place room keys chains.links chains.backs listed turned entered) in
    subst (λ l. AreEntered end end keys (entry_parts room l joined.backs marked listed)) (sym to)
    (subst (λ b. AreEntered end end keys (entry_parts room after b marked listed)) (sym from)
    (entry_in_chain end place room turn head keys chains.links chains.backs listed turned marked after ways ranked homed below early
    (ap (λ n. n + home) roomy ∙ ap (λ n. room + n) at) entered
    (subst (λ n. Joins n chains.links chains.backs entered.rank entered.home after ways ranked homed place head) roomy joins) passed stay))

-- or in the list
pub entry_in_list : (end place room : ℕ) (keys links backs listed : List ℕ) (turned marked : List ℕ) (longer : List ℕ)
    → place < end → AreEntered end place keys (entry_parts room links backs turned listed) → HasMore keys listed longer place
    → HaveTurnedAway 8 (get_or keys place 0) (entry_parts room links backs marked longer) → EntryMarksStay turned marked
    → AreEntered end end keys (entry_parts room links backs marked longer)
entry_in_list end place room keys links backs listed turned marked longer below entered more passed stay =
    let turns = entry_with entered.turn place 8 in
    let here_turn : turns place ≡ 8 = entry_with_here entered.turn place 8 in
    let there_turn : (other : ℕ) → other ≢ place → turns other ≡ entered.turn other = λ other there. entry_with_there entered.turn place 8 other there in
    record {
      rank = entered.rank;
      home = entered.home;
      turn = turns;
      chains = entered.chains;
      chained = λ other under apart early.
          ⊎_elim
          (λ (here : other ≡ place). absurd (omega (arith, here_turn, ap turns here)))
          (λ (there : other ≡ place → ⊥).
          let old = entered.chained other under there (omega (arith, there_turn other there)) in
          (old.0, old.1 ∙ ap (λ t. room + home_at room t (get_or keys other 0)) (sym (there_turn other there))))
          (cases_eq other place);
      ended = λ other under apart late.
          ⊎_elim
          (λ (here : other ≡ place). subst (IsListed longer) (sym here) more.added)
          (λ (there : other ≡ place → ⊥). more.kept other (entered.ended other under there (omega (arith, there_turn other there))))
          (cases_eq other place);
      passed = λ other under apart earlier before early.
          ⊎_elim
          (λ (here : other ≡ place). subst (λ n. IsMarked marked (home_at room earlier (get_or keys n 0))) (sym here) (passed earlier early early))
          (λ (there : other ≡ place → ⊥). stay (home_at room earlier (get_or keys other 0))
          (entered.passed other under there earlier (omega (arith, there_turn other there)) early))
          (cases_eq other place);
      linked = λ other linked.
          let old = entered.linked other linked in
          (old.0, (λ same. omega (arith, old.0)), omega (arith, there_turn other old.1, old.2));
      listed = λ other is.
          ⊎_elim
          (λ (here : other ≡ place). (let low : other < end = omega arith in low, (λ same. omega arith), omega (arith, here_turn, ap turns here)))
          (λ (there : other ≡ place → ⊥).
          let old = entered.listed other (more.only other is there) in
          (old.0, (λ same. omega (arith, old.0)), omega (arith, there_turn other there, old.2)))
          (cases_eq other place);
      rises = more.rises entered.rises (λ is. (entered.listed place is).1 refl);
    }

-- a place left its chain
pub entry_out_of_chain : (end place room front : ℕ) (keys links backs listed : List ℕ) (turned : List ℕ) (after ways : List ℕ) (ranked : ℕ → ℕ)
    → (entered : AreEntered end end keys (entry_parts room links backs turned listed))
    → Leaves room links backs entered.rank entered.home after ways ranked place front
    → AreEntered end place keys (entry_parts room after ways turned listed)
entry_out_of_chain end place room front keys links backs listed turned after ways ranked entered leaves = record {
  rank = ranked;
  home = entered.home;
  turn = entered.turn;
  chains = chains_after_leave room links backs entered.rank entered.home after ways ranked place front leaves;
  chained = λ other under apart early.
      let old = entered.chained other under (λ same. omega arith) early in
      (leaves_kept room links backs entered.rank entered.home after ways ranked place front leaves other old.0 apart, old.1);
  ended = λ other under apart late. entered.ended other under (λ same. omega arith) late;
  passed = λ other under apart earlier before early. entered.passed other under (λ same. omega arith) earlier before early;
  linked = λ other linked.
      let old = entered.linked other (leaves_linked room links backs entered.rank entered.home after ways ranked place front leaves other linked) in
      (old.0, leaves_apart room links backs entered.rank entered.home after ways ranked place front leaves other linked, old.2);
  listed = λ other is.
      let old = entered.listed other is in
      (old.0, (λ same. omega (arith, old.2, (entered.linked place leaves.linked).2, ap entered.turn same)), old.2);
  rises = entered.rises;
}

-- a place in no chain is in the list
pub entry_is_listed : (end place room : ℕ) (keys links backs listed : List ℕ) (turned : List ℕ) → place < end
    → AreEntered end end keys (entry_parts room links backs turned listed) → get_or backs (place + 1) 0 ≡ 0 → IsListed listed place
entry_is_listed end place room keys links backs listed turned below entered free =
    ⊎_elim
    (λ (early : entered.turn place < 8). absurd ((entered.chained place below (λ same. omega arith) early).0 free))
    (λ (late : 8 ≤ entered.turn place). entered.ended place below (λ same. omega arith) late)
    (cases_lt (entered.turn place) 8)

-- and left it
pub entry_out_of_list : (end place room : ℕ) (keys links backs listed : List ℕ) (turned : List ℕ) (shorter : List ℕ)
    → AreEntered end end keys (entry_parts room links backs turned listed) → get_or backs (place + 1) 0 ≡ 0 → HasLess keys listed shorter place
    → AreEntered end place keys (entry_parts room links backs turned shorter)
entry_out_of_list end place room keys links backs listed turned shorter entered free less = record {
  rank = entered.rank;
  home = entered.home;
  turn = entered.turn;
  chains = entered.chains;
  chained = λ other under apart early. entered.chained other under (λ same. omega arith) early;
  ended = λ other under apart late. less.kept other (entered.ended other under (λ same. omega arith) late) apart;
  passed = λ other under apart earlier before early. entered.passed other under (λ same. omega arith) earlier before early;
  linked = λ other linked.
      let old = entered.linked other linked in
      (old.0, (λ same. linked (ap (λ n. get_or backs (n + 1) 0) same ∙ free)), old.2);
  listed = λ other is.
      let old = entered.listed other (less.only other is) in
      (old.0, (λ same. less.gone (subst (IsListed shorter) same is)), old.2);
  rises = less.rises;
}

-- the same places are entered for other keys that agree on these places
pub entry_for_keys : (end but last out room : ℕ) (keys others links backs listed : List ℕ) (turned : List ℕ)
    → ((place : ℕ) → place < end → place ≢ but → (place < last) × (place ≢ out) × (get_or others place 0 ≡ get_or keys place 0))
    → ((place : ℕ) → place < last → place ≢ out → (place < end) × (place ≢ but))
    → AreEntered end but keys (entry_parts room links backs turned listed)
    → AreEntered last out others (entry_parts room links backs turned listed)
entry_for_keys end but last out room keys others links backs listed turned to from entered = record {
  rank = entered.rank;
  home = entered.home;
  turn = entered.turn;
  chains = entered.chains;
  chained = λ place below apart early.
      let was = from place below apart in
      let old = entered.chained place was.0 was.1 early in
      (old.0, old.1 ∙ ap (λ k. room + home_at room (entered.turn place) k) (sym (to place was.0 was.1).2));
  ended = λ place below apart late. let was = from place below apart in entered.ended place was.0 was.1 late;
  passed = λ place below apart earlier before early.
      let was = from place below apart in
      subst (λ k. IsMarked turned (home_at room earlier k)) (sym (to place was.0 was.1).2) (entered.passed place was.0 was.1 earlier before early);
  linked = λ place linked. let old = entered.linked place linked in let is = to place old.0 old.1 in (is.0, is.1, old.2);
  listed = λ place listed_at. let old = entered.listed place listed_at in let is = to place old.0 old.1 in (is.0, is.1, old.2);
  rises = λ one other apart within.
      let same : (index : ℕ) → index < length listed → get_or others (get_or listed index 0) 0 ≡ get_or keys (get_or listed index 0) 0 = λ index inside.
      let old = entered.listed (get_or listed index 0) (index, inside, refl) in (to (get_or listed index 0) old.0 old.1).2 in
      omega (arith, entered.rises one other apart within, same one (omega arith), same other within);
}

-- zeros everywhere
entry_zeros : (count index zero_is : ℕ) → zero_is ≡ 0 → get_or (replicate count zero_is) index 0 ≡ 0
entry_zeros count index none is =
    ⊎_elim
    (λ (within : index < count). get_or-replicate count index none 0 within ∙ is)
    (λ (past : count ≤ index). get_or_past (replicate count none) index 0 (let e : length (replicate count none) ≤ index = simp length-replicate past in e))
    (cases_lt index count)

-- empty chains
entry_unlinked : (room place : ℕ) → IsLinked (replicate (room + 1) 0) place → ⊥
entry_unlinked room place linked = linked (entry_zeros (room + 1) (place + 1) 0 refl)

pub entry_chains_of_nothing : (room : ℕ) → AreChains room (replicate (5 * room) 0) (replicate (room + 1) 0) (λ cell. 0) (λ cell. cell)
entry_chains_of_nothing room = record {
  heads = λ cell high. refl;
  within = λ place linked. absurd (entry_unlinked room place linked);
  homes = λ place linked. absurd (entry_unlinked room place linked);
  apart = λ one other linked also homes ranks. absurd (entry_unlinked room one linked);
  top = λ place linked. absurd (entry_unlinked room place linked);
  bound = λ cell high. omega arith;
  ends = λ cell live none. refl;
  leads = λ cell place live to. absurd (omega (arith, to, entry_zeros (5 * room) cell 0 refl));
  back = λ place linked. absurd (entry_unlinked room place linked);
}

-- nothing is entered where all cells and numbers are 0 and the list is empty
pub entry_of_nothing : (room : ℕ) (keys : List ℕ) (turned : List ℕ)
    → AreEntered 0 0 keys (entry_parts room (replicate (5 * room) 0) (replicate (room + 1) 0) turned [])
entry_of_nothing room keys turned = record {
  rank = λ cell. 0;
  home = λ cell. cell;
  turn = λ place. 0;
  chains = entry_chains_of_nothing room;
  chained = λ place below. absurd (omega arith);
  ended = λ place below. absurd (omega arith);
  passed = λ place below. absurd (omega arith);
  linked = λ place linked. absurd (entry_unlinked room place linked);
  listed = λ place is. absurd (omega (arith, is.1));
  rises = λ one other apart within. absurd (omega arith);
}

-- a place that isn't in the list and those in it are all different
entry_apart : (end but : ℕ) (keys listed : List ℕ) → Rises keys listed → ((q : ℕ) → IsListed listed q → (q < end) × (q ≢ but))
    → (one other default : ℕ) → one < other → other < length (but ∷ listed)
    → eqb (get_or (but ∷ listed) one default) (get_or (but ∷ listed) other default) ≡ false
entry_apart end but keys listed rises member one zero default apart within = absurd (omega arith)
entry_apart end but keys listed rises member zero (suc other) default apart within =
    let inside : other < length listed = omega arith in
    ne_eqb but (get_or listed other default) (λ same. (member (get_or listed other 0) (other, inside, refl)).1
    (sym (get_or_default_zero listed other default inside) ∙ sym same))
entry_apart end but keys listed rises member (suc one) (suc other) default apart within =
    let inside : other < length listed = omega arith in
    let before : one < other = omega arith in
    ne_eqb (get_or listed one default) (get_or listed other default) (λ same.
    let is : get_or listed one 0 ≡ get_or listed other 0 =
    sym (get_or_default_zero listed one default (omega arith)) ∙ same ∙ get_or_default_zero listed other default inside in
    omega (arith, rises one other before inside, ap (λ n. get_or keys n 0 * 2 ^ 16 + n) is))

entry_member_below : (end but : ℕ) (listed : List ℕ) → but < end → ((q : ℕ) → IsListed listed q → (q < end) × (q ≢ but))
    → (q : ℕ) → Contains (but ∷ listed) q → q < end
entry_member_below end but listed below member q (zero, within, is) = omega (arith, is)
entry_member_below end but listed below member q (suc at, within, is) =
    let inside : at < length listed = omega arith in
    (member q (at, inside, sym (get_or_default_zero listed at q inside) ∙ is)).0

-- the list has fewer places than are entered
pub entry_list_is_short : (end but room : ℕ) (keys links backs listed : List ℕ) (turned : List ℕ) → but < end
    → AreEntered end but keys (entry_parts room links backs turned listed) → length listed < end
entry_list_is_short end but room keys links backs listed turned below entered =
    let member : (q : ℕ) → IsListed listed q → (q < end) × (q ≢ but) = λ q is. let old = entered.listed q is in (old.0, old.1) in
    let distinct : (one other default : ℕ) → one < other → other < length (but ∷ listed)
    → eqb (get_or (but ∷ listed) one default) (get_or (but ∷ listed) other default) ≡ false = entry_apart end but keys listed entered.rises member in
    let short : length (but ∷ listed) ≤ end = length-le_from_distinct_below (but ∷ listed) end (IsDistinct-from_apart eqb (but ∷ listed) distinct)
    (λ q any. entry_member_below end but listed below member q (Contains-from_any (λ x y same. eqb-true x y same) q (but ∷ listed) any)) in
    omega (arith, short)

-- what an unsuccessful look at the chain of a home says
abbrev pub EntryMissing : ℕ → List ℕ → List ℕ → List ℕ → ℕ → ℕ → Type 0
EntryMissing room links backs keys home key = (rank home_of : ℕ → ℕ) → AreChains room links backs rank home_of
    → (place : ℕ) → IsLinked backs place → home_of place ≡ room + home → get_or keys place 0 ≢ key

-- a place of the key that isn't in a home is in one of a later turn, or in the list
pub entry_turns_on : (end but room place turn home key : ℕ) (keys links backs listed : List ℕ) (turned : List ℕ)
    → (entered : AreEntered end but keys (entry_parts room links backs turned listed)) → place < end → place ≢ but → get_or keys place 0 ≡ key
    → turn ≤ entered.turn place → turn < 8 → home ≡ home_at room turn key → EntryMissing room links backs keys home key
    → turn + 1 ≤ entered.turn place
entry_turns_on end but room place turn home key keys links backs listed turned entered below apart has so_far early at missing =
    ⊎_elim
    (λ (here : entered.turn place ≡ turn).
    let chained = entered.chained place below apart (omega arith) in
    absurd (missing entered.rank entered.home entered.chains place chained.0
    (chained.1 ∙ ap (λ t. room + home_at room t (get_or keys place 0)) here ∙ ap (λ k. room + home_at room turn k) has ∙ ap (λ n. room + n) (sym at)) has))
    (λ (there : entered.turn place ≡ turn → ⊥). (let e : turn + 1 ≤ entered.turn place = omega arith in e))
    (cases_eq (entered.turn place) turn)

-- and none is there if no key was turned away from the home
pub entry_turn_is_last : (end but room place turn home key : ℕ) (keys links backs listed : List ℕ) (turned : List ℕ)
    → (entered : AreEntered end but keys (entry_parts room links backs turned listed)) → place < end → place ≢ but → get_or keys place 0 ≡ key
    → turn ≤ entered.turn place → turn < 8 → home ≡ home_at room turn key → EntryMissing room links backs keys home key
    → (IsMarked turned home → ⊥) → ⊥
entry_turn_is_last end but room place turn home key keys links backs listed turned entered below apart has so_far early at missing unmarked =
    let on = entry_turns_on end but room place turn home key keys links backs listed turned entered below apart has so_far early at missing in
    unmarked (subst (IsMarked turned) (sym at) (subst (λ k. IsMarked turned (home_at room turn k)) has
    (entered.passed place below apart turn (omega arith) early)))

-- zeros and an empty list lead nowhere
pub entry_zeros_lead : (count size none : ℕ) → none ≡ 0 → LeadBelow count (replicate size none) []
entry_zeros_lead count size none is = record {
  marks = λ index default within. omega (
    arith,
    is,
    get_or-replicate size index none default (let e : index < size = subst (λ n. index < n)
        (length-replicate size none) within in e),
  );
  places = λ index default within. absurd (omega (arith, within));
}

-- where the places below a number are entered, one place more is to be entered next
pub entry_one_more : (count room : ℕ) (keys links backs listed : List ℕ) (turned : List ℕ)
    → AreEntered count count keys (entry_parts room links backs turned listed) → AreEntered (count + 1) count keys
    (entry_parts room links backs turned listed)
entry_one_more count room keys links backs listed turned entered =
    entry_for_keys count count (count + 1) count room keys keys links backs listed turned
    (λ place below apart. (omega arith, apart, refl)) (λ place below apart. (omega arith, apart)) entered

-- a key was appended
pub entry_of_pushed : (count room key : ℕ) (keys links backs listed : List ℕ) (turned : List ℕ) → count ≡ length keys
    → AreEntered count count keys (entry_parts room links backs turned listed)
    → AreEntered (count + 1) count (keys ++ key ∷ []) (entry_parts room links backs turned listed)
entry_of_pushed count room key keys links backs listed turned is entered =
    entry_for_keys count count (count + 1) count room keys (keys ++ key ∷ []) links backs listed turned
    (λ place below apart. (omega arith, apart, get_or-append keys (key ∷ []) 0 place (omega arith))) (λ place below apart. (omega arith, apart)) entered

-- the key at a place that isn't entered was replaced
pub entry_of_replaced : (count place room key : ℕ) (keys links backs listed : List ℕ) (turned : List ℕ)
    → AreEntered count place keys (entry_parts room links backs turned listed)
    → AreEntered count place (set keys place key) (entry_parts room links backs turned listed)
entry_of_replaced count place room key keys links backs listed turned entered =
    entry_for_keys count place count place room keys (set keys place key) links backs listed turned
    (λ other below apart. (below, apart, get_or-set_other keys place other key 0 apart)) (λ other below apart. (below, apart)) entered
