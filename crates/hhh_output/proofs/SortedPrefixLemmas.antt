-- Each list of prefixes can be put in the order of a report.
use Rattle.std.proofs.Common.{◌≡◌, ◌+◌, ◌≤◌, ◌↔◌, List, [], ◌∷◌, length, All, AllPairs, Contains, ◌⊎◌, inl, inr}
use Rattle.std.proofs.Common.{refl, sym, ap, ◌∙◌, subst, arith}
use Rattle.std.specs.declared.cmp.Ordering.{Ordering}
use Rattle.std.specs.declared.cmp.Ordering.TheVariants.{Less, Equal, Greater}
use Rattle.std.specs.Ordering.{ordering_reverse}
use Rattle.std.specs.Cmp.{IsTotalOrder}
use Rattle.std.proofs.lemmas.List.Elements.{All-nil, All-cons, All-head, All-tail, All-weaker, All-contains}
use Rattle.std.proofs.lemmas.List.Elements.{All-contains_itself}
use Rattle.std.proofs.lemmas.List.Kept.{AllPairs-cons}
use Rattle.prefix_lattice.specs.{PrefixValue, IsPrefix, finest_grain, report_order}
use Rattle.prefix_lattice.specs.declared.grain.Grain.{Grain}
use Rattle.hhh_output.proofs.PrefixNodeLemmas.{prefix_is_of_finest_grain}
use Rattle.prefix_lattice.proofs.ListLemmas.{Contains-list_head, Contains-list_tail, Contains-list_cons}
use Rattle.prefix_lattice.proofs.ListLemmas.{AllPairs-list_head, AllPairs-list_tail}

-- a prefix whose line comes before that of another in a report
abbrev pub ComesBeforePrefix : PrefixValue → PrefixValue → Type 0
ComesBeforePrefix prefix later = report_order prefix later ≡ Less

-- the laws of the order of prefixes
pub record PrefixesCanBeSorted : Type 0 where
  pub total : IsTotalOrder report_order
  pub apart : (prefix other : PrefixValue) → IsPrefix finest_grain prefix → IsPrefix finest_grain other
      → (report_order prefix other ≡ Equal) ↔ (prefix ≡ other)

-- a sorted list, and the same with one more prefix
record PutsSortedPrefix (prefix : PrefixValue) (sorted more : List PrefixValue) : Type 0 where
  there : (other : PrefixValue) → Contains more other → (prefix ≡ other) ⊎ Contains sorted other
  back : (other : PrefixValue) → (prefix ≡ other) ⊎ Contains sorted other → Contains more other
  rising : AllPairs ComesBeforePrefix more
  few : length more ≤ length sorted + 1

-- a list has its first prefix and those of its rest
sorted_prefix_in_front : (prefix : PrefixValue) (rest : List PrefixValue) (other : PrefixValue)
    → (prefix ≡ other) ⊎ Contains rest other → Contains (prefix ∷ rest) other
sorted_prefix_in_front prefix rest other (inl same) =
    subst (Contains (prefix ∷ rest)) same (Contains-list_head prefix rest)
sorted_prefix_in_front prefix rest other (inr later) = Contains-list_tail prefix rest other later

-- each prefix can be put into a sorted list
sorted_prefix_is_put : PrefixesCanBeSorted → {grain : Grain} (prefix : PrefixValue) (sorted : List PrefixValue)
    → IsPrefix grain prefix → All (IsPrefix grain) sorted → AllPairs ComesBeforePrefix sorted
    → (more : List PrefixValue) × PutsSortedPrefix prefix sorted more
sorted_prefix_is_put laws prefix [] is_prefix are_prefixes rising = (
  prefix ∷ [],
  record {
    there = λ other there. Contains-list_cons prefix [] other there;
    back = λ other part. sorted_prefix_in_front prefix [] other part;
    rising = AllPairs-cons ComesBeforePrefix prefix [] (All-nil (ComesBeforePrefix prefix)) rising;
    few = omega arith;
  },
)
sorted_prefix_is_put laws {grain} prefix (first ∷ rest) is_prefix are_prefixes rising =
    by (report_order prefix first) refl
    (sorted_prefix_is_put laws prefix rest is_prefix (All-tail (IsPrefix grain) first rest are_prefixes)
    (AllPairs-list_tail ComesBeforePrefix first rest rising))
  where
    first_before : All (ComesBeforePrefix first) rest
    first_before = AllPairs-list_head ComesBeforePrefix first rest rising

    by : (o : Ordering) → report_order prefix first ≡ o
        → (more : List PrefixValue) × PutsSortedPrefix prefix rest more
        → (more : List PrefixValue) × PutsSortedPrefix prefix (first ∷ rest) more
    by Less before _ = (
      prefix ∷ first ∷ rest,
      record {
        there = λ other there. Contains-list_cons prefix (first ∷ rest) other there;
        back = λ other part. sorted_prefix_in_front prefix (first ∷ rest) other part;
        rising =
            AllPairs-cons ComesBeforePrefix prefix (first ∷ rest)
            (All-cons (ComesBeforePrefix prefix) first rest before
            (All-weaker (ComesBeforePrefix first) (ComesBeforePrefix prefix)
            (λ other later. laws.total.trans prefix first other before later) rest first_before)) rising;
        few = omega arith;
      },
    )
    by Equal equal _ =
        let is_first : IsPrefix grain first = All-head (IsPrefix grain) first rest are_prefixes in
        let same : prefix ≡ first =
        (laws.apart prefix first (prefix_is_of_finest_grain prefix is_prefix)
        (prefix_is_of_finest_grain first is_first)).0
        equal in (
          first ∷ rest,
          record {
            there = λ other there. inr there;
            back = λ other part. elim part [
              | inl is ↦ subst (Contains (first ∷ rest)) (sym same ∙ is) (Contains-list_head first rest)
              | inr there ↦ there
            ];
            rising = rising;
            few = omega arith;
          },
        )
    by Greater after (more, put) =
        let before : ComesBeforePrefix first prefix =
        laws.total.antisymm first prefix ∙ ap ordering_reverse after in (
          first ∷ more,
          record {
            there = λ other there. elim (Contains-list_cons first more other there) [
              | inl is ↦ inr (subst (Contains (first ∷ rest)) is (Contains-list_head first rest))
              | inr later ↦ elim (put.there other later) [
                | inl is ↦ inl is
                | inr older ↦ inr (Contains-list_tail first rest other older)
              ]
            ];
            back = λ other part. elim part [
              | inl is ↦ Contains-list_tail first more other (put.back other (inl is))
              | inr there ↦ elim (Contains-list_cons first rest other there) [
                | inl is ↦ subst (Contains (first ∷ more)) is (Contains-list_head first more)
                | inr older ↦ Contains-list_tail first more other (put.back other (inr older))
              ]
            ];
            rising =
                AllPairs-cons ComesBeforePrefix first more
                (All-weaker (Contains more) (ComesBeforePrefix first)
                (λ other there. elim (put.there other there) [
                  | inl is ↦ subst (ComesBeforePrefix first) is before
                  | inr older ↦ All-contains (ComesBeforePrefix first) rest other first_before older
                ]) more (All-contains_itself more)) put.rising;
            few = omega (arith, put.few);
          },
        )

-- a list of prefixes of a grain and a sorted one that has them all, each once
pub record SortsPrefixes (grain : Grain) (prefixes sorted : List PrefixValue) : Type 0 where
  pub there : (prefix : PrefixValue) → Contains prefixes prefix → Contains sorted prefix
  pub are_prefixes : All (IsPrefix grain) sorted
  pub rising : AllPairs ComesBeforePrefix sorted
  pub few : length sorted ≤ length prefixes

-- each list of prefixes has a sorted one
pub each_list_has_sorted_prefixes : PrefixesCanBeSorted → (grain : Grain) (prefixes : List PrefixValue)
    → All (IsPrefix grain) prefixes → (sorted : List PrefixValue) × SortsPrefixes grain prefixes sorted
each_list_has_sorted_prefixes laws grain [] are_prefixes = (
  [],
  record {
    there = λ prefix there. there;
    are_prefixes = are_prefixes;
    rising = λ i j d before below. absurd (omega arith);
    few = omega arith;
  },
)
each_list_has_sorted_prefixes laws grain (prefix ∷ prefixes) are_prefixes =
    let older = each_list_has_sorted_prefixes laws grain prefixes (All-tail
    (IsPrefix grain) prefix prefixes are_prefixes) in
    let is_prefix : IsPrefix grain prefix = All-head (IsPrefix grain) prefix prefixes are_prefixes in
    let put = sorted_prefix_is_put laws prefix older.0 is_prefix older.1.are_prefixes older.1.rising in (
      put.0,
      record {
        there = λ other there. elim (Contains-list_cons prefix prefixes other there) [
          | inl is ↦ put.1.back other (inl is)
          | inr later ↦ put.1.back other (inr (older.1.there other later))
        ];
        are_prefixes =
            All-weaker (Contains put.0) (IsPrefix grain)
            (λ other there. elim (put.1.there other there) [
              | inl is ↦ subst (IsPrefix grain) is is_prefix
              | inr later ↦ All-contains (IsPrefix grain) older.0 other older.1.are_prefixes later
            ]) put.0 (All-contains_itself put.0);
        rising = put.1.rising;
        few = omega (arith, put.1.few, older.1.few);
      },
    )
