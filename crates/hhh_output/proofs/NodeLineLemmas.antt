-- Finding the lines of a node among its candidates.
use Rattle.std.proofs.Common.{◌≡◌, ◌≢◌, ℕ, ◌+◌, ◌<◌, ◌≤◌, ◌↔◌, ◌⊎◌, inl, inr, List, [], ◌∷◌, ◌++◌, length, take}
use Rattle.std.proofs.Common.{get_or, All, AllPairs, Contains, Option, None, Some, refl, sym, ap, ◌∙◌, subst, arith}
use Rattle.std.proofs.lemmas.List.{take_more, length_push, get_or-take, length-take-le, take_all, append-nil}
use Rattle.std.specs.Option.{option_to_list}
use Rattle.std.proofs.lemmas.List.Elements.{Contains-push, Contains-push_cases, Contains-append_left, All-contains}
use Rattle.std.proofs.lemmas.List.Elements.{Contains-get_or}
use Rattle.std.proofs.lemmas.List.Quantifiers.{all_pairs_push}
use Rattle.prefix_lattice.specs.{NodeValue, PrefixValue, IsPrefix, node_of_prefix, prefix_key, HasPrefixKey}
use Rattle.cut_merge.specs.{MergedValue, candidates_at}
use Rattle.hhh_report.specs.declared.line.Line.{Line}
use Rattle.hhh_output.specs.Selecting.{CanSelect, IsSelected, AreDistinct}

-- the line of a prefix of this node that has one of these keys, if merged tables give it
pub record IsNodeLineAmong (merged : MergedValue) (threshold : ℕ) (reported : List PrefixValue) (node : NodeValue)
    (keys : List ℕ) (line : Line) : Type 0 where
  pub has_key : HasPrefixKey node (prefix_key line.prefix) line.prefix
  pub key : Contains keys (prefix_key line.prefix)
  pub asked : CanSelect merged threshold reported line

-- the candidates before an index are judged
pub record HasJudgedNodeLines (merged : MergedValue) (threshold : ℕ) (reported : List PrefixValue) (node : NodeValue)
    (keys : List ℕ) (old now : List Line) (place : ℕ) : Type 0 where
  pub members : (line : Line)
      → Contains now line ↔ (Contains old line ⊎ IsNodeLineAmong merged threshold reported node (take place keys) line)
  pub distinct : AreDistinct now
  pub few : length now ≤ length old + place

-- none is judged at first
pub no_node_line_judged : (merged : MergedValue) (threshold : ℕ) (reported : List PrefixValue) (node : NodeValue)
    (keys : List ℕ) (old : List Line) → AreDistinct old
    → HasJudgedNodeLines merged threshold reported node keys old old 0
no_node_line_judged merged threshold reported node keys old distinct = record {
  members = λ line. (
    λ there. inl there,
    λ either. elim either [
      | inl there ↦ there
      | inr among ↦ no_key (prefix_key line.prefix) among.key
    ],
  );
  distinct = distinct;
  few = omega arith;
}
  where
    no_key : {P : Type 0} (key : ℕ) → Contains {X = ℕ} [] key → P
    no_key key (k, below, at) = absurd (omega arith)

-- one more key
node_line_candidates_grow : (keys : List ℕ) (place key : ℕ) → place < length keys → key ≡ get_or keys place key
    → take (place + 1) keys ≡ take place keys ++ key ∷ []
node_line_candidates_grow keys place key within read = take_more keys place key within ∙ ap (λ k. take place keys ++ k ∷ []) (sym read)

-- a later key isn't among the earlier ones
node_line_candidate_is_new : (keys : List ℕ) (place key : ℕ) → AllPairs (λ k other. k ≢ other) keys → place < length keys
    → key ≡ get_or keys place key → ¬ Contains (take place keys) key
node_line_candidate_is_new keys place key distinct within read (k, below, at) =
    let short : length (take place keys) ≡ place = length-take-le place keys (omega arith) in
    let before : k < place = omega (arith, short) in
    distinct k place key before within (sym (get_or-take place keys k key before) ∙ at ∙ read)

module _ (merged : MergedValue) (threshold : ℕ) (reported : List PrefixValue) (node : NodeValue) (keys : List ℕ)
    (old now : List Line) (place key : ℕ) (found : Option Line)
    (judged : HasJudgedNodeLines merged threshold reported node keys old now place)
    (of_grain : node.grain ≡ merged.shape.grain)
    (elsewhere : All (λ (line : Line). node_of_prefix merged.shape.grain line.prefix ≢ node) old)
    (distinct : AllPairs (λ k other. k ≢ other) keys) (within : place < length keys)
    (read : key ≡ get_or keys place key)
    (asked : (line : Line) → HasPrefixKey node key line.prefix
    → (found ≡ Some line) ↔ CanSelect merged threshold reported line)
    (its_prefix : (line : Line) → found ≡ Some line → HasPrefixKey node key line.prefix) where
  -- a line among one more key is among the earlier ones or that of this key
  node_line_among_more : (line : Line) → IsNodeLineAmong merged threshold reported node (take (place + 1) keys) line
      → IsNodeLineAmong merged threshold reported node (take place keys) line ⊎ (found ≡ Some line)
  node_line_among_more line among =
      elim (Contains-push_cases (take place keys) key (prefix_key line.prefix)
      (subst (λ ks. Contains ks (prefix_key line.prefix)) (node_line_candidates_grow keys place key within read) among.key)) [
        | inl earlier ↦ inl (record { has_key = among.has_key; key = earlier; asked = among.asked })
        | inr same ↦
            inr ((asked line (subst (λ k. HasPrefixKey node k line.prefix) (sym same) among.has_key)).1 among.asked)
      ]

  -- an earlier key is one of the keys
  node_line_among_earlier : (line : Line) → IsNodeLineAmong merged threshold reported node (take place keys) line
      → IsNodeLineAmong merged threshold reported node (take (place + 1) keys) line
  node_line_among_earlier line among = record {
    has_key = among.has_key;
    key =
        subst (λ ks. Contains ks (prefix_key line.prefix)) (sym (node_line_candidates_grow keys place key within read))
        (Contains-append_left (take place keys) (key ∷ []) (prefix_key line.prefix) among.key);
    asked = among.asked;
  }

  -- where the key has no line, the list stays
  pub node_line_missing_is_judged : found ≡ None → HasJudgedNodeLines merged threshold reported node keys old now (place + 1)
  node_line_missing_is_judged missing = record {
    members = λ line. (
      λ there.
          elim ((judged.members line).0 there)
          [ inl old_one ↦ inl old_one | inr among ↦ inr (node_line_among_earlier line among) ],
      λ either. elim either [
        | inl old_one ↦ (judged.members line).1 (inl old_one)
        | inr among ↦ elim (node_line_among_more line among) [
          | inl earlier ↦ (judged.members line).1 (inr earlier)
          | inr some ↦ let none_is_some : None ≡ Some line = sym missing ∙ some in cc
        ]
      ],
    );
    distinct = judged.distinct;
    few = omega (arith, judged.few);
  }

  -- where it has one, that line is appended
  pub node_line_found_is_judged : (new : Line) → found ≡ Some new
      → HasJudgedNodeLines merged threshold reported node keys old (now ++ new ∷ []) (place + 1)
  node_line_found_is_judged new is =
      let its = its_prefix new is in
      let new_key : prefix_key new.prefix ≡ key = its.of_key in
      let new_among : IsNodeLineAmong merged threshold reported node (take (place + 1) keys) new = record {
        has_key = subst (λ k. HasPrefixKey node k new.prefix) (sym new_key) its;
        key = subst (λ ks. Contains ks (prefix_key new.prefix)) (sym (node_line_candidates_grow keys place key within read))
            (subst (Contains (take place keys ++ key ∷ [])) (sym new_key) (Contains-push (take place keys) key));
        asked = (asked new its).0 is;
      } in
      let other_prefix : (k : ℕ) (d : Line) → k < length now → (get_or now k d).prefix ≢ new.prefix = λ k d below same.
      elim ((judged.members (get_or now k d)).0 (Contains-get_or now k d below)) [
        | inl old_one ↦
            All-contains (λ (l : Line). node_of_prefix merged.shape.grain l.prefix ≢ node) old
            (get_or now k d) elsewhere old_one
            (ap (node_of_prefix merged.shape.grain) same ∙ ap (λ g. node_of_prefix g new.prefix) (sym of_grain)
            ∙ its.of_node)
        | inr among ↦
            node_line_candidate_is_new keys place key distinct within read
            (subst (Contains (take place keys)) (ap prefix_key same ∙ new_key) among.key)
      ] in
      record {
        members = λ line. (
          λ there. elim (Contains-push_cases now new line there) [
            | inl earlier ↦
                elim ((judged.members line).0 earlier)
                [ inl old_one ↦ inl old_one | inr among ↦ inr (node_line_among_earlier line among) ]
            | inr same ↦ inr (subst (IsNodeLineAmong merged threshold reported node (take (place + 1) keys)) same new_among)
          ],
          λ either. elim either [
            | inl old_one ↦ Contains-append_left now (new ∷ []) line ((judged.members line).1 (inl old_one))
            | inr among ↦ elim (node_line_among_more line among) [
              | inl earlier ↦ Contains-append_left now (new ∷ []) line ((judged.members line).1 (inr earlier))
              | inr some ↦ let both : Some new ≡ Some line = sym is ∙ some in
                  let same : new ≡ line = cc in subst (Contains (now ++ new ∷ [])) same (Contains-push now new)
            ]
          ],
        );
        distinct =
            all_pairs_push (λ (line other : Line). line.prefix ≢ other.prefix) now new judged.distinct other_prefix;
        few = omega (arith, judged.few, length_push now new);
      }

-- all candidates judged
pub all_node_lines_judged : (merged : MergedValue) (threshold : ℕ) (reported : List PrefixValue) (node : NodeValue)
    (old now : List Line) (place : ℕ)
    → node.grain ≡ merged.shape.grain → length (candidates_at merged node) ≤ place
    → HasJudgedNodeLines merged threshold reported node (candidates_at merged node) old now place
    → (line : Line) → Contains now line
    ↔ (Contains old line ⊎ ((node_of_prefix merged.shape.grain line.prefix ≡ node)
    × IsSelected merged threshold reported line))
all_node_lines_judged merged threshold reported node old now place of_grain done judged line =
    let all : take place (candidates_at merged node) ≡ candidates_at merged node =
    take_all place (candidates_at merged node) done in (
      λ there. elim ((judged.members line).0 there) [
        | inl old_one ↦ inl old_one
        | inr among ↦ let of_node : node_of_prefix merged.shape.grain line.prefix ≡ node =
            ap (λ g. node_of_prefix g line.prefix) (sym of_grain) ∙ among.has_key.of_node in inr (
              of_node,
              record {
                is_prefix = subst (λ g. IsPrefix g line.prefix) of_grain among.has_key.is_prefix;
                candidate =
                    subst (λ n. Contains (candidates_at merged n) (prefix_key line.prefix)) (sym of_node)
                    (subst (λ ks. Contains ks (prefix_key line.prefix)) all among.key);
                asked = among.asked;
              },
            )
      ],
      λ either. elim either [
        | inl old_one ↦ (judged.members line).1 (inl old_one)
        | inr selected ↦ (judged.members line).1 (inr (record {
          has_key = record {
            is_prefix = subst (λ g. IsPrefix g line.prefix) (sym of_grain) selected.1.is_prefix;
            of_node = ap (λ g. node_of_prefix g line.prefix) of_grain ∙ selected.0;
            of_key = refl;
          };
          key =
              subst (λ ks. Contains ks (prefix_key line.prefix)) (sym all)
              (subst (λ n. Contains (candidates_at merged n) (prefix_key line.prefix)) selected.0
              selected.1.candidate);
          asked = selected.1.asked;
        }))
      ],
    )

-- the next key is judged, whether it has a line or not
module _ (merged : MergedValue) (threshold : ℕ) (reported : List PrefixValue) (node : NodeValue) (keys : List ℕ)
    (old now : List Line) (place key : ℕ)
    (judged : HasJudgedNodeLines merged threshold reported node keys old now place)
    (of_grain : node.grain ≡ merged.shape.grain)
    (elsewhere : All (λ (line : Line). node_of_prefix merged.shape.grain line.prefix ≢ node) old)
    (distinct : AllPairs (λ k other. k ≢ other) keys) (within : place < length keys)
    (read : key ≡ get_or keys place key) where
  pub next_node_line_judged : (found : Option Line)
      → ((line : Line) → HasPrefixKey node key line.prefix → (found ≡ Some line) ↔ CanSelect merged threshold reported line)
      → ((line : Line) → found ≡ Some line → HasPrefixKey node key line.prefix)
      → HasJudgedNodeLines merged threshold reported node keys old (now ++ option_to_list found) (place + 1)
  next_node_line_judged None asked its_prefix =
      subst (λ lines. HasJudgedNodeLines merged threshold reported node keys old lines (place + 1)) (sym (append-nil now))
      (node_line_missing_is_judged merged threshold reported node keys old now place key None judged of_grain elsewhere
      distinct within read asked its_prefix refl)
  next_node_line_judged (Some line) asked its_prefix =
      node_line_found_is_judged merged threshold reported node keys old now place key
      (Some line) judged of_grain elsewhere
      distinct within read asked its_prefix line refl
