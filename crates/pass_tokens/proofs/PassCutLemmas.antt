-- One read of each shard in turn.
use Rattle.std.proofs.Common.{◌≡◌, ℕ, zero, suc, ◌+◌, ◌<◌, ◌≤◌, ◌⊎◌, inl, inr, ⊎_elim, List, [], ◌∷◌, ◌++◌}
use Rattle.std.proofs.Common.{append-nil, map, drop, length, set, slice_get, Some, All, refl, sym, ap, ◌∙◌, arith}
use Rattle.std.proofs.Common.{subst}
use Rattle.std.specs.Prelude.{slice_index}
use Rattle.std.proofs.Math.Seq.{drop-length}
use Rattle.std.proofs.lemmas.List.{length-map}
use Rattle.std.proofs.lemmas.List.Elements.{All-nil, All-cons, All-append}
use Rattle.std.proofs.lemmas.Option.{same_Some}
use Rattle.shard_state.specs.{CutValue, HasCoreShape, IsShard, ShardValue, changed_in, snapshot_of}
use Rattle.shard_state.specs.{TableShape, shard_state_at, with_shard}
use Rattle.position_words.specs.{IsOddWord, seen_in, with_trail}
use Rattle.position_words.specs.declared.view.Trail.{Trail}
use Rattle.position_words.specs.declared.view.View.{View}
use Rattle.pass_tokens.specs.TryRead.{ReadsAtLast, ReadsCut, ReadsSoFar, ShardRead, after_read, after_reads}
use Rattle.pass_tokens.specs.TryRead.{states_of}

pass_cut_without_reads : (trails : List Trail) → after_reads trails [] ≡ trails
pass_cut_without_reads [] = refl
pass_cut_without_reads (trail ∷ rest) = refl

pass_cut_without_states : (opening : List ShardValue) → states_of opening [] ≡ []
pass_cut_without_states [] = refl
pass_cut_without_states (shard ∷ rest) = refl

-- one read more changes the next trail
next_trail_of_pass_cut : (trails : List Trail) (reads : List ShardRead) (read : ShardRead)
    → changed_in (after_read read) (length reads) (after_reads trails reads) ≡ after_reads trails (reads ++ read ∷ [])
next_trail_of_pass_cut [] reads read = refl
next_trail_of_pass_cut (trail ∷ rest) [] read = ap (λ ts. after_read read trail ∷ ts) (sym (pass_cut_without_reads rest))
next_trail_of_pass_cut (trail ∷ rest) (first ∷ reads) read = ap (λ ts. after_read first trail ∷ ts) (next_trail_of_pass_cut rest reads read)

-- and leaves what was seen of the later shards
pass_cut_keeps_later_seen : (trails : List Trail) (reads : List ShardRead) (shard : ℕ) → length reads ≤ shard
    → slice_index (map (λ trail. trail.seen) (after_reads trails reads)) shard
    ≡ slice_index (map (λ trail. trail.seen) trails) shard
pass_cut_keeps_later_seen [] reads shard past = refl
pass_cut_keeps_later_seen (trail ∷ rest) [] shard past = refl
pass_cut_keeps_later_seen (trail ∷ rest) (read ∷ reads) zero past = absurd (omega arith)
pass_cut_keeps_later_seen (trail ∷ rest) (read ∷ reads) (suc shard) past = pass_cut_keeps_later_seen rest reads shard (omega arith)

next_state_of_pass_cut : (opening : List ShardValue) (reads : List ShardRead) (read : ShardRead) (state : ShardValue)
    → slice_get opening (length reads) ≡ Some state
    → states_of opening (reads ++ read ∷ []) ≡ states_of opening reads ++ shard_state_at read.position state ∷ []
next_state_of_pass_cut [] reads read state is = cc is
next_state_of_pass_cut (shard ∷ rest) [] read state is =
    ap (λ (s : ShardValue). shard_state_at read.position s ∷ states_of rest []) (same_Some shard state is)
    ∙ ap (λ ss. shard_state_at read.position state ∷ ss) (pass_cut_without_states rest)
next_state_of_pass_cut (shard ∷ rest) (first ∷ reads) read state is =
    ap (λ ss. shard_state_at first.position shard ∷ ss) (next_state_of_pass_cut rest reads read state is)

length-pass_cut_states : (opening : List ShardValue) (reads : List ShardRead) → length reads ≤ length opening
    → length (states_of opening reads) ≡ length reads
length-pass_cut_states [] [] few = refl
length-pass_cut_states [] (read ∷ reads) few = absurd (omega arith)
length-pass_cut_states (shard ∷ rest) [] few = refl
length-pass_cut_states (shard ∷ rest) (read ∷ reads) few = ap suc (length-pass_cut_states rest reads (omega arith))

-- the element after the first ones is written
pass_cut_next_element_set : {X : Type 0} (done all : List X) (x : X) → length done < length all
    → set (done ++ drop (length done) all) (length done) x ≡ (done ++ x ∷ []) ++ drop (suc (length done)) all
pass_cut_next_element_set done [] x inside = absurd (omega arith)
pass_cut_next_element_set [] (y ∷ ys) x inside = refl
pass_cut_next_element_set (z ∷ zs) (y ∷ ys) x inside = ap (λ l. z ∷ l) (pass_cut_next_element_set zs ys x (omega arith))

pass_cut_last_or_before : {X : Type 0} (xs : List X) (last x : X) (place : ℕ) → slice_get (xs ++ last ∷ []) place ≡ Some x
    → (slice_get xs place ≡ Some x) ⊎ ((place ≡ length xs) × (last ≡ x))
pass_cut_last_or_before [] last x zero is = inr (refl, same_Some last x is)
pass_cut_last_or_before [] last x (suc place) is = cc is
pass_cut_last_or_before (y ∷ ys) last x zero is = inl is
pass_cut_last_or_before (y ∷ ys) last x (suc place) is =
    ⊎_elim (λ old. inl old) (λ new. inr (ap suc new.0, new.1)) (pass_cut_last_or_before ys last x place is)

length-pass_cut_append : {X : Type 0} (xs : List X) (x : X) → length (xs ++ x ∷ []) ≡ length xs + 1
length-pass_cut_append [] x = refl
length-pass_cut_append (y ∷ ys) x = let rest : length (ys ++ x ∷ []) ≡ length ys + 1 = length-pass_cut_append ys x in omega (arith, rest)

pass_cut_next_number : (n : ℕ) → suc n ≡ n + 1
pass_cut_next_number n = omega arith

pub pass_cut_begins_unread : (opening : List ShardValue) (view : View) (cut : CutValue) → ReadsSoFar opening 0 view cut view cut
pass_cut_begins_unread opening view cut = record {
  reads = [];
  as_many = refl;
  odd = All-nil (λ read. All IsOddWord read.losses);
  kept = subst (All IsShard) (sym (pass_cut_without_states opening)) (All-nil IsShard);
  later = λ shard read is. cc is;
  view = ap (λ trails. record view { trails = trails }) (sym (pass_cut_without_reads view.trails));
  core = ap (λ states. record cut { shards = map snapshot_of states ++ cut.shards }) (sym (pass_cut_without_states opening));
}

-- one shard more
pub pass_cut_reads_next : (opening : List ShardValue) (shape : TableShape) (count : ℕ) (before now after : View)
    (cut mid changed : CutValue) → count < length opening → HasCoreShape (length opening) shape cut
    → ReadsSoFar opening count before cut now mid → ReadsAtLast opening count now mid after changed
    → ReadsSoFar opening (count + 1) before cut after changed
pass_cut_reads_next opening shape count before now after cut mid changed_cut inside has far one =
    let reads : List ShardRead = far.reads in
    let at : slice_get opening (length reads) ≡ Some one.state = ap (slice_get opening) far.as_many ∙ one.is in
    let state : ShardValue = shard_state_at one.read.position one.state in
    let states : states_of opening (reads ++ one.read ∷ []) ≡ states_of opening reads ++ state ∷ [] =
    next_state_of_pass_cut opening reads one.read one.state at in
    let many : length (map snapshot_of (states_of opening reads)) ≡ count =
    length-map (states_of opening reads) snapshot_of
    ∙ length-pass_cut_states opening reads (omega (arith, far.as_many, inside)) ∙ far.as_many in
    record {
      reads = reads ++ one.read ∷ [];
      as_many = omega (arith, length-pass_cut_append reads one.read, far.as_many);
      odd =
          All-append (λ read. All IsOddWord read.losses) reads (one.read ∷ []) far.odd
          (All-cons (λ read. All IsOddWord read.losses) one.read [] one.odd
          (All-nil (λ read. All IsOddWord read.losses)));
      kept =
          subst (All IsShard) (sym states)
          (All-append IsShard (states_of opening reads) (state ∷ []) far.kept
          (All-cons IsShard state [] one.kept (All-nil IsShard)));
      later = λ shard read is.
          ⊎_elim (λ old. far.later shard read old)
          (λ new.
          let seen : seen_in count now ≡ seen_in count before =
          ap (seen_in count) far.view ∙ pass_cut_keeps_later_seen before.trails reads count (omega (arith, far.as_many)) in
          let place : shard ≡ count = new.0 ∙ far.as_many in
          subst (λ k. seen_in k before ≤ read.position) (sym place)
          (subst (λ (r : ShardRead). seen_in count before ≤ r.position) new.1 (omega (arith, one.later, seen))))
          (pass_cut_last_or_before reads one.read read shard is);
      view = one.view ∙ ap (with_trail (after_read one.read) count) far.view
          ∙ ap (λ trails. record before { trails = trails })
          (ap (λ k. changed_in (after_read one.read) k (after_reads before.trails reads)) (sym far.as_many)
          ∙ next_trail_of_pass_cut before.trails reads one.read);
      core = one.core ∙ ap (with_shard count (Some state)) far.core
          ∙ ap (λ shards. record cut { shards = shards }) (
          subst (λ k. set (map snapshot_of (states_of opening reads) ++ drop k cut.shards) k (snapshot_of state)
          ≡ (map snapshot_of (states_of opening reads) ++ snapshot_of state ∷ []) ++ drop (suc k) cut.shards) many
          (pass_cut_next_element_set (map snapshot_of (states_of opening reads)) cut.shards (snapshot_of state)
          (omega (arith, many, inside, has.as_many)))
          ∙ ap (λ n. (map snapshot_of (states_of opening reads) ++ snapshot_of state ∷ []) ++ drop n cut.shards)
          (pass_cut_next_number count)
          ∙ ap (λ ss. ss ++ drop (count + 1) cut.shards)
          (sym (map-snoc (states_of opening reads) state) ∙ ap (map snapshot_of) (sym states)));
    }
  where
    map-snoc : (states : List ShardValue) (state : ShardValue)
        → map snapshot_of (states ++ state ∷ []) ≡ map snapshot_of states ++ snapshot_of state ∷ []
    map-snoc [] state = refl
    map-snoc (first ∷ rest) state = ap (λ ss. snapshot_of first ∷ ss) (map-snoc rest state)

-- all of them
pub pass_cut_reads_all : (opening : List ShardValue) (shape : TableShape) (count : ℕ) (before now : View) (cut changed : CutValue)
    → HasCoreShape (length opening) shape cut → count ≡ length opening
    → ReadsSoFar opening count before cut now changed → ReadsCut opening before cut now changed
pass_cut_reads_all opening shape count before now cut changed_cut has all far =
    let past : drop count cut.shards ≡ [] =
    ap (λ n. drop n cut.shards) (all ∙ sym has.as_many) ∙ drop-length cut.shards in
    record {
      reads = far.reads;
      as_many = far.as_many ∙ all;
      odd = far.odd;
      kept = far.kept;
      later = far.later;
      view = far.view;
      core = far.core ∙ ap (λ shards. record cut { shards = shards })
          (ap (λ ss. map snapshot_of (states_of opening far.reads) ++ ss) past
          ∙ append-nil (map snapshot_of (states_of opening far.reads)));
    }
