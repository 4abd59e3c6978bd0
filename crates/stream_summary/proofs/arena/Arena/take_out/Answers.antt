use Rattle.std.proofs.Common.{◌≡◌, ◌≢◌, ◌<◌, ◌++◌, ◌∷◌, [], List, length, get_or, refl, sym, ap, ◌∙◌, subst, arith}
use Rattle.stream_summary.specs.Ring.{IsIn}
use Rattle.stream_summary.specs.Buckets.{bucket_of, count_of, free_count, last_of, no_bucket}
use Rattle.stream_summary.specs.Arena.{given_back, with_last}
use Rattle.stream_summary.proofs.ArenaLemmas.{arena_entry_is_used, arena_entry_is_within, arena_bucket_elsewhere}
use Rattle.stream_summary.proofs.ArenaTakeLemmas.{arena_without, arena_new_last, arena_given_back}
use Rattle.stream_summary.proofs.ArenaTakeLemmas.{arena_taken_with_counts, arena_count_with_last}
use Rattle.stream_summary.proofs.ArenaTakeLemmas.{arena_bucket_before_given_back, arena_numbers_agree}
use Rattle.stream_summary.proofs.ArenaTakeLemmas.{arena_numbers_differ, arena_taken_is_alone}
use Rattle.stream_summary.proofs.AllInPairwiseLemmas.{all_at}
use Rattle.stream_summary.specs.declared.slot.Bucket.{Bucket}
use Rattle.std.proofs.lemmas.List.{length-set}
use Rattle.std.proofs.lemmas.Option.{IfSome_then}
use Rattle.stream_summary.proofs.arena.Arena.take_out.Goals as goal

pub bucket_of-bucket-requires : goal.bucket_of-bucket-requires
bucket_of-bucket-requires c = arena_entry_is_within c.args.self.now c.args.number.0 c.requires.arena c.requires.stands

pub last_of-requires : goal.last_of-requires
last_of-requires c =
    subst (λ n. n < length c.args.self.now.buckets.items) (sym c.bucket_of-bucket.ensures)
    (arena_entry_is_used c.args.self.now c.args.number.0 c.requires.arena c.requires.stands).within

pub returns-then-ne-clause-arena : goal.returns-then-ne-clause-arena
returns-then-ne-clause-arena c =
    let old = c.args.self.now in
    let at = c.requires.stands in
    let is_last = c.last_of.ensures ∙ ap (last_of old.buckets.items) c.bucket_of-bucket.ensures in
    arena_without old (record old { order = c.remove.new.self }) at.front c.args.number.0
    at.back c.requires.arena at.is (λ same. arena_numbers_differ c.last_of.result.0 c.args.number.0 c.if-ne.ensures (is_last ∙ same)) refl refl
    c.remove.ensures.room (c.remove.ensures.order at.front at.back at.is) refl

pub returns-then-ne-clause-within : goal.returns-then-ne-clause-within
returns-then-ne-clause-within c =
    subst (λ n. n < length c.args.self.now.buckets.items) (sym c.bucket_of-bucket.ensures)
    (arena_entry_is_used c.args.self.now c.args.number.0 c.requires.arena c.requires.stands).within

pub set_last-requires : goal.set_last-requires
set_last-requires c =
    subst (λ n. n < length c.args.self.now.buckets.items) (sym c.bucket_of-bucket.ensures)
    (arena_entry_is_used c.args.self.now c.args.number.0 c.requires.arena c.requires.stands).within

pub give_back-requires-clause-within : goal.give_back-requires-clause-within
give_back-requires-clause-within c =
    subst (λ n. n < length c.args.self.now.buckets.items) (sym c.bucket_of-bucket.ensures)
    (arena_entry_is_used c.args.self.now c.args.number.0 c.requires.arena c.requires.stands).within

pub give_back-requires-clause-stands : goal.give_back-requires-clause-stands
give_back-requires-clause-stands c =
    subst (λ n. IsIn n c.args.self.now.steps.order) (sym c.bucket_of-bucket.ensures)
    (c.requires.arena.linked.whole (bucket_of c.args.self.now.slots.items c.args.number.0)
    (arena_entry_is_used c.args.self.now c.args.number.0 c.requires.arena c.requires.stands).within)

pub returns-in-Some-clause-arena : goal.returns-in-Some-clause-arena
returns-in-Some-clause-arena c =
    let old = c.args.self.now in
    let at = c.requires.stands in
    let heir = c.in-Some.ensures at.front at.back at.is in
    let b = c.bucket_of-bucket.ensures in
    let is_last : last_of old.buckets.items (bucket_of old.slots.items c.args.number.0) ≡ c.args.number.0 =
    ap (last_of old.buckets.items) (sym b) ∙ sym c.last_of.ensures ∙ arena_numbers_agree c.last_of.result.0 c.args.number.0 c.if-ne.ensures in
    arena_new_last old c.set_last.new.self heir.0.0 c.in-Some.before c.args.number.0 at.front at.back c.requires.arena at.is heir.0.1 is_last
    (heir.1 ∙ b) (arena_entry_is_used old c.args.number.0 c.requires.arena at).within c.set_last.ensures.slots
    (c.set_last.ensures.buckets ∙ ap (λ n. with_last old.buckets.items n c.in-Some.before) b)
    (ap (λ r. r.room) c.set_last.ensures.order ∙ c.remove.ensures.room)
    (ap (λ r. r.order) c.set_last.ensures.order ∙ c.remove.ensures.order at.front at.back at.is) c.set_last.ensures.steps

pub returns-in-Some-clause-taken : goal.returns-in-Some-clause-taken
returns-in-Some-clause-taken c =
    let old = c.args.self.now in
    let at = c.requires.stands in
    let b = c.bucket_of-bucket.ensures in
    let within = (arena_entry_is_used old c.args.number.0 c.requires.arena at).within in
    arena_taken_with_counts old c.set_last.new.self at.front c.args.number.0 at.back at.is
    (ap (λ r. r.order) c.set_last.ensures.order ∙ c.remove.ensures.order at.front at.back at.is) c.set_last.ensures.slots
    (λ x is_in. ap (λ bs. count_of bs (bucket_of old.slots.items x))
    (c.set_last.ensures.buckets ∙ ap (λ n. with_last old.buckets.items n c.in-Some.before) b)
    ∙ arena_count_with_last old.buckets.items (bucket_of old.slots.items c.args.number.0) c.in-Some.before (bucket_of old.slots.items x) within)

pub returns-in-Some-clause-within : goal.returns-in-Some-clause-within
returns-in-Some-clause-within c =
    let old = c.args.self.now in
    let b = c.bucket_of-bucket.ensures in
    let within = (arena_entry_is_used old c.args.number.0 c.requires.arena c.requires.stands).within in
    omega (
      arith,
      b,
      within,
      ap (λ (bs : List Bucket). length bs) c.set_last.ensures.buckets,
      length-set old.buckets.items c.bucket_of-bucket.result.0
          (record { count = (get_or old.buckets.items c.bucket_of-bucket.result.0 no_bucket).count; last = c.in-Some.before }),
    )

pub returns-in-Some-clause-below : goal.returns-in-Some-clause-below
returns-in-Some-clause-below c =
    let old = c.args.self.now in
    let b = c.bucket_of-bucket.ensures in
    let within = (arena_entry_is_used old c.args.number.0 c.requires.arena c.requires.stands).within in
    let same = ap (λ bs. count_of bs c.bucket_of-bucket.result.0)
    (c.set_last.ensures.buckets ∙ ap (λ n. with_last old.buckets.items n c.in-Some.before) b)
    ∙ arena_count_with_last old.buckets.items (bucket_of old.slots.items c.args.number.0) c.in-Some.before c.bucket_of-bucket.result.0 within
    ∙ ap (count_of old.buckets.items) b in
    omega (arith, same)

pub returns-in-None-clause-arena : goal.returns-in-None-clause-arena
returns-in-None-clause-arena c =
    let old = c.args.self.now in
    let at = c.requires.stands in
    let place = c.args.number.0 in
    let b = c.bucket_of-bucket.ensures in
    let used = arena_entry_is_used old place c.requires.arena at in
    let mine = bucket_of old.slots.items place in
    let step = c.requires.arena.linked.whole mine used.within in
    let is_last : last_of old.buckets.items mine ≡ place =
    ap (last_of old.buckets.items) (sym b) ∙ sym c.last_of.ensures ∙ arena_numbers_agree c.last_of.result.0 place c.if-ne.ensures in
    let alone = arena_taken_is_alone old at.front place at.back c.requires.arena at.is is_last
    (λ start before ends same. c.in-None.ensures at.front at.back at.is before (start, ends) (same ∙ sym b)) in
    arena_given_back old c.give_back.new.self at.front place at.back step.front step.back c.requires.arena at.is step.is alone used.within
    c.give_back.ensures.slots (c.give_back.ensures.buckets ∙ ap (given_back old.buckets.items) b)
    (ap (λ r. r.room) c.give_back.ensures.order ∙ c.remove.ensures.room)
    (ap (λ r. r.order) c.give_back.ensures.order ∙ c.remove.ensures.order at.front at.back at.is) c.give_back.ensures.room
    (c.give_back.ensures.steps step.front step.back (step.is ∙ ap (λ n. step.front ++ n ∷ step.back) (sym b))
    ∙ ap (λ n. (step.front ++ step.back) ++ n ∷ []) b)

pub returns-in-None-clause-taken : goal.returns-in-None-clause-taken
returns-in-None-clause-taken c =
    let old = c.args.self.now in
    let at = c.requires.stands in
    let place = c.args.number.0 in
    let b = c.bucket_of-bucket.ensures in
    let mine = bucket_of old.slots.items place in
    let is_last : last_of old.buckets.items mine ≡ place =
    ap (last_of old.buckets.items) (sym b) ∙ sym c.last_of.ensures ∙ arena_numbers_agree c.last_of.result.0 place c.if-ne.ensures in
    let alone = arena_taken_is_alone old at.front place at.back c.requires.arena at.is is_last
    (λ start before ends same. c.in-None.ensures at.front at.back at.is before (start, ends) (same ∙ sym b)) in
    arena_taken_with_counts old c.give_back.new.self at.front place at.back at.is
    (ap (λ r. r.order) c.give_back.ensures.order ∙ c.remove.ensures.order at.front at.back at.is) c.give_back.ensures.slots
    (λ x is_in. ap (λ bs. count_of bs (bucket_of old.slots.items x)) (c.give_back.ensures.buckets ∙ ap (given_back old.buckets.items) b)
    ∙ ap (λ (k : Bucket). k.count) (arena_bucket_elsewhere old.buckets.items mine (bucket_of old.slots.items x)
    (record { count = free_count; last = (get_or old.buckets.items mine no_bucket).last })
    (all_at (λ z. bucket_of old.slots.items z ≢ mine) x (at.front ++ at.back) alone is_in)))

pub returns-in-None-clause-buckets : goal.returns-in-None-clause-buckets
returns-in-None-clause-buckets c =
    ap (λ (bs : List Bucket). length bs) c.give_back.ensures.buckets ∙ length-set c.args.self.now.buckets.items c.bucket_of-bucket.result.0
    (record { count = free_count; last = (get_or c.args.self.now.buckets.items c.bucket_of-bucket.result.0 no_bucket).last })

pub returns-in-None-clause-within : goal.returns-in-None-clause-within
returns-in-None-clause-within c =
    let old = c.args.self.now in
    let b = c.bucket_of-bucket.ensures in
    let within = subst (λ n. n < length old.buckets.items) (sym b) (arena_entry_is_used old c.args.number.0 c.requires.arena c.requires.stands).within in
    IfSome_then c.give_back.result (arena_bucket_before_given_back old c.give_back.new.self c.bucket_of-bucket.result.0 c.give_back.result c.requires.arena
    within c.give_back.ensures.buckets c.give_back.ensures.before) (λ before parts. parts.0)

pub returns-in-None-clause-below : goal.returns-in-None-clause-below
returns-in-None-clause-below c =
    let old = c.args.self.now in
    let b = c.bucket_of-bucket.ensures in
    let within = subst (λ n. n < length old.buckets.items) (sym b) (arena_entry_is_used old c.args.number.0 c.requires.arena c.requires.stands).within in
    IfSome_then c.give_back.result (arena_bucket_before_given_back old c.give_back.new.self c.bucket_of-bucket.result.0 c.give_back.result c.requires.arena
    within c.give_back.ensures.buckets c.give_back.ensures.before) (λ before parts. omega (arith, parts.1, ap (count_of old.buckets.items) b))
