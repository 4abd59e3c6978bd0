use Rattle.std.proofs.Common.{◌≡◌, ◌+◌, ◌++◌, ◌∷◌, [], ℕ, List, length, set, sym, ap, ◌∙◌, subst, arith}
use Rattle.std.proofs.lemmas.List.{set_at, length_push}
use Rattle.key_index.specs.{HoldsKeys, HoldsKeysButOne}
use Rattle.space_saving.specs.{put_into}
use Rattle.stream_summary.specs.declared.slot.Slot.{Slot}
use Rattle.stream_summary.specs.Buckets.{keys_of}
use Rattle.stream_summary.proofs.ReplacedEntryLemmas.{replaced_entries_after_put}
use Rattle.stream_summary.proofs.StepOfTableLemmas.{table_parts_appended, slots_of_keys}
use Rattle.stream_summary.proofs.steps.append.Goals as goal

-- the keys after one was put behind them
append_keys : (slots pushed after : List Slot) (place key : ℕ) → place ≡ length slots → keys_of pushed ≡ keys_of slots ++ key ∷ []
    → keys_of after ≡ set (keys_of pushed) place key → keys_of after ≡ keys_of slots ++ key ∷ []
append_keys slots pushed after place key at before is =
    is ∙ ap (λ l. set l place key) before ∙ set_at (keys_of slots) key [] key place (slots_of_keys slots ∙ sym at)

pub enter-requires-clause-others : goal.enter-requires-clause-others
enter-requires-clause-others c =
    let old = c.args.arena.now in
    let keys = append_keys old.slots.items c.push-number.new.self.slots.items c.put_in.new.self.slots.items c.push-number.result.0 c.args.entry.key
    c.push-number.ensures.number c.push-number.ensures.keys c.put_in.ensures.keys in
    let at : length (keys_of old.slots.items) ≡ c.index.result = slots_of_keys old.slots.items ∙ sym (c.index.ensures ∙ c.push-number.ensures.number) in
    let missing : HoldsKeysButOne (length (keys_of old.slots.items)) (keys_of old.slots.items ++ c.args.entry.key ∷ []) c.args.index.now =
    c.appended_key_is_missing.ensures (keys_of old.slots.items) c.args.entry.key c.args.index.now
    (omega (arith, slots_of_keys old.slots.items, c.requires.together.roomy, c.requires.room)) c.requires.together.keyed in
    subst (λ n. HoldsKeysButOne n (keys_of c.deref.result.now) c.args.index.now) at
    (subst (λ l. HoldsKeysButOne (length (keys_of old.slots.items)) l c.args.index.now) (sym (ap keys_of c.deref.ensures.value ∙ keys)) missing)

pub returns : goal.returns
returns c =
    let old = c.args.arena.now in
    let new = c.put_in.new.self in
    let keys = append_keys old.slots.items c.push-number.new.self.slots.items new.slots.items c.push-number.result.0 c.args.entry.key
    c.push-number.ensures.number c.push-number.ensures.keys c.put_in.ensures.keys in
    let long : length (keys_of new.slots.items) ≡ length (keys_of old.slots.items) + 1 =
    ap (λ (l : List ℕ). length l) keys ∙ length_push (keys_of old.slots.items) c.args.entry.key in
    let buckets : length new.buckets.items ≡ length old.buckets.items = c.put_in.ensures.buckets ∙ ap (λ v. length v.items) c.push-number.ensures.buckets in
    record {
      together = table_parts_appended c.args.index.now c.enter.new.self old c.push-number.new.self new c.push-number.result.0 c.args.entry
          c.requires.together c.put_in.ensures.arena c.push-number.ensures.number c.push-number.ensures.order c.put_in.ensures.put long
          (subst (λ l. HoldsKeys (keys_of l) c.enter.new.self) c.deref.ensures.value c.enter.ensures.holds) c.enter.ensures.room
          (omega (arith, c.push-number.ensures.memory, c.put_in.ensures.memory)) buckets;
      buckets = buckets;
      slots = omega (arith, long, slots_of_keys new.slots.items, slots_of_keys old.slots.items);
      entries = replaced_entries_after_put c.push-number.result.0 c.args.entry c.push-number.new.self new c.put_in.ensures.put
          ∙ ap (put_into c.args.entry) c.push-number.ensures.entries;
    }
