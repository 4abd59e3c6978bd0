-- A text that is written a piece at a time.
use Rattle.std.proofs.Common.{◌≡◌, ℕ, ◌<◌, List, [], ◌++◌, Option, None, Some, refl, sym, ap, ◌∙◌, append_assoc}
use Rattle.std.proofs.Common.{append-nil, take, drop, subst, take-append-drop, length, length-append, arith}
use Rattle.std.specs.Io.KnownBytes.{Appends, Keeps}
use Rattle.std.proofs.KnownBytes.{Appends-nil, Appends-trans}
use Rattle.outside_io.specs.Writing.{AppendsPart}

-- a front of the text was taken, and this rest is still to be written
pub record IsSentText (old new : Option (List ℕ)) (text rest : List ℕ) : Type 0 where
  pub front : List ℕ
  pub joined : text ≡ front ++ rest
  pub appended : Appends old new front

-- nothing is sent yet
pub none_of_text_is_sent : (taken : Option (List ℕ)) (text : List ℕ) → IsSentText taken taken text text
none_of_text_is_sent taken text = record { front = []; joined = refl; appended = Appends-nil taken }

-- one more piece is sent
pub more_of_text_is_sent : (old mid new : Option (List ℕ)) (text rest : List ℕ) (count : ℕ)
    → IsSentText old mid text rest → Appends mid new (take count rest) → (after : List ℕ) → after ≡ drop count rest
    → IsSentText old new text after
more_of_text_is_sent old mid new text rest count sent took after is_after = subst (IsSentText old new text) (sym is_after) (record {
  front = sent.front ++ take count rest;
  joined =
      sent.joined ∙ ap (λ l. sent.front ++ l) (sym (take-append-drop count rest))
      ∙ sym (append_assoc sent.front (take count rest) (drop count rest));
  appended = Appends-trans old mid new sent.front (take count rest) sent.appended took;
})

-- all is sent
pub all_text_is_sent : (old new : Option (List ℕ)) (text : List ℕ) → IsSentText old new text [] → Appends old new text
all_text_is_sent old new text sent = subst (Appends old new) (sym (sent.joined ∙ append-nil sent.front)) sent.appended

-- bytes that were appended stay appended after a call that takes nothing
sent_text_stays : (old mid new : Option (List ℕ)) (front : List ℕ) → Appends old mid front → Keeps mid new
    → Appends old new front
sent_text_stays None mid new front took kept = tt
sent_text_stays (Some x) None new front took kept = absurd took
sent_text_stays (Some x) (Some y) None front took kept = absurd kept
sent_text_stays (Some x) (Some y) (Some z) front took kept = kept ∙ took

-- if bytes are still to be written when a call takes nothing, a strict prefix of the text was appended
pub text_beginning_is_sent : (old mid new : Option (List ℕ)) (text rest : List ℕ)
    → IsSentText old mid text rest → 0 < length rest → Keeps mid new → AppendsPart old new text
text_beginning_is_sent old mid new text rest sent some kept = record {
  front = sent.front;
  is_beginning = (rest, sent.joined);
  cut = omega (arith, some, ap length sent.joined, length-append sent.front rest);
  appended = sent_text_stays old mid new sent.front sent.appended kept;
}
