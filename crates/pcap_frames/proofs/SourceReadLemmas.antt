-- A source that is read piece by piece, after some first bytes, with a reader of any format.
use Rattle.std.proofs.Common.{ℕ, ◌≡◌, ◌-◌, ◌<◌, List, [], ◌++◌, length, Option, None, Some}
use Rattle.std.proofs.Common.{IfSome, Ok, Err, sym, ap, ◌∙◌, arith, length-append, subst, refl}
use Rattle.std.proofs.Common.{append-nil, append_assoc, inl, inr}
use Rattle.std.specs.Io.KnownBytes.{Consumes, Keeps, IsAtEnd}
use Rattle.std.proofs.KnownBytes.{Consumes-nil, Consumes-trans, Consumes-kept, Consumes-whole}
use Rattle.pcap_frames.specs.declared.fault.CaptureFault.{CaptureFault}
use Rattle.pcap_frames.specs.declared.fault.FeedFault.{FeedFault}
use Rattle.pcap_frames.specs.declared.fault.FeedFault.TheVariants as feed
use Rattle.pcap_frames.specs.declared.fault.ReadRefusal.TheVariants.{Capture}
use Rattle.pcap_frames.specs.Frame.{FrameValue, AreFrames}
use Rattle.pcap_frames.specs.CaptureFormat.{Format, Completes}
use Rattle.pcap_frames.specs.Decided.{IsDecided}
use Rattle.pcap_frames.specs.Visitor.{VisitorSees}
use Rattle.pcap_frames.specs.Feeding.{ReadsFormat, IsResultAfter, IfHadMemory, FeedsReader, ShowsBeginning, IsFinalResult, fed_limit}
use Rattle.pcap_frames.specs.Reading.{refusal_of, ShowsCapture, ShowsBeforeFault, ShowsFront}
use Rattle.pcap_frames.specs.Reading.{ShowsPart, IsSeen, IsReadingOf}
use Rattle.pcap_frames.proofs.FedPieceLemmas.{AreFrames-of_fed_pieces, VisitorSees-no_fed_piece}
use Rattle.pcap_frames.proofs.FedPieceLemmas.{VisitorSees-two_fed_pieces}
use Rattle.pcap_frames.proofs.CompletedFrontLemmas.{completed_front}

-- a reader that returns Ok goes on
source_read_answer_goes_on : {T : Type 0} (stop : Option FeedFault) (x : T) → IsResultAfter stop (Ok x) → stop ≡ None
source_read_answer_goes_on None x answer = refl
source_read_answer_goes_on (Some fault) x answer = absurd cc

-- a reader that returns a fault has stopped at it
source_read_answer_stops : (T : Type 0) (stop : Option FeedFault) (fault : FeedFault) → IsResultAfter {T = T} stop (Err fault)
    → stop ≡ Some fault
source_read_answer_stops T None fault answer = absurd cc
source_read_answer_stops T (Some own) fault answer = ap Some (let same : own ≡ fault = cc in same)

-- ---- what a source with known bytes held

source_read_holds_always : {X : Type 0} (o : Option X) (P : X → Type 0) → ((x : X) → P x) → IfSome o P
source_read_holds_always None P every = tt
source_read_holds_always (Some x) P every = every x

pub source_read_holds_weaker : {X : Type 0} (o : Option X) (P Q : X → Type 0) → ((x : X) → P x → Q x) → IfSome o P → IfSome o Q
source_read_holds_weaker None P Q gives h = tt
source_read_holds_weaker (Some x) P Q gives h = gives x h

source_read_consumed_front : (old new : Option (List ℕ)) (bytes : List ℕ) (P : List ℕ → Type 0) → Consumes old new bytes
    → ((rest : List ℕ) → P (bytes ++ rest)) → IfSome old P
source_read_consumed_front None new bytes P consumed every = tt
source_read_consumed_front (Some xs) None bytes P consumed every = absurd consumed
source_read_consumed_front (Some xs) (Some ys) bytes P consumed every = subst P (sym consumed) (every ys)

module _ {R V : Type 0} (format : Format) (first : List ℕ) (stands : R → List ℕ → List FrameValue → Type 0)
    (stop : R → Option FeedFault) (represents : V → List FrameValue → Type 0) where
  -- the first bytes and these of the source were read, the reader, which goes on, represents them, and the visitor saw their frames
  pub record HasReadSource (seen saw : V) (left now : Option (List ℕ)) (state : R) : Type 0 where
    pub front : List ℕ
    pub frames : List FrameValue
    pub consumed : Consumes left now front
    pub is : stands state (first ++ front) frames
    pub goes : stop state ≡ None
    pub are_frames : AreFrames frames
    pub sees : VisitorSees represents seen saw frames

  -- the same before the last piece was fed
  pub record HasReadPiece (seen saw : V) (left now : Option (List ℕ)) (state : R) (piece : List ℕ) : Type 0 where
    pub fed : List ℕ
    pub frames : List FrameValue
    pub is : stands state fed frames
    pub front : List ℕ
    pub joined : fed ++ piece ≡ first ++ front
    pub consumed : Consumes left now front
    pub are_frames : AreFrames frames
    pub sees : VisitorSees represents seen saw frames

  pub first_of_source_is_read : (visitor : V) (left : Option (List ℕ)) (state : R) → stands state [] []
      → HasReadPiece visitor visitor left left state first
  first_of_source_is_read visitor left state is = record {
    fed = [];
    frames = [];
    is = is;
    front = [];
    joined = sym (append-nil first);
    consumed = Consumes-nil left;
    are_frames = tt;
    sees = VisitorSees-no_fed_piece represents visitor;
  }

  pub piece_of_source_is_read : (seen saw : V) (left now after : Option (List ℕ)) (state : R) (piece : List ℕ)
      → HasReadSource seen saw left now state → Consumes now after piece → HasReadPiece seen saw left after state piece
  piece_of_source_is_read seen saw left now after state piece read consumed = record {
    fed = first ++ read.front;
    frames = read.frames;
    is = read.is;
    front = read.front ++ piece;
    joined = append_assoc first read.front piece;
    consumed = Consumes-trans left now after read.front piece read.consumed consumed;
    are_frames = read.are_frames;
    sees = read.sees;
  }

  pub more_of_source_is_read : {T : Type 0} (seen mid saw : V) (left now : Option (List ℕ)) (old new : R)
      (piece : List ℕ) (x : T)
      → HasReadPiece seen mid left now old piece → FeedsReader stands represents mid saw old new piece
      → IsResultAfter (stop new) (Ok x) → HasReadSource seen saw left now new
  more_of_source_is_read seen mid saw left now old new piece x read feeds answer =
      let fed = feeds.advances in record {
        front = read.front;
        frames = read.frames ++ feeds.given;
        consumed = read.consumed;
        is = subst (λ l. stands new l (read.frames ++ feeds.given)) read.joined (fed.reads read.fed read.frames read.is);
        goes = source_read_answer_goes_on (stop new) x answer;
        are_frames = AreFrames-of_fed_pieces read.frames feeds.given read.are_frames feeds.are_frames;
        sees = VisitorSees-two_fed_pieces represents seen mid saw read.frames feeds.given read.sees feeds.sees;
      }

  module _ (extent : R → ℕ) (reads : ReadsFormat format stands stop extent) where
    pub source_read_leaves_less : {T : Type 0} (seen mid saw : V) (left now : Option (List ℕ)) (old new : R)
        (piece : List ℕ) (x : T)
        → HasReadSource seen mid left now old → 0 < length piece → FeedsReader stands represents mid saw old new piece
        → IsResultAfter (stop new) (Ok x) → fed_limit - extent new < fed_limit - extent old
    source_read_leaves_less seen mid saw left now old new piece x read some feeds answer =
        let fed = feeds.advances in
        let goes = source_read_answer_goes_on (stop new) x answer in
        let stood = fed.reads (first ++ read.front) read.frames read.is in
        let before = reads.counts old (first ++ read.front) read.frames read.is read.goes in
        let behind = reads.counts new ((first ++ read.front) ++ piece) _ stood goes in
        let bound = reads.limited new ((first ++ read.front) ++ piece) _ stood goes in
        omega (arith, before, behind, bound, length-append (first ++ read.front) piece)

    -- a call of the source failed
    pub source_read_fails : (seen saw : V) (left now after : Option (List ℕ)) (state : R)
        → HasReadSource seen saw left now state → Keeps now after → ShowsFront format first represents seen saw left after
    source_read_fails seen saw left now after state read kept = record {
      front = read.front;
      frames = read.frames;
      consumed = Consumes-kept left now after read.front read.consumed kept;
      completes = reads.completes state (first ++ read.front) read.frames read.is;
      are_frames = read.are_frames;
      sees = read.sees;
    }

    module _ (decided : IsDecided format) where
      -- there was no memory for a frame of the piece
      source_read_is_cut_short : (seen mid saw : V) (left now : Option (List ℕ)) (old : R) (piece : List ℕ)
          → HasReadPiece seen mid left now old piece → ShowsBeginning format stands represents mid saw old piece
          → ShowsPart format first represents seen saw left now
      source_read_is_cut_short seen mid saw left now old piece read cut =
          let fed = completed_front format decided (read.fed ++ piece) in
          let more = decided.longer read.fed piece read.frames fed.0 (reads.completes old read.fed read.frames read.is) fed.1 in
          let given =
          cut.begins read.fed read.frames more.0 read.is
          (subst (Completes format (read.fed ++ piece)) more.1 fed.1) in
          let joined : fed.0 ≡ (read.frames ++ cut.given) ++ given.0 = more.1 ∙ ap (λ l. read.frames ++ l) given.1
          ∙ sym (append_assoc read.frames cut.given given.0) in record {
            front = read.front;
            all = fed.0;
            frames = read.frames ++ cut.given;
            consumed = read.consumed;
            completes = subst (λ l. Completes format l fed.0) read.joined fed.1;
            begins = (given.0, joined);
            are_frames = AreFrames-of_fed_pieces read.frames cut.given read.are_frames cut.are_frames;
            sees = VisitorSees-two_fed_pieces represents seen mid saw read.frames cut.given read.sees cut.sees;
          }

      -- the piece shows a fault
      source_read_is_refused : (T : Type 0) (seen mid saw : V) (left now : Option (List ℕ)) (old new : R)
          (piece : List ℕ) (fault : CaptureFault)
          → HasReadPiece seen mid left now old piece → FeedsReader stands represents mid saw old new piece
          → IsResultAfter {T = T} (stop new) (Err (feed.Refused fault))
          → ShowsBeforeFault format first represents seen saw left now fault
          × IfSome left (λ rest. IsReadingOf format (first ++ rest) (Err (Capture fault)))
      source_read_is_refused T seen mid saw left now old new piece fault read feeds answer =
          let fed = feeds.advances in
          let stopped = source_read_answer_stops T (stop new) (feed.Refused fault) answer in
          let shows : format.shows_fault (first ++ read.front) (read.frames ++ feeds.given) fault =
          subst (λ l. format.shows_fault l (read.frames ++ feeds.given) fault) read.joined
          (reads.refused new (read.fed ++ piece) (read.frames ++ feeds.given) fault (fed.reads read.fed read.frames read.is) stopped) in
          let of_file : (rest : List ℕ) → format.has_fault_after (first ++ (read.front ++ rest)) (read.frames ++ feeds.given) fault =
          λ rest. subst (λ l. format.has_fault_after l (read.frames ++ feeds.given) fault) (append_assoc first read.front rest)
          (decided.shown (first ++ read.front) rest _ fault shows) in
          let of_front : format.has_fault_after (first ++ read.front) (read.frames ++ feeds.given) fault =
          subst (λ l. format.has_fault_after l (read.frames ++ feeds.given) fault) (append-nil (first ++ read.front))
          (decided.shown (first ++ read.front) [] _ fault shows) in (
            record {
              front = read.front;
              frames = read.frames ++ feeds.given;
              consumed = read.consumed;
              fault_of_front = of_front;
              limit = decided.limited (first ++ read.front) _ (inr (fault, of_front));
              are_frames = AreFrames-of_fed_pieces read.frames feeds.given read.are_frames feeds.are_frames;
              sees = VisitorSees-two_fed_pieces represents seen mid saw read.frames feeds.given read.sees feeds.sees;
              fault_of_file = source_read_consumed_front left now read.front _ read.consumed of_file;
              at_end = λ ends. absurd (decided.no_end_fault (first ++ read.front) _ fault shows ends);
            },
            source_read_consumed_front left now read.front _ read.consumed
                (λ rest. ((_, of_file rest), λ frames capture. decided.never_both _ frames fault capture (_, of_file rest))),
          )

      -- the result for a piece that ends the reading
      pub source_read_is_stopped : (T : Type 0) (seen mid saw : V) (left now : Option (List ℕ)) (old new : R)
          (piece : List ℕ) (fault : FeedFault)
          → HasReadPiece seen mid left now old piece
          → IfHadMemory {T = T} (Err fault) (FeedsReader stands represents mid saw old new piece)
          (ShowsBeginning format stands represents mid saw old piece) → IsResultAfter {T = T} (stop new) (Err fault)
          → IsSeen format first represents seen saw left now (Err (refusal_of fault))
          × IfSome left (λ rest. IsReadingOf format (first ++ rest) (Err (refusal_of fault)))
      source_read_is_stopped T seen mid saw left now old new piece (feed.Refused fault) read fed answer =
          source_read_is_refused T seen mid saw left now old new piece fault read fed answer
      source_read_is_stopped T seen mid saw left now old new piece feed.OutOfMemory read cut answer =
          (source_read_is_cut_short seen mid saw left now old piece read cut, source_read_holds_always left _ (λ rest. tt))

      -- the end of the source
      pub source_is_read_whole : (seen saw : V) (left now after : Option (List ℕ)) (state : R) (count : ℕ)
          → HasReadSource seen saw left now state → Consumes now after [] → IsAtEnd after
          → ((file : List ℕ) (frames : List FrameValue) → stands state file frames
          → IsFinalResult format file frames (Ok count))
          → ShowsCapture format first represents seen saw left after count
          × IfSome left (λ rest. IsReadingOf format (first ++ rest) (Ok count))
      source_is_read_whole seen saw left now after state count read consumed end finish =
          let answer = finish (first ++ read.front) read.frames read.is in
          let whole : Consumes left after read.front =
          subst (Consumes left after) (append-nil read.front)
          (Consumes-trans left now after read.front [] read.consumed consumed) in
          let limit = decided.limited (first ++ read.front) read.frames (inl answer.0) in (
            record {
              front = read.front;
              frames = read.frames;
              consumed = whole;
              counted = sym answer.1;
              limit = omega (arith, answer.1, limit);
              are_frames = read.are_frames;
              sees = read.sees;
              capture = Consumes-whole left after read.front (λ rest. format.is_capture (first ++ rest) read.frames) whole end answer.0;
              at_end = end;
            },
            Consumes-whole left after read.front (λ rest. IsReadingOf format (first ++ rest) (Ok count)) whole end (
              (read.frames, answer.0, sym answer.1),
              λ fault. decided.never_both (first ++ read.front) read.frames fault answer.0,
            ),
          )

      pub source_read_fails_at_end : (seen saw : V) (left now after : Option (List ℕ)) (state : R) (fault : FeedFault)
          → HasReadSource seen saw left now state → Consumes now after [] → IsAtEnd after
          → ((file : List ℕ) (frames : List FrameValue) → stands state file frames
          → IsFinalResult format file frames (Err fault))
          → IsSeen format first represents seen saw left after (Err (refusal_of fault))
          × IfSome left (λ rest. IsReadingOf format (first ++ rest) (Err (refusal_of fault)))
      source_read_fails_at_end seen saw left now after state (feed.Refused fault) read consumed end finish =
          let of_front = finish (first ++ read.front) read.frames read.is in
          let whole : Consumes left after read.front =
          subst (Consumes left after) (append-nil read.front)
          (Consumes-trans left now after read.front [] read.consumed consumed) in (
            record {
              front = read.front;
              frames = read.frames;
              consumed = whole;
              fault_of_front = of_front;
              limit = decided.limited (first ++ read.front) read.frames (inr (fault, of_front));
              are_frames = read.are_frames;
              sees = read.sees;
              fault_of_file = Consumes-whole left after read.front
                  (λ rest. format.has_fault_after (first ++ rest) read.frames fault) whole end of_front;
              at_end = λ ends. end;
            },
            Consumes-whole left after read.front (λ rest. IsReadingOf format (first ++ rest) (Err (Capture fault))) whole end (
              (read.frames, of_front),
              λ frames capture. decided.never_both (first ++ read.front) frames fault capture (read.frames, of_front),
            ),
          )
      source_read_fails_at_end seen saw left now after state feed.OutOfMemory read consumed end finish =
          absurd (finish (first ++ read.front) read.frames read.is)
