-- A piece that is fed a front at a time, to a reader of any format.
use Rattle.std.proofs.Common.{ℕ, ◌≡◌, ◌<◌, List, [], ◌∷◌, ◌++◌, length, Ok, Err, Option, Some, None, refl, sym, ap, ◌∙◌, arith}
use Rattle.std.proofs.Common.{length-append, subst, append-nil, append_assoc}
use Rattle.std.proofs.lemmas.List.{append_cancel_left}
use Rattle.pcap_frames.specs.declared.fault.FeedFault.{FeedFault}
use Rattle.pcap_frames.specs.declared.fault.FeedFault.TheVariants.{Refused, OutOfMemory}
use Rattle.pcap_frames.specs.Frame.{FrameValue, AreFrames}
use Rattle.pcap_frames.specs.CaptureFormat.{Format, Completes}
use Rattle.pcap_frames.specs.Decided.{IsDecided}
use Rattle.pcap_frames.specs.Visitor.{VisitorSees, RepresentSame}
use Rattle.pcap_frames.specs.Feeding.{Advances, FeedsReader, ShowsBeginning, IfHadMemory, IsResultOf}
use Rattle.pcap_frames.specs.Feeding.{ReadsFormat, StepShowsFront}
use Rattle.pcap_frames.proofs.CompletedFrontLemmas.{completed_front_is_one}

-- frames and more frames
pub AreFrames-of_fed_pieces : (frames more : List FrameValue) → AreFrames frames → AreFrames more → AreFrames (frames ++ more)
AreFrames-of_fed_pieces [] more first second = second
AreFrames-of_fed_pieces (frame ∷ frames) more first second = (first.0, AreFrames-of_fed_pieces frames more first.1 second)

-- ---- what a visitor saw

module _ {V : Type 0} (represents : V → List FrameValue → Type 0) where
  pub VisitorSees-no_fed_piece : (visitor : V) → VisitorSees represents visitor visitor []
  VisitorSees-no_fed_piece visitor = λ before stands. subst (represents visitor) (sym (append-nil before)) stands

  pub VisitorSees-two_fed_pieces : (seen mid saw : V) (frames more : List FrameValue) → VisitorSees represents seen mid frames
      → VisitorSees represents mid saw more → VisitorSees represents seen saw (frames ++ more)
  VisitorSees-two_fed_pieces seen mid saw frames more first second = λ before stands.
      subst (represents saw) (append_assoc before frames more) (second (before ++ frames) (first before stands))

  pub VisitorSees-alike_fed_piece : (seen mid saw : V) (frames : List FrameValue) → VisitorSees represents seen mid frames
      → RepresentSame represents mid saw → VisitorSees represents seen saw frames
  VisitorSees-alike_fed_piece seen mid saw frames first alike = λ before stands. alike.forth (before ++ frames) (first before stands)

-- ---- what a reader represents

module _ {R : Type 0} (stands : R → List ℕ → List FrameValue → Type 0) where
  -- no bytes complete no frames
  pub Advances-no_fed_piece : (state : R) → Advances stands state state [] []
  Advances-no_fed_piece state = record {
    reads = λ before frames is.
        subst (λ l. stands state l (frames ++ [])) (sym (append-nil before))
        (subst (stands state before) (sym (append-nil frames)) is);
  }

  -- one piece after another
  pub Advances-two_fed_pieces : (old mid new : R) (front more : List ℕ) (given others : List FrameValue)
      → Advances stands old mid front given → Advances stands mid new more others
      → Advances stands old new (front ++ more) (given ++ others)
  Advances-two_fed_pieces old mid new front more given others first second = record {
    reads = λ before frames is.
        subst (λ l. stands new l (frames ++ (given ++ others))) (append_assoc before front more)
        (subst (stands new ((before ++ front) ++ more)) (append_assoc frames given others)
        (second.reads (before ++ front) (frames ++ given) (first.reads before frames is)));
  }

module _ {R V : Type 0} (stands : R → List ℕ → List FrameValue → Type 0) (represents : V → List FrameValue → Type 0) where
  -- a front of the piece is fed, and this rest remains
  pub record IsFedPiece (seen saw : V) (old new : R) (piece rest : List ℕ) : Type 0 where
    pub done : List ℕ
    pub joined : piece ≡ done ++ rest
    pub feeds : FeedsReader stands represents seen saw old new done

  pub none_of_piece_is_fed : (visitor : V) (state : R) (piece : List ℕ) → IsFedPiece visitor visitor state state piece piece
  none_of_piece_is_fed visitor state piece = record {
    done = [];
    joined = refl;
    feeds = record {
      given = [];
      advances = Advances-no_fed_piece stands state;
      are_frames = tt;
      sees = VisitorSees-no_fed_piece represents visitor;
    };
  }

  pub more_of_piece_is_fed : (seen mid saw : V) (old now new : R) (piece rest left : List ℕ)
      → IsFedPiece seen mid old now piece rest → StepShowsFront stands represents mid saw now new rest left
      → IsFedPiece seen saw old new piece left
  more_of_piece_is_fed seen mid saw old now new piece rest left fed shows =
      let before = fed.feeds in
      let takes = shows.takes in record {
        done = fed.done ++ takes.front;
        joined = fed.joined ∙ ap (λ l. fed.done ++ l) takes.joined ∙ sym (append_assoc fed.done takes.front left);
        feeds = record {
          given = before.given ++ shows.given;
          advances =
              Advances-two_fed_pieces stands old now new fed.done takes.front before.given shows.given before.advances
              takes.advances;
          are_frames = AreFrames-of_fed_pieces before.given shows.given before.are_frames shows.are_frames;
          sees = VisitorSees-two_fed_pieces represents seen mid saw before.given shows.given before.sees shows.sees;
        };
      }

  pub fed_piece_leaves_less : (mid saw : V) (now new : R) (rest left : List ℕ)
      → StepShowsFront stands represents mid saw now new rest left → length left < length rest
  fed_piece_leaves_less mid saw now new rest left shows =
      let takes = shows.takes in omega (arith, takes.some, ap length takes.joined, length-append takes.front left)

  pub all_of_piece_is_fed : (seen saw : V) (old new : R) (piece rest : List ℕ) → IsFedPiece seen saw old new piece rest
      → rest ≡ [] → FeedsReader stands represents seen saw old new piece
  all_of_piece_is_fed seen saw old new piece rest fed none =
      subst (FeedsReader stands represents seen saw old new)
      (sym (fed.joined ∙ ap (λ l. fed.done ++ l) none ∙ append-nil fed.done)) fed.feeds

-- ---- a reader of a format

module _ {R V : Type 0} (format : Format) (stands : R → List ℕ → List FrameValue → Type 0) (stop : R → Option FeedFault)
    (extent : R → ℕ) (represents : V → List FrameValue → Type 0) (reads : ReadsFormat format stands stop extent) where
  -- the rest of a piece is lost
  pub fed_piece_lacks_room : (seen mid saw : V) (old now : R) (piece rest : List ℕ) → IsDecided format
      → IsFedPiece stands represents seen mid old now piece rest → RepresentSame represents mid saw
      → ShowsBeginning format stands represents seen saw old piece
  fed_piece_lacks_room seen mid saw old now piece rest decided fed alike =
      let before = fed.feeds in
      let step = before.advances in record {
        given = before.given;
        are_frames = before.are_frames;
        sees = VisitorSees-alike_fed_piece represents seen mid saw before.given before.sees alike;
        begins = λ bytes frames more is completes.
            let whole : bytes ++ piece ≡ (bytes ++ fed.done) ++ rest =
            ap (λ l. bytes ++ l) fed.joined ∙ sym (append_assoc bytes fed.done rest) in
            let here = reads.completes now (bytes ++ fed.done) (frames ++ before.given) (step.reads bytes frames is) in
            let found = decided.longer (bytes ++ fed.done) rest (frames ++ before.given) (frames ++ more) here
            (subst (λ l. Completes format l (frames ++ more)) whole completes) in (
              found.0,
              append_cancel_left frames more _ (found.1 ∙ append_assoc frames before.given found.0),
            );
      }

  -- what is fed to a reader that has stopped changes nothing
  pub piece_fed_to_stopped_reader : (T : Type 0) (state : R) (visitor : V) (piece : List ℕ) (fault : FeedFault)
      → stop state ≡ Some fault
      → IfHadMemory {T = T} (Err fault) (FeedsReader stands represents visitor visitor state state piece)
      (ShowsBeginning format stands represents visitor visitor state piece)
  piece_fed_to_stopped_reader T state visitor piece (Refused fault) is = record {
    given = [];
    advances = record {
      reads = λ before frames stood.
          subst (stands state (before ++ piece)) (sym (append-nil frames))
          (reads.stays state before piece frames (Refused fault) stood is);
    };
    are_frames = tt;
    sees = VisitorSees-no_fed_piece represents visitor;
  }
  piece_fed_to_stopped_reader T state visitor piece OutOfMemory is = record {
    given = [];
    are_frames = tt;
    sees = VisitorSees-no_fed_piece represents visitor;
    begins = λ before frames more stood completes. (more, refl);
  }

  -- a fault that a reader stopped at is shown by the bytes
  pub stopped_reader_answers_fed_piece : (T : Type 0) (state : R) (bytes : List ℕ) (frames : List FrameValue) (fault : FeedFault)
      → stands state bytes frames → stop state ≡ Some fault → IsResultOf {T = T} format bytes (Err fault)
  stopped_reader_answers_fed_piece T state bytes frames (Refused fault) stood is =
      (frames, reads.refused state bytes frames fault stood is)
  stopped_reader_answers_fed_piece T state bytes frames OutOfMemory stood is = tt

  pub stopped_reader_passes_fed_piece : (T : Type 0) (state : R) (piece : List ℕ) (fault : FeedFault) → stop state ≡ Some fault
      → (before : List ℕ) (frames : List FrameValue) → stands state before frames
      → IsResultOf {T = T} format (before ++ piece) (Err fault)
  stopped_reader_passes_fed_piece T state piece fault is before frames stood =
      stopped_reader_answers_fed_piece T state (before ++ piece) frames fault (reads.stays state before piece frames fault stood is) is

  -- the result for what is fed is exact
  pub fed_piece_is_answered_exactly : (T : Type 0) (seen saw : V) (old new : R) (piece : List ℕ) (fault : FeedFault)
      → FeedsReader stands represents seen saw old new piece → stop new ≡ Some fault
      → (before : List ℕ) (frames : List FrameValue) → stands old before frames
      → IsResultOf {T = T} format (before ++ piece) (Err fault)
  fed_piece_is_answered_exactly T seen saw old new piece fault feeds is before frames stood =
      let fed = feeds.advances in
      stopped_reader_answers_fed_piece T new (before ++ piece) _ fault (fed.reads before frames stood) is

  pub fed_piece_is_accepted_exactly : {T : Type 0} (seen saw : V) (old new : R) (piece : List ℕ) (x : T)
      → FeedsReader stands represents seen saw old new piece → stop new ≡ None
      → (before : List ℕ) (frames : List FrameValue) → stands old before frames
      → IsResultOf format (before ++ piece) (Ok x)
  fed_piece_is_accepted_exactly seen saw old new piece x feeds goes before frames stood = λ others fault.
      let fed = feeds.advances in
      reads.unrefused new (before ++ piece) _ others fault (fed.reads before frames stood) goes

  -- a whole piece is the beginning of a piece
  piece_fed_is_a_beginning : (seen saw : V) (old new : R) (piece : List ℕ) → IsDecided format
      → FeedsReader stands represents seen saw old new piece → ShowsBeginning format stands represents seen saw old piece
  piece_fed_is_a_beginning seen saw old new piece decided feeds =
      let fed = feeds.advances in record {
        given = feeds.given;
        are_frames = feeds.are_frames;
        sees = feeds.sees;
        begins = λ before frames more is completes.
            let here = reads.completes new (before ++ piece) (frames ++ feeds.given) (fed.reads before frames is) in
            let same : frames ++ more ≡ frames ++ feeds.given =
            completed_front_is_one format decided (before ++ piece) (frames ++ feeds.given) (frames ++ more) here completes in
            ([], append_cancel_left frames more feeds.given same ∙ sym (append-nil feeds.given));
      }

  pub piece_fed_with_memory : (T : Type 0) (seen saw : V) (old new : R) (piece : List ℕ) (fault : FeedFault) → IsDecided format
      → FeedsReader stands represents seen saw old new piece
      → IfHadMemory {T = T} (Err fault) (FeedsReader stands represents seen saw old new piece)
      (ShowsBeginning format stands represents seen saw old piece)
  piece_fed_with_memory T seen saw old new piece (Refused fault) decided feeds = feeds
  piece_fed_with_memory T seen saw old new piece OutOfMemory decided feeds = piece_fed_is_a_beginning seen saw old new piece decided feeds
