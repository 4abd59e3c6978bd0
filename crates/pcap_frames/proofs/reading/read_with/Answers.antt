use Rattle.std.proofs.Common.{◌≡◌, [], take, sym, ap, subst, arith}
use Rattle.std.proofs.lemmas.Result.{err_from_is_err_and}
use Rattle.std.specs.Io.KnownBytes.{Consumes}
use Rattle.pcap_frames.proofs.SourceReadLemmas.{first_of_source_is_read, piece_of_source_is_read, more_of_source_is_read}
use Rattle.pcap_frames.proofs.SourceReadLemmas.{source_read_leaves_less, source_read_fails, source_read_holds_weaker}
use Rattle.pcap_frames.proofs.SourceReadLemmas.{source_read_is_stopped, source_is_read_whole, source_read_fails_at_end}
use Rattle.pcap_frames.proofs.reading.read_with.Goals as goal

pub returns-in_err-feed-clause-seen : goal.returns-in_err-feed-clause-seen
returns-in_err-feed-clause-seen g c =
    let first =
    first_of_source_is_read g.R.CaptureReader.format c.args.first.now g.R.CaptureReader.represents g.R.CaptureReader.stop
    g.V.FrameVisitor.represents c.args.visitor.now (g.S.Source.left c.args.source.now) c.args.reader c.requires.unfed in
    let p = err_from_is_err_and c.from_residual.result c.from_residual.ensures.1 in
    rw (p.1, p.2)
    (source_read_is_stopped _ _ _ _ _ _ c.laws.ensures.reads c.laws.ensures.decided _ _ _ _ _ _ _ _ _ _ first
    c.in_err-feed.ensures.fed c.in_err-feed.ensures.answer).0

pub returns-in_err-feed-clause-exact : goal.returns-in_err-feed-clause-exact
returns-in_err-feed-clause-exact g c =
    let first =
    first_of_source_is_read g.R.CaptureReader.format c.args.first.now g.R.CaptureReader.represents g.R.CaptureReader.stop
    g.V.FrameVisitor.represents c.args.visitor.now (g.S.Source.left c.args.source.now) c.args.reader c.requires.unfed in
    let p = err_from_is_err_and c.from_residual.result c.from_residual.ensures.1 in
    let read =
    source_read_is_stopped _ _ _ _ _ _ c.laws.ensures.reads c.laws.ensures.decided _ _ _ _ _ _ _ _ _ _ first
    c.in_err-feed.ensures.fed c.in_err-feed.ensures.answer in
    source_read_holds_weaker (g.S.Source.left c.args.source.now) _ _ (λ file answers. rw (p.1, p.2) answers) read.1

pub loop-reader-init : goal.loop-reader-init
loop-reader-init g c =
    let first =
    first_of_source_is_read g.R.CaptureReader.format c.args.first.now g.R.CaptureReader.represents g.R.CaptureReader.stop
    g.V.FrameVisitor.represents c.args.visitor.now (g.S.Source.left c.args.source.now) c.args.reader c.requires.unfed in
    record {
      read = more_of_source_is_read _ _ _ _ _ _ _ _ _ _ _ _ _ _ first
          c.in_ok-feed.ensures.fed c.in_ok-feed.ensures.answer;
      kept = omega arith;
    }

pub returns-in_err-count-clause-seen : goal.returns-in_err-count-clause-seen
returns-in_err-count-clause-seen g c =
    let p = err_from_is_err_and c.from_residual-in_err-count.result c.from_residual-in_err-count.ensures.1 in
    rw (p.1, p.2)
    (source_read_fails _ _ _ _ _ _ c.laws.ensures.reads _ _ _ _ _ _ c.loop-reader.invariant.read
    c.in_err-count.ensures.first_bytes)

pub loop-reader-smaller : goal.loop-reader-smaller
loop-reader-smaller g c =
    source_read_leaves_less _ _ _ _ _ _ c.laws.ensures.reads _ _ _ _ _ _ _ _ _ c.loop-reader.invariant.read (omega arith)
    c.in_ok-feed-2.ensures.fed c.in_ok-feed-2.ensures.answer

pub loop-reader-preserved : goal.loop-reader-preserved
loop-reader-preserved g c =
    let consumed : Consumes (g.S.Source.left c.loop-reader.source) (g.S.Source.left c.read.new.self)
    c.split_at.result.0.now =
    subst (Consumes (g.S.Source.left c.loop-reader.source) (g.S.Source.left c.read.new.self))
    (sym c.split_at.ensures.front) c.in_ok-count.ensures.first_bytes.0 in
    let piece = piece_of_source_is_read _ _ _ _ _ _ _ _ _ _ _ _ c.loop-reader.invariant.read consumed in
    record {
      read = more_of_source_is_read _ _ _ _ _ _ _ _ _ _ _ _ _ _ piece c.in_ok-feed-2.ensures.fed
          c.in_ok-feed-2.ensures.answer;
      kept = omega (arith, c.loop-reader.invariant.kept, c.in_ok-count.ensures.cause.kept);
    }

pub returns-in_err-feed-2-clause-seen : goal.returns-in_err-feed-2-clause-seen
returns-in_err-feed-2-clause-seen g c =
    let consumed : Consumes (g.S.Source.left c.loop-reader.source) (g.S.Source.left c.read.new.self)
    c.split_at.result.0.now =
    subst (Consumes (g.S.Source.left c.loop-reader.source) (g.S.Source.left c.read.new.self))
    (sym c.split_at.ensures.front) c.in_ok-count.ensures.first_bytes.0 in
    let piece = piece_of_source_is_read _ _ _ _ _ _ _ _ _ _ _ _ c.loop-reader.invariant.read consumed in
    let p = err_from_is_err_and c.from_residual-in_err-feed-2.result c.from_residual-in_err-feed-2.ensures.1 in
    rw (p.1, p.2)
    (source_read_is_stopped _ _ _ _ _ _ c.laws.ensures.reads c.laws.ensures.decided _ _ _ _ _ _ _ _ _ _ piece
    c.in_err-feed-2.ensures.fed c.in_err-feed-2.ensures.answer).0

pub returns-in_err-feed-2-clause-exact : goal.returns-in_err-feed-2-clause-exact
returns-in_err-feed-2-clause-exact g c =
    let consumed : Consumes (g.S.Source.left c.loop-reader.source) (g.S.Source.left c.read.new.self)
    c.split_at.result.0.now =
    subst (Consumes (g.S.Source.left c.loop-reader.source) (g.S.Source.left c.read.new.self))
    (sym c.split_at.ensures.front) c.in_ok-count.ensures.first_bytes.0 in
    let piece = piece_of_source_is_read _ _ _ _ _ _ _ _ _ _ _ _ c.loop-reader.invariant.read consumed in
    let p = err_from_is_err_and c.from_residual-in_err-feed-2.result c.from_residual-in_err-feed-2.ensures.1 in
    let read =
    source_read_is_stopped _ _ _ _ _ _ c.laws.ensures.reads c.laws.ensures.decided _ _ _ _ _ _ _ _ _ _ piece
    c.in_err-feed-2.ensures.fed c.in_err-feed-2.ensures.answer in
    source_read_holds_weaker (g.S.Source.left c.args.source.now) _ _ (λ file answers. rw (p.1, p.2) answers) read.1

pub returns-in_err-finish-clause-seen : goal.returns-in_err-finish-clause-seen
returns-in_err-finish-clause-seen g c =
    let none : take c.in_ok-count.count c.read.new.into ≡ [] = ap (λ n. take n c.read.new.into) c.if-count-eq0.true in
    let consumed : Consumes (g.S.Source.left c.loop-reader.source) (g.S.Source.left c.read.new.self) [] =
    subst (Consumes (g.S.Source.left c.loop-reader.source) (g.S.Source.left c.read.new.self)) none
    c.in_ok-count.ensures.first_bytes.0 in
    let end = c.in_ok-count.ensures.first_bytes.1 c.if-count-eq0.true (omega arith) in
    let p = err_from_is_err_and c.from_residual-in_err-finish.result c.from_residual-in_err-finish.ensures.1 in
    rw (p.1, p.2)
    (source_read_fails_at_end _ _ _ _ _ _ c.laws.ensures.reads c.laws.ensures.decided _ _ _ _ _ _ _ c.loop-reader.invariant.read consumed end
    c.in_err-finish.ensures.end).0

pub returns-in_err-finish-clause-exact : goal.returns-in_err-finish-clause-exact
returns-in_err-finish-clause-exact g c =
    let none : take c.in_ok-count.count c.read.new.into ≡ [] = ap (λ n. take n c.read.new.into) c.if-count-eq0.true in
    let consumed : Consumes (g.S.Source.left c.loop-reader.source) (g.S.Source.left c.read.new.self) [] =
    subst (Consumes (g.S.Source.left c.loop-reader.source) (g.S.Source.left c.read.new.self)) none
    c.in_ok-count.ensures.first_bytes.0 in
    let end = c.in_ok-count.ensures.first_bytes.1 c.if-count-eq0.true (omega arith) in
    let p = err_from_is_err_and c.from_residual-in_err-finish.result c.from_residual-in_err-finish.ensures.1 in
    let read =
    source_read_fails_at_end _ _ _ _ _ _ c.laws.ensures.reads c.laws.ensures.decided _ _ _ _ _ _ _ c.loop-reader.invariant.read consumed end
    c.in_err-finish.ensures.end in
    source_read_holds_weaker (g.S.Source.left c.args.source.now) _ _ (λ file answers. rw (p.1, p.2) answers) read.1

pub returns-clause-seen : goal.returns-clause-seen
returns-clause-seen g c =
    let none : take c.in_ok-count.count c.read.new.into ≡ [] = ap (λ n. take n c.read.new.into) c.if-count-eq0.true in
    let consumed : Consumes (g.S.Source.left c.loop-reader.source) (g.S.Source.left c.read.new.self) [] =
    subst (Consumes (g.S.Source.left c.loop-reader.source) (g.S.Source.left c.read.new.self)) none
    c.in_ok-count.ensures.first_bytes.0 in
    let end = c.in_ok-count.ensures.first_bytes.1 c.if-count-eq0.true (omega arith) in
    (source_is_read_whole _ _ _ _ _ _ c.laws.ensures.reads c.laws.ensures.decided _ _ _ _ _ _ _ c.loop-reader.invariant.read consumed end
    c.in_ok-finish.ensures.end).0

pub returns-clause-exact : goal.returns-clause-exact
returns-clause-exact g c =
    let none : take c.in_ok-count.count c.read.new.into ≡ [] = ap (λ n. take n c.read.new.into) c.if-count-eq0.true in
    let consumed : Consumes (g.S.Source.left c.loop-reader.source) (g.S.Source.left c.read.new.self) [] =
    subst (Consumes (g.S.Source.left c.loop-reader.source) (g.S.Source.left c.read.new.self)) none
    c.in_ok-count.ensures.first_bytes.0 in
    let end = c.in_ok-count.ensures.first_bytes.1 c.if-count-eq0.true (omega arith) in
    (source_is_read_whole _ _ _ _ _ _ c.laws.ensures.reads c.laws.ensures.decided _ _ _ _ _ _ _ c.loop-reader.invariant.read consumed end
    c.in_ok-finish.ensures.end).1
