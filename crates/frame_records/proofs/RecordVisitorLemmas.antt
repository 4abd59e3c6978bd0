-- What is kept of frames, after one more.
use Rattle.std.proofs.Common.{◌≡◌, ℕ, ◌+◌, ◌≤◌, cond, Bool, true, false, suc, List, [], ◌∷◌, ◌++◌, length, Option}
use Rattle.std.proofs.Common.{Some, None, Result, Ok, Err, OnOk, refl, sym, ap, ◌∙◌, arith, subst, append-nil}
use Rattle.std.proofs.Common.{length-append, count_by}
use Rattle.std.specs.List.{cons_option}
use Rattle.std.specs.Result.{result_ok}
use Rattle.std.proofs.lemmas.List.Elements.{filter_map-append}
use Rattle.std.proofs.lemmas.List.Sums.{sum_by-append, count_by-le-length}
use Rattle.prefix_lattice.specs.{RecordValue}
use Rattle.pcap_frames.specs.{FrameValue}
use Rattle.frame_records.specs.FrameRecord.{skip_of, network_place, record_at, record_of}
use Rattle.frame_records.specs.FrameRecord.{record_if_kept}
use Rattle.frame_records.specs.FrameRecord.{records_of, is_skipped, skipped_count}
use Rattle.frame_records.specs.Records.{AreRecordsOf}
use Rattle.frame_records.specs.RecordVisitor.{capped, KeepsRecordsOf, after_frame}
use Rattle.frame_records.specs.declared.weigh.Weigh.{Weigh}
use Rattle.frame_records.specs.declared.skip.Skip.{Skip}
use Rattle.frame_records.specs.declared.skip.Skip.TheVariants.{NotIpv4, Short, BadHeader}
use Rattle.frame_records.specs.declared.records.Records.{Records}

-- a count of one more element
record_visitor_counts_another : {X : Type 0} (p : X → Bool) (xs : List X) (x : X)
    → count_by p (xs ++ x ∷ []) ≡ count_by p xs + cond (p x) 1 0
record_visitor_counts_another p xs x = omega (arith, sum_by-append (λ y. cond (p y) 1 0) xs (x ∷ []))

-- the number of frames skipped for a reason, with one more frame
visitor_skips_another : (skip : Skip) (all : List FrameValue) (frame : FrameValue) (why : Option Skip) → skip_of frame ≡ why
    → skipped_count skip (all ++ frame ∷ []) ≡ skipped_count skip all + cond (is_skipped skip why) 1 0
visitor_skips_another skip all frame why is_why =
    record_visitor_counts_another (λ f. is_skipped skip (skip_of f)) all frame
    ∙ ap (λ o. skipped_count skip all + cond (is_skipped skip o) 1 0) is_why

-- the records, with one more frame
records_of-more : (weigh : Weigh) (all : List FrameValue) (frame : FrameValue) (why : Option Skip) → skip_of frame ≡ why
    → records_of weigh (all ++ frame ∷ [])
    ≡ records_of weigh all
    ++ cons_option (result_ok (record_if_kept why (record_at (network_place frame) weigh frame))) []
records_of-more weigh all frame why is_why =
    filter_map-append (λ f. result_ok (record_of weigh f)) all (frame ∷ [])
    ∙ ap (λ o.
    records_of weigh all
    ++ cons_option (result_ok (record_if_kept o (record_at (network_place frame) weigh frame))) []) is_why

-- a frame that isn't skipped for a reason leaves its capped count
record_visitor_count_stays : (skip : Skip) (all : List FrameValue) (frame : FrameValue) (why : Option Skip) → skip_of frame ≡ why
    → is_skipped skip why ≡ false
    → capped (skipped_count skip all) ≡ capped (skipped_count skip (all ++ frame ∷ []))
record_visitor_count_stays skip all frame why is_why not_so =
    let same : skipped_count skip (all ++ frame ∷ []) ≡ skipped_count skip all + 0 =
    visitor_skips_another skip all frame why is_why ∙ ap (λ b. skipped_count skip all + cond b 1 0) not_so in
    omega arith

-- one that is skipped for it adds one to it
record_visitor_count_grows : (skip : Skip) (all : List FrameValue) (frame : FrameValue) (why : Option Skip) → skip_of frame ≡ why
    → is_skipped skip why ≡ true
    → capped (capped (skipped_count skip all) + 1) ≡ capped (skipped_count skip (all ++ frame ∷ []))
record_visitor_count_grows skip all frame why is_why so =
    let more : skipped_count skip (all ++ frame ∷ []) ≡ skipped_count skip all + 1 =
    visitor_skips_another skip all frame why is_why ∙ ap (λ b. skipped_count skip all + cond b 1 0) so in
    omega arith

-- every frame adds one to the capped count of frames
visitor_frame_count_grows : (all : List FrameValue) (frame : FrameValue)
    → capped (capped (length all) + 1) ≡ capped (length (all ++ frame ∷ []))
visitor_frame_count_grows all frame = omega (arith, length-append all (frame ∷ []))

-- a skipped frame leaves the records
visitor_record_list_stays : (weigh : Weigh) (all : List FrameValue) (frame : FrameValue) (skip : Skip) → skip_of frame ≡ Some skip
    → records_of weigh all ≡ records_of weigh (all ++ frame ∷ [])
visitor_record_list_stays weigh all frame skip is_why =
    sym (records_of-more weigh all frame (Some skip) is_why ∙ append-nil (records_of weigh all))

-- what is kept, with one more frame, by why it is skipped, if it is
visitor_keeps_by_skip : (weigh : Weigh) (all : List FrameValue) (frame : FrameValue) (old : Records) (why : Option Skip)
    → skip_of frame ≡ why → KeepsRecordsOf weigh all old
    → KeepsRecordsOf weigh (all ++ frame ∷ [])
    (after_frame (record_if_kept why (record_at (network_place frame) weigh frame)) old)
visitor_keeps_by_skip weigh all frame old None is_why kept = record {
  list =
      ap (λ l. l ++ record_at (network_place frame) weigh frame ∷ []) kept.list
      ∙ sym (records_of-more weigh all frame None is_why);
  frames = ap (λ n. capped (n + 1)) kept.frames ∙ visitor_frame_count_grows all frame;
  not_ipv4 = kept.not_ipv4 ∙ record_visitor_count_stays NotIpv4 all frame None is_why refl;
  short = kept.short ∙ record_visitor_count_stays Short all frame None is_why refl;
  bad_header = kept.bad_header ∙ record_visitor_count_stays BadHeader all frame None is_why refl;
  cut = kept.cut;
}
visitor_keeps_by_skip weigh all frame old (Some NotIpv4) is_why kept = record {
  list = kept.list ∙ visitor_record_list_stays weigh all frame NotIpv4 is_why;
  frames = ap (λ n. capped (n + 1)) kept.frames ∙ visitor_frame_count_grows all frame;
  not_ipv4 = ap (λ n. capped (n + 1)) kept.not_ipv4 ∙ record_visitor_count_grows NotIpv4 all frame (Some NotIpv4) is_why refl;
  short = kept.short ∙ record_visitor_count_stays Short all frame (Some NotIpv4) is_why refl;
  bad_header = kept.bad_header ∙ record_visitor_count_stays BadHeader all frame (Some NotIpv4) is_why refl;
  cut = kept.cut;
}
visitor_keeps_by_skip weigh all frame old (Some Short) is_why kept = record {
  list = kept.list ∙ visitor_record_list_stays weigh all frame Short is_why;
  frames = ap (λ n. capped (n + 1)) kept.frames ∙ visitor_frame_count_grows all frame;
  not_ipv4 = kept.not_ipv4 ∙ record_visitor_count_stays NotIpv4 all frame (Some Short) is_why refl;
  short = ap (λ n. capped (n + 1)) kept.short ∙ record_visitor_count_grows Short all frame (Some Short) is_why refl;
  bad_header = kept.bad_header ∙ record_visitor_count_stays BadHeader all frame (Some Short) is_why refl;
  cut = kept.cut;
}
visitor_keeps_by_skip weigh all frame old (Some BadHeader) is_why kept = record {
  list = kept.list ∙ visitor_record_list_stays weigh all frame BadHeader is_why;
  frames = ap (λ n. capped (n + 1)) kept.frames ∙ visitor_frame_count_grows all frame;
  not_ipv4 = kept.not_ipv4 ∙ record_visitor_count_stays NotIpv4 all frame (Some BadHeader) is_why refl;
  short = kept.short ∙ record_visitor_count_stays Short all frame (Some BadHeader) is_why refl;
  bad_header = ap (λ n. capped (n + 1)) kept.bad_header ∙ record_visitor_count_grows BadHeader all frame (Some BadHeader) is_why refl;
  cut = kept.cut;
}

-- what is kept after the record of one more frame was taken
pub visitor_keeps_next_record : (weigh : Weigh) (all : List FrameValue) (frame : FrameValue) (old new : Records)
    → KeepsRecordsOf weigh all old
    → new ≡ after_frame (record_of weigh frame) old → KeepsRecordsOf weigh (all ++ frame ∷ []) new
visitor_keeps_next_record weigh all frame old new kept is_new =
    subst (KeepsRecordsOf weigh (all ++ frame ∷ [])) (sym is_new)
    (visitor_keeps_by_skip weigh all frame old (skip_of frame) refl kept)

-- what follows from the result of a call that is Ok
pub OnOk-record_visitor_implies : {T E : Type 0} (result : Result T E) (P Q : Type 0) → (P → Q) → OnOk result P → OnOk result Q
OnOk-record_visitor_implies (Ok x) P Q follows holds = follows holds
OnOk-record_visitor_implies (Err e) P Q follows holds = tt

-- counts of as many frames as a capture may have are exact
pub record_visitor_counts_exactly : (weigh : Weigh) (all : List FrameValue) (records : Records) → length all ≤ 16777216
    → KeepsRecordsOf weigh all records → AreRecordsOf weigh all records
record_visitor_counts_exactly weigh all records few kept =
    let exact : (skip : Skip) → capped (skipped_count skip all) ≡ skipped_count skip all =
    λ skip. omega (arith, count_by-le-length (λ f. is_skipped skip (skip_of f)) all) in
    record {
      list = kept.list;
      frames = omega (arith, kept.frames);
      not_ipv4 = kept.not_ipv4 ∙ exact NotIpv4;
      short = kept.short ∙ exact Short;
      bad_header = kept.bad_header ∙ exact BadHeader;
    }

-- there are at most as many records as frames
records_of-at_most_frames : (weigh : Weigh) (all : List FrameValue) → length (records_of weigh all) ≤ length all
records_of-at_most_frames weigh [] = omega arith
records_of-at_most_frames weigh (frame ∷ all) =
    let rest = records_of-at_most_frames weigh all in
    one_more (result_ok (record_of weigh frame)) (records_of weigh all) (length all) rest
  where
    one_more : (first : Option RecordValue) (rest : List RecordValue) (most : ℕ) → length rest ≤ most
        → length (cons_option first rest) ≤ suc most
    one_more None rest most few = omega arith
    one_more (Some rec) rest most few = omega arith

-- what is kept has few records where the frames are few
pub visitor_records_are_few : (weigh : Weigh) (all : List FrameValue) (records : Records) → length all ≤ 16777216
    → KeepsRecordsOf weigh all records → length records.list ≤ 16777216
visitor_records_are_few weigh all records few kept = omega (arith, ap length kept.list, records_of-at_most_frames weigh all)
