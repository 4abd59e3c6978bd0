-- Worked examples of stores: what a run saves into one, what it goes on from, and what it then writes.
use Rattle.std.proofs.Common.{◌≡◌, ◌≤◌, ℕ, List, [], ◌∷◌, ◌++◌, Some, None, inl, inr, refl, sym, subst, codes, arith}
use Rattle.std.specs.Prelude.{⊤, ◌⊎◌, true, false}
use Rattle.std.specs.Fmt.{digits}
use Rattle.std.proofs.lemmas.List.Elements.{All-nil, All-cons}
use Rattle.prefix_lattice.specs.{RecordValue, address_bits}
use Rattle.deal_rules.specs.declared.deal_kind.DealKind.TheVariants.{RoundRobin}
use Rattle.shard_state.specs.{CutValue, ShardValue, SnapshotValue, empty_snapshot, no_entries, TableShape}
use Rattle.hhh_report.specs.{AreReportLines}
use Rattle.hhh_report.specs.declared.line.Line.{Line}
use Rattle.hhh_report.specs.declared.report.Report.{Report}
use Rattle.hhh_report.specs.declared.reports.Reported.{Reported}
use Rattle.pass_tokens.specs.{first_view}
use Rattle.gate_workers.specs.{cut_at}
use Rattle.recovery.specs.declared.fault.OpenFault.TheVariants as opening
use Rattle.frame_records.specs.declared.records.Records.{Records}
use Rattle.frame_records.specs.declared.weigh.Weigh.TheVariants.{Bytes}
use Rattle.report_text.specs.{tail_text}
use Rattle.slot_disk.specs.{CrashLeaves-none, known_slots_of}
use Rattle.slot_disk.specs.declared.disk.Disk.{Ghosts as DiskOf}
use Rattle.checkpoint.specs.{StoreOpensTo, SavedValue, SaverState, StoreHolds, lists_digest}
use Rattle.checkpoint.specs.{header_bytes, saver_of, stored_header, written_header}
use Rattle.checkpoint.specs.declared.header.StoreHeader.{StoreHeader}
use Rattle.checkpoint.specs.declared.settings.StoreSettings.{StoreSettings}
use Rattle.command_words.specs.declared.settings.Settings.{Settings}
use Rattle.report_session.specs.DealtFeed.{FeedGoesOn, HasNoBase, IsFeedSaver}
use Rattle.report_session.specs.Saving.{BelongThroughout, BelongsToLists, SavesFitBoard, IsAsBefore, IsNoEarlier}
use Rattle.prefix_lattice.specs.declared.grain.Grain.TheVariants.{Byte}
use Rattle.report_session.specs.Saving.{KeepsSaves, OpensToSaves, SavesReopen, Saves, SavesBreakOff}
use Rattle.report_session.specs.Saving.{SavesInPart, after_saves, after_broken, AreKeptOnDisk}
use Rattle.report_session.specs.Saving.{last_of_saves, AreReopened, ReopenFromStore, saves_after, settings_of_store}
use Rattle.report_session.specs.Session.{GoesOnFrom, SessionReports, calling_reports, session_ends, last_positions}
use Rattle.report_session.specs.Session.{new_shards, session_opening, session_part, resumed_shards, saved_cuts}
use Rattle.report_session.specs.Session.{saves_of, text_of_reports, session_start, asked_shape}
use Rattle.run_status.specs.declared.status.Status.TheVariants.{NotFormatted}
use Rattle.dealt_capture.proofs.Examples.{packet}
use Rattle.report_session.proofs.ExamplesOfSessions.{last, opening as four_shards, settings}
use Rattle.std.proofs.Common.{ap}

-- `report --store`, with one shard and tables of two entries
abbrev one_shard : Settings
one_shard = record settings { shards = 1; capacity = 2; store = true }

abbrev pub one : StoreSettings
one = settings_of_store one_shard

-- the header that `format` writes for it
abbrev of_one : StoreHeader
of_one = written_header one

-- a list of one packet
abbrev lists : List (List RecordValue)
lists = (packet ∷ []) ∷ []

-- of a command's settings a store has these
pub settings_of_a_store : settings_of_store settings
    ≡ record { shards = 4; capacity = 512; weigh = Bytes; deal = RoundRobin; grain = Byte }
settings_of_a_store = refl

-- ---- what is saved

-- the shape of its tables
abbrev shape : TableShape
shape = asked_shape one_shard

-- cuts of no record, and, as it says, of one
abbrev none_counted : CutValue
none_counted = record { shape = shape; shards = empty_snapshot shape ∷ [] }

abbrev snapshot : SnapshotValue
snapshot = record { shape = shape; position = 1; tables = no_entries shape.grain }

abbrev one_counted : CutValue
one_counted = record { shape = shape; shards = snapshot ∷ [] }

abbrev saved : ℕ → CutValue → SavedValue
saved sequence cut = record { sequence = sequence; digest = 9 ∷ []; cut = cut }

pub two_saves_after_sequence_4 : saves_after 4 (9 ∷ []) (none_counted ∷ one_counted ∷ [])
    ≡ saved 5 none_counted ∷ saved 6 one_counted ∷ []
two_saves_after_sequence_4 = refl

pub nothing_is_saved_of_no_cut : saves_after 4 (9 ∷ []) [] ≡ []
nothing_is_saved_of_no_cut = refl

pub last_of_two_saves : last_of_saves None (saved 1 none_counted ∷ saved 2 one_counted ∷ []) ≡ Some (saved 2 one_counted)
last_of_two_saves = refl

-- a store to which nothing was saved opens as before
pub last_of_no_saves : last_of_saves (Some (saved 4 none_counted)) [] ≡ Some (saved 4 none_counted)
last_of_no_saves = refl

-- with a store the cut at the positions of each report is saved, and without one none
pub cut_of_one_report : saved_cuts true four_shards (last ∷ []) ≡ cut_at four_shards (0 ∷ 0 ∷ 0 ∷ 0 ∷ []) ∷ []
cut_of_one_report = refl

pub no_cuts_without_a_store : saved_cuts false four_shards (last ∷ last ∷ []) ≡ []
no_cuts_without_a_store = refl

-- ---- what a stop leaves, of stores whose digest no test here looks into

-- a store whose gates are closed
abbrev pub formatted : List ℕ
formatted = 0 ∷ 0 ∷ header_bytes of_one

formatted_holds_nothing : StoreHolds of_one formatted None None
formatted_holds_nothing = record { long = omega arith; header = refl; taken = tt; first_slot = refl; second_slot = refl }

pub formatted_opens_to_nothing : StoreOpensTo of_one formatted None
formatted_opens_to_nothing = (None, None, formatted_holds_nothing, refl)

-- a crash in the first save may leave the store as it was
pub first_save_was_lost : OpensToSaves of_one None (saves_after 0 (9 ∷ []) (none_counted ∷ [])) formatted
first_save_was_lost = inl formatted_opens_to_nothing

-- and one in the second save a store that opens to the first
pub second_save_was_lost : (image : List ℕ) → StoreOpensTo of_one image (Some (saved 1 none_counted))
    → OpensToSaves of_one None (saves_after 0 (9 ∷ []) (none_counted ∷ one_counted ∷ [])) image
second_save_was_lost image opens = inr (inl opens)

pub second_save_was_made : (image : List ℕ) → StoreOpensTo of_one image (Some (saved 2 one_counted))
    → OpensToSaves of_one None (saves_after 0 (9 ∷ []) (none_counted ∷ one_counted ∷ [])) image
second_save_was_made image opens = inr (inr opens)

-- but none an empty disk
pub disk_was_emptied : OpensToSaves of_one None (saves_after 0 (9 ∷ []) (none_counted ∷ [])) [] → ⊥
disk_was_emptied (inl opens) = omega (arith, opens.2.long)
disk_was_emptied (inr opens) = omega (arith, opens.2.long)

-- a disk is a number, its moment. One whose images are all these bytes, and one of which nothing is known
abbrev disk_of : List ℕ → DiskOf ℕ
disk_of bytes = record {
  reads = λ disk. Some bytes;
  image_now = λ disk image. image ≡ bytes;
  moment = λ disk. disk;
  image_since = λ disk moment image. image ≡ bytes;
  faults = λ disk. 0;
}

abbrev unknown_disk : DiskOf ℕ
unknown_disk = record {
  reads = λ disk. None;
  image_now = λ disk image. ⊤;
  moment = λ disk. disk;
  image_since = λ disk moment image. ⊤;
  faults = λ disk. 0;
}

-- what the first disk may hold since a moment
abbrev formatted_since : ℕ → ℕ → List ℕ → Type 0
formatted_since disk moment image = image ≡ formatted

pub no_saves_keep_the_store : KeepsSaves (disk_of formatted) 7 7 of_one (9 ∷ []) (λ image. ⊥) [] [] formatted
no_saves_keep_the_store = record {
  opened = None;
  opens = formatted_opens_to_nothing;
  any_moment = CrashLeaves-none (λ disk. disk) formatted_since 7 (λ image. ⊥ ⊎ OpensToSaves of_one None [] image)
      (λ image is. inr (subst (λ bytes. StoreOpensTo of_one bytes None) (sym is) formatted_opens_to_nothing));
  afterwards = λ image is. subst (λ bytes. StoreOpensTo of_one bytes None) (sym is) formatted_opens_to_nothing;
}

-- an unfinished save may have left the store as it was
pub unfinished_save_left_nothing :
    KeepsSaves (disk_of formatted) 7 7 of_one (9 ∷ []) (λ image. ⊥) [] (none_counted ∷ []) formatted
unfinished_save_left_nothing = record {
  opened = None;
  opens = formatted_opens_to_nothing;
  any_moment = CrashLeaves-none (λ disk. disk) formatted_since 7
      (λ image. ⊥ ⊎ OpensToSaves of_one None (saves_after 0 (9 ∷ []) (none_counted ∷ [])) image)
      (λ image is. inr (inl (subst (λ bytes. StoreOpensTo of_one bytes None) (sym is) formatted_opens_to_nothing)));
  afterwards = λ image is. inl (subst (λ bytes. StoreOpensTo of_one bytes None) (sym is) formatted_opens_to_nothing);
}

-- a later save is no earlier one, in its sequence and in its positions
pub later_cut_is_no_earlier : IsNoEarlier one (Some (saved 1 none_counted)) (Some (saved 2 one_counted))
later_cut_is_no_earlier = record { sequence = omega arith; positions = (omega arith, tt) }

pub cut_of_fewer_records_is_earlier : IsNoEarlier one (Some (saved 1 one_counted)) (Some (saved 2 none_counted)) → ⊥
cut_of_fewer_records_is_earlier is = let past : 1 ≤ 0 = is.positions.0 in omega (arith, past)

pub sequence_before_is_earlier : IsNoEarlier one (Some (saved 2 none_counted)) (Some (saved 1 one_counted)) → ⊥
sequence_before_is_earlier is = let later : 2 ≤ 1 = is.sequence in omega (arith, later)

-- the formatted store opens again as nothing was saved, also where the first save is unfinished
pub formatted_reopens : (unfinished : List CutValue) → SavesReopen of_one None unfinished formatted
formatted_reopens unfinished = record {
  found = None;
  opens = formatted_opens_to_nothing;
  no_earlier = record { sequence = omega arith; positions = (omega arith, tt) };
  exact = λ none. refl;
}

-- an empty disk doesn't
pub empty_disk_reopens : SavesReopen of_one None [] [] → ⊥
empty_disk_reopens reopens = omega (arith, reopens.opens.2.long)

pub first_save_may_be_unfinished : AreReopened (disk_of formatted) 7 7 one [] [] (none_counted ∷ [])
first_save_may_be_unfinished store known =
    subst (λ bytes. ReopenFromStore (λ image. image ≡ formatted) (stored_header one bytes)
    (lists_digest (stored_header one bytes) []) [] (none_counted ∷ []) bytes) (cc known) (record {
      opened = None;
      opens = formatted_opens_to_nothing;
      again = λ image is. subst (SavesReopen of_one None (none_counted ∷ [])) (sym is) (formatted_reopens (none_counted ∷ []));
    })

-- where nothing is known of a disk, nothing is said of how it opens again
pub unknown_disk_reopens : AreReopened unknown_disk 7 8 one [] (none_counted ∷ []) []
unknown_disk_reopens store told = absurd (cc told)

-- a formatted store belongs to any lists, and does so throughout a session that saves nothing; an empty disk is no store
pub formatted_store_belongs_throughout : BelongThroughout (disk_of formatted) one lists None 7 7
formatted_store_belongs_throughout =
    let belongs : (image : List ℕ) → image ≡ formatted → BelongsToLists one lists image = λ image is.
    subst (BelongsToLists one lists) (sym is) (None, formatted_opens_to_nothing, tt) in
    record {
      base_represents = tt;
      any_moment = CrashLeaves-none (λ disk. disk) formatted_since 7 (BelongsToLists one lists) belongs;
      afterwards = belongs;
    }

pub empty_disk_belongs_to_no_lists : BelongThroughout (disk_of []) one lists None 7 7 → ⊥
empty_disk_belongs_to_no_lists belongs = omega (arith, (belongs.afterwards [] refl).1.2.long)

-- without a save a crash leaves what it could have left before
pub disk_is_as_before : IsAsBefore (disk_of formatted) 7 7
disk_is_as_before = record {
  same_reads = refl;
  any_moment = CrashLeaves-none (λ disk. disk) formatted_since 7 (λ image. image ≡ formatted) (λ image is. is);
}

-- the saver of the formatted store, after two saves
abbrev saver : SaverState
saver = saver_of (known_slots_of formatted) of_one (9 ∷ []) None

-- after a save that was made the saver goes on from it, and an unfinished one leaves none
pub saver_goes_on_after_a_whole_save : after_broken (Some saver) (one_counted ∷ []) [] ≡ Some (after_saves saver (one_counted ∷ []))
saver_goes_on_after_a_whole_save = refl

pub no_saver_after_an_unfinished_save : after_broken (Some saver) (one_counted ∷ []) (none_counted ∷ []) ≡ None
no_saver_after_an_unfinished_save = refl

-- nothing was saved, and the saver is lost all the same
pub saver_was_dropped : SavesBreakOff unknown_disk (Some saver) None 7 7 [] [] → ⊥
saver_was_dropped broke = cc broke.saver

pub two_saves_use_two_sequences : (after_saves saver (none_counted ∷ one_counted ∷ [])).sequence ≡ 2
two_saves_use_two_sequences = refl

pub two_saves_end_at_the_later_cut : (after_saves saver (none_counted ∷ one_counted ∷ [])).positions ≡ 1 ∷ []
two_saves_end_at_the_later_cut = refl

-- without a saver the disk stays
pub nothing_is_saved_without_a_saver : Saves unknown_disk None [] 7 8 → ⊥
nothing_is_saved_without_a_saver same = omega (arith, same)

pub nothing_is_begun_without_a_saver : SavesInPart unknown_disk None 7 8 [] (none_counted ∷ []) → ⊥
nothing_is_begun_without_a_saver part = let same = part.unused refl in omega (arith, same)

-- where nothing is known of a disk, nothing is said of what it keeps
pub unknown_disk_keeps_anything : AreKeptOnDisk unknown_disk 7 8 one [] (none_counted ∷ []) []
unknown_disk_keeps_anything bytes told = absurd (cc told)

-- ---- what a run goes on from

abbrev resumed : ShardValue
resumed = record { list = packet ∷ []; base = snapshot; position = 1 }

pub one_resumed_shard : resumed_shards lists (snapshot ∷ []) ≡ resumed ∷ []
one_resumed_shard = refl

pub run_goes_on_from_a_cut : session_opening shape lists (Some one_counted) ≡ resumed ∷ []
run_goes_on_from_a_cut = refl

pub resumed_shard_starts_at_its_cut : session_start (resumed ∷ []) ≡ 1 ∷ []
resumed_shard_starts_at_its_cut = refl

pub resumed_shard_ends_with_its_list : session_ends (resumed ∷ []) ≡ 1 ∷ []
resumed_shard_ends_with_its_list = refl

pub formatted_store_has_no_base : GoesOnFrom one_shard lists (Some formatted) None
formatted_store_has_no_base = record {
  unused = λ unused. refl;
  fits = tt;
  opens = λ used bytes told.
      let same : formatted ≡ bytes = cc told in
      (None, subst (λ bytes. StoreOpensTo (stored_header one bytes) bytes None) same formatted_opens_to_nothing, tt, refl);
}

-- without a store no saved cut is gone on from
pub no_base_without_a_store : GoesOnFrom settings lists None (Some one_counted) → ⊥
no_base_without_a_store goes_on = let none = goes_on.unused refl in cc none

-- the cut of no record may be gone on from, in tables of its capacity alone
pub cut_to_go_on_from : FeedGoesOn shape lists none_counted
unfolding no_entries
cut_to_go_on_from = record { alike = refl; continues = (record { within = omega arith; counted = refl }, tt) }

pub cut_of_another_capacity : FeedGoesOn (record shape { capacity = 4 }) lists none_counted → ⊥
cut_of_another_capacity goes_on = omega (arith, ap (λ (s : TableShape). s.capacity) goes_on.alike)

-- a saver for the packet, from the start on
pub saver_for_the_packet : IsFeedSaver one_shard lists (0 ∷ [])
    (saver_of (known_slots_of formatted) of_one (lists_digest of_one lists) None)
saver_for_the_packet = record { settings_are = refl; digest_is = refl; early = omega arith; positions_are = refl }

-- it may save what any pass reads of new shards
pub saver_fits_new_shards : SavesFitBoard (new_shards shape lists) (first_view (new_shards shape lists)) saver
saver_fits_new_shards = record {
  settings = record { some = omega arith; few = omega arith; least = omega arith; most = omega arith };
  shards = refl;
  shape = refl;
  seen = (omega arith, tt);
}

-- a store that isn't formatted gives no base, and its disk didn't fail
pub no_base_on_an_unknown_disk : HasNoBase one_shard lists None 3 3 NotFormatted
no_base_on_an_unknown_disk = record {
  fault = opening.NotFormatted;
  status_is = refl;
  used = inl refl;
  refused = λ bytes told. absurd (cc told);
  rose = λ same. absurd (cc same);
  kept = λ other. refl;
}

-- ---- the text of a session with a store, over the packet

abbrev line : Line
line = record { prefix = record { source = address_bits 0x0a010203; dest = address_bits 0x14010203 }; lo = 100; hi = 100 }

pub one_line : AreReportLines (line ∷ [])
one_line = record {
  few = omega arith;
  ordered = All-cons (λ (line : Line). line.lo ≤ line.hi) line [] (omega arith) (All-nil _);
  rising = λ i j d before within. absurd (omega (arith, before, within));
}

abbrev report : Report
report = record { positions = 1 ∷ []; total = 100; threshold = 1; lines = line ∷ []; are_lines = one_line }

abbrev of_the_packet : Reported
of_the_packet = record { report = report; saved = None }

abbrev reports : SessionReports
reports = record { rounds = []; callers = []; last = of_the_packet }

abbrev records : Records
records = record { list = packet ∷ []; frames = 1; not_ipv4 = 0; short = 0; bad_header = 0; cut = None }

-- its positions are those of the last save, and before it those at the start
pub positions_of_the_last_report : last_positions (0 ∷ []) (of_the_packet ∷ []) ≡ 1 ∷ []
positions_of_the_last_report = refl

pub positions_before_a_report : last_positions (0 ∷ []) [] ≡ 0 ∷ []
positions_before_a_report = refl

-- its only cut is saved under the sequence after that of the store
pub saves_of_a_session : saves_of of_one (resumed ∷ []) (Some (saved 4 one_counted)) (calling_reports reports)
    ≡ record { sequence = 5; digest = lists_digest of_one lists; cut = cut_at (resumed ∷ []) (1 ∷ []) } ∷ []
saves_of_a_session = refl

pub report_with_a_store : session_part true of_the_packet
    ≡ codes "report\nat 1\ntotal 100\nthreshold 1\nline 10.1.2.3/32 20.1.2.3/32 100 100\ndone\nsaved 1\n"
unfolding digits
report_with_a_store = refl

pub session_with_a_store : text_of_reports true (0 ∷ []) reports (tail_text records)
    ≡ codes "opened 0\nreport\nat 1\ntotal 100\nthreshold 1\nline 10.1.2.3/32 20.1.2.3/32 100 100\ndone\nsaved 1\n"
    ++ codes "frames 1\nskipped 0 0 0\nend\n"
unfolding digits
session_with_a_store = refl

-- a second run over the same capture goes on at its end
pub resumed_session : text_of_reports true (session_start (resumed ∷ [])) reports (tail_text records)
    ≡ codes "opened 1\nreport\nat 1\ntotal 100\nthreshold 1\nline 10.1.2.3/32 20.1.2.3/32 100 100\ndone\nsaved 1\n"
    ++ codes "frames 1\nskipped 0 0 0\nend\n"
unfolding digits
resumed_session = refl

pub session_without_a_store : text_of_reports false (0 ∷ []) reports (tail_text records)
    ≡ codes "opened 0\nreport\nat 1\ntotal 100\nthreshold 1\nline 10.1.2.3/32 20.1.2.3/32 100 100\ndone\n"
    ++ codes "frames 1\nskipped 0 0 0\nend\n"
unfolding digits
session_without_a_store = refl
