-- Worked examples of the stores of several sites, most by computing.
use Rattle.std.proofs.Common.{◌≡◌, ◌∙◌, ◌≤◌, ℕ, zero, suc, List, [], ◌∷◌, slice_index, Option, None, Some, refl, sym, ap, subst, arith}
use Rattle.prefix_lattice.specs.{RecordValue}
use Rattle.prefix_lattice.specs.declared.grain.Grain.TheVariants.{Byte}
use Rattle.prefix_lattice.proofs.Examples.{answer, packet}
use Rattle.frame_records.specs.declared.weigh.Weigh.TheVariants.{Bytes}
use Rattle.deal_rules.specs.declared.deal_kind.DealKind.TheVariants.{RoundRobin}
use Rattle.shard_state.specs.{SnapshotValue, empty_snapshot, folded_shard, no_entries, snapshot_of, total_of_cut}
use Rattle.shard_state.proofs.Examples.{four, shard}
use Rattle.checkpoint.specs.{SavedValue, header_bytes, written_header}
use Rattle.checkpoint.specs.declared.settings.StoreSettings.{StoreSettings}
use Rattle.recovery.specs.{ReadsAs, RefusesReading}
use Rattle.recovery.specs.declared.store_fault.StoreFault.TheVariants as store
use Rattle.recovery.proofs.ExamplesOfOpenings.{formatted_store_reads_as_nothing, short_bytes_are_refused}
use Rattle.site_merge.specs.SiteCut.{site_cut, site_lists, site_records_before, site_weight, store_shards}
use Rattle.site_merge.specs.OneCapture.{AreFirstOfOneCapture, AreOfOneCapture}
use Rattle.site_merge.specs.Sites.{IsShownBySites, RefusesSites, fault_at}
use Rattle.site_merge.specs.Disks.{RoseAtSite}
use Rattle.site_merge.specs.declared.fault.SiteFault.TheVariants.{DiskFault, NotFormatted, Damaged}

-- ---- lists and cuts

-- the lists of a site of two shards, with a packet and its answer, and those of another, with a packet alone
abbrev dealt : List (List (List RecordValue))
dealt = ((packet ∷ []) ∷ (answer ∷ []) ∷ []) ∷ ((packet ∷ []) ∷ [] ∷ []) ∷ []

pub lists_of_two_sites : site_lists dealt ≡ (packet ∷ []) ∷ (answer ∷ []) ∷ (packet ∷ []) ∷ [] ∷ []
lists_of_two_sites = refl

-- the first shard of the first site counted nothing yet
pub records_of_two_sites : site_records_before dealt ((0 ∷ 1 ∷ []) ∷ (1 ∷ 0 ∷ []) ∷ []) ≡ answer ∷ packet ∷ []
records_of_two_sites = refl

-- this many shards, with tables of four entries
abbrev settings : ℕ → StoreSettings
settings shards = record { shards = shards; capacity = 4; weigh = Bytes; deal = RoundRobin; grain = Byte }

-- a snapshot of six packets of weight 1, and what is saved of it under this digest
abbrev six_counted : SnapshotValue
six_counted = snapshot_of (folded_shard 9 shard)

abbrev saved : List ℕ → SavedValue
saved digest = record { sequence = 1; digest = digest; cut = record { shape = four; shards = six_counted ∷ [] } }

-- three sites: the second has no cut yet, and the others are of one capture
abbrev sites : List (Option SavedValue)
sites = Some (saved (7 ∷ [])) ∷ None ∷ Some (saved (7 ∷ [])) ∷ []

pub shards_of_a_store_without_a_cut : store_shards (settings 2) None ≡ empty_snapshot four ∷ empty_snapshot four ∷ []
shards_of_a_store_without_a_cut = refl

pub shards_of_three_sites : (site_cut (settings 1) sites).shards ≡ six_counted ∷ empty_snapshot four ∷ six_counted ∷ []
shards_of_three_sites = refl

pub weight_of_three_sites : site_weight sites ≡ 12
unfolding no_entries
weight_of_three_sites = refl

-- ---- one capture

pub first_and_third_are_of_one_capture : AreOfOneCapture sites 1 3
unfolding no_entries
first_and_third_are_of_one_capture =
    let weighs : total_of_cut (saved (7 ∷ [])).cut ≡ 6 = refl in
    record {
      one = saved (7 ∷ []);
      other = saved (7 ∷ []);
      rising = omega arith;
      first_counted = record { numbered = omega arith; read = refl; weighs = omega (arith, weighs) };
      second_counted = record { numbered = omega arith; read = refl; weighs = omega (arith, weighs) };
      same = refl;
    }

no_cut_was_read : (store : SavedValue) → Path (Option (Option SavedValue)) (Some None) (Some (Some store)) → ⊥
no_cut_was_read store same = cc

third_is_the_least : (other : ℕ) → AreOfOneCapture sites 1 other → 3 ≤ other
third_is_the_least zero are = omega (arith, are.rising)
third_is_the_least (suc zero) are = omega (arith, are.rising)
third_is_the_least (suc (suc zero)) are = absurd (no_cut_was_read are.other are.second_counted.read)
third_is_the_least (suc (suc (suc other))) are = omega arith

pub they_are_the_first : AreFirstOfOneCapture sites 1 3
they_are_the_first = record {
  pair = first_and_third_are_of_one_capture;
  least_first = λ one other are. are.first_counted.numbered;
  least_second = third_is_the_least;
}

-- the digest and the weight of a store that was read
abbrev digest_read : Option (Option SavedValue) → List ℕ
digest_read (Some (Some store)) = store.digest
digest_read _ = []

abbrev weight_read : Option (Option SavedValue) → ℕ
weight_read (Some (Some store)) = total_of_cut store.cut
weight_read _ = 0

pub other_digests_are_of_other_captures : AreOfOneCapture (Some (saved (7 ∷ [])) ∷ Some (saved (8 ∷ [])) ∷ []) 1 2 → ⊥
other_digests_are_of_other_captures are =
    let digests : 7 ∷ [] ≡ 8 ∷ [] =
    ap digest_read are.first_counted.read ∙ are.same ∙ sym (ap digest_read are.second_counted.read) in
    let same : 7 ≡ 8 = ap (λ (digest : List ℕ). slice_index digest 0) digests in
    omega (arith, same)

-- what a store of one shard saved before its first packet
abbrev saved_nothing : SavedValue
saved_nothing =
    record { sequence = 1; digest = 7 ∷ []; cut = record { shape = four; shards = empty_snapshot four ∷ [] } }

pub stores_that_counted_nothing_are_apart : AreOfOneCapture (Some saved_nothing ∷ Some saved_nothing ∷ []) 1 2 → ⊥
unfolding no_entries
stores_that_counted_nothing_are_apart are =
    let nothing : 0 ≡ total_of_cut are.one.cut = ap weight_read are.first_counted.read in
    omega (arith, nothing, are.first_counted.weighs)

-- ---- refusals

same_image : (image other : List ℕ) → Path (Option (List ℕ)) (Some image) (Some other) → image ≡ other
same_image image other same = cc

-- however records are weighed and dealt: one shard with tables of two entries, and its store before the first save
module _ (any : StoreSettings) where
  abbrev small : StoreSettings
  small = record any { shards = 1; capacity = 2; grain = Byte }

  abbrev formatted : List ℕ
  formatted = 0 ∷ 0 ∷ header_bytes (written_header small)

  -- the first store reads as nothing, so the second is told, of one byte
  pub second_store_is_too_short : RefusesSites small (Some formatted ∷ Some (0 ∷ []) ∷ []) (NotFormatted 2)
  second_store_is_too_short = (
    1,
    refl,
    record {
      earlier = None ∷ [];
      are_read = (
        record {
          is_read = tt;
          bytes = λ image same. subst (λ i. ReadsAs small i None) (same_image formatted image same) (formatted_store_reads_as_nothing any);
        },
        tt,
      );
      read = Some (0 ∷ []);
      read_is = refl;
      refused = λ image same.
          subst (λ i. RefusesReading small i store.NotFormatted) (same_image (0 ∷ []) image same) (short_bytes_are_refused any);
    },
  )

  -- of two short stores the first is told
  pub first_store_is_too_short : RefusesSites small (Some (0 ∷ []) ∷ Some (0 ∷ []) ∷ []) (NotFormatted 1)
  first_store_is_too_short = (
    0,
    refl,
    record {
      earlier = [];
      are_read = tt;
      read = Some (0 ∷ []);
      read_is = refl;
      refused = λ image same.
          subst (λ i. RefusesReading small i store.NotFormatted) (same_image (0 ∷ []) image same) (short_bytes_are_refused any);
    },
  )

pub fault_of_the_second_store : fault_at 2 (store.Damaged 1) ≡ Damaged 2 1
fault_of_the_second_store = refl

pub bytes_show_a_missing_header : IsShownBySites (NotFormatted 2)
bytes_show_a_missing_header = record { not_of_disk = λ site same. cc same; not_of_memory = λ same. cc same }

pub bytes_show_no_fault_of_a_disk : IsShownBySites (DiskFault 2) → ⊥
bytes_show_no_fault_of_a_disk shown = shown.not_of_disk 2 refl

-- ---- disks

-- the disk of the second site failed once
pub count_of_the_second_site_rose : RoseAtSite (3 ∷ 5 ∷ []) (3 ∷ 6 ∷ []) 2
count_of_the_second_site_rose = record { numbered = omega arith; within = omega arith; rose = omega arith }

pub count_of_the_first_site_did_not : RoseAtSite (3 ∷ 5 ∷ []) (3 ∷ 6 ∷ []) 1 → ⊥
count_of_the_first_site_did_not rose = omega (arith, rose.rose)
