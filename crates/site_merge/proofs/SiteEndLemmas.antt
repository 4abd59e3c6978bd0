-- What a run of `sites` comes to, by what was read of the words and of the stores.
use Rattle.std.proofs.Common.{◌≡◌, ◌⊎◌, inl, inr, ◌+◌, ◌*◌, ◌≤◌, ◌∙◌, refl, sym, ap, subst, arith, ℕ, List, [], ◌∷◌, length, map, Option, Some, None}
use Rattle.std.proofs.Common.{Result, Ok, Err, slice_index}
use Rattle.std.specs.List.{flat_map}
use Rattle.std.specs.Result.{IfErr, IsErrOf}
use Rattle.std.proofs.Math.Nat.{suc-mul}
use Rattle.std.proofs.lemmas.List.{length-append, length-map, length-replicate}
use Rattle.slot_disk.specs.declared.disk.Disk.{Ghosts as DiskOf}
use Rattle.checkpoint.specs.declared.settings.StoreSettings.{StoreSettings}
use Rattle.checkpoint.specs.{SavedValue}
use Rattle.site_merge.specs.SiteCut.{IsReadStore, site_cut, store_shards}
use Rattle.site_merge.specs.Disks.{AreLeftAlone, RoseAtSite}
use Rattle.site_merge.specs.Sites.{IsShownBySites, RefusesSites, SitesReadAs}
use Rattle.site_merge.specs.Reporting.{IsSiteReport, MustRefuseSites, MustReport, WasStopped}
use Rattle.site_merge.specs.SiteWords.{AskForSites, HasSiteFault}
use Rattle.site_merge.specs.SiteStatus.{status_number, status_of_sites, status_of_site_words}
use Rattle.site_merge.specs.TopCall.{AnswersSites, EndsUnread, ReadingEnds, SitesEnd, StopsSites}
use Rattle.site_merge.specs.SiteLine.{IsLine}
use Rattle.site_merge.specs.SiteText.{sites_text}
use Rattle.site_merge.specs.declared.words.SiteLine.{SiteLine}
use Rattle.std.specs.Io.KnownBytes.{Appends}
use Rattle.outside_io.specs.{AppendsPart, FaultRose}
use Rattle.outside_io.specs.declared.sink.Sink.{Ghosts as SinkOf}
use Rattle.site_merge.specs.declared.fault.SiteFault.{SiteFault}
use Rattle.site_merge.specs.declared.fault.SiteFault.TheVariants as fault
use Rattle.site_merge.specs.declared.reporting.SiteReport.{SiteReport}
use Rattle.site_merge.specs.declared.site_words.SiteWords.{SiteWords}
use Rattle.site_merge.specs.declared.site_words.SiteWordsRefusal.{SiteWordsRefusal}
use Rattle.site_merge.specs.declared.site_words.SiteWordsRefusal.TheVariants.{Bad, OutOfMemory as NoMemory}
use Rattle.site_merge.specs.declared.status.SiteStatus.{SiteStatus}
use Rattle.site_merge.specs.declared.status.SiteStatus.TheVariants.{Done, BadWords, WriteFault, DiskFault, OutOfMemory, NotFormatted, OtherSettings}
use Rattle.site_merge.specs.declared.status.SiteStatus.TheVariants.{Damaged, SameCapture, TooHeavy}
use Rattle.site_merge.proofs.LeftDiskLemmas.{LeftDiskIsNow, left_disks_stay}

-- ---- statuses

-- the fault of a site from its status
abbrev site_end_fault : SiteStatus → SiteFault
site_end_fault (DiskFault site) = fault.DiskFault site
site_end_fault (NotFormatted site) = fault.NotFormatted site
site_end_fault (OtherSettings site stored asked) = fault.OtherSettings site stored asked
site_end_fault (Damaged site slot) = fault.Damaged site slot
site_end_fault (SameCapture first second) = fault.SameCapture first second
site_end_fault (TooHeavy total) = fault.TooHeavy total
site_end_fault _ = fault.OutOfMemory

site_end_fault-own : (of : SiteFault) → site_end_fault (status_of_sites of) ≡ of
site_end_fault-own (fault.DiskFault site) = refl
site_end_fault-own (fault.NotFormatted site) = refl
site_end_fault-own (fault.OtherSettings site stored asked) = refl
site_end_fault-own (fault.Damaged site slot) = refl
site_end_fault-own (fault.SameCapture first second) = refl
site_end_fault-own (fault.TooHeavy total) = refl
site_end_fault-own fault.OutOfMemory = refl

-- faults of one status are one
site_end_has_one_fault : (of other : SiteFault) → status_of_sites of ≡ status_of_sites other → of ≡ other
site_end_has_one_fault of other same = sym (site_end_fault-own of) ∙ ap site_end_fault same ∙ site_end_fault-own other

-- the exit statuses where stores are refused
site_end_number : (of : SiteFault) → 6 ≤ status_number (status_of_sites of)
site_end_number (fault.DiskFault site) = omega arith
site_end_number (fault.NotFormatted site) = omega arith
site_end_number (fault.OtherSettings site stored asked) = omega arith
site_end_number (fault.Damaged site slot) = omega arith
site_end_number (fault.SameCapture first second) = omega arith
site_end_number (fault.TooHeavy total) = omega arith
site_end_number fault.OutOfMemory = omega arith

site_end_shown_number : (of : SiteFault) → IsShownBySites of → status_number (status_of_sites of) ≡ 13 → ⊥
site_end_shown_number (fault.DiskFault site) shown same = omega (arith, same)
site_end_shown_number (fault.NotFormatted site) shown same = omega (arith, same)
site_end_shown_number (fault.OtherSettings site stored asked) shown same = omega (arith, same)
site_end_shown_number (fault.Damaged site slot) shown same = omega (arith, same)
site_end_shown_number (fault.SameCapture first second) shown same = omega (arith, same)
site_end_shown_number (fault.TooHeavy total) shown same = omega (arith, same)
site_end_shown_number fault.OutOfMemory shown same = shown.not_of_memory refl

-- statuses with other numbers differ
site_ends_are_apart : (status other : SiteStatus) → (status_number status ≡ status_number other → ⊥) → status ≡ other → ⊥
site_ends_are_apart status other differ same = differ (ap status_number same)

-- the numbers of a run that is not refused for its stores
site_end_is_no_fault : (status : SiteStatus) → (status_number status ≤ 5) ⊎ (status_number status ≡ 13) → (of : SiteFault) → IsShownBySites of
    → status ≡ status_of_sites of → ⊥
site_end_is_no_fault status (inl low) of shown same =
    let is : status_number status ≡ status_number (status_of_sites of) = ap status_number same in
    let least = site_end_number of in
    omega (arith, is, low, least)
site_end_is_no_fault status (inr high) of shown same = site_end_shown_number of shown (sym (ap status_number same) ∙ high)

-- ---- the ends

module _ {D : Type 0} (d : DiskOf D) (words : List (List ℕ)) (old : List D) where
  -- the words were refused, so nothing was read
  pub site_end_of_words : LeftDiskIsNow d → (refusal : SiteWordsRefusal)
      → ((fault : SiteWords) → refusal ≡ Bad fault → HasSiteFault words fault)
      → ((fault : SiteWords) → HasSiteFault words fault → (refusal ≡ Bad fault) ⊎ (refusal ≡ NoMemory))
      → ((settings : StoreSettings) (phi : ℕ) (names : List (List ℕ)) → AskForSites words settings phi names → refusal ≡ NoMemory)
      → EndsUnread d words old old (status_of_site_words refusal)
  site_end_of_words now (Bad kind) bad exact complete = record {
    reading = record {
      bad_words = λ fault same. record {
        first_fault = bad fault (ap Bad (same_words kind fault same));
        untouched = refl;
      };
      refuses_words = λ fault has. inl (same_status fault (exact fault has));
      bad_stores = λ fault shown same. absurd (site_end_is_no_fault (BadWords kind) (inl (omega arith)) fault shown same);
      refuses_stores = λ settings phi names images fault asked. absurd (never (complete settings phi names asked));
      disk_fault = λ site same. absurd (site_ends_are_apart (BadWords kind) (DiskFault site) (λ is. omega (arith, is)) same);
      disk_fault_reported = λ place other. refl;
      left = left_disks_stay d now old;
      complete = λ settings phi names images sites asked. absurd (never (complete settings phi names asked));
    };
    not_done = λ same. site_ends_are_apart (BadWords kind) Done (λ is. omega (arith, is)) same;
    not_of_sink = λ same. site_ends_are_apart (BadWords kind) WriteFault (λ is. omega (arith, is)) same;
  }
    where
      same_words : (kind fault : SiteWords) → BadWords kind ≡ BadWords fault → kind ≡ fault
      same_words kind fault same = cc

      never : Bad kind ≡ NoMemory → ⊥
      never same = cc

      same_status : (fault : SiteWords) → (Bad kind ≡ Bad fault) ⊎ (Bad kind ≡ NoMemory) → BadWords kind ≡ BadWords fault
      same_status fault (inl same) = cc
      same_status fault (inr same) = cc
  site_end_of_words now NoMemory bad exact complete = record {
    reading = record {
      bad_words = λ fault same. absurd (site_ends_are_apart OutOfMemory (BadWords fault) (λ is. omega (arith, is)) same);
      refuses_words = λ fault has. inr refl;
      bad_stores = λ fault shown same. absurd (site_end_is_no_fault OutOfMemory (inr refl) fault shown same);
      refuses_stores = λ settings phi names images fault asked all shown refused. inr (inr refl);
      disk_fault = λ site same. absurd (site_ends_are_apart OutOfMemory (DiskFault site) (λ is. omega (arith, is)) same);
      disk_fault_reported = λ place other. refl;
      left = left_disks_stay d now old;
      complete = λ settings phi names images sites asked all read can. inr (inr (inr refl));
    };
    not_done = λ same. site_ends_are_apart OutOfMemory Done (λ is. omega (arith, is)) same;
    not_of_sink = λ same. site_ends_are_apart OutOfMemory WriteFault (λ is. omega (arith, is)) same;
  }

-- what was read of the words, and what the call of the stores promised
pub record SiteStoresWereRead {D : Type 0} (d : DiskOf D) (words : List (List ℕ)) (old new : List D) (settings : StoreSettings) (phi : ℕ)
    (names : List (List ℕ)) (made : Result SiteReport SiteFault) : Type 0 where
  pub asked : AskForSites words settings phi names
  pub one : (other : StoreSettings) (share : ℕ) (more : List (List ℕ)) → AskForSites words other share more → (other ≡ settings) × (share ≡ phi)
  pub faultless : (fault : SiteWords) → HasSiteFault words fault → ⊥
  pub refused : IfErr made (RefusesSites settings (map d.reads old))
  pub must_report : (images : List (List ℕ)) → map d.reads old ≡ map Some images → MustReport settings images phi made
  pub must_refuse : (images : List (List ℕ)) → map d.reads old ≡ map Some images → MustRefuseSites settings images made
  pub left : AreLeftAlone d old new
  pub disk_fault : (site : ℕ) → IsErrOf made (fault.DiskFault site) → RoseAtSite (map d.faults old) (map d.faults new) site
  pub no_fault : (place : ℕ) → (IsErrOf made (fault.DiskFault (place + 1)) → ⊥)
      → slice_index (map d.faults new) place ≡ slice_index (map d.faults old) place

module _ {D : Type 0} (d : DiskOf D) (words : List (List ℕ)) (old new : List D) (settings : StoreSettings) (phi : ℕ) (names : List (List ℕ)) where
  -- the stores were refused
  pub site_end_of_stores : (of : SiteFault) → SiteStoresWereRead d words old new settings phi names (Err of)
      → EndsUnread d words old new (status_of_sites of)
  site_end_of_stores of read = record {
    reading = record {
      bad_words = λ fault same. absurd (no_words fault same);
      refuses_words = λ fault has. absurd (read.faultless fault has);
      bad_stores = λ fault shown same. record {
        settings = settings;
        phi = phi;
        names = names;
        asked = read.asked;
        refused = subst (RefusesSites settings (map d.reads old)) (site_end_has_one_fault of fault same) read.refused;
      };
      refuses_stores = λ other share more images fault asked all shown refused.
          stopped_or fault (read.must_refuse images all fault shown
          (subst (λ s. RefusesSites s (map Some images) fault) (read.one other share more asked).0 refused));
      disk_fault = λ site same. read.disk_fault site (ap Err (site_end_has_one_fault of (fault.DiskFault site) same));
      disk_fault_reported = λ place other. read.no_fault place (λ is. other (ap status_of_sites (same_fault (fault.DiskFault (place + 1)) is)));
      left = read.left;
      complete = λ other share more images sites asked all are_read can.
          inr (inr (stopped (read.must_report images all sites
          (subst (λ s. SitesReadAs s (map Some images) sites) (read.one other share more asked).0 are_read) can)));
    };
    not_done = λ same. low (ap status_number same);
    not_of_sink = λ same. low_of_sink (ap status_number same);
  }
    where
      no_words : (fault : SiteWords) → status_of_sites of ≡ BadWords fault → ⊥
      no_words fault same =
          let is : status_number (status_of_sites of) ≡ 2 = ap status_number same in
          let least = site_end_number of in
          omega (arith, is, least)

      low : status_number (status_of_sites of) ≡ 0 → ⊥
      low is = let least = site_end_number of in omega (arith, is, least)

      low_of_sink : status_number (status_of_sites of) ≡ 5 → ⊥
      low_of_sink is = let least = site_end_number of in omega (arith, is, least)

      same_fault : (other : SiteFault) → Path (Result SiteReport SiteFault) (Err of) (Err other) → of ≡ other
      same_fault other same = cc

      stopped_by : WasStopped (Err of) → StopsSites (status_of_sites of)
      stopped_by (inl has) = inl (has.0, ap status_of_sites (same_fault (fault.DiskFault has.0) has.1))
      stopped_by (inr is) = inr (ap status_of_sites (same_fault fault.OutOfMemory is))

      stopped : WasStopped (Err of) ⊎ ⊥ → StopsSites (status_of_sites of)
      stopped (inl was) = stopped_by was
      stopped (inr never) = absurd never

      stopped_or : (fault : SiteFault) → WasStopped (Err of) ⊎ IsErrOf {T = SiteReport} (Err of) fault
          → (status_of_sites of ≡ status_of_sites fault) ⊎ StopsSites (status_of_sites of)
      stopped_or fault (inl was) = inr (stopped_by was)
      stopped_or fault (inr is) = inl (ap status_of_sites (same_fault fault is))

  -- a report was made: its text is written, or isn't since the sink failed or memory ran out
  pub site_end_of_report : (made : SiteReport) (status : SiteStatus) → (status ≡ Done) ⊎ ((status ≡ WriteFault) ⊎ (status ≡ OutOfMemory))
      → SiteStoresWereRead d words old new settings phi names (Ok made) → ReadingEnds d words old new status
  site_end_of_report made status which read = record {
    bad_words = λ fault same. absurd (no_number fault same which);
    refuses_words = λ fault has. absurd (read.faultless fault has);
    bad_stores = λ fault shown same. absurd (site_end_is_no_fault status (numbers which) fault shown same);
    refuses_stores = λ other share more images fault asked all shown refused.
        absurd (never fault (read.must_refuse images all fault shown
        (subst (λ s. RefusesSites s (map Some images) fault) (read.one other share more asked).0 refused)));
    disk_fault = λ site same. absurd (no_disk site same which);
    disk_fault_reported = λ place other. read.no_fault place (λ is. not_refused (fault.DiskFault (place + 1)) is);
    left = read.left;
    complete = λ other share more images sites asked all are_read can. ends which;
  }
    where
      number_of : (status ≡ Done) ⊎ ((status ≡ WriteFault) ⊎ (status ≡ OutOfMemory))
          → (status_number status ≡ 0) ⊎ ((status_number status ≡ 5) ⊎ (status_number status ≡ 13))
      number_of (inl is) = inl (ap status_number is)
      number_of (inr (inl is)) = inr (inl (ap status_number is))
      number_of (inr (inr is)) = inr (inr (ap status_number is))

      numbers : (status ≡ Done) ⊎ ((status ≡ WriteFault) ⊎ (status ≡ OutOfMemory)) → (status_number status ≤ 5) ⊎ (status_number status ≡ 13)
      numbers (inl is) = let n : status_number status ≡ 0 = ap status_number is in inl (omega (arith, n))
      numbers (inr (inl is)) = let n : status_number status ≡ 5 = ap status_number is in inl (omega (arith, n))
      numbers (inr (inr is)) = inr (ap status_number is)

      no_number : (fault : SiteWords) → status ≡ BadWords fault → (status ≡ Done) ⊎ ((status ≡ WriteFault) ⊎ (status ≡ OutOfMemory)) → ⊥
      no_number fault same (inl is) = site_ends_are_apart (BadWords fault) Done (λ n. omega (arith, n)) (sym same ∙ is)
      no_number fault same (inr (inl is)) = site_ends_are_apart (BadWords fault) WriteFault (λ n. omega (arith, n)) (sym same ∙ is)
      no_number fault same (inr (inr is)) = site_ends_are_apart (BadWords fault) OutOfMemory (λ n. omega (arith, n)) (sym same ∙ is)

      no_disk : (site : ℕ) → status ≡ DiskFault site → (status ≡ Done) ⊎ ((status ≡ WriteFault) ⊎ (status ≡ OutOfMemory)) → ⊥
      no_disk site same (inl is) = site_ends_are_apart (DiskFault site) Done (λ n. omega (arith, n)) (sym same ∙ is)
      no_disk site same (inr (inl is)) = site_ends_are_apart (DiskFault site) WriteFault (λ n. omega (arith, n)) (sym same ∙ is)
      no_disk site same (inr (inr is)) = site_ends_are_apart (DiskFault site) OutOfMemory (λ n. omega (arith, n)) (sym same ∙ is)

      not_refused : (other : SiteFault) → Path (Result SiteReport SiteFault) (Ok made) (Err other) → ⊥
      not_refused other same = cc

      never : (fault : SiteFault) → WasStopped (Ok made) ⊎ IsErrOf {T = SiteReport} (Ok made) fault → ⊥
      never of (inl (inl has)) = not_refused (fault.DiskFault has.0) has.1
      never of (inl (inr is)) = not_refused fault.OutOfMemory is
      never of (inr is) = not_refused of is

      ends : (status ≡ Done) ⊎ ((status ≡ WriteFault) ⊎ (status ≡ OutOfMemory)) → (status ≡ Done) ⊎ ((status ≡ WriteFault) ⊎ StopsSites status)
      ends (inl is) = inl is
      ends (inr (inl is)) = inr (inl is)
      ends (inr (inr is)) = inr (inr (inr is))

-- ---- positions

-- what each site reads as has as many shards as its settings say
site_end_shards : (settings : StoreSettings) (site : Option SavedValue) → IsReadStore settings site
    → length (store_shards settings site) ≡ settings.shards
site_end_shards settings None read = length-replicate settings.shards _
site_end_shards settings (Some saved) read = read.as_many

site_end_cut_length : (settings : StoreSettings) (reads : List (Option (List ℕ))) (sites : List (Option SavedValue))
    → SitesReadAs settings reads sites → length (site_cut settings sites).shards ≡ length sites * settings.shards
site_end_cut_length settings [] [] read = omega arith
site_end_cut_length settings [] (site ∷ sites) read = absurd read
site_end_cut_length settings (one ∷ reads) [] read = absurd read
site_end_cut_length settings (one ∷ reads) (site ∷ sites) read =
    let own = site_end_shards settings site read.0.is_read in
    let others : length (flat_map (store_shards settings) sites) ≡ length sites * settings.shards =
    site_end_cut_length settings reads sites read.1 in
    let both : length (site_cut settings (site ∷ sites)).shards
    ≡ length (store_shards settings site) + length (flat_map (store_shards settings) sites) =
    length-append (store_shards settings site) (flat_map (store_shards settings) sites) in
    let sum : length (site_cut settings (site ∷ sites)).shards ≡ length sites * settings.shards + settings.shards =
    omega (arith, own, others, both) in
    sum ∙ sym (suc-mul (length sites) settings.shards)

-- a report of sites has a position for each shard of each site
pub site_end_positions : (settings : StoreSettings) (reads : List (Option (List ℕ))) (sites : List (Option SavedValue)) (phi : ℕ)
    (made : SiteReport) → SitesReadAs settings reads sites → IsSiteReport settings sites phi made
    → length made.report.positions ≡ made.sites * made.shards
site_end_positions settings reads sites phi made read is =
    ap length is.report.positions ∙ length-map (site_cut settings sites).shards _ ∙ site_end_cut_length settings reads sites read
    ∙ ap (λ n. n * settings.shards) (sym is.as_many) ∙ ap (λ n. made.sites * n) (sym is.shards)

-- ---- what was read of the words

pub site_end_exact : {T : Type 0} (refusal : SiteWordsRefusal) (fault : SiteWords)
    → Path (Result T SiteWordsRefusal) (Err refusal) (Err (Bad fault)) ⊎ Path (Result T SiteWordsRefusal) (Err refusal) (Err NoMemory)
    → (refusal ≡ Bad fault) ⊎ (refusal ≡ NoMemory)
site_end_exact refusal fault (inl same) = inl cc
site_end_exact refusal fault (inr same) = inr cc

pub site_end_complete : {T : Type 0} (refusal : SiteWordsRefusal) → ⊥ ⊎ Path (Result T SiteWordsRefusal) (Err refusal) (Err NoMemory)
    → refusal ≡ NoMemory
site_end_complete refusal (inl never) = absurd never
site_end_complete refusal (inr same) = cc

pub site_end_one_line : (line : SiteLine) (settings : StoreSettings) (phi : ℕ) (names : List (List ℕ))
    → IsLine line settings phi names ⊎ Path (Result SiteLine SiteWordsRefusal) (Ok line) (Err NoMemory)
    → (settings ≡ line.settings) × (phi ≡ line.phi)
site_end_one_line line settings phi names (inl is) = (sym is.same_settings, sym is.same_phi)
site_end_one_line line settings phi names (inr same) = cc

pub site_end_line_is_faultless : (line : SiteLine) (fault : SiteWords)
    → Path (Result SiteLine SiteWordsRefusal) (Ok line) (Err (Bad fault)) ⊎ Path (Result SiteLine SiteWordsRefusal) (Ok line) (Err NoMemory) → ⊥
site_end_line_is_faultless line fault (inl same) = cc
site_end_line_is_faultless line fault (inr same) = cc

-- memory ran out for the text of a report
pub site_end_without_memory : {D : Type 0} (d : DiskOf D) (words : List (List ℕ)) (old new : List D) (settings : StoreSettings) (phi : ℕ)
    (names : List (List ℕ)) (made : SiteReport) → SiteStoresWereRead d words old new settings phi names (Ok made)
    → EndsUnread d words old new OutOfMemory
site_end_without_memory d words old new settings phi names made read = record {
  reading = site_end_of_report d words old new settings phi names made OutOfMemory (inr (inr refl)) read;
  not_done = λ same. site_ends_are_apart OutOfMemory Done (λ is. omega (arith, is)) same;
  not_of_sink = λ same. site_ends_are_apart OutOfMemory WriteFault (λ is. omega (arith, is)) same;
}

-- where the text was made but the sink failed, the words and the disks are as where it was written
pub site_end_of_failed_sink : {D : Type 0} (d : DiskOf D) (words : List (List ℕ)) (old new : List D) → ReadingEnds d words old new Done
    → ReadingEnds d words old new WriteFault
site_end_of_failed_sink d words old new done = record {
  bad_words = λ fault same. absurd (site_ends_are_apart WriteFault (BadWords fault) (λ is. omega (arith, is)) same);
  refuses_words = λ fault has. absurd (no_words fault (done.refuses_words fault has));
  bad_stores = λ fault shown same. absurd (site_end_is_no_fault WriteFault (inl (omega arith)) fault shown same);
  refuses_stores = λ settings phi names images fault asked all shown refused.
      absurd (no_stores fault shown (done.refuses_stores settings phi names images fault asked all shown refused));
  disk_fault = λ site same. absurd (site_ends_are_apart WriteFault (DiskFault site) (λ is. omega (arith, is)) same);
  disk_fault_reported = λ place other.
      done.disk_fault_reported place (λ same. site_ends_are_apart Done (DiskFault (place + 1)) (λ is. omega (arith, is)) same);
  left = done.left;
  complete = λ settings phi names images sites asked all read can. inr (inl refl);
}
  where
    no_words : (fault : SiteWords) → (Done ≡ BadWords fault) ⊎ (Done ≡ OutOfMemory) → ⊥
    no_words fault (inl same) = site_ends_are_apart Done (BadWords fault) (λ is. omega (arith, is)) same
    no_words fault (inr same) = site_ends_are_apart Done OutOfMemory (λ is. omega (arith, is)) same

    no_stores : (fault : SiteFault) → IsShownBySites fault → (Done ≡ status_of_sites fault) ⊎ StopsSites Done → ⊥
    no_stores of shown (inl same) = site_end_is_no_fault Done (inl (omega arith)) of shown same
    no_stores of shown (inr (inl has)) = site_ends_are_apart Done (DiskFault has.0) (λ is. omega (arith, is)) has.1
    no_stores of shown (inr (inr same)) = site_ends_are_apart Done OutOfMemory (λ is. omega (arith, is)) same

-- ---- the sink

module _ {D K : Type 0} (d : DiskOf D) (k : SinkOf K) (words : List (List ℕ)) (old new : List D) (before after : K) where
  -- no text was made
  pub site_end_unread : (status : SiteStatus) → after ≡ before → EndsUnread d words old new status → SitesEnd d k words old new before after status
  site_end_unread status same unread = record {
    done = λ is. absurd (unread.not_done is);
    reading = unread.reading;
    write_fault = λ is. absurd (unread.not_of_sink is);
    write_fault_reported = λ other. ap k.faults same;
    unwritten = λ other more. same;
  }

  -- the text was written
  pub site_end_written : (made : SiteReport) → AnswersSites d words old new made → ReadingEnds d words old new Done
      → Appends (k.taken before) (k.taken after) (sites_text made) → k.faults after ≡ k.faults before
      → SitesEnd d k words old new before after Done
  site_end_written made answers reading written kept = record {
    done = λ is. (made, answers, written);
    reading = reading;
    write_fault = λ is. absurd (site_ends_are_apart Done WriteFault (λ n. omega (arith, n)) is);
    write_fault_reported = λ other. kept;
    unwritten = λ other more. absurd (other refl);
  }

  -- the sink failed
  pub site_end_written_in_part : (made : SiteReport) → AnswersSites d words old new made → ReadingEnds d words old new Done
      → AppendsPart (k.taken before) (k.taken after) (sites_text made) → FaultRose (k.faults before) (k.faults after)
      → SitesEnd d k words old new before after WriteFault
  site_end_written_in_part made answers reading part rose = record {
    done = λ is. absurd (site_ends_are_apart WriteFault Done (λ n. omega (arith, n)) is);
    reading = site_end_of_failed_sink d words old new reading;
    write_fault = λ is. (rose, (made, answers, part));
    write_fault_reported = λ other. absurd (other refl);
    unwritten = λ other more. absurd (more refl);
  }
