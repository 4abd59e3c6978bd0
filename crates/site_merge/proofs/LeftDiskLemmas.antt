-- Disks that a call leaves alone.
use Rattle.std.proofs.Common.{◌≡◌, ◌∙◌, ℕ, zero, suc, ◌+◌, ◌-◌, ◌<◌, inl, inr, List, [], ◌∷◌, length, get_or, map, drop, refl, sym, ap, subst, arith}
use Rattle.std.specs.List.{AllZip}
use Rattle.std.proofs.Math.ListN.{set}
use Rattle.std.proofs.Math.Seq.{map-set_same}
use Rattle.std.proofs.lemmas.Bool.{cases_eq}
use Rattle.std.proofs.lemmas.List.{drop-drop, drop-set-lt, get_or-drop, get_or-map, get_or-set_other, get_or-set_same, length-map, map-set}
use Rattle.outside_io.specs.{FaultRose}
use Rattle.slot_disk.specs.declared.disk.Disk.{Ghosts as DiskOf}
use Rattle.slot_disk.specs.{CrashLeaves-none}
use Rattle.site_merge.specs.Disks.{IsLeftAlone, AreLeftAlone, RoseAtSite}

-- an image since this moment is one now
abbrev pub LeftDiskIsNow : {D : Type 0} → DiskOf D → Type 0
LeftDiskIsNow {D = D} d = (disk : D) (image : List ℕ) → d.image_since disk (d.moment disk) image → d.image_now disk image

left_disk_stays : {D : Type 0} (d : DiskOf D) → LeftDiskIsNow d → (disk : D) → IsLeftAlone d disk disk
left_disk_stays d now disk = record {
  same_reads = refl;
  any_moment = CrashLeaves-none d.moment d.image_since disk (d.image_now disk) (now disk);
  later = omega arith;
}

-- disks that nothing was done to
pub left_disks_stay : {D : Type 0} (d : DiskOf D) → LeftDiskIsNow d → (disks : List D) → AreLeftAlone d disks disks
left_disks_stay d now [] = tt
left_disks_stay d now (disk ∷ disks) = (left_disk_stays d now disk, left_disks_stay d now disks)

-- pairs of which one is replaced
left_disk_pairs_set : {D : Type 0} (R : D → D → Type 0) (xs ys : List D) (place : ℕ) (disk y : D) → AllZip R xs ys
    → R (get_or xs place disk) y → AllZip R xs (set ys place y)
left_disk_pairs_set R [] [] place disk y all here = tt
left_disk_pairs_set R [] (v ∷ vs) place disk y all here = absurd all
left_disk_pairs_set R (u ∷ us) [] place disk y all here = absurd all
left_disk_pairs_set R (u ∷ us) (v ∷ vs) zero disk y all here = (here, all.1)
left_disk_pairs_set R (u ∷ us) (v ∷ vs) (suc place) disk y all here = (all.0, left_disk_pairs_set R us vs place disk y all.1 here)

-- the disk at this place, where those from there on are as they were
pub left_disk_is_old : {D : Type 0} (old now : List D) (place : ℕ) (other : D) → drop place now ≡ drop place old
    → get_or now place other ≡ get_or old place other
left_disk_is_old {D = D} old now place other rest =
    let at : place ≡ place + 0 = omega arith in
    ap (λ (n : ℕ). get_or now n other) at ∙ sym (get_or-drop place now 0 other) ∙ ap (λ (l : List D). get_or l 0 other) rest
    ∙ get_or-drop place old 0 other ∙ ap (λ (n : ℕ). get_or old n other) (sym at)

-- the disk at this place was left alone too
pub left_disks_set : {D : Type 0} (d : DiskOf D) (old now : List D) (place : ℕ) (other new : D) → AreLeftAlone d old now
    → drop place now ≡ drop place old → IsLeftAlone d (get_or now place other) new → AreLeftAlone d old (set now place new)
left_disks_set {D = D} d old now place other new all rest here =
    left_disk_pairs_set (IsLeftAlone d) old now place other new all
    (subst (λ (x : D). IsLeftAlone d x new) (left_disk_is_old old now place other rest) here)

-- those further on are still as they were
pub left_disks_rest : {D : Type 0} (old now : List D) (place : ℕ) (new : D) → drop place now ≡ drop place old
    → drop (place + 1) (set now place new) ≡ drop (place + 1) old
left_disks_rest {D = D} old now place new rest =
    drop-set-lt (place + 1) now place new (omega arith) ∙ sym (drop-drop 1 place now) ∙ ap (λ (l : List D). drop 1 l) rest
    ∙ drop-drop 1 place old

-- the counts of faults, once that of the disk at this place stays
pub left_disks_counts : {D : Type 0} (faults : D → ℕ) (old now : List D) (place : ℕ) (other new : D) → map faults now ≡ map faults old
    → faults new ≡ faults (get_or now place other) → map faults (set now place new) ≡ map faults old
left_disks_counts faults old now place other new same stays = map-set_same faults now place new other stays ∙ same

-- or rises
pub left_disks_rose : {D : Type 0} (faults : D → ℕ) (old now : List D) (place : ℕ) (other new : D) (site : ℕ) → place < length old
    → map faults now ≡ map faults old → site ≡ place + 1 → FaultRose (faults (get_or now place other)) (faults new)
    → RoseAtSite (map faults old) (map faults (set now place new)) site
left_disks_rose {D = D} faults old now place other new site within same site_is rose =
    let long : length (map faults old) ≡ length old = length-map old faults in
    let counted : length (map faults old) ≡ length now = sym (ap (λ (l : List ℕ). length l) same) ∙ length-map now faults in
    let in_now : place < length now = omega (arith, within, long, counted) in
    let at : site - 1 ≡ place = omega (arith, site_is) in
    let before : get_or (map faults old) (site - 1) 0 ≡ faults (get_or now place other) =
    ap (λ (n : ℕ). get_or (map faults old) n 0) at ∙ ap (λ (l : List ℕ). get_or l place 0) (sym same)
    ∙ get_or-map faults now place other 0 in_now in
    let after : get_or (map faults (set now place new)) (site - 1) 0 ≡ faults new =
    ap (λ (n : ℕ). get_or (map faults (set now place new)) n 0) at ∙ ap (λ (l : List ℕ). get_or l place 0) (map-set faults now place new)
    ∙ get_or-set_same (map faults now) place (faults new) 0 (omega (arith, in_now, length-map now faults)) in
    record {
      numbered = omega (arith, site_is);
      within = omega (arith, site_is, within, long);
      rose = subst (λ (n : ℕ). FaultRose n (get_or (map faults (set now place new)) (site - 1) 0)) (sym before)
          (subst (λ (n : ℕ). FaultRose (faults (get_or now place other)) n) (sym after) rose);
    }

-- and those of the other disks stay
pub left_disks_other_counts : {D : Type 0} (faults : D → ℕ) (old now : List D) (place : ℕ) (disk new : D) (other : ℕ)
    → map faults now ≡ map faults old → (other ≡ place → faults new ≡ faults (get_or now place disk))
    → get_or (map faults (set now place new)) other 0 ≡ get_or (map faults old) other 0
left_disks_other_counts faults old now place disk new other same stays =
    elim (cases_eq other place) [
      | inl here ↦ ap (λ (l : List ℕ). get_or l other 0) (left_disks_counts faults old now place disk new same (stays here))
      | inr apart ↦
          ap (λ (l : List ℕ). get_or l other 0) (map-set faults now place new)
          ∙ get_or-set_other (map faults now) place other (faults new) 0 apart ∙ ap (λ (l : List ℕ). get_or l other 0) same
    ]
