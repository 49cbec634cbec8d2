-- What is wanted of slots stands by inode once names are settled.
use Rattle.std.proofs.Common.{◌≡◌, inl, inr, ℕ, suc, Bool, ◌+◌, ◌≤◌, ◌<◌, cond, if◌then◌else◌, List, [], ◌∷◌, ◌++◌, take, drop, sym, ap, ◌∙◌, subst, arith}
use Rattle.std.specs.List.{flat_map}
use Rattle.std.proofs.lemmas.Bool.{cases_order, eq-eqb, le-ltb, lt-ltb, ne_eqb}
use Rattle.xfs_disk.specs.Blocks.{Image}
use Rattle.xfs_disk.specs.declared.stamp.Stamp.{Stamp}
use Rattle.xfs_geom.specs.Volumes.{volume_of}
use Rattle.xfs_geom.specs.declared.geometry.Geometry.{Geometry}
use Rattle.xfs_image.specs.Slots.{cluster_inodes}
use Rattle.xfs_naming.specs.Naming.{NumbersAscend}
use Rattle.xfs_names.specs.declared.records.WantedNames.{WantedNames}
use Rattle.xfs_mend.proofs.xfs_made.Inodes.{first_in}
use Rattle.xfs_views.proofs.Members.{all_members}
use Rattle.xfs_render.specs.declared.wanted_slots.SlotWanted.{SlotWanted}
use Rattle.xfs_request.specs.Slots.{StandByNumber, slot_listed}
use Rattle.xfs_mend.proofs.xfs_made.Spaced.{AreSpaced, inodes_up, kept_spaced}
use Rattle.xfs_salvage.proofs.Ascending.{lower}
use Rattle.xfs_scan.specs.declared.evidence.Evidence.{Evidence}
use Rattle.xfs_volume.specs.declared.files.FileRec.{FileRec}
use Rattle.xfs_mend.specs.xfs_rebuild.Rebuilds.{Ground, IsFound}
use Rattle.xfs_mend.specs.xfs_rebuild.declared.names_due.NamesDue.{NamesDue}
use Rattle.xfs_mend.proofs.xfs_restored.Wanted.{listed}
use Rattle.xfs_mend.specs.xfs_restored.DueFiles.{kept_inodes}
use Rattle.xfs_mend.specs.xfs_rename.Lost.{lost_due}
use Rattle.xfs_mend.specs.xfs_rename.Renames.{old_files, renamed_slots}
use Rattle.xfs_mend.specs.xfs_rename.Settled.{AreWanted}
use Rattle.xfs_changes.specs.Slots.{changed, changed_alone, changes_of, put_first, slots_before, with_changes}
use Rattle.xfs_changes.specs.declared.changes.SlotChange.{SlotChange}
use Rattle.xfs_changes.specs.declared.forks.DirectoryFork.{DirectoryFork}
use Rattle.xfs_mend.proofs.xfs_restored.Links.{changes_ascend}
use Rattle.xfs_mend.proofs.xfs_restored.NewSlots.{added_few}
use Rattle.xfs_mend.proofs.xfs_restored.Room.{links_ascend}
use Rattle.xfs_mend.proofs.xfs_restored.WantedSlots.{slots_up}
use Rattle.xfs_mend.specs.xfs_restored.Changes.{ChangesAscend, LeavesRoom, LinksAscend, SlotsAscend}
use Rattle.xfs_settled.specs.Gathered.{IsGathered}
use Rattle.xfs_settled.proofs.Found as Found
use Rattle.xfs_settled.proofs.Numbers.{file_clear}

-- a change stands in its place among slots
slot_before : (c : SlotChange) (cs : List SlotChange) (w : SlotWanted) (ws : List SlotWanted) → w.ino < c.ino → with_changes (c ∷ cs) (w ∷ ws) ≡ w ∷ with_changes (c ∷ cs) ws
unfolding with_changes
slot_before c cs w ws less =
    let count : slots_before c (w ∷ ws) ≡ suc (slots_before c ws) = ap (λ (t : Bool). cond t (1 + slots_before c ws) 0) (lt-ltb w.ino c.ino less) ∙ omega arith in
    ap (λ (k : ℕ). take k (w ∷ ws) ++ put_first c (with_changes cs) (drop k (w ∷ ws))) count

change_here : (c : SlotChange) (cs : List SlotChange) (w : SlotWanted) (ws : List SlotWanted) → c.ino ≤ w.ino → with_changes (c ∷ cs) (w ∷ ws) ≡ put_first c (with_changes cs) (w ∷ ws)
unfolding with_changes
change_here c cs w ws less =
    let count : slots_before c (w ∷ ws) ≡ 0 = ap (λ (t : Bool). cond t (1 + slots_before c ws) 0) (le-ltb w.ino c.ino less) in
    ap (λ (k : ℕ). take k (w ∷ ws) ++ put_first c (with_changes cs) (drop k (w ∷ ws))) count

from_lower : (low high : ℕ) (ws : List SlotWanted) → low ≤ high → SlotsAscend high ws → SlotsAscend low ws
from_lower low high [] le up = tt
from_lower low high (w ∷ ws) le up = (let first = up.0 in omega (arith, le, first), up.1)

-- slots with changes ascend where both do
one_ascends : (c : SlotChange) (cs : List SlotChange) → ((ws : List SlotWanted) → SlotsAscend (c.ino + 1) ws → SlotsAscend (c.ino + 1) (with_changes cs ws))
    → (ws : List SlotWanted) (low : ℕ) → low ≤ c.ino → SlotsAscend low ws → SlotsAscend low (with_changes (c ∷ cs) ws)
unfolding with_changes
one_ascends c cs next [] low least up = (least, next [] tt)
one_ascends c cs next (w ∷ ws) low least up =
    elim (cases_order w.ino c.ino) [
      | inl same ↦
          let here : with_changes (c ∷ cs) (w ∷ ws) ≡ changed c w ∷ with_changes cs ws =
          change_here c cs w ws (omega (arith, same))
          ∙ ap (λ (t : Bool). if t then changed c w ∷ with_changes cs ws else changed_alone c ∷ with_changes cs (w ∷ ws)) (eq-eqb w.ino c.ino same) in
          subst (SlotsAscend low) (sym here)
          (up.0, subst (λ (k : ℕ). SlotsAscend (k + 1) (with_changes cs ws)) (sym same) (next ws (subst (λ (k : ℕ). SlotsAscend (k + 1) ws) same up.1)))
      | inr apart ↦
          elim apart [
            | inl less ↦
                subst (SlotsAscend low) (sym (slot_before c cs w ws less)) (up.0, one_ascends c cs next ws (w.ino + 1) (omega (arith, less)) up.1)
            | inr more ↦
                let here : with_changes (c ∷ cs) (w ∷ ws) ≡ changed_alone c ∷ with_changes cs (w ∷ ws) =
                change_here c cs w ws (omega (arith, more))
                ∙ ap (λ (t : Bool). if t then changed c w ∷ with_changes cs ws else changed_alone c ∷ with_changes cs (w ∷ ws)) (ne_eqb w.ino c.ino (λ e. omega (arith, e, more))) in
                subst (SlotsAscend low) (sym here) (least, next (w ∷ ws) (omega (arith, more), up.1))
          ]
    ]

changes_ascend_there : (cs : List SlotChange) (low : ℕ) → ChangesAscend low cs → (ws : List SlotWanted) → SlotsAscend low ws → SlotsAscend low (with_changes cs ws)
unfolding with_changes
changes_ascend_there [] low later ws up = up
changes_ascend_there (c ∷ cs) low later ws up =
    one_ascends c cs (λ xs rise. changes_ascend_there cs (c.ino + 1) later.1 xs rise) ws low later.0 up

-- slots that ascend stand by number
stand : (least low : ℕ) (ws : List SlotWanted) → least ≤ low → SlotsAscend low ws → StandByNumber (λ (w : SlotWanted). w.ino) least ws
stand least low [] le up = tt
stand least low (w ∷ ws) le up = (let first = up.0 in omega (arith, le, first), stand w.ino (w.ino + 1) ws (omega arith) up.1)

module _ (g : Geometry) (s : Stamp) (image : Image) (e : Evidence) (on : Ground) (n : NamesDue) (has : IsGathered g s image e on n) where
  abbrev found : IsFound (volume_of g) on.kept
  found = Found.found g s image e on n has

  -- what was wanted before stands by inode
  inodes_rise : NumbersAscend 0 (kept_inodes (volume_of g) on.kept)
  unfolding kept_inodes
  inodes_rise =
      lower 0 (first_in g 0) (flat_map (cluster_inodes (volume_of g)) on.kept.clusters) (omega arith)
      (inodes_up g 0 on.kept.clusters (subst (AreSpaced 0) (sym found.is.clusters') (kept_spaced (volume_of g) found.clusters found.files found.can)))

  slots_are : n.slots ≡ flat_map (slot_listed (volume_of g) s on.kept on.seen) (kept_inodes (volume_of g) on.kept)
  slots_are = has.due.slots' ∙ listed (volume_of g) s on.kept on.seen

  pub slots_rise : SlotsAscend 0 n.slots
  slots_rise = subst (SlotsAscend 0) (sym slots_are) (slots_up (volume_of g) s on.kept on.seen 0 (kept_inodes (volume_of g) on.kept) inodes_rise)

  module _ (w : WantedNames) (is : AreWanted g n (lost_due g n) w) where
    pub links_rise : LinksAscend (lost_due g n) 0 w.links
    links_rise =
        links_ascend g n w is has.due.named.files_ascend
        (all_members (λ (f : FileRec). LeavesRoom (lost_due g n) f.ino) n.files (file_clear g s image e on n has))

    pub slots_stand : (forks : List DirectoryFork) → StandByNumber (λ (slot : SlotWanted). slot.ino) 0 (renamed_slots g s n w forks)
    slots_stand forks =
        stand 0 0 (renamed_slots g s n w forks) (omega arith)
        (changes_ascend_there (changes_of (volume_of g) s (lost_due g n) (old_files n w) forks w.links) 0
        (changes_ascend (volume_of g) s (lost_due g n) (old_files n w) forks (added_few g n) w.links 0 links_rise) n.slots slots_rise)
