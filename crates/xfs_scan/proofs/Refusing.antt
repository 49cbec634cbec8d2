-- What is refused late, and what the evidence is, from what is gathered.
use Rattle.std.proofs.Common.{◌≡◌, ℕ, ◌*◌, ◌^◌, ◌<◌, ◌≤◌, Bool, true, false, if◌then◌else◌, nat_lt, List, length, Option, Some, None, refl, sym, ap, ap₂, subst, ◌∙◌, arith}
use Rattle.std.specs.List.{flat_map, sum_by}
use Rattle.std.proofs.lemmas.Bool.{cond-true, cond-false, le-ltb, lt-ltb}
use Rattle.xfs_disk.specs.Blocks.{Image}
use Rattle.xfs_geom.specs.Volumes.{Volume, volume_of}
use Rattle.xfs_geom.specs.declared.geometry.Geometry.{Geometry}
use Rattle.xfs_groups.specs.declared.groups.Groups.{Groups}
use Rattle.xfs_log.specs.xfs_heads.declared.log_state.LogState.{LogState}
use Rattle.xfs_volume.specs.declared.clusters.ClusterRec.{ClusterRec}
use Rattle.xfs_image.specs.Candidates.{candidates}
use Rattle.xfs_image.specs.Claims.{candidate_files, candidate_inodes, entry_count, inode_count, total_extents}
use Rattle.xfs_image.specs.Directories.{dirs_read, entries_read}
use Rattle.xfs_image.specs.Slots.{cluster_inodes}
use Rattle.xfs_image.specs.View.{log_of, view}
use Rattle.xfs_scan.specs.Evidence.{AreSeen, SeesInodes, IsEvidence, joined_parts, view_seen}
use Rattle.xfs_slots.specs.Facts.{slot_facts}
use Rattle.xfs_slots.specs.Gathered.{Gathered, bare_inodes, first_feature, gathered, held_in}
use Rattle.xfs_scan.specs.Refused.{extents_of, feature_refused, late_in, refused, refused_late, unless_more}
use Rattle.xfs_scan.specs.declared.evidence.Seen.{Seen}
use Rattle.xfs_rounds.specs.declared.facts.SlotFact.{SlotFact}
use Rattle.xfs_slots.specs.declared.inodes.InodeFeature.{InodeFeature}
use Rattle.xfs_slots.specs.declared.inodes.Inodes.{Inodes}
use Rattle.xfs_scan.specs.Answers.{IsLateRefusal}
use Rattle.xfs_scan.specs.declared.faults.ScanFault.{ScanFault}
use Rattle.xfs_scan.specs.declared.faults.ScanFault.TheVariants as faults
use Rattle.xfs_slots.proofs.Gathering.{all_bare, all_files, dirs_of_files, entries_of_files, first_found}

-- the slots of candidates
pub of_candidates : (v : Volume) (image : Image) (clusters : List ClusterRec) (held : Gathered) → clusters ≡ candidates v image
    → held ≡ gathered v image (flat_map (λ (c : ClusterRec). cluster_inodes v c.block) clusters) → held ≡ gathered v image (candidate_inodes v image)
unfolding candidate_inodes
of_candidates v image clusters held same all =
    all ∙ ap (λ (cs : List ClusterRec). gathered v image (flat_map (λ (c : ClusterRec). cluster_inodes v c.block) cs)) same

module _ (v : Volume) (image : Image) (held : Gathered) (all : held ≡ gathered v image (candidate_inodes v image)) where
  files_are : held.files ≡ candidate_files v image
  unfolding candidate_files
  files_are = ap (λ (g : Gathered). g.files) all ∙ all_files v image (candidate_inodes v image)

  bare_are : held.bare ≡ bare_inodes v image
  unfolding bare_inodes
  bare_are = ap (λ (g : Gathered). g.bare) all ∙ all_bare v image (candidate_inodes v image)

  entries_are : held.entries ≡ entries_read v image (candidate_files v image)
  entries_are =
      ap (λ (g : Gathered). g.entries) all ∙ entries_of_files v image (candidate_inodes v image)
      ∙ ap (λ (g : Gathered). entries_read v image g.files) (sym all) ∙ ap (entries_read v image) files_are

  dirs_are : held.dirs ≡ dirs_read v image (candidate_files v image)
  dirs_are =
      ap (λ (g : Gathered). g.dirs) all ∙ dirs_of_files v image (candidate_inodes v image)
      ∙ ap (λ (g : Gathered). dirs_read v image g.files) (sym all) ∙ ap (dirs_read v image) files_are

  feature_is : held.feature ≡ first_feature v image (candidate_inodes v image)
  feature_is = ap (λ (g : Gathered). g.feature) all ∙ first_found v image (candidate_inodes v image)

  pub late_is : (extents entries : ℕ) → extents ≡ sum_by extents_of held.files → entries ≡ length held.entries
      → unless_more (2 ^ 23) 2 extents (unless_more (2 ^ 23) 3 entries (feature_refused held.feature)) ≡ refused_late v image
  unfolding refused_late total_extents entry_count
  late_is extents entries counted many =
      ap₂ (λ (n : ℕ) (later : Option ScanFault). unless_more (2 ^ 23) 2 n later)
      (counted ∙ ap (sum_by extents_of) files_are)
      (ap₂ (λ (n : ℕ) (later : Option ScanFault). unless_more (2 ^ 23) 3 n later) (many ∙ ap length entries_are) (ap feature_refused feature_is))

pub is_evidence : (g : Geometry) (image : Image) (groups : Groups) (slots : List SlotFact) (bare : List ℕ) (inodes : Inodes) (seen : Seen) (log : LogState)
    → AreSeen g image groups → slots ≡ slot_facts (volume_of g) image → bare ≡ inodes.bare.items
    → held_in inodes ≡ gathered (volume_of g) image (candidate_inodes (volume_of g) image)
    → SeesInodes inodes seen → view_seen seen ≡ view g image → log ≡ log_of (volume_of g) image
    → IsEvidence g image (joined_parts groups.clusters slots bare groups.trees seen log)
is_evidence g image groups slots bare inodes seen log read facts copied held kept viewed logged = record {
  clusters = read.clusters;
  slots = facts;
  files = kept.files ∙ files_are (volume_of g) image (held_in inodes) held;
  bare = copied ∙ bare_are (volume_of g) image (held_in inodes) held;
  entries = kept.entries ∙ entries_are (volume_of g) image (held_in inodes) held;
  dirs = kept.dirs ∙ dirs_are (volume_of g) image (held_in inodes) held;
  trees = read.trees;
  catalog = viewed;
  log = logged;
}

-- inodes that are too many, and those that are not
module _ (v : Volume) (image : Image) (clusters : List ClusterRec) (count : ℕ) (same : clusters ≡ candidates v image) (counted : count ≡ 32 * length clusters) where
  all_inodes : count ≡ inode_count v image
  unfolding inode_count
  all_inodes = counted ∙ ap (λ (cs : List ClusterRec). 32 * length cs) same

  pub refused_many : 2 ^ 21 < count → refused v image ≡ Some (faults.TooLarge 1 count)
  unfolding refused
  refused_many more =
      ap (λ (n : ℕ). unless_more (2 ^ 21) 1 n (refused_late v image)) (sym all_inodes)
      ∙ cond-true (nat_lt (2 ^ 21) count) (Some (faults.TooLarge 1 count)) (refused_late v image) (lt-ltb (2 ^ 21) count more)

  pub refused_few : count ≤ 2 ^ 21 → refused v image ≡ refused_late v image
  unfolding refused
  refused_few few =
      ap (λ (n : ℕ). unless_more (2 ^ 21) 1 n (refused_late v image)) (sym all_inodes)
      ∙ cond-false (nat_lt (2 ^ 21) count) (Some (faults.TooLarge 1 count)) (refused_late v image) (le-ltb (2 ^ 21) count few)

-- what is due of the slots is what is due of the image
pub late_held : (v : Volume) (image : Image) (inodes : Inodes) → held_in inodes ≡ gathered v image (candidate_inodes v image) → late_in inodes ≡ refused_late v image
late_held v image inodes all = late_is v image (held_in inodes) all (sum_by extents_of inodes.files.items) (length inodes.entries.items) refl refl

-- what is refused before the log is read is refused with no read
more_refused : (b : Bool) (what count : ℕ) (later : Option ScanFault) → IsLateRefusal later later
    → IsLateRefusal (if b then Some (faults.TooLarge what count) else later) (if b then Some (faults.TooLarge what count) else later)
more_refused true what count later rest = record { refusal = refl; quiet = λ n. omega arith }
more_refused false what count later rest = rest

feature_late : (feature : Option InodeFeature) → IsLateRefusal (feature_refused feature) (feature_refused feature)
feature_late None = refl
feature_late (Some f) = record { refusal = refl; quiet = λ n. omega arith }

pub late_so : (inodes : Inodes) (extents entries : ℕ) (answer : Option ScanFault) → extents ≡ sum_by extents_of inodes.files.items → entries ≡ length inodes.entries.items
    → answer ≡ unless_more (2 ^ 23) 2 extents (unless_more (2 ^ 23) 3 entries (feature_refused inodes.feature)) → IsLateRefusal (late_in inodes) answer
late_so inodes extents entries answer counted many is =
    let later = unless_more (2 ^ 23) 3 (length inodes.entries.items) (feature_refused inodes.feature) in
    subst (IsLateRefusal (late_in inodes))
    (sym (is ∙ ap₂ (λ (n m : ℕ). unless_more (2 ^ 23) 2 n (unless_more (2 ^ 23) 3 m (feature_refused inodes.feature))) counted many))
    (more_refused (nat_lt (2 ^ 23) (sum_by extents_of inodes.files.items)) 2 (sum_by extents_of inodes.files.items) later
    (more_refused (nat_lt (2 ^ 23) (length inodes.entries.items)) 3 (length inodes.entries.items) (feature_refused inodes.feature) (feature_late inodes.feature)))
