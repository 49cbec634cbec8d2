-- Kept files stand for what they are, and each of the root and the system inodes is a kept file's or made anew.
use Rattle.std.proofs.Common.{◌≡◌, ℕ, true, false, not, List, sym, ap, ◌∙◌, subst}
use Rattle.std.proofs.lemmas.Bool.{and_parts}
use Rattle.xfs_disk.specs.Blocks.{Image}
use Rattle.xfs_disk.specs.Lists.{is_among}
use Rattle.xfs_disk.specs.declared.stamp.Stamp.{Stamp}
use Rattle.xfs_geom.specs.Volumes.{Volume, volume_of}
use Rattle.xfs_geom.specs.declared.geometry.Geometry.{Geometry}
use Rattle.xfs_naming.specs.Naming.{is_in_use}
use Rattle.xfs_volume.specs.declared.files.FileRec.{FileRec}
use Rattle.xfs_image.specs.Candidates.{candidates}
use Rattle.xfs_image.specs.Claims.{candidate_files}
use Rattle.xfs_views.specs.Standing.{stands}
use Rattle.xfs_views.proofs.Members.{Member, filter_member, member_filter}
use Rattle.xfs_scan.specs.declared.evidence.Evidence.{Evidence}
use Rattle.xfs_salvage.specs.Kept.{claims_held, fresh_among, is_kept_file, kept_files, own_inodes}
use Rattle.xfs_mend.specs.xfs_rebuild.Rebuilds.{Ground}
use Rattle.xfs_mend.specs.xfs_rebuild.declared.names_due.NamesDue.{NamesDue}
use Rattle.xfs_settled.specs.Gathered.{IsGathered}
use Rattle.xfs_settled.proofs.Found as Found

module _ (g : Geometry) (s : Stamp) (image : Image) (e : Evidence) (on : Ground) (n : NamesDue) (has : IsGathered g s image e on n) where
  -- a kept file is what the root and the system inodes have to be
  pub file_stands : (f : FileRec) → Member f on.kept.files → stands g.rootino f ≡ true
  unfolding kept_files
  file_stands f is =
      let v : Volume = volume_of g in
      let of = Found.of_image g s image e on n has in
      let from = filter_member (is_kept_file v (candidates v image) (candidate_files v image)) f (candidate_files v image) (subst (λ (fs : List FileRec). Member f fs) of.files' is) in
      (and_parts (is_among (claims_held v (candidates v image) (candidate_files v image)).files f.ino) (stands g.rootino f) from.1).1

  -- each of these inodes is a kept file's, or is made anew
  pub own_inode : (ino : ℕ) → Member ino (own_inodes g.rootino) → is_in_use on.kept.files ino ≡ false → Member ino on.kept.fresh
  own_inode ino is free =
      let of = Found.of_image g s image e on n has in
      let fresh_are : on.kept.fresh ≡ fresh_among on.kept.files g.rootino = of.fresh' ∙ ap (λ (fs : List FileRec). fresh_among fs g.rootino) (sym of.files') in
      subst (λ (ns : List ℕ). Member ino ns) (sym fresh_are) (member_filter (λ m. not (is_in_use on.kept.files m)) ino (own_inodes g.rootino) is (ap not free))
