-- What is known of numbers and of what is wanted of slots, all together.
use Rattle.std.proofs.Common.{◌≡◌, inl, inr, ℕ, List, Option, Some, None}
use Rattle.xfs_disk.specs.Blocks.{Image}
use Rattle.xfs_disk.specs.declared.stamp.Stamp.{Stamp}
use Rattle.xfs_geom.specs.declared.geometry.Geometry.{Geometry}
use Rattle.xfs_volume.specs.declared.files.FileRec.{FileRec}
use Rattle.xfs_rename.specs.xfs_scan.declared.evidence.Evidence.{Evidence}
use Rattle.xfs_rename.specs.xfs_rebuild.declared.names_due.NamesDue.{NamesDue}
use Rattle.xfs_rename.specs.declared.planning.Renamed.{Renamed}
use Rattle.xfs_restored.specs.Relinking.{IsRelinked}
use Rattle.xfs_restored.proofs.PlainSlots.{IsLinked}
use Rattle.xfs_restored.proofs.KnownNames.{AreKnown}
use Rattle.xfs_restored.proofs.WantedBuilt.{built_has, built_is, kept_built_directory, lost_built, lost_not_kept, no_attributes, old_are, own_attributes, system_not_built}
use Rattle.xfs_restored.proofs.WantedCases.{IsNamedSo, behind_wanted, free_wanted, fresh_wanted, inode_cases, kept_wanted, lost_wanted, new_inode}
use Rattle.xfs_restored.proofs.WantedNumbers.{file_not_lost, fresh_inode, fresh_is_not_lost, fresh_not_kept, fresh_there, kept_at, kept_inode, kept_there, links_rise, lost_linked, pair_cases}

linked_so : (f : FileRec) (k : ℕ) (nlink : Option ℕ) → IsNamedSo f k nlink → IsLinked f.core nlink k
linked_so f k None (inl named) = absurd cc
linked_so f k None (inr same) = (same.1, same.2)
linked_so f k (Some m) (inl named) = cc
linked_so f k (Some m) (inr same) = absurd (some_none same.0)
  where
    some_none : Some m ≡ None → ⊥
    some_none is = absurd cc

module _ (g : Geometry) (sector : List ℕ) (s : Stamp) (image now : Image) (e : Evidence) (n : NamesDue) (r : Renamed) (has : IsRelinked g sector s image now e n r) where
  pub all_known : AreKnown g sector s image now e n r has
  all_known = record {
    rise = links_rise g sector s image now e n r has;
    kept_at = kept_at g sector s image now e n r has;
    kept_inode = kept_inode g sector s image now e n r has;
    fresh_inode = fresh_inode g sector s image now e n r has;
    fresh_not_kept = fresh_not_kept g sector s image now e n r has;
    lost_not_kept = lost_not_kept g sector s image now e n r has;
    fresh_is_not_lost = fresh_is_not_lost g sector s image now e n r has;
    file_not_lost = file_not_lost g sector s image now e n r has;
    kept_there = kept_there g sector s image now e n r has;
    fresh_there = fresh_there g sector s image now e n r has;
    lost_linked = lost_linked g sector s image now e n r has;
    pair_cases = pair_cases g sector s image now e n r has;
    inode_cases = inode_cases g sector s image now e n r has;
    new_inode = new_inode g sector s image now e n r has;
    old_are = old_are g sector s image now e n r has;
    own_attributes = own_attributes g sector s image now e n r has;
    no_attributes = no_attributes g sector s image now e n r has;
    built_is = built_is g sector s image now e n r has;
    built_has = built_has g sector s image now e n r has;
    kept_built_directory = kept_built_directory g sector s image now e n r has;
    system_not_built = system_not_built g sector s image now e n r has;
    lost_built = lost_built g sector s image now e n r has;
    kept_wanted = λ f k is linked.
        let one = kept_wanted g sector s image now e n r has f k is linked in
        record { nlink = one.nlink; wanted' = one.wanted'; named = linked_so f k one.nlink one.named };
    fresh_wanted = fresh_wanted g sector s image now e n r has;
    lost_wanted = lost_wanted g sector s image now e n r has;
    free_wanted = free_wanted g sector s image now e n r has;
    behind_wanted = behind_wanted g sector s image now e n r has;
  }
