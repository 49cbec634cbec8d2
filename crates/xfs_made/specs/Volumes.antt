-- What an image says in which an empty volume was made.
use Rattle.std.specs.Prelude.{◌≡◌, ℕ, ◌+◌, ◌^◌, [], map, Ok}
use Rattle.xfs_disk.specs.Blocks.{Image}
use Rattle.xfs_disk.specs.declared.stamp.Stamp.{Stamp}
use Rattle.xfs_geom.specs.Volumes.{volume_of}
use Rattle.xfs_geom.specs.declared.geometry.Geometry.{Geometry}
use Rattle.xfs_log.specs.xfs_heads.declared.log_state.LogState.TheVariants.{Clean}
use Rattle.xfs_volume.specs.declared.catalogs.BlockLsn.{BlockLsn}
use Rattle.xfs_volume.specs.declared.catalogs.Catalog.{Catalog}
use Rattle.xfs_laws.specs.Lawful.{broken_law}
use Rattle.xfs_image.specs.Consistent.{IsConsistent}
use Rattle.xfs_image.specs.Lsns.{LsnPlace, lsn_places_in_order, lsn_places}
use Rattle.xfs_image.specs.View.{view}
use Rattle.xfs_place.specs.declared.placed.Placed.{Placed}
use Rattle.xfs_made.specs.Groups.{due_groups}
use Rattle.xfs_empty.specs.Placing.{all_inodes, empty_wanted}
use Rattle.xfs_empty.specs.Planning.{StandsFor}
use Rattle.xfs_made.specs.Files.{first_dirs, first_files}

-- no log sequence number, in the block of a place
abbrev pub no_lsn : LsnPlace → BlockLsn
no_lsn place = record { block = place.block; lsn = 0 }

-- the checksums of the headers of free space and of inodes, by group, and of the slots, by inode
pub record Checksums : Type 0 where
  pub agf : ℕ → ℕ
  pub agi : ℕ → ℕ
  pub slot : ℕ → ℕ

-- an empty volume: its groups as they are placed, the root and the two system inodes, no entry, a blank log of cycle 1
abbrev pub made_catalog : Geometry → Stamp → Placed → Checksums → Catalog
made_catalog g s p crcs =
    let groups = due_groups (volume_of g) (all_inodes g.agcount) p.groups crcs.agf crcs.agi in
    let files = first_files (volume_of g) s crcs.slot in
    record {
      geometry = g;
      groups = groups;
      files = files;
      entries = [];
      dirs = first_dirs;
      counts = p.counts;
      log = Clean (2 ^ 32 + 2);
      lsns = map no_lsn (lsn_places_in_order (lsn_places (volume_of g) groups files));
    }

-- an image says just that, and it is consistent
pub record IsMadeVolume (g : Geometry) (s : Stamp) (image : Image) : Type 0 where
  pub placed : Placed
  pub crcs : Checksums
  pub stands : StandsFor (empty_wanted g) placed
  pub says : view g image ≡ Ok (made_catalog g s placed crcs)
  pub consistent : IsConsistent broken_law g image
