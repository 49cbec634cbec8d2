-- What a file holds, which files are protected, and what it means that a file is kept.
use Rattle.std.specs.Prelude.{◌≡◌, ◌≢◌, ℕ, Bool, true, false, ◌+◌, ◌-◌, ◌/◌, ◌%◌, ◌&&◌, nat_le, nat_lt, if◌then◌else◌, List, [], ◌∷◌, map, slice_index_or}
use Rattle.std.specs.List.{range_with_len}
use Rattle.xfs_word.specs.declared.extents.Extent.{Extent}
use Rattle.xfs_disk.specs.Blocks.{Image, bytes_of_block}
use Rattle.xfs_geom.specs.Conversions.{is_fixed}
use Rattle.xfs_geom.specs.Groups.{block_of_address}
use Rattle.xfs_geom.specs.Volumes.{Volume}
use Rattle.xfs_inode.specs.declared.files.FileRead.TheVariants as Reads
use Rattle.xfs_volume.specs.Names.{is_directory}
use Rattle.xfs_volume.specs.declared.cores.Core.{Core}
use Rattle.xfs_volume.specs.declared.files.FileRec.{FileRec}
use Rattle.xfs_image.specs.Claims.{AreDisjointSets, claims, is_candidate_inode, is_claimed, is_claimed_beside, is_of_candidate, is_of_cluster}
use Rattle.xfs_image.specs.Clusters.{cluster_of}
use Rattle.xfs_image.specs.Slots.{reads_as}

-- the extent has this block of the file
abbrev pub has_block : Extent → ℕ → Bool
has_block e offset = nat_le e.offset offset && nat_lt offset (e.offset + e.count)

-- a byte of the block that stands in the image for a block of the file
abbrev pub byte_in : Volume → Image → Extent → ℕ → ℕ
byte_in v image e i =
    slice_index_or (bytes_of_block image (block_of_address v.agblocks v.agblklog e.start + (i / 4096 - e.offset))) (i % 4096) 0

-- byte i of a file with these extents: that of the written extent over it, else 0
unfoldable pub byte_over : Volume → Image → List Extent → ℕ → ℕ
byte_over v image [] i = 0
byte_over v image (e ∷ es) i =
    if has_block e (i / 4096) then (if e.unwritten then 0 else byte_in v image e i) else byte_over v image es i

-- the bytes of a file
unfoldable pub file_bytes : Volume → Image → FileRec → List ℕ
file_bytes v image f = map (byte_over v image f.extents) (range_with_len 0 f.core.size)

-- the core without the fields that may change: the number of names, the chain of unlinked inodes, the checksum
abbrev pub lasting : Core → Core
lasting core = record core { nlink = 0; next_unlinked = 0; crc = 0 }

-- no other object can lay claim to what the file has: it is a candidate that reads whole, is no directory, neither the root
-- nor one of the two system inodes behind it; no block that it claims is fixed, is of a candidate cluster or is claimed by
-- another candidate file; and no block of its cluster is fixed or claimed by a candidate file
pub record Protected (v : Volume) (image : Image) (ino : ℕ) : Type 0 where
  pub file : FileRec
  pub candidate : is_candidate_inode v image ino ≡ true
  pub reads : reads_as v image ino ≡ Reads.File file
  pub no_directory : is_directory file ≡ false
  pub no_root : ino ≢ v.rootino
  pub no_bitmap : ino ≢ v.rootino + 1
  pub no_summary : ino ≢ v.rootino + 2
  pub unfixed : AreDisjointSets (claims v file) (is_fixed v)
  pub outside : AreDisjointSets (claims v file) (is_of_candidate v image)
  pub alone : AreDisjointSets (claims v file) (is_claimed_beside v image ino)
  pub cluster_unfixed : AreDisjointSets (is_of_cluster (cluster_of v ino)) (is_fixed v)
  pub cluster_unclaimed : AreDisjointSets (is_of_cluster (cluster_of v ino)) (is_claimed v image)

-- the file of an inode is kept from one image to another: it reads whole in both, with the same bytes, attributes, target and
-- device, and the same core but for the fields that may change
pub record Keeps (v : Volume) (before after : Image) (ino : ℕ) : Type 0 where
  pub file : FileRec
  pub kept : FileRec
  pub reads : reads_as v before ino ≡ Reads.File file
  pub reads_still : reads_as v after ino ≡ Reads.File kept
  pub bytes : file_bytes v after kept ≡ file_bytes v before file
  pub attrs : kept.rest.attrs ≡ file.rest.attrs
  pub target : kept.rest.target ≡ file.rest.target
  pub device : kept.rest.device ≡ file.rest.device
  pub core : lasting kept.core ≡ lasting file.core
