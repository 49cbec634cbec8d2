-- The worked examples.
use Rattle.std.proofs.Common.{◌≡◌, true, false, [], ◌∷◌, refl, slice_index_or}
use Rattle.std.specs.List.{range_with_len}
use Rattle.xfs_disk.specs.Blocks.{Image, bytes_of_block}
use Rattle.xfs_geom.specs.Conversions.{address_of, inode_of}
use Rattle.xfs_image.specs.Candidates.{lies_in_chunk}
use Rattle.xfs_image.specs.Clusters.{cluster_of, clusters_in, given_clusters, root_cluster}
use Rattle.xfs_image.specs.Examples.{chunk, extents, given, lsn_place, small_example}
use Rattle.xfs_image.specs.Keeping.{byte_over}
use Rattle.xfs_image.specs.Lsns.{lsn_places_in_order}
use Rattle.xfs_image.specs.Slots.{cluster_inodes}

pub both : clusters_in 1024 (chunk 0) ≡ 1040 ∷ 1044 ∷ []
both = refl

pub second : clusters_in 1024 (chunk 0x00ff) ≡ 1044 ∷ []
second = refl

pub first : clusters_in 1024 (chunk 0xff00) ≡ 1040 ∷ []
first = refl

pub root : root_cluster small_example ≡ 16
root = refl

pub own : cluster_of small_example 8325 ≡ 1040
own = refl

pub inodes : cluster_inodes small_example 1040 ≡ range_with_len 8320 32
unfolding cluster_inodes inode_of address_of
inodes = refl

pub given_two : given_clusters small_example 1 (given 16 8 ∷ []) ≡ 1040 ∷ 1044 ∷ []
given_two = refl

pub given_part : given_clusters small_example 1 (given 14 6 ∷ given 20 2 ∷ []) ≡ 1040 ∷ []
given_part = refl

pub last_chunk : lies_in_chunk small_example 1020 ≡ true
last_chunk = refl

pub before_chunks : lies_in_chunk small_example 1028 ≡ false
before_chunks = refl

pub hole : (image : Image) → byte_over small_example image extents 4095 ≡ 0
unfolding byte_over
hole image = refl

pub written : (image : Image) → byte_over small_example image extents 8199 ≡ slice_index_or (bytes_of_block image 25) 7 0
unfolding byte_over
written image = refl

pub unwritten : (image : Image) → byte_over small_example image extents 20481 ≡ 0
unfolding byte_over
unwritten image = refl

pub ordered : lsn_places_in_order (lsn_place 5 24 ∷ lsn_place 0 720 ∷ lsn_place 5 16 ∷ lsn_place 0 240 ∷ []) ≡ lsn_place 0 240 ∷ lsn_place 0 720 ∷ lsn_place 5 16 ∷ lsn_place 5 24 ∷ []
ordered = refl
