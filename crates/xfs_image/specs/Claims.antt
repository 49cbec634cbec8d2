-- The files that the candidate clusters have, and the blocks that they claim.
use Rattle.std.specs.Prelude.{◌≡◌, ℕ, Bool, true, false, not, ◌+◌, ◌*◌, ◌==◌, ◌&&◌, nat_le, nat_lt, List, [], ◌∷◌, length}
use Rattle.std.specs.List.{flat_map, list_any, sum_by}
use Rattle.xfs_disk.specs.Blocks.{Image}
use Rattle.xfs_geom.specs.Volumes.{Volume}
use Rattle.xfs_inode.specs.Sound.{claims_of}
use Rattle.xfs_inode.specs.declared.claims.BlockRange.{BlockRange}
use Rattle.xfs_inode.specs.declared.files.FileRead.{FileRead}
use Rattle.xfs_inode.specs.declared.files.FileRead.TheVariants as Reads
use Rattle.xfs_volume.specs.declared.clusters.ClusterRec.{ClusterRec}
use Rattle.xfs_volume.specs.declared.files.FileRec.{FileRec}
use Rattle.xfs_image.specs.Candidates.{candidates}
use Rattle.xfs_image.specs.Directories.{entries_read}
use Rattle.xfs_image.specs.Slots.{reads_as, cluster_inodes}

-- the inodes of the candidate clusters, by number
unfoldable pub candidate_inodes : Volume → Image → List ℕ
candidate_inodes v image = flat_map (λ (c : ClusterRec). cluster_inodes v c.block) (candidates v image)

abbrev pub is_candidate_inode : Volume → Image → ℕ → Bool
is_candidate_inode v image ino = list_any (λ other. other == ino) (candidate_inodes v image)

-- the file of a slot, with its attributes or without
abbrev pub file_if : FileRead → List FileRec
file_if Reads.Free = []
file_if (Reads.File file) = file ∷ []
file_if (Reads.FileWithoutAttrs file) = file ∷ []
file_if (Reads.Unsupported what) = []
file_if Reads.Unsound = []

-- the candidate files, by number
unfoldable pub candidate_files : Volume → Image → List FileRec
candidate_files v image = flat_map (λ ino. file_if (reads_as v image ino)) (candidate_inodes v image)

-- the quantities that are limited: inodes, extents of both forks, entries that read
unfoldable pub inode_count : Volume → Image → ℕ
inode_count v image = 32 * length (candidates v image)

unfoldable pub total_extents : Volume → Image → ℕ
total_extents v image = sum_by (λ (f : FileRec). length f.extents + length f.rest.attr_extents) (candidate_files v image)

unfoldable pub entry_count : Volume → Image → ℕ
entry_count v image = length (entries_read v image (candidate_files v image))

-- the block is one of a run, and one that a file claims: for its data, the tree of its extents, or its attributes
abbrev pub lies_in : ℕ → BlockRange → Bool
lies_in block run = nat_le run.start block && nat_lt block run.end

abbrev pub claims : Volume → FileRec → ℕ → Bool
claims v f block = list_any (lies_in block) (claims_of v f)

-- the block is one of the four of a cluster, and one of a candidate cluster
abbrev pub is_of_cluster : ℕ → ℕ → Bool
is_of_cluster cluster block = nat_le cluster block && nat_lt block (cluster + 4)

abbrev pub is_of_candidate : Volume → Image → ℕ → Bool
is_of_candidate v image block = list_any (λ (c : ClusterRec). is_of_cluster c.block block) (candidates v image)

-- a candidate file claims the block, and one other than this inode's does
abbrev pub is_claimed : Volume → Image → ℕ → Bool
is_claimed v image block = list_any (λ f. claims v f block) (candidate_files v image)

abbrev pub is_claimed_beside : Volume → Image → ℕ → ℕ → Bool
is_claimed_beside v image ino block =
    list_any (λ (f : FileRec). not (f.ino == ino) && claims v f block) (candidate_files v image)

-- two sets of blocks have none in common
abbrev pub AreDisjointSets : (ℕ → Bool) → (ℕ → Bool) → Type 0
AreDisjointSets xs ys = (block : ℕ) → xs block ≡ true → ys block ≡ false
