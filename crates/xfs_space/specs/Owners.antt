-- Who owns the blocks of a volume, as its headers, trees and files say: runs of blocks, each with its owner and offset word
-- (chapter "Reverse-Mapping B+tree").
use Rattle.std.specs.Prelude.{ℕ, ◌+◌, ◌/◌, ◌^◌, ◌==◌, if◌then◌else◌, List, [], ◌∷◌, ◌++◌, map, take}
use Rattle.std.specs.List.{flat_map, list_any}
use Rattle.xfs_kinds.specs.Owners.{headers_owner, log_owner, group_owner, inode_trees_owner, clusters_owner}
use Rattle.xfs_word.specs.declared.extents.Extent.{Extent}
use Rattle.xfs_geom.specs.Groups.{block_of_address}
use Rattle.xfs_geom.specs.Volumes.{Volume}
use Rattle.xfs_geom.specs.declared.records.InoRec.{InoRec}
use Rattle.xfs_geom.specs.declared.records.Run.{Run}
use Rattle.xfs_volume.specs.xfs_heads.declared.free_list.Agfl.{Agfl}
use Rattle.xfs_volume.specs.declared.files.FileRec.{FileRec}
use Rattle.xfs_volume.specs.declared.groups.GroupRec.{GroupRec}
use Rattle.xfs_volume.specs.declared.groups.TreeBlocks.{TreeBlocks}

abbrev pub new_run : ℕ → ℕ → ℕ → ℕ → Run
new_run start count owner offset = record { start = start; count = count; owner = owner; offset_word = offset }

-- the flags of an offset word: blocks that are not written yet, blocks of an extent tree, blocks of the attribute fork
abbrev pub unwritten_flag : ℕ
unwritten_flag = 2 ^ 61

abbrev pub tree_flag : ℕ
tree_flag = 2 ^ 62

abbrev pub attribute_flag : ℕ
attribute_flag = 2 ^ 63

-- the owners of the five trees: free runs by start and by length, chunks, chunks with a free inode, owners
abbrev pub tree_owners : List ℕ
tree_owners = group_owner ∷ group_owner ∷ inode_trees_owner ∷ inode_trees_owner ∷ group_owner ∷ []

-- single blocks of one owner
abbrev pub runs_of_blocks : ℕ → ℕ → List ℕ → List Run
runs_of_blocks owner offset blocks = map (λ block. new_run block 1 owner offset) blocks

-- the blocks of a group's trees
abbrev pub tree_runs : List ℕ → List TreeBlocks → List Run
tree_runs [] trees = []
tree_runs (owner ∷ owners) [] = []
tree_runs (owner ∷ owners) (tree ∷ trees) = runs_of_blocks owner 0 tree.blocks ++ tree_runs owners trees

-- some numbers, each different one once
abbrev pub different : List ℕ → List ℕ
different [] = []
different (x ∷ xs) = if list_any (λ y. y == x) xs then different xs else (x ∷ different xs)

-- the active entries of a free list, each different one once
abbrev pub listed_run : ℕ → ℕ → Run
listed_run base block = new_run (base + block) 1 group_owner 0

abbrev pub listed_runs : ℕ → Agfl → List Run
listed_runs base agfl = map (listed_run base) (different (take agfl.count agfl.entries))

-- the first AG blocks of the clusters of a chunk: it has two, or the first or the second is missing
abbrev pub clusters_of_chunk : InoRec → List ℕ
clusters_of_chunk r =
    (if r.holemask == 0x00ff then [] else ((r.startino / 8) ∷ []))
    ++ (if r.holemask == 0xff00 then [] else ((r.startino / 8 + 4) ∷ []))

abbrev pub cluster_run : ℕ → ℕ → Run
cluster_run base block = new_run (base + block) 4 clusters_owner 0

abbrev pub cluster_runs : ℕ → List InoRec → List Run
cluster_runs base chunks = map (cluster_run base) (flat_map clusters_of_chunk chunks)

-- what a group owns, its headers first
abbrev pub group_runs : ℕ → GroupRec → List Run
group_runs base g =
    new_run base 1 headers_owner 0 ∷ tree_runs tree_owners g.blocks ++ listed_runs base g.agfl ++ cluster_runs base g.ino

abbrev pub groups_runs : ℕ → ℕ → List GroupRec → List Run
groups_runs agblocks base [] = []
groups_runs agblocks base (g ∷ gs) = group_runs base g ++ groups_runs agblocks (base + agblocks) gs

-- the offset word of an extent's first block
abbrev pub extent_word : ℕ → Extent → ℕ
extent_word flag e = flag + (if e.unwritten then unwritten_flag else 0) + e.offset

-- the blocks of an extent of a fork
abbrev pub extent_run : Volume → ℕ → ℕ → Extent → Run
extent_run v ino flag e = new_run (block_of_address v.agblocks v.agblklog e.start) e.count ino (extent_word flag e)

-- what a file owns: its data, its attributes, the blocks of its tree of extents
abbrev pub file_runs : Volume → FileRec → List Run
file_runs v f =
    map (extent_run v f.ino 0) f.extents ++ map (extent_run v f.ino attribute_flag) f.rest.attr_extents ++ runs_of_blocks f.ino tree_flag f.rest.tree

-- all owned runs of a volume with these groups and files, in no order
unfoldable pub owned_runs : Volume → List GroupRec → List FileRec → List Run
owned_runs v groups files =
    groups_runs v.agblocks 0 groups ++ new_run v.log v.logblocks log_owner 0 ∷ flat_map (file_runs v) files
