-- The allocation groups of a volume as they read: their headers, and the trees that hang from them (chapters "Allocation
-- Groups", "AG Free Space Management", "AG Inode Management" and "Reverse-Mapping B+tree").
use Rattle.std.specs.Prelude.{ℕ, ◌+◌, ◌-◌, ◌*◌, List, [], ◌∷◌, Option, Some, None, Result, Ok, Err}
use Rattle.std.specs.List.{range_with_len}
use Rattle.xfs_disk.specs.Blocks.{Image}
use Rattle.xfs_geom.specs.Volumes.{Volume}
use Rattle.xfs_geom.specs.declared.records.InoRec.{InoRec}
use Rattle.xfs_geom.specs.declared.records.RmapRec.{RmapRec}
use Rattle.xfs_geom.specs.declared.records.Span.{Span}
use Rattle.xfs_log.specs.xfs_heads.FreeSpace.{agf_of}
use Rattle.xfs_log.specs.xfs_heads.Inodes.{agi_of}
use Rattle.xfs_log.specs.xfs_heads.FreeList.{agfl_of}
use Rattle.xfs_log.specs.xfs_heads.declared.free_space.Agf.{Agf}
use Rattle.xfs_log.specs.xfs_heads.declared.inodes.Agi.{Agi}
use Rattle.xfs_log.specs.xfs_heads.declared.free_list.Agfl.{Agfl}
use Rattle.xfs_inode.specs.xfs_tree.Shape.{Shape}
use Rattle.xfs_inode.specs.xfs_tree.Reading.{Contents, reading, root_seat}
use Rattle.xfs_inode.specs.xfs_tree.declared.unread.Unread.{Unread}
use Rattle.xfs_inode.specs.xfs_kinds.FreeTrees.{bno_shape, cnt_shape}
use Rattle.xfs_inode.specs.xfs_kinds.InodeTrees.{ino_shape, fino_shape}
use Rattle.xfs_inode.specs.xfs_kinds.OwnerTrees.{rmap_shape}
use Rattle.xfs_volume.specs.declared.groups.GroupRec.{GroupRec}
use Rattle.xfs_volume.specs.declared.groups.TreeBlocks.{TreeBlocks}
use Rattle.xfs_image.specs.declared.findings.Finding.{Finding}
use Rattle.xfs_image.specs.declared.findings.Finding.TheVariants as Found
use Rattle.xfs_log.specs.Sectors.{sector_in}

-- the first block of a group, which has its headers
abbrev pub head_block : Volume → ℕ → ℕ
head_block v ag = ag * v.agblocks

-- the headers of a group, in sectors 1, 2 and 3: of its free space, of its inodes, and its free list by the former's bounds
abbrev pub agf_at : Volume → Image → ℕ → Option Agf
agf_at v image ag = agf_of v ag (sector_in image (head_block v ag) 1)

abbrev pub agi_at : Volume → Image → ℕ → Option Agi
agi_at v image ag = agi_of v ag (sector_in image (head_block v ag) 2)

abbrev pub agfl_at : Volume → Image → ℕ → Agf → Option Agfl
agfl_at v image ag agf = agfl_of v ag agf (sector_in image (head_block v ag) 3)

-- what a tree holds, where it reads
abbrev pub contents : {R : Type 0} → Result (Contents R) Unread → Option (Contents R)
contents (Ok tree) = Some tree
contents (Err fault) = None

-- the tree of a group from its root, which is an AG block, and its number of levels
abbrev pub tree_at : {R K : Type 0} → Shape R K → Volume → Image → ℕ → ℕ → ℕ → Option (Contents R)
tree_at s v image ag root levels = contents (reading s v image (root_seat (head_block v ag + root) ∷ []) (levels - 1))

-- the five trees of a group: free runs by start and by length, chunks of inodes, those with a free inode, owners
abbrev pub bno_at : Volume → Image → ℕ → Agf → Option (Contents Span)
bno_at v image ag agf = tree_at (bno_shape ag) v image ag agf.bnoroot agf.bnolevel

abbrev pub cnt_at : Volume → Image → ℕ → Agf → Option (Contents Span)
cnt_at v image ag agf = tree_at (cnt_shape ag) v image ag agf.cntroot agf.cntlevel

abbrev pub ino_at : Volume → Image → ℕ → Agi → Option (Contents InoRec)
ino_at v image ag agi = tree_at (ino_shape ag) v image ag agi.root agi.level

abbrev pub fino_at : Volume → Image → ℕ → Agi → Option (Contents InoRec)
fino_at v image ag agi = tree_at (fino_shape ag) v image ag agi.free_root agi.free_level

abbrev pub rmap_at : Volume → Image → ℕ → Agf → Option (Contents RmapRec)
rmap_at v image ag agf = tree_at (rmap_shape ag) v image ag agf.rmaproot agf.rmaplevel

-- what comes of a part that reads; the finding at the group where it does not
abbrev pub with_part : {A B : Type 0} → ℕ → ℕ → Option A → (A → Result B Finding) → Result B Finding
with_part ag part None next = Err (Found.Part part ag)
with_part ag part (Some a) next = next a

abbrev pub blocks_in_tree : {R : Type 0} → Contents R → TreeBlocks
blocks_in_tree tree = record { blocks = tree.blocks }

-- a group whose headers and trees are these
abbrev pub group_record : Agf → Agi → Agfl → Contents Span → Contents Span → Contents InoRec → Contents InoRec → Contents RmapRec → GroupRec
group_record agf agi agfl bno cnt ino fino rmap = record {
  agf = agf;
  agi = agi;
  agfl = agfl;
  bno = bno.records;
  cnt = cnt.records;
  ino = ino.records;
  fino = fino.records;
  rmap = rmap.records;
  blocks = blocks_in_tree bno ∷ blocks_in_tree cnt ∷ blocks_in_tree ino ∷ blocks_in_tree fino ∷ blocks_in_tree rmap ∷ [];
}

-- a group, or the first of its eight parts that does not read
unfoldable pub group_read : Volume → Image → ℕ → Result GroupRec Finding
group_read v image ag =
    with_part ag 1 (agf_at v image ag) (λ agf.
    with_part ag 2 (agi_at v image ag) (λ agi.
    with_part ag 3 (agfl_at v image ag agf) (λ agfl.
    with_part ag 4 (bno_at v image ag agf) (λ bno.
    with_part ag 5 (cnt_at v image ag agf) (λ cnt.
    with_part ag 6 (ino_at v image ag agi) (λ ino.
    with_part ag 7 (fino_at v image ag agi) (λ fino.
    with_part ag 8 (rmap_at v image ag agf) (λ rmap.
    Ok (group_record agf agi agfl bno cnt ino fino rmap)))))))))

-- what comes of one that reads, and of those behind it; or the first finding
abbrev pub read_then : {A E : Type 0} → Result A E → Result (List A) E → Result (List A) E
read_then (Err fault) rest = Err fault
read_then (Ok one) (Err fault) = Err fault
read_then (Ok one) (Ok rest) = Ok (one ∷ rest)

-- some groups in order, or the first finding
abbrev pub groups_from : Volume → Image → List ℕ → Result (List GroupRec) Finding
groups_from v image [] = Ok []
groups_from v image (ag ∷ ags) = read_then (group_read v image ag) (groups_from v image ags)

-- all groups of a volume
unfoldable pub groups_read : Volume → Image → Result (List GroupRec) Finding
groups_read v image = groups_from v image (range_with_len 0 v.agcount)
