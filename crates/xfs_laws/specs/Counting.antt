-- The laws of counts: chunks of inodes say which slots are in use, counters are sums, free lists name each block once, and the
-- log ends behind everything (chapters "AG Inode Management", "AG Free Space Management" and "Journaling Log").
use Rattle.std.specs.Prelude.{ℕ, zero, suc, bit_or, Bool, not, ◌+◌, ◌-◌, ◌*◌, ◌^◌, ◌≤◌, ◌==◌, ◌||◌, nat_le, if◌then◌else◌, List, [], ◌∷◌, ◌++◌, map, take, filter, length, sum, IsTrue}
use Rattle.std.specs.List.{All, list_any}
use Rattle.std.specs.List.Sorted.{IsNonDecreasingBy}
use Rattle.xfs_geom.specs.Sums.{free_blocks, longest, slots, free_slots, has_free}
use Rattle.xfs_geom.specs.Volumes.{Volume}
use Rattle.xfs_geom.specs.declared.records.Counts.{Counts}
use Rattle.xfs_geom.specs.declared.records.InoRec.{InoRec}
use Rattle.xfs_log.specs.xfs_heads.declared.log_state.LogState.{LogState}
use Rattle.xfs_log.specs.xfs_heads.declared.log_state.LogState.TheVariants.{Clean, Dirty}
use Rattle.xfs_kinds.specs.InodeTrees.{is_holemask, is_missing, missing_bits}
use Rattle.xfs_volume.specs.declared.catalogs.BlockLsn.{BlockLsn}
use Rattle.xfs_volume.specs.declared.files.FileRec.{FileRec}
use Rattle.xfs_volume.specs.declared.findings.Law.{Law}
use Rattle.xfs_volume.specs.declared.groups.GroupRec.{GroupRec}
use Rattle.xfs_volume.specs.declared.groups.TreeBlocks.{TreeBlocks}
use Rattle.xfs_volume.specs.Laws.{law_at, first_difference}
use Rattle.xfs_space.specs.Owners.{different}

-- what a law says of each group, by the number of the group
abbrev pub by_group : (ℕ → GroupRec → List Law) → ℕ → List GroupRec → List Law
by_group laws ag [] = []
by_group laws ag (g ∷ gs) = laws ag g ++ by_group laws (ag + 1) gs

-- a file with this number is in use
abbrev pub is_used : List FileRec → ℕ → Bool
is_used files ino = list_any (λ (f : FileRec). f.ino == ino) files

-- the number of an inode of a group, by its number inside the group
abbrev pub inode_number : Volume → ℕ → ℕ → ℕ
inode_number v ag agino = ag * 2 ^ v.agblklog * 8 + agino

-- an inode of a chunk is there and not in use
abbrev pub is_unused : Volume → List FileRec → ℕ → InoRec → ℕ → Bool
is_unused v files ag r i = not (is_missing r.holemask i || is_used files (inode_number v ag (r.startino + i)))

abbrev pub bit_of : Bool → ℕ
bit_of passes = if passes then 1 else 0

-- how many of the numbers below n pass a test
abbrev pub count_below : (ℕ → Bool) → ℕ → ℕ
count_below test zero = 0
count_below test (suc n) = count_below test n + bit_of (test n)

-- a bit for each number below n, set where it passes a test
abbrev pub bits_below : (ℕ → Bool) → ℕ → ℕ
bits_below test zero = 0
bits_below test (suc n) = bits_below test n + bit_of (test n) * 2 ^ n

-- the chunk with the right numbers: it has 64 or 32 inodes, and the free ones are those that are there and not in use
unfoldable pub due_chunk : Volume → List FileRec → ℕ → InoRec → InoRec
due_chunk v files ag r = record {
  startino = r.startino;
  holemask = r.holemask;
  count = if r.holemask == 0 then 64 else 32;
  freecount = count_below (is_unused v files ag r) 64;
  free = bits_below (is_unused v files ag r) 64;
}

-- a chunk as the number that its 16 bytes make, with the bits of missing inodes set
unfoldable pub chunk_number : InoRec → ℕ
chunk_number r =
    r.startino * 2 ^ 96 + r.holemask * 2 ^ 80 + r.count * 2 ^ 72 + r.freecount * 2 ^ 64 + bit_or r.free (missing_bits r.holemask)

abbrev pub chunks_at : ℕ → List InoRec → List InoRec → Law
chunks_at place held due =
    let difference = first_difference (map chunk_number held) (map chunk_number due) in
    law_at 4 place difference.0 difference.1

-- the fourth law for a group: each chunk has the right numbers, and the other tree has the chunks with a free inode
abbrev pub group_chunks : Volume → List FileRec → ℕ → GroupRec → List Law
group_chunks v files ag g =
    chunks_at (2 * ag) g.ino (map (due_chunk v files ag) g.ino)
    ∷ chunks_at (2 * ag + 1) g.fino (filter has_free g.ino)
    ∷ []

abbrev pub chunk_laws : Volume → List FileRec → List GroupRec → List Law
chunk_laws v files groups = by_group (group_chunks v files) 0 groups

abbrev pub count_tree_blocks : List TreeBlocks → ℕ → ℕ
count_tree_blocks [] tree = 0
count_tree_blocks (t ∷ ts) zero = length t.blocks
count_tree_blocks (t ∷ ts) (suc tree) = count_tree_blocks ts tree

-- the blocks of the trees by start, by length and by owner, but for one each
abbrev pub spare_tree_blocks : List TreeBlocks → ℕ
spare_tree_blocks trees = count_tree_blocks trees 0 + count_tree_blocks trees 1 + count_tree_blocks trees 4 - 3

-- the fifth law for the counters of a group
abbrev pub group_counts : ℕ → GroupRec → List Law
group_counts ag g =
    law_at 5 (8 * ag) g.agf.freeblks (free_blocks g.bno)
    ∷ law_at 5 (8 * ag + 1) g.agf.longest (longest g.bno)
    ∷ law_at 5 (8 * ag + 2) g.agf.btreeblks (spare_tree_blocks g.blocks)
    ∷ law_at 5 (8 * ag + 3) g.agf.rmapblocks (count_tree_blocks g.blocks 4)
    ∷ law_at 5 (8 * ag + 4) g.agi.count (slots g.ino)
    ∷ law_at 5 (8 * ag + 5) g.agi.freecount (free_slots g.ino)
    ∷ []

-- the free blocks of a group, those of its free list and those that its trees could spare
abbrev pub room : GroupRec → ℕ
room g = free_blocks g.bno + g.agf.flcount + spare_tree_blocks g.blocks

-- the fifth law for the counters of the superblock
abbrev pub volume_counts : Volume → List GroupRec → Counts → List Law
volume_counts v groups counts =
    law_at 5 (8 * v.agcount) counts.icount (sum (map (λ (g : GroupRec). slots g.ino) groups))
    ∷ law_at 5 (8 * v.agcount + 1) counts.ifree (sum (map (λ (g : GroupRec). free_slots g.ino) groups))
    ∷ law_at 5 (8 * v.agcount + 2) counts.fdblocks (sum (map room groups))
    ∷ []

abbrev pub counter_laws : Volume → List GroupRec → Counts → List Law
counter_laws v groups counts = by_group group_counts 0 groups ++ volume_counts v groups counts

-- the sixth law: the active entries of a free list differ
abbrev pub group_entries : ℕ → GroupRec → List Law
group_entries ag g = law_at 6 ag g.agfl.count (length (different (take g.agfl.count g.agfl.entries))) ∷ []

abbrev pub list_laws : List GroupRec → List Law
list_laws groups = by_group group_entries 0 groups

-- the tenth law: the log is clean
abbrev pub log_at : LogState → Law
log_at (Clean head) = law_at 10 0 0 0
log_at Dirty = law_at 10 0 1 0

abbrev pub head_of : LogState → ℕ
head_of (Clean head) = head
head_of Dirty = 0

-- no inode waits to be removed: the heads of the chains are all ones
abbrev pub chains_at : ℕ → List ℕ → List Law
chains_at place [] = []
chains_at place (head ∷ heads) = law_at 10 place head (2 ^ 32 - 1) ∷ chains_at (place + 1) heads

abbrev pub group_chains : ℕ → GroupRec → List Law
group_chains ag g = chains_at (1 + 64 * ag) g.agi.unlinked

-- no log sequence number but all ones is above the head of the log
abbrev pub is_behind : ℕ → ℕ → Bool
is_behind head lsn = lsn == 2 ^ 64 - 1 || nat_le lsn head

abbrev pub lsn_law : ℕ → BlockLsn → Law
lsn_law head l = law_at 10 (2 ^ 40 + l.block) l.lsn (if is_behind head l.lsn then l.lsn else head)

abbrev pub log_laws : List GroupRec → LogState → List BlockLsn → List Law
log_laws groups log lsns = log_at log ∷ by_group group_chains 0 groups ++ map (lsn_law (head_of log)) lsns

-- no file has a number below that of one before it
abbrev pub FilesOrdered : List FileRec → Type 0
FilesOrdered files = IsNonDecreasingBy (λ (f : FileRec). f.ino) files

-- each chunk has a mask that the trees have
abbrev pub AreChunks : List InoRec → Type 0
AreChunks chunks = All (λ (r : InoRec). IsTrue (is_holemask r.holemask)) chunks

-- free lists have at most 119 active entries
abbrev pub AreShort : List GroupRec → Type 0
AreShort groups = All (λ (g : GroupRec). g.agfl.count ≤ 119) groups

abbrev pub HasChunks : GroupRec → Type 0
HasChunks g = AreChunks g.ino × AreChunks g.fino

abbrev pub AllHaveChunks : List GroupRec → Type 0
AllHaveChunks groups = All HasChunks groups
