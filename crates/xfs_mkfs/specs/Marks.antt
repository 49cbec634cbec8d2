-- The marks by which it is known that a disk holds something: a volume, another file system, or a partition table.
use Rattle.std.specs.Prelude.{ℕ, ◌/◌, ◌%◌, ◌==◌, ◌&&◌, Bool, codes, bytes_eq, List, [], ◌∷◌, ◌++◌, length, take, drop}
use Rattle.std.specs.List.{list_any}
use Rattle.xfs_disk.specs.Blocks.{Image, bytes_of_block}
use Rattle.xfs_mkfs.specs.declared.marks.Mark as code

-- a mark: the byte of the disk at which it begins, and its bytes
abbrev pub Mark : Type 0
Mark = ℕ × List ℕ

-- all marks, by the bytes at which they begin: XFS, squashfs, LUKS, NTFS, a partition table of the first kind or a boot sector, one by
-- GUIDs, LVM, F2FS, ext2 to ext4, swap space of both kinds, Linux software RAID, ISO 9660 and btrfs
unfoldable pub marks : List Mark
marks =
    (0, codes "XFSB") ∷ (0, codes "hsqs") ∷ (0, codes "LUKS" ++ 0xba ∷ 0xbe ∷ []) ∷ (3, codes "NTFS") ∷ (510, 0x55 ∷ 0xaa ∷ []) ∷
    (512, codes "EFI PART") ∷ (512, codes "LABELONE") ∷ (1024, 0x10 ∷ 0x20 ∷ 0xf5 ∷ 0xf2 ∷ []) ∷ (1080, 0x53 ∷ 0xef ∷ []) ∷
    (4086, codes "SWAPSPACE2") ∷ (4086, codes "SWAP-SPACE") ∷ (4096, 0xfc ∷ 0x4e ∷ 0x2b ∷ 0xa9 ∷ []) ∷ (32769, codes "CD001") ∷
    (65600, codes "_BHRfS_M") ∷ []

-- a mark of the code
abbrev pub mark_of : code.Mark → Mark
mark_of m = (m.at, m.bytes.now)

-- the mark stands in the block in which it is due
abbrev pub has_mark : List ℕ → Mark → Bool
has_mark block m = bytes_eq (take (length m.1) (drop (m.0 % 4096) block)) m.1

-- one of the marks stands in the image
unfoldable pub is_marked : Image → Bool
is_marked image = list_any (λ (m : Mark). has_mark (bytes_of_block image (m.0 / 4096)) m) marks

-- the mark is due in this block, and stands in it
abbrev pub stands_at : ℕ → List ℕ → Mark → Bool
stands_at at block m = (m.0 / 4096 == at) && has_mark block m

-- one of the marks does
unfoldable pub bears : ℕ → List ℕ → Bool
bears at block = list_any (stands_at at block) marks

-- the blocks in which marks are due
abbrev pub mark_blocks : List ℕ
mark_blocks = 0 ∷ 1 ∷ 8 ∷ 16 ∷ []
