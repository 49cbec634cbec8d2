-- The fields of each type of object, in the order in which they are printed: name, byte offset, width in bytes and form
-- (chapters "Superblocks", "AG Free Space Management", "AG Inode Management", "Common B+trees" and "On-disk Inode").
use Rattle.std.specs.Prelude.{ℕ, codes, List, [], ◌∷◌}
use Rattle.xfs_word.specs.declared.layout.Form.TheVariants.{Decimal, Hexadecimal, Identifier, Text, Checksum}
use Rattle.xfs_objects.specs.declared.items.ItemShape.{ItemShape}
use Rattle.xfs_objects.specs.declared.items.ItemShape.TheVariants.{Field}

-- what has a name in an object: where it stands there, in bytes, and how it is shown
pub record Item : Type 0 where
  pub name : List ℕ
  pub offset : ℕ
  pub shape : ItemShape

abbrev pub item : List ℕ → ℕ → ItemShape → Item
item name offset shape = record { name = name; offset = offset; shape = shape }

-- a decimal number, a hexadecimal one, an identifier, a text and a checksum
abbrev pub dec : List ℕ → ℕ → ℕ → Item
dec name offset width = item name offset (Field width Decimal)

abbrev pub hex : List ℕ → ℕ → ℕ → Item
hex name offset width = item name offset (Field width Hexadecimal)

abbrev pub ident : List ℕ → ℕ → Item
ident name offset = item name offset (Field 16 Identifier)

abbrev pub chars : List ℕ → ℕ → ℕ → Item
chars name offset width = item name offset (Field width Text)

abbrev pub check : List ℕ → ℕ → Item
check name offset = item name offset (Field 4 Checksum)

-- the superblock
abbrev pub super_fields : List Item
super_fields =
    hex (codes "magicnum") 0 4 ∷ dec (codes "blocksize") 4 4 ∷ dec (codes "dblocks") 8 8 ∷
    dec (codes "rblocks") 16 8 ∷ dec (codes "rextents") 24 8 ∷ ident (codes "uuid") 32 ∷ dec (codes "logstart") 48 8 ∷
    dec (codes "rootino") 56 8 ∷ dec (codes "rbmino") 64 8 ∷ dec (codes "rsumino") 72 8 ∷
    dec (codes "rextsize") 80 4 ∷ dec (codes "agblocks") 84 4 ∷ dec (codes "agcount") 88 4 ∷
    dec (codes "rbmblocks") 92 4 ∷ dec (codes "logblocks") 96 4 ∷ hex (codes "versionnum") 100 2 ∷
    dec (codes "sectsize") 102 2 ∷ dec (codes "inodesize") 104 2 ∷ dec (codes "inopblock") 106 2 ∷
    chars (codes "fname") 108 12 ∷ dec (codes "blocklog") 120 1 ∷ dec (codes "sectlog") 121 1 ∷
    dec (codes "inodelog") 122 1 ∷ dec (codes "inopblog") 123 1 ∷ dec (codes "agblklog") 124 1 ∷
    dec (codes "rextslog") 125 1 ∷ dec (codes "inprogress") 126 1 ∷ dec (codes "imax_pct") 127 1 ∷
    dec (codes "icount") 128 8 ∷ dec (codes "ifree") 136 8 ∷ dec (codes "fdblocks") 144 8 ∷
    dec (codes "frextents") 152 8 ∷ dec (codes "uquotino") 160 8 ∷ dec (codes "gquotino") 168 8 ∷
    hex (codes "qflags") 176 2 ∷ hex (codes "flags") 178 1 ∷ dec (codes "shared_vn") 179 1 ∷
    dec (codes "inoalignmt") 180 4 ∷ dec (codes "unit") 184 4 ∷ dec (codes "width") 188 4 ∷
    dec (codes "dirblklog") 192 1 ∷ dec (codes "logsectlog") 193 1 ∷ dec (codes "logsectsize") 194 2 ∷
    dec (codes "logsunit") 196 4 ∷ hex (codes "features2") 200 4 ∷ hex (codes "bad_features2") 204 4 ∷
    hex (codes "features_compat") 208 4 ∷ hex (codes "features_ro_compat") 212 4 ∷
    hex (codes "features_incompat") 216 4 ∷ hex (codes "features_log_incompat") 220 4 ∷ check (codes "crc") 224 ∷
    dec (codes "spino_align") 228 4 ∷ dec (codes "pquotino") 232 8 ∷ hex (codes "lsn") 240 8 ∷
    ident (codes "meta_uuid") 248 ∷ []

-- the header of free space
abbrev pub agf_fields : List Item
agf_fields =
    hex (codes "magicnum") 0 4 ∷ dec (codes "versionnum") 4 4 ∷ dec (codes "seqno") 8 4 ∷ dec (codes "length") 12 4 ∷
    dec (codes "bnoroot") 16 4 ∷ dec (codes "cntroot") 20 4 ∷ dec (codes "rmaproot") 24 4 ∷
    dec (codes "bnolevel") 28 4 ∷ dec (codes "cntlevel") 32 4 ∷ dec (codes "rmaplevel") 36 4 ∷
    dec (codes "flfirst") 40 4 ∷ dec (codes "fllast") 44 4 ∷ dec (codes "flcount") 48 4 ∷
    dec (codes "freeblks") 52 4 ∷ dec (codes "longest") 56 4 ∷ dec (codes "btreeblks") 60 4 ∷
    ident (codes "uuid") 64 ∷ dec (codes "rmapblocks") 80 4 ∷ hex (codes "lsn") 208 8 ∷ check (codes "crc") 216 ∷ []

-- the header of inodes, before its chains of unlinked inodes and behind them
abbrev pub agi_front : List Item
agi_front =
    hex (codes "magicnum") 0 4 ∷ dec (codes "versionnum") 4 4 ∷ dec (codes "seqno") 8 4 ∷ dec (codes "length") 12 4 ∷
    dec (codes "count") 16 4 ∷ dec (codes "root") 20 4 ∷ dec (codes "level") 24 4 ∷ dec (codes "freecount") 28 4 ∷
    dec (codes "newino") 32 4 ∷ dec (codes "dirino") 36 4 ∷ []

-- and behind them
abbrev pub agi_back : List Item
agi_back =
    ident (codes "uuid") 296 ∷ check (codes "crc") 312 ∷ hex (codes "lsn") 320 8 ∷ dec (codes "free_root") 328 4 ∷
    dec (codes "free_level") 332 4 ∷ []

-- the header of the free list
abbrev pub agfl_fields : List Item
agfl_fields =
    hex (codes "magicnum") 0 4 ∷ dec (codes "seqno") 4 4 ∷ ident (codes "uuid") 8 ∷ hex (codes "lsn") 24 8 ∷
    check (codes "crc") 32 ∷ []

-- the header of a block of a tree of a group
abbrev pub short_fields : List Item
short_fields =
    hex (codes "magic") 0 4 ∷ dec (codes "level") 4 2 ∷ dec (codes "numrecs") 6 2 ∷ dec (codes "leftsib") 8 4 ∷
    dec (codes "rightsib") 12 4 ∷ dec (codes "bno") 16 8 ∷ hex (codes "lsn") 24 8 ∷ ident (codes "uuid") 32 ∷
    dec (codes "owner") 48 4 ∷ check (codes "crc") 52 ∷ []

-- the header of a block of a tree of a file
abbrev pub long_fields : List Item
long_fields =
    hex (codes "magic") 0 4 ∷ dec (codes "level") 4 2 ∷ dec (codes "numrecs") 6 2 ∷ dec (codes "leftsib") 8 8 ∷
    dec (codes "rightsib") 16 8 ∷ dec (codes "bno") 24 8 ∷ hex (codes "lsn") 32 8 ∷ ident (codes "uuid") 40 ∷
    dec (codes "owner") 56 8 ∷ check (codes "crc") 64 ∷ []

-- the core of an inode
abbrev pub inode_fields : List Item
inode_fields =
    hex (codes "magic") 0 2 ∷ hex (codes "mode") 2 2 ∷ dec (codes "version") 4 1 ∷ dec (codes "format") 5 1 ∷
    dec (codes "uid") 8 4 ∷ dec (codes "gid") 12 4 ∷ dec (codes "nlink") 16 4 ∷ dec (codes "projid_lo") 20 2 ∷
    dec (codes "projid_hi") 22 2 ∷ hex (codes "atime") 32 8 ∷ hex (codes "mtime") 40 8 ∷ hex (codes "ctime") 48 8 ∷
    dec (codes "size") 56 8 ∷ dec (codes "nblocks") 64 8 ∷ dec (codes "extsize") 72 4 ∷ dec (codes "nextents") 76 4 ∷
    dec (codes "anextents") 80 2 ∷ dec (codes "forkoff") 82 1 ∷ dec (codes "aformat") 83 1 ∷
    hex (codes "flags") 90 2 ∷ dec (codes "gen") 92 4 ∷ dec (codes "next_unlinked") 96 4 ∷ check (codes "crc") 100 ∷
    dec (codes "changecount") 104 8 ∷ hex (codes "lsn") 112 8 ∷ hex (codes "flags2") 120 8 ∷
    dec (codes "cowextsize") 128 4 ∷ hex (codes "crtime") 144 8 ∷ dec (codes "ino") 152 8 ∷ ident (codes "uuid") 160 ∷ []

-- the same under the names that xfs_db of xfsprogs has for them; the seconds and the nanoseconds of a time have names of their own
abbrev pub inode_aliases : List Item
inode_aliases =
    hex (codes "core.magic") 0 2 ∷ hex (codes "core.mode") 2 2 ∷ dec (codes "core.version") 4 1 ∷
    dec (codes "core.format") 5 1 ∷ dec (codes "core.uid") 8 4 ∷ dec (codes "core.gid") 12 4 ∷
    dec (codes "core.nlinkv2") 16 4 ∷ dec (codes "core.projid_lo") 20 2 ∷ dec (codes "core.projid_hi") 22 2 ∷
    hex (codes "core.atime") 32 8 ∷ dec (codes "core.atime.sec") 32 4 ∷ dec (codes "core.atime.nsec") 36 4 ∷
    hex (codes "core.mtime") 40 8 ∷ dec (codes "core.mtime.sec") 40 4 ∷ dec (codes "core.mtime.nsec") 44 4 ∷
    hex (codes "core.ctime") 48 8 ∷ dec (codes "core.ctime.sec") 48 4 ∷ dec (codes "core.ctime.nsec") 52 4 ∷
    dec (codes "core.size") 56 8 ∷ dec (codes "core.nblocks") 64 8 ∷ dec (codes "core.extsize") 72 4 ∷
    dec (codes "core.nextents") 76 4 ∷ dec (codes "core.naextents") 80 2 ∷ dec (codes "core.forkoff") 82 1 ∷
    dec (codes "core.aformat") 83 1 ∷ hex (codes "core.flags") 90 2 ∷ dec (codes "core.gen") 92 4 ∷
    check (codes "v3.crc") 100 ∷ dec (codes "v3.change_count") 104 8 ∷ hex (codes "v3.lsn") 112 8 ∷
    hex (codes "v3.flags2") 120 8 ∷ dec (codes "v3.cowextsize") 128 4 ∷ hex (codes "v3.crtime") 144 8 ∷
    dec (codes "v3.crtime.sec") 144 4 ∷ dec (codes "v3.crtime.nsec") 148 4 ∷ dec (codes "v3.inumber") 152 8 ∷
    ident (codes "v3.uuid") 160 ∷ []
