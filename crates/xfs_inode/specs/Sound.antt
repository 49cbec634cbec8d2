-- What holds of every file that reads, whatever its slot and its blocks hold (chapters "On-disk Inode", "Data Extents" and
-- "Extended Attributes").
use Rattle.std.specs.Prelude.{◌≡◌, ℕ, ◌+◌, true, List, [], ◌++◌, length, map, None}
use Rattle.xfs_geom.specs.Volumes.{Volume}
use Rattle.xfs_volume.specs.declared.files.FileRec.{FileRec}
use Rattle.xfs_inode.specs.Files.{ranges_apart, are_blocks, are_extents, extent_blocks, range_of, ranges_of}
use Rattle.xfs_inode.specs.declared.claims.BlockRange.{BlockRange}
use Rattle.xfs_inode.specs.declared.files.FileRead.{FileRead}
use Rattle.xfs_inode.specs.declared.files.FileRead.TheVariants as Reads

-- all that a file claims: the blocks of its data, of the tree of their extents, and of its attributes
abbrev pub claims_of : Volume → FileRec → List BlockRange
claims_of v file = ranges_of v (record { records = file.extents; blocks = file.rest.tree }) ++ map (range_of v) file.rest.attr_extents

-- a file of this inode, whose extents lie in the volume in file order, and no block of which has two uses in it
pub record IsFile (v : Volume) (ino : ℕ) (file : FileRec) : Type 0 where
  pub number : file.ino ≡ ino
  pub extents : are_extents v None file.extents ≡ true
  pub tree : are_blocks v file.rest.tree ≡ true
  pub apart : ranges_apart (claims_of v file) ≡ true

-- with all its attributes: its blocks are as many as its core states
pub record IsWholeFile (v : Volume) (ino : ℕ) (file : FileRec) : Type 0 where
  pub keeps : IsFile v ino file
  pub counted : file.core.nblocks ≡ extent_blocks file.extents + length file.rest.tree + extent_blocks file.rest.attr_extents

-- without its attributes: none are given, and no block of theirs
pub record IsBareFile (v : Volume) (ino : ℕ) (file : FileRec) : Type 0 where
  pub keeps : IsFile v ino file
  pub no_extents : file.rest.attr_extents ≡ []
  pub no_attrs : file.rest.attrs ≡ []

-- what a slot reads as is a file, as it says, or none
abbrev pub IsSound : Volume → ℕ → FileRead → Type 0
IsSound v ino Reads.Free = Unit {0}
IsSound v ino (Reads.File file) = IsWholeFile v ino file
IsSound v ino (Reads.FileWithoutAttrs file) = IsBareFile v ino file
IsSound v ino (Reads.Unsupported what) = Unit {0}
IsSound v ino Reads.Unsound = Unit {0}
