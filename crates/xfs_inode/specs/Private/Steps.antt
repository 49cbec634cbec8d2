-- What a slot in use reads as, step by step.
use Rattle.std.specs.Prelude.{ℕ, Bool, if◌then◌else◌, List, Option}
use Rattle.xfs_word.specs.declared.extents.Extent.{Extent}
use Rattle.xfs_geom.specs.Volumes.{Volume}
use Rattle.xfs_tree.specs.Reading.{Contents}
use Rattle.xfs_volume.specs.declared.cores.Core.{Core}
use Rattle.xfs_inode.specs.declared.files.FileRead.{FileRead}
use Rattle.xfs_inode.specs.declared.files.FileRead.TheVariants as Reads
use Rattle.xfs_inode.specs.Files.{AttrFork, attr_fork, data_fork, file_record, has_leaf, is_core, is_whole_fork, no_attrs, with_attrs, with_data}

-- a file whose attribute fork is at fault: where a leaf takes part, the attributes alone are lost
abbrev pub without_leaf : ℕ → Core → List ℕ → Option (List ℕ) → Contents Extent → Bool → FileRead
without_leaf ino core slot link held leaf = if leaf then Reads.FileWithoutAttrs (file_record ino core slot link held no_attrs) else Reads.Unsound

-- a file by whether its blocks are counted, and those of attributes have no other use
abbrev pub by_counts : ℕ → Core → List ℕ → Option (List ℕ) → Contents Extent → AttrFork → Bool → FileRead
by_counts ino core slot link held fork settled =
    if settled then Reads.File (file_record ino core slot link held fork) else without_leaf ino core slot link held (has_leaf fork)

-- a file whose data fork reads
abbrev pub with_held : Volume → ℕ → Core → List ℕ → Option (List ℕ) → Option (List ℕ) → Contents Extent → FileRead
with_held v ino core slot attr_leaf link held =
    if is_whole_fork v ino core slot link held then with_attrs v ino core slot link held (attr_fork v ino core slot attr_leaf) else Reads.Unsound

-- a file of which no feature is unsupported
abbrev pub by_core : Volume → ℕ → Core → List ℕ → Option (Contents Extent) → Option (List ℕ) → Option (List ℕ) → FileRead
by_core v ino core slot tree attr_leaf link = if is_core core then with_data v ino core slot attr_leaf link (data_fork core slot tree) else Reads.Unsound
