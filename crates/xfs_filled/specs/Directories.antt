-- The directories of a new volume, as they are built (chapter "Directories").
use Rattle.std.specs.Prelude.{◌≡◌, ℕ, ◌+◌, ◌≤◌, ◌<◌, true, if◌then◌else◌, List, [], length, map, Option, Some, None, MatchOption}
use Rattle.xfs_dirbuild.specs.Blocks.{dir_blocks}
use Rattle.xfs_dirbuild.specs.Forms.{data_blocks_of, form_of, free_blocks_of, index_blocks_of}
use Rattle.xfs_dirbuild.specs.declared.forms.DirectoryForm.{DirectoryForm}
use Rattle.xfs_dirbuild.specs.Placed.{HaveMagics, IsBuilt}
use Rattle.xfs_dirbuild.specs.declared.image.DirImage.{DirImage}
use Rattle.xfs_dirbuild.specs.declared.forms.DirectoryForm.TheVariants.{Short, Single, Leaf, Node}
use Rattle.xfs_dirdata.specs.Bytes.{short_bytes}
use Rattle.xfs_dirdata.specs.Short.{short_of}
use Rattle.xfs_dirdata.specs.Written.{in_directory}
use Rattle.xfs_dirdata.specs.declared.records.EntryRec.{EntryRec}
use Rattle.xfs_geom.specs.Volumes.{Volume}
use Rattle.xfs_proto.specs.declared.protofile.ProtoNode.{ProtoNode}
use Rattle.xfs_filled.specs.Entries.{directories_in, entries_at, parent_of_place}
use Rattle.xfs_filled.specs.FileTrees.{is_directory_node}
use Rattle.xfs_filled.specs.Numbers.{number_of}
use Rattle.xfs_filled.specs.declared.directories.MadeDirectory.{MadeDirectory}

-- the bytes of the fork of an inode without attributes
abbrev pub fresh_fork_bytes : ℕ
fresh_fork_bytes = 336

-- the bytes of the short form, none in another form
abbrev pub short_in : DirectoryForm → ℕ → List EntryRec → List ℕ
short_in Short parent entries = short_bytes parent entries
short_in Single parent entries = []
short_in Leaf parent entries = []
short_in Node parent entries = []

-- a directory with these entries
abbrev pub made_directory : List EntryRec → ℕ → ℕ → MadeDirectory
made_directory entries dir parent = record {
  short = short_in (form_of entries fresh_fork_bytes) parent entries;
  data_blocks = data_blocks_of (form_of entries fresh_fork_bytes) entries;
  index_blocks = index_blocks_of (form_of entries fresh_fork_bytes) entries;
  free_blocks = free_blocks_of (form_of entries fresh_fork_bytes) entries;
  blocks = dir_blocks (form_of entries fresh_fork_bytes) dir parent entries;
  links = 2 + directories_in entries;
}

-- the file at a place, where it is a directory
abbrev pub made_directory_at : Volume → List ℕ → List ProtoNode → ℕ → Option MadeDirectory
made_directory_at v starts ns k =
    if is_directory_node ns k then Some (made_directory (entries_at v starts ns k) (number_of v starts k) (parent_of_place v starts ns k)) else None

-- a directory has no more blocks of each kind than an extent can have, and its short form fits the fork
pub record IsSoundDirectory (d : MadeDirectory) : Type 0 where
  pub data_few : d.data_blocks ≤ 2097151
  pub index_few : d.index_blocks ≤ 2097151
  pub free_few : d.free_blocks ≤ 2097151
  pub counted : length d.blocks ≡ d.data_blocks + (d.index_blocks + d.free_blocks)
  pub fits : length d.short ≤ fresh_fork_bytes

-- what was built of a directory with these entries and this parent: in the short form its bytes, which read as the entries, else
-- blocks, which are the whole directory with exactly them, whatever their places and seals
pub record IsDirectoryImage (entries : List EntryRec) (dir parent : ℕ) (image : DirImage) : Type 0 where
  pub short_bytes_are : form_of entries fresh_fork_bytes ≡ Short → image.short.items ≡ short_bytes parent entries
  pub short_reads : form_of entries fresh_fork_bytes ≡ Short → (d : ℕ) → short_of d image.short.items ≡ Some (record { parent = parent; entries = map (in_directory d) entries })
  pub short_none : (form_of entries fresh_fork_bytes ≡ Short → ⊥) → image.short.items ≡ []
  pub data_count : image.data_blocks ≡ data_blocks_of (form_of entries fresh_fork_bytes) entries
  pub index_count : image.index_blocks ≡ index_blocks_of (form_of entries fresh_fork_bytes) entries
  pub free_count : image.free_blocks ≡ free_blocks_of (form_of entries fresh_fork_bytes) entries
  pub count : length image.blocks ≡ image.data_blocks + image.index_blocks + image.free_blocks
  pub blocks_are : image.blocks ≡ dir_blocks (form_of entries fresh_fork_bytes) dir parent entries
  pub magics : HaveMagics image.data_blocks image.index_blocks image.free_blocks image.blocks
  pub whole : IsBuilt (form_of entries fresh_fork_bytes) dir parent image.data_blocks image.index_blocks image.free_blocks entries image.blocks

-- such a directory was built
pub record HasDirectoryImage (entries : List EntryRec) (dir parent : ℕ) : Type 0 where
  pub image : DirImage
  pub is : IsDirectoryImage entries dir parent image

-- so was each directory of a new volume
pub record HaveDirectoryImages (v : Volume) (starts : List ℕ) (ns : List ProtoNode) : Type 0 where
  pub each : (k : ℕ) → k < length ns → is_directory_node ns k ≡ true → HasDirectoryImage (entries_at v starts ns k) (number_of v starts k) (parent_of_place v starts ns k)

-- where the file at a place is one
abbrev pub IsSoundWhere : Option MadeDirectory → Type 0
IsSoundWhere made = MatchOption made (Unit {0}) IsSoundDirectory
