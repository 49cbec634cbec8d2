-- The directories that are built anew, each with the entries and the parent that are wanted (chapter "Directories").
use Rattle.std.specs.Prelude.{◌≡◌, ℕ, ◌+◌, ◌<◌, ◌≤◌, ◌^◌, ◌==◌, if◌then◌else◌, List, [], ◌∷◌, map, length, Some, IsTrue}
use Rattle.std.specs.List.{All}
use Rattle.std.specs.List.Sorted.{IsNonDecreasingBy}
use Rattle.xfs_dirdata.specs.declared.records.EntryRec.{EntryRec}
use Rattle.xfs_dirdata.specs.Bytes.{short_bytes}
use Rattle.xfs_dirdata.specs.Short.{short_of}
use Rattle.xfs_dirdata.specs.Written.{IsWritableEntry, in_directory}
use Rattle.xfs_dirindex.specs.Data.{have_no_dots}
use Rattle.xfs_naming.specs.Naming.{entries_in}
use Rattle.xfs_dirbuild.specs.declared.forms.DirectoryForm.{DirectoryForm}
use Rattle.xfs_dirbuild.specs.declared.forms.DirectoryForm.TheVariants.{Short}
use Rattle.xfs_dirbuild.specs.declared.image.DirImage.{DirImage}
use Rattle.xfs_dirbuild.specs.Blocks.{dir_blocks}
use Rattle.xfs_dirbuild.specs.Forms.{form_of, data_blocks_of, index_blocks_of, free_blocks_of}
use Rattle.xfs_dirbuild.specs.Placed.{HaveMagics, IsBuilt}
use Rattle.xfs_names.specs.declared.building.BuiltDirectory.{BuiltDirectory}
use Rattle.xfs_names.specs.declared.building.ForkRoom.{ForkRoom}
use Rattle.xfs_names.specs.declared.records.WantedNames.{WantedNames}
use Rattle.xfs_names.specs.Pairs.{PairsAscend, parent_or_itself}

-- how many bytes the data fork of a directory may have: what is told, or all that stand behind the core of a slot
abbrev pub fork_room : List ForkRoom → ℕ → ℕ
fork_room [] d = 336
fork_room (r ∷ rs) d = if r.ino == d then r.bytes else fork_room rs d

-- directories can be built of these names: entries can be written, none is named "." or "..", and numbers have at most 4 bytes
pub record CanBeBuilt (wanted : WantedNames) : Type 0 where
  pub writable : All IsWritableEntry wanted.entries
  pub names : IsTrue (have_no_dots wanted.entries)
  pub few : length wanted.entries ≤ 2 ^ 24
  pub rise : IsNonDecreasingBy (λ (e : EntryRec). e.dir) wanted.entries
  pub ascend : PairsAscend 0 wanted.parents
  pub parents_low : All (λ (p : ℕ × ℕ). p.1 < 2 ^ 32) wanted.parents
  pub rebuilt_low : All (λ d. d < 2 ^ 32) wanted.rebuilt

-- the image of directory d in a form, with these entries and this parent: the bytes of the short form, which read as them, or
-- blocks, which are the whole directory with exactly them, whatever their places and seals
pub record IsImageIn (form : DirectoryForm) (entries : List EntryRec) (d parent : ℕ) (image : DirImage) : Type 0 where
  pub short_bytes_are : form ≡ Short → image.short.items ≡ short_bytes parent entries
  pub short_reads : form ≡ Short → (dir : ℕ) → short_of dir image.short.items ≡ Some (record { parent = parent; entries = map (in_directory dir) entries })
  pub short_none : (form ≡ Short → ⊥) → image.short.items ≡ []
  pub data_count : image.data_blocks ≡ data_blocks_of form entries
  pub index_count : image.index_blocks ≡ index_blocks_of form entries
  pub free_count : image.free_blocks ≡ free_blocks_of form entries
  pub count : length image.blocks ≡ image.data_blocks + image.index_blocks + image.free_blocks
  pub blocks_are : image.blocks ≡ dir_blocks form d parent entries
  pub magics : HaveMagics image.data_blocks image.index_blocks image.free_blocks image.blocks
  pub whole : IsBuilt form d parent image.data_blocks image.index_blocks image.free_blocks entries image.blocks

-- a directory was built with its own entries and the parent that is wanted, in the first form that fits its fork
abbrev pub IsBuiltAsWanted : WantedNames → List ForkRoom → BuiltDirectory → Type 0
IsBuiltAsWanted wanted rooms b =
    IsImageIn (form_of (entries_in wanted.entries b.ino) (fork_room rooms b.ino)) (entries_in wanted.entries b.ino) b.ino (parent_or_itself wanted.parents b.ino) b.image
