-- What the slots of inodes give, taken one by one (chapter "On-disk Inode").
use Rattle.std.specs.Prelude.{ℕ, List, [], ◌∷◌, ◌++◌, Option, Some, None, Result, Ok, Err}
use Rattle.std.specs.List.{flat_map}
use Rattle.std.specs.Option.{option_or}
use Rattle.xfs_dirdata.specs.declared.records.EntryRec.{EntryRec}
use Rattle.xfs_dirs.specs.declared.found.DirFound.{DirFound}
use Rattle.xfs_disk.specs.Blocks.{Image}
use Rattle.xfs_geom.specs.Volumes.{Volume}
use Rattle.xfs_inode.specs.declared.files.FileRead.{FileRead}
use Rattle.xfs_inode.specs.declared.files.FileRead.TheVariants as Reads
use Rattle.xfs_volume.specs.declared.directories.DirRec.{DirRec}
use Rattle.xfs_volume.specs.declared.files.FileRec.{FileRec}
use Rattle.xfs_image.specs.declared.findings.Finding.{Finding}
use Rattle.xfs_image.specs.declared.findings.Finding.TheVariants as Found
use Rattle.xfs_image.specs.Claims.{candidate_inodes}
use Rattle.xfs_image.specs.Directories.{dirs_read, entries_read}
use Rattle.xfs_image.specs.Slots.{inodes_of_block, reads_as}
use Rattle.xfs_slots.specs.declared.inodes.InodeFeature.{InodeFeature}
use Rattle.xfs_slots.specs.declared.inodes.Inodes.{Inodes}

-- what slots give: the files, with their attributes or without; the inodes of those without; the entries and the directories
-- among the files; the first inode that is neither free nor a file with its attributes; the first with a feature that is not
-- supported
pub record Gathered : Type 0 where
  pub files : List FileRec
  pub bare : List ℕ
  pub entries : List EntryRec
  pub dirs : List DirRec
  pub unread : Option ℕ
  pub feature : Option InodeFeature

abbrev pub nothing_gathered : Gathered
nothing_gathered = record { files = []; bare = []; entries = []; dirs = []; unread = None; feature = None }

-- what some slots give, and what those behind them give
abbrev pub gathered_both : Gathered → Gathered → Gathered
gathered_both a b = record {
  files = a.files ++ b.files;
  bare = a.bare ++ b.bare;
  entries = a.entries ++ b.entries;
  dirs = a.dirs ++ b.dirs;
  unread = option_or a.unread b.unread;
  feature = option_or a.feature b.feature;
}

-- what a slot gives that has a file, and one that has none to be read
abbrev pub of_file : Volume → Image → FileRec → List ℕ → Option ℕ → Gathered
of_file v image file bare unread = record {
  files = file ∷ [];
  bare = bare;
  entries = entries_read v image (file ∷ []);
  dirs = dirs_read v image (file ∷ []);
  unread = unread;
  feature = None;
}

abbrev pub of_none : ℕ → Option InodeFeature → Gathered
of_none ino feature = record { files = []; bare = []; entries = []; dirs = []; unread = Some ino; feature = feature }

abbrev pub of_read : Volume → Image → ℕ → FileRead → Gathered
of_read v image ino Reads.Free = nothing_gathered
of_read v image ino (Reads.File file) = of_file v image file [] None
of_read v image ino (Reads.FileWithoutAttrs file) = of_file v image file (ino ∷ []) (Some ino)
of_read v image ino (Reads.Unsupported what) = of_none ino (Some (record { ino = ino; what = what }))
of_read v image ino Reads.Unsound = of_none ino None

-- what the slot of an inode gives, and those of some inodes
abbrev pub of_slot : Volume → Image → ℕ → Gathered
of_slot v image ino = of_read v image ino (reads_as v image ino)

unfoldable pub gathered : Volume → Image → List ℕ → Gathered
gathered v image [] = nothing_gathered
gathered v image (ino ∷ inos) = gathered_both (of_slot v image ino) (gathered v image inos)

-- what is held of them
abbrev pub held_in : Inodes → Gathered
held_in inodes = record {
  files = inodes.files.items;
  bare = inodes.bare.items;
  entries = inodes.entries.items;
  dirs = inodes.dirs.items;
  unread = inodes.unread;
  feature = inodes.feature;
}

-- the files, where all slots read, or the first inode that does not
abbrev pub files_if : Option ℕ → List FileRec → Result (List FileRec) Finding
files_if None files = Ok files
files_if (Some ino) files = Err (Found.Part 9 ino)

-- the inodes of some blocks
abbrev pub inodes_of_blocks : Volume → List ℕ → List ℕ
inodes_of_blocks v blocks = flat_map (inodes_of_block v) blocks

-- the candidate files that read without their attributes, by number
abbrev pub bare_if : ℕ → FileRead → List ℕ
bare_if ino Reads.Free = []
bare_if ino (Reads.File file) = []
bare_if ino (Reads.FileWithoutAttrs file) = ino ∷ []
bare_if ino (Reads.Unsupported what) = []
bare_if ino Reads.Unsound = []

unfoldable pub bare_inodes : Volume → Image → List ℕ
bare_inodes v image = flat_map (λ ino. bare_if ino (reads_as v image ino)) (candidate_inodes v image)

-- the first of some inodes with a feature that is not supported
abbrev pub feature_if : ℕ → FileRead → Option InodeFeature
feature_if ino Reads.Free = None
feature_if ino (Reads.File file) = None
feature_if ino (Reads.FileWithoutAttrs file) = None
feature_if ino (Reads.Unsupported what) = Some (record { ino = ino; what = what })
feature_if ino Reads.Unsound = None

abbrev pub first_feature : Volume → Image → List ℕ → Option InodeFeature
first_feature v image [] = None
first_feature v image (ino ∷ inos) = option_or (feature_if ino (reads_as v image ino)) (first_feature v image inos)

-- what a file adds where it is a directory, and what is found of one
abbrev pub of_directory : Volume → Image → FileRec → Gathered
of_directory v image file = record {
  files = [];
  bare = [];
  entries = entries_read v image (file ∷ []);
  dirs = dirs_read v image (file ∷ []);
  unread = None;
  feature = None;
}

abbrev pub of_found : ℕ → DirFound → Gathered
of_found ino found = record {
  files = [];
  bare = [];
  entries = found.entries;
  dirs = record { ino = ino; parent = found.parent; whole = found.whole } ∷ [];
  unread = None;
  feature = None;
}
