-- Whether names would have to change: the files that the volume then has, with as many links as they have names, break a law of names.
use Rattle.std.specs.Prelude.{◌≡◌, ℕ, Bool, true, ◌-◌, ◌^◌, nat_lt, if◌then◌else◌, List, [], ◌∷◌, map}
use Rattle.std.specs.List.{flat_map}
use Rattle.std.specs.Option.{is_some}
use Rattle.xfs_disk.specs.Lists.{is_among}
use Rattle.xfs_naming.specs.Naming.{naming_laws}
use Rattle.xfs_volume.specs.Laws.{first_broken}
use Rattle.xfs_volume.specs.declared.cores.Core.{Core}
use Rattle.xfs_volume.specs.declared.directories.DirRec.{DirRec}
use Rattle.xfs_volume.specs.declared.files.FileRec.{FileRec}
use Rattle.xfs_volume.specs.Rest.{no_rest}
use Rattle.xfs_render.specs.declared.wanted_slots.SlotBase.{SlotBase}
use Rattle.xfs_render.specs.declared.wanted_slots.SlotBase.TheVariants.{Free, Fresh, Kept}
use Rattle.xfs_render.specs.declared.wanted_slots.SlotWanted.{SlotWanted}
use Rattle.xfs_salvage.specs.declared.found.Salvaged.{Salvaged}
use Rattle.xfs_request.specs.Slots.{links_due}
use Rattle.xfs_rebuild.specs.declared.names.DueNames.{DueNames}

-- a file with so many links, which does not wait to be removed
abbrev pub with_nlink : FileRec → ℕ → FileRec
with_nlink f nlink = record f { core = record f.core { nlink = nlink; next_unlinked = 2 ^ 32 - 1 } }

-- the kept files, each with as many as the kept entries give it
abbrev pub linked_file : ℕ → Salvaged → FileRec → FileRec
linked_file root kept f = with_nlink f (links_due root kept.files kept.entries f)

abbrev pub linked_files : ℕ → Salvaged → List FileRec
linked_files root kept = map (linked_file root kept) kept.files

-- a file that is made anew: what its core says, and nothing beside
abbrev pub new_file : ℕ → Core → FileRec
new_file ino core = record { ino = ino; core = core; extents = []; rest = no_rest }

abbrev pub made_of : ℕ → SlotBase → List FileRec
made_of ino Kept = []
made_of ino Free = []
made_of ino (Fresh core) = new_file ino core ∷ []

abbrev pub made_files : List SlotWanted → List FileRec
made_files slots = flat_map (λ (w : SlotWanted). made_of w.ino w.base) slots

-- a file among files that stand by number, and several
abbrev pub with_made_file : FileRec → List FileRec → List FileRec
with_made_file f [] = f ∷ []
with_made_file f (other ∷ files) = if nat_lt other.ino f.ino then other ∷ with_made_file f files else f ∷ other ∷ files

abbrev pub with_made_files : List FileRec → List FileRec → List FileRec
with_made_files [] files = files
with_made_files (f ∷ made) files = with_made_files made (with_made_file f files)

-- the files that the volume then has, but for their attributes and checksums, of which no law of names speaks
unfoldable pub due_files : ℕ → Salvaged → List SlotWanted → List FileRec
due_files root kept slots = with_made_files (made_files slots) (linked_files root kept)

-- its directories: a root that is made anew is whole, without entries, and its own parent
abbrev pub with_dir : DirRec → List DirRec → List DirRec
with_dir d [] = d ∷ []
with_dir d (other ∷ dirs) = if nat_lt other.ino d.ino then other ∷ with_dir d dirs else d ∷ other ∷ dirs

abbrev pub new_root : ℕ → DirRec
new_root root = record { ino = root; parent = root; whole = true }

abbrev pub dirs_with : ℕ → List ℕ → List DirRec → List DirRec
dirs_with root fresh dirs = if is_among fresh root then with_dir (new_root root) dirs else dirs

abbrev pub due_dirs : ℕ → Salvaged → List DirRec
due_dirs root kept = dirs_with root kept.fresh kept.dirs

-- a law of names is broken whatever numbers of links are set
unfoldable pub needs_names : ℕ → Salvaged → List SlotWanted → Bool
needs_names root kept slots = is_some (first_broken (naming_laws root (due_files root kept slots) kept.entries (due_dirs root kept)))

-- what there is to be named of what is kept
pub record AreDueNames (root : ℕ) (kept : Salvaged) (slots : List SlotWanted) (names : DueNames) : Type 0 where
  pub files' : names.files ≡ due_files root kept slots
  pub entries' : names.entries ≡ kept.entries
  pub dirs' : names.dirs ≡ due_dirs root kept
  pub clusters' : names.clusters ≡ kept.clusters
  pub fresh' : names.fresh ≡ kept.fresh
