-- What the volume has once its names are settled: its files without the blocks of directories that are built anew, its inodes in use, its
-- clusters and entries.
use Rattle.std.specs.Prelude.{◌≡◌, ℕ, Bool, not, nat_lt, if◌then◌else◌, List, [], ◌∷◌, ◌++◌, map}
use Rattle.std.specs.List.{filter}
use Rattle.xfs_disk.specs.Lists.{is_among}
use Rattle.xfs_geom.specs.declared.geometry.Geometry.{Geometry}
use Rattle.xfs_volume.specs.declared.files.FileRec.{FileRec}
use Rattle.xfs_names.specs.Rebuilt.{wanted_rebuilt}
use Rattle.xfs_names.specs.Wanted.{wanted_entries, wanted_links, wanted_parents}
use Rattle.xfs_names.specs.declared.records.WantedNames.{WantedNames}
use Rattle.xfs_salvage.specs.declared.found.Salvaged.{Salvaged}
use Rattle.xfs_rebuild.specs.declared.names_due.NamesDue.{NamesDue}
use Rattle.xfs_changes.specs.Nodes.{nodes_of_files}
use Rattle.xfs_changes.specs.declared.lost_found.Lost.{Lost}

-- the names are those that are wanted of these files, with lost+found where it stands
pub record AreWanted (g : Geometry) (n : NamesDue) (l : Lost) (w : WantedNames) : Type 0 where
  pub entries' : w.entries ≡ wanted_entries (nodes_of_files n.files) n.entries g.rootino l.new
  pub parents' : w.parents ≡ wanted_parents (nodes_of_files n.files) n.entries g.rootino l.new
  pub links' : w.links ≡ wanted_links (nodes_of_files n.files) n.entries g.rootino l.new
  pub rebuilt' : w.rebuilt ≡ wanted_rebuilt (nodes_of_files n.files) n.entries n.dirs g.rootino l.new

-- a directory that is built anew gives its blocks up, but for those of its attributes
abbrev pub without_data : FileRec → FileRec
without_data f = record f { extents = []; rest = record f.rest { tree = [] } }

abbrev pub staying_file : List ℕ → FileRec → FileRec
staying_file rebuilt f = if is_among rebuilt f.ino then without_data f else f

-- the files that were there before: none that is made anew
abbrev pub is_old : List ℕ → FileRec → Bool
is_old fresh f = not (is_among fresh f.ino)

unfoldable pub staying_files : List ℕ → List ℕ → List FileRec → List FileRec
staying_files rebuilt fresh files = map (staying_file rebuilt) (filter (is_old fresh) files)

-- a number among others that ascend
abbrev pub with_number_in_order : ℕ → List ℕ → List ℕ
with_number_in_order x [] = x ∷ []
with_number_in_order x (y ∷ ys) = if nat_lt y x then y ∷ with_number_in_order x ys else x ∷ y ∷ ys

abbrev pub with_numbers : List ℕ → List ℕ → List ℕ
with_numbers [] ys = ys
with_numbers (x ∷ xs) ys = with_numbers xs (with_number_in_order x ys)

-- those that are made anew, with lost+found where it is
abbrev pub fresh_with : Lost → List ℕ → List ℕ
fresh_with l fresh = if l.made then fresh ++ l.new ∷ [] else fresh

-- what the volume has
abbrev pub settled : NamesDue → Lost → WantedNames → Salvaged
settled n l w = record {
  clusters = with_numbers l.added n.clusters;
  files = staying_files w.rebuilt n.fresh n.files;
  fresh = fresh_with l n.fresh;
  entries = [];
  dirs = [];
}
