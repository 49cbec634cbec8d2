-- What is settled about names, from its parts.
use Rattle.std.proofs.Common.{◌≡◌, ℕ, ◌+◌, ◌≤◌, Bool, true, false, cond, List, [], ◌∷◌, length, map, ◌⊎◌, inl, Result, Ok, Err, sym, subst, ap, ◌∙◌, arith}
use Rattle.std.specs.Prelude.{IfErr, IfOk}
use Rattle.std.specs.List.{All, filter}
use Rattle.xfs_dirdata.specs.declared.records.EntryRec.{EntryRec}
use Rattle.xfs_disk.specs.declared.stamp.Stamp.{Stamp}
use Rattle.xfs_geom.specs.declared.geometry.Geometry.{Geometry}
use Rattle.xfs_links.specs.Together.{old_lost, orphans_of}
use Rattle.xfs_links.specs.Connected.{attached_directories, kept_entries, parents}
use Rattle.xfs_links.specs.declared.records.DecidedNames.{DecidedNames}
use Rattle.xfs_links.specs.declared.records.NodeRec.{NodeRec}
use Rattle.xfs_naming.specs.Naming.{NumbersAscend}
use Rattle.xfs_names.specs.Built.{CanBeBuilt, IsBuiltAsWanted}
use Rattle.xfs_names.specs.Pairs.{PairsAscend}
use Rattle.xfs_names.specs.Rebuilt.{is_rebuilt, wanted_rebuilt}
use Rattle.xfs_names.specs.Wanted.{AreDecided, wanted_entries, wanted_links, wanted_parents}
use Rattle.xfs_names.specs.declared.building.BuiltDirectory.{BuiltDirectory}
use Rattle.xfs_names.specs.declared.records.WantedNames.{WantedNames}
use Rattle.xfs_volume.specs.declared.directories.DirRec.{DirRec}
use Rattle.xfs_volume.specs.declared.files.FileRec.{FileRec}
use Rattle.xfs_volume.specs.Names.{is_directory}
use Rattle.xfs_place.specs.declared.faults.PlaceFault.{PlaceFault}
use Rattle.xfs_place.specs.declared.faults.PlaceFault.TheVariants as place_fault
use Rattle.xfs_place.specs.declared.faults.Unplaced.TheVariants.{LostFound}
use Rattle.xfs_rebuild.specs.Rebuilds.{HasNamesDue}
use Rattle.xfs_rebuild.specs.declared.names_due.NamesDue.{NamesDue}
use Rattle.xfs_salvage.proofs.Ascending.{filtered}
use Rattle.xfs_rename.specs.Lost.{lost_due}
use Rattle.xfs_changes.specs.Nodes.{nodes_of_files}
use Rattle.xfs_rename.specs.Renames.{IsSettling, LacksCluster}
use Rattle.xfs_changes.specs.Rooms.{fork_rooms}
use Rattle.xfs_changes.specs.declared.lost_found.Lost.{Lost}
use Rattle.xfs_rename.specs.declared.settling.Settling.{Settling}

lower : (low high : ℕ) (ns : List ℕ) → low ≤ high → NumbersAscend high ns → NumbersAscend low ns
lower low high [] le up = tt
lower low high (n ∷ ns) le up = (let first = up.0 in omega (arith, le, first), up.1)

-- the first numbers of some of the pairs
firsts_ascend : (test : ℕ × ℕ → Bool) (low : ℕ) (ps : List (ℕ × ℕ)) → PairsAscend low ps → NumbersAscend low (map (λ (p : ℕ × ℕ). p.0) (filter test ps))
firsts_ascend test low [] up = tt
firsts_ascend test low (p ∷ ps) up = by_case (test p) (firsts_ascend test (p.0 + 1) ps up.1)
  where
    by_case : (t : Bool) → NumbersAscend (p.0 + 1) (map (λ (q : ℕ × ℕ). q.0) (filter test ps)) → NumbersAscend low (map (λ (q : ℕ × ℕ). q.0) (cond t (p ∷ filter test ps) (filter test ps)))
    by_case true rest = (up.0, rest)
    by_case false rest = let first = up.0 in lower low (p.0 + 1) (map (λ (q : ℕ × ℕ). q.0) (filter test ps)) (omega (arith, first)) rest

-- directories are found in the order of their files
pub dirs_ascend : (g : Geometry) (s : Stamp) (n : NamesDue) → HasNamesDue g s n → NumbersAscend 0 (map (λ (d : DirRec). d.ino) n.dirs)
dirs_ascend g s n has = subst (NumbersAscend 0) (sym has.due.named.directories) (filtered is_directory 0 n.files has.due.named.files_ascend)

-- the names that are wanted of these files
module _ (nodes : List NodeRec) (listed : List EntryRec) (dirs : List DirRec) (root new : ℕ) (w : WantedNames) (can : CanBeBuilt w)
    (above : w.parents ≡ wanted_parents nodes listed root new) (rebuilt : w.rebuilt ≡ wanted_rebuilt nodes listed dirs root new) where
  pub rebuilt_ascends : NumbersAscend 0 w.rebuilt
  rebuilt_ascends =
      subst (NumbersAscend 0) (sym rebuilt)
      (firsts_ascend (is_rebuilt listed dirs (wanted_entries nodes listed root new)) 0 (wanted_parents nodes listed root new) (subst (PairsAscend 0) above can.ascend))

  pub settling_is : (g : Geometry) (n : NamesDue) (l : Lost) (orphans : ℕ) (t : Settling) → nodes ≡ nodes_of_files n.files → listed ≡ n.entries → dirs ≡ n.dirs → root ≡ g.rootino → new ≡ l.new
      → w.entries ≡ wanted_entries nodes listed root new → w.links ≡ wanted_links nodes listed root new → l ≡ lost_due g n → (LacksCluster g n → ⊥)
      → orphans ≡ length (orphans_of (nodes_of_files n.files) n.entries g.rootino) → (files : List FileRec) → files ≡ n.files
      → t.lost ≡ l → t.names ≡ w → t.rooms ≡ fork_rooms w.rebuilt files → map (λ (b : BuiltDirectory). b.ino) t.built ≡ w.rebuilt
      → All (IsBuiltAsWanted w (fork_rooms w.rebuilt files)) t.built → t.orphans ≡ orphans → IsSettling g n t
  settling_is g n l orphans t a b c d e entries links is found many files f lost' names' rooms' numbers each without = record {
    found = found;
    lost' = lost' ∙ is;
    built' = record {
      wanted = record {
        entries' = ap (λ (x : WantedNames). x.entries) names' ∙ entries ∙ (λ i. wanted_entries (a i) (b i) (d i) (new_is i));
        parents' = ap (λ (x : WantedNames). x.parents) names' ∙ above ∙ (λ i. wanted_parents (a i) (b i) (d i) (new_is i));
        links' = ap (λ (x : WantedNames). x.links) names' ∙ links ∙ (λ i. wanted_links (a i) (b i) (d i) (new_is i));
        rebuilt' = ap (λ (x : WantedNames). x.rebuilt) names' ∙ rebuilt ∙ (λ i. wanted_rebuilt (a i) (b i) (c i) (d i) (new_is i));
      };
      numbers = numbers ∙ sym (ap (λ (x : WantedNames). x.rebuilt) names');
      each = subst (λ (x : WantedNames). All (IsBuiltAsWanted x (fork_rooms x.rebuilt n.files)) t.built) (sym names')
          (subst (λ (fs : List FileRec). All (IsBuiltAsWanted w (fork_rooms w.rebuilt fs)) t.built) f each);
    };
    rooms' = rooms' ∙ (λ i. fork_rooms (sym names' i).rebuilt (f i));
    ascend = subst (λ (x : WantedNames). NumbersAscend 0 x.rebuilt) (sym names') rebuilt_ascends;
    can' = subst CanBeBuilt (sym names') can;
    orphans' = without ∙ many;
  }
    where
      new_is : new ≡ (lost_due g n).new
      new_is = e ∙ ap (λ (x : Lost). x.new) is

  -- the same of what is made where memory is not wanting
  pub all_settled : (g : Geometry) (n : NamesDue) (l : Lost) (orphans : ℕ) (result : Result Settling PlaceFault) → nodes ≡ nodes_of_files n.files → listed ≡ n.entries → dirs ≡ n.dirs → root ≡ g.rootino → new ≡ l.new
      → w.entries ≡ wanted_entries nodes listed root new → w.links ≡ wanted_links nodes listed root new → l ≡ lost_due g n → (LacksCluster g n → ⊥)
      → orphans ≡ length (orphans_of (nodes_of_files n.files) n.entries g.rootino) → (files : List FileRec) → files ≡ n.files
      → IfOk result (λ t. t.lost ≡ l) → IfOk result (λ t. t.names ≡ w) → IfOk result (λ t. t.rooms ≡ fork_rooms w.rebuilt files)
      → IfOk result (λ t. map (λ (b : BuiltDirectory). b.ino) t.built ≡ w.rebuilt) → IfOk result (λ t. All (IsBuiltAsWanted w (fork_rooms w.rebuilt files)) t.built)
      → IfOk result (λ t. t.orphans ≡ orphans) → IfOk result (IsSettling g n)
  all_settled g n l orphans (Ok t) a b c d e entries links is found many files f lost' names' rooms' numbers each without =
      settling_is g n l orphans t a b c d e entries links is found many files f lost' names' rooms' numbers each without
  all_settled g n l orphans (Err fault) a b c d e entries links is found many files f lost' names' rooms' numbers each without = tt

-- want of memory is one of the causes
pub memory_only : {A : Type 0} (P : Type 0) (result : Result A PlaceFault) → IfErr result (λ fault. fault ≡ place_fault.NoMemory)
    → IfErr result (λ fault. (fault ≡ place_fault.NoMemory) ⊎ ((fault ≡ place_fault.NoRoom LostFound) × P))
memory_only P (Ok x) is = tt
memory_only P (Err fault) is = inl is

-- what was decided for files and entries is so for equal ones
pub decided_is : (files nodes : List NodeRec) (es listed : List EntryRec) (root : ℕ) (names : DecidedNames) → files ≡ nodes → es ≡ listed
    → names.entries ≡ kept_entries files es root → names.parents ≡ parents files (attached_directories files es root) → names.orphans ≡ orphans_of files es root
    → names.lost ≡ old_lost files es root → AreDecided nodes listed root names
decided_is files nodes es listed root names a b entries above orphans old = record {
  entries = entries ∙ (λ i. kept_entries (a i) (b i) root);
  parents_are = above ∙ (λ i. parents (a i) (attached_directories (a i) (b i) root));
  orphans = orphans ∙ (λ i. orphans_of (a i) (b i) root);
  lost = old ∙ (λ i. old_lost (a i) (b i) root);
}
