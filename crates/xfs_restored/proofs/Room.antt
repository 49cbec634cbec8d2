-- Files by number, with lost+found where it is new, leave room for the other inodes of a new cluster.
use Rattle.std.proofs.Common.{◌≡◌, inl, inr, ℕ, Bool, true, false, ◌+◌, ◌*◌, ◌≤◌, ◌==◌, nat_lt, if◌then◌else◌, List, [], ◌∷◌, length, map, refl, sym, ap, subst, arith}
use Rattle.std.specs.List.{AllByRecursion}
use Rattle.std.proofs.lemmas.Bool.{ltb-false, ltb-true, ne_eqb}
use Rattle.xfs_geom.specs.declared.geometry.Geometry.{Geometry}
use Rattle.xfs_dirdata.specs.declared.records.EntryRec.{EntryRec}
use Rattle.xfs_volume.specs.declared.files.FileRec.{FileRec}
use Rattle.xfs_links.specs.Together.{adds_lost}
use Rattle.xfs_links.specs.declared.records.NodeRec.{NodeRec}
use Rattle.xfs_naming.specs.Naming.{NumbersAscend}
use Rattle.xfs_names.specs.Wanted.{directory_node, wanted_entries, wanted_nodes, with_directory, with_links}
use Rattle.xfs_names.specs.declared.records.WantedNames.{WantedNames}
use Rattle.xfs_rename.specs.xfs_rebuild.declared.names_due.NamesDue.{NamesDue}
use Rattle.xfs_rename.specs.Lost.{lost_due}
use Rattle.xfs_rename.specs.xfs_changes.Nodes.{nodes_of_files}
use Rattle.xfs_rename.specs.Settled.{AreWanted}
use Rattle.xfs_rename.specs.xfs_changes.declared.lost_found.Lost.{Lost}
use Rattle.xfs_restored.specs.Changes.{LeavesRoom, LinksAscend, inodes_taken}

module _ (l : Lost) (linked : NodeRec → ℕ) where
  abbrev pairs : List NodeRec → List (ℕ × ℕ)
  pairs nodes = map (λ (f : NodeRec). (f.ino, linked f)) nodes

  abbrev Clear : NodeRec → Type 0
  Clear f = LeavesRoom l f.ino

  one_inode : (ino : ℕ) → LeavesRoom l ino → inodes_taken l ino ≡ 1
  one_inode ino clear = ap (λ (t : Bool). if t then 1 + 31 * length l.added else 1) (ne_eqb l.new ino (other clear))
    where
      some : (t : Bool) → 1 ≤ (if t then 1 + 31 * length l.added else 1)
      some true = omega arith
      some false = omega arith

      other : LeavesRoom l ino → l.new ≡ ino → ⊥
      other (inl below) same = omega (arith, below, same)
      other (inr above) same = let taken = some (l.new == l.new) in omega (arith, above, same, taken)

  nodes_ascend : (nodes : List NodeRec) (low : ℕ) → NumbersAscend low (map (λ (f : NodeRec). f.ino) nodes) → AllByRecursion Clear nodes → LinksAscend l low (pairs nodes)
  nodes_ascend [] low ascend clear = tt
  nodes_ascend (f ∷ fs) low ascend clear =
      let one = one_inode f.ino clear.0 in
      (ascend.0, subst (λ (k : ℕ). LinksAscend l k (pairs fs)) (omega (arith, one)) (nodes_ascend fs (f.ino + 1) ascend.1 clear.1))

  above : (t : ℕ) → LeavesRoom l t → l.new ≤ t → l.new + inodes_taken l l.new ≤ t
  above t (inl below) high = absurd (omega (arith, below, high))
  above t (inr far) high = far

  with_ascend : (nodes : List NodeRec) (low : ℕ) → low ≤ l.new → NumbersAscend low (map (λ (f : NodeRec). f.ino) nodes) → AllByRecursion Clear nodes → LinksAscend l low (pairs (with_directory l.new nodes))
  with_ascend [] low least ascend clear = (least, tt)
  with_ascend (f ∷ fs) low least ascend clear = by_test (nat_lt f.ino l.new) refl (λ under. with_ascend fs (f.ino + 1) under ascend.1 clear.1)
    where
      by_test : (t : Bool) → nat_lt f.ino l.new ≡ t → (f.ino + 1 ≤ l.new → LinksAscend l (f.ino + 1) (pairs (with_directory l.new fs)))
          → LinksAscend l low (pairs (if t then f ∷ with_directory l.new fs else directory_node l.new ∷ f ∷ fs))
      by_test true is next =
          let below = ltb-true f.ino l.new is in
          let one = one_inode f.ino clear.0 in
          (ascend.0, subst (λ (k : ℕ). LinksAscend l k (pairs (with_directory l.new fs))) (omega (arith, one)) (next (omega (arith, below))))
      by_test false is next =
          let far = above f.ino clear.0 (ltb-false f.ino l.new is) in
          (least, nodes_ascend (f ∷ fs) (l.new + inodes_taken l l.new) (far, ascend.1) clear)

  wanted_ascend : (t : Bool) (nodes : List NodeRec) → NumbersAscend 0 (map (λ (f : NodeRec). f.ino) nodes) → AllByRecursion Clear nodes
      → LinksAscend l 0 (pairs (if t then with_directory l.new nodes else nodes))
  wanted_ascend true nodes ascend clear = with_ascend nodes 0 (omega arith) ascend clear
  wanted_ascend false nodes ascend clear = nodes_ascend nodes 0 ascend clear

files_ascend : (files : List FileRec) (low : ℕ) → NumbersAscend low (map (λ (f : FileRec). f.ino) files) → NumbersAscend low (map (λ (f : NodeRec). f.ino) (nodes_of_files files))
files_ascend [] low ascend = tt
files_ascend (f ∷ fs) low ascend = (ascend.0, files_ascend fs (f.ino + 1) ascend.1)

files_clear : (l : Lost) (files : List FileRec) → AllByRecursion (λ (f : FileRec). LeavesRoom l f.ino) files → AllByRecursion (λ (f : NodeRec). LeavesRoom l f.ino) (nodes_of_files files)
files_clear l [] clear = tt
files_clear l (f ∷ fs) clear = (clear.0, files_clear l fs clear.1)

pub links_ascend : (g : Geometry) (n : NamesDue) (w : WantedNames) → AreWanted g n (lost_due g n) w → NumbersAscend 0 (map (λ (f : FileRec). f.ino) n.files)
    → AllByRecursion (λ (f : FileRec). LeavesRoom (lost_due g n) f.ino) n.files → LinksAscend (lost_due g n) 0 w.links
links_ascend g n w is ascend clear =
    let l : Lost = lost_due g n in
    let nodes : List NodeRec = nodes_of_files n.files in
    let all : List NodeRec = wanted_nodes nodes n.entries g.rootino l.new in
    let entries : List EntryRec = wanted_entries nodes n.entries g.rootino l.new in
    subst (LinksAscend l 0) (sym is.links')
    (wanted_ascend l (λ (f : NodeRec). (with_links all entries g.rootino f).1) (adds_lost nodes n.entries g.rootino) nodes (files_ascend n.files 0 ascend) (files_clear l n.files clear))
