-- Files with the links and the data that are due, and lists of these item by item.
use Rattle.std.proofs.Common.{◌≡◌, ℕ, true, List, [], ◌∷◌, map, inl, inr, Option, Some, None, refl, ap, ap₂}
use Rattle.std.specs.List.{All}
use Rattle.std.proofs.lemmas.List.Elements.{All-nil, All-cons}
use Rattle.xfs_disk.specs.declared.stamp.Stamp.{Stamp}
use Rattle.xfs_geom.specs.Volumes.{Volume}
use Rattle.xfs_volume.specs.Names.{type_of}
use Rattle.xfs_volume.specs.declared.directories.DirRec.{DirRec}
use Rattle.xfs_volume.specs.declared.files.FileRec.{FileRec}
use Rattle.xfs_links.specs.declared.records.NodeRec.{NodeRec}
use Rattle.xfs_names.specs.Having.{node_of}
use Rattle.xfs_views.proofs.Members.{Member}
use Rattle.xfs_rename.specs.xfs_request.declared.seen.SlotSeen.{SlotSeen}
use Rattle.xfs_rename.specs.xfs_changes.declared.lost_found.Lost.{Lost}
use Rattle.xfs_naming.specs.Naming.{file_at}
use Rattle.xfs_rename.specs.xfs_built.Directories.{BuiltRuns}
use Rattle.xfs_restored.specs.Relinking.{file_with_links, whole_with, with_built}
use Rattle.xfs_restored.proofs.WantedLists.{at_has}

-- a file that is built keeps its number, its kind and its links
module _ (v : Volume) (old : List FileRec) (crc : ℕ → ℕ) (f : FileRec) where
  pub built_number : (o : Option BuiltRuns) → (with_built v old crc f o).ino ≡ f.ino
  built_number None = refl
  built_number (Some d) = refl

  pub built_kind : (o : Option BuiltRuns) → type_of (with_built v old crc f o) ≡ type_of f
  built_kind None = refl
  built_kind (Some d) = refl

  pub built_links : (o : Option BuiltRuns) → (with_built v old crc f o).core.nlink ≡ f.core.nlink
  built_links None = refl
  built_links (Some d) = refl

module _ (v : Volume) (s : Stamp) (l : Lost) (seen : List SlotSeen) (crc : ℕ → ℕ) (p : ℕ × ℕ) (files : List FileRec) where
  pub linked_number : (o : Option FileRec) → file_at files p.0 ≡ o → (file_with_links v s l seen crc p o).ino ≡ p.0
  linked_number None is = refl
  linked_number (Some f) is = (at_has files p.0 f is).1

  pub linked_links : (o : Option FileRec) → (file_with_links v s l seen crc p o).core.nlink ≡ p.1
  linked_links None = refl
  linked_links (Some f) = refl

pub node_same : (a : FileRec) (m : NodeRec) → a.ino ≡ m.ino → type_of a ≡ m.kind → node_of a ≡ m
node_same a m number kind = λ i. record { ino = number i; kind = kind i }

-- lists item by item
pub nodes_are : (due : ℕ × ℕ → FileRec) (of : NodeRec → ℕ × ℕ) (ms : List NodeRec) → ((m : NodeRec) → Member m ms → node_of (due (of m)) ≡ m) → map node_of (map due (map of ms)) ≡ ms
nodes_are due of [] each = refl
nodes_are due of (m ∷ ms) each = ap₂ (λ (x : NodeRec) (xs : List NodeRec). x ∷ xs) (each m (inl refl)) (nodes_are due of ms (λ x is. each x (inr is)))

pub links_are : (due : ℕ × ℕ → FileRec) (ps : List (ℕ × ℕ)) → ((p : ℕ × ℕ) → (due p).ino ≡ p.0) → ((p : ℕ × ℕ) → (due p).core.nlink ≡ p.1)
    → map (λ (f : FileRec). (f.ino, f.core.nlink)) (map due ps) ≡ ps
links_are due [] numbers links = refl
links_are due (p ∷ ps) numbers links =
    ap₂ (λ (x : ℕ × ℕ) (xs : List (ℕ × ℕ)). x ∷ xs) (λ i. (numbers p i, links p i)) (links_are due ps numbers links)

pub pairs_are : (ps : List (ℕ × ℕ)) → map (λ (d : DirRec). (d.ino, d.parent)) (map whole_with ps) ≡ ps
pairs_are [] = refl
pairs_are (p ∷ ps) = ap (λ (xs : List (ℕ × ℕ)). p ∷ xs) (pairs_are ps)

pub all_whole : (ps : List (ℕ × ℕ)) → All (λ (d : DirRec). d.whole ≡ true) (map whole_with ps)
all_whole [] = All-nil (λ (d : DirRec). d.whole ≡ true)
all_whole (p ∷ ps) = All-cons (λ (d : DirRec). d.whole ≡ true) (whole_with p) (map whole_with ps) refl (all_whole ps)
