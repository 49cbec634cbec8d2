-- The numbers of links that are wanted are low where entries are few.
use Rattle.std.proofs.Common.{ℕ, Bool, true, false, cond, ◌+◌, ◌^◌, ◌≤◌, ◌<◌, ◌==◌, if◌then◌else◌, List, [], ◌∷◌, length, map, filter, sym, subst, arith}
use Rattle.std.specs.List.{All}
use Rattle.std.proofs.lemmas.List.Elements.{All-cons, All-nil}
use Rattle.xfs_dirdata.specs.declared.records.EntryRec.{EntryRec}
use Rattle.xfs_geom.specs.declared.geometry.Geometry.{Geometry}
use Rattle.xfs_links.specs.Entries.{is_directory_number, is_reserved_inode}
use Rattle.xfs_links.specs.declared.records.NodeRec.{NodeRec}
use Rattle.xfs_naming.specs.Naming.{entries_in, entries_to}
use Rattle.xfs_names.specs.Built.{CanBeBuilt}
use Rattle.xfs_names.specs.Wanted.{link_count, wanted_entries, wanted_nodes, with_links}
use Rattle.xfs_names.specs.declared.records.WantedNames.{WantedNames}
use Rattle.xfs_mend.specs.xfs_rebuild.declared.names_due.NamesDue.{NamesDue}
use Rattle.xfs_changes.specs.Nodes.{nodes_of_files}
use Rattle.xfs_mend.specs.xfs_rename.Settled.{AreWanted}
use Rattle.xfs_changes.specs.declared.lost_found.Lost.{Lost}

few_of : (test : EntryRec → Bool) (xs : List EntryRec) → length (filter test xs) ≤ length xs
few_of test [] = omega arith
few_of test (x ∷ xs) = by_case (test x) (few_of test xs)
  where
    by_case : (t : Bool) → length (filter test xs) ≤ length xs → length (cond t (x ∷ filter test xs) (filter test xs)) ≤ length (x ∷ xs)
    by_case true rest = omega (arith, rest)
    by_case false rest = omega (arith, rest)

module _ (nodes : List NodeRec) (entries : List EntryRec) (root : ℕ) (few : length entries ≤ 2 ^ 24) where
  link_low : (m : NodeRec) → link_count nodes entries root m < 2 ^ 32
  link_low m = by_kind (m.kind == 4)
    where
      by_reserved : (t : Bool) → (if t then 1 else length (entries_to entries m.ino)) < 2 ^ 32
      by_reserved true = omega arith
      by_reserved false = let one = few_of (λ (e : EntryRec). e.ino == m.ino) entries in omega (arith, one, few)

      by_kind : (t : Bool) → (if t then 2 + length (filter (λ (e : EntryRec). is_directory_number nodes e.ino) (entries_in entries m.ino))
          else (if is_reserved_inode root m.ino then 1 else length (entries_to entries m.ino))) < 2 ^ 32
      by_kind true =
          let own = few_of (λ (e : EntryRec). e.dir == m.ino) entries in
          let all = few_of (λ (e : EntryRec). is_directory_number nodes e.ino) (entries_in entries m.ino) in
          omega (arith, own, all, few)
      by_kind false = by_reserved (is_reserved_inode root m.ino)

  all_low : (ms : List NodeRec) → All (λ (p : ℕ × ℕ). p.1 < 2 ^ 32) (map (with_links nodes entries root) ms)
  all_low [] = All-nil (λ (p : ℕ × ℕ). p.1 < 2 ^ 32)
  all_low (m ∷ ms) = All-cons (λ (p : ℕ × ℕ). p.1 < 2 ^ 32) (with_links nodes entries root m) (map (with_links nodes entries root) ms) (link_low m) (all_low ms)

pub links_low : (g : Geometry) (n : NamesDue) (l : Lost) (w : WantedNames) → AreWanted g n l w → CanBeBuilt w → All (λ (p : ℕ × ℕ). p.1 < 2 ^ 32) w.links
links_low g n l w is can =
    let nodes : List NodeRec = nodes_of_files n.files in
    subst (All (λ (p : ℕ × ℕ). p.1 < 2 ^ 32)) (sym is.links')
    (all_low (wanted_nodes nodes n.entries g.rootino l.new) (wanted_entries nodes n.entries g.rootino l.new) g.rootino
    (subst (λ (es : List EntryRec). length es ≤ 2 ^ 24) is.entries' can.few) (wanted_nodes nodes n.entries g.rootino l.new))
