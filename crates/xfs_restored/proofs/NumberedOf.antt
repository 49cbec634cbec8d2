-- The numbers of links are those of files, as it is asked where space is judged.
use Rattle.std.proofs.Common.{◌≡◌, inl, inr, ℕ, true, ◌+◌, ◌==◌, List, [], ◌∷◌, map, refl, sym, subst}
use Rattle.std.specs.List.{Contains}
use Rattle.std.proofs.lemmas.Bool.{eq-eqb}
use Rattle.xfs_disk.specs.Blocks.{Image}
use Rattle.xfs_disk.specs.Lists.{is_among}
use Rattle.xfs_disk.specs.declared.stamp.Stamp.{Stamp}
use Rattle.xfs_geom.specs.declared.geometry.Geometry.{Geometry}
use Rattle.xfs_links.specs.declared.records.NodeRec.{NodeRec}
use Rattle.xfs_naming.specs.Naming.{NumbersAscend, numbers_of}
use Rattle.xfs_names.specs.Wanted.{wanted_entries, wanted_nodes, with_links}
use Rattle.xfs_views.proofs.Members.{Member, contained, contains, map_member, member_any, member_map}
use Rattle.xfs_rename.specs.xfs_scan.declared.evidence.Evidence.{Evidence}
use Rattle.xfs_volume.specs.declared.files.FileRec.{FileRec}
use Rattle.xfs_rename.specs.xfs_rebuild.declared.names_due.NamesDue.{NamesDue}
use Rattle.xfs_rename.specs.Lost.{lost_due}
use Rattle.xfs_rename.specs.xfs_changes.Nodes.{nodes_of_files}
use Rattle.xfs_rename.specs.Renames.{old_files}
use Rattle.xfs_rename.specs.declared.planning.Renamed.{Renamed}
use Rattle.xfs_restored.specs.Numbered.{AreNumbered, IsNumberOf, numbers_linked}
use Rattle.xfs_restored.specs.Relinking.{IsRelinked}
use Rattle.xfs_restored.proofs.FileLists.{PairsRise, links_rise}
use Rattle.xfs_restored.proofs.WantedBuilt.{old_are, rebuilt_node}
use Rattle.xfs_restored.proofs.WantedNumbers as Numbers

firsts_up : (low : ℕ) (ps : List (ℕ × ℕ)) → PairsRise low ps → NumbersAscend low (map (λ (p : ℕ × ℕ). p.0) ps)
firsts_up low [] up = tt
firsts_up low (p ∷ ps) up = (up.0, firsts_up (p.0 + 1) ps up.1)

module _ (g : Geometry) (sector : List ℕ) (s : Stamp) (image now : Image) (e : Evidence) (n : NamesDue) (r : Renamed) (has : IsRelinked g sector s image now e n r) where
  abbrev nodes : List NodeRec
  nodes = nodes_of_files n.files

  abbrev linked : ℕ → Type 0
  linked ino = Contains (numbers_linked has.is.w) ino

  pair_linked : (ino k : ℕ) → Member (ino, k) has.is.w.links → linked ino
  pair_linked ino k is = contains ino (numbers_linked has.is.w) (member_map (λ (p : ℕ × ℕ). p.0) (ino, k) has.is.w.links is)

  of_pair : (p : ℕ × ℕ) → Member p has.is.w.links → IsNumberOf has.on.kept (lost_due g n) p.0
  of_pair p is = elim (Numbers.pair_cases g sector s image now e n r has p is) [
    | inl kept ↦ inl (contains p.0 (numbers_of has.on.kept.files) (subst (λ (m : ℕ). Member m (numbers_of has.on.kept.files)) kept.2 (member_map (λ (f : FileRec). f.ino) kept.0 has.on.kept.files kept.1)))
    | inr other ↦ elim other [
      | inl fresh ↦ inr (inl (contains p.0 has.on.kept.fresh fresh))
      | inr lost ↦ inr (inr lost)
    ]
  ]

  of_number : (ino : ℕ) → linked ino → IsNumberOf has.on.kept (lost_due g n) ino
  of_number ino is =
      let pair = map_member (λ (p : ℕ × ℕ). p.0) ino has.is.w.links (contained ino (numbers_linked has.is.w) is) in
      subst (IsNumberOf has.on.kept (lost_due g n)) pair.2 (of_pair pair.0 pair.1)

  number_linked : (ino : ℕ) → IsNumberOf has.on.kept (lost_due g n) ino → linked ino
  number_linked ino (inl kept) =
      let file = map_member (λ (f : FileRec). f.ino) ino has.on.kept.files (contained ino (numbers_of has.on.kept.files) kept) in
      let pair = Numbers.kept_linked g sector s image now e n r has file.0 file.1 in
      subst linked file.2 (pair_linked file.0.ino pair.0 pair.1)
  number_linked ino (inr (inl fresh)) =
      let pair = Numbers.fresh_linked g sector s image now e n r has ino (contained ino has.on.kept.fresh fresh) in
      pair_linked ino pair.0 pair.1
  number_linked ino (inr (inr lost)) =
      let pair = Numbers.lost_linked g sector s image now e n r has lost.0 in
      subst linked (sym lost.1) (pair_linked (lost_due g n).new pair.0 pair.1)

  -- a directory that is built anew has links
  rebuilt_linked : (ino : ℕ) → Contains has.is.w.rebuilt ino → linked ino
  rebuilt_linked ino is =
      let among : is_among has.is.w.rebuilt ino ≡ true = member_any (λ m. m == ino) ino has.is.w.rebuilt (contained ino has.is.w.rebuilt is) (eq-eqb ino ino refl) in
      let node = rebuilt_node g sector s image now e n r has ino among in
      let wanted = with_links (wanted_nodes nodes n.entries g.rootino (lost_due g n).new) (wanted_entries nodes n.entries g.rootino (lost_due g n).new) g.rootino in
      let pair = wanted node.0 in
      let there : Member pair has.is.w.links =
      subst (λ (ps : List (ℕ × ℕ)). Member pair ps) (sym has.is.names.wanted.links')
      (member_map wanted node.0 (wanted_nodes nodes n.entries g.rootino (lost_due g n).new) node.1) in
      subst linked node.2 (pair_linked node.0.ino pair.1 there)

  pub numbered : AreNumbered g.rootino has.on.kept (lost_due g n) has.is.w (old_files n has.is.w)
  numbered = record {
    up = firsts_up 0 has.is.w.links (links_rise (lost_due g n) 0 has.is.w.links (Numbers.links_rise g sector s image now e n r has));
    kept_up = Numbers.kept_ascend g sector s image now e n r has;
    all = of_number;
    each = number_linked;
    built = rebuilt_linked;
    old' = old_are g sector s image now e n r has;
  }
