-- The extents of files lie in the volume.
use Rattle.std.proofs.Common.{inl, inr, List, [], ◌∷◌, ◌++◌, map, refl, sym, subst, arith}
use Rattle.std.specs.List.{All, flat_map}
use Rattle.std.proofs.lemmas.List.Elements.{All-cons, All-nil, recursion_from_All}
use Rattle.xfs_word.specs.declared.extents.Extent.{Extent}
use Rattle.xfs_disk.specs.Blocks.{Image}
use Rattle.xfs_disk.specs.declared.stamp.Stamp.{Stamp}
use Rattle.xfs_geom.specs.Volumes.{Volume, volume_of}
use Rattle.xfs_geom.specs.declared.geometry.Geometry.{Geometry}
use Rattle.xfs_geom.specs.declared.records.Run.{Run}
use Rattle.xfs_place.specs.Pool.{IsRunOf}
use Rattle.xfs_views.proofs.Members.{Member, member_all, member_flat, member_left, member_map, member_right}
use Rattle.xfs_salvage.specs.Kept.{run_of_cluster}
use Rattle.xfs_scan.specs.declared.evidence.Evidence.{Evidence}
use Rattle.xfs_space.specs.Owners.{attribute_flag, extent_run, file_runs, runs_of_blocks, tree_flag}
use Rattle.xfs_volume.specs.declared.files.FileRec.{FileRec}
use Rattle.xfs_mend.proofs.xfs_rebuild.Known.{all_due, known_taken}
use Rattle.xfs_mend.specs.xfs_rebuild.Rebuilds.{Ground, slots_asked}
use Rattle.xfs_mend.specs.xfs_rebuild.declared.names_due.NamesDue.{NamesDue}
use Rattle.xfs_settled.specs.Gathered.{IsGathered, LiesInside}
use Rattle.xfs_settled.proofs.Found.{names_due}
use Rattle.xfs_settled.proofs.Numbers.{taken_is}

all_of : {X : Type 0} (P : X → Type 0) (xs : List X) → ((x : X) → Member x xs → P x) → All P xs
all_of P [] each = All-nil P
all_of P (x ∷ xs) each = All-cons P x xs (each x (inl refl)) (all_of P xs (λ y is. each y (inr is)))

module _ (g : Geometry) (s : Stamp) (image : Image) (e : Evidence) (on : Ground) (n : NamesDue) (has : IsGathered g s image e on n) where
  abbrev v : Volume
  v = volume_of g

  abbrev AllInside : FileRec → Type 0
  AllInside f = All (LiesInside g) f.extents

  run_there : (f : FileRec) (x : Extent) → Member f on.kept.files → Member x f.extents → Member (extent_run v f.ino 0 x) n.wanted.taken
  run_there f x is there =
      subst (λ (runs : List Run). Member (extent_run v f.ino 0 x) runs) (sym (taken_is g s image e on n has))
      (member_right (extent_run v f.ino 0 x) (map run_of_cluster on.kept.clusters) (flat_map (file_runs v) on.kept.files)
      (member_flat (file_runs v) f (extent_run v f.ino 0 x) on.kept.files is
      (member_left (extent_run v f.ino 0 x) (map (extent_run v f.ino 0) f.extents ++ map (extent_run v f.ino attribute_flag) f.rest.attr_extents) (runs_of_blocks f.ino tree_flag f.rest.tree)
      (member_left (extent_run v f.ino 0 x) (map (extent_run v f.ino 0) f.extents) (map (extent_run v f.ino attribute_flag) f.rest.attr_extents)
      (member_map (extent_run v f.ino 0) x f.extents there)))))

  extent_inside : (f : FileRec) (x : Extent) → Member f on.kept.files → Member x f.extents → LiesInside g x
  extent_inside f x is there =
      let run = member_all (IsRunOf g.dblocks) (extent_run v f.ino 0 x) n.wanted.taken
      (recursion_from_All (IsRunOf g.dblocks) n.wanted.taken (known_taken g s n (names_due g s image e on n has))) (run_there f x is there) in
      let some = run.0 in
      let end = run.1 in
      record { start = omega (arith, some, end); end = end }

  pub extents_inside : All AllInside n.files
  extents_inside =
      subst (All AllInside) (sym has.due.files')
      (all_due AllInside g.rootino on.kept (slots_asked g s on) (λ ino core. All-nil (LiesInside g)) (λ f nlink is. is)
      (all_of AllInside on.kept.files (λ f is. all_of (LiesInside g) f.extents (λ x there. extent_inside f x is there))))
