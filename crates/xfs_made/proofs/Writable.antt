-- A request can be rendered.
use Rattle.std.proofs.Common.{◌≡◌, ℕ, ◌<◌, true, List, [], length, get_or, None, IsTrue, arith, refl, sym, subst, ap, ◌∙◌}
use Rattle.std.specs.List.{All}
use Rattle.std.proofs.lemmas.List.FromFn.{get_or-map-range_with_len, length-map-range_with_len}
use Rattle.xfs_disk.specs.Lists.{is_among}
use Rattle.xfs_geom.specs.Volumes.{Volume, volume_of}
use Rattle.xfs_geom.specs.declared.geometry.Geometry.{Geometry}
use Rattle.xfs_geom.specs.declared.records.InoRec.{InoRec}
use Rattle.xfs_geom.specs.declared.records.Run.{Run}
use Rattle.xfs_kinds.specs.InodeTrees.{ino_shape}
use Rattle.xfs_volume.specs.declared.clusters.ClusterRec.{ClusterRec}
use Rattle.xfs_volume.specs.declared.files.FileRec.{FileRec}
use Rattle.xfs_place.specs.Pool.{is_taken}
use Rattle.xfs_place.specs.Wanted.{CanBeKept, inodes_in_group, kept_runs}
use Rattle.xfs_place.specs.declared.wanted.GroupInodes.{GroupInodes}
use Rattle.xfs_made.specs.xfs_render.Readiness.{HasOwner, IsWritable}
use Rattle.xfs_tree.specs.Rules.{are_lawful}
use Rattle.xfs_request.specs.xfs_salvage.Claimable.{CanBeSalvaged}
use Rattle.xfs_request.specs.xfs_salvage.declared.found.Salvaged.{Salvaged}
use Rattle.xfs_made.proofs.KeptTaken.{are_kept}
use Rattle.xfs_request.specs.Chunks.{group_asked, inodes_wanted, kept_chunks}
use Rattle.xfs_request.specs.Requests.{volume_wanted}
use Rattle.xfs_made.specs.Handed.{IsKeptOf}
use Rattle.xfs_made.proofs.Lawful.{chunks_lawful}
use Rattle.xfs_made.proofs.Taken.{cluster_clear, root_taken, taken_is, taken_owned}

abbrev no_group : GroupInodes
no_group = record { records = [] }

-- the chunks that are asked for a group
pub inodes_are : (g : Geometry) (kept : Salvaged) (reserved : List ℕ) (ag : ℕ) → ag < g.agcount
    → inodes_in_group (volume_wanted g kept reserved).inodes ag ≡ kept_chunks (volume_of g) kept ag
unfolding volume_wanted inodes_wanted
inodes_are g kept reserved ag low =
    ap (λ (r : GroupInodes). r.records) (get_or-map-range_with_len (group_asked (volume_of g) kept) 0 g.agcount ag ag no_group low (omega arith))

count_inodes : (g : Geometry) (kept : Salvaged) (reserved : List ℕ) → length (volume_wanted g kept reserved).inodes ≡ g.agcount
unfolding volume_wanted inodes_wanted
count_inodes g kept reserved = length-map-range_with_len (group_asked (volume_of g) kept) 0 g.agcount

pub can_be_kept : (g : Geometry) (clusters : List ClusterRec) (files : List FileRec) (kept : Salvaged) (reserved : List ℕ) → CanBeSalvaged (volume_of g) clusters files
    → IsKeptOf (volume_of g) clusters files kept → CanBeKept (volume_of g) (kept_runs (volume_wanted g kept reserved))
can_be_kept g clusters files kept reserved can is =
    subst (CanBeKept (volume_of g)) (sym (taken_is g clusters files kept reserved is)) (are_kept g clusters files can)

pub writable : (g : Geometry) (clusters : List ClusterRec) (files : List FileRec) (kept : Salvaged) (reserved : List ℕ) → CanBeSalvaged (volume_of g) clusters files
    → IsKeptOf (volume_of g) clusters files kept → IsWritable (volume_wanted g kept reserved)
unfolding volume_wanted
writable g clusters files kept reserved can is =
    let v : Volume = volume_of g in
    let taken = taken_is g clusters files kept reserved is in
    record {
      asks = λ k d low. absurd (omega (arith, low));
      askers = λ k d low. absurd (omega (arith, low));
      inodes = count_inodes g kept reserved;
      chunks = λ ag low.
          subst (λ (rs : List InoRec). IsTrue (are_lawful (ino_shape ag) v None rs)) (sym (inodes_are g kept reserved ag low))
          (chunks_lawful g kept (λ k block among. cluster_clear g clusters files can k block (sym (ap (λ (ks : List ℕ). is_among ks k) is.clusters') ∙ among)) ag low);
      owned = subst (All HasOwner) (sym taken) (taken_owned g clusters files can);
      root = λ block of. subst (λ (rs : List Run). is_taken rs block ≡ true) (sym taken) (root_taken g clusters files block of);
    }
