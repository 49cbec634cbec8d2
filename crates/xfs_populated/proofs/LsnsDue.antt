-- A new volume states no log sequence number, and breaks no law of the log.
use Rattle.std.proofs.Common.{◌≡◌, ℕ, ◌+◌, ◌^◌, List, ◌++◌, length, map, sym, subst}
use Rattle.std.specs.List.{All, flat_map}
use Rattle.std.proofs.lemmas.List.Elements.{All-append, All-cons, All-head, All-tail}
use Rattle.std.proofs.lemmas.List.Sorted.{All-permutation}
use Rattle.xfs_disk.specs.Blocks.{Image}
use Rattle.xfs_disk.specs.declared.stamp.Stamp.{Stamp}
use Rattle.xfs_geom.specs.Volumes.{Volume, volume_of}
use Rattle.xfs_geom.specs.declared.geometry.Geometry.{Geometry}
use Rattle.xfs_log.specs.xfs_heads.declared.log_state.LogState.TheVariants.{Clean}
use Rattle.xfs_image.proofs.Places.{all_moved}
use Rattle.xfs_image.specs.Files.{clusters_of}
use Rattle.xfs_image.specs.Lsns.{LsnPlace, at, cluster_places, file_places, groups_places, lsn_at, lsn_places, lsn_places_in_order, lsns_read}
use Rattle.xfs_laws.specs.Counting.{log_laws}
use Rattle.xfs_place.specs.declared.placed.Placed.{Placed}
use Rattle.xfs_proto.specs.declared.protofile.ProtoNode.{ProtoNode}
use Rattle.xfs_render.specs.declared.plan.Plan.{Plan}
use Rattle.xfs_made.proofs.Lsns.{lsns_stand}
use Rattle.xfs_made.proofs.Catalogs.{no_lsns}
use Rattle.xfs_made.proofs.Kept.{log_kept}
use Rattle.xfs_made.specs.Volumes.{no_lsn}
use Rattle.xfs_volume.specs.Laws.{AreKept}
use Rattle.xfs_volume.specs.declared.files.FileRec.{FileRec}
use Rattle.xfs_volume.specs.declared.groups.GroupRec.{GroupRec}
use Rattle.xfs_filled.specs.Chunks.{chunk_starts}
use Rattle.xfs_filled.specs.Wanting.{filled_bytes, filled_wanted}
use Rattle.xfs_filled.proofs.Starting.{are_chunks}
use Rattle.xfs_populated.specs.Names.{AreDirectoriesBuilt}
use Rattle.xfs_populated.specs.Populated.{IsPopulated, filled_files, filled_groups}
use Rattle.xfs_populated.proofs.LsnFiles.{files_zero}
use Rattle.xfs_populated.proofs.LsnSlots.{clusters_zero}
use Rattle.xfs_populated.proofs.NumberChunks.{clusters_are}
use Rattle.xfs_populated.proofs.SlotStanding.{populated_stands, slots_are_made}
use Rattle.xfs_populated.proofs.SlotsRead.{populated_at}
use Rattle.xfs_populated.proofs.SpaceDue.{chains}

abbrev IsZeroAt : Image → LsnPlace → Type 0
IsZeroAt image place = (lsn_at image place).lsn ≡ 0

module _ (g : Geometry) (sector : List ℕ) (s : Stamp) (ns : List ProtoNode) (contents : List (List ℕ)) (plan : Plan) (blocks : ℕ) (image : Image)
    (is : IsPopulated g sector s ns contents plan blocks image) (agf agi : ℕ → ℕ) where
  abbrev v : Volume
  v = volume_of g

  abbrev starts : List ℕ
  starts = chunk_starts g (length ns)

  abbrev p : Placed
  p = is.filled.placed

  abbrev groups : List GroupRec
  groups = filled_groups g ns p agf agi

  -- with these heads, no places are read as stating something
  pub log_keeps : (places : List LsnPlace) → AreKept (log_laws (filled_groups g ns is.filled.placed agf agi) (Clean (2 ^ 32 + 2)) (map no_lsn places))
  log_keeps places = log_kept groups (2 ^ 32 + 2) places (chains g sector s ns contents plan blocks image is agf agi)

  slots_zero : All (IsZeroAt image) (flat_map cluster_places (clusters_of v groups))
  slots_zero =
      subst (λ (ks : List ℕ). All (IsZeroAt image) (flat_map cluster_places ks)) (sym (clusters_are g (length ns) starts (are_chunks g (length ns) is.first) p.groups agf agi))
      (clusters_zero g s starts ns contents p.runs image (slots_are_made g sector s ns contents plan blocks image is) (populated_at g sector s ns contents plan blocks image is).volume)

  module _ (crc : ℕ → ℕ) (built : AreDirectoriesBuilt (volume_of g) (chunk_starts g (length ns)) ns) where
    abbrev files : List FileRec
    files = filled_files v s starts ns contents p.runs crc

    pub places_zero : All (λ (place : LsnPlace). (lsn_at image place).lsn ≡ 0)
        (lsn_places (volume_of g) (filled_groups g ns is.filled.placed agf agi) (filled_files (volume_of g) s (chunk_starts g (length ns)) ns contents is.filled.placed.runs crc))
    places_zero =
        let heads = lsns_stand (filled_wanted g ns contents) p (filled_bytes g sector s ns contents p.runs) is.filled.rendered.super image agf agi (populated_stands g sector s ns contents plan blocks image is) in
        let trees = groups_places v 0 groups in
        let clusters = flat_map cluster_places (clusters_of v groups) in
        let own = flat_map (file_places v) files in
        All-cons (IsZeroAt image) (at 240 0) (trees ++ clusters ++ own) (All-head (IsZeroAt image) (at 240 0) trees heads)
        (All-append (IsZeroAt image) (trees ++ clusters) own
        (All-append (IsZeroAt image) trees clusters (All-tail (IsZeroAt image) (at 240 0) trees heads) slots_zero)
        (files_zero g sector s ns contents plan blocks image crc is built))

    pub lsns_are : lsns_read (volume_of g) image (filled_groups g ns is.filled.placed agf agi) (filled_files (volume_of g) s (chunk_starts g (length ns)) ns contents is.filled.placed.runs crc)
        ≡ map no_lsn
        (lsn_places_in_order
        (lsn_places (volume_of g) (filled_groups g ns is.filled.placed agf agi) (filled_files (volume_of g) s (chunk_starts g (length ns)) ns contents is.filled.placed.runs crc)))
    unfolding lsns_read
    lsns_are =
        no_lsns image (lsn_places_in_order (lsn_places v groups files))
        (All-permutation (IsZeroAt image) (lsn_places v groups files) (lsn_places_in_order (lsn_places v groups files)) (all_moved (lsn_places v groups files)) places_zero)
