-- The groups and the files of a new volume break no law of space, of counters or of lists.
use Rattle.std.proofs.Common.{◌≡◌, ℕ, List, [], ◌++◌, length, map, arith}
use Rattle.std.specs.List.{AllByRecursion, flat_map}
use Rattle.std.proofs.lemmas.List.Elements.{recursion_from_All}
use Rattle.std.proofs.lemmas.List.FromFn.{length-map-range_with_len}
use Rattle.std.proofs.lemmas.List.Sums.{sum_by-append}
use Rattle.xfs_disk.specs.Blocks.{Image}
use Rattle.xfs_disk.specs.declared.stamp.Stamp.{Stamp}
use Rattle.xfs_geom.specs.Volumes.{Volume, volume_of}
use Rattle.xfs_geom.specs.declared.geometry.Geometry.{Geometry}
use Rattle.xfs_geom.specs.declared.records.Run.{Run}
use Rattle.xfs_laws.specs.Counting.{by_group, counter_laws, group_chains, list_laws}
use Rattle.xfs_place.specs.Wanted.{kept_runs}
use Rattle.xfs_place.specs.declared.placed.Placed.{Placed}
use Rattle.xfs_place.specs.declared.wanted.GroupInodes.{GroupInodes}
use Rattle.xfs_place.specs.declared.wanted.Wanted.{Wanted}
use Rattle.xfs_proto.specs.declared.protofile.ProtoNode.{ProtoNode}
use Rattle.xfs_render.specs.declared.plan.Plan.{Plan}
use Rattle.xfs_space.specs.Owners.{file_runs}
use Rattle.xfs_space.specs.SpaceLaws.{space_laws}
use Rattle.xfs_made.specs.Keeping.{KeepsJust, all_clusters, all_used}
use Rattle.xfs_made.proofs.Entries.{chains_kept, lists_kept}
use Rattle.xfs_made.proofs.Spaces.{space_lawful}
use Rattle.xfs_made.proofs.Totals.{counters_kept}
use Rattle.xfs_made.proofs.Kept.{space_kept}
use Rattle.xfs_volume.specs.Laws.{AreKept}
use Rattle.xfs_volume.specs.declared.files.FileRec.{FileRec}
use Rattle.xfs_filled.specs.Chunks.{inodes_filled, chunk_at, chunk_starts, inodes_of_group}
use Rattle.xfs_filled.specs.FileTrees.{object_order}
use Rattle.xfs_filled.specs.Numbers.{number_of}
use Rattle.xfs_filled.specs.Wanting.{filled_wanted}
use Rattle.xfs_filled.proofs.Asking.{order_inside}
use Rattle.xfs_filled.proofs.Starting.{are_chunks}
use Rattle.xfs_populated.specs.Populated.{IsPopulated, filled_files, filled_groups}
use Rattle.xfs_populated.proofs.ChunkRuns.{clusters_alike}
use Rattle.xfs_populated.proofs.FileRuns.{files_seen}
use Rattle.xfs_populated.proofs.OwnedSums.{IsOwnedBy, runs_owned}
use Rattle.xfs_populated.proofs.RunsSeen.{AreAlike, alike_held, alike_on, seen}
use Rattle.xfs_populated.proofs.SlotsHeld.{populated_runs}
use Rattle.xfs_populated.proofs.SlotsRead.{populated_at}

module _ (g : Geometry) (sector : List ℕ) (s : Stamp) (ns : List ProtoNode) (contents : List (List ℕ)) (plan : Plan) (blocks : ℕ) (image : Image)
    (is : IsPopulated g sector s ns contents plan blocks image) where
  abbrev v : Volume
  v = volume_of g

  abbrev w : Wanted
  w = filled_wanted g ns contents

  abbrev p : Placed
  p = is.filled.placed

  abbrev starts : List ℕ
  starts = chunk_starts g (length ns)

  abbrev inodes : List GroupInodes
  inodes = inodes_filled g (length ns) starts

  abbrev keeps : List Run
  keeps = kept_runs w ++ p.runs

  owned : AllByRecursion (IsOwnedBy (number_of v starts) (length ns)) p.runs
  owned =
      recursion_from_All (IsOwnedBy (number_of v starts) (length ns)) p.runs
      (runs_owned v starts (length ns) (object_order ns) p.runs (order_inside ns) (populated_runs g sector s ns contents plan blocks image is))

  module _ (crc : ℕ → ℕ) where
    abbrev files : List FileRec
    files = filled_files v s starts ns contents p.runs crc

    used_alike : AreAlike (all_used v inodes files) keeps
    used_alike h b =
        let used = sum_by-append (seen h b) (all_clusters v inodes) (flat_map (file_runs v) files) in
        let clusters = clusters_alike g (length ns) starts (are_chunks g (length ns) is.first) h b in
        let own = files_seen g s starts ns contents p.cuts p.runs crc (populated_at g sector s ns contents plan blocks image is) is.files is.filled.served h b owned in
        let kept = sum_by-append (seen h b) (map chunk_at starts) p.runs in
        omega (arith, used, clusters, own, kept)

    just : KeepsJust v keeps inodes files
    just = record {
      once = λ block.
          let same = alike_on (all_used v inodes files) keeps used_alike block in
          let most = is.filled.stands.apart.apart.once block in
          omega (arith, same, most);
      held = λ block. alike_held (all_used v inodes files) keeps used_alike block (is.filled.stands.apart.apart.once block);
    }

    pub space : (agf agi : ℕ → ℕ) → AreKept (space_laws v (filled_groups g ns p agf agi) (filled_files v s starts ns contents p.runs crc))
    space agf agi =
        space_kept v (filled_groups g ns p agf agi) files
        (space_lawful v g.shape.groups g.shape.log_inside keeps [] inodes p.groups files agf agi is.filled.stands.apart is.filled.stands.groups' just)

  count_inodes : length inodes ≡ g.agcount
  count_inodes = length-map-range_with_len (inodes_of_group v (length ns) starts) 0 g.agcount

  pub counters : (agf agi : ℕ → ℕ) → AreKept (counter_laws v (filled_groups g ns p agf agi) p.counts)
  counters agf agi = counters_kept v keeps [] inodes p.groups agf agi is.filled.stands.groups' p.counts count_inodes is.filled.stands.counts'

  pub lists : (agf agi : ℕ → ℕ) → AreKept (list_laws (filled_groups g ns p agf agi))
  lists agf agi = lists_kept v keeps [] inodes p.groups agf agi is.filled.stands.pool

  pub chains : (agf agi : ℕ → ℕ) → AreKept (by_group group_chains 0 (filled_groups g ns p agf agi))
  chains agf agi = chains_kept v inodes p.groups agf agi
