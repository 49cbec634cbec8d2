-- An image with the plan of an empty volume says what was made, and it is consistent.
use Rattle.std.proofs.Common.{◌≡◌, ℕ, zero, suc, ◌+◌, ◌^◌, ◌<◌, ◌≤◌, List, [], ◌∷◌, ◌++◌, map, None, Ok, sym, ap, subst, arith}
use Rattle.std.specs.List.{All, flat_map}
use Rattle.std.proofs.lemmas.List.Elements.{All-append, All-cons, All-head, All-nil, All-same, All-tail}
use Rattle.std.proofs.lemmas.List.Sorted.{All-permutation}
use Rattle.xfs_disk.specs.Blocks.{Image, IsImage}
use Rattle.xfs_disk.specs.declared.stamp.Stamp.{Stamp}
use Rattle.xfs_geom.specs.Volumes.{Volume, volume_of}
use Rattle.xfs_geom.specs.declared.geometry.Geometry.{Geometry}
use Rattle.xfs_geom.specs.declared.records.InoRec.{InoRec}
use Rattle.xfs_geom.specs.declared.records.Run.{Run}
use Rattle.xfs_log.specs.xfs_heads.declared.log_state.LogState.TheVariants.{Clean}
use Rattle.xfs_volume.specs.Laws.{AreKept}
use Rattle.xfs_volume.specs.declared.files.FileRec.{FileRec}
use Rattle.xfs_volume.specs.declared.groups.GroupRec.{GroupRec}
use Rattle.xfs_naming.specs.Naming.{naming_laws}
use Rattle.xfs_laws.specs.Counting.{chunk_laws, chunk_number, counter_laws, due_chunk, list_laws, log_laws}
use Rattle.xfs_laws.specs.Lawful.{broken_law, counting_laws, laws_of}
use Rattle.xfs_kinds.specs.InodeTrees.{ino_shape}
use Rattle.xfs_space.specs.SpaceLaws.{space_laws}
use Rattle.xfs_image.proofs.Places.{all_moved}
use Rattle.xfs_image.specs.Consistent.{IsConsistent}
use Rattle.xfs_image.specs.Files.{clusters_of}
use Rattle.xfs_image.specs.Lsns.{LsnPlace, at, cluster_places, file_places, groups_places, lsn_places_in_order, lsn_at, lsn_places, lsns_read}
use Rattle.xfs_image.specs.View.{view}
use Rattle.xfs_place.specs.Standing.{AreOfPool}
use Rattle.xfs_place.specs.Wanted.{CanBeKept as AreKeptRuns, ArePlaced, inodes_in_group, kept_runs}
use Rattle.xfs_place.specs.declared.placed.Placed.{Placed}
use Rattle.xfs_render.specs.Plans.{HoldsPlan}
use Rattle.xfs_render.specs.declared.plan.Plan.{Plan}
use Rattle.xfs_made.proofs.Chunks.{chunks_kept}
use Rattle.xfs_made.proofs.Entries.{chains_kept, lists_kept}
use Rattle.xfs_made.proofs.KeptLaws.{both_kept}
use Rattle.xfs_made.proofs.Totals.{counters_kept}
use Rattle.xfs_made.proofs.Spaces.{space_lawful}
use Rattle.xfs_made.specs.Groups.{due_groups}
use Rattle.xfs_made.proofs.Groups.{groups_stand, log_stands}
use Rattle.xfs_made.proofs.Lsns.{lsns_stand}
use Rattle.xfs_made.proofs.Supers.{backups_agree, counts_stand, primary_stands}
use Rattle.xfs_made.specs.Standing.{IsStanding, agf_crc_at, agi_crc_at}
use Rattle.xfs_empty.proofs.Kept.{count_inodes, none_placed}
use Rattle.xfs_empty.specs.Geometry.{HasFirstChunk}
use Rattle.xfs_empty.specs.Placing.{all_inodes, chunk_run, chunks_of, empty_wanted, first_chunk}
use Rattle.xfs_empty.specs.Planning.{IsEmptyPlan, StandsFor}
use Rattle.xfs_made.proofs.Catalogs.{no_lsns, reads_as}
use Rattle.xfs_made.proofs.FirstClusters.{inodes_are_first, no_chunks, records_are}
use Rattle.xfs_made.proofs.FirstKept.{chunk_due, clusters_kept}
use Rattle.xfs_made.proofs.FirstLsns.{lsns_zero, no_file_places}
use Rattle.xfs_made.proofs.FirstNames.{names_kept}
use Rattle.xfs_made.proofs.FirstReads.{files_are, no_entries, root_whole}
use Rattle.xfs_made.proofs.Kept.{log_kept, none_broken, space_kept}
use Rattle.xfs_made.proofs.Standing.{plan_stands, slots_made}
use Rattle.xfs_made.specs.Files.{HasFirstSlots, first_dirs, first_files, slot_crc}
use Rattle.xfs_made.specs.Volumes.{Checksums, IsMadeVolume, made_catalog, no_lsn}

abbrev IsChunkDue : Volume → List FileRec → ℕ → InoRec → Type 0
IsChunkDue v files ag r = chunk_number (due_chunk v files ag ((ino_shape ag).settled r)) ≡ chunk_number ((ino_shape ag).settled r)

-- the chunks of a group are due: the first group has one, the others none
group_due : (v : Volume) (s : Stamp) (crc : ℕ → ℕ) (ag : ℕ) → All (IsChunkDue v (first_files v s crc) ag) (chunks_of ag)
group_due v s crc zero =
    All-cons (IsChunkDue v (first_files v s crc) 0) first_chunk [] (chunk_due v s crc) (All-nil (IsChunkDue v (first_files v s crc) 0))
group_due v s crc (suc n) =
    All-same (IsChunkDue v (first_files v s crc) (suc n)) (chunks_of (suc n)) [] (no_chunks (suc n) (omega arith))
    (All-nil (IsChunkDue v (first_files v s crc) (suc n)))

chunks_due : (g : Geometry) (s : Stamp) (crc : ℕ → ℕ) (ag : ℕ) → ag < g.agcount
    → All (IsChunkDue (volume_of g) (first_files (volume_of g) s crc) ag) (inodes_in_group (all_inodes g.agcount) ag)
chunks_due g s crc ag low =
    All-same (IsChunkDue (volume_of g) (first_files (volume_of g) s crc) ag) (inodes_in_group (all_inodes g.agcount) ag) (chunks_of ag)
    (records_are g.agcount ag low) (group_due (volume_of g) s crc ag)

abbrev IsZeroAt : Image → LsnPlace → Type 0
IsZeroAt image place = (lsn_at image place).lsn ≡ 0

module _ (g : Geometry) (sector : List ℕ) (s : Stamp) (plan : Plan) (blocks : ℕ) (image : Image) (is : IsEmptyPlan g sector s plan)
    (first : HasFirstChunk (volume_of g)) (whole : IsImage blocks image) (enough : g.dblocks ≤ blocks) (held : HoldsPlan image plan) where
  abbrev v : Volume
  v = volume_of g

  abbrev p : Placed
  p = is.is.placed

  abbrev super : List ℕ
  super = is.is.rendered.super

  stands : IsStanding (empty_wanted g) p is.bytes super image
  stands = plan_stands g sector s plan blocks image is whole enough held

  slots : HasFirstSlots v s image
  slots = slots_made g sector s p is.bytes super image is.made stands

  abbrev crcs : Checksums
  crcs = record { agf = agf_crc_at v image; agi = agi_crc_at v image; slot = slot_crc v image }

  abbrev groups : List GroupRec
  groups = due_groups v (all_inodes g.agcount) p.groups crcs.agf crcs.agi

  abbrev files : List FileRec
  files = first_files v s crcs.slot

  -- all places of log sequence numbers have none
  places_zero : All (IsZeroAt image) (lsn_places v groups files)
  places_zero =
      let heads = lsns_stand (empty_wanted g) p is.bytes super image crcs.agf crcs.agi stands in
      let trees = groups_places v 0 groups in
      let clusters = flat_map cluster_places (clusters_of v groups) in
      let own = flat_map (file_places v) files in
      All-cons (IsZeroAt image) (at 240 0) (trees ++ clusters ++ own) (All-head (IsZeroAt image) (at 240 0) trees heads)
      (All-append (IsZeroAt image) (trees ++ clusters) own
      (All-append (IsZeroAt image) trees clusters (All-tail (IsZeroAt image) (at 240 0) trees heads) (lsns_zero g s image p.groups crcs.agf crcs.agi slots))
      (All-same (IsZeroAt image) own [] (no_file_places v s crcs.slot) (All-nil (IsZeroAt image))))

  lsns_are : lsns_read v image groups files ≡ map no_lsn (lsn_places_in_order (lsn_places v groups files))
  unfolding lsns_read
  lsns_are =
      no_lsns image (lsn_places_in_order (lsn_places v groups files))
      (All-permutation (IsZeroAt image) (lsn_places v groups files) (lsn_places_in_order (lsn_places v groups files)) (all_moved (lsn_places v groups files)) places_zero)

  says : view g image ≡ Ok (made_catalog g s p crcs)
  says =
      reads_as g image groups files [] first_dirs p.counts (Clean (2 ^ 32 + 2)) (map no_lsn (lsn_places_in_order (lsn_places v groups files)))
      (groups_stand (empty_wanted g) p is.bytes super image stands)
      (files_are v s image groups slots (inodes_are_first g p.groups crcs.agf crcs.agi))
      (no_entries v s image crcs.slot slots) (root_whole v s image crcs.slot slots)
      (counts_stand (empty_wanted g) p is.bytes super image stands)
      (log_stands (empty_wanted g) p is.bytes super image 1 stands is.made.cycle') lsns_are

  placed : StandsFor (empty_wanted g) p
  placed = is.is.stands

  only_chunk : kept_runs (empty_wanted g) ++ p.runs ≡ chunk_run ∷ []
  only_chunk = ap (λ (rs : List Run). chunk_run ∷ rs) (none_placed g p.runs placed.runs')

  apart : AreKeptRuns v (chunk_run ∷ [])
  apart = subst (AreKeptRuns v) only_chunk placed.apart

  trees_placed : ArePlaced v (chunk_run ∷ []) [] (all_inodes g.agcount) g.agcount p.groups
  trees_placed = subst (λ (ks : List Run). ArePlaced v ks [] (all_inodes g.agcount) g.agcount p.groups) only_chunk placed.groups'

  pool : AreOfPool v (chunk_run ∷ []) [] (all_inodes g.agcount) g.agcount p.groups
  pool = subst (λ (ks : List Run). AreOfPool v ks [] (all_inodes g.agcount) g.agcount p.groups) only_chunk placed.pool

  space : AreKept (space_laws v groups files)
  space =
      space_kept v groups files
      (space_lawful v g.shape.groups g.shape.log_inside (chunk_run ∷ []) [] (all_inodes g.agcount) p.groups files crcs.agf crcs.agi apart trees_placed
      (clusters_kept g s crcs.slot))

  counting : AreKept (counting_laws (made_catalog g s p crcs))
  counting =
      both_kept (chunk_laws v files groups) (counter_laws v groups p.counts ++ list_laws groups)
      (chunks_kept v (chunk_run ∷ []) [] (all_inodes g.agcount) p.groups files crcs.agf crcs.agi trees_placed (chunks_due g s crcs.slot))
      (both_kept (counter_laws v groups p.counts) (list_laws groups)
      (counters_kept v (chunk_run ∷ []) [] (all_inodes g.agcount) p.groups crcs.agf crcs.agi trees_placed p.counts (count_inodes g.agcount) placed.counts')
      (lists_kept v (chunk_run ∷ []) [] (all_inodes g.agcount) p.groups crcs.agf crcs.agi pool))

  naming : AreKept (naming_laws v.rootino files [] first_dirs)
  naming = subst (λ (root : ℕ). AreKept (naming_laws root files [] first_dirs)) (sym first.root) (names_kept v s crcs.slot)

  log : AreKept (log_laws groups (Clean (2 ^ 32 + 2)) (map no_lsn (lsn_places_in_order (lsn_places v groups files))))
  log = log_kept groups (2 ^ 32 + 2) (lsn_places_in_order (lsn_places v groups files)) (chains_kept v (all_inodes g.agcount) p.groups crcs.agf crcs.agi)

  lawful : broken_law (made_catalog g s p crcs) ≡ None
  unfolding broken_law
  lawful =
      let names = naming_laws v.rootino files [] first_dirs in
      let logs = log_laws groups (Clean (2 ^ 32 + 2)) (map no_lsn (lsn_places_in_order (lsn_places v groups files))) in
      let counts = counting_laws (made_catalog g s p crcs) in
      none_broken (laws_of (made_catalog g s p crcs))
      (both_kept (space_laws v groups files) (counts ++ (names ++ logs)) space
      (both_kept counts (names ++ logs) counting (both_kept names logs naming log)))

  consistent : IsConsistent broken_law g image
  consistent =
      let primary = primary_stands (empty_wanted g) p is.bytes super image stands in
      record {
        elected = primary.0;
        first = primary.1;
        catalog = made_catalog g s p crcs;
        reads = says;
        lawful = lawful;
        backups = backups_agree (empty_wanted g) p is.bytes super image stands;
      }

  pub volume_made : IsMadeVolume g s image
  volume_made = record { placed = p; crcs = crcs; stands = placed; says = says; consistent = consistent }
