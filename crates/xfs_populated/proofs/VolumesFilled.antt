-- An image with the plan of a new volume with files says these, and it is consistent.
use Rattle.std.proofs.Common.{◌≡◌, ℕ, ◌+◌, ◌*◌, ◌^◌, List, ◌++◌, length, map, None, Ok, sym, subst, arith}
use Rattle.xfs_disk.specs.Blocks.{Image}
use Rattle.xfs_disk.specs.declared.stamp.Stamp.{Stamp}
use Rattle.xfs_geom.specs.Volumes.{Volume, volume_of}
use Rattle.xfs_geom.specs.declared.geometry.Geometry.{Geometry}
use Rattle.xfs_log.specs.xfs_heads.declared.log_state.LogState.TheVariants.{Clean}
use Rattle.xfs_dirdata.specs.declared.records.EntryRec.{EntryRec}
use Rattle.xfs_volume.specs.Laws.{AreKept}
use Rattle.xfs_volume.specs.declared.directories.DirRec.{DirRec}
use Rattle.xfs_volume.specs.declared.files.FileRec.{FileRec}
use Rattle.xfs_volume.specs.declared.groups.GroupRec.{GroupRec}
use Rattle.xfs_naming.specs.Naming.{naming_laws}
use Rattle.xfs_laws.specs.Counting.{chunk_laws, counter_laws, list_laws, log_laws}
use Rattle.xfs_laws.specs.Lawful.{broken_law, counting_laws, laws_of}
use Rattle.xfs_space.specs.SpaceLaws.{space_laws}
use Rattle.xfs_image.specs.Consistent.{IsConsistent}
use Rattle.xfs_image.specs.Files.{files_read}
use Rattle.xfs_image.specs.Lsns.{lsn_places, lsn_places_in_order}
use Rattle.xfs_image.specs.Slots.{slot_bytes}
use Rattle.xfs_image.specs.View.{view}
use Rattle.xfs_place.specs.declared.placed.Placed.{Placed}
use Rattle.xfs_render.specs.Slots.{IsMadeSlot}
use Rattle.xfs_render.specs.declared.plan.Plan.{Plan}
use Rattle.xfs_render.specs.declared.wanted_slots.SlotWanted.{SlotWanted}
use Rattle.xfs_made.proofs.KeptLaws.{both_kept}
use Rattle.xfs_made.proofs.Catalogs.{reads_as}
use Rattle.xfs_made.proofs.Kept.{none_broken}
use Rattle.xfs_made.specs.Files.{slot_crc}
use Rattle.xfs_made.specs.Volumes.{Checksums, no_lsn}
use Rattle.xfs_made.specs.Standing.{agf_crc_at, agi_crc_at}
use Rattle.xfs_proto.specs.declared.protofile.ProtoNode.{ProtoNode}
use Rattle.xfs_filled.specs.Chunks.{chunk_starts}
use Rattle.xfs_filled.specs.Numbers.{index_of_place, number_of}
use Rattle.xfs_filled.proofs.Numbering.{index_low}
use Rattle.xfs_filled.proofs.Starting.{are_chunks}
use Rattle.xfs_populated.specs.FilledSlots.{HasFilledSlots}
use Rattle.xfs_populated.specs.Names.{AreDirectoriesBuilt, HasFileSlots, HasShortForms}
use Rattle.xfs_populated.specs.Populated.{IsPopulated, dirs_due, filled_entries, filled_files, filled_catalog, filled_groups}
use Rattle.xfs_populated.specs.Volumes.{IsFilledVolume}
use Rattle.xfs_populated.proofs.ChunksDue.{chunks_are_kept}
use Rattle.xfs_populated.proofs.DirectoriesBuilt.{are_built}
use Rattle.xfs_populated.proofs.DueDirectories.{dirs_are, entries_are}
use Rattle.xfs_populated.proofs.DueNames.{due_names_kept}
use Rattle.xfs_populated.proofs.FileBytes.{bytes_there}
use Rattle.xfs_populated.proofs.FilesJoined.{files_joined}
use Rattle.xfs_populated.proofs.FilesLinked.{link_blocks}
use Rattle.xfs_populated.proofs.HeadsRead.{backups_are, counts_are, groups_are, log_is, super_is}
use Rattle.xfs_populated.proofs.LsnsDue.{log_keeps, lsns_are}
use Rattle.xfs_populated.proofs.NumberChunks.{inodes_are}
use Rattle.xfs_populated.proofs.NumbersStand.{numbers_stand}
use Rattle.xfs_populated.proofs.ShortForms.{short_forms}
use Rattle.xfs_populated.proofs.SlotMade.{file_wanted}
use Rattle.xfs_populated.proofs.SlotStanding.{slots_are_made}
use Rattle.xfs_populated.proofs.SlotTargets.{slots_due}
use Rattle.xfs_populated.proofs.SlotsRead.{populated_at, starts_first}
use Rattle.xfs_populated.proofs.SpaceDue.{counters, lists, space}

module _ (g : Geometry) (sector : List ℕ) (s : Stamp) (ns : List ProtoNode) (contents : List (List ℕ)) (plan : Plan) (blocks : ℕ) (image : Image)
    (is : IsPopulated g sector s ns contents plan blocks image) where
  abbrev v : Volume
  v = volume_of g

  abbrev starts : List ℕ
  starts = chunk_starts g (length ns)

  abbrev p : Placed
  p = is.filled.placed

  abbrev crcs : Checksums
  crcs = record { agf = agf_crc_at v image; agi = agi_crc_at v image; slot = slot_crc v image }

  abbrev groups : List GroupRec
  groups = filled_groups g ns p crcs.agf crcs.agi

  abbrev files : List FileRec
  files = filled_files v s starts ns contents p.runs crcs.slot

  abbrev entries : List EntryRec
  entries = filled_entries v starts ns

  abbrev dirs : List DirRec
  dirs = dirs_due v starts ns

  built : AreDirectoriesBuilt v starts ns
  built = are_built v starts ns is.filled.images

  -- the slots of files
  file_slots : HasFileSlots v s starts ns contents p.runs image
  file_slots =
      let made : HasFilledSlots v s starts ns contents p.runs image = slots_are_made g sector s ns contents plan blocks image is in
      let enough = (populated_at g sector s ns contents plan blocks image is).enough in
      record {
        each = λ k low.
            let slot = made.each (index_of_place k) (index_low k (64 * length starts) (omega (arith, enough, low))) in
            record {
              old = slot.old;
              made = subst (λ (w : SlotWanted). IsMadeSlot v s.generation w slot.old (slot_bytes v image (number_of v starts k))) (sym (file_wanted v s starts ns contents p.runs k low)) slot.made;
            };
      }

  shorts : HasShortForms v starts ns image
  shorts = short_forms v s starts ns contents p.runs image file_slots

  files_are : files_read v image groups ≡ Ok files
  files_are =
      files_joined v s starts ns contents p.runs image (slots_due g sector s ns contents plan blocks image is (link_blocks g sector s ns contents plan blocks image is))
      g.shape.groups (starts_first g (length ns)) is.files.some (populated_at g sector s ns contents plan blocks image is).enough groups
      (inodes_are g (length ns) starts (are_chunks g (length ns) is.first) p.groups crcs.agf crcs.agi)

  naming : AreKept (naming_laws v.rootino files entries dirs)
  naming =
      subst (λ (root : ℕ). AreKept (naming_laws root files entries dirs)) (sym is.first.root)
      (due_names_kept v s starts ns contents p.runs crcs.slot is.files (numbers_stand g ns is.first is.room.chunks))

  says : view g image ≡ Ok (filled_catalog g s ns contents p crcs)
  says =
      reads_as g image groups files entries dirs p.counts (Clean (2 ^ 32 + 2)) (map no_lsn (lsn_places_in_order (lsn_places v groups files)))
      (groups_are g sector s ns contents plan blocks image is) files_are
      (entries_are g sector s ns contents plan blocks image crcs.slot is built shorts) (dirs_are g sector s ns contents plan blocks image crcs.slot is built shorts)
      (counts_are g sector s ns contents plan blocks image is) (log_is g sector s ns contents plan blocks image is)
      (lsns_are g sector s ns contents plan blocks image is crcs.agf crcs.agi crcs.slot built)

  counting : AreKept (counting_laws (filled_catalog g s ns contents p crcs))
  counting =
      both_kept (chunk_laws v files groups) (counter_laws v groups p.counts ++ list_laws groups)
      (chunks_are_kept g sector s ns contents plan blocks image is crcs.slot crcs.agf crcs.agi)
      (both_kept (counter_laws v groups p.counts) (list_laws groups) (counters g sector s ns contents plan blocks image is crcs.agf crcs.agi)
      (lists g sector s ns contents plan blocks image is crcs.agf crcs.agi))

  lawful : broken_law (filled_catalog g s ns contents p crcs) ≡ None
  unfolding broken_law
  lawful =
      let names = naming_laws v.rootino files entries dirs in
      let logs = log_laws groups (Clean (2 ^ 32 + 2)) (map no_lsn (lsn_places_in_order (lsn_places v groups files))) in
      let counts = counting_laws (filled_catalog g s ns contents p crcs) in
      none_broken (laws_of (filled_catalog g s ns contents p crcs))
      (both_kept (space_laws v groups files) (counts ++ (names ++ logs)) (space g sector s ns contents plan blocks image is crcs.slot crcs.agf crcs.agi)
      (both_kept counts (names ++ logs) counting
      (both_kept names logs naming (log_keeps g sector s ns contents plan blocks image is crcs.agf crcs.agi (lsn_places_in_order (lsn_places v groups files))))))

  consistent : IsConsistent broken_law g image
  consistent =
      let primary = super_is g sector s ns contents plan blocks image is in
      record {
        elected = primary.0;
        first = primary.1;
        catalog = filled_catalog g s ns contents p crcs;
        reads = says;
        lawful = lawful;
        backups = backups_are g sector s ns contents plan blocks image is;
      }

  pub volume_filled : IsFilledVolume g s ns contents image
  volume_filled =
      record {
        placed = p;
        crcs = crcs;
        stands = is.filled.stands;
        says = says;
        consistent = consistent;
        bytes = record { each = bytes_there g sector s ns contents plan blocks image crcs.slot is };
      }
