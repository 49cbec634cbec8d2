-- No log sequence number of a volume in which names were changed is above the head of its log.
use Rattle.std.proofs.Common.{◌≡◌, inl, inr, ℕ, Bool, true, false, if◌then◌else◌, List, [], ◌∷◌, ◌++◌, map, is_some, refl, sym, ap, ◌∙◌, subst, arith}
use Rattle.std.specs.List.{All, AllByRecursion, flat_map}
use Rattle.std.proofs.lemmas.List.Elements.{recursion_from_All}
use Rattle.xfs_disk.specs.Blocks.{Image}
use Rattle.xfs_disk.specs.Lists.{is_among}
use Rattle.xfs_disk.specs.declared.stamp.Stamp.{Stamp}
use Rattle.xfs_geom.specs.Volumes.{Volume, volume_of}
use Rattle.xfs_geom.specs.declared.geometry.Geometry.{Geometry}
use Rattle.xfs_geom.specs.declared.records.Run.{Run}
use Rattle.xfs_log.specs.xfs_heads.declared.log_state.LogState.{LogState}
use Rattle.xfs_log.specs.xfs_heads.declared.log_state.LogState.TheVariants.{Clean}
use Rattle.xfs_image.specs.Files.{clusters_of}
use Rattle.xfs_image.specs.Lsns.{LsnPlace, at, cluster_places, dir_byte, extent_places, file_places, groups_places, lsn_at, lsn_places, lsn_places_in_order, lsns_read}
use Rattle.xfs_image.specs.Slots.{cluster_inodes, slot_bytes}
use Rattle.xfs_image.specs.View.{log_of}
use Rattle.xfs_laws.specs.Counting.{by_group, group_chains, head_of, is_behind, log_at, log_laws, lsn_law}
use Rattle.xfs_names.specs.Built.{IsBuiltAsWanted}
use Rattle.xfs_names.specs.declared.building.ForkRoom.{ForkRoom}
use Rattle.xfs_place.specs.Wanted.{IsOffFixed, kept_runs}
use Rattle.xfs_place.specs.declared.placed.Placed.{Placed}
use Rattle.xfs_place.specs.declared.wanted.Wanted.{Wanted}
use Rattle.xfs_views.proofs.Members.{Member, all_members, contains, flat_member, map_member, member_all, member_either, member_left, member_map, member_right}
use Rattle.xfs_render.specs.Slots.{IsSlotDue}
use Rattle.xfs_render.specs.declared.wanted_slots.SlotWanted.{SlotWanted}
use Rattle.xfs_rename.specs.xfs_scan.declared.evidence.Evidence.{Evidence}
use Rattle.xfs_space.specs.Owners.{file_runs}
use Rattle.xfs_rename.specs.xfs_made.Groups.{due_groups}
use Rattle.xfs_rename.proofs.xfs_made.Entries.{chains_kept}
use Rattle.xfs_rename.proofs.xfs_made.KeptLaws.{both_kept}
use Rattle.xfs_rename.proofs.xfs_made.Lsns.{lsns_stand}
use Rattle.xfs_volume.specs.Laws.{AreKept}
use Rattle.xfs_volume.specs.Names.{type_of}
use Rattle.xfs_volume.specs.declared.catalogs.BlockLsn.{BlockLsn}
use Rattle.xfs_volume.specs.declared.files.FileRec.{FileRec}
use Rattle.xfs_volume.specs.declared.groups.GroupRec.{GroupRec}
use Rattle.xfs_salvage.specs.Kept.{run_of_cluster}
use Rattle.xfs_salvage.specs.declared.found.Salvaged.{Salvaged}
use Rattle.xfs_rename.specs.xfs_request.Chunks.{inodes_wanted}
use Rattle.xfs_rename.specs.xfs_request.Cycles.{kept_lsns, lsn_listed}
use Rattle.xfs_rename.specs.xfs_rebuild.Bytes.{file_lsns}
use Rattle.xfs_rename.specs.xfs_rebuild.Names as Names
use Rattle.xfs_rename.specs.xfs_rebuild.Names.{linked_files}
use Rattle.xfs_rename.specs.xfs_rebuild.declared.names_due.NamesDue.{NamesDue}
use Rattle.xfs_restored.specs.DueFiles.{stated_crc}
use Rattle.xfs_restored.specs.Logs.{IsLogDue, numbers_kept}
use Rattle.xfs_restored.proofs.FileLsns.{of_order}
use Rattle.xfs_restored.proofs.WrittenHeads.{due_clean, number_behind, zero_behind}
use Rattle.xfs_rename.specs.xfs_built.Extents.{extent_of_run}
use Rattle.xfs_rename.specs.Lost.{lost_due}
use Rattle.xfs_rename.specs.xfs_built.Asks.{stands_in_blocks}
use Rattle.xfs_rename.specs.Objects.{wanted_with}
use Rattle.xfs_rename.specs.Renames.{old_files, placed_forks, renamed_slots, renamed_wanted}
use Rattle.xfs_rename.specs.xfs_changes.Rooms.{fork_rooms}
use Rattle.xfs_rename.specs.Settled.{settled, staying_file}
use Rattle.xfs_rename.specs.declared.planning.Renamed.{Renamed}
use Rattle.xfs_naming.specs.Naming.{file_at}
use Rattle.xfs_rename.specs.xfs_built.Directories.{BuiltRuns, HasOwnCounts, StandsInRuns}
use Rattle.xfs_restored.specs.Renamed.{HoldsBuilt}
use Rattle.xfs_restored.proofs.DueSlots.{slots_due}
use Rattle.xfs_restored.proofs.HeldPlans.{others_stay}
use Rattle.xfs_restored.proofs.Planned.{all_runs, all_stand, holds_built, sized_all}
use Rattle.xfs_restored.proofs.Known.{evidence_known}
use Rattle.xfs_restored.specs.Numbered.{AreNumbered}
use Rattle.xfs_restored.specs.Relinking.{IsRelinked, built_at, built_of, extents_built, file_due, renamed_files}
use Rattle.xfs_restored.specs.StayingNumbers.{AreDirectories, AreStaying}
use Rattle.xfs_restored.proofs.BuiltNumbers.{wanted_zero}
use Rattle.xfs_restored.proofs.DuePlaces.{due_place, number_stays, staying_place}
use Rattle.xfs_restored.proofs.DueRuns.{among_built, built_member, number_is}
use Rattle.xfs_restored.proofs.MadeNumbers.{place_number}
use Rattle.xfs_restored.proofs.ReadHeads.{large, log_due, plan_held, standing}
use Rattle.xfs_restored.proofs.SettledClusters.{clusters_settled, settled_halves}
use Rattle.xfs_restored.proofs.WantedLists.{at_has}

lsns_keep : (head : ℕ) (ls : List BlockLsn) → AllByRecursion (λ (l : BlockLsn). is_behind head l.lsn ≡ true) ls → AreKept (map (lsn_law head) ls)
lsns_keep head [] all = tt
lsns_keep head (l ∷ ls) all = (ap (λ (t : Bool). if t then l.lsn else head) (sym all.0), lsns_keep head ls all.1)

module _ (g : Geometry) (sector : List ℕ) (s : Stamp) (image now : Image) (e : Evidence) (n : NamesDue) (r : Renamed) (has : IsRelinked g sector s image now e n r)
    (numbered : AreNumbered g.rootino has.on.kept (lost_due g n) has.is.w (old_files n has.is.w))
    (staying : AreStaying (volume_of g) image now (settled n (lost_due g n) has.is.w) (renamed_slots g s n has.is.w (placed_forks g n has.is.w has.is.built has.is.placed)))
    (directories : AreDirectories has.is.w.rebuilt (renamed_files g s now has.on n has.is.w has.is.built has.is.placed)) (agf_crc agi_crc : ℕ → ℕ) where
  abbrev v : Volume
  v = volume_of g

  abbrev p : Placed
  p = has.is.placed

  abbrev after : Salvaged
  after = settled n (lost_due g n) has.is.w

  abbrev asked : Wanted
  asked = renamed_wanted g n has.is.w has.is.built

  abbrev slots : List SlotWanted
  slots = renamed_slots g s n has.is.w (placed_forks g n has.is.w has.is.built p)

  abbrev old : List FileRec
  old = old_files n has.is.w

  abbrev ds : List BuiltRuns
  ds = built_of g s now has.on n has.is.w has.is.built p

  abbrev due : ℕ × ℕ → FileRec
  due = file_due g s now has.on n has.is.w has.is.built p

  abbrev files : List FileRec
  files = renamed_files g s now has.on n has.is.w has.is.built p

  abbrev groups : List GroupRec
  groups = due_groups v (inodes_wanted v after) p.groups agf_crc agi_crc

  abbrev numbers : List ℕ
  numbers = numbers_kept v image after n.seen

  abbrev log : LogState
  log = log_of v now

  abbrev IsBehindAt : LsnPlace → Type 0
  IsBehindAt place = is_behind (head_of log) (lsn_at now place).lsn ≡ true

  due_log : IsLogDue n.log numbers log
  due_log = log_due g sector s image now e n r has

  none_is_behind : (place : LsnPlace) → (lsn_at now place).lsn ≡ 0 → IsBehindAt place
  none_is_behind place none = ap (is_behind (head_of log)) none ∙ zero_behind (head_of log)

  kept_is_behind : (place : LsnPlace) → Member (lsn_at now place).lsn numbers → IsBehindAt place
  kept_is_behind place is = number_behind n.log log numbers (lsn_at now place).lsn due_log is

  -- of slots
  slot_due : (ino : ℕ) → Member ino (flat_map (cluster_inodes v) after.clusters) → IsSlotDue v s.generation slots ino (slot_bytes v image ino) (slot_bytes v now ino)
  slot_due ino is =
      slots_due g sector s image now n r has.is (plan_held g sector s image now e n r has) (large g sector s image now e n r has) (others_stay g sector s image n r has.is now has.new) ino
      (contains ino (flat_map (cluster_inodes v) after.clusters) is)

  of_slot : (place : LsnPlace) → Member place (flat_map cluster_places after.clusters) → IsBehindAt place
  of_slot place is =
      elim
      (place_number g s.generation image now after n.seen slots (has.due.seen' ∙ (has.ground.seen' ∙ evidence_known g image e has.evidence)) (settled_halves g sector s image now e n r has)
      slot_due (λ ino at. staying.slots' ino (contains ino (flat_map (cluster_inodes v) after.clusters) at)) (file_lsns v image after.files) place is) [
        | inl none ↦ none_is_behind place none
        | inr stays ↦ kept_is_behind place stays
      ]

  -- of blocks of files that were there before
  clear : (run : Run) → Member run (flat_map (file_runs v) old) → IsOffFixed v run
  unfolding wanted_with
  clear run is =
      member_all (IsOffFixed v) run (kept_runs asked ++ p.runs) (recursion_from_All (IsOffFixed v) (kept_runs asked ++ p.runs) has.is.stands.apart.clear)
      (member_left run (kept_runs asked) p.runs (member_left run asked.taken asked.new (member_right run (map run_of_cluster n.clusters) (flat_map (file_runs v) old) is)))

  of_old : (f : FileRec) (place : LsnPlace) → Member f old → Member place (file_places v f) → IsBehindAt place
  unfolding kept_lsns
  of_old f place is at_place =
      kept_is_behind place
      (member_right (lsn_at now place).lsn (flat_map (lsn_listed v after) n.seen) (file_lsns v image old) (number_stays g image now old staying.claims clear f place is at_place))

  -- of blocks of directories that are built anew
  holds : HoldsBuilt g n has.is.w has.is.built p has.is.bytes now
  holds = holds_built g sector s image n r has.is has.is.buildable has.is.cuts now (plan_held g sector s image now e n r has)

  abbrev rooms : List ForkRoom
  rooms = fork_rooms has.is.w.rebuilt n.files

  stands_in_runs : (d : BuiltRuns) → Member d ds → StandsInRuns v now d
  stands_in_runs d is = member_all (StandsInRuns v now) d ds (all_stand g n has.is.w has.is.built p has.is.bytes now holds) is

  sized : (d : BuiltRuns) → Member d ds → HasOwnCounts d.directory
  sized d is =
      member_all (λ (x : BuiltRuns). HasOwnCounts x.directory) d ds
      (all_runs HasOwnCounts has.is.built p.cuts p.runs (sized_all g n has.is.w has.is.built p has.is.bytes now holds)) is

  as_wanted : (d : BuiltRuns) → Member d ds → IsBuiltAsWanted has.is.w rooms d.directory
  as_wanted d is =
      member_all (λ (x : BuiltRuns). IsBuiltAsWanted has.is.w rooms x.directory) d ds
      (all_runs (IsBuiltAsWanted has.is.w rooms) has.is.built p.cuts p.runs (recursion_from_All (IsBuiltAsWanted has.is.w rooms) has.is.built has.is.names.each)) is

  of_built : (d : BuiltRuns) (place : LsnPlace) → Member d ds → Member place (flat_map (extent_places v dir_byte) (extents_built v d)) → IsBehindAt place
  of_built d place is at_place = by_blocks (stands_in_blocks d.directory) refl at_place
    where
      by_blocks : (t : Bool) → stands_in_blocks d.directory ≡ t → Member place (flat_map (extent_places v dir_byte) (if t then map (extent_of_run v) d.runs else [])) → IsBehindAt place
      by_blocks true blocks there =
          let room = g.shape.groups.large in
          none_is_behind place
          (wanted_zero v now (omega (arith, room)) g.shape.addresses.enough has.is.w rooms d.directory d.runs has.is.buildable (as_wanted d is) (sized d is) (stands_in_runs d is blocks) place there)
      by_blocks false blocks none = absurd none

  -- of all files
  kind_of : (pair : ℕ × ℕ) → Member pair has.is.w.links → is_some (built_at ds pair.0) ≡ true → type_of (due pair) ≡ 4
  unfolding renamed_files wanted_with
  kind_of pair is built =
      member_all (λ (f : FileRec). is_among has.is.w.rebuilt f.ino ≡ true → type_of f ≡ 4) (due pair) files
      (recursion_from_All (λ (f : FileRec). is_among has.is.w.rebuilt f.ino ≡ true → type_of f ≡ 4) files directories) (member_map due pair has.is.w.links is)
      (ap (is_among has.is.w.rebuilt) (number_is g s now has.on n has.is.w has.is.built p has.due.fresh' has.is.names.numbers has.is.ascend has.is.cuts numbered pair)
      ∙ (among_built g s now has.on n has.is.w has.is.built p has.due.fresh' has.is.names.numbers has.is.ascend has.is.cuts numbered pair.0 ∙ built))

  old_there : (x : FileRec) → Member x has.on.kept.files → Member (staying_file has.is.w.rebuilt (Names.linked_file g.rootino has.on.kept x)) old
  old_there x is =
      subst (λ (fs : List FileRec). Member (staying_file has.is.w.rebuilt (Names.linked_file g.rootino has.on.kept x)) fs) (sym numbered.old')
      (member_map (staying_file has.is.w.rebuilt) (Names.linked_file g.rootino has.on.kept x) (linked_files g.rootino has.on.kept)
      (member_map (Names.linked_file g.rootino has.on.kept) x has.on.kept.files is))

  of_pair : (pair : ℕ × ℕ) (place : LsnPlace) → Member pair has.is.w.links → Member place (file_places v (due pair)) → IsBehindAt place
  unfolding wanted_with
  of_pair pair place is at_place =
      elim
      (due_place v s (lost_due g n) has.on.seen (stated_crc v now) old pair place (file_at has.on.kept.files pair.0) (built_at ds pair.0) (kind_of pair is) at_place) [
        | inl kept ↦
            let x : FileRec = kept.0 in
            let number : x.ino ≡ pair.0 = (at_has has.on.kept.files pair.0 x kept.1).1 in
            let among : is_among has.is.w.rebuilt x.ino ≡ is_some (built_at ds pair.0) =
            ap (is_among has.is.w.rebuilt) number ∙ among_built g s now has.on n has.is.w has.is.built p has.due.fresh' has.is.names.numbers has.is.ascend has.is.cuts numbered pair.0 in
            of_old (staying_file has.is.w.rebuilt (Names.linked_file g.rootino has.on.kept x)) place (old_there x (at_has has.on.kept.files pair.0 x kept.1).0)
            (staying_place v has.is.w.rebuilt g.rootino has.on.kept place x (is_some (built_at ds pair.0)) among kept.2)
        | inr built ↦ of_built built.0 place (built_member ds pair.0 built.0 built.1) built.2
      ]

  of_file : (place : LsnPlace) → Member place (flat_map (file_places v) files) → IsBehindAt place
  unfolding renamed_files
  of_file place is =
      let f = flat_member (file_places v) place files is in
      let pair = map_member due f.0 has.is.w.links f.1 in
      of_pair pair.0 place pair.1 (subst (λ (x : FileRec). Member place (file_places v x)) (sym pair.2) f.2)

  abbrev heads_are : List LsnPlace
  heads_are = at 240 0 ∷ groups_places v 0 groups

  heads : All (λ (place : LsnPlace). (lsn_at now place).lsn ≡ 0) heads_are
  unfolding wanted_with
  heads = lsns_stand asked p has.is.bytes has.is.left.rendered.super now agf_crc agi_crc (standing g sector s image now e n r has)

  clusters : clusters_of v groups ≡ after.clusters
  clusters = clusters_settled g sector s image now e n r has p.groups agf_crc agi_crc

  place_behind : (place : LsnPlace) → Member place (lsn_places v groups files) → IsBehindAt place
  place_behind place is =
      elim (member_either place (heads_are ++ flat_map cluster_places (clusters_of v groups)) (flat_map (file_places v) files) is) [
        | inl front ↦ elim (member_either place heads_are (flat_map cluster_places (clusters_of v groups)) front) [
          | inl head ↦ none_is_behind place (member_all (λ (q : LsnPlace). (lsn_at now q).lsn ≡ 0) place heads_are (recursion_from_All (λ (q : LsnPlace). (lsn_at now q).lsn ≡ 0) heads_are heads) head)
          | inr slot ↦ of_slot place (subst (λ (ks : List ℕ). Member place (flat_map cluster_places ks)) clusters slot)
        ]
        | inr file ↦ of_file place file
      ]

  each_behind : AllByRecursion (λ (l : BlockLsn). is_behind (head_of log) l.lsn ≡ true) (lsns_read v now groups files)
  unfolding lsns_read
  each_behind =
      let places : List LsnPlace = lsn_places v groups files in
      all_members (λ (l : BlockLsn). is_behind (head_of log) l.lsn ≡ true) (map (lsn_at now) (lsn_places_in_order places)) (λ l is.
      let from = map_member (lsn_at now) l (lsn_places_in_order places) is in
      subst (λ (x : BlockLsn). is_behind (head_of log) x.lsn ≡ true) from.2 (place_behind from.0 (of_order from.0 places from.1)))

  pub log_keeps : AreKept (log_laws groups log (lsns_read v now groups files))
  log_keeps =
      let lsns : List BlockLsn = lsns_read v now groups files in
      let clean : log ≡ Clean (head_of log) = due_clean n.log log numbers due_log in (
        subst (λ (l : LogState). (log_at l).held ≡ (log_at l).due) (sym clean) refl,
        both_kept (by_group group_chains 0 groups) (map (lsn_law (head_of log)) lsns) (chains_kept v (inodes_wanted v after) p.groups agf_crc agi_crc) (lsns_keep (head_of log) lsns each_behind),
      )
