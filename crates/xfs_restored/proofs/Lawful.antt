-- A volume that was rebuilt breaks no law.
use Rattle.std.proofs.Common.{◌≡◌, ℕ, Bool, true, false, ◌==◌, if◌then◌else◌, List, [], ◌∷◌, ◌++◌, length, Option, Some, None, Result, Ok, Err, refl, sym, ap, ap₂, ◌∙◌, subst, arith}
use Rattle.std.specs.List.{All}
use Rattle.std.specs.Option.{is_some}
use Rattle.std.proofs.lemmas.Bool.{eqb-true}
use Rattle.std.proofs.lemmas.List.{append-nil, length-append}
use Rattle.std.proofs.lemmas.List.FromFn.{length-map-range_with_len}
use Rattle.xfs_disk.specs.Blocks.{Image}
use Rattle.xfs_disk.specs.declared.stamp.Stamp.{Stamp}
use Rattle.xfs_geom.specs.Volumes.{Volume, volume_of}
use Rattle.xfs_geom.specs.declared.geometry.Geometry.{Geometry}
use Rattle.xfs_geom.specs.declared.records.Run.{Run}
use Rattle.xfs_volume.specs.Laws.{AreKept, first_broken}
use Rattle.xfs_volume.specs.declared.directories.DirRec.{DirRec}
use Rattle.xfs_volume.specs.declared.files.FileRec.{FileRec}
use Rattle.xfs_volume.specs.declared.findings.Law.{Law}
use Rattle.xfs_volume.specs.declared.groups.GroupRec.{GroupRec}
use Rattle.xfs_naming.specs.Naming.{naming_laws}
use Rattle.xfs_laws.specs.Counting.{chunk_laws, counter_laws, list_laws, log_laws}
use Rattle.xfs_laws.specs.Lawful.{broken_law, counting_laws, laws_of}
use Rattle.xfs_space.specs.SpaceLaws.{space_laws}
use Rattle.xfs_image.specs.Candidates.{candidates}
use Rattle.xfs_image.specs.Claims.{candidate_files}
use Rattle.xfs_image.specs.Files.{clusters_of}
use Rattle.xfs_image.specs.Lsns.{LsnPlace, at, groups_places, lsn_at, lsns_read}
use Rattle.xfs_image.specs.View.{log_of}
use Rattle.xfs_place.specs.Objects.{keep_with}
use Rattle.xfs_place.specs.Standing.{AreOfPool}
use Rattle.xfs_place.specs.Wanted.{ArePlaced, CanBeKept, kept_runs}
use Rattle.xfs_place.specs.declared.faults.Unplaced.{Unplaced}
use Rattle.xfs_place.specs.declared.placed.Placed.{Placed}
use Rattle.xfs_place.specs.declared.wanted.GroupInodes.{GroupInodes}
use Rattle.xfs_place.specs.declared.wanted.Wanted.{Wanted}
use Rattle.xfs_rename.specs.xfs_scan.Evidence.{IsEvidence}
use Rattle.xfs_rename.specs.xfs_scan.declared.evidence.Evidence.{Evidence}
use Rattle.xfs_rename.proofs.xfs_made.Chunks.{chunks_kept}
use Rattle.xfs_rename.proofs.xfs_made.Entries.{chains_kept, lists_kept}
use Rattle.xfs_rename.proofs.xfs_made.KeptLaws.{both_kept}
use Rattle.xfs_rename.proofs.xfs_made.Spaces.{space_lawful}
use Rattle.xfs_rename.proofs.xfs_made.Totals.{counters_kept}
use Rattle.xfs_rename.specs.xfs_made.Keeping.{KeepsJust}
use Rattle.xfs_rename.proofs.xfs_made.Lsns.{lsns_stand}
use Rattle.xfs_rename.proofs.xfs_made.Kept.{none_broken, space_kept}
use Rattle.xfs_rename.specs.xfs_made.Volumes.{Checksums}
use Rattle.xfs_salvage.specs.declared.found.Salvaged.{Salvaged}
use Rattle.xfs_rename.specs.xfs_request.Chunks.{group_asked, inodes_wanted}
use Rattle.xfs_rename.specs.xfs_request.Requests.{volume_wanted}
use Rattle.xfs_rename.specs.xfs_request.Slots.{wanted_slots}
use Rattle.xfs_rename.specs.xfs_request.declared.seen.SlotSeen.{SlotSeen}
use Rattle.xfs_rename.specs.xfs_made.Handed.{IsKeptOf}
use Rattle.xfs_rename.proofs.xfs_made.Just.{keeps_just}
use Rattle.xfs_rename.proofs.xfs_made.Used.{asked_due}
use Rattle.xfs_rename.specs.xfs_rebuild.Names as Names
use Rattle.xfs_rename.specs.xfs_rebuild.Names.{needs_names}
use Rattle.xfs_rename.specs.xfs_rebuild.Rebuilds.{Ground, IsRebuildOf, asked}
use Rattle.xfs_rename.specs.xfs_rebuild.declared.planning.Rebuilt.{Rebuilt}
use Rattle.xfs_restored.specs.Rewriting.{IsRewritten}
use Rattle.xfs_restored.proofs.Logs.{evidence_log_due}
use Rattle.xfs_restored.proofs.Standing.{stands}
use Rattle.xfs_restored.specs.DueFiles as DueFiles
use Rattle.xfs_restored.specs.Kept.{HasKept}
use Rattle.xfs_restored.specs.Logs.{IsLogDue, numbers_kept}
use Rattle.xfs_restored.proofs.AllBehind.{log_keeps}
use Rattle.xfs_restored.proofs.DueOwners.{due_runs, due_used}
use Rattle.xfs_restored.proofs.KeptChunks.{clusters_are}
use Rattle.xfs_restored.proofs.Alike.{dirs_are, files_alike}
use Rattle.xfs_restored.proofs.Handed.{has_kept, kept_of_image}
use Rattle.xfs_restored.proofs.Plain.{naming_plain}
use Rattle.xfs_restored.specs.Restoring.{checksums_in, files_due, groups_due, restored_catalog}

-- where no law is broken all are kept
none_of : (o : Option Law) → is_some o ≡ false → o ≡ None
none_of None none = refl
none_of (Some law) none = absurd cc

all_kept : (ls : List Law) → first_broken ls ≡ None → AreKept ls
unfolding first_broken
all_kept [] none = tt
all_kept (l ∷ ls) none = by_case (l.held == l.due) refl none (all_kept ls)
  where
    by_case : (t : Bool) → (l.held == l.due) ≡ t → (if t then first_broken ls else Some l) ≡ None → (first_broken ls ≡ None → AreKept ls) → (l.held ≡ l.due) × AreKept ls
    by_case true same rest later = (eqb-true l.held l.due same, later rest)
    by_case false other rest later = absurd cc

-- the laws of names, where no name has to change
pub names_kept : (g : Geometry) (s : Stamp) (image now : Image) (kept : Salvaged) (seen : List SlotSeen) → HasKept g s image now kept seen → (crc : ℕ → ℕ)
    → needs_names g.rootino kept (wanted_slots (volume_of g) s kept seen) ≡ false
    → AreKept (naming_laws g.rootino (DueFiles.rebuilt_files (volume_of g) s kept seen crc) kept.entries (DueFiles.rebuilt_dirs g.rootino kept))
unfolding needs_names
names_kept g s image now kept seen has crc none =
    let judged : List FileRec = Names.due_files g.rootino kept (wanted_slots (volume_of g) s kept seen) in
    let due : List FileRec = DueFiles.rebuilt_files (volume_of g) s kept seen crc in
    let before : List DirRec = Names.due_dirs g.rootino kept in
    let dirs : List DirRec = DueFiles.rebuilt_dirs g.rootino kept in
    let same : naming_laws g.rootino judged kept.entries before ≡ naming_laws g.rootino due kept.entries dirs =
    sym (naming_plain g.rootino judged kept.entries before)
    ∙ ap₂ (λ (fs : List FileRec) (ds : List DirRec). naming_laws g.rootino fs kept.entries ds) (sym (files_alike g s image now kept seen has crc)) (dirs_are g.rootino kept)
    ∙ naming_plain g.rootino due kept.entries dirs in
    subst AreKept same (all_kept (naming_laws g.rootino judged kept.entries before) (none_of (first_broken (naming_laws g.rootino judged kept.entries before)) none))

-- nothing stands behind what is all
none_behind : (xs ys : List Run) → xs ≡ xs ++ ys → ys ≡ []
none_behind xs [] is = refl
none_behind xs (y ∷ ys) is = let same = ap length is in let all = length-append xs (y ∷ ys) in absurd (omega (arith, same, all))

abbrev runs_or : List Run → Result (List Run) Unplaced → List Run
runs_or other (Ok runs) = runs
runs_or other (Err what) = other

module _ (g : Geometry) (sector : List ℕ) (s : Stamp) (image now : Image) (e : Evidence) (r : Rebuilt) (told : IsEvidence g image e)
    (is : IsRebuildOf g sector s image e r) (new : IsRewritten g r image now) where
  abbrev v : Volume
  v = volume_of g

  abbrev on : Ground
  on = is.on

  abbrev w : Wanted
  w = asked g on

  abbrev p : Placed
  p = is.planned.planned.placed

  abbrev inodes : List GroupInodes
  inodes = inodes_wanted v on.kept

  abbrev crcs : Checksums
  crcs = checksums_in g now

  abbrev groups : List GroupRec
  groups = groups_due g on p crcs

  abbrev files : List FileRec
  files = files_due g s on crcs

  has : HasKept g s image now on.kept on.seen
  has = has_kept g sector s image now e r told is new

  of : IsKeptOf v (candidates v image) (candidate_files v image) on.kept
  of = kept_of_image g image e on told is.ground

  -- no object takes anything
  no_runs : p.runs ≡ []
  unfolding volume_wanted keep_with
  no_runs = none_behind (kept_runs w) p.runs (ap (runs_or []) is.planned.planned.stands.runs')

  only_kept : kept_runs w ++ p.runs ≡ kept_runs w
  only_kept = ap (λ (rs : List Run). kept_runs w ++ rs) no_runs ∙ append-nil (kept_runs w)

  apart : CanBeKept v (kept_runs w)
  unfolding volume_wanted
  apart = subst (CanBeKept v) only_kept is.planned.planned.stands.apart

  placed : ArePlaced v (kept_runs w) on.reserved inodes g.agcount p.groups
  unfolding volume_wanted
  placed = subst (λ (ks : List Run). ArePlaced v ks on.reserved inodes g.agcount p.groups) only_kept is.planned.planned.stands.groups'

  pool : AreOfPool v (kept_runs w) on.reserved inodes g.agcount p.groups
  unfolding volume_wanted
  pool = subst (λ (ks : List Run). AreOfPool v ks on.reserved inodes g.agcount p.groups) only_kept is.planned.planned.stands.pool

  just : KeepsJust v (kept_runs w) inodes files
  unfolding volume_wanted
  just = keeps_just g image on.kept on.reserved files of (due_runs v s on.kept on.seen crcs.slot)

  space : AreKept (space_laws v groups files)
  space =
      space_kept v groups files
      (space_lawful v g.shape.groups g.shape.log_inside (kept_runs w) on.reserved inodes p.groups files crcs.agf crcs.agi apart placed just)

  count_inodes : length inodes ≡ g.agcount
  unfolding inodes_wanted
  count_inodes = length-map-range_with_len (group_asked v on.kept) 0 g.agcount

  counters : AreKept (counter_laws v groups p.counts)
  unfolding volume_wanted
  counters = counters_kept v (kept_runs w) on.reserved inodes p.groups crcs.agf crcs.agi placed p.counts count_inodes is.planned.planned.stands.counts'

  chunks : AreKept (chunk_laws v files groups)
  unfolding volume_wanted
  chunks =
      chunks_kept v (kept_runs w) on.reserved inodes p.groups files crcs.agf crcs.agi placed
      (asked_due g on.kept on.reserved files (due_used v s on.kept on.seen crcs.slot))

  counting : AreKept (counting_laws (restored_catalog g s now on p))
  counting =
      both_kept (chunk_laws v files groups) (counter_laws v groups p.counts ++ list_laws groups) chunks
      (both_kept (counter_laws v groups p.counts) (list_laws groups) counters (lists_kept v (kept_runs w) on.reserved inodes p.groups crcs.agf crcs.agi pool))

  naming : AreKept (naming_laws g.rootino files on.kept.entries (DueFiles.rebuilt_dirs g.rootino on.kept))
  naming = names_kept g s image now on.kept on.seen has crcs.slot is.planned.named

  -- the log is the one that is due to the numbers that stay
  clusters : clusters_of v groups ≡ on.kept.clusters
  unfolding volume_wanted
  clusters = clusters_are g image on.kept on.reserved p.groups crcs.agf crcs.agi of

  heads : All (λ (place : LsnPlace). (lsn_at now place).lsn ≡ 0) (at 240 0 ∷ groups_places v 0 groups)
  unfolding volume_wanted
  heads = lsns_stand w p is.planned.bytes is.planned.planned.rendered.super now crcs.agf crcs.agi (stands g sector s image now on r is.planned new)

  log_due : IsLogDue on.log (numbers_kept v image on.kept on.seen) (log_of v now)
  log_due = evidence_log_due g sector s image now e r told is new

  log : AreKept (log_laws groups (log_of v now) (lsns_read v now groups files))
  log =
      log_keeps g s image now on.kept on.seen has groups crcs.slot on.log (log_of v now) clusters heads log_due (chains_kept v inodes p.groups crcs.agf crcs.agi)

  pub lawful : broken_law (restored_catalog g s now on p) ≡ None
  unfolding broken_law
  lawful =
      let names = naming_laws g.rootino files on.kept.entries (DueFiles.rebuilt_dirs g.rootino on.kept) in
      let logs = log_laws groups (log_of v now) (lsns_read v now groups files) in
      let counts = counting_laws (restored_catalog g s now on p) in
      none_broken (laws_of (restored_catalog g s now on p))
      (both_kept (space_laws v groups files) (counts ++ (names ++ logs)) space (both_kept counts (names ++ logs) counting (both_kept names logs naming log)))
