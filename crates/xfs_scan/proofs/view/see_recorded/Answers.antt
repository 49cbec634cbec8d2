use Rattle.std.proofs.Common.{ℕ, ◌≤◌, Ok, Err, sym, ap, subst, ◌∙◌}
use Rattle.std.specs.List.{flat_map}
use Rattle.xfs_geom.specs.Volumes.{volume_of}
use Rattle.xfs_disk.proofs.Reading.{reads_on}
use Rattle.xfs_image.specs.Directories.{dirs_read, entries_read}
use Rattle.xfs_image.specs.Slots.{cluster_inodes}
use Rattle.xfs_slots.specs.Gathered.{Gathered, files_if, held_in}
use Rattle.xfs_slots.proofs.Gathering.{dirs_of_files, entries_of_files}
use Rattle.xfs_slots.proofs.Causes.{caused_on}
use Rattle.xfs_scan.proofs.Counts.{counted, later}
use Rattle.xfs_scan.proofs.Views.{all_read, file_missing, files_held}
use Rattle.xfs_scan.proofs.view.see_recorded.Goals as goal

pub see_clusters-requires-clause-inside : goal.see_clusters-requires-clause-inside
see_clusters-requires-clause-inside g c = c.requires.inside

pub see_clusters-requires-clause-low : goal.see_clusters-requires-clause-low
see_clusters-requires-clause-low g c = c.requires.low

pub build_view-requires-clause-inside : goal.build_view-requires-clause-inside
build_view-requires-clause-inside g c = subst (λ (n : ℕ). c.args.g.now.dblocks ≤ n) (sym c.in-Ok.ensures.disk.same_size) c.requires.inside

pub build_view-requires-clause-few : goal.build_view-requires-clause-few
build_view-requires-clause-few g c = c.requires.few

pub build_view-requires-clause-clusters : goal.build_view-requires-clause-clusters
build_view-requires-clause-clusters g c = c.requires.clusters

pub build_view-requires-clause-low : goal.build_view-requires-clause-low
build_view-requires-clause-low g c = c.requires.low

pub build_view-requires-clause-log : goal.build_view-requires-clause-log
build_view-requires-clause-log g c = λ image told. c.requires.log image (sym c.in-Ok.ensures.disk.same_contents ∙ told)

pub build_view-requires-clause-entries : goal.build_view-requires-clause-entries
build_view-requires-clause-entries g c = λ image told.
    let v = volume_of c.args.g.now in
    let held = c.in-Ok.ensures.inodes image (sym c.in-Ok.ensures.disk.same_contents ∙ told) in
    ap (λ (gathered : Gathered). gathered.entries) held ∙ entries_of_files v image (flat_map (cluster_inodes v) c.args.clusters.now)
    ∙ ap (λ (gathered : Gathered). entries_read v image gathered.files) (sym held)

pub build_view-requires-clause-dirs : goal.build_view-requires-clause-dirs
build_view-requires-clause-dirs g c = λ image told.
    let v = volume_of c.args.g.now in
    let held = c.in-Ok.ensures.inodes image (sym c.in-Ok.ensures.disk.same_contents ∙ told) in
    ap (λ (gathered : Gathered). gathered.dirs) held ∙ dirs_of_files v image (flat_map (cluster_inodes v) c.args.clusters.now)
    ∙ ap (λ (gathered : Gathered). dirs_read v image gathered.files) (sym held)

pub returns-in-Err : goal.returns-in-Err
returns-in-Err g c = record { view = tt; cause = c.in-Err.ensures.cause; disk = c.in-Err.ensures.disk; reads = c.in-Err.ensures.reads }

pub returns-in-Some : goal.returns-in-Some
returns-in-Some g c =
    record {
      view = λ image told.
          let inodes = c.in-Ok.inodes in
          let held = files_held (volume_of c.args.g.now) image c.args.groups c.args.clusters.now (held_in inodes) c.requires.clusters (c.in-Ok.ensures.inodes image told) in
          ap Err c.missing.ensures
          ∙ file_missing c.args.g.now image c.args.groups _ (c.requires.groups image told) (held ∙ ap (λ unread. files_if unread inodes.files.items) c.in-Some.is);
      cause = c.in-Ok.ensures.cause;
      disk = c.in-Ok.ensures.disk;
      reads = c.in-Ok.ensures.reads;
    }

pub returns-in-Ok-build_view : goal.returns-in-Ok-build_view
returns-in-Ok-build_view g c =
    let D = g.D.Disk in
    record {
      view = λ image told.
          let inodes = c.in-Ok.inodes in
          let held = files_held (volume_of c.args.g.now) image c.args.groups c.args.clusters.now (held_in inodes) c.requires.clusters (c.in-Ok.ensures.inodes image told) in
          ap Ok (c.in-Ok-build_view.ensures.catalog image (c.in-Ok.ensures.disk.same_contents ∙ told))
          ∙ all_read c.args.g.now image c.args.groups inodes.files.items (c.requires.groups image told) (held ∙ ap (λ unread. files_if unread inodes.files.items) c.in-None.is);
      cause = later _ _ _ c.in-Ok.ensures.cause c.in-Ok-build_view.ensures.cause;
      disk = reads_on D.size D.holds D.write_faults D.writes D.tells_stops D.moment D.may_leave D.left_since c.args.disk.now c.see_clusters.new.disk c.build_view.new.disk c.see_clusters.ensures.disk c.build_view.ensures.disk;
      reads = counted _ _ _ _ _ _ c.in-Ok.ensures.reads c.in-Ok-build_view.ensures.reads;
    }

pub returns-in-Err-build_view : goal.returns-in-Err-build_view
returns-in-Err-build_view g c =
    let D = g.D.Disk in
    record {
      view = tt;
      cause = caused_on _ _ _ c.in-Err-build_view.fault c.in-Ok.ensures.cause c.in-Err-build_view.ensures.cause;
      disk = reads_on D.size D.holds D.write_faults D.writes D.tells_stops D.moment D.may_leave D.left_since c.args.disk.now c.see_clusters.new.disk c.build_view.new.disk c.see_clusters.ensures.disk c.build_view.ensures.disk;
      reads = counted _ _ _ _ _ _ c.in-Ok.ensures.reads c.in-Err-build_view.ensures.reads;
    }
