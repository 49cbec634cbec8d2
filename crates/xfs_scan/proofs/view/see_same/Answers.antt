use Rattle.std.proofs.Common.{Ok, Err, sym, ap, ◌∙◌}
use Rattle.std.specs.List.{flat_map}
use Rattle.xfs_geom.specs.Volumes.{volume_of}
use Rattle.xfs_image.specs.Directories.{dirs_read, entries_read}
use Rattle.xfs_image.specs.Slots.{cluster_inodes}
use Rattle.xfs_slots.specs.Gathered.{Gathered, files_if, held_in}
use Rattle.xfs_slots.proofs.Gathering.{dirs_of_files, entries_of_files}
use Rattle.xfs_scan.proofs.Numbers.{numbers_kept}
use Rattle.xfs_disk.proofs.Reading.{reads_none}
use Rattle.xfs_scan.proofs.Counts.{still}
use Rattle.xfs_scan.proofs.Views.{all_read, file_missing, files_held}
use Rattle.xfs_scan.proofs.view.see_same.Goals as goal

pub build_view-requires-clause-inside : goal.build_view-requires-clause-inside
build_view-requires-clause-inside g c = c.requires.inside

pub build_view-requires-clause-few : goal.build_view-requires-clause-few
build_view-requires-clause-few g c = c.requires.few

pub build_view-requires-clause-clusters : goal.build_view-requires-clause-clusters
build_view-requires-clause-clusters g c = c.requires.clusters

pub build_view-requires-clause-low : goal.build_view-requires-clause-low
build_view-requires-clause-low g c = c.requires.low

pub build_view-requires-clause-log : goal.build_view-requires-clause-log
build_view-requires-clause-log g c = c.requires.log

pub build_view-requires-clause-entries : goal.build_view-requires-clause-entries
build_view-requires-clause-entries g c = λ image told.
    let v = volume_of c.args.g.now in
    let held = c.requires.inodes image told in
    ap (λ (gathered : Gathered). gathered.entries) held ∙ entries_of_files v image (flat_map (cluster_inodes v) c.args.clusters.now)
    ∙ ap (λ (gathered : Gathered). entries_read v image gathered.files) (sym held)

pub build_view-requires-clause-dirs : goal.build_view-requires-clause-dirs
build_view-requires-clause-dirs g c = λ image told.
    let v = volume_of c.args.g.now in
    let held = c.requires.inodes image told in
    ap (λ (gathered : Gathered). gathered.dirs) held ∙ dirs_of_files v image (flat_map (cluster_inodes v) c.args.clusters.now)
    ∙ ap (λ (gathered : Gathered). dirs_read v image gathered.files) (sym held)

pub build_view-requires-clause-known : goal.build_view-requires-clause-known
build_view-requires-clause-known g c = λ image told.
    let shape = c.args.g.now.shape in
    numbers_kept (volume_of c.args.g.now) image c.args.clusters.now c.deref.result.now c.args.facts.now shape.groups shape.addresses c.requires.ends
    (c.deref.ensures.value ∙ c.in-Ok.ensures) (c.requires.facts image told)

pub returns-in-Some : goal.returns-in-Some
returns-in-Some g c =
    let D = g.D.Disk in
    record {
      view = λ image told.
          let held = files_held (volume_of c.args.g.now) image c.args.groups c.args.clusters.now (held_in c.args.inodes) c.requires.clusters (c.requires.inodes image told) in
          c.apart.ensures.view ∙ ap Err c.missing.ensures
          ∙ file_missing c.args.g.now image c.args.groups _ (c.requires.groups image told) (held ∙ ap (λ unread. files_if unread c.args.inodes.files.items) c.in-Some.is);
      files = c.apart.ensures.files;
      cause = still _;
      disk = reads_none D.size D.holds D.write_faults D.writes D.tells_stops D.moment D.may_leave D.left_since c.args.disk.now;
      reads = still _;
    }

pub returns-in-Err : goal.returns-in-Err
returns-in-Err g c =
    let D = g.D.Disk in
    record { view = tt; files = tt; cause = still _; disk = reads_none D.size D.holds D.write_faults D.writes D.tells_stops D.moment D.may_leave D.left_since c.args.disk.now; reads = still _ }

pub returns-in-Ok-build_view : goal.returns-in-Ok-build_view
returns-in-Ok-build_view g c =
    let built = c.in-Ok-build_view.ensures in
    record {
      view = λ image told.
          let held = files_held (volume_of c.args.g.now) image c.args.groups c.args.clusters.now (held_in c.args.inodes) c.requires.clusters (c.requires.inodes image told) in
          ap Ok (c.in-Ok-build_view.ensures.catalog image told)
          ∙ all_read c.args.g.now image c.args.groups c.args.inodes.files.items (c.requires.groups image told) (held ∙ ap (λ unread. files_if unread c.args.inodes.files.items) c.in-None.is);
      files = built.files;
      cause = built.cause;
      disk = built.disk;
      reads = built.reads;
    }

pub returns : goal.returns
returns g c =
    let built = c.in-Err-build_view.ensures in
    record { view = tt; files = tt; cause = built.cause; disk = built.disk; reads = built.reads }
