use Rattle.std.proofs.Common.{◌≤◌, ◌<◌, ◌^◌, List, length, sym, ap, subst, ◌∙◌, arith}
use Rattle.std.specs.List.{All}
use Rattle.xfs_geom.specs.Volumes.{volume_of}
use Rattle.xfs_disk.proofs.Reading.{reads_none}
use Rattle.xfs_image.specs.Files.{clusters_of}
use Rattle.xfs_volume.specs.declared.groups.GroupRec.{GroupRec}
use Rattle.xfs_scan.proofs.view.see_with_groups.Goals as goal

pub see_with_clusters-requires-clause-inside : goal.see_with_clusters-requires-clause-inside
see_with_clusters-requires-clause-inside g c = c.requires.inside

pub see_with_clusters-requires-clause-groups : goal.see_with_clusters-requires-clause-groups
see_with_clusters-requires-clause-groups g c = c.requires.groups

pub see_with_clusters-requires-clause-scanned : goal.see_with_clusters-requires-clause-scanned
see_with_clusters-requires-clause-scanned g c = c.requires.scanned

pub see_with_clusters-requires-clause-ends : goal.see_with_clusters-requires-clause-ends
see_with_clusters-requires-clause-ends g c = c.requires.ends

pub see_with_clusters-requires-clause-facts : goal.see_with_clusters-requires-clause-facts
see_with_clusters-requires-clause-facts g c = c.requires.facts

pub see_with_clusters-requires-clause-inodes : goal.see_with_clusters-requires-clause-inodes
see_with_clusters-requires-clause-inodes g c = c.requires.inodes

pub see_with_clusters-requires-clause-log : goal.see_with_clusters-requires-clause-log
see_with_clusters-requires-clause-log g c = c.requires.log

pub see_with_clusters-requires-clause-few : goal.see_with_clusters-requires-clause-few
see_with_clusters-requires-clause-few g c = subst (λ (gs : List GroupRec). length gs ≤ 512) c.as_slice.ensures c.in-Ok.ensures.few

pub see_with_clusters-requires-clause-clusters : goal.see_with_clusters-requires-clause-clusters
see_with_clusters-requires-clause-clusters g c = c.deref.ensures.value ∙ c.in-Ok.ensures.clusters ∙ ap (clusters_of (volume_of c.args.g.now)) c.as_slice.ensures

pub see_with_clusters-requires-clause-low : goal.see_with_clusters-requires-clause-low
see_with_clusters-requires-clause-low g c = subst (All (λ cluster. cluster < 2 ^ 42)) (sym c.deref.ensures.value) c.in-Ok.ensures.low

pub returns-in-Ok : goal.returns-in-Ok
returns-in-Ok g c =
    let done = c.see_with_clusters.ensures in
    record { view = done.view; files = done.files; cause = done.cause; disk = done.disk; reads = done.reads }

pub returns-in-Err : goal.returns-in-Err
returns-in-Err g c =
    let D = g.D.Disk in
    record {
      view = tt;
      files = tt;
      cause = omega arith;
      disk = reads_none D.size D.holds D.write_faults D.writes D.tells_stops D.moment D.may_leave D.left_since c.args.disk.now;
      reads = omega arith;
    }
