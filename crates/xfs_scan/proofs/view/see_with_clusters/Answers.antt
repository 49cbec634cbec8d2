use Rattle.std.proofs.Common.{◌∙◌}
use Rattle.xfs_geom.specs.Volumes.{volume_of}
use Rattle.xfs_slots.specs.Gathered.{held_in}
use Rattle.xfs_slots.proofs.Rests.{given_by_candidates}
use Rattle.xfs_scan.proofs.Numbers.{ends_by_candidates, facts_by_candidates}
use Rattle.xfs_scan.proofs.view.see_with_clusters.Goals as goal

pub see_same-requires-clause-inside : goal.see_same-requires-clause-inside
see_same-requires-clause-inside g c = c.requires.inside

pub see_same-requires-clause-few : goal.see_same-requires-clause-few
see_same-requires-clause-few g c = c.requires.few

pub see_same-requires-clause-groups : goal.see_same-requires-clause-groups
see_same-requires-clause-groups g c = c.requires.groups

pub see_same-requires-clause-clusters : goal.see_same-requires-clause-clusters
see_same-requires-clause-clusters g c = c.requires.clusters

pub see_same-requires-clause-low : goal.see_same-requires-clause-low
see_same-requires-clause-low g c = c.requires.low

pub see_same-requires-clause-log : goal.see_same-requires-clause-log
see_same-requires-clause-log g c = c.requires.log

pub see_recorded-requires-clause-inside : goal.see_recorded-requires-clause-inside
see_recorded-requires-clause-inside g c = c.requires.inside

pub see_recorded-requires-clause-few : goal.see_recorded-requires-clause-few
see_recorded-requires-clause-few g c = c.requires.few

pub see_recorded-requires-clause-groups : goal.see_recorded-requires-clause-groups
see_recorded-requires-clause-groups g c = c.requires.groups

pub see_recorded-requires-clause-clusters : goal.see_recorded-requires-clause-clusters
see_recorded-requires-clause-clusters g c = c.requires.clusters

pub see_recorded-requires-clause-low : goal.see_recorded-requires-clause-low
see_recorded-requires-clause-low g c = c.requires.low

pub see_recorded-requires-clause-log : goal.see_recorded-requires-clause-log
see_recorded-requires-clause-log g c = c.requires.log

pub see_same-requires-clause-ends : goal.see_same-requires-clause-ends
see_same-requires-clause-ends g c = ends_by_candidates c.args.g.now.dblocks c.args.clusters.now c.args.scanned.now (c.are_candidates.ensures.0 c.if-are_candidates.true) c.requires.ends

pub see_same-requires-clause-facts : goal.see_same-requires-clause-facts
see_same-requires-clause-facts g c = λ image told.
    facts_by_candidates (volume_of c.args.g.now) image c.args.clusters.now c.args.scanned.now c.args.facts.now
    (c.requires.scanned image told) (c.are_candidates.ensures.0 c.if-are_candidates.true) (c.requires.facts image told)

pub see_same-requires-clause-inodes : goal.see_same-requires-clause-inodes
see_same-requires-clause-inodes g c = λ image told.
    given_by_candidates (volume_of c.args.g.now) image c.args.clusters.now c.args.scanned.now (held_in c.args.inodes)
    (c.requires.scanned image told) (c.are_candidates.ensures.0 c.if-are_candidates.true) (c.requires.inodes image told)

pub returns-then-are_candidates : goal.returns-then-are_candidates
returns-then-are_candidates g c =
    let done = c.see_same.ensures in
    record { view = done.view; files = done.files; cause = done.cause; disk = done.disk; reads = done.reads }

pub returns-in-Ok : goal.returns-in-Ok
returns-in-Ok g c = record {
  view = λ image told. c.apart.ensures.view ∙ c.in-Ok.ensures.view image told;
  files = c.apart.ensures.files;
  cause = c.in-Ok.ensures.cause;
  disk = c.see_recorded.ensures.disk;
  reads = c.see_recorded.ensures.reads;
}

pub returns-in-Err : goal.returns-in-Err
returns-in-Err g c =
    let failed = c.in-Err.ensures in
    record { view = tt; files = tt; cause = failed.cause; disk = failed.disk; reads = failed.reads }
