use Rattle.std.proofs.Common.{◌≡◌, ◌^◌, ◌≤◌, ◌&&◌, List, IfOk, sym, subst, arith}
use Rattle.xfs_disk.specs.Lists.{is_among}
use Rattle.xfs_geom.specs.Volumes.{volume_of}
use Rattle.xfs_volume.specs.declared.clusters.ClusterRec.{ClusterRec}
use Rattle.xfs_volume.specs.declared.files.FileRec.{FileRec}
use Rattle.xfs_naming.specs.Naming.{NumbersAscend, numbers_of}
use Rattle.xfs_views.proofs.xfs_laws.Roots.{root_low}
use Rattle.xfs_views.specs.Standing.{stands}
use Rattle.xfs_salvage.specs.Claimable.{AscendClaiming}
use Rattle.xfs_salvage.specs.Kept.{dirs_among, entries_among, fresh_among}
use Rattle.xfs_salvage.proofs.Ascending.{claiming_ascend, filtered}
use Rattle.xfs_salvage.proofs.Directories.{files_are_kept}
use Rattle.xfs_salvage.proofs.keeping.salvage.Goals as goal

pub with_names-requires-clause-low : goal.with_names-requires-clause-low
with_names-requires-clause-low g c =
    let v = c.args.g.now in
    let some : 1 ≤ 2 ^ v.agblklog = omega (arith, v.shape.addresses.enough, v.shape.groups.large) in
    root_low v.agcount v.agblocks (2 ^ v.agblklog) v.dblocks v.rootino v.shape.groups.two v.shape.groups.last v.shape.groups.small v.shape.addresses.least some v.shape.root.group

pub with_names-requires-clause-ascend : goal.with_names-requires-clause-ascend
with_names-requires-clause-ascend g c =
    let v = volume_of c.args.g.now in
    subst (λ (fs : List FileRec). NumbersAscend 0 (numbers_of fs)) (sym c.files_that_stay-files.ensures)
    (filtered (λ (f : FileRec). is_among c.as_slice-3.result.now f.ino && stands c.args.g.now.rootino f) 0 c.args.found.files
    (claiming_ascend v 0 c.args.found.files (subst (λ (fs : List FileRec). AscendClaiming v 0 fs) c.as_slice-2.ensures c.in_ok-clusters.ensures.can.files_claim)))

pub returns-clause-files : goal.returns-clause-files
returns-clause-files g c =
    let v = volume_of c.args.g.now in
    let numbers : c.as_slice-3.result.now ≡ c.in_ok-clusters.field-0.files = cc (c.as_slice-3.ensures, c.in_ok-clusters.numbers-is) in
    subst (λ (fs : List FileRec). IfOk c.with_names.result (λ kept. kept.files ≡ fs))
    (files_are_kept v c.args.found.clusters c.as_slice.result.now c.args.found.files c.as_slice-2.result.now c.files_that_stay-files.result c.as_slice-3.result.now c.as_slice.ensures c.as_slice-2.ensures
    (cc (numbers, c.in_ok-clusters.ensures.files)) c.files_that_stay-files.ensures)
    c.with_names.ensures.files

pub returns-clause-fresh : goal.returns-clause-fresh
returns-clause-fresh g c =
    let v = volume_of c.args.g.now in
    let numbers : c.as_slice-3.result.now ≡ c.in_ok-clusters.field-0.files = cc (c.as_slice-3.ensures, c.in_ok-clusters.numbers-is) in
    subst (λ (fs : List FileRec). IfOk c.with_names.result (λ kept. kept.fresh ≡ fresh_among fs c.args.g.now.rootino))
    (files_are_kept v c.args.found.clusters c.as_slice.result.now c.args.found.files c.as_slice-2.result.now c.files_that_stay-files.result c.as_slice-3.result.now c.as_slice.ensures c.as_slice-2.ensures
    (cc (numbers, c.in_ok-clusters.ensures.files)) c.files_that_stay-files.ensures)
    c.with_names.ensures.fresh

pub returns-clause-entries : goal.returns-clause-entries
returns-clause-entries g c =
    let v = volume_of c.args.g.now in
    let numbers : c.as_slice-3.result.now ≡ c.in_ok-clusters.field-0.files = cc (c.as_slice-3.ensures, c.in_ok-clusters.numbers-is) in
    subst (λ (fs : List FileRec). IfOk c.with_names.result (λ kept. kept.entries ≡ entries_among fs c.args.found.entries))
    (files_are_kept v c.args.found.clusters c.as_slice.result.now c.args.found.files c.as_slice-2.result.now c.files_that_stay-files.result c.as_slice-3.result.now c.as_slice.ensures c.as_slice-2.ensures
    (cc (numbers, c.in_ok-clusters.ensures.files)) c.files_that_stay-files.ensures)
    c.with_names.ensures.entries

pub returns-clause-dirs : goal.returns-clause-dirs
returns-clause-dirs g c =
    let v = volume_of c.args.g.now in
    let numbers : c.as_slice-3.result.now ≡ c.in_ok-clusters.field-0.files = cc (c.as_slice-3.ensures, c.in_ok-clusters.numbers-is) in
    subst (λ (fs : List FileRec). IfOk c.with_names.result (λ kept. kept.dirs ≡ dirs_among fs c.args.found.dirs))
    (files_are_kept v c.args.found.clusters c.as_slice.result.now c.args.found.files c.as_slice-2.result.now c.files_that_stay-files.result c.as_slice-3.result.now c.as_slice.ensures c.as_slice-2.ensures
    (cc (numbers, c.in_ok-clusters.ensures.files)) c.files_that_stay-files.ensures)
    c.with_names.ensures.dirs
