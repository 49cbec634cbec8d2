use Rattle.std.proofs.Common.{◌≡◌, ℕ, ◌+◌, ◌*◌, List, map, sym, ap, subst, arith}
use Rattle.xfs_geom.specs.Volumes.{volume_of}
use Rattle.xfs_geom.specs.declared.records.RmapRec.{RmapRec}
use Rattle.xfs_space.specs.Maps.{AreAlike, AreMapped, IsFirstUnlike}
use Rattle.xfs_space.specs.SpaceLaws.{recorded_run, recorded_runs}
use Rattle.xfs_space.proofs.FreeLaws.{apart, follow_low}
use Rattle.xfs_space.proofs.OwnerLaws.{alike_next, alike_whole, all_alike, front_mapped, here_of, law_differs, law_kept, records_mapped}
use Rattle.xfs_space.proofs.recorded.owner_law.Goals as goal

pub split_runs-requires-clause-follow : goal.split_runs-requires-clause-follow
split_runs-requires-clause-follow c = follow_low c.loop-index.rest.now 0 (c.loop-index.index * c.args.g.now.agblocks) (omega arith) c.loop-index.invariant.left.follow

pub split_runs-requires-clause-apart : goal.split_runs-requires-clause-apart
split_runs-requires-clause-apart c =
    apart (volume_of c.args.g.now) c.loop-index.rest.now c.loop-index.index (c.start_of_group-base.result + c.args.g.now.agblocks) (omega (arith, c.start_of_group-base.ensures.value))
    c.loop-index.invariant.left.groups

pub group_owner_law-requires-clause-recorded : goal.group_owner_law-requires-clause-recorded
group_owner_law-requires-clause-recorded c =
    let g = c.index-groups-index.result in
    let front = c.split_runs.result.0.now in
    let back = c.split_runs.result.1.now in
    let here = here_of c.args.g.now c.args.groups.now c.args.runs.now c.loop-index.rest.now c.loop-index.index g c.start_of_group-base.result front back c.start_of_group-base.ensures.value
    c.loop-index.invariant c.loop-index-test.true c.index-groups-index.is c.split_runs.ensures c.requires.count in
    subst (λ (b : ℕ). AreMapped (map (recorded_run b) c.as_slice.result.now)) (sym c.start_of_group-base.ensures.value)
    (subst (λ (rs : List RmapRec). AreMapped (map (recorded_run (c.loop-index.index * c.args.g.now.agblocks)) rs)) (sym c.as_slice.ensures)
    (records_mapped (volume_of c.args.g.now) c.args.groups.now c.args.runs.now c.loop-index.rest.now c.loop-index.index g front back here))

pub group_owner_law-requires-clause-owned : goal.group_owner_law-requires-clause-owned
group_owner_law-requires-clause-owned c =
    let g = c.index-groups-index.result in
    let front = c.split_runs.result.0.now in
    let back = c.split_runs.result.1.now in
    let here = here_of c.args.g.now c.args.groups.now c.args.runs.now c.loop-index.rest.now c.loop-index.index g c.start_of_group-base.result front back c.start_of_group-base.ensures.value
    c.loop-index.invariant c.loop-index-test.true c.index-groups-index.is c.split_runs.ensures c.requires.count in
    front_mapped (volume_of c.args.g.now) c.args.groups.now c.args.runs.now c.loop-index.rest.now c.loop-index.index g front back here

pub returns-in-Some-clause-law : goal.returns-in-Some-clause-law
returns-in-Some-clause-law c =
    let g = c.index-groups-index.result in
    let front = c.split_runs.result.0.now in
    let back = c.split_runs.result.1.now in
    let here = here_of c.args.g.now c.args.groups.now c.args.runs.now c.loop-index.rest.now c.loop-index.index g c.start_of_group-base.result front back c.start_of_group-base.ensures.value
    c.loop-index.invariant c.loop-index-test.true c.index-groups-index.is c.split_runs.ensures c.requires.count in
    law_differs (volume_of c.args.g.now) c.args.groups.now c.args.runs.now c.loop-index.rest.now c.loop-index.index g front back here c.in-Some.law
    (subst (λ (b : ℕ). IsFirstUnlike (map (recorded_run b) g.rmap) front c.in-Some.law) c.start_of_group-base.ensures.value
    (subst (λ (rs : List RmapRec). IsFirstUnlike (map (recorded_run c.start_of_group-base.result) rs) front c.in-Some.law) c.as_slice.ensures c.in-Some.ensures))

pub loop-index-init : goal.loop-index-init
loop-index-init c = alike_whole (volume_of c.args.g.now) c.args.groups.now c.args.runs.now c.requires.lawful c.requires.follow c.requires.groups c.requires.owned

pub loop-index-preserved : goal.loop-index-preserved
loop-index-preserved c =
    let g = c.index-groups-index.result in
    let front = c.split_runs.result.0.now in
    let back = c.split_runs.result.1.now in
    let here = here_of c.args.g.now c.args.groups.now c.args.runs.now c.loop-index.rest.now c.loop-index.index g c.start_of_group-base.result front back c.start_of_group-base.ensures.value
    c.loop-index.invariant c.loop-index-test.true c.index-groups-index.is c.split_runs.ensures c.requires.count in
    alike_next (volume_of c.args.g.now) c.args.groups.now c.args.runs.now c.loop-index.rest.now c.loop-index.index g front back here
    (subst (λ (b : ℕ). AreAlike (map (recorded_run b) g.rmap) front) c.start_of_group-base.ensures.value
    (subst (λ (rs : List RmapRec). AreAlike (map (recorded_run c.start_of_group-base.result) rs) front) c.as_slice.ensures c.in-None.ensures))

pub returns-clause-alike : goal.returns-clause-alike
returns-clause-alike c =
    let end : c.loop-index.index ≡ c.args.g.now.agcount = omega (arith, c.requires.count) in
    let blocks : c.loop-index.index * c.args.g.now.agblocks ≡ c.args.g.now.agcount * c.args.g.now.agblocks = ap (λ (n : ℕ). n * c.args.g.now.agblocks) end in
    let covered = c.args.g.now.shape.groups.covered in
    all_alike (volume_of c.args.g.now) c.args.groups.now c.args.runs.now c.loop-index.rest.now c.loop-index.index c.loop-index.invariant c.loop-index-test.false (omega (arith, blocks, covered))

pub returns-clause-law : goal.returns-clause-law
returns-clause-law c = sym (law_kept (volume_of c.args.g.now) (recorded_runs c.args.g.now.agblocks 0 c.args.groups.now) c.args.runs.now (returns-clause-alike c))
