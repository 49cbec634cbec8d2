use Rattle.std.proofs.Common.{◌<◌, ◌^◌, [], List, length, sym, ap, subst, ◌∙◌, arith}
use Rattle.std.specs.List.{All}
use Rattle.xfs_geom.specs.Volumes.{volume_of}
use Rattle.xfs_place.specs.declared.placed.GroupPlaced.{GroupPlaced}
use Rattle.xfs_place.specs.declared.wanted.GroupInodes.{GroupInodes}
use Rattle.xfs_place.specs.Counts.{placed_counts}
use Rattle.xfs_place.proofs.AllPlaced.{rooms_small}
use Rattle.xfs_place.proofs.placing.placed_of.Goals as goal

pub count_all-counts-requires-clause-small : goal.count_all-counts-requires-clause-small
count_all-counts-requires-clause-small c =
    let w = c.args.wanted.now in
    subst (λ (gs : List GroupPlaced). (placed_counts [] gs).fdblocks < 2 ^ 64) (sym c.deref.ensures.value)
    (rooms_small (volume_of w.geometry) c.requires.placed.0 w.reserved w.inodes w.geometry.agcount c.args.groups.items w.geometry.shape.groups w.geometry.shape.groups.few c.requires.placed.1)

pub count_all-counts-requires-clause-groups : goal.count_all-counts-requires-clause-groups
count_all-counts-requires-clause-groups c =
    let w = c.args.wanted.now in
    let few = w.geometry.shape.groups.few in (
      omega (arith, ap length c.as_slice.ensures, c.requires.inodes, few),
      omega (arith, ap length c.deref.ensures.value, c.requires.placed.1.all, few),
    )

pub count_all-counts-requires-clause-few : goal.count_all-counts-requires-clause-few
count_all-counts-requires-clause-few c = subst (All (λ (group : GroupInodes). length group.records < 2 ^ 32)) (sym c.as_slice.ensures) c.requires.few

pub returns-clause-runs : goal.returns-clause-runs
returns-clause-runs c = c.from_vec.ensures

pub returns-clause-cuts : goal.returns-clause-cuts
returns-clause-cuts c = c.from_vec-2.ensures

pub returns-clause-groups : goal.returns-clause-groups
returns-clause-groups c = c.from_vec-3.ensures

pub returns-clause-counts : goal.returns-clause-counts
returns-clause-counts c =
    c.count_all-counts.ensures ∙ ap (λ (is : List GroupInodes). placed_counts is c.deref.result.now) c.as_slice.ensures ∙ ap (placed_counts c.args.wanted.now.inodes) c.deref.ensures.value
