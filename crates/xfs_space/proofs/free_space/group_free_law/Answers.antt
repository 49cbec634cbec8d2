use Rattle.std.proofs.Common.{◌∙◌, ap}
use Rattle.xfs_geom.specs.Volumes.{volume_of}
use Rattle.xfs_kinds.specs.Lengths.{by_length}
use Rattle.xfs_space.proofs.FreeLaws.{first_tree, second_tree}
use Rattle.xfs_space.proofs.free_space.group_free_law.Goals as goal

pub returns-in-Some : goal.returns-in-Some
returns-in-Some c =
    first_tree (volume_of c.args.g.now) c.args.ag c.args.group.now c.args.runs.now c.as_slice.result.now c.deref.result.now c.in-Some.law c.as_slice.ensures
    (c.deref.ensures.value ∙ c.in_ok-free.ensures) c.in-Some.ensures

pub returns : goal.returns
returns c =
    second_tree (volume_of c.args.g.now) c.args.ag c.args.group.now c.args.runs.now c.as_slice.result.now c.deref.result.now c.as_slice-in-None.result.now c.deref-in-None-2.result.now
    c.spans_law-in-None.result c.as_slice.ensures (c.deref.ensures.value ∙ c.in_ok-free.ensures) c.as_slice-in-None.ensures
    (c.deref-in-None-2.ensures.value ∙ c.in_ok-ranked-in-None.ensures.value ∙ ap by_length (c.deref-in-None.ensures.value ∙ c.in_ok-free.ensures)) c.in-None.ensures c.spans_law-in-None.ensures
