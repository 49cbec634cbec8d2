use Rattle.std.proofs.Common.{◌∙◌, ap₂, false, ℕ, List, map}
use Rattle.std.specs.List.{range_with_len}
use Rattle.xfs_geom.specs.Volumes.{volume_of}
use Rattle.xfs_geom.specs.declared.records.Run.{Run}
use Rattle.xfs_place.specs.Pool.{is_pool}
use Rattle.xfs_place.specs.Sparing.{spared_of}
use Rattle.xfs_rename.proofs.SparedGroups.{each_is}
use Rattle.xfs_rename.proofs.lost.spared_of.Goals as goal

pub returns : goal.returns
returns c =
    let v = volume_of c.args.g.now in
    let n = c.args.g.now.agcount in
    each_is (spared_of v (is_pool v c.as_slice.result.now c.as_slice-2.result.now) false) n c.in_ok-spared.spared c.in_ok-spared.ensures.all c.in_ok-spared.ensures.each
    ∙ ap₂ (λ (runs : List Run) (blocks : List ℕ). map (spared_of v (is_pool v runs blocks) false) (range_with_len 0 n)) c.as_slice.ensures c.as_slice-2.ensures
