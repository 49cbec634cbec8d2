use Rattle.std.proofs.Common.{List, ℕ, ◌++◌, ◌∙◌, ap}
use Rattle.xfs_geom.specs.Volumes.{volume_of}
use Rattle.xfs_changes.specs.Replaced.{replaced_blocks}
use Rattle.xfs_rename.proofs.wanting.reserved_with.Goals as goal

pub returns : goal.returns
returns c =
    c.in_ok-push_replaced.ensures
    ∙ ap (λ (blocks : List ℕ). blocks ++ replaced_blocks (volume_of c.args.g.now) c.args.rebuilt.now c.args.files.now) c.reserved_of-reserved.ensures
