use Rattle.std.proofs.Common.{ℕ, List, ap, ◌∙◌}
use Rattle.xfs_geom.specs.Volumes.{volume_of}
use Rattle.xfs_slots.specs.Gathered.{Gathered, gathered, inodes_of_blocks, gathered_both}
use Rattle.xfs_slots.proofs.Rests.{inodes_of_firsts}
use Rattle.xfs_scan.proofs.view.see_clusters.Goals as goal

pub returns-in-Ok-look_at-clause-inodes : goal.returns-in-Ok-look_at-clause-inodes
returns-in-Ok-look_at-clause-inodes g c = λ image told.
    let v = volume_of c.args.g.now in
    c.in-Ok-look_at.ensures.held image told
    ∙ ap (λ (before : Gathered). gathered_both before (gathered v image (inodes_of_blocks v c.deref.result.now))) c.new-inodes.ensures
    ∙ ap (λ (blocks : List ℕ). gathered v image (inodes_of_blocks v blocks)) (c.deref.ensures.value ∙ c.in-Ok.ensures.blocks)
    ∙ ap (gathered v image) (inodes_of_firsts v c.args.clusters.now)
