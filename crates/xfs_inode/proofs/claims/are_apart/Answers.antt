use Rattle.std.proofs.Common.{◌∙◌, ap, subst}
use Rattle.std.specs.List.Sorted.{IsPermutation}
use Rattle.xfs_geom.specs.Volumes.{volume_of}
use Rattle.xfs_inode.specs.Private.Claims.{in_turn}
use Rattle.xfs_inode.proofs.Runs.{placed_turns}
use Rattle.xfs_inode.proofs.claims.are_apart.Goals as goal

pub returns : goal.returns
returns c =
    c.in_turn.ensures
    ∙ ap (in_turn 0) c.deref-2.ensures.value
    ∙ placed_turns (volume_of c.args.g.now) c.args.held.now c.in_ok-ranked.ranked.items c.requires
    (subst (λ xs. IsPermutation xs c.in_ok-ranked.ranked.items) (c.deref.ensures.value ∙ c.in_ok-runs.ensures) c.in_ok-ranked.ensures.moved)
    c.in_ok-ranked.ensures.ranked
