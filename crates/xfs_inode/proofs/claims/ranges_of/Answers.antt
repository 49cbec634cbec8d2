use Rattle.std.proofs.Common.{ℕ, nat_lt, List, ◌++◌, map, IsTrue, sym, ◌∙◌, subst}
use Rattle.std.proofs.lemmas.Result.{IfOk-from_err}
use Rattle.std.specs.List.{All}
use Rattle.xfs_word.specs.declared.extents.Extent.{Extent}
use Rattle.xfs_geom.specs.Volumes.{volume_of}
use Rattle.xfs_kinds.specs.FileTrees.{is_extent}
use Rattle.xfs_inode.specs.Files.{range_of, range_of_block}
use Rattle.xfs_inode.proofs.Placed.{blocks_placed}
use Rattle.xfs_inode.proofs.Runs.{all_placed}
use Rattle.xfs_inode.proofs.claims.ranges_of.Goals as goal

pub push_extents-requires : goal.push_extents-requires
push_extents-requires c =
    subst (λ extents. All (λ (e : Extent). IsTrue (is_extent (volume_of c.args.g.now) e)) extents) (sym c.extents.ensures)
    (all_placed (volume_of c.args.g.now) c.args.held.now c.requires)

pub push_blocks-requires : goal.push_blocks-requires
push_blocks-requires c =
    subst (λ (blocks : List ℕ). All (λ (b : ℕ). IsTrue (nat_lt b c.args.g.now.dblocks)) blocks) (sym c.blocks-2.ensures)
    (blocks_placed (volume_of c.args.g.now) c.args.held.now c.requires)

pub returns-in_err-push_extents : goal.returns-in_err-push_extents
returns-in_err-push_extents c = IfOk-from_err c.from_residual.result _ c.from_residual.ensures.0

pub returns-in_err-push_blocks : goal.returns-in_err-push_blocks
returns-in_err-push_blocks c = IfOk-from_err c.from_residual-in_err-push_blocks.result _ c.from_residual-in_err-push_blocks.ensures.0

pub returns : goal.returns
returns c =
    let v = volume_of c.args.g.now in
    let first = c.in_ok-push_extents.ensures ∙ (λ i. c.new-runs.ensures.items i ++ map (range_of v) (c.extents.ensures i)) in
    c.in_ok-push_blocks.ensures ∙ (λ i. first i ++ map range_of_block (c.blocks-2.ensures i))
