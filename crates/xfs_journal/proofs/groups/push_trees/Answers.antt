use Rattle.std.proofs.Common.{◌<◌, ◌≤◌, ◌≡◌, ◌++◌, List, get_or, length, map, refl, ap, subst, ◌∙◌, arith}
use Rattle.std.proofs.lemmas.Result.{IfOk-from_err}
use borrow.Author.Count.{falls}
use Rattle.xfs_image.specs.Lsns.{at}
use Rattle.xfs_volume.specs.declared.groups.TreeBlocks.{TreeBlocks}
use Rattle.xfs_journal.specs.Placed.{listed}
use Rattle.xfs_journal.proofs.Listing.{held_all, held_more}
use Rattle.xfs_journal.proofs.groups.push_trees.Goals as goal

pub loop-tree-init : goal.loop-tree-init
loop-tree-init c = record { listed = refl; inside = c.requires.inside }

pub push_each-requires-clause-inside : goal.push_each-requires-clause-inside
push_each-requires-clause-inside c = c.loop-tree.invariant.inside

pub returns-in_err-push_each-clause-listed : goal.returns-in_err-push_each-clause-listed
returns-in_err-push_each-clause-listed c = IfOk-from_err c.from_residual.result _ c.from_residual.ensures.0

pub returns-in_err-push_each-clause-inside : goal.returns-in_err-push_each-clause-inside
returns-in_err-push_each-clause-inside c = c.push_each.ensures.inside

pub loop-tree-smaller : goal.loop-tree-smaller
loop-tree-smaller c = falls (length c.as_slice-tree-items.result.now) c.loop-tree.tree-index c.loop-tree-test.true

pub loop-tree-preserved : goal.loop-tree-preserved
loop-tree-preserved c =
    let trees = c.args.group.now.blocks in
    let i = c.loop-tree.tree-index in
    let tree = c.tree-item.result in
    record {
      listed = held_more (λ (t : TreeBlocks). map (at 24) t.blocks) tree trees i (listed c.loop-tree.places.items) (listed c.push_each.new.places.items) _
          (subst (λ (ts : List TreeBlocks). i < length ts) c.as_slice-tree-items.ensures c.loop-tree-test.true)
          (subst (λ (ts : List TreeBlocks). tree ≡ get_or ts i tree) c.as_slice-tree-items.ensures c.tree-item.is)
          (c.in_ok-push_each.ensures.listed ∙ ap (λ blocks. listed c.loop-tree.places.items ++ map (at 24) blocks) c.as_slice.ensures) c.loop-tree.invariant.listed;
      inside = c.push_each.ensures.inside;
    }

pub returns-clause-listed : goal.returns-clause-listed
returns-clause-listed c =
    let trees = c.args.group.now.blocks in
    let past = subst (λ (ts : List TreeBlocks). length ts ≤ c.loop-tree.tree-index) c.as_slice-tree-items.ensures (omega (arith, c.loop-tree-test.false)) in
    held_all (λ (t : TreeBlocks). map (at 24) t.blocks) trees c.loop-tree.tree-index (listed c.loop-tree.places.items) _ past c.loop-tree.invariant.listed

pub returns-clause-inside : goal.returns-clause-inside
returns-clause-inside c = c.loop-tree.invariant.inside
