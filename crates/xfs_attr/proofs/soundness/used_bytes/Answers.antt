use Rattle.std.proofs.Common.{◌≡◌, ap, ◌∙◌, arith}
use Rattle.xfs_attr.specs.declared.entries.LeafEntry.{LeafEntry}
use Rattle.xfs_attr.specs.Leaf.{leaf_entry_size, leaf_entry_at}
use Rattle.xfs_attr.proofs.Steps.{some_bytes, sum_more}
use Rattle.xfs_attr.proofs.soundness.used_bytes.Goals as goal

pub leaf_entry_size-used-requires : goal.leaf_entry_size-used-requires
leaf_entry_size-used-requires c =
    let block = c.args.block.now in
    let some = some_bytes block (leaf_entry_at block c.loop-index.index) in
    let inside = c.requires.inside.each c.loop-index.index (omega arith) in
    let same = ap (λ (e : LeafEntry). e.nameidx) c.read_entry.ensures in
    omega (arith, some, inside, same)

pub loop-index-preserved : goal.loop-index-preserved
loop-index-preserved c =
    let block = c.args.block.now in
    let more = sum_more (leaf_entry_size block) block c.loop-index.index in
    let same : c.leaf_entry_size-used.result ≡ leaf_entry_size block (leaf_entry_at block c.loop-index.index) = c.leaf_entry_size-used.ensures.value ∙ ap (leaf_entry_size block) c.read_entry.ensures in
    (cc, omega (arith, c.leaf_entry_size-used.ensures.most, c.loop-index.invariant))
