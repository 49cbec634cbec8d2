use Rattle.std.proofs.Common.{◌+◌, sym, arith}
use Rattle.std.proofs.lemmas.Bool.{lt-leb, and_right}
use Rattle.xfs_attr.specs.Leaf.{leaf_entry_size}
use Rattle.xfs_attr.proofs.Steps.{some_bytes}
use Rattle.xfs_attr.proofs.soundness.lies_from.Goals as goal

pub returns-then-at-gt-BLOCK_SIZE-clause-value : goal.returns-then-at-gt-BLOCK_SIZE-clause-value
returns-then-at-gt-BLOCK_SIZE-clause-value c =
    let some = some_bytes c.args.block.now c.args.entry in
    sym (and_right _ _ (lt-leb (c.args.entry.nameidx + leaf_entry_size c.args.block.now c.args.entry) 4096 (omega (arith, some))))
