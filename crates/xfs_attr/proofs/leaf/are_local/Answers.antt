use Rattle.std.proofs.Common.{ap, sym, ◌∙◌, arith}
use Rattle.std.proofs.lemmas.Bool.{and_from}
use Rattle.xfs_attr.specs.Leaf.{is_local}
use Rattle.xfs_attr.proofs.Steps.{all_more, not_all}
use Rattle.xfs_attr.proofs.leaf.are_local.Goals as goal

pub returns-then-not-is_local : goal.returns-then-not-is_local
returns-then-not-is_local c =
    sym (not_all is_local c.args.block.now c.args.count c.loop-index.index (omega arith) (ap is_local (sym c.read_entry.ensures) ∙ sym c.if-not-is_local.ensures))

pub loop-index-preserved : goal.loop-index-preserved
loop-index-preserved c =
    all_more is_local c.args.block.now c.loop-index.index
    ∙ and_from _ _ c.loop-index.invariant (ap is_local (sym c.read_entry.ensures) ∙ sym c.if-not-is_local.ensures)
