use Rattle.std.proofs.Common.{refl, sym, ◌∙◌, arith, below_more}
use Rattle.std.proofs.lemmas.Bool.{and_from}
use Rattle.xfs_attr.specs.Leaf.{is_whole_entry}
use Rattle.xfs_attr.proofs.Steps.{all_more, not_all}
use Rattle.xfs_attr.proofs.soundness.are_whole.Goals as goal

pub returns-then-not-is_whole_entry-clause-value : goal.returns-then-not-is_whole_entry-clause-value
returns-then-not-is_whole_entry-clause-value c =
    sym (not_all (is_whole_entry c.args.block.now c.args.first) c.args.block.now c.args.count c.loop-index.index (omega arith) (sym c.if-not-is_whole_entry.ensures.value))

pub loop-index-preserved : goal.loop-index-preserved
loop-index-preserved c = record {
  whole =
      all_more (is_whole_entry c.args.block.now c.args.first) c.args.block.now c.loop-index.index
      ∙ and_from _ _ c.loop-index.invariant.whole (sym c.if-not-is_whole_entry.ensures.value);
  room = λ _. c.if-not-is_whole_entry.ensures.room refl;
  each = below_more _ _ c.loop-index.invariant.each (c.if-not-is_whole_entry.ensures.inside refl);
}
