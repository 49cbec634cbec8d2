use Rattle.std.proofs.Common.{inl, inr, arith, ◌∙◌}
use Rattle.xfs_dirbuild.proofs.Pairs.{pairs_at-more}
use Rattle.xfs_dirbuild.proofs.writing.write_pairs.Goals as goal

pub loop-k-preserved : goal.loop-k-preserved
loop-k-preserved c = record {
  pairs = pairs_at-more c.loop-k.block c.put_pair.new.block c.args.at c.loop-k.k c.args.pairs.now _ c.loop-k-test.true c.loop-k.invariant.pairs
      c.put_pair.ensures.keeps c.put_pair.ensures.pair;
  others = λ k side. elim side [
    | inl low ↦ c.put_pair.ensures.others k (inl (omega arith)) ∙ c.loop-k.invariant.others k (inl low)
    | inr high ↦ c.put_pair.ensures.others k (inr (omega arith)) ∙ c.loop-k.invariant.others k (inr (omega arith))
  ];
}
