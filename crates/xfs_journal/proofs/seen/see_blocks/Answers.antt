use Rattle.std.proofs.Common.{ℕ, List, ◌++◌, ◌/◌, length, ap, ◌∙◌, arith}
use Rattle.xfs_tree.specs.Blocks.{each_of}
use Rattle.xfs_journal.specs.Placed.{sectors_of, seen_in}
use Rattle.xfs_journal.proofs.LogSeen.{seen_all, seen_more}
use Rattle.xfs_journal.proofs.seen.see_blocks.Goals as goal

pub loop-k-preserved : goal.loop-k-preserved
loop-k-preserved c =
    record {
      seen = seen_more c.args.run.now c.loop-k.k (length c.args.run.now / 4096) (sectors_of c.loop-k.log) (sectors_of c.see_block.new.log) _ c.loop-k-test.true
          (c.in_ok-see_block.ensures.seen ∙ ap (λ (block : List ℕ). sectors_of c.loop-k.log ++ each_of 8 (seen_in block)) c.part.ensures.value) c.loop-k.invariant.seen;
      listed = c.in_ok-see_block.ensures.listed;
    }

pub returns : goal.returns
returns c =
    record {
      seen = seen_all c.args.run.now c.loop-k.k (length c.args.run.now / 4096) (sectors_of c.loop-k.log) _ (omega (arith, c.loop-k-test.false)) c.loop-k.invariant.seen;
      listed = c.loop-k.invariant.listed;
    }
