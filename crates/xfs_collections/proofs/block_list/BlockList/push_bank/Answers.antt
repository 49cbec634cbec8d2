use Rattle.std.proofs.Common.{◌<◌, ◌++◌, ◌∙◌, length, take_all, arith, ap}
use Rattle.xfs_disk.specs.Blocks.{Image}
use Rattle.xfs_collections.proofs.Lists.{next_of_bank}
use Rattle.xfs_collections.proofs.block_list.BlockList.push_bank.Goals as goal

pub loop-i-preserved : goal.loop-i-preserved
loop-i-preserved c =
    let bank = c.args.bank.now in
    let count = c.len-i-end.ensures.count in
    let less = c.loop-i-test.true in
    let low : c.loop-i.i < length bank = omega (arith, count, less) in
    record {
      all = next_of_bank bank c.args.self.now c.loop-i.self c.push.new.self c.loop-i.i c.view.result.now c.view.ensures.block low c.loop-i.invariant.all c.in_ok-push.ensures;
    }

pub returns : goal.returns
returns c =
    let bank = c.args.bank.now in
    let count = c.len-i-end.ensures.count in
    let past = c.loop-i-test.false in
    c.loop-i.invariant.all ∙ ap (λ (xs : Image). c.args.self.now ++ xs) (take_all c.loop-i.i bank (omega (arith, count, past)))
