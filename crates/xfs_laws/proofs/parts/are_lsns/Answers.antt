use Rattle.std.proofs.Common.{◌<◌, not-le_of_lt}
use Rattle.xfs_volume.specs.declared.catalogs.BlockLsn.{BlockLsn}
use Rattle.xfs_laws.proofs.Tests.{all_pass, item_fails, item_more, none_yet}
use Rattle.xfs_laws.proofs.parts.are_lsns.Goals as goal

abbrev no_lsn : BlockLsn
no_lsn = record { block = 0; lsn = 0 }

pub loop-lsn-init : goal.loop-lsn-init
loop-lsn-init c = none_yet (λ (l : BlockLsn). l.block < c.args.g.now.dblocks) c.args.lsns.now

pub loop-lsn-preserved : goal.loop-lsn-preserved
loop-lsn-preserved c =
    item_more (λ (l : BlockLsn). l.block < c.args.g.now.dblocks) c.args.lsns.now c.loop-lsn.lsn-index c.loop-lsn.invariant no_lsn
    c.loop-lsn-test.true c.if-lsn-g.false

pub returns-then-lsn-g : goal.returns-then-lsn-g
returns-then-lsn-g c =
    item_fails (λ (l : BlockLsn). l.block < c.args.g.now.dblocks) c.args.lsns.now c.loop-lsn.lsn-index no_lsn c.loop-lsn-test.true
    (λ less. not-le_of_lt less c.if-lsn-g.true)

pub returns : goal.returns
returns c =
    all_pass (λ (l : BlockLsn). l.block < c.args.g.now.dblocks) c.args.lsns.now c.loop-lsn.lsn-index c.loop-lsn-test.false c.loop-lsn.invariant
