-- One more block has the primary.
use Rattle.std.proofs.Common.{◌<◌, length, arith, rules}
use Rattle.xfs_backups.proofs.Rows.{next_of_bank}
use Rattle.xfs_backups.specs.Backups.{with_super}
use Rattle.xfs_backups.proofs.backups.put_primary.Goals as goal

pub loop-i-preserved : goal.loop-i-preserved
loop-i-preserved c =
    let within : c.loop-i.i < length c.args.bank.now = omega (arith, c.loop-i-test.true, c.len-i-end.ensures.count) in
    record {
      done = next_of_bank (with_super c.args.primary.now) c.args.bank.now c.loop-i.bank c.put_backup.new.bank c.loop-i.i within c.loop-i.invariant.done c.put_backup.ensures;
      count = search rules;
    }
