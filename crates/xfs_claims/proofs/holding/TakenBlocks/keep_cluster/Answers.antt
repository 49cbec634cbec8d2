use Rattle.std.proofs.Common.{refl, sym}
use Rattle.xfs_claims.specs.Private.Held.{held_of}
use Rattle.xfs_claims.proofs.Steady.{cluster_kept}
use Rattle.xfs_claims.proofs.holding.TakenBlocks.keep_cluster.Goals as goal

pub returns-in_ok-insert-clause-held : goal.returns-in_ok-insert-clause-held
returns-in_ok-insert-clause-held g c =
    cluster_kept (held_of c.args.self.now) (held_of (record { blocks = c.add.new.self; clusters = c.insert.new.self; files = c.args.self.now.files })) c.args.block
    (sym c.if-not-meets.ensures.met) c.in_ok-add.ensures.blocks c.in_ok-insert.ensures.keys refl
