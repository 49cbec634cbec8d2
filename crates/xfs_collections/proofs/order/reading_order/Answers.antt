-- A sort names the same indexes.
use Rattle.std.proofs.Common.{length}
use Rattle.xfs_collections.proofs.Scattered.{names_moved}
use Rattle.xfs_collections.proofs.order.reading_order.Goals as goal

pub returns-clause-each : goal.returns-clause-each
returns-clause-each c = names_moved (length c.args.places.now) c.in_ok-order.order.items c.sort_unstable.new.self.items c.sort_unstable.ensures.permutation c.in_ok-order.ensures.each
