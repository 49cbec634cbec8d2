-- Where no memory is left for an order, a failed read is the cause of a failure.
use Rattle.std.proofs.Common.{rules}
use Rattle.xfs_collections.proofs.bank.BlockBank.fill.Goals as goal

pub returns-in-Err-clause-cause : goal.returns-in-Err-clause-cause
returns-in-Err-clause-cause g c = search rules
