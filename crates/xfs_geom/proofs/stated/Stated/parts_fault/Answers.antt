-- What is kept once all parts are right.
use Rattle.xfs_geom.proofs.stated.Stated.parts_fault.Goals as goal

pub returns-then-self-lt1024-clause-kept : goal.returns-then-self-lt1024-clause-kept
returns-then-self-lt1024-clause-kept c = tt

pub returns-then-not-is_filled-clause-kept : goal.returns-then-not-is_filled-clause-kept
returns-then-not-is_filled-clause-kept c = tt

pub returns-then-not-has_addresses-clause-kept : goal.returns-then-not-has_addresses-clause-kept
returns-then-not-has_addresses-clause-kept c = tt

pub returns-then-not-has_log_sectors-clause-kept : goal.returns-then-not-has_log_sectors-clause-kept
returns-then-not-has_log_sectors-clause-kept c = tt

pub returns-then-not-has_log-clause-kept : goal.returns-then-not-has_log-clause-kept
returns-then-not-has_log-clause-kept c = tt

pub has_log-requires : goal.has_log-requires
has_log-requires c = (c.has_addresses.ensures.kept c.if-not-has_addresses.false).short

pub returns-clause-kept : goal.returns-clause-kept
returns-clause-kept c = record {
  groups = c.is_filled.ensures.kept c.if-not-is_filled.false;
  addresses = c.has_addresses.ensures.kept c.if-not-has_addresses.false;
  log_at = c.has_log.ensures.kept c.if-not-has_log.false;
  log_sectors = c.has_log_sectors.ensures.kept c.if-not-has_log_sectors.false;
}
