use Rattle.std.proofs.Common.{length}
use Rattle.xfs_format_tests.proofs.dirindex.+assert_ascending.Given as goal

abbrev pub decreases-assert_ascending : goal.decreases-assert_ascending
decreases-assert_ascending g l = length l.offsets.now
