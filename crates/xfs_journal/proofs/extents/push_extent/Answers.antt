use Rattle.std.proofs.Common.{◌≡◌, ◌+◌, ◌++◌, ℕ, OnOk, subst}
use Rattle.xfs_image.specs.Lsns.{at}
use Rattle.xfs_tree.specs.Blocks.{each_of}
use Rattle.xfs_journal.specs.Placed.{byte_of, listed}
use Rattle.xfs_journal.proofs.extents.push_extent.Goals as goal

pub push_run-requires-clause-blocks : goal.push_run-requires-clause-blocks
push_run-requires-clause-blocks c = (c.have_sums.ensures c.if-not-have_sums.false).0

pub push_run-requires-clause-file : goal.push_run-requires-clause-file
push_run-requires-clause-file c = (c.have_sums.ensures c.if-not-have_sums.false).1

pub push_run-requires-clause-inside : goal.push_run-requires-clause-inside
push_run-requires-clause-inside c = c.requires.inside

pub returns-then-not-have_sums-clause-listed : goal.returns-then-not-have_sums-clause-listed
returns-then-not-have_sums-clause-listed c = tt

pub returns-then-not-have_sums-clause-inside : goal.returns-then-not-have_sums-clause-inside
returns-then-not-have_sums-clause-inside c = c.requires.inside

pub returns-clause-listed : goal.returns-clause-listed
returns-clause-listed c =
    subst (λ (block : ℕ). OnOk c.push_run.result (listed c.push_run.new.places.items ≡ listed c.args.places.now.items ++ each_of c.args.extent.now.count (λ i. at (byte_of c.args.owner (c.args.extent.now.offset + i)) (block + i))))
    c.start_of-start.ensures c.push_run.ensures.listed

pub returns-clause-inside : goal.returns-clause-inside
returns-clause-inside c = c.push_run.ensures.inside
