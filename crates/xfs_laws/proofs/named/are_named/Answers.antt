use Rattle.xfs_laws.proofs.Tests.{fails_of, last}
use Rattle.xfs_laws.proofs.named.are_named.Goals as goal

pub returns-then-not-ascend : goal.returns-then-not-ascend
returns-then-not-ascend c = fails_of c.ascend.ensures c.if-not-ascend.true (λ w. w.files_ascend)

pub returns-then-not-are_directories : goal.returns-then-not-are_directories
returns-then-not-are_directories c = fails_of c.are_directories.ensures c.if-not-are_directories.true (λ w. w.directories)

pub returns : goal.returns
returns c =
    last c.are_grouped.ensures
    (λ grouped. record {
      files_ascend = c.ascend.ensures.0 c.if-not-ascend.false;
      directories = c.are_directories.ensures.0 c.if-not-are_directories.false;
      grouped = grouped;
    })
    (λ w. w.grouped)
