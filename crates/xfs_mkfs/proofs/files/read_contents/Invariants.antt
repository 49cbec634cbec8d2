-- The files passed were read, and the library is as it was.
use Rattle.std.proofs.Common.{◌≡◌, ◌≤◌, length}
use Rattle.std.specs.Option.{ForSome}
use Rattle.xfs_mkfs.specs.Sharing.{AreContents}
use Rattle.xfs_mkfs.proofs.Contents.{IsReadUpTo}
use Rattle.xfs_mkfs.proofs.files.read_contents.Given as goal

abbrev pub invariant-loop-k : goal.invariant-loop-k
invariant-loop-k g l = record {
  read : ForSome (g.L.Library.files l.fn.files) (λ map. IsReadUpTo map l.nodes l.k l.contents.items);
  each : ForSome (g.L.Library.files l.fn.files) (λ map. AreContents map l.nodes l.contents.items);
  count : length l.contents.items ≡ l.k;
  files : g.L.Library.files l.files ≡ g.L.Library.files l.fn.files;
  faults : g.L.Library.faults l.fn.files ≤ g.L.Library.faults l.files;
}
