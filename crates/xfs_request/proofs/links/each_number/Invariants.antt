use Rattle.std.proofs.Common.{◌≡◌, ◌++◌, drop}
use Rattle.xfs_naming.specs.Naming.{numbers_of}
use Rattle.xfs_request.proofs.links.each_number.Given as goal

abbrev pub invariant-loop-file : goal.invariant-loop-file
invariant-loop-file l = l.numbers.items ++ numbers_of (drop l.file-index l.files) ≡ numbers_of l.files
