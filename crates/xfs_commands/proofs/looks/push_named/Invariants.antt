use Rattle.std.proofs.Common.{◌≡◌, ◌++◌, take}
use Rattle.xfs_commands.specs.Commands.{lines_named}
use Rattle.xfs_commands.proofs.looks.push_named.Given as goal

abbrev pub invariant-loop-word : goal.invariant-loop-word
invariant-loop-word l = l.text.items ≡ l.fn.text.items ++ lines_named l.kind l.object (take l.word-index l.words)
